-- What a push, a taking and a clearing leave of the queues and the store
use Rattle.std.specs.Prelude.{ℕ, ◌+◌, ◌-◌, ◌*◌, ◌<◌, ◌≤◌, ◌≡◌, List, [], Bool, false, cond, length, get_or, set, Option, unwrap_or, option_copied}
use denote.Ref.{Bor}
use Rattle.laws.specs.Places.{part, splice, copies, popped}
use Rattle.net.specs.declared.Flow.{Flow}
use Rattle.net.specs.declared.InterfaceId.{InterfaceId}
use Rattle.state.specs.declared.Queued.{Queued}
use Rattle.state.specs.Places.{no_head, head_in}
use Rattle.store.specs.Store.{zeros, slot_written, slots_popped}
use Rattle.queues.specs.declared.Queues.{Queues}

-- how many socket k holds
abbrev pub count_at : Queues → ℕ → ℕ
count_at q k = get_or q.counts k 0

-- the head of the i-th oldest of socket k
abbrev pub head_at : Queues → ℕ → ℕ → Queued
head_at q k i = head_in q.heads (4 * k + i)

-- the head of its oldest
abbrev pub first_head : Queues → ℕ → Queued
first_head q k = head_in q.heads (4 * k)

abbrev pub head_of : Flow → InterfaceId → ℕ → Queued
head_of f i len = record { flow = f; len = len; iface = i }

-- nobody holds anything
unfoldable pub no_queues : Queues
no_queues = record { heads = copies no_head 64; counts = copies 0 16 }

-- ---- heads and counts

-- the head h behind those of socket k
unfoldable pub with_head : Queues → ℕ → Queued → Queues
with_head q k h = record { heads = set q.heads (4 * k + count_at q k) h; counts = set q.counts k (count_at q k + 1) }

-- socket k's heads without the first: the others one place further down
unfoldable pub without_first : Queues → ℕ → Queues
without_first q k = record { heads = popped no_head q.heads (4 * k) 1 3; counts = set q.counts k (count_at q k - 1) }

-- socket k holds nothing
unfoldable pub without_any : Queues → ℕ → Queues
without_any q k = record { heads = splice q.heads (4 * k) (copies no_head 4); counts = set q.counts k 0 }

-- ---- with the store, and the lent buffer ([] where none is lent)

pub record Left : Type 0 where
  pub queues : Queues
  pub bytes : List ℕ
  pub lent : List ℕ

abbrev pub left : Queues → List ℕ → List ℕ → Left
left q s b = record { queues = q; bytes = s; lent = b }

-- what is lent, if anything
abbrev pub lent_bytes : Option (Bor (List ℕ)) → List ℕ
lent_bytes p = unwrap_or (option_copied p) []

-- the bytes of a datagram: the lent payload or, from inside, the first len bytes of the out-queue's oldest slot
abbrev pub carried : List ℕ → List ℕ → ℕ → Bool → List ℕ
carried s p len inside = cond inside (part s 32768 len) p

-- they fit a slot
pub record Carriable (p : List ℕ) (len : ℕ) (inside : Bool) : Type 0 where
  pub small : len ≤ 512
  pub lent : inside ≡ false → length p ≤ 512

-- the payload p with the head h, behind those of socket k
abbrev pub pushed : Queues → List ℕ → ℕ → Queued → List ℕ → Left
pushed q s k h p = left (with_head q k h) (slot_written s (2048 * k + 512 * count_at q k) p) []

-- socket k's oldest goes into the buffer, the rest of which stays
abbrev pub taken : Queues → List ℕ → ℕ → List ℕ → Left
taken q s k b = left (without_first q k) (slots_popped s (2048 * k) (count_at q k)) (splice b 0 (part s (2048 * k) (first_head q k).len))

abbrev pub cleared : Queues → List ℕ → ℕ → Left
cleared q s k = left (without_any q k) (splice s (2048 * k) (zeros 2048)) []

abbrev pub emptied : List ℕ → Left
emptied s = left no_queues (splice s 0 (zeros 32768)) []

-- ---- what the moves ask for

-- socket k can hold one more
pub record Room (q : Queues) (s : List ℕ) (k : ℕ) : Type 0 where
  pub small : k < 16
  pub few : count_at q k < 4
  pub store : length s ≡ 40960

-- socket k holds one
pub record Some (q : Queues) (s : List ℕ) (k : ℕ) : Type 0 where
  pub small : k < 16
  pub some : 1 ≤ count_at q k
  pub few : count_at q k ≤ 4
  pub store : length s ≡ 40960
