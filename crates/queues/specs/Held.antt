-- What a socket holds, oldest first, with contents
use Rattle.std.specs.Prelude.{◌≡◌, List, ℕ, ◌*◌, ◌<◌, length}
use Rattle.laws.specs.Places.{part}
use Rattle.state.specs.declared.Queued.{Queued}
use Rattle.store.specs.Entries.{Entry, entry_at, entries}
use Rattle.queues.specs.declared.Queues.{Queues}
use Rattle.queues.specs.Moves.{count_at, head_at}

-- sender, destination, interface id and every byte
abbrev pub Datagram : Type 0
Datagram = Entry Queued

unfoldable pub held : Queues → List ℕ → ℕ → List Datagram
held q s k = entries (λ h. h.len) (head_at q k) s (2048 * k) (count_at q k)

-- socket k's oldest datagram
abbrev pub oldest : Queues → List ℕ → ℕ → Datagram
oldest q s k = entry_at (λ h. h.len) (head_at q k 0) s (2048 * k) 0

-- socket k's queue is the same: its count, its heads, and all its bytes
pub record SameQueue (q : Queues) (s : List ℕ) (r : Queues) (t : List ℕ) (k : ℕ) : Type 0 where
  pub count : count_at r k ≡ count_at q k
  pub heads : (i : ℕ) → i < 4 → head_at r k i ≡ head_at q k i
  pub bytes : part t (2048 * k) 2048 ≡ part s (2048 * k) 2048

-- the arrays have their lengths
pub record Sized (q : Queues) : Type 0 where
  pub heads : length q.heads ≡ 64
  pub counts : length q.counts ≡ 16
