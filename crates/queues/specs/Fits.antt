-- What well-formedness asks of the queues: document 01, "A record is well formed when"
use Rattle.std.specs.Prelude.{ℕ, ◌<◌, ◌≤◌, ◌≡◌, List, Bool, false, ◌&&◌, ◌||◌, cond, ltb, leb, eqb}
use Rattle.laws.specs.Below.{all_below}
use Rattle.state.specs.declared.Queued.{Queued}
use Rattle.state.specs.declared.Socket.{Socket}
use Rattle.state.specs.Places.{no_head, socket_in}
use Rattle.queues.specs.declared.Queues.{Queues}
use Rattle.queues.specs.Moves.{count_at, head_at}

abbrev pub empty_head : Queued → Bool
empty_head h =
    eqb h.flow.src 0
    && eqb h.flow.dst 0
    && eqb h.flow.sport.0 0
    && eqb h.flow.dport.0 0
    && eqb h.len 0
    && eqb h.iface.0 0

-- the place i of a queue that holds n: no payload over 512, everything unused zero
abbrev pub head_fits : ℕ → ℕ → Queued → Bool
head_fits n i h = cond (ltb i n) (leb h.len 512) (empty_head h)

-- socket k's queue: the count within its limit, nothing held by a closed socket, and every place as it must be
abbrev pub queue_ok : Bool → Queues → ℕ → Bool
queue_ok live q k = leb (count_at q k) 4 && (live || eqb (count_at q k) 0) && all_below (λ i. head_fits (count_at q k) i (head_at q k i)) 4

unfoldable pub queues_ok : List Socket → Queues → Bool
queues_ok ks q = all_below (λ k. queue_ok (socket_in ks k).live q k) 16

-- ---- the same in plain statements, of socket k's queue

pub record QueueFit (live : Bool) (q : Queues) (k : ℕ) : Type 0 where
  pub few : count_at q k ≤ 4
  pub closed : live ≡ false → count_at q k ≡ 0
  pub small : (i : ℕ) → i < count_at q k → (head_at q k i).len ≤ 512
  pub unused : (i : ℕ) → count_at q k ≤ i → i < 4 → head_at q k i ≡ no_head
