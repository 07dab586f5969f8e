-- The check of the queues decides its plain statement.
-- Assumes nothing.
use mathlib.Core.Path.{◌≡◌, ap}
use mathlib.Core.List.{List}
use mathlib.Core.Bool.{Bool}
use Prim.Native.Nat.{ℕ, ◌<◌, ◌≤◌}
use native.Mathlib.Omega.{arith}
use Rattle.laws.specs.Decides.{Decides}
use Rattle.laws.proofs.Decide.{d_eq, d_le, d_lt, f_lt, f_yes, d_to, d_and, d_unless, d_cond, d_all}
use Rattle.state.specs.declared.Queued.{Queued}
use Rattle.state.specs.declared.Socket.{Socket}
use Rattle.state.specs.Places.{no_head, socket_in}
use Rattle.queues.specs.declared.Queues.{Queues}
use Rattle.queues.specs.Moves.{count_at, head_at}
use Rattle.queues.specs.Fits.{empty_head, head_fits, queue_ok, queues_ok, QueueFit}

empty_is : (h : Queued) → Decides (empty_head h) (h ≡ no_head)
empty_is h =
    d_to
    (d_and (d_and (d_and (d_and (d_and (d_eq h.flow.src 0) (d_eq h.flow.dst 0)) (d_eq h.flow.sport.0 0)) (d_eq h.flow.dport.0 0)) (d_eq h.len 0)) (d_eq h.iface.0 0))
    (λ p. join _ _ _ _ _ _ p.0.0.0.0.0 p.0.0.0.0.1 p.0.0.0.1 p.0.0.1 p.0.1 p.1)
    (λ e. (((((ap (λ (x : Queued). x.flow.src) e, ap (λ (x : Queued). x.flow.dst) e), ap (λ (x : Queued). x.flow.sport.0) e), ap (λ (x : Queued). x.flow.dport.0) e), ap (λ (x : Queued). x.len) e), ap (λ (x : Queued). x.iface.0) e))
  where
    join : (src dst sport dport len iface : ℕ) → src ≡ 0 → dst ≡ 0 → sport ≡ 0 → dport ≡ 0 → len ≡ 0 → iface ≡ 0
        → ◌≡◌ {A = Queued} (record { flow = record { src = src; dst = dst; sport = record { 0 = sport }; dport = record { 0 = dport } }; len = len; iface = record { 0 = iface } }) no_head
    join a b c d e f ea eb ec ed ee ef = rw (ea, eb, ec, ed, ee, ef)

-- the place i of a queue that holds n
Place : ℕ → ℕ → Queued → Type 0
Place n i h = (i < n → h.len ≤ 512) × (n ≤ i → h ≡ no_head)

place_is : (n i : ℕ) (h : Queued) → Decides (head_fits n i h) (Place n i h)
unfolding Place
place_is n i h = d_cond (d_lt i n) (f_lt i n) (d_le h.len 512) (empty_is h)

pub queue_is : (live : Bool) (q : Queues) (k : ℕ) → Decides (queue_ok live q k) (QueueFit live q k)
unfolding Place
queue_is live q k =
    let n = count_at q k in
    d_to (d_and (d_and (d_le n 4) (d_unless (f_yes live) (d_eq n 0))) (d_all (λ i l. place_is n i (head_at q k i))))
    (λ p. record { few = p.0.0; closed = p.0.1; small = λ i l. (p.1 i (omega (arith, p.0.0))).0 l; unused = λ i l m. (p.1 i m).1 l })
    (λ w. ((w.few, w.closed), λ i m. (w.small i, λ l. w.unused i l m)))

pub queues_are : (ks : List Socket) (q : Queues) → Decides (queues_ok ks q) ((k : ℕ) → k < 16 → QueueFit (socket_in ks k).live q k)
unfolding queues_ok
queues_are ks q = d_all (λ k l. queue_is (socket_in ks k).live q k)
