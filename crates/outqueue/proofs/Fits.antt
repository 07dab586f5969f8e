-- The check of the out-queue decides its plain statement.
-- Assumes nothing.
use mathlib.Core.Path.{◌≡◌, ap}
use mathlib.Core.List.{List}
use Prim.Native.Nat.{ℕ}
use native.Mathlib.Omega.{arith}
use Rattle.laws.specs.Decides.{Decides}
use Rattle.laws.proofs.Decide.{d_eq, f_eq, d_le, d_lt, f_lt, d_yes, d_to, d_and, d_unless, d_cond, d_all}
use Rattle.state.specs.declared.Interface.{Interface}
use Rattle.state.specs.declared.OutItem.{OutItem}
use Rattle.state.specs.Places.{no_item}
use Rattle.state.specs.Interfaces.{ours}
use Rattle.outqueue.specs.declared.OutQueue.{OutQueue}
use Rattle.outqueue.specs.Moves.{source_of, item_at}
use Rattle.outqueue.specs.Fits.{empty_item, item_ok, out_ok, ItemFit, OutFit}

empty_is : (x : OutItem) → Decides (empty_item x) (x ≡ no_item)
empty_is x =
    d_to
    (d_and (d_and (d_and (d_and (d_and (d_eq x.flow.src 0) (d_eq x.flow.dst 0)) (d_eq x.flow.sport.0 0)) (d_eq x.flow.dport.0 0)) (d_eq x.len 0)) (d_eq x.kind 0))
    (λ p. join _ _ _ _ _ _ p.0.0.0.0.0 p.0.0.0.0.1 p.0.0.0.1 p.0.0.1 p.0.1 p.1)
    (λ e. (((((ap (λ (y : OutItem). y.flow.src) e, ap (λ (y : OutItem). y.flow.dst) e), ap (λ (y : OutItem). y.flow.sport.0) e), ap (λ (y : OutItem). y.flow.dport.0) e), ap (λ (y : OutItem). y.len) e), ap (λ (y : OutItem). y.kind) e))
  where
    join : (src dst sport dport len kind : ℕ) → src ≡ 0 → dst ≡ 0 → sport ≡ 0 → dport ≡ 0 → len ≡ 0 → kind ≡ 0
        → ◌≡◌ {A = OutItem} (record { flow = record { src = src; dst = dst; sport = record { 0 = sport }; dport = record { 0 = dport } }; len = len; kind = kind }) no_item
    join a b c d e f ea eb ec ed ee ef = rw (ea, eb, ec, ed, ee, ef)

item_is : (is : List Interface) (x : OutItem) → Decides (item_ok is x) (ItemFit is x)
item_is is x =
    d_to (d_and (d_and (d_and (d_le x.kind 2) (d_le x.len 512)) (d_unless (f_eq x.kind 0) (d_eq x.len 0))) (d_yes (ours is (source_of x))))
    (λ p. record { kind = p.0.0.0; small = p.0.0.1; bare = p.0.1; source = p.1 })
    (λ w. (((w.kind, w.small), w.bare), w.source))

pub out_is : (is : List Interface) (o : OutQueue) → Decides (out_ok is o) (OutFit is o)
unfolding out_ok
out_is is o =
    d_to (d_and (d_le o.count 16) (d_all (λ i l. d_cond (d_lt i o.count) (f_lt i o.count) (item_is is (item_at o i)) (empty_is (item_at o i)))))
    (λ p. record { few = p.0; items = λ i l. (p.1 i (omega (arith, p.0))).0 l; unused = λ i l m. (p.1 i m).1 l })
    (λ w. (w.few, λ i m. (w.items i, λ l. w.unused i l m)))
