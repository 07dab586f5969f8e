-- The moves as they are computed.
-- Assumes nothing.
use mathlib.Core.Path.{◌≡◌, refl, sym, ap, ◌∙◌}
use mathlib.Core.List.{List, [], ◌∷◌, ◌++◌}
use Prim.Native.Nat.{ℕ, ◌+◌, ◌-◌, ◌*◌, ◌≤◌}
use native.Mathlib.Omega.{arith}
use lib.ListN.{length, set}
use Rattle.laws.specs.Places.{splice, copies, popped}
use Rattle.laws.proofs.Splice.{stored_four, part_three}
use Rattle.state.specs.declared.Queued.{Queued}
use Rattle.state.specs.Places.{no_head, head_in}
use Rattle.store.specs.Store.{zeros}
use Rattle.queues.specs.declared.Queues.{Queues}
use Rattle.queues.specs.Moves.{count_at, without_first, without_any, left, cleared}

heads_popped : (hs : List Queued) (k : ℕ) (z : Queued) → 4 * k + 4 ≤ length hs → z ≡ no_head
    → set (set (set (set hs (4 * k) (head_in hs (4 * k + 1))) (4 * k + 1) (head_in hs (4 * k + 2))) (4 * k + 2) (head_in hs (4 * k + 3))) (4 * k + 3) z ≡ popped no_head hs (4 * k) 1 3
unfolding copies
heads_popped hs k z h e =
    stored_four hs (4 * k) (4 * k + 1) (4 * k + 2) (4 * k + 3) _ _ _ z refl refl refl h
    ∙ ap (λ (y : Queued). splice hs (4 * k) (head_in hs (4 * k + 1) ∷ head_in hs (4 * k + 2) ∷ head_in hs (4 * k + 3) ∷ y ∷ [])) e
    ∙ ap (λ (xs : List Queued). splice hs (4 * k) (xs ++ (no_head ∷ []))) (sym (part_three no_head hs (4 * k + 1) (4 * k + 2) (4 * k + 3) (omega arith) (omega arith) (omega arith)))

heads_cleared : (hs : List Queued) (k : ℕ) (z : Queued) → 4 * k + 4 ≤ length hs → z ≡ no_head
    → set (set (set (set hs (4 * k) z) (4 * k + 1) z) (4 * k + 2) z) (4 * k + 3) z ≡ splice hs (4 * k) (copies no_head 4)
unfolding copies
heads_cleared hs k z h e =
    stored_four hs (4 * k) (4 * k + 1) (4 * k + 2) (4 * k + 3) z z z z refl refl refl h
    ∙ ap (λ (y : Queued). splice hs (4 * k) (y ∷ y ∷ y ∷ y ∷ [])) e

-- ---- with the counts

pub first_removed : (q : Queues) (k : ℕ) (z : Queued) → 4 * k + 4 ≤ length q.heads → z ≡ no_head
    → ◌≡◌ {A = Queues}
    (record {
      heads = set (set (set (set q.heads (4 * k) (head_in q.heads (4 * k + 1))) (4 * k + 1) (head_in q.heads (4 * k + 2))) (4 * k + 2) (head_in q.heads (4 * k + 3))) (4 * k + 3) z;
      counts = set q.counts k (count_at q k - 1);
    }) (without_first q k)
unfolding without_first
first_removed q k z h e = ap (λ (hs : List Queued). record { heads = hs; counts = set q.counts k (count_at q k - 1) }) (heads_popped q.heads k z h e)

pub all_removed : (q : Queues) (k : ℕ) (z : Queued) (s : List ℕ) {t : List ℕ} → 4 * k + 4 ≤ length q.heads → z ≡ no_head → t ≡ splice s (2048 * k) (zeros 2048)
    → left (record { heads = set (set (set (set q.heads (4 * k) z) (4 * k + 1) z) (4 * k + 2) z) (4 * k + 3) z; counts = set q.counts k 0 }) t [] ≡ cleared q s k
unfolding without_any
all_removed q k z s {t} h e d =
    ap (λ (hs : List Queued). left (record { heads = hs; counts = set q.counts k 0 }) t []) (heads_cleared q.heads k z h e)
    ∙ ap (λ (u : List ℕ). left (without_any q k) u []) d
