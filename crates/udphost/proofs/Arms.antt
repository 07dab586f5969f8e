-- The kind of a request chooses its step.
-- Assumes nothing.
use mathlib.Core.Path.{◌≡◌, sym, ap, ◌∙◌}
use mathlib.Core.List.{List, []}
use mathlib.Core.Logic.{◌≢◌}
use Prim.Native.Nat.{ℕ}
use lib.ListN.{length}
use borrow.Author.Tests.{ne_eqb}
use Rattle.host.specs.Answers.{Outcome, outcome}
use Rattle.history.specs.Steps.{World}
use Rattle.udphost.specs.declared.Request.{Request}
use Rattle.udphost.specs.Requests.{none_of, asked_of, making_of, keeping}

-- the kind is n
pub ask_arm : (n : ℕ) (w : World) (q : Request) {x : Outcome} → q.kind ≡ n → x ≡ asked_of n w q → x ≡ asked_of q.kind w q
ask_arm n w q e p = p ∙ sym (ap (λ (k : ℕ). asked_of k w q) e)

pub make_arm : (n : ℕ) (w : World) (q : Request) (p b : List ℕ) {x : Outcome} → q.kind ≡ n → x ≡ making_of n w q p b → x ≡ making_of q.kind w q p b
make_arm n w q p b e y = y ∙ sym (ap (λ (k : ℕ). making_of k w q p b) e)

-- it is none of those that are lent bytes to change
pub make_rest : (k : ℕ) (w : World) (q : Request) (p b : List ℕ) {x : Outcome} → k ≢ 5 → k ≢ 6 → k ≢ 7 → k ≢ 9 → k ≢ 11 → k ≢ 12 → k ≢ 17 → x ≡ keeping (asked_of k w q) b → x ≡ making_of k w q p b
unfolding making_of
make_rest k w q p b n5 n6 n7 n9 n11 n12 n17 e = simp (ne_eqb k 5 n5, ne_eqb k 6 n6, ne_eqb k 7 n7, ne_eqb k 9 n9, ne_eqb k 11 n11, ne_eqb k 12 n12, ne_eqb k 17 n17) e

-- it is none at all
pub ask_rest : (k : ℕ) (w : World) (q : Request) {x : Outcome} → k ≢ 1 → k ≢ 2 → k ≢ 3 → k ≢ 4 → k ≢ 8 → k ≢ 10 → k ≢ 13 → k ≢ 14 → k ≢ 15 → k ≢ 16 → k ≢ 18 → k ≢ 19 → x ≡ outcome (none_of w.host (length w.bytes)) w.bytes [] → x ≡ asked_of k w q
unfolding asked_of
ask_rest k w q n1 n2 n3 n4 n8 n10 n13 n14 n15 n16 n18 n19 e = simp (ne_eqb k 1 n1, ne_eqb k 2 n2, ne_eqb k 3 n3, ne_eqb k 4 n4, ne_eqb k 8 n8, ne_eqb k 10 n10, ne_eqb k 13 n13, ne_eqb k 14 n14, ne_eqb k 15 n15, ne_eqb k 16 n16, ne_eqb k 18 n18, ne_eqb k 19 n19) e
