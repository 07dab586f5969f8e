-- A kind that is known makes its call, any other makes none.
-- Assumes nothing.
use mathlib.Core.Path.{◌≡◌, sym, ap, ◌∙◌}
use mathlib.Core.List.{List}
use mathlib.Core.Logic.{◌≢◌}
use mathlib.Core.Bool.{false}
use Prim.Native.Nat.{ℕ}
use native.Mathlib.Omega.{arith}
use Rattle.std.proofs.lemmas.Bool.Decides.{nat_tests}
use Rattle.host.specs.declared.Host.{Host}
use Rattle.answers.specs.Answers.{plain}
use Rattle.script.specs.declared.Fields.{Fields}
use Rattle.script.specs.Steps.{known, Making, making_of, making}

-- the kind is n
pub arm : (n : ℕ) (h : Host) (s : List ℕ) (f : Fields) (p b : List ℕ) {x : Making} → f.kind ≡ n → x ≡ making_of n h s f p b → x ≡ making h s f p b
arm n h s f p b e q = q ∙ sym (ap (λ (k : ℕ). making_of k h s f p b) e)

pub unknown : (k : ℕ) → k ≢ 1 → k ≢ 2 → k ≢ 3 → k ≢ 4 → k ≢ 5 → k ≢ 6 → k ≢ 7 → k ≢ 8 → k ≢ 9 → k ≢ 10 → k ≢ 11 → k ≢ 12 → known k ≡ false
unknown k a b c d e f g h i j l m = grind (arith, nat_tests)

pub no_arm : (h : Host) (s : List ℕ) (f : Fields) (p b : List ℕ) {x : Making} → known f.kind ≡ false → x ≡ record { host = h; answer = plain 0; known = false; bytes = s; lent = b } → x ≡ making h s f p b
unfolding making_of
no_arm h s f p b e q = simp e q
