-- A step that refuses answers its number and changes nothing; one whose table is passed does what follows.
-- Assumes nothing.
use mathlib.Core.Path.{◌≡◌, sym, ap, ◌∙◌}
use mathlib.Core.List.{List}
use mathlib.Core.Logic.{◌≢◌}
use Prim.Native.Nat.{ℕ}
use borrow.Author.Tests.{eq-eqb, ne_eqb}
use Rattle.answers.specs.Answers.{plain}
use Rattle.answers.proofs.Refusals.{number_positive}
use Rattle.host.specs.declared.Host.{Host}
use Rattle.answers.specs.declared.Answer.{Answer}
use Rattle.host.specs.Answers.{Outcome, gives, unless}

pub refuses : (h : Host) (s b : List ℕ) (o : Outcome) {n m : ℕ} {a : Answer} → m ≡ n → m ≢ 0 → a ≡ plain m → gives h a s b ≡ unless n h s b o
unfolding unless
refuses h s b o {n} {m} e d q = let z : n ≢ 0 = λ x. d (e ∙ x) in simp (ne_eqb n 0 z) (ap (λ (x : Answer). gives h x s b) (q ∙ ap plain e))

pub passes : (h : Host) (s b : List ℕ) (o : Outcome) {n m : ℕ} {x : Outcome} → m ≡ n → m ≡ 0 → x ≡ o → x ≡ unless n h s b o
unfolding unless
passes h s b o {n} {m} e z q = let w : n ≡ 0 = sym e ∙ z in simp (eq-eqb n 0 w) q

-- the same, of an outcome as the code comes to it
pub refused_is : (n : ℕ) (h : Host) (s b : List ℕ) (o : Outcome) → n ≢ 0 → unless n h s b o ≡ gives h (plain n) s b
unfolding unless
refused_is n h s b o d = simp (ne_eqb n 0 d)

pub passed_is : (n : ℕ) (h : Host) (s b : List ℕ) (o : Outcome) → n ≡ 0 → unless n h s b o ≡ o
unfolding unless
passed_is n h s b o z = simp (eq-eqb n 0 z)

-- what a step does with its check's result
pub ruleset checked = (refused_is, passed_is, number_positive)
