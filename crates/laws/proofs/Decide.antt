-- How tests decide plain statements: a law for each connective, so that a test is decided by a term of the test's own shape.
-- Assumes nothing.
use mathlib.Core.Path.{◌≡◌, refl, ap}
use mathlib.Core.Logic.{◌≢◌, ◌⊎◌, inl, inr, ⊎_elim}
use mathlib.Core.Bool.{Bool, true, false, ◌&&◌, ◌||◌, not, cond}
use Prim.Native.Nat.{ℕ, ◌<◌, ◌≤◌}
use lib.Dec.{eqb, leb, ltb}
use borrow.Author.Tests.{eqb-true, eqb-false, leb-true, ltb-true, ltb-false, eq-eqb, ne_eqb, le-leb, lt-ltb, le-ltb, not-true, not-false}
use Rattle.std.proofs.lemmas.Bool.{and_from, cases_Bool, or_cases, or_left, or_right}
use Rattle.laws.specs.Below.{all_below}
use Rattle.laws.specs.Decides.{Decides, Fails}
use Rattle.laws.proofs.Tests.{not_both, and_left, and_right}
use Rattle.laws.proofs.Below.{all_at, all_from}

-- ---- tests of numbers

pub d_eq : (m n : ℕ) → Decides (eqb m n) (m ≡ n)
d_eq m n = record { says = eqb-true m n; back = eq-eqb m n }

pub f_eq : (m n : ℕ) → Fails (eqb m n) (m ≢ n)
f_eq m n = record { says = eqb-false m n; back = ne_eqb m n }

pub d_le : (m n : ℕ) → Decides (leb m n) (m ≤ n)
d_le m n = record { says = leb-true m n; back = le-leb m n }

pub d_lt : (m n : ℕ) → Decides (ltb m n) (m < n)
d_lt m n = record { says = ltb-true m n; back = lt-ltb m n }

pub f_lt : (m n : ℕ) → Fails (ltb m n) (n ≤ m)
f_lt m n = record { says = ltb-false m n; back = le-ltb m n }

-- a test that is its own statement
pub d_yes : (b : Bool) → Decides b (b ≡ true)
d_yes b = record { says = λ e. e; back = λ e. e }

pub f_yes : (b : Bool) → Fails b (b ≡ false)
f_yes b = record { says = λ e. e; back = λ e. e }

-- ---- tests of tests

pub d_to : {b : Bool} {P Q : Type 0} → Decides b P → (P → Q) → (Q → P) → Decides b Q
d_to d f g = record { says = λ e. f (d.says e); back = λ q. d.back (g q) }

pub f_to : {b : Bool} {P Q : Type 0} → Fails b P → (P → Q) → (Q → P) → Fails b Q
f_to d f g = record { says = λ e. f (d.says e); back = λ q. d.back (g q) }

pub d_not : {a : Bool} {N : Type 0} → Fails a N → Decides (not a) N
d_not {a} c = record { says = λ e. c.says (not-true a e); back = λ n. ap not (c.back n) }

pub f_not : {a : Bool} {P : Type 0} → Decides a P → Fails (not a) P
f_not {a} c = record { says = λ e. c.says (not-false a e); back = λ n. ap not (c.back n) }

-- a test fails where its statement does not hold
pub f_absurd : {a : Bool} {P : Type 0} → Decides a P → Fails a (P → ⊥)
f_absurd {a} {P} d = record { says = λ e p. not_both (d.back p) e; back = λ n. ⊎_elim (λ e. absurd (n (d.says e))) (λ e. e) (cases_Bool a) }

pub d_and : {a b : Bool} {P Q : Type 0} → Decides a P → Decides b Q → Decides (a && b) (P × Q)
d_and {a} {b} c d = record { says = λ e. (c.says (and_left a b e), d.says (and_right a b e)); back = λ p. and_from a b (c.back p.0) (d.back p.1) }

-- where a holds, b decides Q
pub d_then : {a b : Bool} {P Q : Type 0} → Decides a P → (P → Decides b Q) → Decides (a && b) (P × Q)
d_then {a} {b} c d =
    record {
      says = λ e. let p = c.says (and_left a b e) in (p, (d p).says (and_right a b e));
      back = λ p. and_from a b (c.back p.0) ((d p.0).back p.1);
    }

pub d_or : {a b : Bool} {P Q : Type 0} → Decides a P → Decides b Q → Decides (a || b) (P ⊎ Q)
d_or {a} {b} c d =
    record {
      says = λ e. ⊎_elim (λ x. inl (c.says x)) (λ x. inr (d.says x)) (or_cases a b e);
      back = λ p. ⊎_elim (λ x. or_left a b (c.back x)) (λ x. or_right a b (d.back x)) p;
    }

-- where a fails, b holds
pub d_unless : {a b : Bool} {N Q : Type 0} → Fails a N → Decides b Q → Decides (a || b) (N → Q)
d_unless {a} {b} c d =
    record {
      says = λ e n. ⊎_elim (λ x. not_both x (c.back n)) (λ x. d.says x) (or_cases a b e);
      back = λ f. ⊎_elim (λ x. or_left a b x) (λ x. or_right a b (d.back (f (c.says x)))) (cases_Bool a);
    }

pub d_cond : {c a b : Bool} {C N P Q : Type 0} → Decides c C → Fails c N → Decides a P → Decides b Q → Decides (cond c a b) ((C → P) × (N → Q))
d_cond {c} {a} {b} {C} {N} {P} {Q} y n d e = go c y n
  where
    go : (c : Bool) → Decides c C → Fails c N → Decides (cond c a b) ((C → P) × (N → Q))
    go true y n = record { says = λ t. (λ x. d.says t, λ x. not_both refl (n.back x)); back = λ p. d.back (p.0 (y.says refl)) }
    go false y n = record { says = λ t. (λ x. not_both (y.back x) refl, λ x. e.says t); back = λ p. e.back (p.1 (n.says refl)) }

-- for every number below n
pub d_all : {f : ℕ → Bool} {n : ℕ} {P : ℕ → Type 0} → ((i : ℕ) → i < n → Decides (f i) (P i)) → Decides (all_below f n) ((i : ℕ) → i < n → P i)
d_all {f} {n} d = record { says = λ e i l. (d i l).says (all_at f n e i l); back = λ p. all_from f n (λ i l. (d i l).back (p i l)) }
