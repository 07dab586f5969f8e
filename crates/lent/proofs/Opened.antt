-- Opening over a list: of up to four records it is opening over those, of more it is a refusal whatever they are.
-- Assumes nothing.
use mathlib.Core.Path.{◌≡◌, refl, sym, ap, ◌∙◌}
use mathlib.Core.List.{List, [], ◌∷◌, ◌++◌}
use mathlib.Core.Logic.{◌≢◌, ◌⊎◌, inl, inr}
use mathlib.Core.Bool.{Bool, true, false, not, cond}
use Prim.Native.Nat.{ℕ, ◌<◌, ◌≤◌, ◌-◌, min}
use native.Mathlib.Omega.{arith}
use lib.Dec.{eqb}
use lib.ListN.{length}
use borrow.Author.Tests.{lt-leb, eq-eqb, ne_eqb}
use Rattle.std.proofs.lemmas.Bool.{cases_lt}
use Rattle.laws.specs.Places.{copies}
use Rattle.state.specs.declared.Interface.{Interface}
use Rattle.state.specs.Interfaces.{opening_ok}
use Rattle.state.specs.Places.{no_interface}
use Rattle.answers.specs.Answers.{plain}
use Rattle.host.specs.Answers.{Outcome, gives}
use Rattle.host.specs.Opening.{ended_host, opened}
use Rattle.lent.specs.List.{opened_list}

-- ---- more than four

-- the ended host with no interface, and the store untouched: 2 comes before 17
abbrev refused_for : List ℕ → Outcome
refused_for s = gives ended_host (plain (cond (eqb (length s) 40960) 17 2)) s []

refused : (room : Bool) (o : Outcome) (s : List ℕ)
    → cond (eqb (cond (not room) 2 17) 0) o (gives ended_host (plain (cond (not room) 2 17)) s []) ≡ gives ended_host (plain (cond room 17 2)) s []
refused true o s = refl
refused false o s = refl

over_four : (is : List Interface) (n : ℕ) → 4 < n → opening_ok is n ≡ false
unfolding opening_ok
over_four is n l = simp (lt-leb _ _ l)

over : (is : List Interface) (n : ℕ) (s : List ℕ) → 4 < n → opened is n s ≡ refused_for s
unfolding opened
over is n s l = rw (over_four is n l) (refused (eqb (length s) 40960) _ s)

-- so a count says as much as the number if it is the number, or both are over four
pub count_tells : (is : List Interface) (n k : ℕ) (s : List ℕ) → ((4 < n) × (4 < k)) ⊎ (k ≡ n) → opened is k s ≡ opened is n s
count_tells is n k s (inl p) = over is k s p.1 ∙ sym (over is n s p.0)
count_tells is n k s (inr e) = ap (λ m. opened is m s) e

-- and so does one that stops at 5
pub stopped_tells : (is : List Interface) (n : ℕ) (s : List ℕ) → opened is (min n 5) s ≡ opened is n s
stopped_tells is n s = count_tells is n (min n 5) s (elim (cases_lt 4 n) [ inl l ↦ inl (l, omega arith) | inr l ↦ inr (omega arith) ])

-- a fifth record is never dropped, whatever the records are
pub too_many : (xs : List Interface) (s : List ℕ) → 4 < length xs → length s ≡ 40960 → opened_list xs s ≡ gives ended_host (plain 17) s []
too_many xs s l e = over _ (length xs) s l ∙ simp (eq-eqb _ _ e)

-- a store of another length is told first, of every list
pub room_first : (xs : List Interface) (s : List ℕ) → length s ≢ 40960 → opened_list xs s ≡ gives ended_host (plain 2) s []
unfolding opened
room_first xs s d = simp (ne_eqb _ _ d)

-- ---- up to four: these records, and no interface in the places behind them

pub at_most_four_lem : (xs : List Interface) (s : List ℕ) → length xs ≤ 4 → opened_list xs s ≡ opened (xs ++ copies no_interface (4 - length xs)) (length xs) s
unfolding copies
at_most_four_lem [] s l = refl
at_most_four_lem (a ∷ []) s l = refl
at_most_four_lem (a ∷ b ∷ []) s l = refl
at_most_four_lem (a ∷ b ∷ c ∷ []) s l = refl
at_most_four_lem (a ∷ b ∷ c ∷ d ∷ []) s l = refl
at_most_four_lem (a ∷ b ∷ c ∷ d ∷ e ∷ xs) s l = absurd (omega arith)
