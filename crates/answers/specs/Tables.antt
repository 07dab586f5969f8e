-- Tables of refusals: document 01, "then as listed per call"
use Rattle.std.specs.Prelude.{ℕ, List, [], ◌∷◌, Bool, ◌||◌, not, cond, eqb}

-- the number of the first row whose test holds; m where none does
abbrev pub first_or : List (Bool × ℕ) → ℕ → ℕ
first_or [] m = m
first_or (r ∷ rs) m = cond r.0 r.1 (first_or rs m)

-- 0 where none does
abbrev pub first : List (Bool × ℕ) → ℕ
first rs = first_or rs 0

abbrev pub unknown_option : ℕ → Bool
unknown_option o = not (eqb o 1 || eqb o 2)
