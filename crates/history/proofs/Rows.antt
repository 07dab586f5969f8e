-- What holds of every number of a table holds of the number that it gives.
-- Assumes nothing.
use mathlib.Core.Path.{◌≡◌}
use mathlib.Core.List.{List, [], ◌∷◌}
use mathlib.Core.Bool.{Bool, true, ◌&&◌}
use Prim.Native.Nat.{ℕ}
use Rattle.std.proofs.lemmas.Bool.{cond_both}
use Rattle.laws.proofs.Tests.{and_left, and_right}
use Rattle.answers.specs.Tables.{first_or}

abbrev pub all_rows : (ℕ → Bool) → List (Bool × ℕ) → Bool
all_rows p [] = true
all_rows p (r ∷ rs) = p r.1 && all_rows p rs

pub rows_all : (p : ℕ → Bool) (rs : List (Bool × ℕ)) (m : ℕ) → p m ≡ true → all_rows p rs ≡ true → p (first_or rs m) ≡ true
rows_all p [] m e t = e
rows_all p (r ∷ rs) m e t =
    cond_both r.0 r.1 (first_or rs m) (λ x. p x ≡ true) (λ c. and_left (p r.1) _ t) (λ c. rows_all p rs m e (and_right (p r.1) _ t))
