-- Two numbers: below or not, equal or not.
-- Assumes nothing.
use mathlib.Core.Logic.{◌≢◌, ◌⊎◌, inl, inr, ⊎_elim}
use Prim.Native.Nat.{ℕ, ◌<◌, ◌≤◌}
use native.Mathlib.Omega.{arith}
use Rattle.std.proofs.lemmas.Bool.{cases_lt}

pub apart : (l k : ℕ) → l ≢ k → (l < k) ⊎ (k < l)
apart l k d = ⊎_elim (λ w. inl w) (λ w. ⊎_elim (λ x. inr x) (λ x. absurd (d (omega arith))) (cases_lt k l)) (cases_lt l k)

pub below : (n m : ℕ) → n ≤ m → n ≢ m → n < m
below n m l d = ⊎_elim (λ w. w) (λ w. absurd (d (omega arith))) (cases_lt n m)

pub positive : (n : ℕ) → n ≢ 0 → 1 ≤ n
positive n d = ⊎_elim (λ w. absurd (d (omega arith))) (λ w. w) (cases_lt n 1)
