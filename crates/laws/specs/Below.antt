-- "For every", "the list of" and "the lowest", by recursion on a number
use Rattle.std.specs.Prelude.{ℕ, zero, suc, ◌+◌, List, [], ◌∷◌, ◌++◌, Bool, true, ◌&&◌, cond}

-- f holds of every number below n
unfoldable pub all_below : (ℕ → Bool) → ℕ → Bool
all_below f zero = true
all_below f (suc n) = all_below f n && f n

-- f 0, f 1, .., f (n - 1)
unfoldable pub list_below : {A : Type 0} → (ℕ → A) → ℕ → List A
list_below f zero = []
list_below f (suc n) = list_below f n ++ (f n ∷ [])

-- the lowest of the n numbers from `start` on of which f holds; start + n where it holds of none
unfoldable pub lowest : (ℕ → Bool) → ℕ → ℕ → ℕ
lowest f zero start = start
lowest f (suc n) start = cond (f start) start (lowest f n (start + 1))
