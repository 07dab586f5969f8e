-- Places of a list: a part of it, and the list with other elements in some places
use Rattle.std.specs.Prelude.{List, ◌++◌, ℕ, ◌+◌, length, take, drop, replicate}

-- the n elements of s from index at
unfoldable pub part : {A : Type 0} → List A → ℕ → ℕ → List A
part s at n = take n (drop at s)

-- s, with xs in the place of what stood there from index at
unfoldable pub splice : {A : Type 0} → List A → ℕ → List A → List A
splice s at xs = take at s ++ xs ++ drop (at + length xs) s

-- z, n times
unfoldable pub copies : {A : Type 0} → A → ℕ → List A
copies z n = replicate n z

-- s without its w elements at index at: the next `rest` elements w places further down, and z in the w places behind them
abbrev pub popped : {A : Type 0} → A → List A → ℕ → ℕ → ℕ → List A
popped z s at w rest = splice s at (part s (at + w) rest ++ copies z w)
