-- A line: step number from 1, answer, descriptor given back or "-", length read or emitted or "-"; ASCII
use Rattle.std.specs.Prelude.{◌≡◌, List, [], ◌∷◌, ◌++◌, Option, Some, None, Bool, true, false, ◌&&◌, ◌||◌, cond, ℕ, zero, suc, ◌+◌, ◌/◌, ◌%◌, eqb, ltb, length}
use Rattle.laws.specs.Places.{splice}
use Rattle.answers.specs.declared.Answer.{Answer}

-- xs was put into s from index at, which left t, and r is the index behind it
pub record Wrote (s : List ℕ) (at : ℕ) (xs t : List ℕ) (r : ℕ) : Type 0 where
  pub text : t ≡ splice s at xs
  pub end : r ≡ at + length xs

-- the last k digits of n
abbrev pub digits : ℕ → ℕ → List ℕ
digits zero n = []
digits (suc zero) n = (48 + n) ∷ []
digits (suc (suc k)) n = digits (suc k) (n / 10) ++ ((48 + n % 10) ∷ [])

-- as many as it has, up to five
abbrev pub decimal : ℕ → List ℕ
decimal n = cond (ltb n 10) (digits 1 n) (cond (ltb n 100) (digits 2 n) (cond (ltb n 1000) (digits 3 n) (cond (ltb n 10000) (digits 4 n) (digits 5 n))))

-- a space, then the number or "-"
abbrev pub column : Bool → ℕ → List ℕ
column given n = 32 ∷ cond given (decimal n) (45 ∷ [])

-- the same of a number that is there or not
abbrev pub column_of : Option ℕ → List ℕ
column_of (Some n) = column true n
column_of None = column false 0

-- socket with 0, and 20 or 21, give a descriptor
abbrev pub gives_descriptor : ℕ → Answer → Bool
gives_descriptor k a = (eqb k 1 && eqb a.number 0) || eqb a.number 20 || eqb a.number 21

-- recvfrom with 0 gives the length read, out with 30 the length emitted
abbrev pub gives_length : ℕ → Answer → Bool
gives_length k a = (eqb k 6 && eqb a.number 0) || (eqb k 11 && eqb a.number 30)

abbrev pub line_length : ℕ → Answer → ℕ
line_length k a = cond (eqb k 11) a.item.len a.len

-- the last two columns, and the end of the line
unfoldable pub given : ℕ → Answer → List ℕ
given k a = (column (gives_descriptor k a) a.descriptor.0 ++ column (gives_length k a) (line_length k a)) ++ (10 ∷ [])

-- step n, of kind k, with the answer a
unfoldable pub line : ℕ → ℕ → Answer → List ℕ
line n k a = (decimal n ++ column true a.number) ++ given k a

-- step n, and the words that end a script there
unfoldable pub closing : ℕ → List ℕ → List ℕ
closing n words = decimal n ++ words
