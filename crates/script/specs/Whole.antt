-- A whole script: its header, its steps, and what ends it
use Rattle.std.specs.Prelude.{List, [], ◌∷◌, ◌++◌, Bool, ◌&&◌, not, cond, ℕ, ◌+◌, ◌-◌, ◌/◌, ◌%◌, eqb, ltb, leb, length, get_or}
use Rattle.state.specs.declared.Interface.{Interface}
use Rattle.state.specs.Places.{no_interface}
use Rattle.laws.specs.Places.{splice}
use Rattle.store.specs.Store.{zeros}
use Rattle.host.specs.Opening.{opened}
use Rattle.script.specs.Fields.{word, long}
use Rattle.script.specs.Lines.{closing}
use Rattle.script.specs.Playing.{State, starting, played}

-- the bytes "UDS", version 1 (16 bits), address and mask of interface 1: 13 bytes
abbrev pub headed : List ℕ → Bool
headed input = leb 13 (length input) && eqb (get_or input 0 0) 85 && eqb (get_or input 1 0) 68 && eqb (get_or input 2 0) 83 && eqb (word input 3) 1

abbrev pub interfaces_in : List ℕ → List Interface
interfaces_in input = record { mask = long input 9; first = long input 5; second = 0; third = 0; fourth = 0; id = record { 0 = 1 } } ∷ no_interface ∷ no_interface ∷ no_interface ∷ []

-- the whole steps behind it, at most 60,000
abbrev pub steps_in : ℕ → ℕ
steps_in len = cond (ltb ((len - 13) / 16) 60000) ((len - 13) / 16) 60000

-- "bad header", "bad interface" and " short", each with the end of its line
abbrev pub bad_header : List ℕ
bad_header = 98 ∷ 97 ∷ 100 ∷ 32 ∷ 104 ∷ 101 ∷ 97 ∷ 100 ∷ 101 ∷ 114 ∷ 10 ∷ []

abbrev pub bad_interface : List ℕ
bad_interface = 98 ∷ 97 ∷ 100 ∷ 32 ∷ 105 ∷ 110 ∷ 116 ∷ 101 ∷ 114 ∷ 102 ∷ 97 ∷ 99 ∷ 101 ∷ 10 ∷ []

abbrev pub short_word : List ℕ
short_word = 32 ∷ 115 ∷ 104 ∷ 111 ∷ 114 ∷ 116 ∷ 10 ∷ []

-- a script that no step has ended, before step 60,000, with bytes left over
abbrev pub left_over : ℕ → Bool → Bool
left_over len ended = not ended && ltb (steps_in len) 60000 && not (eqb ((len - 13) % 16) 0)

abbrev pub finished : ℕ → State → List ℕ
finished len q = q.text ++ cond (left_over len q.ended) (closing (steps_in len + 1) short_word) []

-- all that a script prints, where s is the lent store and b the lent buffer
unfoldable pub output_from : List ℕ → List ℕ → List ℕ → List ℕ
output_from input s b =
    cond (headed input)
    (cond (eqb (opened (interfaces_in input) 1 s).answer.number 0)
    (finished (length input) (played input (starting (opened (interfaces_in input) 1 s).host (opened (interfaces_in input) 1 s).bytes b) (steps_in (length input)))) bad_interface)
    bad_header

-- a store of 40,960 bytes and a buffer of 512, all zero
abbrev pub output : List ℕ → List ℕ
output input = output_from input (zeros 40960) (zeros 512)

-- ---- in memory: where the text ends, and the slice that it was put into

pub record Ran : Type 0 where
  pub end : ℕ
  pub text : List ℕ

abbrev pub ran : ℕ → List ℕ → Ran
ran r t = record { end = r; text = t }

-- too short for the longest output: the length needed, and nothing written
unfoldable pub running : List ℕ → List ℕ → Ran
running input out = cond (ltb (length out) 1440032) (ran 1440032 out) (ran (length (output input)) (splice out 0 (output input)))
