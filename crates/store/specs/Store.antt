-- A store is a list of bytes, divided in slots of 512. What an operation leaves is said by `splice`, of the whole list
use Rattle.std.specs.Prelude.{List, ◌++◌, ℕ, ◌+◌, ◌-◌, ◌*◌, length}
use Rattle.laws.specs.Places.{part, splice, copies, popped}

abbrev pub zeros : ℕ → List ℕ
zeros n = copies 0 n

-- what slot i of the queue from byte base holds
abbrev pub slot : List ℕ → ℕ → ℕ → List ℕ
slot s base i = part s (base + i * 512) 512

-- a payload as a slot holds it: with zeros behind it
abbrev pub slot_of : List ℕ → List ℕ
slot_of payload = payload ++ zeros (512 - length payload)

abbrev pub slot_written : List ℕ → ℕ → List ℕ → List ℕ
slot_written s at payload = splice s at (slot_of payload)

abbrev pub slot_zeroed : List ℕ → ℕ → List ℕ
slot_zeroed s at = splice s at (zeros 512)

-- the count slots from byte base without the first: the others one slot further down, and zeros in the last one's place
abbrev pub slots_popped : List ℕ → ℕ → ℕ → List ℕ
slots_popped s base count = popped 0 s base 512 ((count - 1) * 512)
