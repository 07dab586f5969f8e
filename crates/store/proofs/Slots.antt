-- What a caller learns of the store after each operation.
-- Assumes nothing.
use mathlib.Core.Path.{◌≡◌, refl, sym, ap, ◌∙◌}
use mathlib.Core.List.{List, [], ◌++◌}
use mathlib.Core.Logic.{◌⊎◌, ⊎_elim, inl, inr}
use Prim.Native.Nat.{ℕ, ◌+◌, ◌-◌, ◌*◌, ◌≤◌, ◌<◌}
use native.Mathlib.Omega.{arith}
use lib.ListN.{length, take, length-append}
use lib.Seq.{take_at}
use Rattle.laws.specs.Places.{part, splice}
use Rattle.laws.proofs.Splice.{splice_apart, splice_then, length_copies, length_part, length_splice, part_back, part_else}
use Rattle.laws.proofs.Splice as splices
use Rattle.store.specs.Store.{zeros, slot, slot_of, slot_written, slot_zeroed, slots_popped}

pub length_zeros : (n : ℕ) → length (zeros n) ≡ n
length_zeros n = length_copies {A = ℕ} 0 n

pub length_slot_of : (p : List ℕ) → length p ≤ 512 → length (slot_of p) ≡ 512
length_slot_of p h = simp (length-append, length_copies) (omega arith)

-- the payload is read back
pub payload_back : (p : List ℕ) (n : ℕ) → n ≡ length p → take n (slot_of p) ≡ p
payload_back p n e = rw e (take_at p _ (length p) refl)

-- ---- after a write, of a lent payload or of one from another slot: the length, the slot itself, and any part apart from it

module _ (s : List ℕ) (at : ℕ) (p : List ℕ) (small : length p ≤ 512) (fits : at + 512 ≤ length s) where
  inside : at + length (slot_of p) ≤ length s
  inside = omega (arith, length_slot_of p small)

  pub written_length : length (slot_written s at p) ≡ length s
  written_length = length_splice s at (slot_of p) inside

  pub written_slot : part (slot_written s at p) at 512 ≡ slot_of p
  written_slot = part_back 0 s at (slot_of p) inside at 512 refl (length_slot_of p small)

  pub written_else : (a n : ℕ) → a + n ≤ length s → (a + n ≤ at) ⊎ (at + 512 ≤ a) → part (slot_written s at p) a n ≡ part s a n
  written_else a n h apart = part_else 0 s at (slot_of p) inside a n h (rw length_slot_of apart)

-- bytes of the store itself, with zeros right behind them
pub copied : (s : List ℕ) (to from len : ℕ) {b : ℕ} {t u : List ℕ} → from + len ≤ length s → to + len ≤ length s
    → t ≡ splice s to (part s from len) → b ≡ to + len → u ≡ splice t b (zeros (512 - len)) → u ≡ slot_written s to (part s from len)
copied s to from len h k first next then =
    let size = length_part s from len h in
    splice_then s to (part s from len) (zeros (512 - len)) (omega arith) first (omega arith) then
    ∙ ap (λ (n : ℕ). splice s to (part s from len ++ zeros (512 - n))) (sym size)

-- a slot that is zeroed is one with an empty payload, so the laws of a write are its laws too
pub zeroed_written : (s : List ℕ) (at : ℕ) → slot_zeroed s at ≡ slot_written s at []
zeroed_written s at = refl

-- ---- after n zeros: the length, and any part apart from them

module _ (s : List ℕ) (at n : ℕ) (fits : at + n ≤ length s) where
  zeros_inside : at + length (zeros n) ≤ length s
  zeros_inside = omega (arith, length_zeros n)

  pub cleared_length : length (splice s at (zeros n)) ≡ length s
  cleared_length = length_splice s at (zeros n) zeros_inside

  pub cleared_part : part (splice s at (zeros n)) at n ≡ zeros n
  cleared_part = part_back 0 s at (zeros n) zeros_inside at n refl (length_zeros n)

  pub cleared_else : (a m : ℕ) → a + m ≤ length s → (a + m ≤ at) ⊎ (at + n ≤ a) → part (splice s at (zeros n)) a m ≡ part s a m
  cleared_else a m h apart = part_else 0 s at (zeros n) zeros_inside a m h (rw length_zeros apart)

-- ---- after a removal: the length, slot i, the last slot, and any part apart from the queue

module _ (s : List ℕ) (base count : ℕ) (some : 1 ≤ count) (fits : base + count * 512 ≤ length s) where
  pub popped_length : length (slots_popped s base count) ≡ length s
  popped_length = splices.popped_length 0 s base 512 ((count - 1) * 512) (omega arith) 0

  pub popped_slot : (i : ℕ) → i + 1 < count → slot (slots_popped s base count) base i ≡ slot s base (i + 1)
  popped_slot i h =
      splices.popped_part 0 s base 512 ((count - 1) * 512) (omega arith) 0 (base + i * 512) (i * 512) (base + (i + 1) * 512) 512 refl (omega arith) (omega arith)

  pub popped_last : slot (slots_popped s base count) base (count - 1) ≡ zeros 512
  popped_last = splices.popped_part_last 0 s base 512 ((count - 1) * 512) (omega arith) 0 (base + (count - 1) * 512) refl

  pub popped_else : (a n : ℕ) → a + n ≤ length s → (a + n ≤ base) ⊎ (base + count * 512 ≤ a) → part (slots_popped s base count) a n ≡ part s a n
  popped_else a n h apart =
      splices.popped_part_else 0 s base 512 ((count - 1) * 512) (omega arith) 0 a n h (⊎_elim (λ w. inl w) (λ w. inr (omega arith)) apart)

-- ---- two operations apart from each other, in either order

-- two writes
pub written_apart : (s : List ℕ) (a : ℕ) (p : List ℕ) (b : ℕ) (q : List ℕ) → length p ≤ 512 → length q ≤ 512 → a + 512 ≤ b → b + 512 ≤ length s
    → slot_written (slot_written s a p) b q ≡ slot_written (slot_written s b q) a p
written_apart s a p b q hp hq apart fits =
    splice_apart 0 s a (slot_of p) b (slot_of q) (omega (arith, length_slot_of p hp)) (omega (arith, length_slot_of q hq))

-- a write and a removal
pub written_popped : (s : List ℕ) (at : ℕ) (p : List ℕ) (base count : ℕ) → length p ≤ 512 → at + 512 ≤ length s → 1 ≤ count → base + count * 512 ≤ length s
    → (at + 512 ≤ base) ⊎ (base + count * 512 ≤ at) → slots_popped (slot_written s at p) base count ≡ slot_written (slots_popped s base count) at p
written_popped s at p base count small room some fits apart =
    let size = length_slot_of p small in
    splices.popped_splice 0 0 s base 512 ((count - 1) * 512) (omega arith) at (slot_of p) (omega arith) (⊎_elim (λ w. inl (omega arith)) (λ w. inr (omega arith)) apart)

-- two removals
pub popped_popped : (s : List ℕ) (a m b n : ℕ) → 1 ≤ m → a + m * 512 ≤ length s → 1 ≤ n → b + n * 512 ≤ length s → (a + m * 512 ≤ b) ⊎ (b + n * 512 ≤ a)
    → slots_popped (slots_popped s a m) b n ≡ slots_popped (slots_popped s b n) a m
popped_popped s a m b n hm fm hn fn apart =
    splices.popped_popped 0 0 s b 512 ((n - 1) * 512) (omega arith) 0 a 512 ((m - 1) * 512) (omega arith) (⊎_elim (λ w. inl (omega arith)) (λ w. inr (omega arith)) apart)
