-- A loop that writes the n elements xs into d from index at, one a turn, and so leaves `splice d at xs`.
--     fill_start    where the loop begins
--     fill_turn     a store of xs' element j
--     fill_done     after n turns
--     fill_ahead    an element that the loop has not come to is as it was
-- And one that moves `rest` elements one place down over the first, with z in the last one's place, and so leaves `popped`.
-- Assumes nothing.
use mathlib.Core.Path.{◌≡◌, refl, sym, ap, ◌∙◌}
use mathlib.Core.List.{List, ◌++◌}
use Prim.Native.Nat.{ℕ, ◌+◌, ◌≤◌, ◌<◌}
use native.Mathlib.Numerals.{add-one}
use native.Mathlib.Omega.{arith}
use lib.ListN.{length, get_or, set, take, length-append, length-take, length-set, get_or-append}
use lib.Seq.{take-length, get_or-append-add, paste, paste-zero, paste-suc}
use Rattle.laws.specs.Places.{part, splice, copies, popped}
use Rattle.laws.proofs.Splice.{length_part, length_copies, get_or_part, get_or_copies, get_or_behind}

-- after j turns the list is cur
pub record Filling {A : Type 0} (z : A) (d : List A) (at : ℕ) (xs : List A) (n j : ℕ) (cur : List A) : Type 0 where
  pub size : length xs ≡ n
  pub fits : at + n ≤ length d
  pub upto : j ≤ n
  pub long : length cur ≡ length d
  pub is : cur ≡ paste d at xs j

pub fill_start : {A : Type 0} (z : A) (d : List A) (at : ℕ) (xs : List A) (n : ℕ) → length xs ≡ n → at + n ≤ length d → Filling z d at xs n 0 d
fill_start z d at xs n size fits = record { size = size; fits = fits; upto = omega arith; long = refl; is = paste-zero d at xs }

module _ {A : Type 0} {z : A} {d : List A} {at : ℕ} {xs : List A} {n j : ℕ} {cur : List A} (f : Filling z d at xs n j cur) where
  pub fill_turn : (p : ℕ) (v : A) → p ≡ at + j → j < n → v ≡ get_or xs j z → Filling z d at xs n (j + 1) (set cur p v)
  fill_turn p v place more e =
      record {
        size = f.size;
        fits = f.fits;
        upto = omega arith;
        long = length-set cur p v ∙ f.long;
        is = rw (e, f.is, place, add-one, paste-suc d at xs j z (omega arith) (omega arith));
      }

  pub fill_done : n ≤ j → cur ≡ splice d at xs
  unfolding splice
  fill_done h =
      let e : j ≡ length xs = omega arith in
      f.is ∙ rw (e, take-length)

  pub fill_ahead : (i : ℕ) → at + j ≤ i → get_or cur i z ≡ get_or d i z
  unfolding splice
  fill_ahead i h =
      let l : length (take j xs) ≡ j = simp length-take (omega arith) in
      let g : splice d at (take j xs) ≡ paste d at xs j = rw l in
      rw (f.is, ← g) (get_or_behind z d at (take j xs) (omega arith) i (omega arith))

-- ---- the loop that moves elements down

abbrev pub Popping : {A : Type 0} → A → List A → ℕ → ℕ → ℕ → List A → Type 0
Popping z s at rest j cur = Filling z s at (part s (at + 1) rest ++ copies z 1) (rest + 1) j cur

module _ {A : Type 0} (z : A) (s : List A) (at rest : ℕ) (fits : at + 1 + rest ≤ length s) where
  moved_length : length (part s (at + 1) rest) ≡ rest
  moved_length = length_part s (at + 1) rest fits

  pub pop_start : Popping z s at rest 0 s
  pop_start = fill_start z s at _ (rest + 1) (simp length-append (omega (arith, moved_length, length_copies z 1))) (omega arith)

  pub pop_turn : (j : ℕ) (cur : List A) (p q : ℕ) → Popping z s at rest j cur → j < rest → p ≡ at + j → q ≡ at + j + 1 → Popping z s at rest (j + 1) (set cur p (get_or cur q z))
  pop_turn j cur p q f more ep eq =
      let e : q ≡ at + 1 + j = omega arith in
      fill_turn f p (get_or cur q z) ep (omega arith)
      (fill_ahead f q (omega arith) ∙ ap (λ (i : ℕ). get_or s i z) e ∙ sym (get_or_part z s (at + 1) rest j more)
      ∙ sym (get_or-append (part s (at + 1) rest) (copies z 1) z j (omega (arith, moved_length))))

  pub pop_done : (j : ℕ) (cur : List A) (p : ℕ) (v : A) → Popping z s at rest j cur → rest ≤ j → j ≤ rest → p ≡ at + j → v ≡ z → set cur p v ≡ popped z s at 1 rest
  pop_done j cur p v f a b ep ev =
      let e : j ≡ length (part s (at + 1) rest) + 0 = omega (arith, moved_length) in
      let last : get_or (part s (at + 1) rest ++ copies z 1) j z ≡ z = ap (λ (i : ℕ). get_or (part s (at + 1) rest ++ copies z 1) i z) e ∙ get_or-append-add (part s (at + 1) rest) (copies z 1) 0 z ∙ get_or_copies z z 1 0 (omega arith) in
      fill_done (fill_turn f p v ep (omega arith) (ev ∙ sym last)) (omega arith)
