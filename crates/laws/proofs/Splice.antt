-- Laws of `part`, `splice`, `copies` and `popped`, of lists of anything: lengths, an element of each, a part of each, two splices.
-- Assumes nothing.
use mathlib.Core.Path.{◌≡◌, sym, ap, ◌∙◌}
use mathlib.Core.List.{List, [], ◌∷◌, ◌++◌, append_assoc, append-nil}
use mathlib.Core.Logic.{◌⊎◌, inl, inr, ⊎_elim}
use Prim.Native.Nat.{ℕ, suc, ◌+◌, ◌-◌, ◌≤◌, ◌<◌}
use native.Mathlib.Nat.{add_assoc}
use native.Mathlib.Numerals.{add-one}
use native.Mathlib.Omega.{arith}
use lib.ListN.{length, get_or, take, drop, replicate, set, length-append, length-take, length-drop, length-replicate, get_or-replicate, get_or-append, drop_of_length-le}
use lib.Seq.{get_or-take, get_or-drop, get_or-append-add, take_at, drop_at, drop-drop, take_all, drop-cons, set_at, sets-eq, ext_get_or}
use borrow.Rule.Slice.PartMut.{put_mid, mid_of, post_of}
use Rattle.std.proofs.lemmas.Bool.{cases_lt}
use Rattle.std.specs.List.{copy_within}
use Rattle.laws.specs.Places.{part, splice, copies, popped}

-- ---- lengths

pub length_copies : {A : Type 0} (z : A) (n : ℕ) → length (copies z n) ≡ n
unfolding copies
length_copies z n = length-replicate n z

pub length_part : {A : Type 0} (s : List A) (at n : ℕ) → at + n ≤ length s → length (part s at n) ≡ n
unfolding part
length_part s at n h = simp (length-take, length-drop) (omega arith)

pub length_splice : {A : Type 0} (s : List A) (at : ℕ) (xs : List A) → at + length xs ≤ length s → length (splice s at xs) ≡ length s
unfolding splice
length_splice s at xs h = simp (length-append, length-take, length-drop) (omega arith)

-- ---- an element of each, where z stands for none

module _ {A : Type 0} (z : A) where
  pub get_or_copies : (y : A) (n i : ℕ) → i < n → get_or (copies y n) i z ≡ y
  unfolding copies
  get_or_copies y n i h = get_or-replicate n i y z h

  pub get_or_part : (s : List A) (at n i : ℕ) → i < n → get_or (part s at n) i z ≡ get_or s (at + i) z
  unfolding part
  get_or_part s at n i h = rw (get_or-take, get_or-drop)

  -- in the second of two lists
  get_or_second : (p q : List A) (i : ℕ) → length p ≤ i → get_or (p ++ q) i z ≡ get_or q (i - length p) z
  get_or_second p q i h =
      let e : i ≡ length p + (i - length p) = omega arith in
      ap (λ (k : ℕ). get_or (p ++ q) k z) e ∙ get_or-append-add p q (i - length p) z

head_length : {A : Type 0} (s : List A) (at : ℕ) (xs : List A) → at + length xs ≤ length s → length (take at s ++ xs) ≡ at + length xs
head_length s at xs fits = simp (length-append, length-take) (omega arith)

module _ {A : Type 0} (z : A) (s : List A) (at : ℕ) (xs : List A) (fits : at + length xs ≤ length s) where
  -- before, in and behind what was put there
  pub get_or_before : (i : ℕ) → i < at → get_or (splice s at xs) i z ≡ get_or s i z
  unfolding splice
  get_or_before i h =
      let a : i < length (take at s) = simp length-take (omega arith) in
      let b : i < length (take at s ++ xs) = omega (arith, head_length s at xs fits) in
      rw (get_or-append (take at s ++ xs), get_or-append, get_or-take)

  pub get_or_in : (i : ℕ) → i < length xs → get_or (splice s at xs) (at + i) z ≡ get_or xs i z
  unfolding splice
  get_or_in i h =
      let t : length (take at s) ≡ at = simp length-take (omega arith) in
      let a : length (take at s) ≤ at + i = omega arith in
      let b : at + i < length (take at s ++ xs) = omega (arith, head_length s at xs fits) in
      rw (get_or-append (take at s ++ xs), get_or_second) (ap (λ (k : ℕ). get_or xs k z) (omega arith))

  pub get_or_behind : (i : ℕ) → at + length xs ≤ i → get_or (splice s at xs) i z ≡ get_or s i z
  unfolding splice
  get_or_behind i h =
      let b : length (take at s ++ xs) ≤ i = omega (arith, head_length s at xs fits) in
      rw (get_or_second z (take at s ++ xs), get_or-drop) (ap (λ (k : ℕ). get_or s k z) (omega (arith, head_length s at xs fits)))

  pub get_or_else : (i : ℕ) → (i < at) ⊎ (at + length xs ≤ i) → get_or (splice s at xs) i z ≡ get_or s i z
  get_or_else i apart = ⊎_elim (get_or_before i) (get_or_behind i) apart

-- ---- a part of each

-- two parts as long as each other are equal by their elements
pub parts_same : {A : Type 0} (z : A) (s t : List A) (a b n : ℕ) → a + n ≤ length s → b + n ≤ length t
    → ((i : ℕ) → i < n → get_or s (a + i) z ≡ get_or t (b + i) z) → part s a n ≡ part t b n
parts_same z s t a b n hs ht h =
    ext_get_or z _ _ (length_part s a n hs ∙ sym (length_part t b n ht))
    (λ i l. let l' : i < n = omega (arith, length_part s a n hs) in get_or_part z s a n i l' ∙ h i l' ∙ sym (get_or_part z t b n i l'))

-- what `&s[at..at + n]` holds
pub part_is : {A : Type 0} (s : List A) (at : ℕ) {xs : List A} {k n : ℕ} → xs ≡ take k (drop at s) → k ≡ n → xs ≡ part s at n
unfolding part
part_is s at e m = rw (← m) e

pub part_all : {A : Type 0} (xs : List A) (n : ℕ) → length xs ≡ n → part xs 0 n ≡ xs
unfolding part
part_all xs n e = take_all n xs (omega arith)

pub part_left : {A : Type 0} (z : A) (p q : List A) (b n : ℕ) → b + n ≤ length p → part (p ++ q) b n ≡ part p b n
part_left z p q b n h =
    parts_same z _ _ b b n (omega (arith, length-append p q)) h (λ i l. get_or-append p q z (b + i) (omega arith))

pub part_right : {A : Type 0} (p q : List A) (b n : ℕ) → length p ≡ b → length q ≡ n → part (p ++ q) b n ≡ q
unfolding part
part_right p q b n e f = rw (drop_at p q b e, take_all n q (omega arith))

pub part_part : {A : Type 0} (z : A) (s : List A) (a m b n p : ℕ) → p ≡ a + b → a + m ≤ length s → b + n ≤ m → part (part s a m) b n ≡ part s p n
part_part z s a m b n p e fits h =
    parts_same z _ _ b p n (omega (arith, length_part s a m fits)) (omega arith)
    (λ i l. get_or_part z s a m (b + i) (omega arith) ∙ rw (e, add_assoc))

module _ {A : Type 0} (z : A) (s : List A) (at : ℕ) (xs : List A) (fits : at + length xs ≤ length s) (a n : ℕ) where
  -- of what was put there
  pub part_in : (b : ℕ) → a ≡ at + b → b + n ≤ length xs → part (splice s at xs) a n ≡ part xs b n
  part_in b e h =
      parts_same z _ _ a b n (omega (arith, length_splice s at xs fits)) h
      (λ i l. rw (e, add_assoc) (get_or_in z s at xs fits (b + i) (omega arith)))

  -- all of it
  pub part_back : a ≡ at → length xs ≡ n → part (splice s at xs) a n ≡ xs
  part_back e f = part_in 0 (omega arith) (omega arith) ∙ part_all xs n f

  -- of what lies before it or behind it
  pub part_else : a + n ≤ length s → (a + n ≤ at) ⊎ (at + length xs ≤ a) → part (splice s at xs) a n ≡ part s a n
  part_else h apart =
      parts_same z _ _ a a n (omega (arith, length_splice s at xs fits)) h
      (λ i l. get_or_else z s at xs fits (a + i) (⊎_elim (λ w. inl (omega arith)) (λ w. inr (omega arith)) apart))

-- ---- two splices

-- the second right behind the first: they are one
pub splice_then : {A : Type 0} (s : List A) (at : ℕ) (xs ys : List A) {b : ℕ} {t u : List A} → at + length xs ≤ length s
    → t ≡ splice s at xs → b ≡ at + length xs → u ≡ splice t b ys → u ≡ splice s at (xs ++ ys)
unfolding splice
splice_then s at xs ys fits first next then =
    let h : length (take at s ++ xs) ≡ at + length xs = head_length s at xs fits in
    let d : drop (at + length xs + length ys) (splice s at xs) ≡ drop (at + length xs + length ys) s = rw (← drop-drop, drop_at, drop-drop) in
    then ∙ rw (first, next, d, take_at) (simp (length-append, add_assoc, append_assoc))

-- elements that agree still do after the same splice
splice_agree : {A : Type 0} (z : A) (s t : List A) (at : ℕ) (xs : List A) → at + length xs ≤ length s → at + length xs ≤ length t → (i : ℕ)
    → get_or s i z ≡ get_or t i z → get_or (splice s at xs) i z ≡ get_or (splice t at xs) i z
splice_agree z s t at xs hs ht i e =
    ⊎_elim (λ w. get_or_before z s at xs hs i w ∙ e ∙ sym (get_or_before z t at xs ht i w))
    (λ v. ⊎_elim
    (λ w. let k : i ≡ at + (i - at) = omega arith in rw k (get_or_in z s at xs hs (i - at) (omega arith) ∙ sym (get_or_in z t at xs ht (i - at) (omega arith))))
    (λ w. get_or_behind z s at xs hs i w ∙ e ∙ sym (get_or_behind z t at xs ht i w))
    (cases_lt i (at + length xs)))
    (cases_lt i at)

-- apart from each other: in either order
pub splice_apart : {A : Type 0} (z : A) (s : List A) (a : ℕ) (xs : List A) (b : ℕ) (ys : List A) → a + length xs ≤ b → b + length ys ≤ length s
    → splice (splice s a xs) b ys ≡ splice (splice s b ys) a xs
splice_apart z s a xs b ys apart fits =
    let x = length_splice s a xs (omega arith) in
    let y = length_splice s b ys fits in
    ext_get_or z _ _ (length_splice (splice s a xs) b ys (omega arith) ∙ x ∙ sym (length_splice (splice s b ys) a xs (omega arith) ∙ y))
    (λ i l. ⊎_elim
    (λ w. get_or_before z (splice s a xs) b ys (omega arith) i (omega arith)
    ∙ sym (splice_agree z (splice s b ys) s a xs (omega arith) (omega arith) i (get_or_before z s b ys fits i (omega arith))))
    (λ w. splice_agree z (splice s a xs) s b ys (omega arith) fits i (get_or_behind z s a xs (omega arith) i w)
    ∙ sym (get_or_behind z (splice s b ys) a xs (omega arith) i w))
    (cases_lt i (a + length xs)))

-- the whole
pub splice_all : {A : Type 0} (s xs : List A) → length xs ≡ length s → splice s 0 xs ≡ xs
unfolding splice
splice_all s xs e = rw (drop_of_length-le s {i = 0 + length xs} (omega arith)) (append-nil xs)

-- ---- after a removal: the length, what moved, what stands in the last places, and what lies elsewhere

module _ {A : Type 0} (z : A) (s : List A) (at w rest : ℕ) (fits : at + w + rest ≤ length s) (d : A) where
  abbrev moved : List A
  moved = part s (at + w) rest

  moved_length : length moved ≡ rest
  moved_length = length_part s (at + w) rest fits

  popped_size : length (moved ++ copies z w) ≡ rest + w
  popped_size = simp length-append (omega (arith, moved_length, length_copies z w))

  popped_fits : at + length (moved ++ copies z w) ≤ length s
  popped_fits = omega (arith, popped_size)

  pub popped_length : length (popped z s at w rest) ≡ length s
  popped_length = length_splice s at (moved ++ copies z w) popped_fits

  pub popped_moved : (i : ℕ) → i < rest → get_or (popped z s at w rest) (at + i) d ≡ get_or s (at + w + i) d
  popped_moved i h =
      get_or_in d s at (moved ++ copies z w) popped_fits i (omega (arith, popped_size))
      ∙ get_or-append moved (copies z w) d i (omega (arith, moved_length))
      ∙ get_or_part d s (at + w) rest i h

  pub popped_last : (i : ℕ) → i < w → get_or (popped z s at w rest) (at + (rest + i)) d ≡ z
  popped_last i h =
      get_or_in d s at (moved ++ copies z w) popped_fits (rest + i) (omega (arith, popped_size))
      ∙ get_or_second d moved (copies z w) (rest + i) (omega (arith, moved_length))
      ∙ get_or_copies d z w (rest + i - length moved) (omega (arith, moved_length))

  pub popped_else : (i : ℕ) → (i < at) ⊎ (at + w + rest ≤ i) → get_or (popped z s at w rest) i d ≡ get_or s i d
  popped_else i apart =
      get_or_else d s at (moved ++ copies z w) popped_fits i (⊎_elim (λ w. inl w) (λ (w : _). inr (omega (arith, popped_size))) apart)

  -- the same of a part
  pub popped_part : (a b c n : ℕ) → a ≡ at + b → c ≡ at + w + b → b + n ≤ rest → part (popped z s at w rest) a n ≡ part s c n
  popped_part a b c n ea ec h =
      parts_same d _ _ a c n (omega (arith, popped_length)) (omega arith)
      (λ i l. rw (ea, ec, add_assoc at b, add_assoc (at + w) b) (popped_moved (b + i) (omega arith)))

  pub popped_part_else : (a n : ℕ) → a + n ≤ length s → (a + n ≤ at) ⊎ (at + w + rest ≤ a) → part (popped z s at w rest) a n ≡ part s a n
  popped_part_else a n h apart = parts_same d _ _ a a n (omega (arith, popped_length)) h (λ i l. popped_else (a + i) (⊎_elim (λ w. inl (omega arith)) (λ w. inr (omega arith)) apart))

  pub popped_part_last : (a : ℕ) → a ≡ at + rest → part (popped z s at w rest) a w ≡ copies z w
  popped_part_last a e =
      part_in d s at (moved ++ copies z w) popped_fits a w rest e (omega (arith, popped_size))
      ∙ part_right moved (copies z w) rest w moved_length (length_copies z w)

-- ---- a removal and a splice, or two removals, apart from each other: in either order

module _ {A : Type 0} (d z : A) (s : List A) (at w rest : ℕ) (fits : at + w + rest ≤ length s) where
  pub popped_splice : (a : ℕ) (xs : List A) → a + length xs ≤ length s → (a + length xs ≤ at) ⊎ (at + w + rest ≤ a)
      → popped z (splice s a xs) at w rest ≡ splice (popped z s at w rest) a xs
  popped_splice a xs h apart =
      let same : part (splice s a xs) (at + w) rest ≡ part s (at + w) rest = part_else d s a xs h (at + w) rest fits (⊎_elim (λ x. inr (omega arith)) (λ x. inl (omega arith)) apart) in
      let size = popped_size z s at w rest fits d in
      ap (λ (m : List A). splice (splice s a xs) at (m ++ copies z w)) same
      ∙ ⊎_elim (λ x. splice_apart d s a xs at _ x (omega (arith, size)))
      (λ x. sym (splice_apart d s at _ a xs (omega (arith, size)) h)) apart

  pub popped_popped : (z' : A) (at' w' rest' : ℕ) → at' + w' + rest' ≤ length s → (at' + w' + rest' ≤ at) ⊎ (at + w + rest ≤ at')
      → popped z (popped z' s at' w' rest') at w rest ≡ popped z' (popped z s at w rest) at' w' rest'
  popped_popped z' at' w' rest' h apart =
      let size' = popped_size z' s at' w' rest' h d in
      let same : part (popped z s at w rest) (at' + w') rest' ≡ part s (at' + w') rest' = popped_part_else z s at w rest fits d (at' + w') rest' (omega arith) (⊎_elim (λ x. inl (omega arith)) (λ x. inr (omega arith)) apart) in
      popped_splice at' (part s (at' + w') rest' ++ copies z' w') (omega (arith, size')) (⊎_elim (λ x. inl (omega (arith, size'))) (λ x. inr x) apart)
      ∙ ap (λ (m : List A). splice (popped z s at w rest) at' (m ++ copies z' w')) (sym same)

-- ---- four stores in a row

pub stored_four : {A : Type 0} (s : List A) (at p q r : ℕ) (a b c d : A) → p ≡ at + 1 → q ≡ at + 2 → r ≡ at + 3 → at + 4 ≤ length s
    → set (set (set (set s at a) p b) q c) r d ≡ splice s at (a ∷ b ∷ c ∷ d ∷ [])
unfolding splice
stored_four s at p q r a b c d ep eq er h =
    let p' : p ≡ suc at = omega arith in
    let q' : q ≡ suc (suc at) = omega arith in
    let r' : r ≡ suc (suc (suc at)) = omega arith in
    rw (p', q', r') (sets-eq (a ∷ b ∷ c ∷ d ∷ []) s at h)

pub part_three : {A : Type 0} (z : A) (s : List A) (at p q : ℕ) → p ≡ at + 1 → q ≡ at + 2 → at + 3 ≤ length s
    → part s at 3 ≡ get_or s at z ∷ get_or s p z ∷ get_or s q z ∷ []
unfolding part
part_three z s at p q ep eq h =
    let p' : p ≡ suc at = omega arith in
    let q' : q ≡ suc (suc at) = omega arith in
    rw (p', q', drop-cons s at z (omega arith), drop-cons s (suc at) z (omega arith), drop-cons s (suc (suc at)) z (omega arith))

-- ---- what `s.copy_within(from..to, dest)` leaves

pub moved_is : {A : Type 0} (s : List A) (from to dest : ℕ) {n : ℕ} → to ≤ length s → to - from ≡ n → copy_within s from to dest ≡ splice s dest (part s from n)
unfolding part splice
moved_is s from to dest {n = n} h e =
    let size : length (take n (drop from s)) ≡ n = simp (length-take, length-drop) (omega arith) in
    rw (e, size)

-- ---- what a write through a part leaves: `&mut s[at..at + k]`, which then is xs

pub put_mid_is : {A : Type 0} (s xs : List A) (at k : ℕ) → length xs ≡ k → put_mid at k s xs ≡ splice s at xs
unfolding splice
put_mid_is s xs at k e = rw (e, drop-drop) (sym (append_assoc (take at s) xs (drop (at + k) s)))

-- where it is what was copied in
pub copied_is : {A : Type 0} (s : List A) (at : ℕ) {xs ys : List A} {k : ℕ} → xs ≡ ys → length ys ≡ k → put_mid at k s xs ≡ splice s at ys
copied_is s at {ys = ys} {k = k} e n = rw e (put_mid_is s ys at k n)

-- the same of `&mut s[..k]`
pub front_is : {A : Type 0} (s : List A) {xs ys : List A} {k : ℕ} → xs ≡ ys → length ys ≡ k → xs ++ drop k s ≡ splice s 0 ys
unfolding splice
front_is s {ys = ys} e n =
    let m : 0 + length ys ≡ length ys = omega arith in
    rw (e, m, n)

-- where it was filled with z
pub filled_is : {A : Type 0} (z : A) (s : List A) (at : ℕ) {xs : List A} {k n : ℕ} → xs ≡ replicate (length (take k (drop at s))) z → k ≡ n → at + n ≤ length s
    → put_mid at k s xs ≡ splice s at (copies z n)
unfolding copies
filled_is z s at {k = k} {n = n} e m fits =
    let size : length (take k (drop at s)) ≡ n = simp (length-take, length-drop) (omega arith) in
    copied_is s at (rw size at e) (length-replicate n z ∙ sym m)

-- `s[at..at + k].rotate_left(1)`, and then z in the last of those places
pub rotated_is : {A : Type 0} (z : A) (s r : List A) (at k rest last : ℕ) → k ≡ suc rest → last ≡ at + rest → at + k ≤ length s
    → r ≡ drop 1 (mid_of at k s) ++ take 1 (mid_of at k s) → set (put_mid at k s r) last z ≡ popped z s at 1 rest
unfolding part splice copies
rotated_is {A} z s r at k rest last ek el h e =
    let x = get_or s at z in
    let p = take rest (drop (suc at) s) in
    let d : drop at s ≡ x ∷ drop (suc at) s = drop-cons s at z (omega arith) in
    let l : length (take at s ++ p) ≡ at + rest = simp (length-append, length-take, length-drop) (omega arith) in
    let n : suc at + rest ≡ at + length (p ++ (z ∷ [])) = simp (length-append, length-take, length-drop) (omega arith) in
    let b = drop (at + length (p ++ (z ∷ []))) s in
    rw (e, ek, el, d, add-one at, drop-drop rest, n)
    (ap (λ (t : List A). set (take at s ++ t) (at + rest) z) (append_assoc p (x ∷ []) b)
    ∙ ap (λ (t : List A). set t (at + rest) z) (sym (append_assoc (take at s) p (x ∷ b)))
    ∙ set_at (take at s ++ p) x b z (at + rest) l
    ∙ sym (append_assoc (take at s ++ p) (z ∷ []) b)
    ∙ ap (λ (t : List A). t ++ b) (append_assoc (take at s) p (z ∷ [])))

-- the same where the part is the front
pub rotated_front : {A : Type 0} (z : A) (s r : List A) (k rest : ℕ) → k ≡ suc rest → k ≤ length s
    → r ≡ drop 1 (mid_of 0 k s) ++ take 1 (mid_of 0 k s) → set (r ++ post_of 0 k s) rest z ≡ popped z s 0 1 rest
rotated_front z s r k rest ek h e = rotated_is z s r 0 k rest rest ek (omega arith) (omega arith) e
