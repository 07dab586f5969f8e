-- Laws of `all_below`, `list_below` and `lowest`, for the loops that compute them and for those who read them.
-- Assumes nothing.
use mathlib.Core.Path.{◌≡◌, refl, sym, ap, ◌∙◌}
use mathlib.Core.List.{List, [], ◌∷◌, ◌++◌}
use mathlib.Core.Logic.{◌≢◌, ⊎_elim}
use mathlib.Core.Bool.{Bool, true, false, ◌&&◌, ◌||◌, not}
use Prim.Native.Nat.{ℕ, zero, suc, ◌+◌, ◌-◌, ◌<◌, ◌≤◌}
use native.Mathlib.Numerals.{add-one}
use native.Mathlib.Omega.{arith}
use lib.ListN.{length, get_or}
use borrow.Author.Tests.{not-true, not-false}
use denote.Param.Members.{Mut}
use Rattle.std.proofs.lemmas.Bool.{and_from, cases_eq, cases_lt, cond_both}
use Rattle.std.specs.declared.ops.Range.{Range}
use Rattle.std.specs.Fn.{Called}
use Rattle.std.specs.Iterator.{YieldsThen}
use Rattle.std.specs.List.{FoldsTo, list_all, list_any, enumerate_from, position_or_len, range_with_len}
use Rattle.std.proofs.iter.Yields.{nat_range_steps}
use Rattle.std.proofs.lemmas.Iterator.{YieldsList-from_range}
use Rattle.std.proofs.lemmas.Iterator.Search.{all_from_yields_List}
use Rattle.std.specs.Prelude.{Option, None, Some}
use Rattle.std.specs.Option.{MatchOption, unwrap_or}
use Rattle.std.proofs.lemmas.List.Sums.{prefix_len_passes, prefix_len_stops, prefix_len-le-length}
use Rattle.std.proofs.lemmas.List.FromFn.{length-range_with_len, get_or-range_with_len}
use Rattle.laws.specs.Below.{all_below, list_below, lowest}
use Rattle.laws.proofs.Tests.{not_both, and_assoc, and-true, not_and, and_left, and_right}

-- ---- for every number below n

-- a loop that begins with s and collects in ok whether f holds of every number below i
pub record Collected (f : ℕ → Bool) (s : Bool) (i : ℕ) (ok : Bool) : Type 0 where
  pub is : ok ≡ (s && all_below f i)

pub all_start : (f : ℕ → Bool) (s : Bool) → Collected f s 0 s
unfolding all_below
all_start f s = record { is = sym (and-true s) }

module _ {f : ℕ → Bool} {s : Bool} {i : ℕ} {ok : Bool} (k : Collected f s i ok) where
  pub all_turn : {b : Bool} → b ≡ f i → Collected f s (i + 1) (ok && b)
  unfolding all_below
  all_turn d = record { is = rw (k.is, d, add-one i) (and_assoc s (all_below f i) (f i)) }

  pub all_done : (n : ℕ) → i ≤ n → n ≤ i → ok ≡ (s && all_below f n)
  all_done n u v = let q : n ≡ i = omega arith in rw q k.is

  -- a turn that is a loop itself
  pub all_inner : {b d : Bool} → d ≡ (ok && b) → b ≡ f i → Collected f s (i + 1) d
  all_inner e g = record { is = e ∙ (all_turn g).is }

pub all_at : (f : ℕ → Bool) (n : ℕ) → all_below f n ≡ true → (i : ℕ) → i < n → f i ≡ true
unfolding all_below
all_at f zero e i h = absurd (omega arith)
all_at f (suc n) e i h =
    ⊎_elim (λ (l : i < n). all_at f n (and_left _ _ e) i l) (λ (l : n ≤ i). let q : i ≡ n = omega arith in rw q (and_right (all_below f n) _ e)) (cases_lt i n)

pub all_from : (f : ℕ → Bool) (n : ℕ) → ((i : ℕ) → i < n → f i ≡ true) → all_below f n ≡ true
unfolding all_below
all_from f zero h = refl
all_from f (suc n) h = and_from _ _ (all_from f n (λ i l. h i (omega arith))) (h n (omega arith))

-- of 0, and of every number above
all_first : (f : ℕ → Bool) (n : ℕ) → all_below f (suc n) ≡ (f 0 && all_below (λ i. f (suc i)) n)
unfolding all_below
all_first f zero = sym (and-true (f 0))
all_first f (suc n) = ap (λ (b : Bool). b && f (suc n)) (all_first f n) ∙ and_assoc (f 0) (all_below (λ i. f (suc i)) n) (f (suc n))

all_of : {A : Type 0} (f : A → Bool) (d : A) (xs : List A) → list_all f xs ≡ all_below (λ k. f (get_or xs k d)) (length xs)
unfolding all_below
all_of f d [] = refl
all_of f d (x ∷ xs) = ap (λ (b : Bool). f x && b) (all_of f d xs) ∙ sym (all_first (λ k. f (get_or (x ∷ xs) k d)) (length xs))

-- what `iter().all(..)` over n elements says, by number
pub all_is : {A : Type 0} (f : A → Bool) (d : A) (xs : List A) (n : ℕ) → length xs ≡ n → list_all f xs ≡ all_below (λ k. f (get_or xs k d)) n
all_is f d xs n e = rw (← e) (all_of f d xs)

-- f and g agree below n
pub all_same : (f g : ℕ → Bool) (n : ℕ) → ((i : ℕ) → i < n → f i ≡ g i) → all_below f n ≡ all_below g n
unfolding all_below
all_same f g zero e = refl
all_same f g (suc n) e = rw (all_same f g n (λ i l. e i (omega arith)), e n (omega arith))

-- what `iter().enumerate().any(..)` over n elements says, by number: not of each that the test fails there, which g says
any_of : {A : Type 0} (f : ℕ → A → Bool) (g : ℕ → Bool) (d : A) (xs : List A) (p : ℕ) → ((j k : ℕ) → j < length xs → k ≡ p + j → not (f k (get_or xs j d)) ≡ g j)
    → list_any (λ (q : ℕ × A). f q.0 q.1) (enumerate_from p xs) ≡ not (all_below g (length xs))
unfolding all_below
any_of f g d [] p e = refl
any_of f g d (x ∷ xs) p e =
    ap (λ (b : Bool). f p x || b) (any_of f (λ i. g (suc i)) d xs (p + 1) (λ j k l q. e (suc j) k (omega arith) (omega arith)))
    ∙ sym (not_and (f p x) (all_below (λ i. g (suc i)) (length xs)))
    ∙ ap not (ap (λ (b : Bool). b && all_below (λ i. g (suc i)) (length xs)) (e 0 p (omega arith) (omega arith)) ∙ sym (all_first g (length xs)))

pub any_is : {A : Type 0} (f : ℕ → A → Bool) (g : ℕ → Bool) (d : A) (xs : List A) (n : ℕ) → length xs ≡ n → ((j : ℕ) → j < n → not (f j (get_or xs j d)) ≡ g j)
    → list_any (λ (q : ℕ × A). f q.0 q.1) (enumerate_from 0 xs) ≡ not (all_below g n)
any_is f g d xs n l e = rw (← l) (any_of f g d xs 0 (λ j k m q. let h : k ≡ j = omega arith in rw h (e j (omega arith))))

-- what `(0..n).all(..)` says
pub all_upto : (f : ℕ → Bool) (n : ℕ) → list_all f (range_with_len 0 n) ≡ all_below f n
all_upto f n =
    all_is f 0 (range_with_len 0 n) n (length-range_with_len 0 n)
    ∙ all_same _ f n (λ i l. let e : get_or (range_with_len 0 n) i 0 ≡ i = omega (arith, get_or-range_with_len 0 n i 0 l) in ap f e)

-- and what it gives, where the closure gives f
pub range_all : {F : Type 0} {g : Mut F (ℕ × Unit {0}) Bool} {s : Range ℕ} (f : ℕ → Bool) (n : ℕ) (u : Range ℕ) (p : F) (r : Bool)
    → (xs : List ℕ) × (o : Option ℕ) × (j : F) × YieldsThen nat_range_steps s xs o u × FoldsTo (λ i x q. Called g i (x, tt) true q) p xs j × MatchOption o (r ≡ true) (λ x. (r ≡ false) × ((h : F) × Called g j (x, tt) false h))
    → s ≡ record { start = 0; end = n } → ((x : ℕ) (b : Bool) (q : F) → Called g p (x, tt) b q → (q ≡ p) × (b ≡ f x)) → r ≡ all_below f n
range_all f n u p r ran e k = all_from_yields_List f u p r ran (YieldsList-from_range 0 n n e (omega arith)) k ∙ all_upto f n

-- ---- lists by number

pub list_same : {A : Type 0} (f g : ℕ → A) (n : ℕ) → ((i : ℕ) → i < n → f i ≡ g i) → list_below f n ≡ list_below g n
unfolding list_below
list_same f g zero e = refl
list_same f g (suc n) e = rw (list_same f g n (λ i l. e i (omega arith)), e n (omega arith))

pub list_none : {A : Type 0} (f : ℕ → A) → list_below f 0 ≡ []
unfolding list_below
list_none f = refl

pub list_more : {A : Type 0} (f : ℕ → A) (n : ℕ) → list_below f (n + 1) ≡ list_below f n ++ (f n ∷ [])
unfolding list_below
list_more f n = rw (add-one n)

-- the first apart, where g is f from 1 on
list_front : {A : Type 0} (f g : ℕ → A) (n : ℕ) → ((i : ℕ) → i < n → f (suc i) ≡ g i) → list_below f (suc n) ≡ f 0 ∷ list_below g n
unfolding list_below
list_front f g zero e = refl
list_front f g (suc n) e =
    ap (λ l. l ++ (f (suc n) ∷ [])) (list_front f g n (λ i l. e i (omega arith))) ∙ ap (λ x. f 0 ∷ (list_below g n ++ (x ∷ []))) (e n (omega arith))

pub list_first : {A : Type 0} (f g : ℕ → A) (n : ℕ) → ((i : ℕ) → i < n → f (i + 1) ≡ g i) → list_below f (n + 1) ≡ f 0 ∷ list_below g n
list_first f g n e = rw (add-one n) (list_front f g n (λ i l. rw (add-one i) at (e i l)))

-- ---- the lowest number that passes

pub lowest_from : (f : ℕ → Bool) (n p : ℕ) → p ≤ lowest f n p
unfolding lowest
lowest_from f zero p = omega arith
lowest_from f (suc n) p = cond_both (f p) p (lowest f n (p + 1)) (λ (m : ℕ). p ≤ m) (λ e. omega arith) (λ e. omega (arith, lowest_from f n (p + 1)))

pub lowest_upto : (f : ℕ → Bool) (n p : ℕ) → lowest f n p ≤ p + n
unfolding lowest
lowest_upto f zero p = omega arith
lowest_upto f (suc n) p = cond_both (f p) p (lowest f n (p + 1)) (λ (m : ℕ). m ≤ p + suc n) (λ e. omega arith) (λ e. omega (arith, lowest_upto f n (p + 1)))

-- what stands before it does not pass
pub lowest_least : (f : ℕ → Bool) (n p q : ℕ) → p ≤ q → q < lowest f n p → f q ≡ false
unfolding lowest
lowest_least f zero p q l = λ m. absurd (omega arith)
lowest_least f (suc n) p q l =
    cond_both (f p) p (lowest f n (p + 1)) (λ (m : ℕ). q < m → f q ≡ false) (λ e m. absurd (omega arith))
    (λ e m. ⊎_elim (λ (x : q ≡ p). ap f x ∙ e) (λ (x : q ≢ p). lowest_least f n (p + 1) q (above p q l x) m) (cases_eq q p))
  where
    above : (p q : ℕ) → p ≤ q → q ≢ p → p + 1 ≤ q
    above p q l d = ⊎_elim (λ (x : p < q). omega arith) (λ (x : q ≤ p). absurd (d (omega arith))) (cases_lt p q)

-- unless there is none, it passes
pub lowest_passes : (f : ℕ → Bool) (n p : ℕ) → lowest f n p < p + n → f (lowest f n p) ≡ true
unfolding lowest
lowest_passes f zero p = λ m. absurd (omega arith)
lowest_passes f (suc n) p =
    cond_both (f p) p (lowest f n (p + 1)) (λ (m : ℕ). m < p + suc n → f m ≡ true) (λ e m. e) (λ e m. lowest_passes f n (p + 1) (omega arith))

-- where q passes, it is no later than q
pub lowest_before : (f : ℕ → Bool) (n p q : ℕ) → p ≤ q → f q ≡ true → lowest f n p ≤ q
lowest_before f n p q l e = ⊎_elim (λ w. not_both e (lowest_least f n p q l w)) (λ w. w) (cases_lt q (lowest f n p))

-- ---- a loop that seeks the lowest of the n numbers from `start` on, and has come to i

lowest_miss : (f : ℕ → Bool) (m i : ℕ) → f i ≡ false → lowest f (suc m) i ≡ lowest f m (i + 1)
unfolding lowest
lowest_miss f m i x = rw x

lowest_hit : (f : ℕ → Bool) (m i : ℕ) → f i ≡ true → lowest f (suc m) i ≡ i
unfolding lowest
lowest_hit f m i x = rw x

lowest_none : (f : ℕ → Bool) (i : ℕ) → lowest f 0 i ≡ i
unfolding lowest
lowest_none f i = refl

pub record Seeking (f : ℕ → Bool) (n start i : ℕ) : Type 0 where
  pub begun : start ≤ i
  pub upto : i ≤ start + n
  pub left : lowest f (start + n - i) i ≡ lowest f n start

pub seek_start : (f : ℕ → Bool) (n start : ℕ) → Seeking f n start start
seek_start f n start = let e : start + n - start ≡ n = omega arith in record { begun = omega arith; upto = omega arith; left = rw e }

module _ {f : ℕ → Bool} {n start i : ℕ} (k : Seeking f n start i) where
  pub seek_on : {b : Bool} → i < start + n → b ≡ f i → b ≡ false → Seeking f n start (i + 1)
  seek_on l e fails =
      let q : start + n - i ≡ suc (start + n - (i + 1)) = omega (arith, k.upto) in
      record { begun = omega (arith, k.begun); upto = omega arith; left = sym (lowest_miss f (start + n - (i + 1)) i (sym e ∙ fails)) ∙ sym (ap (λ (m : ℕ). lowest f m i) q) ∙ k.left }

  pub seek_found : {b : Bool} → i < start + n → b ≡ f i → b ≡ true → lowest f n start ≡ i
  seek_found l e holds =
      let q : start + n - i ≡ suc (start + n - (i + 1)) = omega (arith, k.upto) in
      sym k.left ∙ ap (λ (m : ℕ). lowest f m i) q ∙ lowest_hit f (start + n - (i + 1)) i (sym e ∙ holds)

  pub seek_none : start + n ≤ i → lowest f n start ≡ start + n
  seek_none l =
      let e : i ≡ start + n = omega (arith, k.upto) in
      let z : start + n - i ≡ 0 = omega arith in
      sym k.left ∙ ap (λ (m : ℕ). lowest f m i) z ∙ lowest_none f i ∙ e

-- ---- the lowest, by what it is

-- i passes, and what stands before it does not
pub lowest_is : (f : ℕ → Bool) (n p i : ℕ) → p ≤ i → i < p + n → f i ≡ true → ((q : ℕ) → p ≤ q → q < i → f q ≡ false) → lowest f n p ≡ i
lowest_is f n p i l m e less =
    let from = lowest_from f n p in
    let upto = lowest_before f n p i l e in
    ⊎_elim (λ (w : lowest f n p < i). not_both (lowest_passes f n p (omega arith)) (less _ from w)) (λ (w : i ≤ lowest f n p). omega arith) (cases_lt (lowest f n p) i)

-- none passes
pub lowest_fails : (f : ℕ → Bool) (n p : ℕ) → ((q : ℕ) → p ≤ q → q < p + n → f q ≡ false) → lowest f n p ≡ p + n
lowest_fails f n p none =
    let from = lowest_from f n p in
    let upto = lowest_upto f n p in
    ⊎_elim (λ (w : lowest f n p < p + n). not_both (lowest_passes f n p w) (none _ from w)) (λ (w : p + n ≤ lowest f n p). omega arith) (cases_lt (lowest f n p) (p + n))

pub lowest_same : (f g : ℕ → Bool) (n p : ℕ) → ((q : ℕ) → p ≤ q → q < p + n → f q ≡ g q) → lowest f n p ≡ lowest g n p
lowest_same f g n p e =
    let from = lowest_from g n p in
    let upto = lowest_upto g n p in
    ⊎_elim
    (λ (w : lowest g n p < p + n). lowest_is f n p _ from w (e _ from w ∙ lowest_passes g n p w) (λ q l m. e q l (omega arith) ∙ lowest_least g n p q l m))
    (λ (w : p + n ≤ lowest g n p). let none = lowest_fails f n p (λ q l m. e q l m ∙ lowest_least g n p q l (omega arith)) in omega arith)
    (cases_lt (lowest g n p) (p + n))

-- what `iter().position(..)` over n elements seeks, by number
pub position_is : {A : Type 0} (f : A → Bool) (d : A) (xs : List A) (n : ℕ) → length xs ≡ n → position_or_len f xs ≡ lowest (λ k. f (get_or xs k d)) n 0
position_is f d xs n e =
    let p = position_or_len f xs in
    let g : ℕ → Bool = λ k. f (get_or xs k d) in
    let less : (q : ℕ) → q < p → g q ≡ false = λ q m. not-true (g q) (prefix_len_passes (λ x. not (f x)) xs q d m) in
    let upto = prefix_len-le-length (λ x. not (f x)) xs in
    ⊎_elim
    (λ (w : p < n). sym (lowest_is g n 0 p (omega arith) (omega arith) (not-false (g p) (prefix_len_stops (λ x. not (f x)) xs d (omega arith))) (λ q l m. less q m)))
    (λ (w : n ≤ p). let none = lowest_fails g n 0 (λ q l m. less q (omega arith)) in omega arith)
    (cases_lt p n)

-- what `find(..)` over the numbers from p up to p + n gives, p + n where it gives none
pub lowest_found : (f : ℕ → Bool) (n p : ℕ) (r : Option ℕ)
    → MatchOption r ((q : ℕ) → p ≤ q → q < p + n → f q ≡ false) (λ i. (p ≤ i) × (i < p + n) × (f i ≡ true) × ((q : ℕ) → p ≤ q → q < i → f q ≡ false))
    → unwrap_or r (p + n) ≡ lowest f n p
lowest_found f n p None k = sym (lowest_fails f n p k)
lowest_found f n p (Some i) k = sym (lowest_is f n p i k.0 k.1 k.2 k.3)
