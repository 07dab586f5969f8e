-- What the tests of whole lists say by number: for the chains of iterators that compute them.
-- Assumes nothing.
use mathlib.Core.Path.{◌≡◌, refl, sym, ap, ◌∙◌}
use mathlib.Core.List.{List, [], ◌∷◌}
use mathlib.Core.Bool.{Bool, true, false, ◌&&◌, ◌||◌, not}
use Rattle.std.proofs.lemmas.Bool.{cases_eq}
use Rattle.std.proofs.Math.Bool.{and_comm, or_assoc, or-false}
use mathlib.Core.Logic.{⊎_elim}
use Prim.Native.Nat.{ℕ, ◌<◌, ◌≤◌}
use native.Mathlib.Nat.{zero-add}
use native.Mathlib.Omega.{arith}
use lib.Dec.{eqb}
use lib.ListN.{length, get_or, take, length-take}
use lib.Seq.{get_or-take}
use borrow.Author.Tests.{ne_eqb, lt-ltb, le-ltb}
use denote.Param.Members.{Mut}
use denote.Ref.{Bor}
use Rattle.std.specs.Fn.{Called}
use Rattle.std.specs.Iterator.{YieldsThen}
use Rattle.std.specs.Slice.Iter.{iter_rest}
use Rattle.std.proofs.Common.{Iter}
use Rattle.std.proofs.iter.Yields.{fronts}
use Rattle.std.specs.List.{FoldsTo, position_or_len, list_all, list_any, enumerate_from, find}
use Rattle.std.specs.Option.{MatchOption, unwrap_or}
use Rattle.std.specs.Prelude.{Option}
use Rattle.std.proofs.lemmas.List.Folds.{find_at}
use Rattle.std.proofs.lemmas.Option.{unwrap_or-slice_get}
use Rattle.std.proofs.lemmas.Iterator.{YieldsList-from_slice}
use Rattle.std.proofs.lemmas.Iterator.Search.{all_from_yields_List}
use Rattle.std.proofs.lemmas.List.FromFn.{length-enumerate_from, get_or-enumerate_from}
use Rattle.laws.specs.Below.{all_below, lowest}
use Rattle.laws.proofs.Below.{all_is, all_same, all_from, position_is}
use Rattle.state.specs.declared.Interface.{Interface}
use Rattle.state.specs.Places.{interface_in}
use Rattle.state.specs.Interfaces.{address_of, interface_ok, blank, pair_apart, place_ok}

-- a test that follows one that holds
pub and_so : (a : Bool) {b c : Bool} → a ≡ true → c ≡ b → c ≡ (a && b)
and_so a e d = rw e d

-- what `iter().all(..)` gives over xs, where the closure gives f
pub slice_all : {A F : Type 0} {g : Mut F (Bor A × Unit {0}) Bool} {s : Iter A} (f : A → Bool) (xs : List A) (u : Iter A) (p : F) (r : Bool)
    → (ys : List (Bor A)) × (o : Option (Bor A)) × (j : F) × YieldsThen fronts s ys o u × FoldsTo (λ i y q. Called g i (y, tt) true q) p ys j × MatchOption o (r ≡ true) (λ y. (r ≡ false) × ((h : F) × Called g j (y, tt) false h))
    → iter_rest s ≡ xs → ((y : Bor A) (b : Bool) (q : F) → Called g p (y, tt) b q → (q ≡ p) × (b ≡ f y.now)) → r ≡ list_all f xs
slice_all f xs u p r ran e k = all_from_yields_List f u p r ran (YieldsList-from_slice xs e) k

-- where each number passes
pub all_true : (n : ℕ) → all_below (λ i. true) n ≡ true
all_true n = all_from (λ i. true) n (λ i l. refl)

-- the first n elements
pub all_before : {A : Type 0} (f : A → Bool) (d : A) (xs : List A) (n : ℕ) → n ≤ length xs → list_all f (take n xs) ≡ all_below (λ k. f (get_or xs k d)) n
all_before {A} f d xs n l =
    all_is f d (take n xs) n (omega (arith, length-take {A = A})) ∙ all_same _ _ n (λ i m. ap f (get_or-take n xs i d m))

-- each element with its number
pub all_numbered : {A : Type 0} (f : ℕ × A → Bool) (d : A) (xs : List A) (n : ℕ) → length xs ≡ n
    → list_all f (enumerate_from 0 xs) ≡ all_below (λ k. f (k, get_or xs k d)) n
all_numbered f d xs n e =
    all_is f (0, d) (enumerate_from 0 xs) n (length-enumerate_from 0 xs ∙ e)
    ∙ all_same _ _ n (λ i l. ap f (get_or-enumerate_from 0 xs i (0, d) (omega arith) ∙ ap (λ (k : ℕ). (k, get_or xs i d)) (zero-add i)))

-- the four addresses
abbrev pub four : Interface → List ℕ
four x = x.first ∷ x.second ∷ x.third ∷ x.fourth ∷ []

pub all_addresses : (f : ℕ → Bool) (x : Interface) {at : List ℕ} → at ≡ four x → list_all f at ≡ all_below (λ p. f (address_of x p)) 4
unfolding all_below
all_addresses f x e = rw e (all_is f 0 (four x) 4 refl)

-- ---- a number that is 0 or not among the first n

eqb_sym : (a b : ℕ) → eqb a b ≡ eqb b a
eqb_sym a b = ⊎_elim (λ e. rw e) (λ n. ne_eqb a b n ∙ sym (ne_eqb b a (λ e. n (sym e)))) (cases_eq a b)

not_any : {A : Type 0} (f : A → Bool) (xs : List A) → not (list_any f xs) ≡ list_all (λ x. not (f x)) xs
not_any f [] = refl
not_any f (x ∷ xs) = not_or (f x) (list_any f xs) ∙ ap (λ (b : Bool). not (f x) && b) (not_any f xs)
  where
    not_or : (a b : Bool) → not (a || b) ≡ (not a && not b)
    not_or true b = refl
    not_or false b = refl

pub absent : (a d : ℕ) (xs : List ℕ) (n : ℕ) → n ≤ length xs
    → (eqb a 0 || not (list_any (λ b. eqb b a) (take n xs))) ≡ all_below (λ q. eqb a 0 || not (eqb a (get_or xs q d))) n
absent a d xs n l = elim (eqb a 0) as (λ (z : Bool). (z || not (list_any (λ b. eqb b a) (take n xs))) ≡ all_below (λ q. z || not (eqb a (get_or xs q d))) n) [
  | true ↦ sym (all_true n)
  | false ↦ not_any (λ b. eqb b a) (take n xs) ∙ all_before (λ b. not (eqb b a)) d xs n l ∙ all_same _ _ n (λ q m. ap not (eqb_sym (get_or xs q d) a))
]

-- no address stands in two places
pub distinct_addresses : (at : List ℕ) (x : Interface) → at ≡ four x
    → list_all (λ (p : ℕ × ℕ). eqb p.1 0 || not (list_any (λ b. eqb b p.1) (take p.0 at))) (enumerate_from 0 at)
    ≡ all_below (λ p. all_below (λ q. eqb (address_of x p) 0 || not (eqb (address_of x p) (address_of x q))) p) 4
unfolding all_below
distinct_addresses at x e =
    rw e (all_numbered (λ (p : ℕ × ℕ). eqb p.1 0 || not (list_any (λ b. eqb b p.1) (take p.0 (four x)))) 0 (four x) 4 refl
    ∙ all_same _ _ 4 (λ p l. absent (get_or (four x) p 0) 0 (four x) p (omega arith)))

-- ---- one of four

pub any_four : {A : Type 0} (f : A → Bool) (d : A) (xs : List A) → length xs ≡ 4
    → list_any f xs ≡ (f (get_or xs 0 d) || f (get_or xs 1 d) || f (get_or xs 2 d) || f (get_or xs 3 d))
any_four f d [] l = absurd (omega arith)
any_four f d (p ∷ []) l = absurd (omega arith)
any_four f d (p ∷ q ∷ []) l = absurd (omega arith)
any_four f d (p ∷ q ∷ r ∷ []) l = absurd (omega arith)
any_four f d (p ∷ q ∷ r ∷ s ∷ []) l = simp (or_assoc, or-false)
any_four f d (p ∷ q ∷ r ∷ s ∷ t ∷ xs) l = absurd (omega arith)

-- ---- the first that passes

pub find_is : {A : Type 0} (f : A → Bool) (d : A) (xs : List A) (n : ℕ) → length xs ≡ n
    → unwrap_or (find f xs) d ≡ get_or xs (lowest (λ i. f (get_or xs i d)) n 0) d
find_is f d xs n e =
    ap (λ o. unwrap_or o d) (find_at f xs) ∙ unwrap_or-slice_get xs (position_or_len f xs) d ∙ ap (λ (i : ℕ). get_or xs i d) (position_is f d xs n e)

-- ---- one place of the interfaces

pub used_place : (is : List Interface) (n i : ℕ) → i < n
    → place_ok is n i ≡ (interface_ok (interface_in is i) && all_below (λ j. pair_apart (interface_in is j) (interface_in is i)) i)
used_place is n i l = simp (lt-ltb i n l) (and_comm _ (interface_ok (interface_in is i)))

pub unused_place : (is : List Interface) (n i : ℕ) → n ≤ i → place_ok is n i ≡ blank (interface_in is i)
unused_place is n i l = simp (le-ltb i n l, all_true)
