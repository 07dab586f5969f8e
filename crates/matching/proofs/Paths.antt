-- The route's source: what it is in each of its cases, and that it is our own.
-- Assumes nothing.
use mathlib.Core.Path.{◌≡◌, refl, sym, ap, ◌∙◌}
use mathlib.Core.List.{List}
use mathlib.Core.Logic.{◌≢◌, ⊎_elim}
use mathlib.Core.Bool.{Bool, true, false}
use Prim.Native.Nat.{ℕ, ◌+◌, ◌<◌, ◌≤◌}
use native.Mathlib.Omega.{arith}
use lib.Dec.{ltb, leb}
use borrow.Author.Tests.{eq-eqb, ne_eqb, lt-ltb, le-ltb, le-leb, leb-true, leb-false, ltb-true}
use Rattle.std.proofs.lemmas.Bool.{cases_Bool, cases_eq, cases_lt, cond_both, or_right}
use Rattle.laws.proofs.Numbers.{positive}
use Rattle.std.specs.List.{find, slice_get}
use Rattle.std.specs.Option.{option_or, option_map_or, option_copied}
use Rattle.std.specs.Prelude.{Option, None, Some, min}
use Rattle.std.proofs.Common.{Bor}
use Rattle.std.proofs.lemmas.List.{get_or-take, length-take-le}
use Rattle.std.proofs.lemmas.List.Folds.{find_at}
use Rattle.std.proofs.lemmas.Option.{slice_get-get_or, slice_get_past}
use lib.ListN.{length, take}
use Rattle.laws.proofs.Below.{lowest_is, lowest_fails, lowest_same, position_is}
use Rattle.net.specs.Address.{loopback, localhost}
use Rattle.state.specs.declared.Interface.{Interface}
use Rattle.state.specs.Places.{no_interface, interface_in}
use Rattle.state.specs.Interfaces.{own, ours}
use Rattle.state.specs.Plain.{Opened}
use Rattle.state.proofs.Own.{primary_own}
use Rattle.matching.specs.Routes.{reaches, first_reaching, route_via, four_of, source_among, route_source}

-- ---- as it is computed

pub via_found : (is : List Interface) (n dst i : ℕ) → i < n → first_reaching is n dst ≡ i → i ≡ route_via is n dst
unfolding route_via
via_found is n dst i l e = rw e (simp (lt-ltb i n l))

pub via_none : (is : List Interface) (n dst : ℕ) → first_reaching is n dst ≡ 0 + n → 0 ≡ route_via is n dst
unfolding route_via
via_none is n dst e = let q : n ≤ first_reaching is n dst = omega arith in simp (le-ltb (first_reaching is n dst) n q)

-- among the interfaces in use: the first that reaches it, else the first
pub among_is : (is : List Interface) (m dst : ℕ) → m ≤ length is
    → option_map_or (λ (x : Interface). x.first) (option_or (find (λ x. reaches x dst) (take m is)) (slice_get (take m is) 0)) 0 ≡ source_among is m dst
unfolding route_via
among_is is m dst l =
    let xs = take m is in
    let f : ℕ → Bool = λ i. reaches (interface_in is i) dst in
    let size : length xs ≡ m = length-take-le m is l in
    let at : (i : ℕ) → i < m → interface_in xs i ≡ interface_in is i = λ i h. get_or-take m is i no_interface h in
    let test : Interface → Bool = λ x. reaches x dst in
    let first = position_is test no_interface xs m size ∙ lowest_same (λ i. test (interface_in xs i)) f m 0 (λ i _ h. ap test (at i (omega arith))) in
    let there : find test xs ≡ slice_get xs (first_reaching is m dst) = find_at test xs ∙ ap (slice_get xs) first in
    let some : (i : ℕ) → i < m → slice_get xs i ≡ Some (interface_in is i) = λ i h. slice_get-get_or xs i no_interface (omega arith) ∙ ap Some (at i h) in
    let none : (i : ℕ) → m ≤ i → slice_get xs i ≡ None = λ i h. slice_get_past xs i (omega arith) in
    ⊎_elim
    (λ (z : m ≡ 0). rw (there, none (first_reaching is m dst) (omega arith), none 0 (omega arith), eq-eqb m 0 z) refl)
    (λ (d : m ≢ 0). ⊎_elim
    (λ (w : first_reaching is m dst < m). rw (there, some (first_reaching is m dst) w, ne_eqb m 0 d, lt-ltb (first_reaching is m dst) m w) refl)
    (λ (w : m ≤ first_reaching is m dst). rw (there, none (first_reaching is m dst) w, some 0 (positive m d), ne_eqb m 0 d, le-ltb (first_reaching is m dst) m w) refl)
    (cases_lt (first_reaching is m dst) m))
    (cases_eq m 0)

pub source_loopback : (is : List Interface) (n dst : ℕ) {m : Bool} → m ≡ loopback dst → m ≡ true → localhost ≡ route_source is n dst
unfolding route_source
source_loopback is n dst e t = let q : loopback dst ≡ true = sym e ∙ t in simp q

pub source_none : (is : List Interface) (n dst : ℕ) {m : Bool} {u : ℕ} → m ≡ loopback dst → m ≡ false → u ≡ four_of n → u ≡ 0 → 0 ≡ route_source is n dst
unfolding route_source
source_none is n dst e t f z = let q : loopback dst ≡ false = sym e ∙ t in simp (q, eq-eqb (four_of n) 0 (sym f ∙ z))

pub source_via : (is : List Interface) (n dst i : ℕ) {m : Bool} {u : ℕ} → m ≡ loopback dst → m ≡ false → u ≡ four_of n → u ≢ 0 → i ≡ route_via is u dst
    → (interface_in is i).first ≡ route_source is n dst
unfolding route_source
source_via is n dst i {m} {u} e t f d v =
    let q : loopback dst ≡ false = sym e ∙ t in
    let w : four_of n ≢ 0 = λ z. d (f ∙ z) in
    simp (q, ne_eqb (four_of n) 0 w) (ap (λ (j : ℕ). (interface_in is j).first) (v ∙ ap (λ (x : ℕ). route_via is x dst) f))

four_min : (n : ℕ) → min n 4 ≡ four_of n
four_min n = cond_both (leb n 4) n 4 (λ (m : ℕ). min n 4 ≡ m) (λ e. omega (arith, leb-true _ _ e)) (λ e. omega (arith, leb-false _ _ e))

behind : (r f : Option (Bor Interface)) → option_map_or (λ (x : Bor Interface). x.now.first) (option_or r f) 0 ≡ option_map_or (λ (x : Interface). x.first) (option_or (option_copied r) (option_copied f)) 0
behind None None = refl
behind None (Some y) = refl
behind (Some x) f = refl

-- the same, of the first four at most, and behind references
pub source_first : (is : List Interface) (n dst : ℕ) {b : Bool} {m : ℕ} (r f : Option (Bor Interface)) → length is ≡ 4 → b ≡ loopback dst → b ≡ false → m ≡ min n 4
    → option_copied r ≡ find (λ (x : Interface). reaches x dst) (take m is) → option_copied f ≡ slice_get (take m is) 0
    → option_map_or (λ (x : Bor Interface). x.now.first) (option_or r f) 0 ≡ route_source is n dst
unfolding route_source
source_first is n dst {b} {m} r f size e t k er ef =
    let q : loopback dst ≡ false = sym e ∙ t in
    let g : m ≡ four_of n = k ∙ four_min n in
    let u = rw (← er, ← ef) at (among_is is m dst (omega arith)) in
    rw (q, ← g) (behind r f ∙ u)

four_is : (n : ℕ) → n ≤ 4 → four_of n ≡ n
four_is n l = simp (le-leb n 4 l)

-- ---- the theorem: document 01's four cases, of at most 4 interfaces

pub record Route (is : List Interface) (n dst : ℕ) (a : ℕ) : Type 0 where
  -- destination in LOOPBACK: 127.0.0.1
  pub inside : loopback dst ≡ true → a ≡ localhost
  -- else the primary of the first interface whose primary agrees with it under the mask
  pub agreeing : loopback dst ≡ false → (i : ℕ) → i < n → reaches (interface_in is i) dst ≡ true → ((j : ℕ) → j < i → reaches (interface_in is j) dst ≡ false) → a ≡ (interface_in is i).first
  -- else the first interface's primary
  pub else_first : loopback dst ≡ false → n ≢ 0 → ((i : ℕ) → i < n → reaches (interface_in is i) dst ≡ false) → a ≡ (interface_in is 0).first
  -- with no interface, none
  pub none : loopback dst ≡ false → n ≡ 0 → a ≡ 0

pub route_is : (is : List Interface) (n dst : ℕ) → n ≤ 4 → Route is n dst (route_source is n dst)
route_is is n dst few =
    let f : n ≡ four_of n = sym (four_is n few) in
    record {
      inside = λ e. sym (source_loopback is n dst refl e);
      agreeing = λ e i l r less. sym (source_via is n dst i refl e f (λ z. omega arith) (via_found is n dst i l (lowest_is (λ j. reaches (interface_in is j) dst) n 0 i (omega arith) (omega arith) r (λ j _ m. less j m))));
      else_first = λ e d none. sym (source_via is n dst 0 refl e f d (via_none is n dst (lowest_fails (λ j. reaches (interface_in is j) dst) n 0 (λ i _ m. none i (omega arith)))));
      none = λ e z. sym (source_none is n dst refl e f z);
    }

-- ---- where the interfaces are accepted, a source is our own

via_small : (is : List Interface) (n dst : ℕ) → n ≢ 0 → route_via is n dst < n
unfolding route_via
via_small is n dst d =
    cond_both (ltb (first_reaching is n dst) n) _ _ (λ (i : ℕ). i < n) (λ e. ltb-true _ _ e) (λ e. ⊎_elim (λ (w : n < 1). absurd (d (omega arith))) (λ (w : 1 ≤ n). omega arith) (cases_lt n 1))

pub source_ours : {is : List Interface} {n : ℕ} → Opened is n → (dst : ℕ) → route_source is n dst ≢ 0 → ours is (route_source is n dst) ≡ true
source_ours {is} {n} o dst d =
    let f : n ≡ four_of n = sym (four_is n o.few) in
    ⊎_elim
    (λ (e : loopback dst ≡ true). let q = source_loopback is n dst refl e in rw (sym q) refl)
    (λ (e : loopback dst ≡ false). ⊎_elim
    (λ (z : n ≡ 0). absurd (d (sym (source_none is n dst refl e f z))))
    (λ (z : n ≢ 0). let q = source_via is n dst (route_via is n dst) refl e f z refl in
    or_right (loopback (route_source is n dst)) (own is (route_source is n dst)) (ap (own is) (sym q) ∙ primary_own o (route_via is n dst) (via_small is n dst z)))
    (cases_eq n 0))
    (cases_Bool (loopback dst))
