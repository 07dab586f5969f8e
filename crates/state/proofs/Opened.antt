-- The opening check decides its plain statement.
-- Assumes nothing.
use mathlib.Core.Path.{◌≡◌, refl, sym, ap, ◌∙◌}
use mathlib.Core.List.{List}
use mathlib.Core.Logic.{◌≢◌, ◌⊎◌, inl, inr, ⊎_elim}
use mathlib.Core.Bool.{true, false}
use Prim.Native.Nat.{ℕ, zero, suc, ◌<◌, ◌≤◌}
use native.Mathlib.Omega.{arith}
use Rattle.std.proofs.lemmas.Bool.{cases_Bool, cases_eq}
use Rattle.laws.specs.Decides.{Decides}
use Rattle.laws.proofs.Numbers.{apart}
use Rattle.laws.proofs.Tests.{not_both}
use Rattle.laws.proofs.Decide.{d_eq, f_eq, d_le, d_lt, f_lt, d_yes, d_to, d_not, f_not, d_and, d_or, f_absurd, d_unless, d_cond, d_all}
use Rattle.net.specs.Address.{loopback, martian, agree}
use Rattle.net.proofs.Address.{agree_sym, agree_trans}
use Rattle.state.specs.declared.Interface.{Interface}
use Rattle.state.specs.Places.{interface_in, no_interface}
use Rattle.state.specs.Interfaces.{address_of, addressed, in_one_net, distinct_within, acceptable, usable, interface_ok, blank, holds, pair_apart, place_ok, opening_ok}
use Rattle.state.specs.Plain.{HasAt, Addressed, Opened}

-- ---- a place that is not in use

blank_is : (x : Interface) → Decides (blank x) (x ≡ no_interface)
blank_is x =
    d_to (d_and (d_and (d_and (d_and (d_and (d_eq x.mask 0) (d_eq x.first 0)) (d_eq x.second 0)) (d_eq x.third 0)) (d_eq x.fourth 0)) (d_eq x.id.0 0))
    (λ p. join _ _ _ _ _ _ p.0.0.0.0.0 p.0.0.0.0.1 p.0.0.0.1 p.0.0.1 p.0.1 p.1)
    (λ e. (((((ap (λ (y : Interface). y.mask) e, ap (λ (y : Interface). y.first) e), ap (λ (y : Interface). y.second) e), ap (λ (y : Interface). y.third) e), ap (λ (y : Interface). y.fourth) e), ap (λ (y : Interface). y.id.0) e))
  where
    join : (mask first second third fourth id : ℕ) → mask ≡ 0 → first ≡ 0 → second ≡ 0 → third ≡ 0 → fourth ≡ 0 → id ≡ 0
        → ◌≡◌ {A = Interface} (record { mask = mask; first = first; second = second; third = third; fourth = fourth; id = record { 0 = id } }) no_interface
    join a b c d e f ea eb ec ed ee ef = rw (ea, eb, ec, ed, ee, ef)

-- ---- one interface, clause by clause

addressed_is : (x : Interface) → Decides (addressed x) (Addressed x)
unfolding addressed
addressed_is x =
    d_to (d_and (d_not (f_eq x.first 0)) (d_all {P = λ p. address_of x p ≡ 0 → address_of x (suc p) ≡ 0} (λ p l. d_unless (f_not (d_eq (address_of x p) 0)) (d_eq (address_of x (suc p)) 0))))
    (λ p. record { primary = p.0; dense = p.1 })
    (λ w. (w.primary, w.dense))

-- each address agrees with the first
abbrev AgreedFirst : Interface → Type 0
AgreedFirst x = (p : ℕ) → p < 4 → address_of x p ≢ 0 → agree (address_of x p) x.first x.mask ≡ true

one_net_is : (x : Interface) → Decides (in_one_net x) (AgreedFirst x)
unfolding in_one_net
one_net_is x = d_all (λ p l. d_unless (f_eq (address_of x p) 0) (d_yes (agree (address_of x p) x.first x.mask)))

-- an address stands in no earlier place
abbrev DistinctWithin : Interface → Type 0
DistinctWithin x = (p : ℕ) → p < 4 → (q : ℕ) → q < p → address_of x p ≢ 0 → address_of x p ≢ address_of x q

distinct_is : (x : Interface) → Decides (distinct_within x) (DistinctWithin x)
unfolding distinct_within
distinct_is x = d_all (λ p l. d_all (λ q m. d_unless (f_eq (address_of x p) 0) (d_not (f_eq (address_of x p) (address_of x q)))))

abbrev Usable : Interface → Type 0
Usable x = (p : ℕ) → p < 4 → address_of x p ≢ 0 → (loopback (address_of x p) ≡ false) × (martian (address_of x p) ≡ false)

acceptable_is : (a : ℕ) → Decides (acceptable a) (a ≢ 0 → (loopback a ≡ false) × (martian a ≡ false))
acceptable_is a =
    d_unless (f_eq a 0)
    (d_to (d_not (f_absurd (d_or (d_yes (martian a)) (d_yes (loopback a)))))
    (λ n. (⊎_elim (λ e. absurd (n (inr e))) (λ e. e) (cases_Bool (loopback a)), ⊎_elim (λ e. absurd (n (inl e))) (λ e. e) (cases_Bool (martian a))))
    (λ p q. ⊎_elim (λ e. not_both e p.1) (λ e. not_both e p.0) q))

usable_is : (x : Interface) → Decides (usable x) (Usable x)
unfolding usable
usable_is x = d_all (λ p l. acceptable_is (address_of x p))

-- all of them
record InterfaceFit (x : Interface) : Type 0 where
  id : x.id.0 ≢ 0
  addressed : Addressed x
  agreed : AgreedFirst x
  distinct : DistinctWithin x
  usable : Usable x

interface_is : (x : Interface) → Decides (interface_ok x) (InterfaceFit x)
interface_is x =
    d_to (d_and (d_and (d_and (d_and (d_not (f_eq x.id.0 0)) (addressed_is x)) (one_net_is x)) (distinct_is x)) (usable_is x))
    (λ p. record { id = p.0.0.0.0; addressed = p.0.0.0.1; agreed = p.0.0.1; distinct = p.0.1; usable = p.1 })
    (λ w. ((((w.id, w.addressed), w.agreed), w.distinct), w.usable))

-- ---- two interfaces

-- a stands in some place
abbrev pub Has : Interface → ℕ → Type 0
Has x a = (p : ℕ) × (p < 4) × (address_of x p ≡ a)

pub holds_is : (x : Interface) (a : ℕ) → Decides (holds x a) (Has x a)
holds_is x a =
    d_to (d_or (d_or (d_or (d_eq x.first a) (d_eq x.second a)) (d_eq x.third a)) (d_eq x.fourth a))
    (λ q. ⊎_elim (λ u. ⊎_elim (λ v. ⊎_elim (λ e. (0, omega arith, e)) (λ e. (1, omega arith, e)) v) (λ e. (2, omega arith, e)) u) (λ e. (3, omega arith, e)) q)
    (λ h. place h.0 h.1 h.2)
  where
    place : (p : ℕ) → p < 4 → address_of x p ≡ a → (((x.first ≡ a) ⊎ (x.second ≡ a)) ⊎ (x.third ≡ a)) ⊎ (x.fourth ≡ a)
    place zero l e = inl (inl (inl e))
    place (suc zero) l e = inl (inl (inr e))
    place (suc (suc zero)) l e = inl (inr e)
    place (suc (suc (suc zero))) l e = inr e
    place (suc (suc (suc (suc p)))) l e = absurd (omega arith)

record PairFit (x y : Interface) : Type 0 where
  ids : x.id.0 ≢ y.id.0
  addresses : (p : ℕ) → p < 4 → address_of y p ≢ 0 → Has x (address_of y p) → ⊥

pair_is : (x y : Interface) → Decides (pair_apart x y) (PairFit x y)
unfolding pair_apart
pair_is x y =
    d_to (d_and (d_not (f_eq x.id.0 y.id.0)) (d_all (λ p l. d_unless (f_eq (address_of y p) 0) (d_not (f_absurd (holds_is x (address_of y p)))))))
    (λ p. record { ids = p.0; addresses = p.1 })
    (λ w. (w.ids, w.addresses))

-- ---- all of them

record PlaceFit (is : List Interface) (n i : ℕ) : Type 0 where
  used : i < n → InterfaceFit (interface_in is i)
  unused : n ≤ i → interface_in is i ≡ no_interface
  earlier : i < n → (j : ℕ) → j < i → PairFit (interface_in is j) (interface_in is i)

place_is : (is : List Interface) (n i : ℕ) → Decides (place_ok is n i) (PlaceFit is n i)
place_is is n i =
    d_to
    (d_and (d_all (λ j m. d_cond (d_lt i n) (f_lt i n) (pair_is (interface_in is j) (interface_in is i)) (d_yes true)))
    (d_cond (d_lt i n) (f_lt i n) (interface_is (interface_in is i)) (blank_is (interface_in is i))))
    (λ p. record { used = p.1.0; unused = p.1.1; earlier = λ u j m. (p.0 j m).0 u })
    (λ w. (λ j m. (λ u. w.earlier u j m, λ v. refl), (w.used, w.unused)))

-- from each place to the statement as document 01 has it
module _ {is : List Interface} {n : ℕ} (few : n ≤ 4) (fit : (i : ℕ) → i < 4 → PlaceFit is n i) where
  here : (i : ℕ) → i < n → InterfaceFit (interface_in is i)
  here i l = (fit i (omega arith)).used l

  pair : (j i : ℕ) → i < n → j < i → PairFit (interface_in is j) (interface_in is i)
  pair j i l m = (fit i (omega arith)).earlier l j m

  first_agreed : (i p a : ℕ) → i < n → HasAt (interface_in is i) p a → agree a (interface_in is i).first (interface_in is i).mask ≡ true
  first_agreed i p a l g =
      ap (λ (x : ℕ). agree x (interface_in is i).first (interface_in is i).mask) (sym g.1) ∙ (here i l).agreed p g.0 (λ z. g.2 (sym g.1 ∙ z))

  all_agreed : (i p q a b : ℕ) → i < n → HasAt (interface_in is i) p a → HasAt (interface_in is i) q b → agree a b (interface_in is i).mask ≡ true
  all_agreed i p q a b l g h =
      agree_trans a (interface_in is i).first b (interface_in is i).mask (first_agreed i p a l g)
      (agree_sym b (interface_in is i).first (interface_in is i).mask (first_agreed i q b l h))

  one_place : (i p q a : ℕ) → i < n → HasAt (interface_in is i) p a → HasAt (interface_in is i) q a → p ≡ q
  one_place i p q a l g h =
      ⊎_elim (λ e. e)
      (λ d. ⊎_elim (λ (m : p < q). absurd ((here i l).distinct q h.0 p m (λ z. h.2 (sym h.1 ∙ z)) (h.1 ∙ sym g.1)))
      (λ (m : q < p). absurd ((here i l).distinct p g.0 q m (λ z. g.2 (sym g.1 ∙ z)) (g.1 ∙ sym h.1))) (apart p q d))
      (cases_eq p q)

  two_places : (i j p q a : ℕ) → i < n → j < i → HasAt (interface_in is i) p a → HasAt (interface_in is j) q a → ⊥
  two_places i j p q a l m g h = (pair j i l m).addresses p g.0 (λ z. g.2 (sym g.1 ∙ z)) (q, h.0, h.1 ∙ sym g.1)

  all_distinct : (i j p q a : ℕ) → i < n → j < n → HasAt (interface_in is i) p a → HasAt (interface_in is j) q a → (i ≡ j) × (p ≡ q)
  all_distinct i j p q a l m g h =
      ⊎_elim (λ (e : i ≡ j). (e, one_place i p q a l g (rw e h)))
      (λ d. ⊎_elim (λ (w : i < j). absurd (two_places j i q p a m w h g)) (λ (w : j < i). absurd (two_places i j p q a l w g h)) (apart i j d))
      (cases_eq i j)

  opened : Opened is n
  opened =
      record {
        few = few;
        ids = λ i l. (here i l).id;
        others = λ i j l m d. ⊎_elim (λ (w : i < j). (pair i j m w).ids) (λ (w : j < i) e. (pair j i l w).ids (sym e)) (apart i j d);
        addressed = λ i l. (here i l).addressed;
        agreed = all_agreed;
        distinct = all_distinct;
        usable = λ i p a l g. let u = (here i l).usable p g.0 (λ z. g.2 (sym g.1 ∙ z)) in rw g.1 at u;
        unused = λ i l m. (fit i m).unused l;
      }

-- and back
module _ {is : List Interface} {n : ℕ} (o : Opened is n) where
  at_place : (i p : ℕ) → p < 4 → address_of (interface_in is i) p ≢ 0 → HasAt (interface_in is i) p (address_of (interface_in is i) p)
  at_place i p l d = (l, refl, d)

  interface_fit : (i : ℕ) → i < n → InterfaceFit (interface_in is i)
  interface_fit i l =
      record {
        id = o.ids i l;
        addressed = o.addressed i l;
        agreed = λ p m d. o.agreed i p 0 (address_of (interface_in is i) p) (interface_in is i).first l (at_place i p m d) (omega arith, refl, (o.addressed i l).primary);
        distinct = λ p m q w d e. let s = (o.distinct i i p q (address_of (interface_in is i) p) l l (at_place i p m d) (omega arith, sym e, d)).1 in omega arith;
        usable = λ p m d. o.usable i p (address_of (interface_in is i) p) l (at_place i p m d);
      }

  place_fit : (i : ℕ) → i < 4 → PlaceFit is n i
  place_fit i l =
      record {
        used = interface_fit i;
        unused = λ m. o.unused i m l;
        earlier =
            λ u j m. record {
              ids = o.others j i (omega arith) u (λ e. omega arith);
              addresses = λ p w d h. let s = (o.distinct j i h.0 p (address_of (interface_in is i) p) (omega arith) u (h.1, h.2, d) (at_place i p w d)).0 in omega arith;
            };
      }

pub opened_is : (is : List Interface) (n : ℕ) → Decides (opening_ok is n) (Opened is n)
unfolding opening_ok
opened_is is n = d_to (d_and (d_le n 4) (d_all (λ i l. place_is is n i))) (λ p. opened p.0 p.1) (λ o. (o.few, place_fit o))
