-- Our own addresses, and the interface that has one.
-- Assumes nothing.
use mathlib.Core.Path.{◌≡◌, refl, sym, ap, ◌∙◌}
use mathlib.Core.List.{List}
use mathlib.Core.Logic.{◌≢◌, ◌⊎◌, inl, inr, ⊎_elim}
use mathlib.Core.Bool.{true, false}
use Prim.Native.Nat.{ℕ, zero, suc, ◌<◌}
use native.Mathlib.Omega.{arith}
use Rattle.std.proofs.lemmas.Bool.{cases_lt}
use Rattle.laws.specs.Decides.{Decides}
use Rattle.laws.proofs.Below.{lowest_passes, lowest_before}
use Rattle.laws.proofs.Decide.{d_yes, f_eq, d_not, d_and, d_or, d_to}
use Rattle.net.specs.Address.{loopback, martian}
use Rattle.state.specs.declared.Interface.{Interface}
use Rattle.state.specs.Places.{interface_in, no_interface}
use Rattle.state.specs.Interfaces.{address_of, holds, own, holder}
use Rattle.state.specs.Plain.{Opened}
use Rattle.state.proofs.Opened.{holds_is}

-- an address of ours stands with one of the four interfaces
pub record Own (is : List Interface) (a : ℕ) : Type 0 where
  pub some : a ≢ 0
  pub at : ℕ
  pub small : at < 4
  pub held : holds (interface_in is at) a ≡ true

pub own_is : (is : List Interface) (a : ℕ) → Decides (own is a) (Own is a)
unfolding own
own_is is a =
    d_to (d_and (d_not (f_eq a 0)) (d_or (d_or (d_or (d_yes (holds (interface_in is 0) a)) (d_yes (holds (interface_in is 1) a))) (d_yes (holds (interface_in is 2) a))) (d_yes (holds (interface_in is 3) a))))
    (λ p. ⊎_elim (λ u. ⊎_elim (λ v. ⊎_elim (λ e. at p.0 0 (omega arith) e) (λ e. at p.0 1 (omega arith) e) v) (λ e. at p.0 2 (omega arith) e) u) (λ e. at p.0 3 (omega arith) e) p.1)
    (λ o. (o.some, place o.at o.small o.held))
  where
    at : a ≢ 0 → (i : ℕ) → i < 4 → holds (interface_in is i) a ≡ true → Own is a
    at n i l e = record { some = n; at = i; small = l; held = e }

    place : (i : ℕ) → i < 4 → holds (interface_in is i) a ≡ true
        → (((holds (interface_in is 0) a ≡ true) ⊎ (holds (interface_in is 1) a ≡ true)) ⊎ (holds (interface_in is 2) a ≡ true)) ⊎ (holds (interface_in is 3) a ≡ true)
    place zero l e = inl (inl (inl e))
    place (suc zero) l e = inl (inl (inr e))
    place (suc (suc zero)) l e = inl (inr e)
    place (suc (suc (suc zero))) l e = inr e
    place (suc (suc (suc (suc i)))) l e = absurd (omega arith)

-- ---- the interface that has it

module _ (is : List Interface) (a : ℕ) (mine : own is a ≡ true) where
  there : Own is a
  there = (own_is is a).says mine

  pub holder_small : holder is a < 4
  unfolding holder
  holder_small = omega (arith, there.small, lowest_before (λ i. holds (interface_in is i) a) 4 0 there.at (omega arith) there.held)

  pub holder_holds : holds (interface_in is (holder is a)) a ≡ true
  unfolding holder
  holder_holds = lowest_passes (λ i. holds (interface_in is i) a) 4 0 (omega (arith, holder_small))

-- ---- where the interfaces are accepted

module _ {is : List Interface} {n : ℕ} (o : Opened is n) (a : ℕ) (some : a ≢ 0) where
  -- an interface that has an address is in use
  pub holds_used : (i : ℕ) → i < 4 → holds (interface_in is i) a ≡ true → i < n
  holds_used i l e =
      ⊎_elim (λ w. w)
      (λ w. let h = (holds_is (interface_in is i) a).says e in
      absurd (some (sym h.2 ∙ ap (λ (x : Interface). address_of x h.0) (o.unused i w l) ∙ nothing h.0)))
      (cases_lt i n)
    where
      nothing : (p : ℕ) → address_of no_interface p ≡ 0
      nothing zero = refl
      nothing (suc zero) = refl
      nothing (suc (suc zero)) = refl
      nothing (suc (suc (suc zero))) = refl
      nothing (suc (suc (suc (suc p)))) = refl

  -- and it is the only one
  pub holds_one : (i j : ℕ) → i < 4 → j < 4 → holds (interface_in is i) a ≡ true → holds (interface_in is j) a ≡ true → i ≡ j
  holds_one i j l m e f =
      let g = (holds_is (interface_in is i) a).says e in
      let h = (holds_is (interface_in is j) a).says f in
      (o.distinct i j g.0 h.0 a (holds_used i l e) (holds_used j m f) (g.1, g.2, some) (h.1, h.2, some)).0

  -- an address of ours is neither loopback nor martian
  pub own_usable : own is a ≡ true → (loopback a ≡ false) × (martian a ≡ false)
  own_usable e =
      let w = (own_is is a).says e in
      let h = (holds_is (interface_in is w.at) a).says w.held in
      o.usable w.at h.0 a (holds_used w.at w.small w.held) (h.1, h.2, some)

-- the primary address of an interface in use is our own
pub primary_own : {is : List Interface} {n : ℕ} → Opened is n → (i : ℕ) → i < n → own is (interface_in is i).first ≡ true
primary_own {is} {n} o i l =
    (own_is is (interface_in is i).first).back
    (record { some = (o.addressed i l).primary; at = i; small = omega (arith, o.few); held = (holds_is (interface_in is i) _).back (0, omega arith, refl) })
