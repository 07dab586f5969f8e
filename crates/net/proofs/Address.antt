-- The classes of addresses are their ranges, and to be equal under a mask is an equivalence.
-- Assumes nothing.
use mathlib.Core.Path.{◌≡◌, refl, sym, ◌∙◌}
use mathlib.Core.Bool.{true}
use mathlib.Core.Logic.{⊎_elim, inl, inr}
use Prim.Native.Nat.{ℕ, ◌/◌}
use native.Mathlib.Omega.{arith}
use lib.Bits.{bit_and}
use Rattle.laws.specs.Decides.{Decides}
use Rattle.laws.proofs.Decide.{d_eq, d_le, d_or, d_to}
use Rattle.net.specs.Address.{loopback, martian, agree, InLoopback, InMartian}

pub loopback_is : (a : ℕ) → Decides (loopback a) (InLoopback a)
loopback_is a = d_to (d_eq (a / 16777216) 127) (λ e. (omega arith, omega arith)) (λ p. omega (arith, p.0, p.1))

pub martian_is : (a : ℕ) → Decides (martian a) (InMartian a)
martian_is a =
    d_to (d_or (d_eq (a / 16777216) 0) (d_le 224 (a / 16777216)))
    (λ p. ⊎_elim (λ e. inl (omega arith)) (λ e. inr (omega arith)) p)
    (λ p. ⊎_elim (λ e. inl (omega arith)) (λ e. inr (omega arith)) p)

-- ---- equal under a mask

agree_is : (a b mask : ℕ) → Decides (agree a b mask) (bit_and a mask ≡ bit_and b mask)
agree_is a b mask = d_eq (bit_and a mask) (bit_and b mask)

pub agree_refl : (a mask : ℕ) → agree a a mask ≡ true
agree_refl a mask = (agree_is a a mask).back refl

pub agree_sym : (a b mask : ℕ) → agree a b mask ≡ true → agree b a mask ≡ true
agree_sym a b mask e = (agree_is b a mask).back (sym ((agree_is a b mask).says e))

pub agree_trans : (a b c mask : ℕ) → agree a b mask ≡ true → agree b c mask ≡ true → agree a c mask ≡ true
agree_trans a b c mask e f = (agree_is a c mask).back ((agree_is a b mask).says e ∙ (agree_is b c mask).says f)
