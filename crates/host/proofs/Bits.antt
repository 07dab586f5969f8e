-- Laws of `ready_below`, for the loop that computes it.
-- Assumes nothing.
use mathlib.Core.Path.{◌≡◌, refl, ap, ◌∙◌}
use mathlib.Core.List.{List}
use mathlib.Core.Bool.{Bool, true, false, ◌&&◌, ◌||◌, not, cond}
use Prim.Native.Nat.{ℕ, zero, suc, ◌+◌, ◌*◌, ◌^◌, ◌<◌, ◌≤◌}
use native.Mathlib.Numerals.{add-one}
use native.Mathlib.Omega.{arith}
use native.Mathlib.Nat.{pow-suc}
use lib.Dec.{eqb}
use lib.ListN.{replicate, get_or-replicate}
use lib.Pow.{pow_mono}
use Rattle.std.proofs.lemmas.Bool.{cond_both}
use Rattle.state.specs.declared.Socket.{Socket}
use Rattle.state.specs.Places.{socket_in}
use Rattle.host.specs.Polling.{bit, ready_by, ready_below}

-- what bit i adds
abbrev pub added : ℕ → (ℕ → Bool) → ℕ → ℕ
added mask f i = cond (bit mask i && f i) (2 ^ i) 0

-- a loop that gathers the ready bits below i
pub record Gathered (mask : ℕ) (f : ℕ → Bool) (i bits : ℕ) : Type 0 where
  pub is : bits ≡ ready_below mask f i

pub ready_start : (mask : ℕ) (f : ℕ → Bool) → Gathered mask f 0 0
unfolding ready_below
ready_start mask f = record { is = refl }

pub ready_turn : {mask : ℕ} {f : ℕ → Bool} {i bits b : ℕ} → Gathered mask f i bits → b ≡ added mask f i → Gathered mask f (i + 1) (bits + b)
unfolding ready_below
ready_turn {i = i} g e = record { is = rw (g.is, e, add-one i) }

pub ready_done : {mask : ℕ} {f : ℕ → Bool} {i bits : ℕ} → Gathered mask f i bits → (n : ℕ) → i ≤ n → n ≤ i → bits ≡ ready_below mask f n
ready_done {i = i} g n u v = let q : n ≡ i = omega arith in rw q g.is

-- they fit the mask's bits
added_upto : (mask : ℕ) (f : ℕ → Bool) (i : ℕ) → added mask f i ≤ 2 ^ i
added_upto mask f i = cond_both (bit mask i && f i) (2 ^ i) 0 (λ (m : ℕ). m ≤ 2 ^ i) (λ e. omega arith) (λ e. omega arith)

ready_small : (mask : ℕ) (f : ℕ → Bool) (n : ℕ) → ready_below mask f n < 2 ^ n
unfolding ready_below
ready_small mask f zero = omega arith
ready_small mask f (suc n) =
    let e : 2 ^ suc n ≡ 2 ^ n * 2 = pow-suc 2 n in
    omega (arith, ready_small mask f n, added_upto mask f n)

pub ready_fits : {mask : ℕ} {f : ℕ → Bool} {i bits b : ℕ} → Gathered mask f i bits → i < 16 → b ≡ added mask f i → bits + b < 2 ^ 16
ready_fits {mask} {f} {i} g l e =
    let s = (ready_turn g e).is in
    let q = ready_small mask f (i + 1) in
    let l' : i + 1 ≤ 16 = omega arith in
    let m : 2 ^ (i + 1) ≤ 2 ^ 16 = pow_mono l' in
    omega arith

-- the same descriptors ready
pub ready_same : (mask : ℕ) (f g : ℕ → Bool) (n : ℕ) → ((i : ℕ) → i < n → f i ≡ g i) → ready_below mask f n ≡ ready_below mask g n
unfolding ready_below
ready_same mask f g zero e = refl
ready_same mask f g (suc n) e = rw (ready_same mask f g n (λ i l. e i (omega arith)), e n (omega arith))

-- every descriptor marked, or none
pub marked_all : (room : Bool) (m : ℕ) (ks : List Socket) (i : ℕ) → m ≡ cond room 1 0 → i < 16 → ready_by ks (replicate 16 m) i ≡ (room || not (eqb (socket_in ks i).error 0))
marked_all room m ks i e l = ap (λ (n : ℕ). not (eqb n 0) || not (eqb (socket_in ks i).error 0)) (get_or-replicate 16 i m 0 l ∙ e) ∙ ap (λ (b : Bool). b || not (eqb (socket_in ks i).error 0)) (mark room)
  where
    mark : (room : Bool) → not (eqb (cond room 1 0) 0) ≡ room
    mark true = refl
    mark false = refl
