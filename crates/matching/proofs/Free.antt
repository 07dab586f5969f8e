-- Ports: what "not in use" says, and autobind always finds a port: n sockets cannot have all of n + 1.
-- Assumes nothing.
use mathlib.Core.Path.{◌≡◌, refl, sym, ap, ◌∙◌}
use mathlib.Core.List.{List}
use mathlib.Core.Logic.{◌≢◌, ◌⊎◌, inl, inr, ⊎_elim}
use mathlib.Core.Bool.{Bool, true, false, cond}
use Prim.Native.Nat.{ℕ, zero, suc, ◌+◌, ◌<◌, ◌≤◌}
use native.Mathlib.Omega.{arith}
use lib.Dec.{eqb}
use borrow.Author.Tests.{eq-eqb, ne_eqb}
use Rattle.std.proofs.lemmas.Bool.{cases_eq, cases_lt}
use Rattle.std.specs.Prelude.{Option, None, Some, IsSome}
use Rattle.std.specs.Option.{MatchOption}
use Rattle.laws.specs.Decides.{Decides, Fails}
use Rattle.laws.proofs.Tests.{not_both}
use Rattle.laws.proofs.Below.{lowest_from, lowest_least, lowest_passes, lowest_before}
use Rattle.laws.proofs.Decide.{d_eq, f_eq, d_yes, f_not, d_not, f_absurd, d_and, d_unless, d_all, d_to}
use Rattle.state.specs.declared.Socket.{Socket}
use Rattle.state.specs.Places.{socket_in}
use Rattle.state.specs.Plain.{Overlap}
use Rattle.state.proofs.Fits.{overlap_is}
use Rattle.matching.specs.Ports.{takes, in_use, port_free, auto_port}

-- ---- in use

-- s is open, has that port and an overlapping address, and not both have reuse
pub record Takes (s : Socket) (reuse : Bool) (a p : ℕ) : Type 0 where
  pub live : s.live ≡ true
  pub port : s.lport.0 ≡ p
  pub overlaps : Overlap s.laddr a
  pub unshared : (s.reuse ≡ true) × (reuse ≡ true) → ⊥

pub takes_is : (s : Socket) (reuse : Bool) (a p : ℕ) → Decides (takes s reuse a p) (Takes s reuse a p)
takes_is s reuse a p =
    d_to (d_and (d_and (d_and (d_yes s.live) (d_eq s.lport.0 p)) (overlap_is s.laddr a)) (d_not (f_absurd (d_and (d_yes s.reuse) (d_yes reuse)))))
    (λ q. record { live = q.0.0.0; port = q.0.0.1; overlaps = q.0.1; unshared = q.1 })
    (λ w. (((w.live, w.port), w.overlaps), w.unshared))

-- not in use: no other socket takes it
pub unused_is : (ks : List Socket) (k : ℕ) (reuse : Bool) (a p : ℕ) → Fails (in_use ks k reuse a p) ((j : ℕ) → j < 16 → j ≢ k → Takes (socket_in ks j) reuse a p → ⊥)
unfolding in_use
unused_is ks k reuse a p = f_not (d_all (λ j l. d_unless (f_eq j k) (d_not (f_absurd (takes_is (socket_in ks j) reuse a p)))))

-- ---- among n + 1 numbers one is none of n

record Spare (f : ℕ → ℕ) (n start : ℕ) : Type 0 where
  at : ℕ
  from : start ≤ at
  upto : at ≤ start + n
  other : (i : ℕ) → i < n → f i ≢ at

-- v is one of the first n, or not
found : (f : ℕ → ℕ) (v n : ℕ) → ((i : ℕ) × (i < n) × (f i ≡ v)) ⊎ ((i : ℕ) → i < n → f i ≢ v)
found f v zero = inr (λ i l. absurd (omega arith))
found f v (suc n) =
    ⊎_elim (λ x. inl (x.0, omega (arith, x.1), x.2))
    (λ x. ⊎_elim (λ e. inl (n, omega arith, e)) (λ d. inr (λ i l. ⊎_elim (λ w. x i w) (λ w. let q : i ≡ n = omega arith in rw q d) (cases_lt i n))) (cases_eq (f n) v))
    (found f v n)

-- the last in the place of the i-th
abbrev swapped : (ℕ → ℕ) → ℕ → ℕ → ℕ → ℕ
swapped f i n j = cond (eqb j i) (f n) (f j)

-- one of n + 1 is below `start`, and r is a number that none of the others is
spare_but : (f : ℕ → ℕ) (n start k : ℕ) → k < suc n → f k < start → (r : Spare (swapped f k n) n start) → (j : ℕ) → j < suc n → f j ≢ r.at
spare_but f n start k l low r j m q =
    ⊎_elim
    (λ (x : j ≡ k). let y : f k ≡ r.at = ap f (sym x) ∙ q in omega (arith, r.from))
    (λ (x : j ≢ k). ⊎_elim
    (λ (w : j < n). r.other j w (ap (λ (c : Bool). cond c (f n) (f j)) (ne_eqb j k x) ∙ q))
    (λ (w : n ≤ j). let y : j ≡ n = omega arith in
    r.other k (⊎_elim (λ v. v) (λ v. absurd (x (omega arith))) (cases_lt k n)) (ap (λ (c : Bool). cond c (f n) (f k)) (eq-eqb k k refl) ∙ ap f (sym y) ∙ q))
    (cases_lt j n))
    (cases_eq j k)

spare : (f : ℕ → ℕ) (n start : ℕ) → Spare f n start
spare f zero start = record { at = start; from = omega arith; upto = omega arith; other = λ i l. absurd (omega arith) }
spare f (suc n) start =
    ⊎_elim
    (λ x. let r = spare (swapped f x.0 n) n (start + 1) in
    record { at = r.at; from = omega (arith, r.from); upto = omega (arith, r.upto); other = spare_but f n (start + 1) x.0 x.1 (omega (arith, x.2)) r })
    (λ x. record { at = start; from = omega arith; upto = omega arith; other = x }) (found f start (suc n))

-- ---- autobind

pub free_is : (ks : List Socket) (p : ℕ) → Decides (port_free ks p) ((j : ℕ) → j < 16 → (socket_in ks j).lport.0 ≢ p)
unfolding port_free
free_is ks p = d_all (λ j l. d_not (f_eq (socket_in ks j).lport.0 p))

module _ (ks : List Socket) where
  -- a free port comes by the 17th at the latest
  unused : Spare (λ j. (socket_in ks j).lport.0) 16 1024
  unused = spare (λ j. (socket_in ks j).lport.0) 16 1024

  -- and so `find` from 1024 up to 5000 gives one
  pub some_free : (r : Option ℕ) (Q : ℕ → Type 0) → MatchOption r ((p : ℕ) → 1024 ≤ p → p < 5000 → port_free ks p ≡ false) Q → IsSome r
  some_free None Q none = not_both ((free_is ks unused.at).back unused.other) (none unused.at unused.from (omega (arith, unused.upto)))
  some_free (Some p) Q x = refl

  early : auto_port ks ≤ 1040
  unfolding auto_port
  early = omega (arith, unused.upto, lowest_before (port_free ks) 3976 1024 unused.at unused.from ((free_is ks unused.at).back unused.other))

  -- the lowest port of 1024 to 4999 that no socket has: no socket has it, and each before it some socket has
  pub auto_from : 1024 ≤ auto_port ks
  unfolding auto_port
  auto_from = lowest_from (port_free ks) 3976 1024

  pub auto_upto : auto_port ks ≤ 4999
  auto_upto = omega (arith, early)

  pub auto_free : (j : ℕ) → j < 16 → (socket_in ks j).lport.0 ≢ auto_port ks
  unfolding auto_port
  auto_free = (free_is ks _).says (lowest_passes (port_free ks) 3976 1024 (omega (arith, early)))

  pub auto_least : (p : ℕ) → 1024 ≤ p → p < auto_port ks → port_free ks p ≡ false
  unfolding auto_port
  auto_least p l m = lowest_least (port_free ks) 3976 1024 p l m

  -- where a socket has no local port, as the one that is to be bound, it is at most 1039
  pub auto_low : (k : ℕ) → k < 16 → (socket_in ks k).lport.0 ≡ 0 → auto_port ks ≤ 1039
  unfolding auto_port
  auto_low k l e =
      let r = spare (swapped (λ j. (socket_in ks j).lport.0) k 15) 15 1024 in
      let none = spare_but (λ j. (socket_in ks j).lport.0) 15 1024 k l (omega arith) r in
      omega (arith, r.upto, lowest_before (port_free ks) 3976 1024 r.at r.from ((free_is ks r.at).back none))
