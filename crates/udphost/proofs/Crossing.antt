-- The record loses nothing on its way out and back.
-- Assumes nothing.
use mathlib.Core.Path.{◌≡◌, refl, ap, ◌∙◌}
use mathlib.Core.Bool.{true, false, ◌&&◌}
use mathlib.Core.Logic.{◌≢◌, ⊎_elim}
use Prim.Native.Nat.{ℕ, ◌<◌}
use native.Mathlib.Omega.{arith}
use lib.Dec.{eqb, ltb}
use borrow.Author.Tests.{eqb-true, eqb-false, ltb-true}
use Rattle.std.proofs.lemmas.Bool.{cases_Bool}
use Rattle.laws.proofs.Tests.{and_left, and_right}
use Rattle.state.specs.declared.Thread.{Thread}
use Rattle.state.specs.declared.Thread.TheVariants.{Running, Waiting, Ended}
use Rattle.host.specs.declared.Host.{Host}
use Rattle.udphost.specs.declared.Record.{Record}
use Rattle.udphost.specs.Crossing.{thread_known, thread_of, thread_number, thread_awaited, host_of, record_of}

-- ---- a host that goes out comes back

thread_back : (t : Thread) → thread_of (thread_number t) (thread_awaited t) ≡ t
thread_back Running = refl
thread_back (Waiting d) = refl
thread_back Ended = refl

pub comes_back : (h : Host) → host_of (record_of h) ≡ h
comes_back h = ap (λ (t : Thread). record { interfaces = h.interfaces; sockets = h.sockets; queues = h.queues; out = h.out; thread = t; icount = h.icount }) (thread_back h.thread)

-- and its numbers are those of a thread
pub goes_known : (t : Thread) → thread_known (thread_number t) (thread_awaited t) ≡ true
goes_known Running = refl
goes_known (Waiting d) = refl
goes_known Ended = refl

-- ---- a record that no step changes is the same, byte for byte

pub record Same (n d : ℕ) : Type 0 where
  pub number : thread_number (thread_of n d) ≡ n
  pub awaited : thread_awaited (thread_of n d) ≡ d

-- the two numbers of a thread
same_at : (n m d e : ℕ) → n ≡ m → d ≡ e → Same m e → Same n d
same_at n m d e p q s = rw (p, q) s

ended_two : (n : ℕ) → n < 3 → n ≢ 0 → n ≢ 1 → n ≡ 2
ended_two n l a b = omega (arith, l, a, b)

same : (n d : ℕ) → thread_known n d ≡ true → Same n d
same n d k =
    ⊎_elim
    (λ (e : eqb n 1 ≡ true). same_at n 1 d d (eqb-true n 1 e) refl (record { number = refl; awaited = refl }))
    (λ (e : eqb n 1 ≡ false).
    let r : (ltb n 3 && eqb d 0) ≡ true = simp e at k in
    let z : d ≡ 0 = eqb-true d 0 (and_right (ltb n 3) _ r) in
    let l : n < 3 = ltb-true n 3 (and_left (ltb n 3) _ r) in
    ⊎_elim
    (λ (f : eqb n 0 ≡ true). same_at n 0 d 0 (eqb-true n 0 f) z (record { number = refl; awaited = refl }))
    (λ (f : eqb n 0 ≡ false). same_at n 2 d 0 (ended_two n l (eqb-false n 0 f) (eqb-false n 1 e)) z (record { number = refl; awaited = refl }))
    (cases_Bool (eqb n 0)))
    (cases_Bool (eqb n 1))

pub stays : (r : Record) → thread_known r.thread r.awaited ≡ true → record_of (host_of r) ≡ r
stays r k =
    let s = same r.thread r.awaited k in
    ap (λ (n : ℕ). record { interfaces = r.interfaces; sockets = r.sockets; queues = r.queues; out = r.out; icount = r.icount; thread = n; awaited = thread_awaited (thread_of r.thread r.awaited) }) s.number
    ∙ ap (λ (d : ℕ). record { interfaces = r.interfaces; sockets = r.sockets; queues = r.queues; out = r.out; icount = r.icount; thread = r.thread; awaited = d }) s.awaited
