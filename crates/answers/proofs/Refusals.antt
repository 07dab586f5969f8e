-- A refusal's number is its own and never 0, so what a check tells determines its result.
-- Assumes nothing.
use native.Mathlib.Omega.{arith}
use Rattle.std.specs.Prelude.{IfOk}
use Rattle.std.proofs.Common.{◌≡◌, ◌≢◌, ℕ, Result, Ok, Err, refl, sym, ap, ◌∙◌, cond, eqb}
use Rattle.answers.specs.declared.Refusal.{Refusal}
use Rattle.answers.specs.declared.Refusal.TheVariants.{NotWellFormed, OtherStore, Ended, StillWaiting, NotOpen, BadArgument, LowPort, NotOurAddress, InUse, ConnectionRefused, PayloadTooLong, NoPeer, NoRoute, WouldWait, AllOpen, ShortBuffer, InterfacesRefused, NotOurs, BadSource, ArrivalTooLong, OutEmpty}
use Rattle.answers.specs.declared.SocketOption.{SocketOption}
use Rattle.answers.specs.declared.SocketOption.TheVariants.{Bsdcompat, Reuse}
use Rattle.answers.specs.Options.{option_number}
use Rattle.answers.specs.Refusals.{number_of, refused_with}

-- the result that tells n
result_of : ℕ → Result (Unit {0}) Refusal
result_of n =
    cond (eqb n 0) (Ok tt)
    (cond (eqb n 1) (Err NotWellFormed)
    (cond (eqb n 2) (Err OtherStore)
    (cond (eqb n 3) (Err Ended)
    (cond (eqb n 4) (Err StillWaiting)
    (cond (eqb n 5) (Err NotOpen)
    (cond (eqb n 6) (Err BadArgument)
    (cond (eqb n 7) (Err LowPort)
    (cond (eqb n 8) (Err NotOurAddress)
    (cond (eqb n 9) (Err InUse)
    (cond (eqb n 10) (Err ConnectionRefused)
    (cond (eqb n 11) (Err PayloadTooLong)
    (cond (eqb n 12) (Err NoPeer)
    (cond (eqb n 13) (Err NoRoute)
    (cond (eqb n 14) (Err WouldWait)
    (cond (eqb n 15) (Err AllOpen)
    (cond (eqb n 16) (Err ShortBuffer)
    (cond (eqb n 17) (Err InterfacesRefused)
    (cond (eqb n 24) (Err NotOurs)
    (cond (eqb n 25) (Err BadSource)
    (cond (eqb n 26) (Err ArrivalTooLong) (Err OutEmpty)))))))))))))))))))))

back : (r : Refusal) → result_of (number_of r) ≡ Err r
unfolding result_of
back NotWellFormed = refl
back OtherStore = refl
back Ended = refl
back StillWaiting = refl
back NotOpen = refl
back BadArgument = refl
back LowPort = refl
back NotOurAddress = refl
back InUse = refl
back ConnectionRefused = refl
back PayloadTooLong = refl
back NoPeer = refl
back NoRoute = refl
back WouldWait = refl
back AllOpen = refl
back ShortBuffer = refl
back InterfacesRefused = refl
back NotOurs = refl
back BadSource = refl
back ArrivalTooLong = refl
back OutEmpty = refl

back_refused : (p : Result (Unit {0}) Refusal) → result_of (refused_with p) ≡ p
unfolding result_of
back_refused (Ok x) = refl
back_refused (Err r) = back r

-- two results of a check that tell the same
pub refused_once : (p q : Result (Unit {0}) Refusal) → refused_with p ≡ refused_with q → p ≡ q
refused_once p q e = sym (back_refused p) ∙ ap result_of e ∙ back_refused q

pub number_positive : (r : Refusal) → number_of r ≢ 0
number_positive r e = let q = refused_once (Ok tt) (Err r) (sym e) in cc

-- ---- a check that gives the option that a number names

option_once : (a b : SocketOption) → option_number a ≡ option_number b → a ≡ b
option_once Bsdcompat Bsdcompat e = refl
option_once Bsdcompat Reuse e = absurd (omega (arith, e))
option_once Reuse Bsdcompat e = absurd (omega (arith, e))
option_once Reuse Reuse e = refl

-- a refusal with no option to give
as_option : Result (Unit {0}) Refusal → Result SocketOption Refusal
as_option (Ok x) = Ok Bsdcompat
as_option (Err r) = Err r

-- two results that tell the same, and name the same number where they name one
pub named_once : (p q : Result SocketOption Refusal) (n : ℕ) → refused_with p ≡ refused_with q → IfOk p (λ o. option_number o ≡ n) → IfOk q (λ o. option_number o ≡ n) → p ≡ q
unfolding as_option
named_once (Ok a) (Ok b) n e h k = ap (λ (o : SocketOption). Ok o) (option_once a b (h ∙ sym k))
named_once (Ok a) (Err s) n e h k = absurd (number_positive s (sym e))
named_once (Err r) (Ok b) n e h k = absurd (number_positive r e)
named_once (Err r) (Err s) n e h k = ap as_option (refused_once (Err r) (Err s) e)
