-- Preservation (000's Theorem 2): an accepted opening gives a well-formed record, and every step leaves one; so in a run no answer is 1 or 2.
-- Assumes nothing.
use mathlib.Core.Path.{◌≡◌, refl, ◌∙◌}
use mathlib.Core.List.{List}
use mathlib.Core.Logic.{◌≢◌}
use mathlib.Core.Bool.{Bool, true, ◌&&◌, not}
use Prim.Native.Nat.{ℕ}
use native.Mathlib.Omega.{arith}
use lib.Dec.{eqb}
use lib.ListN.{length}
use borrow.Author.Tests.{eqb-true, eqb-false, not-true}
use Rattle.std.proofs.lemmas.Bool.{cond_both}
use Rattle.laws.proofs.Tests.{and_left, and_right}
use Rattle.state.specs.declared.Interface.{Interface}
use Rattle.store.proofs.Slots.{cleared_length}
use Rattle.host.specs.Form.{WellFormed}
use Rattle.host.specs.Answers.{Outcome}
use Rattle.host.specs.Opening.{opening_refusal, opened}
use Rattle.host.proofs.Passed.{opening_room}
use Rattle.history.specs.Steps.{World, Step, after, socket, bind, connect, disconnect, getsockname, getpeername, geterr, getopt, setopt, sendto, recvfrom, resume, interrupt, poll, close, exit, datagram, notice, outstep}
use Rattle.history.specs.Receptive.{each, numbers_of}
use Rattle.history.specs.Runs.{opening, Accepted, reached}
use Rattle.history.proofs.Keeps.{opening_sound}
use Rattle.history.proofs.Facts.{Good, run_good}
use Rattle.history.proofs.Numbers.{step_listed}

-- at a point of a run, before the step t
pub record Preserved (w : World) (t : Step) : Type 0 where
  pub formed : WellFormed w.host
  pub room : length w.bytes ≡ 40960
  pub not_one : (after w t).answer.number ≢ 1
  pub not_two : (after w t).answer.number ≢ 2

-- the theorem
abbrev pub Preservation : Type 0
Preservation = (is : List Interface) (n : ℕ) (s : List ℕ) → Accepted is n s → (ts : List Step) (t : Step) → Preserved (reached is n s ts) t

-- ---- its proof

opening_long : (is : List Interface) (n : ℕ) (s : List ℕ) → Accepted is n s → length (opened is n s).bytes ≡ 40960
unfolding opened
opening_long is n s =
    cond_both (eqb (opening_refusal is n (length s)) 0) _ _ (λ (o : Outcome). o.answer.number ≡ 0 → length o.bytes ≡ 40960)
    (λ e z. let room = opening_room is n s refl (eqb-true _ _ e) in cleared_length s 0 40960 (omega arith) ∙ room) (λ e z. absurd (eqb-false _ _ e z))

pub opening_good : (is : List Interface) (n : ℕ) (s : List ℕ) → Accepted is n s → Good (opening is n s)
opening_good is n s a = record { sound = opening_sound is n s; room = opening_long is n s a }

pub reached_good : (is : List Interface) (n : ℕ) (s : List ℕ) → Accepted is n s → (ts : List Step) → Good (reached is n s ts)
reached_good is n s a ts = run_good (opening is n s) (opening_good is n s a) ts

-- neither 1 nor 2
abbrev late : ℕ → Bool
late n = not (eqb n 1) && not (eqb n 2)

late_says : (n : ℕ) → late n ≡ true → (n ≢ 1) × (n ≢ 2)
late_says n e = (eqb-false n 1 (not-true _ (and_left (not (eqb n 1)) _ e)), eqb-false n 2 (not-true _ (and_right (not (eqb n 1)) _ e)))

all_late : (t : Step) → each late (numbers_of t) ≡ true
all_late socket = refl
all_late (bind k a p) = refl
all_late (connect k a p) = refl
all_late (disconnect k) = refl
all_late (getsockname k) = refl
all_late (getpeername k) = refl
all_late (geterr k) = refl
all_late (getopt k o) = refl
all_late (setopt k o on) = refl
all_late (sendto k a p payload) = refl
all_late (recvfrom k nonblocking b) = refl
all_late (resume b) = refl
all_late interrupt = refl
all_late (poll r v) = refl
all_late (close k) = refl
all_late exit = refl
all_late (datagram f p) = refl
all_late (notice src dst f) = refl
all_late (outstep b) = refl

pub preservation : Preservation
preservation is n s a ts t =
    let g = reached_good is n s a ts in
    let l = late_says _ (step_listed (reached is n s ts) g late (λ e. refl) (λ e. refl) t (all_late t)) in
    record { formed = g.sound.formed; room = g.room; not_one = l.0; not_two = l.1 }
