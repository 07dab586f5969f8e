-- Receptive (000's Theorem 4): in a run, a running host answers every step with a number of that step's list; a waiting one becomes running by
-- resume with a datagram or an error, or by interrupt.
-- Assumes nothing.
use mathlib.Core.Path.{◌≡◌, refl, sym, ap, ◌∙◌}
use mathlib.Core.List.{List, []}
use mathlib.Core.Logic.{◌≢◌}
use mathlib.Core.Bool.{true, false, false≢true}
use Prim.Native.Nat.{ℕ, ◌≤◌}
use lib.Dec.{eqb}
use lib.ListN.{length}
use borrow.Author.Tests.{eq-eqb, ne_eqb, le-ltb}
use Rattle.net.specs.declared.Descriptor.{Descriptor}
use Rattle.state.specs.declared.Interface.{Interface}
use Rattle.state.specs.declared.Thread.TheVariants.{Running, Waiting}
use Rattle.state.specs.Threads.{ended, waiting}
use Rattle.queues.specs.Moves.{first_head}
use Rattle.host.specs.declared.Host.{Host}
use Rattle.host.specs.Form.{well_formed, socket_at, count_at}
use Rattle.host.specs.Answers.{Outcome, unless}
use Rattle.host.specs.Moves.{with_thread}
use Rattle.host.specs.Reading.{oldest_taken, awaited_by, resume_refusal, resumed_on, resumed, interrupted}
use Rattle.host.proofs.Form.{formed_is}
use Rattle.history.specs.Steps.{World, Step, after, socket, bind, connect, disconnect, getsockname, getpeername, geterr, getopt, setopt, sendto, recvfrom, resume, interrupt, poll, close, exit, datagram, notice, outstep}
use Rattle.history.specs.Receptive.{among, each, numbers_of}
use Rattle.history.specs.Runs.{Accepted, reached}
use Rattle.history.proofs.Facts.{Good}
use Rattle.history.proofs.Numbers.{step_listed}
use Rattle.history.proofs.Preservation.{reached_good}

-- the theorem
abbrev pub Receptive : Type 0
Receptive = (is : List Interface) (n : ℕ) (s : List ℕ) → Accepted is n s → (ts : List Step) (t : Step) → (reached is n s ts).host.thread ≡ Running → among (after (reached is n s ts) t).answer.number (numbers_of t) ≡ true

-- the step is answered with n, and the thread runs
pub record Wakes (n : ℕ) (o : Outcome) : Type 0 where
  pub number : o.answer.number ≡ n
  pub running : o.host.thread ≡ Running

-- of a thread that waits on socket k: by interrupt; by resume where an error is pending; by resume where a datagram is held that the buffer has room for
pub record Awakens (w : World) (k : ℕ) : Type 0 where
  pub by_interrupt : Wakes 0 (after w interrupt)
  pub by_error : (b : List ℕ) → (socket_at w.host k).error ≢ 0 → Wakes 10 (after w (resume b))
  pub by_datagram : (b : List ℕ) → (socket_at w.host k).error ≡ 0 → count_at w.host k ≢ 0 → (first_head w.host.queues k).len ≤ length b → Wakes 0 (after w (resume b))

-- and its second half
abbrev pub Awakening : Type 0
Awakening = (is : List Interface) (n : ℕ) (s : List ℕ) → Accepted is n s → (ts : List Step) (d : Descriptor) → (reached is n s ts).host.thread ≡ Waiting d → Awakens (reached is n s ts) d.0

-- ---- its proof

listed_all : (t : Step) → each (λ n. among n (numbers_of t)) (numbers_of t) ≡ true
listed_all socket = refl
listed_all (bind k a p) = refl
listed_all (connect k a p) = refl
listed_all (disconnect k) = refl
listed_all (getsockname k) = refl
listed_all (getpeername k) = refl
listed_all (geterr k) = refl
listed_all (getopt k o) = refl
listed_all (setopt k o on) = refl
listed_all (sendto k a p payload) = refl
listed_all (recvfrom k nonblocking b) = refl
listed_all (resume b) = refl
listed_all interrupt = refl
listed_all (poll r v) = refl
listed_all (close k) = refl
listed_all exit = refl
listed_all (datagram f p) = refl
listed_all (notice src dst f) = refl
listed_all (outstep b) = refl

pub receptive : Receptive
receptive is n s a ts t r =
    step_listed (reached is n s ts) (reached_good is n s a ts) (λ n. among n (numbers_of t)) (λ e. absurd (false≢true (sym (ap ended r) ∙ e))) (λ e. absurd (false≢true (sym (ap waiting r) ∙ e))) t (listed_all t)

-- ---- and of its second half

module _ (w : World) (g : Good w) (d : Descriptor) (q : w.host.thread ≡ Waiting d) where
  abbrev h : Host
  h = w.host

  abbrev s : List ℕ
  s = w.bytes

  -- no row holds
  passes_rows : resume_refusal h (length s) ≡ 0
  passes_rows =
      let f : well_formed h ≡ true = (formed_is h).back g.sound.formed in
      let e : eqb (length s) 40960 ≡ true = eq-eqb _ _ g.room in
      let x : ended h.thread ≡ false = ap ended q in
      let y : waiting h.thread ≡ true = ap waiting q in
      simp (f, e, x, y)

  -- so it does what follows
  done : (n : ℕ) (b : List ℕ) (o : Outcome) (m : ℕ) → n ≡ 0 → Wakes m o → Wakes m (unless n h s b o)
  unfolding unless
  done n b o m e x = let z : eqb n 0 ≡ true = eq-eqb n 0 e in simp z x

  wakes_interrupt : Wakes 0 (interrupted h s)
  unfolding interrupted with_thread
  wakes_interrupt = done _ [] _ 0 passes_rows (record { number = refl; running = refl })

  at : awaited_by h.thread ≡ d.0
  at = ap awaited_by q

  wakes_error : (b : List ℕ) (k : ℕ) → (socket_at h k).error ≢ 0 → Wakes 10 (resumed_on h s k b)
  unfolding resumed_on with_thread
  wakes_error b k e = simp (ne_eqb _ _ e) (record { number = refl; running = refl })

  wakes_datagram : (b : List ℕ) (k : ℕ) → (socket_at h k).error ≡ 0 → count_at h k ≢ 0 → (first_head h.queues k).len ≤ length b → Wakes 0 (resumed_on h s k b)
  unfolding resumed_on oldest_taken with_thread
  wakes_datagram b k e c l = simp (eq-eqb _ _ e, ne_eqb _ _ c, le-ltb _ _ l) (record { number = refl; running = refl })

  pub awakens : Awakens w d.0
  unfolding after resumed
  awakens =
      record {
        by_interrupt = wakes_interrupt;
        by_error = λ b e. done _ b _ 10 passes_rows (rw at (wakes_error b d.0 e));
        by_datagram = λ b e c l. done _ b _ 0 passes_rows (rw at (wakes_datagram b d.0 e c l));
      }

pub awakening : Awakening
awakening is n s a ts d q = awakens (reached is n s ts) (reached_good is n s a ts) d q
