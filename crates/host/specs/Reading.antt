-- recvfrom, resume, interrupt
use Rattle.std.specs.Prelude.{ℕ, List, [], ◌∷◌, ◌++◌, Bool, not, cond, ltb, eqb, length}
use Rattle.state.specs.declared.Thread.{Thread}
use Rattle.state.specs.declared.Thread.TheVariants.{Running, Waiting, Ended}
use Rattle.state.specs.Threads.{waiting}
use Rattle.queues.specs.Moves.{first_head, taken}
use Rattle.host.specs.declared.Host.{Host}
use Rattle.host.specs.Form.{socket_at, count_at}
use Rattle.answers.specs.Answers.{plain, needing, read_of}
use Rattle.host.specs.Answers.{Outcome, gives, unless}
use Rattle.host.specs.Moves.{with_queues, with_thread}
use Rattle.answers.specs.Tables.{first}
use Rattle.host.specs.Tables.{alive_rows}
use Rattle.host.specs.Naming.{call_refusal}
use Rattle.host.specs.Options.{without_error}
use Rattle.host.specs.Sending.{autobound}

-- ---- taking the oldest datagram, for recvfrom and resume: 16, or it goes into the buffer; the thread is t afterwards

unfoldable pub oldest_taken : Host → List ℕ → ℕ → List ℕ → Thread → Outcome
oldest_taken h s k b t =
    cond (ltb (length b) (first_head h.queues k).len) (gives h (needing (first_head h.queues k).len) s b)
    (gives (with_thread (with_queues h (taken h.queues s k b).queues) t) (read_of (first_head h.queues k)) (taken h.queues s k b).bytes (taken h.queues s k b).lent)

-- ---- recvfrom (000, recvfrom.1 to recvfrom.4; recvfrom.5 cannot be): 10; a datagram; 14 if nonblocking, which does not autobind here; else autobind if needed and 18, waiting

abbrev pub waiting_on : Host → ℕ → Host
waiting_on h k = with_thread (autobound h k) (Waiting (record { 0 = k }))

unfoldable pub received : Host → List ℕ → ℕ → Bool → List ℕ → Outcome
received h s k nonblocking b =
    unless (call_refusal h (length s) k) h s b
    (cond (not (eqb (socket_at h k).error 0)) (gives (without_error h k) (plain 10) s b)
    (cond (not (eqb (count_at h k) 0)) (oldest_taken h s k b h.thread)
    (cond nonblocking (gives h (plain 14) s b) (gives (waiting_on h k) (plain 18) s b))))

-- ---- resume (000, recvfrom.6 and recvfrom.7): 6 if not waiting; 10, which ends the wait; a datagram and running; 16, still waiting; 18

abbrev pub resume_refusal : Host → ℕ → ℕ
resume_refusal h room = first (alive_rows h room ++ ((not (waiting h.thread), 6) ∷ []))

-- the descriptor that the thread waits on; 0 where it does not
abbrev pub awaited_by : Thread → ℕ
awaited_by Running = 0
awaited_by (Waiting d) = d.0
awaited_by Ended = 0

unfoldable pub resumed_on : Host → List ℕ → ℕ → List ℕ → Outcome
resumed_on h s k b =
    cond (not (eqb (socket_at h k).error 0)) (gives (with_thread (without_error h k) Running) (plain 10) s b)
    (cond (not (eqb (count_at h k) 0)) (oldest_taken h s k b Running) (gives h (plain 18) s b))

unfoldable pub resumed : Host → List ℕ → List ℕ → Outcome
resumed h s b = unless (resume_refusal h (length s)) h s b (resumed_on h s (awaited_by h.thread) b)

-- ---- interrupt (000, intr.1): 6 if not waiting; else running, 0

unfoldable pub interrupted : Host → List ℕ → Outcome
interrupted h s = unless (resume_refusal h (length s)) h s [] (gives (with_thread h Running) (plain 0) s [])
