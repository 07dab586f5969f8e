-- A refusal changes nothing; 10 alone clears the pending error.
-- Assumes nothing.
use mathlib.Core.Path.{◌≡◌, refl, ◌∙◌}
use mathlib.Core.List.{List, [], ◌∷◌, ◌++◌}
use mathlib.Core.Logic.{◌≢◌}
use mathlib.Core.Bool.{Bool, true, not}
use Prim.Native.Nat.{ℕ, ◌≤◌}
use native.Mathlib.Omega.{arith}
use lib.Dec.{eqb, ltb}
use lib.ListN.{length}
use borrow.Author.Tests.{eqb-true, eqb-false, not-true}
use Rattle.std.proofs.lemmas.Bool.{cond_both}
use Rattle.laws.specs.Places.{part}
use Rattle.net.specs.Address.{loopback, martian}
use Rattle.net.specs.declared.Flow.{Flow}
use Rattle.net.specs.declared.Port.{Port}
use Rattle.state.specs.declared.Thread.{Thread}
use Rattle.state.specs.declared.Thread.TheVariants.{Running}
use Rattle.state.specs.Threads.{waiting}
use Rattle.store.proofs.Slots.{popped_length}
use Rattle.queues.specs.Moves.{first_head}
use Rattle.queues.specs.Held.{Datagram}
use Rattle.outqueue.specs.declared.OutQueue.{OutQueue}
use Rattle.outqueue.specs.Moves.{destination_of, without_first}
use Rattle.delivery.specs.Landing.{Landed, landing, loop_head}
use Rattle.delivery.specs.Hearing.{hearing}
use Rattle.delivery.proofs.Cases.{landing_cases}
use Rattle.host.specs.declared.Host.{Host}
use Rattle.answers.specs.declared.Answer.{Answer}
use Rattle.host.specs.declared.Stepped.{Stepped}
use Rattle.host.specs.Form.{socket_at, count_at}
use Rattle.answers.specs.Answers.{plain}
use Rattle.host.specs.Answers.{Outcome, outcome, gives, unless}
use Rattle.host.specs.Moves.{with_queues, with_out, with_thread}
use Rattle.answers.specs.Tables.{first_or}
use Rattle.host.specs.Tables.{alive_rows, call_rows}
use Rattle.host.specs.Naming.{socketed, bound, connected, disconnected, local_given, peer_given}
use Rattle.host.specs.Options.{without_error, error_given, option_given, option_set}
use Rattle.host.specs.Sending.{send_rows, queued_out, sent}
use Rattle.host.specs.Reading.{oldest_taken, received, awaited_by, resumed_on, resumed, interrupted}
use Rattle.host.specs.Polling.{polled_of}
use Rattle.host.specs.Closing.{closed, exited}
use Rattle.host.specs.Arrivals.{landed_in, arrived, heard_step, noticed}
use Rattle.host.specs.Emitting.{oldest_item, bytes_without, handled_inside, leaving, stepped, Leaving}
use Rattle.host.proofs.Passed.{arrivable, leavable}
use Rattle.history.specs.Effects.{lent_by, Unchanged, Refusal, Told}
use Rattle.history.specs.Order.{arriving_as}
use Rattle.history.specs.Steps.{World, Step, after, socket, bind, connect, disconnect, getsockname, getpeername, geterr, getopt, setopt, sendto, recvfrom, resume, interrupt, poll, close, exit, datagram, notice, outstep}
use Rattle.history.proofs.Rows.{all_rows, rows_all}
use Rattle.history.proofs.Arrivals.{hearing_facts}

-- ---- refusals

module _ (w : World) (b : List ℕ) where
  -- nothing changed, whatever the answer
  nothing : (a : Answer) → Refusal w b (gives w.host a w.bytes b)
  nothing a = record { untouched = λ x y z. record { host = refl; bytes = refl; lent = refl } }

  -- an answer that is no refusal, or 10
  allowed : (h : Host) (a : Answer) (s c : List ℕ) → (1 ≤ a.number → a.number ≤ 17 → a.number ≢ 10 → ⊥) → Refusal w b (gives h a s c)
  allowed h a s c f = record { untouched = λ x y z. absurd (f x y z) }

  otherwise_if : (n : ℕ) (o : Outcome) → (n ≡ 0 → Refusal w b o) → Refusal w b (unless n w.host w.bytes b o)
  unfolding unless
  otherwise_if n o f = cond_both (eqb n 0) o (gives w.host (plain n) w.bytes b) (Refusal w b) (λ e. f (eqb-true _ _ e)) (λ e. nothing (plain n))

  otherwise : (n : ℕ) (o : Outcome) → Refusal w b o → Refusal w b (unless n w.host w.bytes b o)
  otherwise n o f = otherwise_if n o (λ e. f)

  -- an answer of 20 or more
  late : (o : Outcome) → 20 ≤ o.answer.number → Refusal w b o
  late o m = record { untouched = λ x y z. absurd (omega (arith, y)) }

  taken_refusal : (k : ℕ) (t : Thread) → Refusal w b (oldest_taken w.host w.bytes k b t)
  unfolding oldest_taken
  taken_refusal k t = cond_both (ltb (length b) (first_head w.host.queues k).len) _ _ (Refusal w b) (λ e. nothing _) (λ e. allowed _ _ _ _ (λ x y z. omega arith))

-- ---- arrivals and the out step answer 20 or more once their rows are passed

landed_late : (h : Host) (s : List ℕ) (x : Datagram) (o : OutQueue) (may : Bool) → length s ≡ 40960 → 20 ≤ (landing h.sockets h.queues o s x.head x.bytes may).number
landed_late h s x o may room =
    landing_cases h.sockets h.queues o s room x.head x.bytes may (λ (l : Landed). 20 ≤ l.number) (λ e. omega arith) (λ e r. omega arith) (λ e. omega arith) (λ e m r. omega arith)

heard_late : (h : Host) (f : Flow) → 20 ≤ (heard_step h f).answer.number
unfolding heard_step
heard_late h f = cond_both (eqb (hearing h.sockets f).number 27) _ _ (λ (r : Stepped). 20 ≤ r.answer.number) (λ e. omega arith) (λ e. omega (arith, (hearing_facts h.sockets f).0))

leaving_late : (h : Host) (s b : List ℕ) → Leaving h s (length b) → 20 ≤ (leaving h s b).answer.number
unfolding leaving handled_inside
leaving_late h s b v =
    cond_both (loopback (destination_of (oldest_item h))) _ _ (λ (o : Outcome). 20 ≤ o.answer.number)
    (λ e. cond_both (eqb (oldest_item h).kind 0) _ _ (λ (o : Outcome). 20 ≤ o.answer.number)
    (λ k. landed_late h (bytes_without h s) (record { head = loop_head (oldest_item h); bytes = part s 32768 (oldest_item h).len }) (without_first h.out) _
    (popped_length s 32768 h.out.count v.some.some (omega (arith, v.some.few, v.some.store)) ∙ v.some.store))
    (λ k. heard_late _ _))
    (λ e. cond_both (martian (destination_of (oldest_item h))) _ _ (λ (o : Outcome). 20 ≤ o.answer.number) (λ m. omega arith) (λ m. omega arith))

pub step_refusal : (w : World) (t : Step) → Refusal w (lent_by t) (after w t)
unfolding after socketed bound connected disconnected local_given peer_given error_given option_given option_set sent queued_out received resumed resumed_on interrupted polled_of closed exited arrived noticed stepped
step_refusal w socket = otherwise w [] _ _ (allowed w [] _ _ _ _ (λ x y z. omega arith))
step_refusal w (bind k a p) = otherwise w [] _ _ (allowed w [] _ _ _ _ (λ x y z. omega arith))
step_refusal w (connect k a p) = otherwise w [] _ _ (allowed w [] _ _ _ _ (λ x y z. omega arith))
step_refusal w (disconnect k) = otherwise w [] _ _ (allowed w [] _ _ _ _ (λ x y z. omega arith))
step_refusal w (getsockname k) = otherwise w [] _ _ (nothing w [] _)
step_refusal w (getpeername k) = otherwise w [] _ _ (nothing w [] _)
step_refusal w (geterr k) = otherwise w [] _ _ (allowed w [] _ _ _ _ (λ x y z. omega arith))
step_refusal w (getopt k o) = otherwise w [] _ _ (nothing w [] _)
step_refusal w (setopt k o on) = otherwise w [] _ _ (allowed w [] _ _ _ _ (λ x y z. omega arith))
step_refusal w (sendto k a p payload) =
    otherwise w [] _ _
    (cond_both (eqb (socket_at w.host k).error 0) _ _ (Refusal w []) (λ e. otherwise w [] _ _ (allowed w [] _ _ _ _ (λ x y z. omega arith))) (λ e. allowed w [] _ _ _ _ (λ x y z. z refl)))
step_refusal w (recvfrom k nonblocking b) =
    otherwise w b _ _
    (cond_both (not (eqb (socket_at w.host k).error 0)) _ _ (Refusal w b) (λ e. allowed w b _ _ _ _ (λ x y z. z refl))
    (λ e. cond_both (not (eqb (count_at w.host k) 0)) _ _ (Refusal w b) (λ f. taken_refusal w b k w.host.thread)
    (λ f. cond_both nonblocking _ _ (Refusal w b) (λ i. nothing w b (plain 14)) (λ i. allowed w b _ _ _ _ (λ x y z. omega arith)))))
step_refusal w (resume b) =
    otherwise w b _ _
    (cond_both (not (eqb (socket_at w.host (awaited_by w.host.thread)).error 0)) _ _ (Refusal w b) (λ e. allowed w b _ _ _ _ (λ x y z. z refl))
    (λ e. cond_both (not (eqb (count_at w.host (awaited_by w.host.thread)) 0)) _ _ (Refusal w b) (λ f. taken_refusal w b _ _) (λ f. nothing w b (plain 18))))
step_refusal w interrupt = otherwise w [] _ _ (allowed w [] _ _ _ _ (λ x y z. omega arith))
step_refusal w (poll r v) = otherwise w [] _ _ (nothing w [] _)
step_refusal w (close k) = otherwise w [] _ _ (allowed w [] _ _ _ _ (λ x y z. omega arith))
step_refusal w exit = otherwise w [] _ _ (allowed w [] _ _ _ _ (λ x y z. omega arith))
step_refusal w (datagram f p) =
    otherwise_if w [] _ _ (λ e. late w [] _ (landed_late w.host w.bytes (arriving_as w f p) w.host.out true (arrivable w.host (length w.bytes) f (length p) refl e).0.room))
step_refusal w (notice src dst f) = otherwise w [] _ _ (late w [] _ (heard_late w.host f))
step_refusal w (outstep b) = otherwise_if w b _ _ (λ e. late w b _ (leaving_late w.host w.bytes b (leavable w.host w.bytes (length b) refl e)))

-- ---- arrival answers 21, 23 to 26, 28 and 29 change nothing

module _ (w : World) where
  abbrev Idle : Outcome → Type 0
  Idle o = o.answer.number ≢ 20 → o.answer.number ≢ 22 → Unchanged w [] o

  landed_idle : length w.bytes ≡ 40960 → (x : Datagram) (may : Bool) → Idle (landed_in w.host (landing w.host.sockets w.host.queues w.host.out w.bytes x.head x.bytes may) [])
  unfolding with_out with_queues
  landed_idle room x may =
      landing_cases w.host.sockets w.host.queues w.host.out w.bytes room x.head x.bytes may (λ (l : Landed). Idle (landed_in w.host l []))
      (λ e a b. record { host = refl; bytes = refl; lent = refl }) (λ e r a b. absurd (a refl)) (λ e a b. record { host = refl; bytes = refl; lent = refl }) (λ e m r a b. absurd (b refl))

  either_idle : (P : ℕ → Type 0) (n : ℕ) (o : Outcome) → (n ≡ 0 → P o.answer.number → Unchanged w [] o) → P (unless n w.host w.bytes [] o).answer.number → Unchanged w [] (unless n w.host w.bytes [] o)
  unfolding unless
  either_idle P n o f = cond_both (eqb n 0) o (gives w.host (plain n) w.bytes []) (λ (x : Outcome). P x.answer.number → Unchanged w [] x) (λ e. f (eqb-true _ _ e)) (λ e a. record { host = refl; bytes = refl; lent = refl })

  pub datagram_unchanged : (f : Flow) (p : List ℕ) → ((after w (datagram f p)).answer.number ≢ 20) × ((after w (datagram f p)).answer.number ≢ 22) → Unchanged w [] (after w (datagram f p))
  unfolding after arrived
  datagram_unchanged f p =
      either_idle (λ n. (n ≢ 20) × (n ≢ 22)) _ _ (λ e a. landed_idle (arrivable w.host (length w.bytes) f (length p) refl e).0.room (arriving_as w f p) true a.0 a.1)

  heard_idle : (f : Flow) → (heard_step w.host f).answer.number ≢ 27 → Unchanged w [] (outcome (heard_step w.host f) w.bytes [])
  unfolding heard_step
  heard_idle f =
      cond_both (eqb (hearing w.host.sockets f).number 27) _ _ (λ (r : Stepped). r.answer.number ≢ 27 → Unchanged w [] (outcome r w.bytes []))
      (λ x a. absurd (a refl)) (λ x a. record { host = refl; bytes = refl; lent = refl })

  pub notice_unchanged : (src dst : ℕ) (f : Flow) → (after w (notice src dst f)).answer.number ≢ 27 → Unchanged w [] (after w (notice src dst f))
  unfolding after noticed
  notice_unchanged src dst f = either_idle (λ n. n ≢ 27) _ _ (λ e. heard_idle f)

-- ---- 10: the pending error is cleared, from resume the wait ends, and nothing else changes

not_ten : (rs : List (Bool × ℕ)) → all_rows (λ n. not (eqb n 10)) rs ≡ true → first_or rs 0 ≢ 10
not_ten rs t = eqb-false _ _ (not-true _ (rows_all (λ n. not (eqb n 10)) rs 0 refl t))

module _ (w : World) (m : Host) (b : List ℕ) where
  abbrev Tells : Outcome → Type 0
  Tells o = o.answer.number ≡ 10 → Told w m b o

  either_tells : (n : ℕ) (o : Outcome) → n ≢ 10 → Tells o → Tells (unless n w.host w.bytes b o)
  unfolding unless
  either_tells n o d f = cond_both (eqb n 0) o (gives w.host (plain n) w.bytes b) Tells (λ e. f) (λ e z. absurd (d z))

  taken_tells : (k : ℕ) (t : Thread) → Tells (oldest_taken w.host w.bytes k b t)
  unfolding oldest_taken
  taken_tells k t = cond_both (ltb (length b) (first_head w.host.queues k).len) _ _ Tells (λ e z. absurd (omega (arith, z))) (λ e z. absurd (omega (arith, z)))

pub sendto_told : (w : World) (k a : ℕ) (p : Port) (payload : List ℕ) → (after w (sendto k a p payload)).answer.number ≡ 10 → Told w (without_error w.host k) [] (after w (sendto k a p payload))
unfolding after sent queued_out
sendto_told w k a p payload =
    let m = without_error w.host k in
    either_tells w m [] _ _ (not_ten (call_rows w.host (length w.bytes) k) refl)
    (cond_both (eqb (socket_at w.host k).error 0) _ _ (Tells w m [])
    (λ e. either_tells w m [] _ _ (not_ten (send_rows w.host k a p (length payload)) refl) (λ z. absurd (omega (arith, z))))
    (λ e z. record { host = refl; bytes = refl; lent = refl }))

pub recvfrom_told : (w : World) (k : ℕ) (nonblocking : Bool) (b : List ℕ) → (after w (recvfrom k nonblocking b)).answer.number ≡ 10 → Told w (without_error w.host k) b (after w (recvfrom k nonblocking b))
unfolding after received
recvfrom_told w k nonblocking b =
    let m = without_error w.host k in
    either_tells w m b _ _ (not_ten (call_rows w.host (length w.bytes) k) refl)
    (cond_both (not (eqb (socket_at w.host k).error 0)) _ _ (Tells w m b) (λ e z. record { host = refl; bytes = refl; lent = refl })
    (λ e. cond_both (not (eqb (count_at w.host k) 0)) _ _ (Tells w m b) (λ f. taken_tells w m b k w.host.thread)
    (λ f. cond_both nonblocking _ _ (Tells w m b) (λ i z. absurd (omega (arith, z))) (λ i z. absurd (omega (arith, z))))))

pub resume_told : (w : World) (b : List ℕ) → (after w (resume b)).answer.number ≡ 10 → Told w (with_thread (without_error w.host (awaited_by w.host.thread)) Running) b (after w (resume b))
unfolding after resumed resumed_on
resume_told w b =
    let k = awaited_by w.host.thread in
    let m = with_thread (without_error w.host k) Running in
    either_tells w m b _ _ (not_ten (alive_rows w.host (length w.bytes) ++ ((not (waiting w.host.thread), 6) ∷ [])) refl)
    (cond_both (not (eqb (socket_at w.host k).error 0)) _ _ (Tells w m b) (λ e z. record { host = refl; bytes = refl; lent = refl })
    (λ e. cond_both (not (eqb (count_at w.host k) 0)) _ _ (Tells w m b) (λ f. taken_tells w m b k Running) (λ f z. absurd (omega (arith, z)))))
