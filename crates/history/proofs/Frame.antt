-- A step that neither names a socket nor picks it, doesn't resume its wait and isn't exit, changes neither its record nor its queue.
-- Assumes nothing.
use mathlib.Core.Path.{◌≡◌, refl, ◌∙◌}
use mathlib.Core.List.{List, []}
use mathlib.Core.Logic.{◌≢◌}
use mathlib.Core.Bool.{Bool, not}
use Prim.Native.Nat.{ℕ, ◌<◌}
use lib.Dec.{eqb, ltb}
use lib.ListN.{length}
use borrow.Author.Tests.{eqb-true, eqb-false, not-true}
use Rattle.std.proofs.lemmas.Bool.{cond_both}
use Rattle.net.specs.declared.Port.{Port}
use Rattle.state.specs.declared.Socket.{Socket}
use Rattle.state.specs.declared.Thread.{Thread}
use Rattle.state.specs.declared.Thread.TheVariants.{Running}
use Rattle.state.specs.Places.{no_item}
use Rattle.state.proofs.Places.{socket_else}
use Rattle.queues.specs.declared.Queues.{Queues}
use Rattle.queues.specs.Moves.{first_head}
use Rattle.queues.specs.Held.{SameQueue}
use Rattle.queues.proofs.Held.{elsewhere, take_else, clear_else}
use Rattle.outqueue.specs.declared.OutQueue.{OutQueue}
use Rattle.outqueue.specs.Moves.{Room}
use Rattle.outqueue.proofs.Held.{add_length, add_before}
use Rattle.host.specs.declared.Host.{Host}
use Rattle.answers.specs.declared.Answer.{Answer}
use Rattle.host.specs.Form.{socket_at, count_at}
use Rattle.answers.specs.Answers.{plain}
use Rattle.host.specs.Answers.{Outcome, gives, unless}
use Rattle.host.specs.Moves.{with_socket, with_queues, with_out, with_thread}
use Rattle.host.specs.Entered.{Ready, Holding}
use Rattle.host.specs.Naming.{socketed, bound, connected, disconnected, local_given, peer_given}
use Rattle.host.specs.Options.{error_given, option_given, option_set}
use Rattle.host.specs.Sending.{queued_out, sent}
use Rattle.host.specs.Reading.{oldest_taken, received, awaited_by, resumed_on, resumed, interrupted}
use Rattle.host.specs.Polling.{polled_of}
use Rattle.host.specs.Closing.{closed}
use Rattle.host.proofs.Passed.{called, resuming, sendable, holds_some}
use Rattle.history.specs.Sound.{Sound}
use Rattle.history.specs.Frame.{Untouched, Named}
use Rattle.history.specs.Steps.{World, Step, after, socket, bind, connect, disconnect, getsockname, getpeername, geterr, getopt, setopt, sendto, recvfrom, resume, interrupt, poll, close, exit, datagram, notice, outstep}
use Rattle.history.proofs.Arrivals.{Quiet, same_queue, datagram_dealt, notice_quiet}
use Rattle.history.proofs.Outsteps.{outstep_dealt}

module _ (w : World) (l : ℕ) where
  -- the same host and store
  kept : (a : Answer) (b : List ℕ) → Untouched w (gives w.host a w.bytes b) l
  kept a b = record { record_same = refl; queue_same = same_queue w.host.queues w.bytes l }

  -- a refusal, or what the step does
  either : (n : ℕ) (b : List ℕ) (o : Outcome) → (n ≡ 0 → Untouched w o l) → Untouched w (unless n w.host w.bytes b o) l
  unfolding unless
  either n b o f = cond_both (eqb n 0) o (gives w.host (plain n) w.bytes b) (λ (x : Outcome). Untouched w x l) (λ e. f (eqb-true _ _ e)) (λ e. kept (plain n) b)

  -- another socket k, and the thread
  other_socket : (k : ℕ) (t : Socket) (a : Answer) (b : List ℕ) → l ≢ k → Untouched w (gives (with_socket w.host k t) a w.bytes b) l
  unfolding with_socket
  other_socket k t a b d = record { record_same = socket_else w.host.sockets k t l d; queue_same = same_queue w.host.queues w.bytes l }

  other_thread : (k : ℕ) (t : Socket) (v : Thread) (a : Answer) (b : List ℕ) → l ≢ k → Untouched w (gives (with_thread (with_socket w.host k t) v) a w.bytes b) l
  unfolding with_socket with_thread
  other_thread k t v a b d = record { record_same = socket_else w.host.sockets k t l d; queue_same = same_queue w.host.queues w.bytes l }

  thread_only : (v : Thread) (a : Answer) (b : List ℕ) → Untouched w (gives (with_thread w.host v) a w.bytes b) l
  unfolding with_thread
  thread_only v a b = record { record_same = refl; queue_same = same_queue w.host.queues w.bytes l }

  -- other queues and bytes, where socket l's are the same
  other_queues : (q : Queues) (v : Thread) (a : Answer) (t b : List ℕ) → SameQueue w.host.queues w.bytes q t l → Untouched w (gives (with_thread (with_queues w.host q) v) a t b) l
  unfolding with_queues with_thread
  other_queues q v a t b e = record { record_same = refl; queue_same = e }

  socket_and_queues : (k : ℕ) (x : Socket) (q : Queues) (a : Answer) (t b : List ℕ) → l ≢ k → SameQueue w.host.queues w.bytes q t l → Untouched w (gives (with_queues (with_socket w.host k x) q) a t b) l
  unfolding with_queues with_socket
  socket_and_queues k x q a t b d e = record { record_same = socket_else w.host.sockets k x l d; queue_same = e }

  socket_and_out : (k : ℕ) (x : Socket) (o : OutQueue) (a : Answer) (t b : List ℕ) → l ≢ k → SameQueue w.host.queues w.bytes w.host.queues t l → Untouched w (gives (with_out (with_socket w.host k x) o) a t b) l
  unfolding with_out with_socket
  socket_and_out k x o a t b d e = record { record_same = socket_else w.host.sockets k x l d; queue_same = e }

-- ---- call by call

module _ (w : World) (g : Sound w.host) (l : ℕ) (hl : l < 16) where
  abbrev h : Host
  h = w.host

  abbrev s : List ℕ
  s = w.bytes

  taken_frame : (k : ℕ) (b : List ℕ) (t : Thread) → Holding h (length s) k → l ≢ k → Untouched w (oldest_taken h s k b t) l
  unfolding oldest_taken
  taken_frame k b t x d =
      cond_both (ltb (length b) (first_head h.queues k).len) _ _ (λ (o : Outcome). Untouched w o l) (λ e. kept w l _ b)
      (λ e. let q = holds_some x in other_queues w l _ t _ _ _ (take_else h.queues g.queues s k (record { small = x.small; some = q.0; few = q.1; store = x.ready.room }) l hl d))

  queued_frame : (k a : ℕ) (p : Port) (payload : List ℕ) → Ready h (length s) → l ≢ k → Untouched w (queued_out h s k a p payload) l
  unfolding queued_out
  queued_frame k a p payload r d =
      either w l _ [] _
      (λ e. let x = sendable h (length s) k a p (length payload) r refl e in
      let room : Room h.out s = record { few = x.1; store = r.room } in
      socket_and_out w l k _ _ _ _ [] d
      (elsewhere h.queues s _ l hl (add_before h.out g.out s room no_item payload x.0) r.room (add_length h.out g.out s room no_item payload x.0 ∙ r.room)))

  sendto_frame : (k a : ℕ) (p : Port) (payload : List ℕ) → l ≢ k → Untouched w (sent h s k a p payload) l
  unfolding sent
  sendto_frame k a p payload d =
      either w l _ [] _
      (λ e. cond_both (eqb (socket_at h k).error 0) _ _ (λ (o : Outcome). Untouched w o l) (λ x. queued_frame k a p payload (called h (length s) k _ refl e).0.ready d) (λ x. other_socket w l k _ _ [] d))

  recvfrom_frame : (k : ℕ) (nonblocking : Bool) (b : List ℕ) → l ≢ k → Untouched w (received h s k nonblocking b) l
  unfolding received
  recvfrom_frame k nonblocking b d =
      either w l _ b _
      (λ e. let c = (called h (length s) k _ refl e).0 in
      cond_both (not (eqb (socket_at h k).error 0)) _ _ (λ (o : Outcome). Untouched w o l) (λ x. other_socket w l k _ _ b d)
      (λ x. cond_both (not (eqb (count_at h k) 0)) _ _ (λ (o : Outcome). Untouched w o l)
      (λ y. taken_frame k b h.thread (record { ready = c.ready; small = c.small; some = eqb-false _ _ (not-true _ y) }) d)
      (λ y. cond_both nonblocking _ _ (λ (o : Outcome). Untouched w o l) (λ z. kept w l (plain 14) b) (λ z. other_thread w l k _ _ (plain 18) b d))))

  resume_frame : (b : List ℕ) → l ≢ awaited_by h.thread → Untouched w (resumed h s b) l
  unfolding resumed resumed_on
  resume_frame b d =
      either w l _ b _
      (λ e. let r = resuming h (length s) refl e in
      let k = awaited_by h.thread in
      cond_both (not (eqb (socket_at h k).error 0)) _ _ (λ (o : Outcome). Untouched w o l) (λ x. other_thread w l k _ Running (plain 10) b d)
      (λ x. cond_both (not (eqb (count_at h k) 0)) _ _ (λ (o : Outcome). Untouched w o l)
      (λ y. taken_frame k b Running (record { ready = r.0; small = r.1; some = eqb-false _ _ (not-true _ y) }) d)
      (λ y. kept w l (plain 18) b)))

  close_frame : (k : ℕ) → l ≢ k → Untouched w (closed h s k) l
  unfolding closed
  close_frame k d =
      either w l _ [] _
      (λ e. let c = (called h (length s) k _ refl e).0 in
      socket_and_queues w l k _ _ _ _ [] d (clear_else h.queues g.queues s c.ready.room k c.small l hl d))

-- a notice changes no queue
quiet_frame : (w : World) (l : ℕ) {picked : ℕ → Type 0} {o : Outcome} → Quiet w picked o → (picked l → ⊥) → Untouched w o l
quiet_frame w l x d = record { record_same = x.others l d; queue_same = rw (x.queues, x.bytes) (same_queue w.host.queues w.bytes l) }

-- ---- the theorem

pub step_frame : (w : World) (t : Step) → Sound w.host → (l : ℕ) → l < 16 → (Named w t l → ⊥) → Untouched w (after w t) l
unfolding after socketed bound connected disconnected local_given peer_given error_given option_given option_set interrupted polled_of
step_frame w socket g l hl d = either w l _ [] _ (λ e. other_socket w l _ _ _ [] d)
step_frame w (bind k a p) g l hl d = either w l _ [] _ (λ e. other_socket w l k _ _ [] d)
step_frame w (connect k a p) g l hl d = either w l _ [] _ (λ e. other_socket w l k _ _ [] d)
step_frame w (disconnect k) g l hl d = either w l _ [] _ (λ e. other_socket w l k _ _ [] d)
step_frame w (getsockname k) g l hl d = either w l _ [] _ (λ e. kept w l _ [])
step_frame w (getpeername k) g l hl d = either w l _ [] _ (λ e. kept w l _ [])
step_frame w (geterr k) g l hl d = either w l _ [] _ (λ e. other_socket w l k _ _ [] d)
step_frame w (getopt k o) g l hl d = either w l _ [] _ (λ e. kept w l _ [])
step_frame w (setopt k o on) g l hl d = either w l _ [] _ (λ e. other_socket w l k _ _ [] d)
step_frame w (sendto k a p payload) g l hl d = sendto_frame w g l hl k a p payload d
step_frame w (recvfrom k nonblocking b) g l hl d = recvfrom_frame w g l hl k nonblocking b d
step_frame w (resume b) g l hl d = resume_frame w g l hl b d
step_frame w interrupt g l hl d = either w l _ [] _ (λ e. thread_only w l Running _ [])
step_frame w (poll r v) g l hl d = either w l _ [] _ (λ e. kept w l _ [])
step_frame w (close k) g l hl d = close_frame w g l hl k d
step_frame w exit g l hl d = absurd (d tt)
step_frame w (datagram f p) g l hl d = (datagram_dealt w g f p).frame l hl d
step_frame w (notice src dst f) g l hl d = quiet_frame w l (notice_quiet w g src dst f) d
step_frame w (outstep b) g l hl d = (outstep_dealt w g b).frame l hl d
