-- What a socket held followed by what a step delivers to it is what the step reads from it followed by what it holds, unless the step opens or ends it; and a read hands over the oldest.
-- Assumes nothing.
use mathlib.Core.Path.{◌≡◌, refl, sym, ap, ◌∙◌}
use mathlib.Core.List.{List, [], ◌∷◌, ◌++◌, append-nil}
use mathlib.Core.Logic.{◌≢◌}
use mathlib.Core.Bool.{Bool, true, false, ◌&&◌, not, cond, true≢false, false≢true}
use Prim.Native.Nat.{ℕ, ◌*◌, ◌<◌}
use native.Mathlib.Omega.{arith}
use lib.Dec.{eqb, ltb}
use lib.ListN.{length}
use borrow.Author.Tests.{eqb-true, eqb-false, not-true}
use Rattle.std.proofs.lemmas.Bool.{cond_both}
use Rattle.laws.specs.Places.{splice}
use Rattle.laws.proofs.Tests.{and_left, and_right}
use Rattle.net.specs.declared.Port.{Port}
use Rattle.state.specs.declared.Socket.{Socket}
use Rattle.state.specs.declared.Thread.{Thread}
use Rattle.state.specs.declared.Thread.TheVariants.{Running}
use Rattle.state.specs.Places.{no_socket, no_item}
use Rattle.store.specs.Entries.{entries}
use Rattle.store.proofs.Entries.{entries_none}
use Rattle.binding.specs.Sockets.{lowest_closed}
use Rattle.binding.proofs.Stands.{lowest_closed_lem}
use Rattle.queues.specs.declared.Queues.{Queues}
use Rattle.queues.specs.Moves as queue
use Rattle.queues.specs.Moves.{head_at, first_head, cleared, Some}
use Rattle.queues.specs.Held.{Datagram, SameQueue, held}
use Rattle.queues.proofs.Held.{held_same, elsewhere, take_held, take-length, clear_held, clear_length, clear_else, emptied_length, empty_held, oldest_head, oldest_bytes}
use Rattle.outqueue.specs.declared.OutQueue.{OutQueue}
use Rattle.outqueue.specs.Moves.{Room}
use Rattle.outqueue.proofs.Held.{add_length, add_before}
use Rattle.host.specs.declared.Host.{Host}
use Rattle.answers.specs.declared.Answer.{Answer}
use Rattle.host.specs.Form.{socket_at, count_at}
use Rattle.answers.specs.Answers.{plain, needing, read_of}
use Rattle.host.specs.Answers.{Outcome, gives, unless}
use Rattle.host.specs.Moves.{with_socket, with_queues, with_out, with_thread}
use Rattle.host.specs.Entered.{Ready, Holding}
use Rattle.answers.specs.Tables.{first}
use Rattle.host.specs.Tables.{entry_rows}
use Rattle.host.specs.Naming.{call_refusal, socket_refusal, socketed, bound, connected, disconnected, local_given, peer_given}
use Rattle.host.specs.Options.{without_error, error_given, option_given, option_set}
use Rattle.host.specs.Sending.{queued_out, sent}
use Rattle.host.specs.Reading.{oldest_taken, waiting_on, received, awaited_by, resumed_on, resumed, interrupted}
use Rattle.host.specs.Polling.{polled_of}
use Rattle.host.specs.Closing.{closed, exited, exit_host}
use Rattle.host.proofs.Passed.{rows_passed, entered, called, resuming, sendable, holds_some}
use Rattle.history.specs.Sound.{Sound}
use Rattle.history.specs.Frame.{Named}
use Rattle.history.specs.Order.{holds, first_of, read_by, delivered_by, restarts, Handed}
use Rattle.history.specs.Steps.{World, Step, after, socket, bind, connect, disconnect, getsockname, getpeername, geterr, getopt, setopt, sendto, recvfrom, resume, interrupt, poll, close, exit, datagram, notice, outstep}
use Rattle.history.proofs.Arrivals.{datagram_dealt, notice_quiet}
use Rattle.history.proofs.Outsteps.{outstep_dealt}
use Rattle.history.proofs.Frame.{step_frame}

-- what a passed table says of a taking
pub some_of : {h : Host} {s : List ℕ} {k : ℕ} → Holding h (length s) k → Some h.queues s k
some_of x = let q = holds_some x in record { small = x.small; some = q.0; few = q.1; store = x.ready.room }

-- ---- the store keeps its length

module _ (w : World) (g : Sound w.host) where
  abbrev h : Host
  h = w.host

  abbrev s : List ℕ
  s = w.bytes

  abbrev Long : Outcome → Type 0
  Long o = length o.bytes ≡ length w.bytes

  either_long : (n : ℕ) (b : List ℕ) (o : Outcome) → (n ≡ 0 → Long o) → Long (unless n w.host w.bytes b o)
  unfolding unless
  either_long n b o f = cond_both (eqb n 0) o (gives w.host (plain n) w.bytes b) Long (λ e. f (eqb-true _ _ e)) (λ e. refl)

  taken_long : (k : ℕ) (b : List ℕ) (t : Thread) → Holding h (length s) k → Long (oldest_taken h s k b t)
  unfolding oldest_taken
  taken_long k b t x = cond_both (ltb (length b) (first_head h.queues k).len) _ _ Long (λ e. refl) (λ e. take-length h.queues g.queues s k (some_of x))

  queued_long : (k a : ℕ) (p : Port) (payload : List ℕ) → Ready h (length s) → Long (queued_out h s k a p payload)
  unfolding queued_out
  queued_long k a p payload r =
      either_long _ [] _
      (λ e. let x = sendable h (length s) k a p (length payload) r refl e in
      add_length h.out g.out s (record { few = x.1; store = r.room }) no_item payload x.0)

  sendto_long : (k a : ℕ) (p : Port) (payload : List ℕ) → Long (sent h s k a p payload)
  unfolding sent
  sendto_long k a p payload =
      either_long _ [] _ (λ e. cond_both (eqb (socket_at h k).error 0) _ _ Long (λ x. queued_long k a p payload (called h (length s) k _ refl e).0.ready) (λ x. refl))

  recvfrom_long : (k : ℕ) (nonblocking : Bool) (b : List ℕ) → Long (received h s k nonblocking b)
  unfolding received
  recvfrom_long k nonblocking b =
      either_long _ b _
      (λ e. let c = (called h (length s) k _ refl e).0 in
      cond_both (not (eqb (socket_at h k).error 0)) _ _ Long (λ x. refl)
      (λ x. cond_both (not (eqb (count_at h k) 0)) _ _ Long (λ y. taken_long k b h.thread (record { ready = c.ready; small = c.small; some = eqb-false _ _ (not-true _ y) }))
      (λ y. cond_both nonblocking _ _ Long (λ z. refl) (λ z. refl))))

  resume_long : (b : List ℕ) → Long (resumed h s b)
  unfolding resumed resumed_on
  resume_long b =
      either_long _ b _
      (λ e. let r = resuming h (length s) refl e in
      let k = awaited_by h.thread in
      cond_both (not (eqb (socket_at h k).error 0)) _ _ Long (λ x. refl)
      (λ x. cond_both (not (eqb (count_at h k) 0)) _ _ Long (λ y. taken_long k b Running (record { ready = r.0; small = r.1; some = eqb-false _ _ (not-true _ y) })) (λ y. refl)))

pub step_length : (w : World) (t : Step) → Sound w.host → length (after w t).bytes ≡ length w.bytes
unfolding after socketed bound connected disconnected local_given peer_given error_given option_given option_set interrupted polled_of closed exited
step_length w socket g = either_long w g _ [] _ (λ e. refl)
step_length w (bind k a p) g = either_long w g _ [] _ (λ e. refl)
step_length w (connect k a p) g = either_long w g _ [] _ (λ e. refl)
step_length w (disconnect k) g = either_long w g _ [] _ (λ e. refl)
step_length w (getsockname k) g = either_long w g _ [] _ (λ e. refl)
step_length w (getpeername k) g = either_long w g _ [] _ (λ e. refl)
step_length w (geterr k) g = either_long w g _ [] _ (λ e. refl)
step_length w (getopt k o) g = either_long w g _ [] _ (λ e. refl)
step_length w (setopt k o on) g = either_long w g _ [] _ (λ e. refl)
step_length w (sendto k a p payload) g = sendto_long w g k a p payload
step_length w (recvfrom k nonblocking b) g = recvfrom_long w g k nonblocking b
step_length w (resume b) g = resume_long w g b
step_length w interrupt g = either_long w g _ [] _ (λ e. refl)
step_length w (poll r v) g = either_long w g _ [] _ (λ e. refl)
step_length w (close k) g =
    either_long w g _ [] _ (λ e. let c = (called w.host (length w.bytes) k _ refl e).0 in clear_length w.host.queues g.queues w.bytes c.ready.room k c.small)
step_length w exit g = either_long w g _ [] _ (λ e. emptied_length w.bytes (entered w.host (length w.bytes) 0 refl e).0.ready.room)
step_length w (datagram f p) g = (datagram_dealt w g f p).room
step_length w (notice src dst f) g = ap length (notice_quiet w g src dst f).bytes
step_length w (outstep b) g = (outstep_dealt w g b).room

-- ---- what a socket held, in order

picked : (b x : Bool) (y : Datagram) (p q : List Datagram) → (b ≡ true → p ≡ cond x (y ∷ []) [] ++ q) → (b ≡ false → p ≡ q) → p ≡ cond (b && x) (y ∷ []) [] ++ q
picked true x y p q f g = f refl
picked false x y p q f g = g refl

module _ (w : World) (g : Sound w.host) where
  abbrev Taken : ℕ → Outcome → Type 0
  Taken k o = holds w k ≡ cond (eqb o.answer.number 0) (first_of w k ∷ []) [] ++ held o.host.queues o.bytes k

  -- an answer that is no read, with the same queues and store
  unread : (k : ℕ) (a : Answer) (m : Host) (b : List ℕ) → m.queues ≡ w.host.queues → eqb a.number 0 ≡ false → Taken k (gives m a w.bytes b)
  unread k a m b e n = rw (n, e) refl

  either_taken : (k n : ℕ) (b : List ℕ) (o : Outcome) → (n ≡ 0 → Taken k o) → Taken k (unless n w.host w.bytes b o)
  unfolding unless
  either_taken k n b o f = cond_both (eqb n 0) o (gives w.host (plain n) w.bytes b) (Taken k) (λ e. f (eqb-true _ _ e)) (λ e. unread k (plain n) w.host b refl e)

  oldest_taken_lem : (k : ℕ) (b : List ℕ) (t : Thread) → Holding w.host (length w.bytes) k → Taken k (oldest_taken w.host w.bytes k b t)
  unfolding oldest_taken with_thread with_queues
  oldest_taken_lem k b t x =
      cond_both (ltb (length b) (first_head w.host.queues k).len) _ _ (Taken k) (λ e. unread k (needing (first_head w.host.queues k).len) w.host b refl refl)
      (λ e. take_held w.host.queues g.queues w.bytes k (some_of x))

  recvfrom_taken : (k : ℕ) (nonblocking : Bool) (b : List ℕ) → Taken k (received w.host w.bytes k nonblocking b)
  unfolding received with_socket with_thread
  recvfrom_taken k nonblocking b =
      either_taken k _ b _
      (λ e. let c = (called w.host (length w.bytes) k _ refl e).0 in
      cond_both (not (eqb (socket_at w.host k).error 0)) _ _ (Taken k) (λ x. unread k (plain 10) (without_error w.host k) b refl refl)
      (λ x. cond_both (not (eqb (count_at w.host k) 0)) _ _ (Taken k)
      (λ y. oldest_taken_lem k b w.host.thread (record { ready = c.ready; small = c.small; some = eqb-false _ _ (not-true _ y) }))
      (λ y. cond_both nonblocking _ _ (Taken k) (λ z. unread k (plain 14) w.host b refl refl) (λ z. unread k (plain 18) (waiting_on w.host k) b refl refl))))

  resume_taken : (b : List ℕ) → Taken (awaited_by w.host.thread) (resumed w.host w.bytes b)
  unfolding resumed resumed_on with_socket with_thread
  resume_taken b =
      let k = awaited_by w.host.thread in
      either_taken k _ b _
      (λ e. let r = resuming w.host (length w.bytes) refl e in
      cond_both (not (eqb (socket_at w.host k).error 0)) _ _ (Taken k) (λ x. unread k (plain 10) (with_thread (without_error w.host k) Running) b refl refl)
      (λ x. cond_both (not (eqb (count_at w.host k) 0)) _ _ (Taken k)
      (λ y. oldest_taken_lem k b Running (record { ready = r.0; small = r.1; some = eqb-false _ _ (not-true _ y) }))
      (λ y. unread k (plain 18) w.host b refl refl)))

-- socket l holds what it held
record Stays (w : World) (l : ℕ) (o : Outcome) : Type 0 where
  same : holds w l ≡ held o.host.queues o.bytes l

module _ (w : World) (g : Sound w.host) (room : length w.bytes ≡ 40960) (l : ℕ) (hl : l < 16) where
  -- the same queues and bytes, or a refusal
  either_stays : (n : ℕ) (b : List ℕ) (o : Outcome) → (n ≡ 0 → Stays w l o) → Stays w l (unless n w.host w.bytes b o)
  unfolding unless
  either_stays n b o f = cond_both (eqb n 0) o (gives w.host (plain n) w.bytes b) (Stays w l) (λ e. f (eqb-true _ _ e)) (λ e. record { same = refl })

  -- a socket that the step does not name
  other_stays : (t : Step) → (Named w t l → ⊥) → Stays w l (after w t)
  other_stays t d =
      record {
        same =
            sym (held_same w.host.queues (after w t).host.queues w.bytes (after w t).bytes l room (step_length w t g ∙ room) hl (g.formed.counts l hl)
            (step_frame w t g l hl d).queue_same);
      }

  socket_stays : (k : ℕ) (x : Socket) (a : Answer) (b : List ℕ) → Stays w l (gives (with_socket w.host k x) a w.bytes b)
  unfolding with_socket
  socket_stays k x a b = record { same = refl }

  -- other bytes, where the queue's are the same
  out_stays : (k : ℕ) (x : Socket) (o : OutQueue) (a : Answer) (t b : List ℕ) → length t ≡ 40960 → SameQueue w.host.queues w.bytes w.host.queues t l → Stays w l (gives (with_out (with_socket w.host k x) o) a t b)
  unfolding with_out with_socket
  out_stays k x o a t b n e = record { same = sym (held_same w.host.queues w.host.queues w.bytes t l room n hl (g.formed.counts l hl) e) }

  -- another queue cleared
  cleared_stays : (k : ℕ) → k < 16 → l ≢ k → Stays w l (gives (with_queues (with_socket w.host k no_socket) (cleared w.host.queues w.bytes k).queues) (plain 0) (cleared w.host.queues w.bytes k).bytes [])
  unfolding with_queues with_socket
  cleared_stays k hk d =
      record {
        same =
            sym (held_same w.host.queues _ w.bytes _ l room (clear_length w.host.queues g.queues w.bytes room k hk ∙ room) hl (g.formed.counts l hl)
            (clear_else w.host.queues g.queues w.bytes room k hk l hl d));
      }

  queued_stays : (k a : ℕ) (p : Port) (payload : List ℕ) → Ready w.host (length w.bytes) → Stays w l (queued_out w.host w.bytes k a p payload)
  unfolding queued_out
  queued_stays k a p payload c =
      either_stays _ [] _
      (λ f. let y = sendable w.host (length w.bytes) k a p (length payload) c refl f in
      let r : Room w.host.out w.bytes = record { few = y.1; store = room } in
      let n = add_length w.host.out g.out w.bytes r no_item payload y.0 ∙ room in
      out_stays k _ _ _ _ [] n (elsewhere w.host.queues w.bytes _ l hl (add_before w.host.out g.out w.bytes r no_item payload y.0) room n))

  sent_stays : (k a : ℕ) (p : Port) (payload : List ℕ) → Stays w l (sent w.host w.bytes k a p payload)
  unfolding sent
  sent_stays k a p payload =
      either_stays _ [] _
      (λ e. cond_both (eqb (socket_at w.host k).error 0) _ _ (Stays w l) (λ x. queued_stays k a p payload (called w.host (length w.bytes) k _ refl e).0.ready) (λ x. socket_stays k _ _ []))

-- a close that is refused, or of another socket
close_stays : (w : World) (g : Sound w.host) (room : length w.bytes ≡ 40960) (l : ℕ) (hl : l < 16) (k : ℕ) → (eqb (closed w.host w.bytes k).answer.number 0 && eqb l k) ≡ false → Stays w l (closed w.host w.bytes k)
unfolding closed unless
close_stays w g room l hl k =
    cond_both (eqb (call_refusal w.host (length w.bytes) k) 0) _ _ (λ (o : Outcome). (eqb o.answer.number 0 && eqb l k) ≡ false → Stays w l o)
    (λ e d. let c = (called w.host (length w.bytes) k _ refl (eqb-true _ _ e)).0 in cleared_stays w g room l hl k c.small (eqb-false l k d))
    (λ e d. record { same = refl })

exit_stays : (w : World) (g : Sound w.host) (room : length w.bytes ≡ 40960) (l : ℕ) (hl : l < 16) → eqb (exited w.host w.bytes).answer.number 0 ≡ false → Stays w l (exited w.host w.bytes)
unfolding exited unless
exit_stays w g room l hl =
    cond_both (eqb (first (entry_rows w.host (length w.bytes))) 0) _ _ (λ (o : Outcome). eqb o.answer.number 0 ≡ false → Stays w l o)
    (λ e d. absurd (true≢false d)) (λ e d. record { same = refl })

pub step_order : (w : World) (t : Step) → Sound w.host → length w.bytes ≡ 40960 → (l : ℕ) → l < 16 → restarts w t l ≡ false → holds w l ++ delivered_by w t l ≡ read_by w t l ++ held (after w t).host.queues (after w t).bytes l
unfolding after socketed bound connected disconnected local_given peer_given error_given option_given option_set interrupted polled_of with_socket with_thread
step_order w socket g room l hl d = append-nil (holds w l) ∙ (either_stays w g room l hl _ [] _ (λ e. record { same = refl })).same
step_order w (bind k a p) g room l hl d = append-nil (holds w l) ∙ (either_stays w g room l hl _ [] _ (λ e. record { same = refl })).same
step_order w (connect k a p) g room l hl d = append-nil (holds w l) ∙ (either_stays w g room l hl _ [] _ (λ e. record { same = refl })).same
step_order w (disconnect k) g room l hl d = append-nil (holds w l) ∙ (either_stays w g room l hl _ [] _ (λ e. record { same = refl })).same
step_order w (getsockname k) g room l hl d = append-nil (holds w l) ∙ (either_stays w g room l hl _ [] _ (λ e. record { same = refl })).same
step_order w (getpeername k) g room l hl d = append-nil (holds w l) ∙ (either_stays w g room l hl _ [] _ (λ e. record { same = refl })).same
step_order w (geterr k) g room l hl d = append-nil (holds w l) ∙ (either_stays w g room l hl _ [] _ (λ e. record { same = refl })).same
step_order w (getopt k o) g room l hl d = append-nil (holds w l) ∙ (either_stays w g room l hl _ [] _ (λ e. record { same = refl })).same
step_order w (setopt k o on) g room l hl d = append-nil (holds w l) ∙ (either_stays w g room l hl _ [] _ (λ e. record { same = refl })).same
step_order w (sendto k a p payload) g room l hl d = append-nil (holds w l) ∙ (sent_stays w g room l hl k a p payload).same
step_order w (recvfrom k nonblocking b) g room l hl d =
    append-nil (holds w l)
    ∙ picked (eqb l k) _ _ _ _ (λ e. let i : l ≡ k = eqb-true _ _ e in rw i (recvfrom_taken w g k nonblocking b)) (λ e. (other_stays w g room l hl (recvfrom k nonblocking b) (eqb-false _ _ e)).same)
step_order w (resume b) g room l hl d =
    append-nil (holds w l)
    ∙ picked (eqb l (awaited_by w.host.thread)) _ _ _ _ (λ e. let i : l ≡ awaited_by w.host.thread = eqb-true _ _ e in rw i (resume_taken w g b))
    (λ e. (other_stays w g room l hl (resume b) (eqb-false _ _ e)).same)
step_order w interrupt g room l hl d = append-nil (holds w l) ∙ (either_stays w g room l hl _ [] _ (λ e. record { same = refl })).same
step_order w (poll r v) g room l hl d = append-nil (holds w l) ∙ (either_stays w g room l hl _ [] _ (λ e. record { same = refl })).same
step_order w (close k) g room l hl d = append-nil (holds w l) ∙ (close_stays w g room l hl k d).same
step_order w exit g room l hl d = append-nil (holds w l) ∙ (exit_stays w g room l hl d).same
step_order w (datagram f p) g room l hl d = sym ((datagram_dealt w g f p).grown l hl)
step_order w (notice src dst f) g room l hl d = append-nil (holds w l) ∙ let x = notice_quiet w g src dst f in rw (x.queues, x.bytes) refl
step_order w (outstep b) g room l hl d = sym ((outstep_dealt w g b).grown l hl)

-- ---- a close and the exit leave nothing

record Emptied (l : ℕ) (o : Outcome) : Type 0 where
  none : o.answer.number ≡ 0 → held o.host.queues o.bytes l ≡ []

module _ (w : World) (g : Sound w.host) (l : ℕ) (hl : l < 16) where
  either_emptied : (n : ℕ) (o : Outcome) → (n ≡ 0 → Emptied l o) → Emptied l (unless n w.host w.bytes [] o)
  unfolding unless
  either_emptied n o f = cond_both (eqb n 0) o (gives w.host (plain n) w.bytes []) (Emptied l) (λ e. f (eqb-true _ _ e)) (λ e. record { none = λ z. absurd (eqb-false _ _ e z) })

  close_emptied : Emptied l (closed w.host w.bytes l)
  unfolding closed with_queues
  close_emptied =
      either_emptied _ _
      (λ e. let c = (called w.host (length w.bytes) l _ refl e).0 in record { none = λ z. clear_held w.host.queues g.queues w.bytes c.ready.room l c.small })

  exit_emptied : Emptied l (exited w.host w.bytes)
  unfolding exited exit_host
  exit_emptied = either_emptied _ _ (λ e. record { none = λ z. empty_held _ l hl })

pub close_empties : (w : World) → Sound w.host → (l : ℕ) → l < 16 → (after w (close l)).answer.number ≡ 0 → held (after w (close l)).host.queues (after w (close l)).bytes l ≡ []
unfolding after
close_empties w g l hl = (close_emptied w g l hl).none

pub exit_empties : (w : World) → Sound w.host → (l : ℕ) → l < 16 → (after w exit).answer.number ≡ 0 → held (after w exit).host.queues (after w exit).bytes l ≡ []
unfolding after
exit_empties w g l hl = (exit_emptied w g l hl).none

-- ---- a step that opens or ends a socket leaves it holding nothing

-- what holds no datagram
none_held : (q : Queues) (t : List ℕ) (k : ℕ) → queue.count_at q k ≡ 0 → held q t k ≡ []
unfolding held
none_held q t k e = ap (entries (λ x. x.len) (head_at q k) t (2048 * k)) e ∙ entries_none (λ x. x.len) (head_at q k) t (2048 * k)

socket_fresh : (w : World) (g : Sound w.host) (l : ℕ) → (eqb (socketed w.host w.bytes).answer.number 0 && eqb l (socketed w.host w.bytes).answer.descriptor.0) ≡ true
    → held (socketed w.host w.bytes).host.queues (socketed w.host w.bytes).bytes l ≡ []
unfolding socketed unless with_socket
socket_fresh w g l =
    cond_both (eqb (socket_refusal w.host (length w.bytes)) 0) _ _ (λ (o : Outcome). (eqb o.answer.number 0 && eqb l o.answer.descriptor.0) ≡ true → held o.host.queues o.bytes l ≡ [])
    (λ e d. fresh (eqb-true _ _ e) (eqb-true _ _ d)) (λ e d. absurd (false≢true (sym (ap (λ (b : Bool). b && eqb l 0) e) ∙ d)))
  where
    fresh : socket_refusal w.host (length w.bytes) ≡ 0 → l ≡ lowest_closed w.host.sockets → held w.host.queues w.bytes l ≡ []
    fresh e i =
        let p = entered w.host (length w.bytes) _ refl e in
        let c = lowest_closed_lem w.host.sockets (eqb-false _ _ (rows_passed ((eqb (lowest_closed w.host.sockets) 16, 15) ∷ []) 0 refl p.1).0.0) in
        none_held w.host.queues w.bytes l (rw i (g.formed.drained (lowest_closed w.host.sockets) c.0 c.1))

pub step_restart : (w : World) (t : Step) → Sound w.host → (l : ℕ) → l < 16 → restarts w t l ≡ true → held (after w t).host.queues (after w t).bytes l ≡ []
unfolding after
step_restart w socket g l hl e = socket_fresh w g l e
step_restart w (bind k a p) g l hl e = absurd (false≢true e)
step_restart w (connect k a p) g l hl e = absurd (false≢true e)
step_restart w (disconnect k) g l hl e = absurd (false≢true e)
step_restart w (getsockname k) g l hl e = absurd (false≢true e)
step_restart w (getpeername k) g l hl e = absurd (false≢true e)
step_restart w (geterr k) g l hl e = absurd (false≢true e)
step_restart w (getopt k o) g l hl e = absurd (false≢true e)
step_restart w (setopt k o on) g l hl e = absurd (false≢true e)
step_restart w (sendto k a p payload) g l hl e = absurd (false≢true e)
step_restart w (recvfrom k nonblocking b) g l hl e = absurd (false≢true e)
step_restart w (resume b) g l hl e = absurd (false≢true e)
step_restart w interrupt g l hl e = absurd (false≢true e)
step_restart w (poll r v) g l hl e = absurd (false≢true e)
step_restart w (close k) g l hl e =
    let z : l ≡ k = eqb-true _ _ (and_right (eqb (closed w.host w.bytes k).answer.number 0) _ e) in
    rw (← z) ((close_emptied w g l hl).none (eqb-true _ _ (and_left _ (eqb l l) (rw (← z) at e))))
step_restart w exit g l hl e = (exit_emptied w g l hl).none (eqb-true _ _ e)
step_restart w (datagram f p) g l hl e = absurd (false≢true e)
step_restart w (notice src dst f) g l hl e = absurd (false≢true e)
step_restart w (outstep b) g l hl e = absurd (false≢true e)

-- ---- a read hands over the oldest

module _ (w : World) (g : Sound w.host) where
  abbrev Hands : ℕ → List ℕ → Outcome → Type 0
  Hands k b o = o.answer.number ≡ 0 → Handed w k b o

  either_hands : (k n : ℕ) (b : List ℕ) (o : Outcome) → (n ≡ 0 → Hands k b o) → Hands k b (unless n w.host w.bytes b o)
  unfolding unless
  either_hands k n b o f = cond_both (eqb n 0) o (gives w.host (plain n) w.bytes b) (Hands k b) (λ e. f (eqb-true _ _ e)) (λ e z. absurd (eqb-false _ _ e z))

  oldest_hands : (k : ℕ) (b : List ℕ) (t : Thread) → Holding w.host (length w.bytes) k → Hands k b (oldest_taken w.host w.bytes k b t)
  unfolding oldest_taken
  oldest_hands k b t x =
      cond_both (ltb (length b) (first_head w.host.queues k).len) _ _ (Hands k b) (λ e z. absurd (omega (arith, z)))
      (λ e z.
      let q = holds_some x in
      record {
        said = ap read_of (sym (oldest_head w.host.queues w.bytes k));
        lent = ap (splice b 0) (sym (oldest_bytes w.host.queues w.bytes k x.ready.room x.small q.2));
      })

  pub recvfrom_hands : (k : ℕ) (nonblocking : Bool) (b : List ℕ) → Hands k b (after w (recvfrom k nonblocking b))
  unfolding after received
  recvfrom_hands k nonblocking b =
      either_hands k _ b _
      (λ e. let c = (called w.host (length w.bytes) k _ refl e).0 in
      cond_both (not (eqb (socket_at w.host k).error 0)) _ _ (Hands k b) (λ x z. absurd (omega (arith, z)))
      (λ x. cond_both (not (eqb (count_at w.host k) 0)) _ _ (Hands k b)
      (λ y. oldest_hands k b w.host.thread (record { ready = c.ready; small = c.small; some = eqb-false _ _ (not-true _ y) }))
      (λ y. cond_both nonblocking _ _ (Hands k b) (λ i z. absurd (omega (arith, z))) (λ i z. absurd (omega (arith, z))))))

  pub resume_hands : (b : List ℕ) → Hands (awaited_by w.host.thread) b (after w (resume b))
  unfolding after resumed resumed_on
  resume_hands b =
      let k = awaited_by w.host.thread in
      either_hands k _ b _
      (λ e. let r = resuming w.host (length w.bytes) refl e in
      cond_both (not (eqb (socket_at w.host k).error 0)) _ _ (Hands k b) (λ x z. absurd (omega (arith, z)))
      (λ x. cond_both (not (eqb (count_at w.host k) 0)) _ _ (Hands k b)
      (λ y. oldest_hands k b Running (record { ready = r.0; small = r.1; some = eqb-false _ _ (not-true _ y) }))
      (λ y z. absurd (omega (arith, z)))))
