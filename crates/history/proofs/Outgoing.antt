-- What was queued to go out, followed by what a step queues, is what the step takes from the out-queue followed by what is queued.
-- Assumes nothing.
use mathlib.Core.Path.{◌≡◌, refl, sym, ◌∙◌}
use mathlib.Core.List.{List, [], ◌∷◌, ◌++◌, append-nil}
use mathlib.Core.Bool.{Bool, false, not, cond}
use Prim.Native.Nat.{ℕ}
use lib.Dec.{eqb, ltb}
use lib.ListN.{length}
use borrow.Author.Tests.{eqb-true, eqb-false, not-true}
use Rattle.std.proofs.lemmas.Bool.{cond_both}
use Rattle.laws.specs.Places.{part}
use Rattle.net.specs.declared.Port.{Port}
use Rattle.state.specs.declared.Thread.{Thread}
use Rattle.state.specs.declared.Thread.TheVariants.{Running}
use Rattle.queues.specs.Moves.{first_head}
use Rattle.queues.proofs.Held.{take-length, take_behind, clear_length, clear_behind, emptied_length, emptied_behind}
use Rattle.outqueue.specs.Moves.{Room}
use Rattle.outqueue.specs.Held.{waiting_out}
use Rattle.outqueue.proofs.Held.{out_same, add_held}
use Rattle.host.specs.declared.Host.{Host}
use Rattle.answers.specs.declared.Answer.{Answer}
use Rattle.host.specs.Form.{socket_at, count_at}
use Rattle.answers.specs.Answers.{plain}
use Rattle.host.specs.Answers.{Outcome, gives, unless}
use Rattle.host.specs.Moves.{with_socket, with_queues, with_out, with_thread}
use Rattle.host.specs.Entered.{Ready, Holding}
use Rattle.host.specs.Naming.{socketed, bound, connected, disconnected, local_given, peer_given}
use Rattle.host.specs.Options.{without_error, error_given, option_given, option_set}
use Rattle.host.specs.Sending.{queued_out, sent}
use Rattle.host.specs.Reading.{oldest_taken, received, awaited_by, resumed_on, resumed, interrupted}
use Rattle.host.specs.Polling.{polled_of}
use Rattle.host.specs.Closing.{closed, exited, exit_host}
use Rattle.host.proofs.Passed.{called, resuming, sendable}
use Rattle.history.specs.Sound.{Sound}
use Rattle.history.specs.Outgoing.{queued_in, sending, queued_by, left_by}
use Rattle.history.specs.Steps.{World, Step, after, socket, bind, connect, disconnect, getsockname, getpeername, geterr, getopt, setopt, sendto, recvfrom, resume, interrupt, poll, close, exit, datagram, notice, outstep}
use Rattle.history.proofs.Arrivals.{datagram_dealt, notice_quiet}
use Rattle.history.proofs.Outsteps.{outstep_dealt}
use Rattle.history.proofs.Order.{some_of}

-- the out-queue holds what it held
record Rests (w : World) (o : Outcome) : Type 0 where
  same : queued_in w ≡ waiting_out o.host.out o.bytes

module _ (w : World) (g : Sound w.host) (room : length w.bytes ≡ 40960) where
  abbrev h : Host
  h = w.host

  abbrev s : List ℕ
  s = w.bytes

  either_rests : (n : ℕ) (b : List ℕ) (o : Outcome) → (n ≡ 0 → Rests w o) → Rests w (unless n h s b o)
  unfolding unless
  either_rests n b o f = cond_both (eqb n 0) o (gives h (plain n) s b) (Rests w) (λ e. f (eqb-true _ _ e)) (λ e. record { same = refl })

  -- the same bytes from 32,768 on
  other_bytes : (m : Host) (a : Answer) (t b : List ℕ) → m.out ≡ h.out → length t ≡ length s → part t 32768 8192 ≡ part s 32768 8192 → Rests w (gives m a t b)
  other_bytes m a t b e n p = record { same = rw e (sym (out_same h.out s t room (n ∙ room) g.formed.outcount p)) }

  taken_rests : (k : ℕ) (b : List ℕ) (t : Thread) → Holding h (length s) k → Rests w (oldest_taken h s k b t)
  unfolding oldest_taken with_thread with_queues
  taken_rests k b t x =
      cond_both (ltb (length b) (first_head h.queues k).len) _ _ (Rests w) (λ e. record { same = refl })
      (λ e. other_bytes _ _ _ _ refl (take-length h.queues g.queues s k (some_of x)) (take_behind h.queues g.queues s k (some_of x)))

  recvfrom_rests : (k : ℕ) (nonblocking : Bool) (b : List ℕ) → Rests w (received h s k nonblocking b)
  unfolding received with_socket with_thread
  recvfrom_rests k nonblocking b =
      either_rests _ b _
      (λ e. let c = (called h (length s) k _ refl e).0 in
      cond_both (not (eqb (socket_at h k).error 0)) _ _ (Rests w) (λ x. record { same = refl })
      (λ x. cond_both (not (eqb (count_at h k) 0)) _ _ (Rests w) (λ y. taken_rests k b h.thread (record { ready = c.ready; small = c.small; some = eqb-false _ _ (not-true _ y) }))
      (λ y. cond_both nonblocking _ _ (Rests w) (λ z. record { same = refl }) (λ z. record { same = refl }))))

  resume_rests : (b : List ℕ) → Rests w (resumed h s b)
  unfolding resumed resumed_on with_socket with_thread
  resume_rests b =
      either_rests _ b _
      (λ e. let r = resuming h (length s) refl e in
      let k = awaited_by h.thread in
      cond_both (not (eqb (socket_at h k).error 0)) _ _ (Rests w) (λ x. record { same = refl })
      (λ x. cond_both (not (eqb (count_at h k) 0)) _ _ (Rests w) (λ y. taken_rests k b Running (record { ready = r.0; small = r.1; some = eqb-false _ _ (not-true _ y) })) (λ y. record { same = refl })))

  close_rests : (k : ℕ) → Rests w (closed h s k)
  unfolding closed with_queues with_socket
  close_rests k =
      either_rests _ [] _
      (λ e. let c = (called h (length s) k _ refl e).0 in
      other_bytes _ _ _ _ refl (clear_length h.queues g.queues s room k c.small) (clear_behind h.queues g.queues s room k c.small))

  exit_rests : Rests w (exited h s)
  unfolding exited exit_host
  exit_rests = either_rests _ [] _ (λ e. other_bytes _ _ _ _ refl (emptied_length s room) (emptied_behind s room))

  -- ---- sendto

  module _ (k a : ℕ) (p : Port) (payload : List ℕ) where
    abbrev Sends : Outcome → Type 0
    Sends o = queued_in w ++ cond (eqb o.answer.number 0) (sending w k a p payload ∷ []) [] ≡ waiting_out o.host.out o.bytes

    unsent : (m : Host) (n : ℕ) → m.out ≡ h.out → eqb n 0 ≡ false → Sends (gives m (plain n) s [])
    unsent m n e z = rw e (simp z (append-nil (queued_in w)))

    either_sends : (n : ℕ) (o : Outcome) → (n ≡ 0 → Sends o) → Sends (unless n h s [] o)
    unfolding unless
    either_sends n o f = cond_both (eqb n 0) o (gives h (plain n) s []) Sends (λ e. f (eqb-true _ _ e)) (λ e. unsent h n refl e)

    queued_sends : Ready h (length s) → Sends (queued_out h s k a p payload)
    unfolding queued_out with_out
    queued_sends r =
        either_sends _ _
        (λ e. let x = sendable h (length s) k a p (length payload) r refl e in
        let y : Room h.out s = record { few = x.1; store = room } in
        sym (add_held h.out g.out s y (sending w k a p payload).head payload x.0 refl))

    sendto_sends : Sends (sent h s k a p payload)
    unfolding sent with_socket
    sendto_sends =
        either_sends _ _
        (λ e. cond_both (eqb (socket_at h k).error 0) _ _ Sends (λ x. queued_sends (called h (length s) k _ refl e).0.ready) (λ x. unsent (without_error h k) 10 refl refl))

-- ---- the theorem

pub step_out : (w : World) (t : Step) → Sound w.host → length w.bytes ≡ 40960 → queued_in w ++ queued_by w t ≡ left_by w t ++ waiting_out (after w t).host.out (after w t).bytes
unfolding after socketed bound connected disconnected local_given peer_given error_given option_given option_set interrupted polled_of with_socket with_thread
step_out w socket g room = append-nil (queued_in w) ∙ (either_rests w g room _ [] _ (λ e. record { same = refl })).same
step_out w (bind k a p) g room = append-nil (queued_in w) ∙ (either_rests w g room _ [] _ (λ e. record { same = refl })).same
step_out w (connect k a p) g room = append-nil (queued_in w) ∙ (either_rests w g room _ [] _ (λ e. record { same = refl })).same
step_out w (disconnect k) g room = append-nil (queued_in w) ∙ (either_rests w g room _ [] _ (λ e. record { same = refl })).same
step_out w (getsockname k) g room = append-nil (queued_in w) ∙ (either_rests w g room _ [] _ (λ e. record { same = refl })).same
step_out w (getpeername k) g room = append-nil (queued_in w) ∙ (either_rests w g room _ [] _ (λ e. record { same = refl })).same
step_out w (geterr k) g room = append-nil (queued_in w) ∙ (either_rests w g room _ [] _ (λ e. record { same = refl })).same
step_out w (getopt k o) g room = append-nil (queued_in w) ∙ (either_rests w g room _ [] _ (λ e. record { same = refl })).same
step_out w (setopt k o on) g room = append-nil (queued_in w) ∙ (either_rests w g room _ [] _ (λ e. record { same = refl })).same
step_out w (sendto k a p payload) g room = sendto_sends w g room k a p payload
step_out w (recvfrom k nonblocking b) g room = append-nil (queued_in w) ∙ (recvfrom_rests w g room k nonblocking b).same
step_out w (resume b) g room = append-nil (queued_in w) ∙ (resume_rests w g room b).same
step_out w interrupt g room = append-nil (queued_in w) ∙ (either_rests w g room _ [] _ (λ e. record { same = refl })).same
step_out w (poll r v) g room = append-nil (queued_in w) ∙ (either_rests w g room _ [] _ (λ e. record { same = refl })).same
step_out w (close k) g room = append-nil (queued_in w) ∙ (close_rests w g room k).same
step_out w exit g room = append-nil (queued_in w) ∙ (exit_rests w g room).same
step_out w (datagram f p) g room = (datagram_dealt w g f p).waiting
step_out w (notice src dst f) g room = append-nil (queued_in w) ∙ let x = notice_quiet w g src dst f in rw (x.out, x.bytes) refl
step_out w (outstep b) g room = (outstep_dealt w g b).waiting
