-- Every step gives a number of its list; 3 and 4 only where the thread has ended or waits.
-- Assumes nothing.
use mathlib.Core.Path.{◌≡◌, refl, ◌∙◌}
use mathlib.Core.List.{List, [], ◌∷◌, ◌++◌}
use mathlib.Core.Logic.{◌≢◌, ⊎_elim}
use mathlib.Core.Bool.{Bool, true, ◌&&◌, ◌||◌, not, cond, false≢true}
use Prim.Native.Nat.{ℕ}
use native.Mathlib.Omega.{arith}
use lib.Dec.{eqb, ltb}
use lib.ListN.{length}
use borrow.Author.Tests.{eqb-true, eqb-false, eq-eqb}
use Rattle.std.proofs.lemmas.Bool.{and_from, cond_both, or_cases}
use Rattle.laws.specs.Places.{part}
use Rattle.laws.proofs.Tests.{and_left, and_right}
use Rattle.net.specs.Address.{loopback, martian, stray}
use Rattle.net.specs.declared.Flow.{Flow}
use Rattle.state.specs.declared.Socket.{Socket}
use Rattle.state.specs.declared.Thread.{Thread}
use Rattle.state.specs.declared.Thread.TheVariants.{Running}
use Rattle.state.specs.Interfaces.{own}
use Rattle.state.specs.Places.{socket_in}
use Rattle.state.specs.Sockets.{open_at}
use Rattle.state.specs.Threads.{ended, waiting}
use Rattle.store.proofs.Slots.{popped_length}
use Rattle.binding.specs.Sockets.{lowest_closed}
use Rattle.queues.specs.Moves.{first_head}
use Rattle.queues.specs.Held.{Datagram}
use Rattle.outqueue.specs.declared.OutQueue.{OutQueue}
use Rattle.outqueue.specs.Moves.{destination_of, without_first}
use Rattle.delivery.specs.Landing.{Landed, landing, loop_head}
use Rattle.delivery.specs.Hearing.{sender_of, listens, Sought, hearing}
use Rattle.delivery.proofs.Cases.{landing_cases}
use Rattle.host.specs.declared.Host.{Host}
use Rattle.host.specs.declared.Stepped.{Stepped}
use Rattle.host.specs.Form.{well_formed, socket_at, count_at}
use Rattle.answers.specs.Answers.{plain}
use Rattle.host.specs.Answers.{Outcome, gives, unless}
use Rattle.answers.specs.Tables.{first_or, unknown_option}
use Rattle.host.specs.Tables.{ready_rows, alive_rows, entry_rows, call_rows}
use Rattle.host.specs.Naming.{socketed, bind_rows, bound, connect_rows, connected, disconnected, local_given, peer_given}
use Rattle.host.specs.Options.{error_given, option_given, option_set}
use Rattle.host.specs.Sending.{send_rows, queued_out, sent}
use Rattle.host.specs.Reading.{oldest_taken, received, awaited_by, resumed_on, resumed, interrupted}
use Rattle.host.specs.Polling.{all_open, polled_of}
use Rattle.host.specs.Closing.{closed, exited}
use Rattle.host.specs.Arrivals.{arrived, heard_step, noticed}
use Rattle.host.specs.Emitting.{oldest_item, bytes_without, handled_inside, leaving, stepped, Leaving}
use Rattle.host.proofs.Form.{formed_is}
use Rattle.host.proofs.Passed.{leavable}
use Rattle.history.specs.Steps.{World, Step, after, socket, bind, connect, disconnect, getsockname, getpeername, geterr, getopt, setopt, sendto, recvfrom, resume, interrupt, poll, close, exit, datagram, notice, outstep}
use Rattle.history.specs.Order.{arriving_as}
use Rattle.history.specs.Receptive.{among, each, numbers_of}
use Rattle.history.proofs.Rows.{all_rows}
use Rattle.history.proofs.Facts.{Good}

-- ---- lists of numbers and tables

-- what holds of each holds of one
pick : (p : ℕ → Bool) (k : ℕ) (xs : List ℕ) → each p xs ≡ true → among k xs ≡ true → p k ≡ true
pick p k [] a m = absurd (false≢true m)
pick p k (x ∷ xs) a m =
    ⊎_elim (λ (e : eqb k x ≡ true). let i : k ≡ x = eqb-true k x e in rw i (and_left (p x) _ a)) (λ (n : among k xs ≡ true). pick p k xs (and_right (p x) _ a) n) (or_cases (eqb k x) _ m)

-- a table whose numbers are all in the list
rows_in : (p : ℕ → Bool) (xs : List ℕ) (rs : List (Bool × ℕ)) → each p xs ≡ true → all_rows (λ n. among n xs) rs ≡ true → all_rows p rs ≡ true
rows_in p xs [] a m = refl
rows_in p xs (r ∷ rs) a m = and_from (p r.1) _ (pick p r.1 xs a (and_left (among r.1 xs) _ m)) (rows_in p xs rs a (and_right (among r.1 xs) _ m))

-- a refusal is a row's number
rows_some : (p : ℕ → Bool) (rs : List (Bool × ℕ)) → all_rows p rs ≡ true → first_or rs 0 ≢ 0 → p (first_or rs 0) ≡ true
rows_some p [] a = λ d. absurd (d refl)
rows_some p (r ∷ rs) a = cond_both r.0 r.1 (first_or rs 0) (λ x. x ≢ 0 → p x ≡ true) (λ c d. and_left (p r.1) _ a) (λ c. rows_some p rs (and_right (p r.1) _ a))

module _ (w : World) (g : Good w) (p : ℕ → Bool) (three : ended w.host.thread ≡ true → p 3 ≡ true) (four : waiting w.host.thread ≡ true → p 4 ≡ true) where
  abbrev h : Host
  h = w.host

  abbrev s : List ℕ
  s = w.bytes

  abbrev Listed : Outcome → Type 0
  Listed o = p o.answer.number ≡ true

  -- rows 1 and 2 do not hold
  passed : (rs : List (Bool × ℕ)) → first_or (ready_rows h (length s) ++ rs) 0 ≡ first_or rs 0
  passed rs = let f : well_formed h ≡ true = (formed_is h).back g.sound.formed in let e : eqb (length s) 40960 ≡ true = eq-eqb _ _ g.room in simp (f, e)

  unless_listed : (n : ℕ) (b : List ℕ) (o : Outcome) → (n ≢ 0 → p n ≡ true) → (n ≡ 0 → Listed o) → Listed (unless n h s b o)
  unfolding unless
  unless_listed n b o r f = cond_both (eqb n 0) o (gives h (plain n) s b) Listed (λ e. f (eqb-true _ _ e)) (λ e. r (eqb-false _ _ e))

  -- the rows of a step behind 1 and 2, behind 3 too, behind 4 too
  ready_listed : (rs : List (Bool × ℕ)) → all_rows p rs ≡ true → first_or (ready_rows h (length s) ++ rs) 0 ≢ 0 → p (first_or (ready_rows h (length s) ++ rs) 0) ≡ true
  ready_listed rs a = rw (passed rs) (rows_some p rs a)

  alive_listed : (rs : List (Bool × ℕ)) → all_rows p rs ≡ true → first_or (alive_rows h (length s) ++ rs) 0 ≢ 0 → p (first_or (alive_rows h (length s) ++ rs) 0) ≡ true
  alive_listed rs a =
      rw (passed ((ended h.thread, 3) ∷ rs)) (cond_both (ended h.thread) 3 (first_or rs 0) (λ x. x ≢ 0 → p x ≡ true) (λ e d. three e) (λ e. rows_some p rs a))

  entry_listed : (rs : List (Bool × ℕ)) → all_rows p rs ≡ true → first_or (entry_rows h (length s) ++ rs) 0 ≢ 0 → p (first_or (entry_rows h (length s) ++ rs) 0) ≡ true
  entry_listed rs a =
      rw (passed ((ended h.thread, 3) ∷ (waiting h.thread, 4) ∷ rs))
      (cond_both (ended h.thread) 3 (cond (waiting h.thread) 4 (first_or rs 0)) (λ x. x ≢ 0 → p x ≡ true) (λ e d. three e)
      (λ e. cond_both (waiting h.thread) 4 (first_or rs 0) (λ x. x ≢ 0 → p x ≡ true) (λ f d. four f) (λ f. rows_some p rs a)))

  -- the numbers of a step that has the rows rs: behind 1 and 2, behind 3 too, behind 4 too, behind 5 too
  module _ (t : Step) (all : each p (numbers_of t) ≡ true) (b : List ℕ) (o : Outcome) where
    abbrev In : List (Bool × ℕ) → Type 0
    In rs = all_rows (λ n. among n (numbers_of t)) rs ≡ true

    ready_step : (rs : List (Bool × ℕ)) → In rs → (first_or (ready_rows h (length s) ++ rs) 0 ≡ 0 → Listed o) → Listed (unless (first_or (ready_rows h (length s) ++ rs) 0) h s b o)
    ready_step rs i l = unless_listed _ b o (ready_listed rs (rows_in p (numbers_of t) rs all i)) l

    alive_step : (rs : List (Bool × ℕ)) → In rs → Listed o → Listed (unless (first_or (alive_rows h (length s) ++ rs) 0) h s b o)
    alive_step rs i l = unless_listed _ b o (alive_listed rs (rows_in p (numbers_of t) rs all i)) (λ e. l)

    entry_step : (rs : List (Bool × ℕ)) → In rs → Listed o → Listed (unless (first_or (entry_rows h (length s) ++ rs) 0) h s b o)
    entry_step rs i l = unless_listed _ b o (entry_listed rs (rows_in p (numbers_of t) rs all i)) (λ e. l)

    call_step : (k : ℕ) (rs : List (Bool × ℕ)) → In ((not (open_at h.sockets k), 5) ∷ rs) → Listed o → Listed (unless (first_or (call_rows h (length s) k ++ rs) 0) h s b o)
    call_step k rs i l = entry_step ((not (open_at h.sockets k), 5) ∷ rs) i l

  -- ---- the bodies

  taken_listed : (k : ℕ) (b : List ℕ) (t : Thread) → p 0 ≡ true → p 16 ≡ true → Listed (oldest_taken h s k b t)
  unfolding oldest_taken
  taken_listed k b t z x = cond_both (ltb (length b) (first_head h.queues k).len) _ _ Listed (λ e. x) (λ e. z)

  hearing_listed : (ks : List Socket) (f : Flow) → p 27 ≡ true → p 28 ≡ true → p 29 ≡ true → p (hearing ks f).number ≡ true
  unfolding hearing
  hearing_listed ks f a b c =
      cond_both (eqb (sender_of ks f).score 0) _ _ (λ (x : Sought). p x.number ≡ true) (λ e. c)
      (λ e. cond_both (listens (socket_in ks (sender_of ks f).at)) 27 28 (λ n. p n ≡ true) (λ z. a) (λ z. b))

  heard_listed : (m : Host) (f : Flow) → p 27 ≡ true → p 28 ≡ true → p 29 ≡ true → p (heard_step m f).answer.number ≡ true
  unfolding heard_step
  heard_listed m f a b c = cond_both (eqb (hearing m.sockets f).number 27) _ _ (λ (r : Stepped). p r.answer.number ≡ true) (λ e. a) (λ e. hearing_listed m.sockets f a b c)

  landed_listed : (o : OutQueue) (t : List ℕ) (x : Datagram) (may : Bool) → length t ≡ 40960 → each p (20 ∷ 21 ∷ 22 ∷ 23 ∷ []) ≡ true → p (landing h.sockets h.queues o t x.head x.bytes may).number ≡ true
  landed_listed o t x may room a =
      landing_cases h.sockets h.queues o t room x.head x.bytes may (λ (l : Landed). p l.number ≡ true)
      (λ e. pick p 21 (20 ∷ 21 ∷ 22 ∷ 23 ∷ []) a refl) (λ e r. pick p 20 (20 ∷ 21 ∷ 22 ∷ 23 ∷ []) a refl)
      (λ e. pick p 23 (20 ∷ 21 ∷ 22 ∷ 23 ∷ []) a refl) (λ e m r. pick p 22 (20 ∷ 21 ∷ 22 ∷ 23 ∷ []) a refl)

  -- the number n of a step's list
  of : (t : Step) → each p (numbers_of t) ≡ true → (n : ℕ) → among n (numbers_of t) ≡ true → p n ≡ true
  of t a n = pick p n (numbers_of t) a

  four_of_lem : (t : Step) → each p (numbers_of t) ≡ true → each (λ n. among n (numbers_of t)) (20 ∷ 21 ∷ 22 ∷ 23 ∷ []) ≡ true → each p (20 ∷ 21 ∷ 22 ∷ 23 ∷ []) ≡ true
  four_of_lem t a i =
      and_from (p 20) _ (pick p 20 (numbers_of t) a (pick (λ n. among n (numbers_of t)) 20 (20 ∷ 21 ∷ 22 ∷ 23 ∷ []) i refl))
      (and_from (p 21) _ (pick p 21 (numbers_of t) a (pick (λ n. among n (numbers_of t)) 21 (20 ∷ 21 ∷ 22 ∷ 23 ∷ []) i refl))
      (and_from (p 22) _ (pick p 22 (numbers_of t) a (pick (λ n. among n (numbers_of t)) 22 (20 ∷ 21 ∷ 22 ∷ 23 ∷ []) i refl))
      (and_from (p 23) _ (pick p 23 (numbers_of t) a (pick (λ n. among n (numbers_of t)) 23 (20 ∷ 21 ∷ 22 ∷ 23 ∷ []) i refl)) refl)))

  leaving_listed : (b : List ℕ) → Leaving h s (length b) → each p (numbers_of (outstep b)) ≡ true → Listed (leaving h s b)
  unfolding leaving handled_inside
  leaving_listed b v a =
      cond_both (loopback (destination_of (oldest_item h))) _ _ Listed
      (λ e. cond_both (eqb (oldest_item h).kind 0) _ _ Listed
      (λ k. landed_listed (without_first h.out) (bytes_without h s) (record { head = loop_head (oldest_item h); bytes = part s 32768 (oldest_item h).len }) _
      (popped_length s 32768 h.out.count v.some.some (omega (arith, v.some.few, v.some.store)) ∙ v.some.store) (four_of_lem (outstep b) a refl))
      (λ k. heard_listed _ _ (of (outstep b) a 27 refl) (of (outstep b) a 28 refl) (of (outstep b) a 29 refl)))
      (λ e. cond_both (martian (destination_of (oldest_item h))) _ _ Listed (λ m. of (outstep b) a 32 refl) (λ m. of (outstep b) a 30 refl))

  -- ---- the theorem

  pub step_listed : (t : Step) → each p (numbers_of t) ≡ true → p (after w t).answer.number ≡ true
  unfolding after socketed bound connected disconnected local_given peer_given error_given option_given option_set sent queued_out received resumed resumed_on interrupted polled_of closed exited arrived noticed stepped
  step_listed socket a = entry_step socket a [] _ ((eqb (lowest_closed h.sockets) 16, 15) ∷ []) refl (of socket a 0 refl)
  step_listed (bind k x q) a = call_step (bind k x q) a [] _ k (bind_rows h k x q.0) refl (of (bind k x q) a 0 refl)
  step_listed (connect k x q) a = call_step (connect k x q) a [] _ k (connect_rows h k x) refl (of (connect k x q) a 0 refl)
  step_listed (disconnect k) a = call_step (disconnect k) a [] _ k [] refl (of (disconnect k) a 0 refl)
  step_listed (getsockname k) a = call_step (getsockname k) a [] _ k [] refl (of (getsockname k) a 0 refl)
  step_listed (getpeername k) a = call_step (getpeername k) a [] _ k ((eqb (socket_at h k).raddr 0, 12) ∷ []) refl (of (getpeername k) a 0 refl)
  step_listed (geterr k) a = call_step (geterr k) a [] _ k [] refl (of (geterr k) a 0 refl)
  step_listed (getopt k o) a = call_step (getopt k o) a [] _ k ((unknown_option o, 6) ∷ []) refl (of (getopt k o) a 0 refl)
  step_listed (setopt k o on) a =
      call_step (setopt k o on) a [] _ k ((unknown_option o, 6) ∷ (eqb o 2 && not (eqb (socket_at h k).lport.0 0), 6) ∷ []) refl (of (setopt k o on) a 0 refl)
  step_listed (sendto k x q payload) a =
      let t = sendto k x q payload in
      call_step t a [] _ k [] refl
      (cond_both (eqb (socket_at h k).error 0) _ _ Listed
      (λ e. unless_listed _ [] _ (rows_some p (send_rows h k x q (length payload)) (rows_in p (numbers_of t) (send_rows h k x q (length payload)) a refl)) (λ z. of t a 0 refl)) (λ e. of t a 10 refl))
  step_listed (recvfrom k nonblocking b) a =
      let t = recvfrom k nonblocking b in
      call_step t a b _ k [] refl
      (cond_both (not (eqb (socket_at h k).error 0)) _ _ Listed (λ e. of t a 10 refl)
      (λ e. cond_both (not (eqb (count_at h k) 0)) _ _ Listed (λ f. taken_listed k b h.thread (of t a 0 refl) (of t a 16 refl)) (λ f. cond_both nonblocking _ _ Listed (λ i. of t a 14 refl) (λ i. of t a 18 refl))))
  step_listed (resume b) a =
      let t = resume b in
      alive_step t a b _ ((not (waiting h.thread), 6) ∷ []) refl
      (cond_both (not (eqb (socket_at h (awaited_by h.thread)).error 0)) _ _ Listed (λ e. of t a 10 refl)
      (λ e. cond_both (not (eqb (count_at h (awaited_by h.thread)) 0)) _ _ Listed (λ f. taken_listed (awaited_by h.thread) b Running (of t a 0 refl) (of t a 16 refl)) (λ f. of t a 18 refl)))
  step_listed interrupt a = alive_step interrupt a [] _ ((not (waiting h.thread), 6) ∷ []) refl (of interrupt a 0 refl)
  step_listed (poll r v) a = entry_step (poll r v) a [] _ ((not (all_open h.sockets r && all_open h.sockets v), 5) ∷ []) refl (of (poll r v) a 0 refl)
  step_listed (close k) a = call_step (close k) a [] _ k [] refl (of (close k) a 0 refl)
  step_listed exit a = entry_step exit a [] _ [] refl (of exit a 0 refl)
  step_listed (datagram f q) a =
      ready_step (datagram f q) a [] _ ((not (own h.interfaces f.dst), 24) ∷ (stray f.src, 25) ∷ (ltb 512 (length q), 26) ∷ []) refl
      (λ z. landed_listed h.out s (arriving_as w f q) true g.room (four_of_lem (datagram f q) a refl))
  step_listed (notice src dst f) a =
      ready_step (notice src dst f) a [] _ ((not (own h.interfaces dst), 24) ∷ (stray src || stray dst || stray f.src || stray f.dst, 25) ∷ []) refl
      (λ z. heard_listed h f (of (notice src dst f) a 27 refl) (of (notice src dst f) a 28 refl) (of (notice src dst f) a 29 refl))
  step_listed (outstep b) a =
      ready_step (outstep b) a b _ ((ltb (length b) 512, 16) ∷ (eqb h.out.count 0, 31) ∷ []) refl (λ z. leaving_listed b (leavable h s (length b) refl z) a)
