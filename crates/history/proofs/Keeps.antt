-- Every step leaves a sound host sound: preservation (000's Theorem 2), a few citations for each.
-- Assumes nothing.
use mathlib.Core.Path.{◌≡◌, refl, sym, ap, ◌∙◌}
use mathlib.Core.List.{List, [], ◌∷◌, ◌++◌}
use mathlib.Core.Logic.{◌≢◌, ◌⊎◌, inl, inr, ⊎_elim}
use mathlib.Core.Bool.{Bool, true, false, ◌&&◌, ◌||◌, not, cond, false≢true}
use Prim.Native.Nat.{ℕ, ◌<◌, ◌≤◌}
use native.Mathlib.Omega.{arith}
use lib.Dec.{eqb, ltb}
use lib.ListN.{length}
use borrow.Author.Tests.{eqb-true, eqb-false, not-true, not-false}
use Rattle.std.proofs.lemmas.Bool.{and_from, cases_Bool, cases_eq, cond_both}
use Rattle.laws.specs.Places.{copies}
use Rattle.laws.proofs.Splice.{length_copies, get_or_copies}
use Rattle.laws.proofs.Tests.{not_both}
use Rattle.net.specs.declared.Descriptor.{Descriptor}
use Rattle.net.specs.declared.Port.{Port}
use Rattle.state.specs.declared.Interface.{Interface}
use Rattle.state.specs.declared.Socket.{Socket}
use Rattle.state.specs.declared.Thread.{Thread}
use Rattle.state.specs.declared.Thread.TheVariants.{Running, Waiting, Ended}
use Rattle.state.specs.Places.{no_interface, no_socket, socket_in}
use Rattle.state.specs.Interfaces.{ours, opening_ok}
use Rattle.state.specs.Threads.{waiting}
use Rattle.state.specs.Plain.{Opened, Chained, Bound, Awaited}
use Rattle.state.proofs.Places.{socket_there}
use Rattle.state.proofs.Opened.{opened_is}
use Rattle.matching.specs.Ports.{in_use, auto_port}
use Rattle.matching.proofs.Paths.{source_ours}
use Rattle.binding.specs.Sockets.{lowest_closed, with_local, with_remote, port_for}
use Rattle.binding.proofs.Stands.{Stands, unbound_stands, error_stands, options_stands, linked_stands, bound_stands, auto_stands, new_fit, closed_fit, lowest_closed_lem, port_some}
use Rattle.queues.specs.declared.Queues.{Queues}
use Rattle.queues.specs.Moves.{first_head, without_first, without_any, no_queues, Some}
use Rattle.queues.specs.Fits.{QueueFit}
use Rattle.queues.proofs.Held.{fit_same, take_sized, take_else, take_fit, clear_sized, clear_else, clear_fit, empty_sized, empty_fit}
use Rattle.outqueue.specs.declared.OutQueue.{OutQueue}
use Rattle.outqueue.specs.Moves.{with_item, datagram_of, no_items, Room}
use Rattle.outqueue.specs.Held as out
use Rattle.outqueue.specs.Fits.{OutFit}
use Rattle.outqueue.proofs.Held.{add_sized, add_fit}
use Rattle.outqueue.proofs.Held as outs
use Rattle.host.specs.declared.Host.{Host}
use Rattle.host.specs.Form.{socket_at, count_at}
use Rattle.answers.specs.Answers.{plain}
use Rattle.host.specs.Answers.{Outcome, gives, unless}
use Rattle.host.specs.Moves.{with_socket, with_queues, with_out, with_thread}
use Rattle.host.specs.Tables.{alive_rows}
use Rattle.host.specs.Entered.{Ready, Called, Holding}
use Rattle.host.specs.Naming.{socketed, bind_rows, bound, source_for, connect_rows, connected, disconnected, local_given, peer_given}
use Rattle.host.specs.Opening.{empty_host, opening_refusal, opened}
use Rattle.host.specs.Polling.{polled_of}
use Rattle.host.specs.Closing.{closed, exit_host, exited}
use Rattle.answers.specs.Tables.{unknown_option}
use Rattle.host.specs.Options.{without_error, error_given, option_given, option_set}
use Rattle.host.specs.Sending.{target, send_rows, autobound, flow_of, queued_out, sent}
use Rattle.host.specs.Sending.{port_of}
use Rattle.host.specs.Reading.{oldest_taken, waiting_on, received, resume_refusal, awaited_by, resumed_on, resumed, interrupted}
use Rattle.host.proofs.Form.{from_parts}
use Rattle.host.proofs.Passed.{rows_passed, entered, called, resuming, sendable, holds_some}
use Rattle.history.specs.Sound.{Sound}
use Rattle.history.specs.Steps.{World, Step, after, socket, bind, connect, disconnect, getsockname, getpeername, geterr, getopt, setopt, sendto, recvfrom, resume, interrupt, poll, close, exit, datagram, notice, outstep}
use Rattle.history.proofs.Moves.{parts, fitting, socket_kept, thread_kept, queues_kept, out_kept, nobody_awaited}
use Rattle.history.proofs.Arrivals.{datagram_dealt, notice_quiet}
use Rattle.history.proofs.Outsteps.{outstep_dealt}

-- a step that refuses leaves the host as it was
pub unless_keeps : {h : Host} → Sound h → (n : ℕ) (s b : List ℕ) (o : Outcome) → (n ≡ 0 → Sound o.host) → Sound (unless n h s b o).host
unfolding unless
unless_keeps {h} g n s b o f = cond_both (eqb n 0) o (gives h (plain n) s b) (λ (x : Outcome). Sound x.host) (λ e. f (eqb-true _ _ e)) (λ e. g)

-- nobody is waited on while the thread runs
awake : {t : Thread} {A : Type 0} → t ≡ Running → (d : Descriptor) → t ≡ Waiting d → A
awake r d e = absurd (false≢true (ap waiting (sym r ∙ e)))

module _ {h : Host} (g : Sound h) where
  -- another socket k while the thread runs, open as it was
  replaced : {k : ℕ} {s : Socket} → h.thread ≡ Running → k < 16 → s.live ≡ (socket_at h k).live → Stands h.interfaces h.sockets k s → Sound (with_socket h k s)
  replaced {k} r hk e w = socket_kept g hk w (rw e ((parts g).queues k hk)) (λ d x y. awake r d x)

  -- ---- one socket, with a local port if it had none

  module _ (k : ℕ) (hk : k < 16) (live : (socket_at h k).live ≡ true) where
    abbrev old : Socket
    old = socket_at h k

    old_chain : Chained old
    old_chain = ((parts g).sockets k hk).chain

    -- a local address where there was none, a port where there was none, and any remote pair that is chained
    pub local_stands : {a ra : ℕ} {rp : Port} → (a ≡ old.laddr) ⊎ (old.laddr ≡ 0) → (rp.0 ≢ 0 → ra ≢ 0) → (ra ≢ 0 → a ≢ 0) → (a ≡ 0) ⊎ (ours h.interfaces a ≡ true)
        → Stands h.interfaces h.sockets k (with_remote (with_local old a (port_for h.sockets old.lport)) ra rp)
    local_stands {a} {ra} {rp} q peer remote mine =
        cond_both (eqb old.lport.0 0) (record { 0 = auto_port h.sockets }) old.lport
        (λ (p : Port). p.0 ≢ 0 → Stands h.interfaces h.sockets k (with_remote (with_local old a p) ra rp))
        (λ e n. auto_stands (fitting g) k hk live (record { peer = peer; remote = remote; local = λ x. n }) mine)
        (λ e n. linked_stands (fitting g) k hk live q (record { peer = peer; remote = remote; local = λ x. n }) mine)
        (port_some h.sockets old.lport)

-- ---- socket

socket_sound : (h : Host) (s : List ℕ) → Sound h → Sound (socketed h s).host
unfolding socketed
socket_sound h s g =
    unless_keeps g _ s [] _
    (λ e. let p = entered h (length s) _ refl e in
    let c = lowest_closed_lem h.sockets (eqb-false _ _ (rows_passed ((eqb (lowest_closed h.sockets) 16, 15) ∷ []) 0 refl p.1).0.0) in
    let q = (parts g).queues (lowest_closed h.sockets) c.0 in
    socket_kept g c.0 (unbound_stands (fitting g) (lowest_closed h.sockets) c.0 refl (new_fit h.interfaces))
    (record { few = q.few; closed = λ x. not_both refl x; small = q.small; unused = q.unused }) (λ d x y. awake p.0.running d x))

-- ---- bind

bind_sound : (h : Host) (s : List ℕ) (k a : ℕ) (p : Port) → Sound h → Sound (bound h s k a p).host
unfolding bound
bind_sound h s k a p g =
    unless_keeps g _ s [] _
    (λ e. let c = called h (length s) k _ refl e in
    let rows = (rows_passed (bind_rows h k a p.0) 0 refl c.1).0 in
    let port : (socket_at h k).lport.0 ≡ 0 = eqb-true _ _ (not-false _ rows.0) in
    replaced g c.0.running c.0.small refl (named c.0.small c.0.live port (mine a rows.1.0) rows.1.1.1.0))
  where
    mine : (a : ℕ) → (not (eqb a 0) && not (ours h.interfaces a)) ≡ false → (a ≡ 0) ⊎ (ours h.interfaces a ≡ true)
    mine a e =
        ⊎_elim (λ x. inl (eqb-true _ _ x)) (λ x. ⊎_elim (λ y. inr y) (λ y. not_both (and_from (not (eqb a 0)) (not (ours h.interfaces a)) (ap not x) (ap not y)) e) (cases_Bool (ours h.interfaces a)))
        (cases_Bool (eqb a 0))

    named : k < 16 → (socket_at h k).live ≡ true → (socket_at h k).lport.0 ≡ 0 → (a ≡ 0) ⊎ (ours h.interfaces a ≡ true)
        → (not (eqb p.0 0) && in_use h.sockets k (socket_at h k).reuse a p.0) ≡ false
        → Stands h.interfaces h.sockets k (with_local (socket_at h k) a (port_for h.sockets p))
    named hk live z m free =
        let c = ((parts g).sockets k hk).chain in
        cond_both (eqb p.0 0) (record { 0 = auto_port h.sockets }) p
        (λ (q : Port). q.0 ≢ 0 → Stands h.interfaces h.sockets k (with_local (socket_at h k) a q))
        (λ e n. auto_stands (fitting g) k hk live (record { peer = c.peer; remote = λ x. absurd (c.local (c.remote x) z); local = λ x. n }) m)
        (λ e n. bound_stands (fitting g) k hk live (⊎_elim (λ x. not_both (and_from (not (eqb p.0 0)) _ (ap not e) x) free) (λ x. x) (cases_Bool (in_use h.sockets k (socket_at h k).reuse a p.0))) (record { peer = c.peer; remote = λ x. absurd (c.local (c.remote x) z); local = λ x. n }) m)
        (port_some h.sockets p)

-- ---- connect, disconnect

-- the source that a socket sends from: its own, or the route's
source_mine : (h : Host) → Sound h → (k dst : ℕ) → k < 16 → source_for h (socket_at h k) dst ≢ 0 → ours h.interfaces (source_for h (socket_at h k) dst) ≡ true
source_mine h g k dst hk =
    cond_both (eqb (socket_at h k).laddr 0) _ _ (λ (a : ℕ). a ≢ 0 → ours h.interfaces a ≡ true)
    (λ e n. source_ours (parts g).opened dst n)
    (λ e n. ⊎_elim (λ z. absurd (n z)) (λ x. x) ((parts g).sockets k hk).local)

connect_sound : (h : Host) (s : List ℕ) (k a : ℕ) (p : Port) → Sound h → Sound (connected h s k a p).host
unfolding connected
connect_sound h s k a p g =
    unless_keeps g _ s [] _
    (λ e. let c = called h (length s) k _ refl e in
    let rows = (rows_passed (connect_rows h k a) 0 refl c.1).0 in
    let some : a ≢ 0 = eqb-false _ _ rows.0 in
    let routed : source_for h (socket_at h k) a ≢ 0 = eqb-false _ _ rows.1.0 in
    replaced g c.0.running c.0.small refl
    (local_stands g k c.0.small c.0.live (either (socket_at h k)) (λ n. some) (λ n. routed) (inr (source_mine h g k a c.0.small routed))))
  where
    either : (t : Socket) → (source_for h t a ≡ t.laddr) ⊎ (t.laddr ≡ 0)
    either t = cond_both (eqb t.laddr 0) _ _ (λ (x : ℕ). (x ≡ t.laddr) ⊎ (t.laddr ≡ 0)) (λ e. inr (eqb-true _ _ e)) (λ e. inl refl)

disconnect_sound : (h : Host) (s : List ℕ) (k : ℕ) → Sound h → Sound (disconnected h s k).host
unfolding disconnected
disconnect_sound h s k g =
    unless_keeps g _ s [] _
    (λ e. let c = (called h (length s) k _ refl e).0 in
    let f = (parts g).sockets k c.small in
    replaced g c.running c.small refl
    (linked_stands (fitting g) k c.small c.live (inl refl) (record { peer = λ n. n; remote = λ n. absurd (n refl); local = f.chain.local }) f.local))

-- ---- geterr, getopt, setopt, and the names

error_cleared : (h : Host) (s : List ℕ) (k : ℕ) → Sound h → Called h (length s) k → Sound (without_error h k)
error_cleared h s k g c = replaced g c.running c.small refl (error_stands (fitting g) k c.small c.live 0 (inl refl))

geterr_sound : (h : Host) (s : List ℕ) (k : ℕ) → Sound h → Sound (error_given h s k).host
unfolding error_given
geterr_sound h s k g = unless_keeps g _ s [] _ (λ e. error_cleared h s k g (called h (length s) k _ refl e).0)

setopt_sound : (h : Host) (s : List ℕ) (k o : ℕ) (on : Bool) → Sound h → Sound (option_set h s k o on).host
unfolding option_set
setopt_sound h s k o on g =
    unless_keeps g _ s [] _
    (λ e. let c = called h (length s) k _ refl e in
    let rows = (rows_passed ((unknown_option o, 6) ∷ (eqb o 2 && not (eqb (socket_at h k).lport.0 0), 6) ∷ []) 0 refl c.1).0 in
    replaced g c.0.running c.0.small refl
    (options_stands (fitting g) k c.0.small c.0.live _ _ (fair (socket_at h k) rows.0 rows.1.0)))
  where
    second : eqb o 1 ≡ false → unknown_option o ≡ false → eqb o 2 ≡ true
    second e u = ⊎_elim (λ x. x) (λ x. absurd (false≢true (sym u ∙ ap (λ (b : Bool). not (b || eqb o 2)) e ∙ ap (λ (b : Bool). not (false || b)) x))) (cases_Bool (eqb o 2))

    -- reuse stays, or there is no local port
    fair : (t : Socket) → unknown_option o ≡ false → (eqb o 2 && not (eqb t.lport.0 0)) ≡ false → (cond (eqb o 1) t.reuse on ≡ t.reuse) ⊎ (t.lport.0 ≡ 0)
    fair t known free =
        cond_both (eqb o 1) t.reuse on (λ (b : Bool). (b ≡ t.reuse) ⊎ (t.lport.0 ≡ 0)) (λ e. inl refl)
        (λ e. ⊎_elim (λ x. inr (eqb-true _ _ x)) (λ x. not_both (and_from (eqb o 2) _ (second e known) (ap not x)) free) (cases_Bool (eqb t.lport.0 0)))

-- ---- sendto

-- socket k with a local port, autobound if it had none
autobound_sound : (h : Host) (s : List ℕ) (k : ℕ) → Sound h → Called h (length s) k → Sound (autobound h k)
autobound_sound h s k g c =
    let f = (parts g).sockets k c.small in
    replaced g c.running c.small refl (local_stands g k c.small c.live (inl refl) f.chain.peer f.chain.remote f.local)

-- autobind leaves the interfaces as they are
same_interfaces : (h : Host) (k : ℕ) {o : OutQueue} → OutFit h.interfaces o → OutFit (autobound h k).interfaces o
unfolding with_socket
same_interfaces h k f = f

queued_sound : (h : Host) (s : List ℕ) (k a : ℕ) (p : Port) (payload : List ℕ) → Sound h → Called h (length s) k → Sound (queued_out h s k a p payload).host
unfolding queued_out
queued_sound h s k a p payload g c =
    unless_keeps g _ s [] _
    (λ e. let w = sendable h (length s) k a p (length payload) c.ready refl e in
    let rows = (rows_passed (send_rows h k a p (length payload)) 0 refl e).0 in
    let routed : source_for h (socket_at h k) (target (socket_at h k) a p) ≢ 0 = eqb-false _ _ rows.1.1.1.0 in
    sent_on (record { few = w.1; store = c.ready.room }) w.0 (source_mine h g k _ c.small routed))
  where
    sent_on : Room h.out s → length payload ≤ 512 → ours h.interfaces (source_for h (socket_at h k) (target (socket_at h k) a p)) ≡ true
        → Sound (with_out (autobound h k) (with_item h.out (datagram_of (flow_of h k a p) (length payload))))
    sent_on r small mine =
        out_kept (autobound_sound h s k g c) (add_sized h.out g.out s r _ payload small)
        (same_interfaces h k (add_fit h.out g.out s r _ payload small (parts g).out (record { kind = omega arith; small = small; bare = λ n. absurd (n refl); source = mine })))

sendto_sound : (h : Host) (s : List ℕ) (k a : ℕ) (p : Port) (payload : List ℕ) → Sound h → Sound (sent h s k a p payload).host
unfolding sent
sendto_sound h s k a p payload g =
    unless_keeps g _ s [] _
    (λ e. let c = (called h (length s) k _ refl e).0 in
    cond_both (eqb (socket_at h k).error 0) _ _ (λ (o : Outcome). Sound o.host) (λ x. queued_sound h s k a p payload g c) (λ x. error_cleared h s k g c))

-- ---- recvfrom, resume, interrupt

-- other queues leave the sockets as they are
queues_sockets : (h : Host) (q : Queues) (t : Thread) → Awaited h.sockets t → Awaited (with_queues h q).sockets t
unfolding with_queues
queues_sockets h q t a = a

-- the oldest of socket k is taken; the thread waits on nobody, or on what it waited on
taken_sound : (h : Host) (s : List ℕ) (k : ℕ) (b : List ℕ) (t : Thread) → Sound h → Holding h (length s) k → (socket_at h k).live ≡ true → Awaited h.sockets t → Sound (oldest_taken h s k b t).host
unfolding oldest_taken
taken_sound h s k b t g w live a =
    cond_both (ltb (length b) (first_head h.queues k).len) _ _ (λ (o : Outcome). Sound o.host) (λ e. g)
    (λ e. thread_kept (queues_kept g (take_sized h.queues g.queues s k some) each) (queues_sockets h _ t a))
  where
    some : Some h.queues s k
    some = let q = holds_some w in record { small = w.small; some = q.0; few = q.1; store = w.ready.room }

    each : (l : ℕ) → l < 16 → QueueFit (socket_at h l).live (without_first h.queues k) l
    each l hl =
        ⊎_elim
        (λ (e : l ≡ k). rw (e, live) (take_fit h.queues g.queues s k some (rw live at ((parts g).queues k w.small))))
        (λ (d : l ≢ k). fit_same (take_else h.queues g.queues s k some l hl d) ((parts g).queues l hl))
        (cases_eq l k)

-- socket k after it was replaced
placed : (h : Host) (k : ℕ) (t : Socket) → length h.sockets ≡ 16 → k < 16 → socket_at (with_socket h k t) k ≡ t
unfolding with_socket
placed h k t z hk = socket_there h.sockets k t (omega arith)

-- an error that is told ends the wait: the same host, by the thread first
ended_wait : (h : Host) (k : ℕ) → Sound h → k < 16 → (socket_at h k).live ≡ true → Sound (with_thread (without_error h k) Running)
unfolding with_socket with_thread
ended_wait h k g hk live =
    replaced (thread_kept g (nobody_awaited h.sockets)) refl hk refl (error_stands (fitting g) k hk live 0 (inl refl))

-- the thread waits on socket k, which has a local port by then
waits : (h : Host) (s : List ℕ) (k : ℕ) → Sound h → Called h (length s) k → Sound (waiting_on h k)
waits h s k g c = thread_kept (autobound_sound h s k g c) (λ d e. at_port d (sym (ap awaited_by e)))
  where
    there : socket_at (autobound h k) k ≡ with_local (socket_at h k) (socket_at h k).laddr (port_of h k)
    there = placed h k _ g.sockets c.small

    at_port : (d : Descriptor) → d.0 ≡ k → Bound (autobound h k).sockets d.0
    at_port d e = rw e (record { small = c.small; live = ap (λ (x : Socket). x.live) there ∙ c.live; port = λ z. port_some h.sockets (socket_at h k).lport (sym (ap (λ (x : Socket). x.lport.0) there) ∙ z) })

-- what the thread waits on is open
waits_is : (h : Host) (room : ℕ) → resume_refusal h room ≡ 0 → waiting h.thread ≡ true
waits_is h room e = not-false _ (rows_passed (alive_rows h room ++ ((not (waiting h.thread), 6) ∷ [])) 0 refl e).0.1.1.1.0

awaited_live : (h : Host) → Sound h → waiting h.thread ≡ true → (socket_at h (awaited_by h.thread)).live ≡ true
awaited_live h g = on h.thread (parts g).awaited
  where
    on : (t : Thread) → Awaited h.sockets t → waiting t ≡ true → (socket_at h (awaited_by t)).live ≡ true
    on Running a w = absurd (false≢true w)
    on (Waiting d) a w = (a d refl).live
    on Ended a w = absurd (false≢true w)

resumed_on_lem : (h : Host) (s : List ℕ) (k : ℕ) (b : List ℕ) → Sound h → Ready h (length s) → k < 16 → (socket_at h k).live ≡ true → Sound (resumed_on h s k b).host
unfolding resumed_on
resumed_on_lem h s k b g r hk live =
    cond_both (not (eqb (socket_at h k).error 0)) _ _ (λ (o : Outcome). Sound o.host) (λ x. ended_wait h k g hk live)
    (λ x. cond_both (not (eqb (count_at h k) 0)) _ _ (λ (o : Outcome). Sound o.host)
    (λ y. taken_sound h s k b Running g (record { ready = r; small = hk; some = eqb-false _ _ (not-true _ y) }) live (nobody_awaited h.sockets))
    (λ y. g))

recvfrom_sound : (h : Host) (s : List ℕ) (k : ℕ) (nonblocking : Bool) (b : List ℕ) → Sound h → Sound (received h s k nonblocking b).host
unfolding received
recvfrom_sound h s k nonblocking b g =
    unless_keeps g _ s b _
    (λ e. let c = (called h (length s) k _ refl e).0 in
    cond_both (not (eqb (socket_at h k).error 0)) _ _ (λ (o : Outcome). Sound o.host) (λ x. error_cleared h s k g c)
    (λ x. cond_both (not (eqb (count_at h k) 0)) _ _ (λ (o : Outcome). Sound o.host)
    (λ y. taken_sound h s k b h.thread g (record { ready = c.ready; small = c.small; some = eqb-false _ _ (not-true _ y) }) c.live (parts g).awaited)
    (λ y. cond_both nonblocking _ _ (λ (o : Outcome). Sound o.host) (λ z. g) (λ z. waits h s k g c))))

resume_sound : (h : Host) (s b : List ℕ) → Sound h → Sound (resumed h s b).host
unfolding resumed
resume_sound h s b g = unless_keeps g _ s b _ (λ e. let r = resuming h (length s) refl e in resumed_on_lem h s (awaited_by h.thread) b g r.0 r.1 (awaited_live h g (waits_is h (length s) e)))

interrupt_sound : (h : Host) (s : List ℕ) → Sound h → Sound (interrupted h s).host
unfolding interrupted
interrupt_sound h s g = unless_keeps g _ s [] _ (λ e. thread_kept g (nobody_awaited h.sockets))

-- ---- close, exit, opening

-- socket k closed, where its queue is empty
closed_after : (h : Host) (k : ℕ) (q : Queues) → h.thread ≡ Running → k < 16 → Sound (with_queues h q) → QueueFit false q k → Sound (with_queues (with_socket h k no_socket) q)
unfolding with_socket with_queues
closed_after h k q r hk g f = socket_kept g hk (unbound_stands (fitting g) k hk refl (closed_fit h.interfaces)) f (λ d x y. awake r d x)

-- no socket open and nothing held
empty_sound : (is : List Interface) (n : ℕ) (o : OutQueue) (t : Thread) → Opened is n → out.Sized o → OutFit is o → ((d : Descriptor) → t ≢ Waiting d)
    → Sound (record { interfaces = is; sockets = copies no_socket 16; queues = no_queues; out = o; thread = t; icount = n })
empty_sound is n o t w z f nobody =
    record {
      sockets = length_copies no_socket 16;
      queues = empty_sized;
      out = z;
      formed =
          from_parts
          (record {
            opened = w;
            sockets = λ k l. rw (get_or_copies no_socket no_socket 16 k l) (closed_fit is);
            apart = λ j k lj lk d. rw (get_or_copies no_socket no_socket 16 j lj) (record { reused = λ x y m e v. absurd (m refl) });
            queues = λ k l. empty_fit (socket_in (copies no_socket 16) k).live k l;
            out = f;
            awaited = λ d e. absurd (nobody d e);
          });
    }

close_sound : (h : Host) (s : List ℕ) (k : ℕ) → Sound h → Sound (closed h s k).host
unfolding closed
close_sound h s k g =
    unless_keeps g _ s [] _
    (λ e. let c = (called h (length s) k _ refl e).0 in
    -- the queue first, so that the closed socket finds its own empty
    gone c.running c.small c.ready.room)
  where
    emptied_first : k < 16 → length s ≡ 40960 → Sound (with_queues h (without_any h.queues k))
    emptied_first hk room =
        queues_kept g (clear_sized h.queues g.queues s room k hk)
        (λ l hl. ⊎_elim (λ (e : l ≡ k). rw e (clear_fit h.queues g.queues s room k hk (socket_at h k).live)) (λ (d : l ≢ k). fit_same (clear_else h.queues g.queues s room k hk l hl d) ((parts g).queues l hl)) (cases_eq l k))

    gone : h.thread ≡ Running → k < 16 → length s ≡ 40960 → Sound (with_queues (with_socket h k no_socket) (without_any h.queues k))
    gone r hk room = closed_after h k (without_any h.queues k) r hk (emptied_first hk room) (clear_fit h.queues g.queues s room k hk false)

exit_sound : (h : Host) (s : List ℕ) → Sound h → Sound (exited h s).host
unfolding exited exit_host
exit_sound h s g =
    unless_keeps g _ s [] _
    (λ e. empty_sound h.interfaces h.icount h.out Ended (parts g).opened g.out (parts g).out (λ d x. absurd (false≢true (ap waiting x))))

-- opening gives a sound host, refused or not
none_opened : Opened (copies no_interface 4) 0
none_opened =
    record {
      few = omega arith;
      ids = λ i l. absurd (omega arith);
      others = λ i j l. absurd (omega arith);
      addressed = λ i l. absurd (omega arith);
      agreed = λ i p q a b l. absurd (omega arith);
      distinct = λ i j p q a l. absurd (omega arith);
      usable = λ i p a l. absurd (omega arith);
      unused = λ i l m. get_or_copies no_interface no_interface 4 i m;
    }

pub opening_sound : (is : List Interface) (n : ℕ) (s : List ℕ) → Sound (opened is n s).host
unfolding opened empty_host
opening_sound is n s =
    cond_both (eqb (opening_refusal is n (length s)) 0) _ _ (λ (o : Outcome). Sound o.host)
    (λ e. let rows = (rows_passed ((not (eqb (length s) 40960), 2) ∷ (not (opening_ok is n), 17) ∷ []) 0 refl (eqb-true _ _ e)).0 in
    empty_sound is n no_items Running ((opened_is is n).says (not-false _ rows.1.0)) outs.empty_sized (outs.empty_fit is) (λ d x. absurd (false≢true (ap waiting x))))
    (λ e. empty_sound (copies no_interface 4) 0 no_items Ended none_opened outs.empty_sized (outs.empty_fit (copies no_interface 4)) (λ d x. absurd (false≢true (ap waiting x))))

-- ---- every step

pub step_keeps : (w : World) (t : Step) → Sound w.host → Sound (after w t).host
unfolding after local_given peer_given option_given polled_of
step_keeps w socket g = socket_sound w.host w.bytes g
step_keeps w (bind k a p) g = bind_sound w.host w.bytes k a p g
step_keeps w (connect k a p) g = connect_sound w.host w.bytes k a p g
step_keeps w (disconnect k) g = disconnect_sound w.host w.bytes k g
step_keeps w (getsockname k) g = unless_keeps g _ w.bytes [] _ (λ e. g)
step_keeps w (getpeername k) g = unless_keeps g _ w.bytes [] _ (λ e. g)
step_keeps w (geterr k) g = geterr_sound w.host w.bytes k g
step_keeps w (getopt k o) g = unless_keeps g _ w.bytes [] _ (λ e. g)
step_keeps w (setopt k o on) g = setopt_sound w.host w.bytes k o on g
step_keeps w (sendto k a p payload) g = sendto_sound w.host w.bytes k a p payload g
step_keeps w (recvfrom k nonblocking b) g = recvfrom_sound w.host w.bytes k nonblocking b g
step_keeps w (resume b) g = resume_sound w.host w.bytes b g
step_keeps w interrupt g = interrupt_sound w.host w.bytes g
step_keeps w (poll r v) g = unless_keeps g _ w.bytes [] _ (λ e. g)
step_keeps w (close k) g = close_sound w.host w.bytes k g
step_keeps w exit g = exit_sound w.host w.bytes g
step_keeps w (datagram f p) g = (datagram_dealt w g f p).sound
step_keeps w (notice src dst f) g = (notice_quiet w g src dst f).sound
step_keeps w (outstep b) g = (outstep_dealt w g b).sound
