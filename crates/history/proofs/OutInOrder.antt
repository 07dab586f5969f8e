-- Out-queue: what was emitted, handled inside or discarded, followed by what is still queued, is exactly what was queued, in order, with contents;
-- and each of those was queued by a sendto or as a notice for a datagram that nobody took.
-- Assumes nothing.
use mathlib.Core.Path.{◌≡◌, refl, sym, ap, ◌∙◌}
use mathlib.Core.List.{List, [], ◌∷◌, ◌++◌, append_assoc, append-nil}
use mathlib.Core.Logic.{◌≢◌}
use mathlib.Core.Bool.{Bool, true, not}
use Prim.Native.Nat.{ℕ, ◌<◌}
use lib.Dec.{eqb}
use lib.ListN.{length}
use borrow.Author.Tests.{eqb-false, not-true}
use Rattle.std.proofs.lemmas.Bool.{cond_both}
use Rattle.net.specs.Address.{no_flow}
use Rattle.net.specs.declared.Flow.{Flow}
use Rattle.state.specs.declared.Interface.{Interface}
use Rattle.matching.specs.Scores.{score_of, best_of}
use Rattle.matching.proofs.Winner.{nobody}
use Rattle.outqueue.specs.Held.{Parcel, waiting_out}
use Rattle.outqueue.proofs.Held.{empty_held}
use Rattle.host.specs.Form.{socket_at}
use Rattle.host.specs.Answers.{Outcome}
use Rattle.host.specs.Opening.{opening_refusal, empty_host, opened}
use Rattle.history.specs.Steps.{World, Step, after, socket, bind, connect, disconnect, getsockname, getpeername, geterr, getopt, setopt, sendto, recvfrom, resume, interrupt, poll, close, exit, datagram, notice, outstep}
use Rattle.history.specs.Order.{first_out}
use Rattle.history.specs.Outgoing.{queued_in, queued_by, left_by}
use Rattle.history.specs.Receptive.{each, numbers_of}
use Rattle.history.specs.Runs.{next, run, opening, Accepted, reached, all_queued, all_left}
use Rattle.history.proofs.Facts.{Good, step_facts}
use Rattle.history.proofs.Arrivals.{datagram_dealt}
use Rattle.history.proofs.Outsteps.{outstep_dealt}
use Rattle.history.proofs.Numbers.{step_listed}
use Rattle.history.proofs.Preservation.{opening_good, reached_good}

-- the theorem
abbrev pub OutInOrder : Type 0
OutInOrder = (is : List Interface) (n : ℕ) (s : List ℕ) → Accepted is n s → (ts : List Step) → all_left (opening is n s) ts ++ queued_in (reached is n s ts) ≡ all_queued (opening is n s) ts

-- the flow of the datagram that a step may answer with a notice
abbrev pub answered : World → Step → Flow
answered w socket = no_flow
answered w (bind k a p) = no_flow
answered w (connect k a p) = no_flow
answered w (disconnect k) = no_flow
answered w (getsockname k) = no_flow
answered w (getpeername k) = no_flow
answered w (geterr k) = no_flow
answered w (getopt k o) = no_flow
answered w (setopt k o on) = no_flow
answered w (sendto k a p payload) = no_flow
answered w (recvfrom k nonblocking b) = no_flow
answered w (resume b) = no_flow
answered w interrupt = no_flow
answered w (poll r v) = no_flow
answered w (close k) = no_flow
answered w exit = no_flow
answered w (datagram f p) = f
answered w (notice src dst f) = no_flow
answered w (outstep b) = (first_out w).head.flow

-- and its second half: a notice is queued, with 22, only where no socket matches
abbrev pub Unclaimed : Type 0
Unclaimed =
    (is : List Interface) (n : ℕ) (s : List ℕ) → Accepted is n s → (ts : List Step) (t : Step) → (after (reached is n s ts) t).answer.number ≡ 22
    → (k : ℕ) → k < 16 → score_of (socket_at (reached is n s ts).host k) (answered (reached is n s ts) t) ≡ 0

-- ---- its proof

run_out : (w : World) → Good w → (ts : List Step) → all_left w ts ++ queued_in (run w ts) ≡ queued_in w ++ all_queued w ts
unfolding run all_left all_queued
run_out w g [] = sym (append-nil (queued_in w))
run_out w g (t ∷ ts) =
    let f = step_facts w g t in
    append_assoc (left_by w t) (all_left (next w t) ts) (queued_in (run (next w t) ts))
    ∙ ap (λ (x : List Parcel). left_by w t ++ x) (run_out (next w t) f.good ts)
    ∙ sym (append_assoc (left_by w t) (queued_in (next w t)) (all_queued (next w t) ts))
    ∙ ap (λ (x : List Parcel). x ++ all_queued (next w t) ts) (sym f.out)
    ∙ append_assoc (queued_in w) (queued_by w t) (all_queued (next w t) ts)

opening_empty : (is : List Interface) (n : ℕ) (s : List ℕ) → queued_in (opening is n s) ≡ []
unfolding opened empty_host
opening_empty is n s =
    cond_both (eqb (opening_refusal is n (length s)) 0) _ _ (λ (o : Outcome). waiting_out o.host.out o.bytes ≡ []) (λ e. empty_held _) (λ e. empty_held _)

pub out_in_order : OutInOrder
out_in_order is n s a ts = run_out (opening is n s) (opening_good is n s a) ts ∙ ap (λ (x : List Parcel). x ++ all_queued (opening is n s) ts) (opening_empty is n s)

-- ---- and of its second half

-- not 22
abbrev other : ℕ → Bool
other n = not (eqb n 22)

-- a step whose list has no 22
never : (w : World) → Good w → (t : Step) → each other (numbers_of t) ≡ true → (after w t).answer.number ≢ 22
never w g t e = eqb-false _ _ (not-true _ (step_listed w g other (λ x. refl) (λ x. refl) t e))

step_unclaimed : (w : World) → Good w → (t : Step) → (after w t).answer.number ≡ 22 → (best_of w.host.sockets (answered w t)).score ≡ 0
unfolding after
step_unclaimed w g socket e = absurd (never w g socket refl e)
step_unclaimed w g (bind k a p) e = absurd (never w g (bind k a p) refl e)
step_unclaimed w g (connect k a p) e = absurd (never w g (connect k a p) refl e)
step_unclaimed w g (disconnect k) e = absurd (never w g (disconnect k) refl e)
step_unclaimed w g (getsockname k) e = absurd (never w g (getsockname k) refl e)
step_unclaimed w g (getpeername k) e = absurd (never w g (getpeername k) refl e)
step_unclaimed w g (geterr k) e = absurd (never w g (geterr k) refl e)
step_unclaimed w g (getopt k o) e = absurd (never w g (getopt k o) refl e)
step_unclaimed w g (setopt k o on) e = absurd (never w g (setopt k o on) refl e)
step_unclaimed w g (sendto k a p payload) e = absurd (never w g (sendto k a p payload) refl e)
step_unclaimed w g (recvfrom k nonblocking b) e = absurd (never w g (recvfrom k nonblocking b) refl e)
step_unclaimed w g (resume b) e = absurd (never w g (resume b) refl e)
step_unclaimed w g interrupt e = absurd (never w g interrupt refl e)
step_unclaimed w g (poll r v) e = absurd (never w g (poll r v) refl e)
step_unclaimed w g (close k) e = absurd (never w g (close k) refl e)
step_unclaimed w g exit e = absurd (never w g exit refl e)
step_unclaimed w g (datagram f p) e = (datagram_dealt w g.sound f p).lone e
step_unclaimed w g (notice src dst f) e = absurd (never w g (notice src dst f) refl e)
step_unclaimed w g (outstep b) e = (outstep_dealt w g.sound b).lone e

pub unclaimed : Unclaimed
unclaimed is n s a ts t e k hk =
    let w = reached is n s ts in
    nobody w.host.sockets (answered w t) (step_unclaimed w (reached_good is n s a ts) t e) k hk
