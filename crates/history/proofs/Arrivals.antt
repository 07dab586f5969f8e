-- What arrivals leave: a datagram at the end of its winner's queue or a notice for its sender; a notice heard by the sender of what it embeds.
-- Assumes nothing.
use mathlib.Core.Path.{◌≡◌, refl, sym, ap, ◌∙◌}
use mathlib.Core.List.{List, [], ◌++◌, append-nil}
use mathlib.Core.Logic.{inr}
use mathlib.Core.Bool.{true, false, ◌&&◌, not}
use Prim.Native.Nat.{ℕ, ◌<◌, ◌≤◌}
use native.Mathlib.Omega.{arith}
use lib.Dec.{eqb}
use lib.ListN.{length}
use borrow.Author.Tests.{eqb-true, eqb-false, not-true}
use Rattle.std.proofs.lemmas.Bool.{cond_both, or_right}
use Rattle.laws.proofs.Tests.{and_left, and_right}
use Rattle.net.specs.Address.{loopback}
use Rattle.net.specs.declared.Flow.{Flow}
use Rattle.state.specs.declared.Socket.{Socket}
use Rattle.state.specs.Interfaces.{ours}
use Rattle.state.specs.Places.{socket_in}
use Rattle.state.proofs.Places.{socket_else}
use Rattle.matching.specs.Scores.{best_of}
use Rattle.matching.proofs.Winner.{winner_is, winner_small}
use Rattle.matching.proofs.Scores.{score_matches}
use Rattle.binding.specs.Sockets.{with_error}
use Rattle.binding.proofs.Stands.{error_stands}
use Rattle.queues.specs.declared.Queues.{Queues}
use Rattle.queues.specs.Held.{Datagram, SameQueue, held}
use Rattle.outqueue.specs.declared.OutQueue.{OutQueue}
use Rattle.outqueue.specs.Fits.{OutFit}
use Rattle.outqueue.specs.Held.{Parcel, waiting_out}
use Rattle.delivery.specs.Landing.{Landed, leaves_notice}
use Rattle.delivery.specs.Hearing.{turned, sender_of, listens, Sought, hearing}
use Rattle.delivery.proofs.Facts.{Facts, landing_facts}
use Rattle.host.specs.declared.Host.{Host}
use Rattle.host.specs.declared.Stepped.{Stepped}
use Rattle.host.specs.Form.{socket_at}
use Rattle.answers.specs.Answers.{plain}
use Rattle.host.specs.Answers.{Outcome, gives, unless}
use Rattle.host.specs.Moves.{with_socket, with_queues, with_out}
use Rattle.answers.specs.Tables.{first}
use Rattle.host.specs.Arrivals.{datagram_rows, notice_rows, landed_in, arrived, heard_step, noticed}
use Rattle.host.proofs.Passed.{arrivable}
use Rattle.history.specs.Sound.{Sound}
use Rattle.history.specs.Frame.{Picks, Untouched}
use Rattle.history.specs.Order.{holds, comes, arriving_as}
use Rattle.history.specs.Outgoing.{queued_in}
use Rattle.history.specs.Steps.{World}
use Rattle.history.proofs.Moves.{parts, fitting, socket_kept, queues_kept, out_kept}
use Rattle.history.proofs.Rows.{rows_all}

-- ---- who hears of a notice

-- only the sender of what it embeds, and nothing but its pending error
pub record Heard (h : Host) (f : Flow) (r : Stepped) : Type 0 where
  pub sound : Sound r.host
  pub queues : r.host.queues ≡ h.queues
  pub out : r.host.out ≡ h.out
  pub others : (l : ℕ) → (Picks h.sockets (turned f) l → ⊥) → socket_at r.host l ≡ socket_at h l
  pub answer : (27 ≤ r.answer.number) × (r.answer.number ≤ 29)

-- what the number says
pub hearing_facts : (ks : List Socket) (f : Flow) → (27 ≤ (hearing ks f).number) × ((hearing ks f).number ≤ 29) × ((hearing ks f).number ≡ 27 → Picks ks (turned f) (hearing ks f).at)
unfolding hearing
hearing_facts ks f =
    cond_both (eqb (sender_of ks f).score 0) _ _ (λ (x : Sought). (27 ≤ x.number) × (x.number ≤ 29) × (x.number ≡ 27 → Picks ks (turned f) x.at))
    (λ e. (omega arith, omega arith, λ z. absurd (omega (arith, z))))
    (λ e. cond_both (listens (socket_in ks (sender_of ks f).at)) 27 28 (λ n. (27 ≤ n) × (n ≤ 29) × (n ≡ 27 → Picks ks (turned f) (sender_of ks f).at))
    (λ z. (omega arith, omega arith, λ x. (eqb-false _ _ e, refl))) (λ z. (omega arith, omega arith, λ x. absurd (omega (arith, x)))))

error_kept : (h : Host) → Sound h → (k : ℕ) → k < 16 → (socket_at h k).live ≡ true → Sound (with_socket h k (with_error (socket_at h k) 10))
error_kept h g k hk live =
    socket_kept g hk (error_stands (fitting g) k hk live 10 (inr refl)) ((parts g).queues k hk)
    (λ d e x. let b = (parts g).awaited d e in (live, λ z. b.port (ap (λ (j : ℕ). (socket_at h j).lport.0) x ∙ z)))

-- a winner is a descriptor, and open
picked_small : (ks : List Socket) (f : Flow) (k : ℕ) → Picks ks f k → k < 16
picked_small ks f k p = rw p.1 (winner_small ks f)

picked_live : (h : Host) (f : Flow) (k : ℕ) → Picks h.sockets f k → (socket_at h k).live ≡ true
picked_live h f k p = rw p.1 (score_matches _ f (λ e. p.0 (sym ((winner_is h.sockets f).is p.0).1 ∙ e))).live

pub heard_facts : (h : Host) → Sound h → (f : Flow) → Heard h f (heard_step h f)
unfolding heard_step with_socket
heard_facts h g f =
    let n = hearing_facts h.sockets f in
    let k = (hearing h.sockets f).at in
    cond_both (eqb (hearing h.sockets f).number 27) _ _ (Heard h f)
    (λ e. let p = n.2 (eqb-true _ _ e) in
    record {
      sound = error_kept h g k (picked_small h.sockets (turned f) k p) (picked_live h (turned f) k p);
      queues = refl;
      out = refl;
      others = λ l d. socket_else h.sockets k _ l (λ x. d (p.0, x ∙ p.1));
      answer = (omega arith, omega arith);
    })
    (λ e. record { sound = g; queues = refl; out = refl; others = λ l d. refl; answer = (n.0, n.1) })

-- ---- what an arrival and the out step leave

-- of a world w: `picked` says whom the step picks, d is the datagram that it may deliver, f the flow of the notice that it may queue,
-- and `gone` what it takes from the out-queue, by its number
pub record Dealt (w : World) (picked : ℕ → Type 0) (d : Datagram) (f : Flow) (gone : ℕ → List Parcel) (o : Outcome) : Type 0 where
  pub sound : Sound o.host
  pub room : length o.bytes ≡ length w.bytes
  pub frame : (l : ℕ) → l < 16 → (picked l → ⊥) → Untouched w o l
  pub grown : (l : ℕ) → l < 16 → held o.host.queues o.bytes l ≡ holds w l ++ comes o.answer l d
  pub waiting : queued_in w ++ leaves_notice o.answer.number f ≡ gone o.answer.number ++ waiting_out o.host.out o.bytes
  -- 20 is for the winner, 22 for nobody
  pub best : o.answer.number ≡ 20 → Picks w.host.sockets d.head.flow o.answer.descriptor.0
  pub lone : o.answer.number ≡ 22 → (best_of w.host.sockets f).score ≡ 0

pub same_queue : (q : Queues) (s : List ℕ) (l : ℕ) → SameQueue q s q s l
same_queue q s l = record { count = refl; heads = λ i m. refl; bytes = refl }

module _ (w : World) (g : Sound w.host) (picked : ℕ → Type 0) (d : Datagram) (f : Flow) (gone : ℕ → List Parcel) where
  -- the same world, with a number that neither delivers, nor queues, nor takes
  pub idle : (n : ℕ) (b : List ℕ) → eqb n 20 ≡ false → eqb n 22 ≡ false → gone n ≡ [] → Dealt w picked d f gone (gives w.host (plain n) w.bytes b)
  idle n b e u z =
      record {
        sound = g;
        room = refl;
        frame = λ l hl x. record { record_same = refl; queue_same = same_queue w.host.queues w.bytes l };
        grown = λ l hl. simp e (sym (append-nil (holds w l)));
        waiting = simp (u, z) (append-nil (queued_in w));
        best = λ x. absurd (eqb-false _ _ e x);
        lone = λ x. absurd (eqb-false _ _ u x);
      }

  pub either_dealt : (n : ℕ) (b : List ℕ) (o : Outcome) → (not (eqb n 20) && not (eqb n 22)) ≡ true → gone n ≡ [] → (n ≡ 0 → Dealt w picked d f gone o) → Dealt w picked d f gone (unless n w.host w.bytes b o)
  unfolding unless
  either_dealt n b o q z body =
      cond_both (eqb n 0) o (gives w.host (plain n) w.bytes b) (Dealt w picked d f gone) (λ e. body (eqb-true _ _ e))
      (λ e. idle n b (not-true _ (and_left (not (eqb n 20)) _ q)) (not-true _ (and_right (not (eqb n 20)) _ q)) z)

-- ---- a landing in a host

-- other queues leave the interfaces as they are
queues_interfaces : (h : Host) (q : Queues) {o : OutQueue} → OutFit h.interfaces o → OutFit (with_queues h q).interfaces o
unfolding with_queues
queues_interfaces h q f = f

pub landed_sound : (h : Host) → Sound h → {o : OutQueue} {s : List ℕ} {d : Datagram} (l : Landed) → OutFit h.interfaces o → ours h.interfaces d.head.flow.dst ≡ true
    → Facts h.sockets h.queues o s d.head d.bytes l → Sound (with_out (with_queues h l.queues) l.out)
landed_sound h g l fit mine x =
    out_kept (queues_kept g x.sized (x.fits (parts g).queues)) x.outsized (queues_interfaces h l.queues (x.outfits h.interfaces fit mine))

-- ---- an arriving datagram

module _ (w : World) (g : Sound w.host) where
  abbrev h : Host
  h = w.host

  abbrev s : List ℕ
  s = w.bytes

  landed_dealt : (room : length s ≡ 40960) (d : Datagram) (l : Landed) → ours h.interfaces d.head.flow.dst ≡ true → Facts h.sockets h.queues h.out s d.head d.bytes l
      → Dealt w (Picks h.sockets d.head.flow) d d.head.flow (λ n. []) (landed_in h l [])
  unfolding with_out with_queues
  landed_dealt room d l mine x =
      record {
        sound = landed_sound h g l (parts g).out mine x;
        room = x.room ∙ sym room;
        frame = λ j hj p. record { record_same = refl; queue_same = x.others j hj (λ e z. p ((x.best e).0, z ∙ (x.best e).1)) };
        grown = x.grown;
        waiting = sym x.waiting;
        best = x.best;
        lone = x.none;
      }

  pub datagram_dealt : (f : Flow) (p : List ℕ) → Dealt w (Picks h.sockets f) (arriving_as w f p) f (λ n. []) (arrived h s f p)
  unfolding arrived
  datagram_dealt f p =
      either_dealt w g (Picks h.sockets f) (arriving_as w f p) f (λ n. []) _ [] _ (rows_all (λ n. not (eqb n 20) && not (eqb n 22)) (datagram_rows h (length s) f (length p)) 0 refl refl) refl
      (λ e. let a = arrivable h (length s) f (length p) refl e in
      landed_dealt a.0.room (arriving_as w f p) _ (or_right (loopback f.dst) _ a.1)
      (landing_facts h.sockets h.queues g.queues h.out g.out s a.0.room _ p g.formed.counts refl a.2 g.formed.outcount true))

-- ---- an arriving notice

pub record Quiet (w : World) (picked : ℕ → Type 0) (o : Outcome) : Type 0 where
  pub sound : Sound o.host
  pub bytes : o.bytes ≡ w.bytes
  pub queues : o.host.queues ≡ w.host.queues
  pub out : o.host.out ≡ w.host.out
  pub others : (l : ℕ) → (picked l → ⊥) → socket_at o.host l ≡ socket_at w.host l

pub notice_quiet : (w : World) → Sound w.host → (src dst : ℕ) (f : Flow) → Quiet w (Picks w.host.sockets (turned f)) (noticed w.host w.bytes src dst f)
unfolding noticed unless
notice_quiet w g src dst f =
    cond_both (eqb (first (notice_rows w.host (length w.bytes) src dst f)) 0) _ _ (Quiet w (Picks w.host.sockets (turned f)))
    (λ e. let x = heard_facts w.host g f in record { sound = x.sound; bytes = refl; queues = x.queues; out = x.out; others = x.others })
    (λ e. record { sound = g; bytes = refl; queues = refl; out = refl; others = λ l d. refl })
