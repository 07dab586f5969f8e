-- What the out step leaves: the oldest item out of the out-queue, and a datagram or a notice handled inside as an arrival would be.
-- Assumes nothing.
use mathlib.Core.Path.{◌≡◌, refl, sym, ap, ◌∙◌}
use mathlib.Core.List.{List, [], ◌∷◌, ◌++◌, append-nil}
use mathlib.Core.Logic.{◌≢◌}
use mathlib.Core.Bool.{true, false, ◌&&◌, not, cond}
use Prim.Native.Nat.{ℕ, ◌+◌, ◌*◌, ◌<◌, ◌≤◌}
use native.Mathlib.Omega.{arith}
use lib.Dec.{eqb, leb}
use lib.ListN.{length}
use borrow.Author.Tests.{eqb-true, eqb-false, not-true, ne_eqb, le-leb}
use Rattle.std.proofs.lemmas.Bool.{and_from, cond_both, or_left}
use Rattle.laws.specs.Places.{part, splice}
use Rattle.laws.proofs.Splice.{length_part, part_part}
use Rattle.laws.proofs.Tests.{and_left, and_right}
use Rattle.net.specs.Address.{loopback, martian}
use Rattle.net.specs.declared.Flow.{Flow}
use Rattle.state.specs.Interfaces.{ours}
use Rattle.store.proofs.Slots.{popped_length}
use Rattle.queues.specs.declared.Queues.{Queues}
use Rattle.queues.specs.Held.{Datagram, SameQueue, held}
use Rattle.queues.proofs.Held.{held_same, elsewhere}
use Rattle.outqueue.specs.declared.OutQueue.{OutQueue}
use Rattle.outqueue.specs.Moves.{item_at, destination_of, without_first}
use Rattle.outqueue.specs.Held.{Parcel, waiting_out, oldest_out}
use Rattle.outqueue.proofs.Held.{remove_sized, remove_fit, remove_held, remove_length, remove_before}
use Rattle.delivery.specs.Landing.{Landed, landing, loop_head, looping, brings, leaves_notice}
use Rattle.delivery.specs.Hearing.{turned, hearing}
use Rattle.delivery.proofs.Cases.{landing_cases}
use Rattle.delivery.proofs.Facts.{landing_facts}
use Rattle.host.specs.declared.Host.{Host}
use Rattle.answers.specs.declared.Answer.{Answer}
use Rattle.host.specs.declared.Stepped.{Stepped}
use Rattle.answers.specs.Answers.{plain}
use Rattle.host.specs.Answers.{Outcome, outcome, gives, unless}
use Rattle.host.specs.Moves.{with_queues, with_out}
use Rattle.answers.specs.Tables.{first}
use Rattle.host.specs.Arrivals.{landed_in, heard_step}
use Rattle.host.specs.Emitting.{out_rows, oldest_item, without_oldest, bytes_without, handled_inside, leaving, stepped, Leaving}
use Rattle.host.proofs.Passed.{leavable, oldest_small}
use Rattle.history.specs.Sound.{Sound}
use Rattle.history.specs.Frame.{Picks, sought_by}
use Rattle.history.specs.Order.{holds, first_out, coming_back}
use Rattle.history.specs.Outgoing.{queued_in, takes}
use Rattle.history.specs.Steps.{World}
use Rattle.history.proofs.Moves.{parts, out_kept}
use Rattle.history.proofs.Rows.{rows_all}
use Rattle.history.proofs.Arrivals.{hearing_facts, heard_facts, Dealt, either_dealt, landed_sound}

-- ---- the out step

-- the bytes of the oldest item
oldest_out_bytes : (o : OutQueue) (s : List ℕ) → length s ≡ 40960 → (item_at o 0).len ≤ 512 → (oldest_out o s).bytes ≡ part s 32768 (item_at o 0).len
unfolding part
oldest_out_bytes o s room small = part_part 0 s (32768 + 0 * 512) 512 0 (item_at o 0).len 32768 (omega arith) (omega arith) (omega arith)

-- two in a row
same_then : {q r v : Queues} {s t u : List ℕ} {k : ℕ} → SameQueue q s r t k → SameQueue r t v u k → SameQueue q s v u k
same_then x y = record { count = y.count ∙ x.count; heads = λ i m. y.heads i m ∙ x.heads i m; bytes = y.bytes ∙ x.bytes }

took : (n : ℕ) → 20 ≤ n → n ≤ 29 → takes n ≡ true
took n a b = and_from (leb 20 n) _ (le-leb 20 n a) (ap not (ne_eqb n 31 (λ e. absurd (omega (arith, e)))))

module _ (w : World) (g : Sound w.host) (b : List ℕ) (v : Leaving w.host w.bytes (length b)) where
  abbrev h : Host
  h = w.host

  abbrev s : List ℕ
  s = w.bytes

  abbrev o : OutQueue
  o = h.out

  abbrev rest : List ℕ
  rest = bytes_without h s

  rest_sound : Sound (without_oldest h s)
  rest_sound = out_kept g (remove_sized o g.out s v.some) (remove_fit o g.out s v.some (parts g).out)

  rest_room : length rest ≡ 40960
  rest_room = remove_length o g.out s v.some ∙ v.ready.room

  rest_same : (l : ℕ) → l < 16 → SameQueue h.queues s h.queues rest l
  rest_same l hl = elsewhere h.queues s rest l hl (remove_before o g.out s v.some) v.ready.room rest_room

  rest_held : (l : ℕ) → l < 16 → held h.queues rest l ≡ holds w l
  rest_held l hl = held_same h.queues h.queues s rest l v.ready.room rest_room hl (g.formed.counts l hl) (rest_same l hl)

  rest_waiting : queued_in w ≡ first_out w ∷ waiting_out (without_first o) rest
  rest_waiting = remove_held o g.out s v.some

  abbrev Picked : ℕ → Type 0
  Picked l = (loopback (destination_of (oldest_item h)) ≡ true) × Picks h.sockets (sought_by (oldest_item h)) l

  abbrev goes : ℕ → List Parcel
  goes n = cond (takes n) (first_out w ∷ []) []

  abbrev Out : Outcome → Type 0
  Out = Dealt w Picked (coming_back w) (first_out w).head.flow goes

  -- 30 and 32: nothing comes back in
  gone_out : (a : Answer) (c : List ℕ) → eqb a.number 20 ≡ false → eqb a.number 22 ≡ false → takes a.number ≡ true → Out (gives (without_oldest h s) a rest c)
  unfolding with_out
  gone_out a c e u t =
      record {
        sound = rest_sound;
        room = rest_room ∙ sym v.ready.room;
        frame = λ l hl x. record { record_same = refl; queue_same = rest_same l hl };
        grown = λ l hl. simp e (rest_held l hl ∙ sym (append-nil (holds w l)));
        waiting = simp (u, t) (append-nil (queued_in w) ∙ rest_waiting);
        best = λ x. absurd (eqb-false _ _ e x);
        lone = λ x. absurd (eqb-false _ _ u x);
      }

  -- a notice inside
  heard_inside : loopback (destination_of (oldest_item h)) ≡ true → eqb (oldest_item h).kind 0 ≡ false → Out (outcome (heard_step (without_oldest h s) (oldest_item h).flow) rest b)
  unfolding with_out
  heard_inside lb e =
      let x = heard_facts (without_oldest h s) rest_sound (oldest_item h).flow in
      let r = heard_step (without_oldest h s) (oldest_item h).flow in
      let q : sought_by (oldest_item h) ≡ turned (oldest_item h).flow = simp e in
      let n20 : eqb r.answer.number 20 ≡ false = ne_eqb r.answer.number 20 (λ (z : r.answer.number ≡ 20). absurd (omega (arith, z, x.answer.0))) in
      let n22 : eqb r.answer.number 22 ≡ false = ne_eqb r.answer.number 22 (λ (z : r.answer.number ≡ 22). absurd (omega (arith, z, x.answer.0))) in
      let t : takes r.answer.number ≡ true = took r.answer.number (omega (arith, x.answer.0)) x.answer.1 in
      record {
        sound = x.sound;
        room = rest_room ∙ sym v.ready.room;
        frame = λ l hl p. record { record_same = x.others l (λ y. p (lb, rw q y)); queue_same = rw x.queues (rest_same l hl) };
        grown = λ l hl. simp n20 (rw x.queues (rest_held l hl ∙ sym (append-nil (holds w l))));
        waiting = simp (n22, t) (rw x.out (append-nil (queued_in w) ∙ rest_waiting));
        best = λ y. absurd (eqb-false _ _ n20 y);
        lone = λ y. absurd (eqb-false _ _ n22 y);
      }

  -- a datagram inside
  landed_inside : loopback (destination_of (oldest_item h)) ≡ true → eqb (oldest_item h).kind 0 ≡ true → Out (landed_in h (looping h.sockets h.queues o s) b)
  unfolding with_out with_queues
  landed_inside lb e =
      let x = oldest_item h in
      let small = oldest_small v in
      let size = length_part s 32768 x.len (omega (arith, v.ready.room)) in
      let mine : ours h.interfaces x.flow.dst ≡ true = or_left (loopback x.flow.dst) _ (ap loopback (sym (to_dst e)) ∙ lb) in
      let l = looping h.sockets h.queues o s in
      let y = landing_facts h.sockets h.queues g.queues (without_first o) rest_sound.out rest rest_room (loop_head x) (part s 32768 x.len) g.formed.counts (sym size) (omega (arith, size)) rest_sound.formed.outcount (loopback x.flow.src) in
      let q : sought_by x ≡ x.flow = simp e in
      let t : takes l.number ≡ true = took l.number y.answer.0 (omega (arith, y.answer.1)) in
      record {
        sound = landed_sound h g l (remove_fit o g.out s v.some (parts g).out) mine y;
        room = y.room ∙ sym v.ready.room;
        frame = λ j hj p. record { record_same = refl; queue_same = same_then (rest_same j hj) (y.others j hj (λ z i. p (lb, rw q ((y.best z).0, i ∙ (y.best z).1)))) };
        grown =
            λ j hj. y.grown j hj
            ∙ ap (λ (z : List Datagram). z ++ brings l j (loop_head x) (part s 32768 x.len)) (rest_held j hj)
            ∙ ap (λ (z : List ℕ). holds w j ++ brings l j (loop_head x) z) (sym (oldest_out_bytes o s v.ready.room small));
        waiting = simp t (ap (λ (z : List Parcel). z ++ leaves_notice l.number x.flow) rest_waiting ∙ ap (λ (z : List Parcel). first_out w ∷ z) (sym y.waiting));
        best = y.best;
        lone = y.none;
      }
    where
      to_dst : eqb (oldest_item h).kind 0 ≡ true → destination_of (oldest_item h) ≡ (oldest_item h).flow.dst
      to_dst z = simp z

  leaving_dealt : Out (leaving h s b)
  unfolding leaving handled_inside
  leaving_dealt =
      cond_both (loopback (destination_of (oldest_item h))) _ _ Out
      (λ lb. cond_both (eqb (oldest_item h).kind 0) _ _ Out (landed_inside lb) (heard_inside lb))
      (λ lb. cond_both (martian (destination_of (oldest_item h))) _ _ Out (λ m. gone_out (plain 32) b refl refl refl) (λ m. gone_out _ _ refl refl refl))

pub outstep_dealt : (w : World) (g : Sound w.host) (b : List ℕ)
    → Dealt w (λ l. (loopback (destination_of (oldest_item w.host)) ≡ true) × Picks w.host.sockets (sought_by (oldest_item w.host)) l) (coming_back w) (first_out w).head.flow (λ n. cond (takes n) (first_out w ∷ []) [])
    (stepped w.host w.bytes b)
unfolding stepped
outstep_dealt w g b =
    either_dealt w g _ (coming_back w) (first_out w).head.flow (λ n. cond (takes n) (first_out w ∷ []) []) _ b _
    (rows_all (λ n. not (eqb n 20) && not (eqb n 22)) (out_rows w.host (length w.bytes) (length b)) 0 refl refl) (stays (first (out_rows w.host (length w.bytes) (length b))) (rows_all (λ n. not (takes n)) (out_rows w.host (length w.bytes) (length b)) 0 refl refl))
    (λ e. leaving_dealt w g b (leavable w.host w.bytes (length b) refl e))
  where
    stays : (n : ℕ) → not (takes n) ≡ true → cond (takes n) (first_out w ∷ []) [] ≡ []
    stays n e = let f : takes n ≡ false = not-true _ e in simp f

-- ---- what the caller gets: only 30 writes the buffer, and only the payload's bytes

pub record Emits (w : World) (b : List ℕ) (o : Outcome) : Type 0 where
  -- 30: the oldest item, said whole, and its bytes at the start of the buffer
  pub emitted : o.answer.number ≡ 30 → (o.answer.item ≡ (first_out w).head) × (o.lent ≡ splice b 0 (first_out w).bytes)
  -- any other number leaves the buffer as it was
  pub kept : o.answer.number ≢ 30 → o.lent ≡ b
  -- a notice is queued only if the sender's address is loopback
  pub answers : o.answer.number ≡ 22 → loopback (first_out w).head.flow.src ≡ true

module _ (w : World) (b : List ℕ) where
  -- neither 30 nor 22, and the buffer as it was
  silent : (o : Outcome) → o.answer.number ≢ 30 → o.answer.number ≢ 22 → o.lent ≡ b → Emits w b o
  silent o d n e = record { emitted = λ x. absurd (d x); kept = λ x. e; answers = λ x. absurd (n x) }

  landed_emits : (t : List ℕ) (x : Datagram) → length t ≡ 40960
      → Emits w b (landed_in w.host (landing w.host.sockets w.host.queues (without_first w.host.out) t x.head x.bytes (loopback (first_out w).head.flow.src)) b)
  landed_emits t x room =
      landing_cases w.host.sockets w.host.queues (without_first w.host.out) t room x.head x.bytes (loopback (first_out w).head.flow.src) (λ (l : Landed). Emits w b (landed_in w.host l b))
      (λ e. silent _ (λ z. absurd (omega (arith, z))) (λ z. absurd (omega (arith, z))) refl)
      (λ e r. silent _ (λ z. absurd (omega (arith, z))) (λ z. absurd (omega (arith, z))) refl)
      (λ e. silent _ (λ z. absurd (omega (arith, z))) (λ z. absurd (omega (arith, z))) refl)
      (λ e m r. record { emitted = λ z. absurd (omega (arith, z)); kept = λ z. refl; answers = λ z. m })

  heard_emits : (h : Host) (f : Flow) (t : List ℕ) → Emits w b (outcome (heard_step h f) t b)
  unfolding heard_step
  heard_emits h f t =
      cond_both (eqb (hearing h.sockets f).number 27) _ _ (λ (r : Stepped). Emits w b (outcome r t b))
      (λ e. silent _ (λ z. absurd (omega (arith, z))) (λ z. absurd (omega (arith, z))) refl)
      (λ e. let n = hearing_facts h.sockets f in silent _ (λ z. absurd (omega (arith, z, n.1))) (λ z. absurd (omega (arith, z, n.0))) refl)

  leaving_emits : Leaving w.host w.bytes (length b) → Emits w b (leaving w.host w.bytes b)
  unfolding leaving handled_inside
  leaving_emits v =
      cond_both (loopback (destination_of (oldest_item w.host))) _ _ (Emits w b)
      (λ e. cond_both (eqb (oldest_item w.host).kind 0) _ _ (Emits w b)
      (λ k. landed_emits (bytes_without w.host w.bytes) (record { head = loop_head (oldest_item w.host); bytes = part w.bytes 32768 (oldest_item w.host).len })
      (popped_length w.bytes 32768 w.host.out.count v.some.some (omega (arith, v.some.few, v.some.store)) ∙ v.some.store))
      (λ k. heard_emits _ _ _))
      (λ e. cond_both (martian (destination_of (oldest_item w.host))) _ _ (Emits w b)
      (λ m. silent _ (λ z. absurd (omega (arith, z))) (λ z. absurd (omega (arith, z))) refl)
      (λ m. record {
        emitted = λ z. (refl, ap (splice b 0) (sym (oldest_out_bytes w.host.out w.bytes v.ready.room (oldest_small v))));
        kept = λ z. absurd (z refl);
        answers = λ z. absurd (omega (arith, z));
      }))

  either_emits : (n : ℕ) (o : Outcome) → (not (eqb n 30) && not (eqb n 22)) ≡ true → (n ≡ 0 → Emits w b o) → Emits w b (unless n w.host w.bytes b o)
  unfolding unless
  either_emits n o q f =
      cond_both (eqb n 0) o (gives w.host (plain n) w.bytes b) (Emits w b) (λ e. f (eqb-true _ _ e))
      (λ e. silent _ (eqb-false _ _ (not-true _ (and_left (not (eqb n 30)) _ q))) (eqb-false _ _ (not-true _ (and_right (not (eqb n 30)) _ q))) refl)

  pub outstep_emits : Emits w b (stepped w.host w.bytes b)
  unfolding stepped
  outstep_emits =
      either_emits _ _ (rows_all (λ n. not (eqb n 30) && not (eqb n 22)) (out_rows w.host (length w.bytes) (length b)) 0 refl refl) (λ e. leaving_emits (leavable w.host w.bytes (length b) refl e))
