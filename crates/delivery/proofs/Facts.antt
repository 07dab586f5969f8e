-- What a landing does to what each socket holds and to what the out-queue holds: the laws of every delivery, from outside and from inside.
-- Assumes nothing.
use mathlib.Core.Path.{◌≡◌, refl, sym, ◌∙◌}
use mathlib.Core.List.{List, [], ◌∷◌, ◌++◌, append-nil}
use mathlib.Core.Logic.{◌≢◌, ⊎_elim}
use mathlib.Core.Bool.{Bool, true, false, cond}
use Prim.Native.Nat.{ℕ, ◌+◌, ◌*◌, ◌<◌, ◌≤◌}
use native.Mathlib.Omega.{arith}
use lib.Dec.{eqb}
use lib.ListN.{length}
use borrow.Author.Tests.{eqb-false, eq-eqb, ne_eqb}
use Rattle.std.proofs.lemmas.Bool.{cases_eq}
use Rattle.state.specs.declared.Interface.{Interface}
use Rattle.state.specs.declared.Queued.{Queued}
use Rattle.state.specs.declared.Socket.{Socket}
use Rattle.state.specs.Interfaces.{ours}
use Rattle.state.specs.Places.{socket_in}
use Rattle.store.specs.Store.{slot_written}
use Rattle.matching.specs.Scores.{best_of}
use Rattle.matching.proofs.Winner.{winner_is}
use Rattle.matching.proofs.Scores.{score_matches}
use Rattle.queues.specs.declared.Queues.{Queues}
use Rattle.queues.specs.Moves.{count_at, with_head, Room}
use Rattle.queues.specs.Fits.{QueueFit}
use Rattle.queues.specs.Held.{held, SameQueue, Sized}
use Rattle.queues.proofs.Held.{held_same, fit_same, elsewhere, push_sized, push_held, push_else, push_length, push_behind, push_fit}
use Rattle.outqueue.specs.declared.OutQueue.{OutQueue}
use Rattle.outqueue.specs.Moves.{notice_of, with_item}
use Rattle.outqueue.specs.Moves as out
use Rattle.outqueue.specs.Fits.{OutFit}
use Rattle.outqueue.specs.Held.{waiting_out}
use Rattle.outqueue.specs.Held as outs
use Rattle.outqueue.proofs.Held.{out_same, add_sized, add_held, add_length, add_before, add_fit}
use Rattle.delivery.specs.Landing.{winner_of, Landed, landing, brings, leaves_notice}
use Rattle.delivery.proofs.Cases.{landing_cases}

-- the datagram p with the head h left l, where there were the sockets ks, the queues q, the out-queue o and the store s
pub record Facts (ks : List Socket) (q : Queues) (o : OutQueue) (s : List ℕ) (h : Queued) (p : List ℕ) (l : Landed) : Type 0 where
  -- the arrays and the store keep their lengths
  pub sized : Sized l.queues
  pub outsized : outs.Sized l.out
  pub room : length l.bytes ≡ 40960
  -- what the winner holds grows by exactly the datagram, at its end; what anybody else holds stays
  pub grown : (j : ℕ) → j < 16 → held l.queues l.bytes j ≡ held q s j ++ brings l j h p
  -- nobody else's heads or slots change
  pub others : (j : ℕ) → j < 16 → (l.number ≡ 20 → j ≢ l.at) → SameQueue q s l.queues l.bytes j
  -- a notice that is queued stands last, with an all-zero slot
  pub waiting : waiting_out l.out l.bytes ≡ waiting_out o s ++ leaves_notice l.number h.flow
  -- the queues and the out-queue stay well formed
  pub fits : ((j : ℕ) → j < 16 → QueueFit (socket_in ks j).live q j) → (j : ℕ) → j < 16 → QueueFit (socket_in ks j).live l.queues j
  pub outfits : (is : List Interface) → OutFit is o → ours is h.flow.dst ≡ true → OutFit is l.out
  -- 20 goes to the winner, 22 is for nobody
  pub best : l.number ≡ 20 → ((best_of ks h.flow).score ≢ 0) × (l.at ≡ (best_of ks h.flow).at)
  pub none : l.number ≡ 22 → (best_of ks h.flow).score ≡ 0
  -- one of four answers
  pub answer : (20 ≤ l.number) × (l.number ≤ 23)

module _ (ks : List Socket) (q : Queues) (z : Sized q) (o : OutQueue) (y : outs.Sized o) (s : List ℕ) (space : length s ≡ 40960) (h : Queued) (p : List ℕ) where
  -- nothing changed: 21 or 23
  same : (n k : ℕ) → eqb n 20 ≡ false → eqb n 22 ≡ false → (20 ≤ n) × (n ≤ 23) → Facts ks q o s h p (record { queues = q; out = o; bytes = s; number = n; at = k })
  same n k e f a =
      record {
        sized = z;
        outsized = y;
        room = space;
        grown = λ j l. simp e (sym (append-nil (held q s j)));
        others = λ j l d. record { count = refl; heads = λ i m. refl; bytes = refl };
        waiting = simp f (sym (append-nil (waiting_out o s)));
        fits = λ w. w;
        outfits = λ is w u. w;
        best = λ x. absurd (eqb-false _ _ e x);
        none = λ x. absurd (eqb-false _ _ f x);
        answer = a;
      }

  module _ (few : (j : ℕ) → j < 16 → count_at q j ≤ 4) (size : h.len ≡ length p) (small : length p ≤ 512) where
    abbrev k : ℕ
    k = winner_of ks h

    -- 20
    module _ (won : (best_of ks h.flow).score ≢ 0) (w : Room q s k) where
      abbrev after : Queues
      after = with_head q k h

      abbrev bytes : List ℕ
      bytes = slot_written s (2048 * k + 512 * count_at q k) p

      long : length bytes ≡ 40960
      long = push_length q z s k w h p small ∙ space

      live : (socket_in ks k).live ≡ true
      live = let b = (winner_is ks h.flow).is won in (score_matches (socket_in ks k) h.flow (λ e. won (sym b.1 ∙ e))).live

      pushed_grown : (j : ℕ) → j < 16 → held after bytes j ≡ held q s j ++ cond (eqb j k) (record { head = h; bytes = p } ∷ []) []
      pushed_grown j l =
          ⊎_elim
          (λ (e : j ≡ k). rw e (simp (eq-eqb k k refl) (push_held q z s k w h p small size)))
          (λ (d : j ≢ k). simp (ne_eqb j k d) (held_same q after s bytes j space long l (few j l) (push_else q z s k w h p small j l d) ∙ sym (append-nil (held q s j))))
          (cases_eq j k)

      pushed_fits : ((j : ℕ) → j < 16 → QueueFit (socket_in ks j).live q j) → (j : ℕ) → j < 16 → QueueFit (socket_in ks j).live after j
      pushed_fits f j l =
          ⊎_elim
          (λ (e : j ≡ k). rw (e, live) (push_fit q z s k w h p small (omega (arith, size)) (rw live at (f k w.small))))
          (λ (d : j ≢ k). fit_same (push_else q z s k w h p small j l d) (f j l))
          (cases_eq j k)

      pushed_facts : o.count ≤ 16 → Facts ks q o s h p (record { queues = after; out = o; bytes = bytes; number = 20; at = k })
      pushed_facts full =
          record {
            sized = push_sized q z s k w h p small;
            outsized = y;
            room = long;
            grown = pushed_grown;
            others = λ j l d. push_else q z s k w h p small j l (d refl);
            waiting = out_same o s bytes space long full (push_behind q z s k w h p small) ∙ sym (append-nil (waiting_out o s));
            fits = pushed_fits;
            outfits = λ is f u. f;
            best = λ x. (won, refl);
            none = λ x. absurd (omega (arith, x));
            answer = (omega arith, omega arith);
          }

    -- 22
    module _ (lost : (best_of ks h.flow).score ≡ 0) (w : out.Room o s) where
      abbrev told : List ℕ
      told = slot_written s (32768 + 512 * o.count) []

      told_long : length told ≡ 40960
      told_long = add_length o y s w (notice_of 1 h.flow) [] (omega arith) ∙ space

      told_same : (j : ℕ) → j < 16 → SameQueue q s q told j
      told_same j l = elsewhere q s told j l (add_before o y s w (notice_of 1 h.flow) [] (omega arith)) space told_long

      noticed_facts : Facts ks q o s h p (record { queues = q; out = with_item o (notice_of 1 h.flow); bytes = told; number = 22; at = 0 })
      noticed_facts =
          record {
            sized = z;
            outsized = add_sized o y s w (notice_of 1 h.flow) [] (omega arith);
            room = told_long;
            grown = λ j l. held_same q q s told j space told_long l (few j l) (told_same j l) ∙ sym (append-nil (held q s j));
            others = λ j l d. told_same j l;
            waiting = add_held o y s w (notice_of 1 h.flow) [] (omega arith) refl;
            fits = λ f. f;
            outfits = λ is f u. add_fit o y s w (notice_of 1 h.flow) [] (omega arith) f (record { kind = omega arith; small = omega arith; bare = λ n. refl; source = u });
            best = λ x. absurd (omega (arith, x));
            none = λ x. lost;
            answer = (omega arith, omega arith);
          }

    -- the theorem
    pub landing_facts : o.count ≤ 16 → (may : Bool) → Facts ks q o s h p (landing ks q o s h p may)
    landing_facts full may =
        landing_cases ks q o s space h p may (Facts ks q o s h p)
        (λ won. same 21 k refl refl (omega arith, omega arith))
        (λ won w. pushed_facts won w full)
        (λ lost. same 23 0 refl refl (omega arith, omega arith))
        (λ lost m w. noticed_facts lost w)
