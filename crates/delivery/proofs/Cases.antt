-- What becomes of a datagram, case by case; the bytes of an item that comes back in are read before its slot goes, which is the same.
-- Assumes nothing.
use mathlib.Core.Path.{◌≡◌, refl, ap, ◌∙◌}
use mathlib.Core.List.{List, []}
use mathlib.Core.Logic.{◌≢◌, inl}
use mathlib.Core.Bool.{Bool, true, false, ◌&&◌, cond}
use Rattle.std.proofs.lemmas.Bool.{cond_both}
use Rattle.std.specs.Prelude.{Option}
use Prim.Native.Nat.{ℕ, ◌+◌, ◌*◌, ◌<◌, ◌≤◌}
use native.Mathlib.Omega.{arith}
use lib.Dec.{ltb}
use lib.ListN.{length}
use borrow.Author.Tests.{eqb-true, eqb-false, ltb-true}
use Rattle.laws.specs.Places.{part}
use Rattle.laws.proofs.Splice.{length_part}
use Rattle.laws.proofs.Tests.{and_left, and_right}
use Rattle.net.specs.Address.{loopback}
use Rattle.state.specs.declared.Queued.{Queued}
use Rattle.state.specs.declared.Socket.{Socket}
use Rattle.store.specs.Store.{slot_written, slots_popped}
use Rattle.store.proofs.Slots.{written_popped}
use Rattle.matching.specs.Scores.{best_of}
use Rattle.matching.proofs.Winner.{winner_small}
use Rattle.queues.specs.declared.Queues.{Queues}
use Rattle.queues.specs.Moves.{count_at, with_head, Room}
use Rattle.outqueue.specs.declared.OutQueue.{OutQueue}
use Rattle.outqueue.specs.Moves.{item_at, notice_of, with_item, without_first, Left, left, removed, Some}
use Rattle.outqueue.specs.Moves as out
use Rattle.delivery.specs.declared.Fate.{Fate}
use Rattle.delivery.specs.Landing.{Delivered, delivered, winner_of, nobody, delivering, QueuedNotice, noticing, Landed, settled, landing, loop_head, looping}

-- ---- case by case

module _ (ks : List Socket) (q : Queues) (o : OutQueue) (s : List ℕ) (room : length s ≡ 40960) (h : Queued) (p : List ℕ) (may : Bool) (P : Landed → Type 0) where
  abbrev k : ℕ
  k = winner_of ks h

  -- what becomes of a datagram that has a winner, or none
  abbrev Full : Type 0
  Full = (best_of ks h.flow).score ≢ 0 → P (record { queues = q; out = o; bytes = s; number = 21; at = k })

  abbrev Pushed : Type 0
  Pushed = (best_of ks h.flow).score ≢ 0 → Room q s k → P (record { queues = with_head q k h; out = o; bytes = slot_written s (2048 * k + 512 * count_at q k) p; number = 20; at = k })

  abbrev Unheard : Type 0
  Unheard = (best_of ks h.flow).score ≡ 0 → P (record { queues = q; out = o; bytes = s; number = 23; at = 0 })

  abbrev Noticed : Type 0
  Noticed =
      (best_of ks h.flow).score ≡ 0 → may ≡ true → out.Room o s
      → P (record { queues = q; out = with_item o (notice_of 1 h.flow); bytes = slot_written s (32768 + 512 * o.count) []; number = 22; at = 0 })

  landing_none : Unheard → Noticed → (best_of ks h.flow).score ≡ 0 → P (settled (record { queues = q; bytes = s; number = 0; at = 0 }) o h.flow may)
  unfolding settled noticing
  landing_none unheard noticed z =
      cond_both (may && ltb o.count 16) _ _ (λ (n : QueuedNotice). P (record { queues = q; out = n.out; bytes = n.bytes; number = n.number; at = 0 }))
      (λ e. noticed z (and_left may _ e) (record { few = ltb-true _ _ (and_right may _ e); store = room })) (λ e. unheard z)

  pub landing_cases : Full → Pushed → Unheard → Noticed → P (landing ks q o s h p may)
  unfolding delivering settled
  landing_cases full pushed unheard noticed =
      cond_both (nobody ks h) _ _ (λ (d : Delivered). P (settled d o h.flow may)) (λ e. landing_none unheard noticed (eqb-true _ _ e))
      (λ e. cond_both (ltb (count_at q k) 4) _ _ (λ (d : Delivered). P (settled d o h.flow may))
      (λ f. pushed (eqb-false _ _ e) (record { small = winner_small ks h.flow; few = ltb-true _ _ f; store = room })) (λ f. full (eqb-false _ _ e)))

-- ---- from inside

-- the same on both sides of a choice
through : {A B : Type 0} (f : A → B) (b : Bool) (x y : A) (u v : B) → (b ≡ true → f x ≡ u) → f y ≡ v → f (cond b x y) ≡ cond b u v
through f true x y u v e d = e refl
through f false x y u v e d = d

-- without the oldest of n slots
abbrev gone : ℕ → Delivered → Delivered
gone n d = record { queues = d.queues; bytes = slots_popped d.bytes 32768 n; number = d.number; at = d.at }

module _ (ks : List Socket) (q : Queues) (s : List ℕ) (h : Queued) (p : List ℕ) (n : ℕ) (room : length s ≡ 40960) (small : length p ≤ 512) (some : 1 ≤ n) (few : n ≤ 16) where
  pushed_gone : count_at q (winner_of ks h) < 4 → slots_popped (slot_written s (2048 * winner_of ks h + 512 * count_at q (winner_of ks h)) p) 32768 n ≡ slot_written (slots_popped s 32768 n) (2048 * winner_of ks h + 512 * count_at q (winner_of ks h)) p
  pushed_gone l =
      let w = winner_small ks h.flow in
      written_popped s (2048 * winner_of ks h + 512 * count_at q (winner_of ks h)) p 32768 n small (omega arith) some (omega arith) (inl (omega arith))

  -- a delivery and then a removal are a removal and then a delivery
  delivering_gone : gone n (delivering ks q s h p) ≡ delivering ks q (slots_popped s 32768 n) h p
  unfolding delivering
  delivering_gone =
      through (gone n) (nobody ks h) _ _ _ _ (λ e. refl)
      (through (gone n) (ltb (count_at q (winner_of ks h)) 4) _ _ _ _
      (λ e. ap (λ (t : List ℕ). record { queues = with_head q (winner_of ks h) h; bytes = t; number = 20; at = winner_of ks h }) (pushed_gone (ltb-true _ _ e))) refl)

pub looped : (ks : List Socket) (q : Queues) (o : OutQueue) (s : List ℕ) → Some o s → (item_at o 0).len ≤ 512 → (fate : Option Fate) {d : Queues} {t u : List ℕ} {rest : OutQueue} {may : Bool} {r : Landed}
    → delivered d fate t ≡ delivering ks q s (loop_head (item_at o 0)) (part s 32768 (item_at o 0).len) → left rest u ≡ removed o t → may ≡ loopback (item_at o 0).flow.src
    → r ≡ settled (delivered d fate u) rest (item_at o 0).flow may → r ≡ looping ks q o s
looped ks q o s w small fate {d} {t} {u} {rest} {may} first next from last =
    let x = item_at o 0 in
    let size : length (part s 32768 x.len) ≤ 512 = omega (arith, length_part s 32768 x.len (omega (arith, w.store))) in
    let eu : u ≡ slots_popped t 32768 o.count = ap (λ (l : Left). l.bytes) next in
    let er : rest ≡ without_first o = ap (λ (l : Left). l.out) next in
    let both : delivered d fate (slots_popped t 32768 o.count) ≡ delivering ks q (slots_popped s 32768 o.count) (loop_head x) (part s 32768 x.len) =
    ap (gone o.count) first ∙ delivering_gone ks q s (loop_head x) (part s 32768 x.len) o.count w.store size w.some w.few in
    cc
