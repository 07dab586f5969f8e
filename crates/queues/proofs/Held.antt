-- What the moves do to what each socket holds: a push appends, a taking removes the first, a clearing empties, and nothing else changes.
-- Assumes nothing.
use mathlib.Core.Path.{◌≡◌, refl, sym, ap, ◌∙◌}
use mathlib.Core.List.{List, [], ◌∷◌, ◌++◌}
use mathlib.Core.Logic.{◌≢◌, ◌⊎◌, inl, inr, ⊎_elim}
use mathlib.Core.Bool.{Bool, true, true≢false}
use Prim.Native.Nat.{ℕ, ◌+◌, ◌-◌, ◌*◌, ◌<◌, ◌≤◌}
use native.Mathlib.Omega.{arith}
use lib.ListN.{length, length-set}
use lib.Seq.{get_or-set_same, get_or-set_other}
use Rattle.std.proofs.lemmas.Bool.{cases_lt}
use Rattle.laws.specs.Places.{part, splice, copies}
use Rattle.laws.proofs.Numbers.{apart}
use Rattle.laws.proofs.Splice.{get_or_else, get_or_in, get_or_copies, length_copies, length_splice, part_part, popped_length, popped_moved, popped_last, popped_else}
use Rattle.state.specs.declared.Queued.{Queued}
use Rattle.state.specs.Places.{no_head, head_in}
use Rattle.state.proofs.Places.{head_there, head_else}
use Rattle.store.specs.Store.{slot, zeros, slot_written, slots_popped}
use Rattle.store.specs.Entries.{entries}
use Rattle.store.proofs.Slots.{written_length, written_else, cleared_length, cleared_else}
use Rattle.store.proofs.Slots as slots
use Rattle.store.proofs.Entries.{entries_none, entries_same, entries_push, entries_pop}
use Rattle.queues.specs.declared.Queues.{Queues}
use Rattle.queues.specs.Moves.{count_at, head_at, first_head, no_queues, with_head, without_first, without_any, Room, Some}
use Rattle.queues.specs.Fits.{QueueFit}
use Rattle.queues.specs.Held.{held, oldest, SameQueue, Sized}

-- ---- the same queue holds the same

-- a slot of socket k's queue, where its bytes are the same
slot_same : (s t : List ℕ) (k i : ℕ) → length s ≡ 40960 → length t ≡ 40960 → k < 16 → i < 4 → part t (2048 * k) 2048 ≡ part s (2048 * k) 2048 → slot t (2048 * k) i ≡ slot s (2048 * k) i
slot_same s t k i hs ht hk hi e =
    sym (part_part 0 t (2048 * k) 2048 (i * 512) 512 (2048 * k + i * 512) refl (omega arith) (omega arith))
    ∙ ap (λ (l : List ℕ). part l (i * 512) 512) e
    ∙ part_part 0 s (2048 * k) 2048 (i * 512) 512 (2048 * k + i * 512) refl (omega arith) (omega arith)

pub held_same : (q r : Queues) (s t : List ℕ) (k : ℕ) → length s ≡ 40960 → length t ≡ 40960 → k < 16 → count_at q k ≤ 4 → SameQueue q s r t k → held r t k ≡ held q s k
unfolding held
held_same q r s t k hs ht hk few e =
    ap (entries (λ h. h.len) (head_at r k) t (2048 * k)) e.count
    ∙ entries_same (λ h. h.len) (head_at r k) (head_at q k) t s (2048 * k) (count_at q k) (λ i l. e.heads i (omega arith)) (λ i l. slot_same s t k i hs ht hk (omega arith) e.bytes)

pub fit_same : {q r : Queues} {s t : List ℕ} {k : ℕ} → SameQueue q s r t k → {live : Bool} → QueueFit live q k → QueueFit live r k
fit_same {q} {r} {k = k} e f =
    record {
      few = omega (arith, e.count, f.few);
      closed = λ x. e.count ∙ f.closed x;
      small = λ i l. let m : i < count_at q k = omega (arith, e.count) in rw (e.heads i (omega (arith, f.few))) (f.small i m);
      unused = λ i l m. e.heads i m ∙ f.unused i (omega (arith, e.count)) m;
    }

-- ---- bytes behind every queue

pub elsewhere : (q : Queues) (s t : List ℕ) (k : ℕ) → k < 16 → part t 0 32768 ≡ part s 0 32768 → length s ≡ 40960 → length t ≡ 40960 → SameQueue q s q t k
elsewhere q s t k hk e hs ht =
    record {
      count = refl;
      heads = λ i l. refl;
      bytes =
          sym (part_part 0 t 0 32768 (2048 * k) 2048 (2048 * k) (omega arith) (omega arith) (omega arith))
          ∙ ap (λ (l : List ℕ). part l (2048 * k) 2048) e
          ∙ part_part 0 s 0 32768 (2048 * k) 2048 (2048 * k) (omega arith) (omega arith) (omega arith);
    }

-- two queues stand apart
apart_bytes : (l k : ℕ) → l ≢ k → (2048 * l + 2048 ≤ 2048 * k) ⊎ (2048 * k + 2048 ≤ 2048 * l)
apart_bytes l k d = ⊎_elim (λ w. inl (omega arith)) (λ w. inr (omega arith)) (apart l k d)

-- ---- a push

module _ (q : Queues) (z : Sized q) (s : List ℕ) (k : ℕ) (w : Room q s k) (h : Queued) (p : List ℕ) (small : length p ≤ 512) where
  abbrev after : Queues
  after = with_head q k h

  abbrev bytes : List ℕ
  bytes = slot_written s (2048 * k + 512 * count_at q k) p

  pub push_sized : Sized after
  unfolding with_head
  push_sized = record { heads = length-set q.heads _ h ∙ z.heads; counts = length-set q.counts k _ ∙ z.counts }

  pub push_count : count_at after k ≡ count_at q k + 1
  unfolding with_head
  push_count = get_or-set_same q.counts k (count_at q k + 1) 0 (omega (arith, w.small, z.counts))

  push_old : (i : ℕ) → i < count_at q k → head_at after k i ≡ head_at q k i
  unfolding with_head
  push_old i l = head_else q.heads (4 * k + count_at q k) h (4 * k + i) (λ e. omega arith)

  push_new : head_at after k (count_at q k) ≡ h
  unfolding with_head
  push_new = head_there q.heads (4 * k + count_at q k) h (omega (arith, w.small, w.few, z.heads))

  pub push_held : h.len ≡ length p → held after bytes k ≡ held q s k ++ (record { head = h; bytes = p } ∷ [])
  unfolding held
  push_held len =
      ap (entries (λ x. x.len) (head_at after k) bytes (2048 * k)) push_count
      ∙ entries_push (λ x. x.len) (head_at q k) (head_at after k) s (2048 * k) (count_at q k) h p (2048 * k + 512 * count_at q k) (omega arith) small
      (omega (arith, w.small, w.few, w.store)) push_old push_new len

  pub push_else : (l : ℕ) → l < 16 → l ≢ k → SameQueue q s after bytes l
  unfolding with_head
  push_else l hl d =
      record {
        count = get_or-set_other q.counts k l _ 0 d;
        heads = λ i m. head_else q.heads (4 * k + count_at q k) h (4 * l + i) (λ e. d (omega (arith, w.few)));
        bytes =
            written_else s (2048 * k + 512 * count_at q k) p small (omega (arith, w.small, w.few, w.store)) (2048 * l) 2048 (omega (arith, w.store))
            (⊎_elim (λ x. inl (omega arith)) (λ x. inr (omega (arith, w.few))) (apart_bytes l k d));
      }

  pub push_length : length bytes ≡ length s
  push_length = written_length s (2048 * k + 512 * count_at q k) p small (omega (arith, w.small, w.few, w.store))

  -- no byte of the out-queue
  pub push_behind : part bytes 32768 8192 ≡ part s 32768 8192
  push_behind = written_else s (2048 * k + 512 * count_at q k) p small (omega (arith, w.small, w.few, w.store)) 32768 8192 (omega (arith, w.store)) (inr (omega (arith, w.small, w.few)))

  push_fit_small : QueueFit true q k → h.len ≤ 512 → (i : ℕ) → i < count_at q k + 1 → (head_at after k i).len ≤ 512
  push_fit_small f e i l =
      ⊎_elim (λ (m : i < count_at q k). rw (push_old i m) (f.small i m))
      (λ (m : count_at q k ≤ i). let x : i ≡ count_at q k = omega arith in rw (x, push_new) e)
      (cases_lt i (count_at q k))

  push_unused : (i : ℕ) → count_at q k + 1 ≤ i → head_at after k i ≡ head_at q k i
  unfolding with_head
  push_unused i l = head_else q.heads (4 * k + count_at q k) h (4 * k + i) (λ e. omega arith)

  pub push_fit : h.len ≤ 512 → QueueFit true q k → QueueFit true after k
  push_fit e f =
      record {
        few = omega (arith, push_count, w.few);
        closed = λ x. absurd (true≢false x);
        small = λ i l. push_fit_small f e i (omega (arith, push_count));
        unused = λ i l m. push_unused i (omega (arith, push_count)) ∙ f.unused i (omega (arith, push_count)) m;
      }

-- ---- a taking

module _ (q : Queues) (z : Sized q) (s : List ℕ) (k : ℕ) (w : Some q s k) where
  abbrev rest : Queues
  rest = without_first q k

  abbrev kept : List ℕ
  kept = slots_popped s (2048 * k) (count_at q k)

  heads_fit : 4 * k + 1 + 3 ≤ length q.heads
  heads_fit = omega (arith, w.small, z.heads)

  slots_fit : 2048 * k + count_at q k * 512 ≤ length s
  slots_fit = omega (arith, w.small, w.few, w.store)

  pub take_sized : Sized rest
  unfolding without_first
  take_sized = record { heads = popped_length no_head q.heads (4 * k) 1 3 heads_fit no_head ∙ z.heads; counts = length-set q.counts k _ ∙ z.counts }

  pub take_count : count_at rest k ≡ count_at q k - 1
  unfolding without_first
  take_count = get_or-set_same q.counts k (count_at q k - 1) 0 (omega (arith, w.small, z.counts))

  take_down : (i : ℕ) → i < 3 → head_at rest k i ≡ head_at q k (i + 1)
  unfolding without_first
  take_down i l =
      popped_moved no_head q.heads (4 * k) 1 3 heads_fit no_head i l
      ∙ ap (head_in q.heads) (omega arith)

  take_last : head_at rest k 3 ≡ no_head
  unfolding without_first
  take_last = popped_last no_head q.heads (4 * k) 1 3 heads_fit no_head 0 (omega arith)

  -- what was read is the first of what it held
  pub take_held : held q s k ≡ oldest q s k ∷ held rest kept k
  unfolding held
  take_held =
      let n : count_at q k ≡ count_at q k - 1 + 1 = omega (arith, w.some) in
      let f : 2048 * k + (count_at q k - 1 + 1) * 512 ≤ length s = omega (arith, slots_fit) in
      ap (entries (λ x. x.len) (head_at q k) s (2048 * k)) n
      ∙ entries_pop (λ x. x.len) (head_at q k) (head_at rest k) s (2048 * k) (count_at q k - 1) f (λ i l. sym (take_down i (omega (arith, w.few))))
      ∙ ap (λ (m : ℕ). oldest q s k ∷ entries (λ x. x.len) (head_at rest k) (slots_popped s (2048 * k) m) (2048 * k) (count_at q k - 1)) (sym n)
      ∙ ap (λ (m : ℕ). oldest q s k ∷ entries (λ x. x.len) (head_at rest k) kept (2048 * k) m) (sym take_count)

  pub take_else : (l : ℕ) → l < 16 → l ≢ k → SameQueue q s rest kept l
  unfolding without_first
  take_else l hl d =
      record {
        count = get_or-set_other q.counts k l _ 0 d;
        heads =
            λ i m. popped_else no_head q.heads (4 * k) 1 3 heads_fit no_head (4 * l + i)
            (⊎_elim (λ x. inl (omega arith)) (λ x. inr (omega arith)) (apart l k d));
        bytes =
            slots.popped_else s (2048 * k) (count_at q k) w.some slots_fit (2048 * l) 2048 (omega (arith, w.store))
            (⊎_elim (λ x. inl x) (λ x. inr (omega (arith, w.few))) (apart_bytes l k d));
      }

  pub take-length : length kept ≡ length s
  take-length = slots.popped_length s (2048 * k) (count_at q k) w.some slots_fit

  pub take_behind : part kept 32768 8192 ≡ part s 32768 8192
  take_behind = slots.popped_else s (2048 * k) (count_at q k) w.some slots_fit 32768 8192 (omega (arith, w.store)) (inr (omega (arith, w.small, w.few)))

  take_places : QueueFit true q k → (i : ℕ) → count_at q k - 1 ≤ i → i < 4 → head_at rest k i ≡ no_head
  take_places f i l m =
      ⊎_elim (λ (x : i < 3). take_down i x ∙ f.unused (i + 1) (omega (arith, w.some)) (omega arith))
      (λ (x : 3 ≤ i). let y : i ≡ 3 = omega arith in rw y take_last)
      (cases_lt i 3)

  pub take_fit : QueueFit true q k → QueueFit true rest k
  take_fit f =
      record {
        few = omega (arith, take_count, w.few);
        closed = λ x. absurd (true≢false x);
        small = λ i l. let m : i < count_at q k - 1 = omega (arith, take_count) in rw (take_down i (omega (arith, w.few))) (f.small (i + 1) (omega (arith, w.some)));
        unused = λ i l m. take_places f i (omega (arith, take_count)) m;
      }

-- the oldest, as it is read
pub oldest_head : (q : Queues) (s : List ℕ) (k : ℕ) → (oldest q s k).head ≡ first_head q k
oldest_head q s k = let e : 4 * k + 0 ≡ 4 * k = omega arith in ap (head_in q.heads) e

pub oldest_bytes : (q : Queues) (s : List ℕ) (k : ℕ) → length s ≡ 40960 → k < 16 → (first_head q k).len ≤ 512 → (oldest q s k).bytes ≡ part s (2048 * k) (first_head q k).len
unfolding part
oldest_bytes q s k room hk small =
    let e : 4 * k + 0 ≡ 4 * k = omega arith in
    rw e (part_part 0 s (2048 * k + 0 * 512) 512 0 (first_head q k).len (2048 * k) (omega arith) (omega arith) (omega arith))

-- ---- a clearing

module _ (q : Queues) (z : Sized q) (s : List ℕ) (room : length s ≡ 40960) (k : ℕ) (hk : k < 16) where
  abbrev gone : Queues
  gone = without_any q k

  abbrev blank : List ℕ
  blank = splice s (2048 * k) (zeros 2048)

  four : 4 * k + length (copies no_head 4) ≤ length q.heads
  four = omega (arith, length_copies no_head 4, z.heads)

  pub clear_sized : Sized gone
  unfolding without_any
  clear_sized = record { heads = length_splice q.heads (4 * k) (copies no_head 4) four ∙ z.heads; counts = length-set q.counts k 0 ∙ z.counts }

  pub clear_count : count_at gone k ≡ 0
  unfolding without_any
  clear_count = get_or-set_same q.counts k 0 0 (omega (arith, z.counts))

  pub clear_held : held gone blank k ≡ []
  unfolding held
  clear_held = ap (entries (λ x. x.len) (head_at gone k) blank (2048 * k)) clear_count ∙ entries_none (λ x. x.len) (head_at gone k) blank (2048 * k)

  pub clear_else : (l : ℕ) → l < 16 → l ≢ k → SameQueue q s gone blank l
  unfolding without_any
  clear_else l hl d =
      record {
        count = get_or-set_other q.counts k l 0 0 d;
        heads =
            λ i m. get_or_else no_head q.heads (4 * k) (copies no_head 4) four (4 * l + i)
            (⊎_elim (λ x. inl (omega arith)) (λ x. inr (omega (arith, length_copies no_head 4))) (apart l k d));
        bytes = cleared_else s (2048 * k) 2048 (omega arith) (2048 * l) 2048 (omega arith) (apart_bytes l k d);
      }

  pub clear_length : length blank ≡ length s
  clear_length = cleared_length s (2048 * k) 2048 (omega arith)

  pub clear_behind : part blank 32768 8192 ≡ part s 32768 8192
  clear_behind = cleared_else s (2048 * k) 2048 (omega arith) 32768 8192 (omega arith) (inr (omega arith))

  clear_places : (i : ℕ) → i < 4 → head_at gone k i ≡ no_head
  unfolding without_any
  clear_places i l =
      get_or_in no_head q.heads (4 * k) (copies no_head 4) four i (omega (arith, length_copies no_head 4)) ∙ get_or_copies no_head no_head 4 i l

  pub clear_fit : (live : Bool) → QueueFit live gone k
  clear_fit live = record { few = omega (arith, clear_count); closed = λ x. clear_count; small = λ i l. absurd (omega (arith, clear_count)); unused = λ i l m. clear_places i m }

-- ---- all of them cleared

pub emptied_length : (s : List ℕ) → length s ≡ 40960 → length (splice s 0 (zeros 32768)) ≡ length s
emptied_length s room = cleared_length s 0 32768 (omega arith)

pub emptied_behind : (s : List ℕ) → length s ≡ 40960 → part (splice s 0 (zeros 32768)) 32768 8192 ≡ part s 32768 8192
emptied_behind s room = cleared_else s 0 32768 (omega arith) 32768 8192 (omega arith) (inr (omega arith))

pub empty_sized : Sized no_queues
unfolding no_queues
empty_sized = record { heads = length_copies no_head 64; counts = length_copies {A = ℕ} 0 16 }

pub empty_count : (k : ℕ) → k < 16 → count_at no_queues k ≡ 0
unfolding no_queues
empty_count k l = get_or_copies 0 0 16 k l

pub empty_held : (s : List ℕ) (k : ℕ) → k < 16 → held no_queues s k ≡ []
unfolding held
empty_held s k l = ap (entries (λ x. x.len) (head_at no_queues k) s (2048 * k)) (empty_count k l) ∙ entries_none (λ x. x.len) (head_at no_queues k) s (2048 * k)

empty_places : (k i : ℕ) → k < 16 → i < 4 → head_at no_queues k i ≡ no_head
unfolding no_queues
empty_places k i l m = get_or_copies no_head no_head 64 (4 * k + i) (omega arith)

pub empty_fit : (live : Bool) (k : ℕ) → k < 16 → QueueFit live no_queues k
empty_fit live k l =
    record { few = omega (arith, empty_count k l); closed = λ x. empty_count k l; small = λ i m. absurd (omega (arith, empty_count k l)); unused = λ i m n. empty_places k i l n }
