-- What the moves do to what the out-queue holds: queueing appends, a removal takes the first, and no byte before it changes.
-- Assumes nothing.
use mathlib.Core.Path.{◌≡◌, refl, sym, ap, ◌∙◌}
use mathlib.Core.List.{List, [], ◌∷◌, ◌++◌}
use mathlib.Core.Logic.{inl, inr, ⊎_elim}
use Prim.Native.Nat.{ℕ, ◌+◌, ◌-◌, ◌*◌, ◌<◌, ◌≤◌}
use native.Mathlib.Omega.{arith}
use lib.ListN.{length, length-set}
use Rattle.std.proofs.lemmas.Bool.{cases_lt}
use Rattle.laws.specs.Places.{part}
use Rattle.laws.proofs.Splice.{get_or_copies, length_copies, part_part, popped_length, popped_moved, popped_last, popped_else}
use Rattle.state.specs.declared.Interface.{Interface}
use Rattle.state.specs.declared.OutItem.{OutItem}
use Rattle.state.specs.Places.{no_item, item_in}
use Rattle.state.proofs.Places.{item_there, item_else}
use Rattle.store.specs.Store.{slot, slot_written, slots_popped}
use Rattle.store.specs.Entries.{entries}
use Rattle.store.proofs.Slots.{written_else}
use Rattle.store.proofs.Slots as slots
use Rattle.store.proofs.Entries.{entries_none, entries_same, entries_push, entries_pop}
use Rattle.outqueue.specs.declared.OutQueue.{OutQueue}
use Rattle.outqueue.specs.Moves.{item_at, no_items, with_item, without_first, Room, Some}
use Rattle.outqueue.specs.Fits.{ItemFit, OutFit}
use Rattle.outqueue.specs.Held.{waiting_out, oldest_out, Sized}

-- ---- the same bytes from 32,768 on hold the same

slot_same : (s t : List ℕ) (i : ℕ) → length s ≡ 40960 → length t ≡ 40960 → i < 16 → part t 32768 8192 ≡ part s 32768 8192 → slot t 32768 i ≡ slot s 32768 i
slot_same s t i hs ht hi e =
    sym (part_part 0 t 32768 8192 (i * 512) 512 (32768 + i * 512) refl (omega arith) (omega arith))
    ∙ ap (λ (l : List ℕ). part l (i * 512) 512) e
    ∙ part_part 0 s 32768 8192 (i * 512) 512 (32768 + i * 512) refl (omega arith) (omega arith)

pub out_same : (o : OutQueue) (s t : List ℕ) → length s ≡ 40960 → length t ≡ 40960 → o.count ≤ 16 → part t 32768 8192 ≡ part s 32768 8192 → waiting_out o t ≡ waiting_out o s
unfolding waiting_out
out_same o s t hs ht few e = entries_same (λ x. x.len) (item_at o) (item_at o) t s 32768 o.count (λ i l. refl) (λ i l. slot_same s t i hs ht (omega arith) e)

-- ---- queueing

module _ (o : OutQueue) (z : Sized o) (s : List ℕ) (w : Room o s) (x : OutItem) (p : List ℕ) (small : length p ≤ 512) where
  abbrev after : OutQueue
  after = with_item o x

  abbrev bytes : List ℕ
  bytes = slot_written s (32768 + 512 * o.count) p

  fits : 32768 + 512 * o.count + 512 ≤ length s
  fits = omega (arith, w.few, w.store)

  pub add_sized : Sized after
  unfolding with_item
  add_sized = record { items = length-set o.items o.count x ∙ z.items }

  add_old : (i : ℕ) → i < o.count → item_at after i ≡ item_at o i
  unfolding with_item
  add_old i l = item_else o.items o.count x i (λ e. omega arith)

  add_new : item_at after o.count ≡ x
  unfolding with_item
  add_new = item_there o.items o.count x (omega (arith, w.few, z.items))

  pub add_held : x.len ≡ length p → waiting_out after bytes ≡ waiting_out o s ++ (record { head = x; bytes = p } ∷ [])
  unfolding waiting_out with_item
  add_held len =
      entries_push (λ y. y.len) (item_at o) (item_at after) s 32768 o.count x p (32768 + 512 * o.count) (omega arith) small (omega (arith, fits)) add_old add_new len

  pub add_length : length bytes ≡ length s
  add_length = slots.written_length s (32768 + 512 * o.count) p small fits

  -- no byte of a socket's queue
  pub add_before : part bytes 0 32768 ≡ part s 0 32768
  add_before = written_else s (32768 + 512 * o.count) p small fits 0 32768 (omega (arith, w.store)) (inl (omega arith))

  add_behind : (i : ℕ) → o.count + 1 ≤ i → item_at after i ≡ item_at o i
  unfolding with_item
  add_behind i l = item_else o.items o.count x i (λ e. omega arith)

  add_items : {is : List Interface} → OutFit is o → ItemFit is x → (i : ℕ) → i < o.count + 1 → ItemFit is (item_at after i)
  add_items f g i l =
      ⊎_elim (λ (m : i < o.count). rw (add_old i m) (f.items i m)) (λ (m : o.count ≤ i). let e : i ≡ o.count = omega arith in rw (e, add_new) g) (cases_lt i o.count)

  pub add_fit : {is : List Interface} → OutFit is o → ItemFit is x → OutFit is after
  unfolding with_item
  add_fit f g = record { few = omega (arith, w.few); items = add_items f g; unused = λ i l m. add_behind i l ∙ f.unused i (omega arith) m }

-- ---- a removal

module _ (o : OutQueue) (z : Sized o) (s : List ℕ) (w : Some o s) where
  abbrev rest : OutQueue
  rest = without_first o

  abbrev kept : List ℕ
  kept = slots_popped s 32768 o.count

  items_fit : 0 + 1 + (o.count - 1) ≤ length o.items
  items_fit = omega (arith, w.some, w.few, z.items)

  slots_fit : 32768 + o.count * 512 ≤ length s
  slots_fit = omega (arith, w.few, w.store)

  pub remove_sized : Sized rest
  unfolding without_first
  remove_sized = record { items = popped_length no_item o.items 0 1 (o.count - 1) items_fit no_item ∙ z.items }

  remove_down : (i : ℕ) → i < o.count - 1 → item_at rest i ≡ item_at o (i + 1)
  unfolding without_first
  remove_down i l =
      let e : i ≡ 0 + i = omega arith in
      ap (item_in (without_first o).items) e ∙ popped_moved no_item o.items 0 1 (o.count - 1) items_fit no_item i l ∙ ap (item_in o.items) (omega arith)

  remove_last : item_at rest (o.count - 1) ≡ no_item
  unfolding without_first
  remove_last =
      let e : o.count - 1 ≡ 0 + (o.count - 1 + 0) = omega arith in
      ap (item_in (without_first o).items) e ∙ popped_last no_item o.items 0 1 (o.count - 1) items_fit no_item 0 (omega arith)

  remove_behind : (i : ℕ) → o.count ≤ i → item_at rest i ≡ item_at o i
  unfolding without_first
  remove_behind i l = popped_else no_item o.items 0 1 (o.count - 1) items_fit no_item i (inr (omega (arith, w.some)))

  -- the item that leaves is the oldest, the others keep their order and bytes
  pub remove_held : waiting_out o s ≡ oldest_out o s ∷ waiting_out rest kept
  unfolding waiting_out without_first
  remove_held =
      let n : o.count ≡ o.count - 1 + 1 = omega (arith, w.some) in
      let f : 32768 + (o.count - 1 + 1) * 512 ≤ length s = omega (arith, slots_fit) in
      ap (entries (λ x. x.len) (item_at o) s 32768) n
      ∙ entries_pop (λ x. x.len) (item_at o) (item_at rest) s 32768 (o.count - 1) f (λ i l. sym (remove_down i l))
      ∙ ap (λ (m : ℕ). oldest_out o s ∷ entries (λ x. x.len) (item_at rest) (slots_popped s 32768 m) 32768 (o.count - 1)) (sym n)

  pub remove_length : length kept ≡ length s
  remove_length = slots.popped_length s 32768 o.count w.some slots_fit

  pub remove_before : part kept 0 32768 ≡ part s 0 32768
  remove_before = slots.popped_else s 32768 o.count w.some slots_fit 0 32768 (omega (arith, w.store)) (inl (omega arith))

  remove_unused : {is : List Interface} → OutFit is o → (i : ℕ) → o.count - 1 ≤ i → i < 16 → item_at rest i ≡ no_item
  remove_unused f i l m =
      ⊎_elim (λ (x : i < o.count). let e : i ≡ o.count - 1 = omega arith in rw e remove_last) (λ (x : o.count ≤ i). remove_behind i x ∙ f.unused i x m) (cases_lt i o.count)

  pub remove_fit : {is : List Interface} → OutFit is o → OutFit is rest
  unfolding without_first
  remove_fit f =
      record { few = omega (arith, w.few); items = λ i l. rw (remove_down i l) (f.items (i + 1) (omega arith)); unused = remove_unused f }

-- ---- nothing in it

pub empty_sized : Sized no_items
unfolding no_items
empty_sized = record { items = length_copies no_item 16 }

pub empty_held : (s : List ℕ) → waiting_out no_items s ≡ []
unfolding waiting_out no_items
empty_held s = entries_none (λ x. x.len) (item_at no_items) s 32768

empty_places : (i : ℕ) → i < 16 → item_at no_items i ≡ no_item
unfolding no_items
empty_places i l = get_or_copies no_item no_item 16 i l

pub empty_fit : (is : List Interface) → OutFit is no_items
unfolding no_items
empty_fit is = record { few = omega arith; items = λ i l. absurd (omega arith); unused = λ i l m. empty_places i m }
