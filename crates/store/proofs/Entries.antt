-- A queue as one list of heads with their payloads: what a push, a removal and a change elsewhere make of it, whatever the heads are.
-- Assumes nothing.
use mathlib.Core.Path.{◌≡◌, sym, ap, ◌∙◌}
use mathlib.Core.List.{List, [], ◌∷◌, ◌++◌}
use mathlib.Core.Logic.{inl}
use Prim.Native.Nat.{ℕ, ◌+◌, ◌*◌, ◌≤◌, ◌<◌}
use native.Mathlib.Omega.{arith}
use lib.ListN.{length}
use Rattle.laws.proofs.Below.{list_same, list_more, list_first, list_none}
use Rattle.store.specs.Store.{slot, slot_of, slot_written, slots_popped}
use Rattle.store.specs.Entries.{Entry, entry_at, entries}
use Rattle.store.proofs.Slots.{payload_back, written_slot, written_else, popped_slot}

module _ {A : Type 0} (size : A → ℕ) where
  -- an entry is its head and its slot
  entry_same : (g h : A) (s t : List ℕ) (a b i j : ℕ) → g ≡ h → slot s a i ≡ slot t b j → entry_at size g s a i ≡ entry_at size h t b j
  entry_same g h s t a b i j e d = rw (e, d)

  pub entries_none : (heads : ℕ → A) (s : List ℕ) (base : ℕ) → entries size heads s base 0 ≡ []
  unfolding entries
  entries_none heads s base = list_none _

  -- the same heads, and the same slots
  pub entries_same : (f g : ℕ → A) (s t : List ℕ) (base n : ℕ) → ((i : ℕ) → i < n → f i ≡ g i) → ((i : ℕ) → i < n → slot s base i ≡ slot t base i)
      → entries size f s base n ≡ entries size g t base n
  unfolding entries
  entries_same f g s t base n e d = list_same _ _ n (λ i l. entry_same (f i) (g i) s t base base i i (e i l) (d i l))

  -- a payload p with the head h is written behind the n that are there: it stands last
  pub entries_push : (f g : ℕ → A) (s : List ℕ) (base n : ℕ) (h : A) (p : List ℕ) (at : ℕ) → at ≡ base + n * 512
      → length p ≤ 512 → base + n * 512 + 512 ≤ length s → ((i : ℕ) → i < n → g i ≡ f i) → g n ≡ h → size h ≡ length p
      → entries size g (slot_written s at p) base (n + 1) ≡ entries size f s base n ++ (record { head = h; bytes = p } ∷ [])
  unfolding entries
  entries_push f g s base n h p at place small room old new len =
      let fits : at + 512 ≤ length s = omega arith in
      let there : slot (slot_written s at p) base n ≡ slot_of p = rw place (written_slot s (base + n * 512) p small room) in
      list_more _ n
      ∙ ap (λ (l : List (Entry A)). l ++ (entry_at size (g n) (slot_written s at p) base n ∷ []))
      (list_same _ _ n (λ i l. entry_same (g i) (f i) (slot_written s at p) s base base i i (old i l)
      (written_else s at p small fits (base + i * 512) 512 (omega arith) (inl (omega arith)))))
      ∙ ap (λ (x : Entry A). entries size f s base n ++ (x ∷ []))
      (rw (new, there) (ap (λ (l : List ℕ). record { head = h; bytes = l }) (payload_back p (size h) len)))

  -- the first of n + 1 is removed: the others are left, in order
  pub entries_pop : (f g : ℕ → A) (s : List ℕ) (base n : ℕ) → base + (n + 1) * 512 ≤ length s → ((i : ℕ) → i < n → f (i + 1) ≡ g i)
      → entries size f s base (n + 1) ≡ entry_at size (f 0) s base 0 ∷ entries size g (slots_popped s base (n + 1)) base n
  unfolding entries
  entries_pop f g s base n fits e =
      list_first _ _ n (λ i l. entry_same (f (i + 1)) (g i) s (slots_popped s base (n + 1)) base base (i + 1) i (e i l)
      (sym (popped_slot s base (n + 1) (omega arith) fits i (omega arith))))
