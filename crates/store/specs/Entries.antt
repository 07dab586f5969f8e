-- A queue as one list: heads of any kind, each with the payload in its slot
use Rattle.std.specs.Prelude.{List, ℕ, take}
use Rattle.laws.specs.Below.{list_below}
use Rattle.store.specs.Store.{slot}

pub record Entry (A : Type 0) : Type 0 where
  pub head : A
  pub bytes : List ℕ

-- the entry with the head h, whose payload is as long as `size` says, in slot i from byte base
abbrev pub entry_at : {A : Type 0} → (A → ℕ) → A → List ℕ → ℕ → ℕ → Entry A
entry_at size h s base i = record { head = h; bytes = take (size h) (slot s base i) }

-- the n entries of the queue from byte base, oldest first, whose heads are `heads`
unfoldable pub entries : {A : Type 0} → (A → ℕ) → (ℕ → A) → List ℕ → ℕ → ℕ → List (Entry A)
entries size heads s base n = list_below (λ i. entry_at size (heads i) s base i) n
