-- What the out-queue holds, oldest first, with contents
use Rattle.std.specs.Prelude.{◌≡◌, List, ℕ, length}
use Rattle.state.specs.declared.OutItem.{OutItem}
use Rattle.store.specs.Entries.{Entry, entry_at, entries}
use Rattle.outqueue.specs.declared.OutQueue.{OutQueue}
use Rattle.outqueue.specs.Moves.{item_at}

-- addresses, ports, kind and every byte
abbrev pub Parcel : Type 0
Parcel = Entry OutItem

unfoldable pub waiting_out : OutQueue → List ℕ → List Parcel
waiting_out o s = entries (λ x. x.len) (item_at o) s 32768 o.count

-- the oldest
abbrev pub oldest_out : OutQueue → List ℕ → Parcel
oldest_out o s = entry_at (λ x. x.len) (item_at o 0) s 32768 0

-- the array has its length
pub record Sized (o : OutQueue) : Type 0 where
  pub items : length o.items ≡ 16
