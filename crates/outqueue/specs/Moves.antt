-- What queueing an item and removing the oldest leave of the out-queue and the store
use Rattle.std.specs.Prelude.{ℕ, ◌+◌, ◌-◌, ◌*◌, ◌<◌, ◌≤◌, ◌≡◌, List, cond, length, set, eqb}
use Rattle.laws.specs.Places.{copies, popped}
use Rattle.net.specs.declared.Flow.{Flow}
use Rattle.state.specs.declared.OutItem.{OutItem}
use Rattle.state.specs.Places.{no_item, item_in}
use Rattle.store.specs.Store.{slot_written, slots_popped}
use Rattle.outqueue.specs.declared.OutQueue.{OutQueue}

-- ---- an item

-- a notice goes back along the flow that it embeds
abbrev pub source_of : OutItem → ℕ
source_of x = cond (eqb x.kind 0) x.flow.src x.flow.dst

abbrev pub destination_of : OutItem → ℕ
destination_of x = cond (eqb x.kind 0) x.flow.dst x.flow.src

abbrev pub datagram_of : Flow → ℕ → OutItem
datagram_of f len = record { flow = f; len = len; kind = 0 }

-- kind 1 is PORT, 2 is HOST
abbrev pub notice_of : ℕ → Flow → OutItem
notice_of kind f = record { flow = f; len = 0; kind = kind }

-- the i-th oldest
abbrev pub item_at : OutQueue → ℕ → OutItem
item_at o i = item_in o.items i

-- ---- items

unfoldable pub no_items : OutQueue
no_items = record { items = copies no_item 16; count = 0 }

-- x behind those that are there
unfoldable pub with_item : OutQueue → OutItem → OutQueue
with_item o x = record { items = set o.items o.count x; count = o.count + 1 }

-- without the oldest: the others one place further down
unfoldable pub without_first : OutQueue → OutQueue
without_first o = record { items = popped no_item o.items 0 1 (o.count - 1); count = o.count - 1 }

-- ---- with the store

pub record Left : Type 0 where
  pub out : OutQueue
  pub bytes : List ℕ

abbrev pub left : OutQueue → List ℕ → Left
left o s = record { out = o; bytes = s }

-- the payload p with the item x, behind those that are there
abbrev pub added : OutQueue → List ℕ → OutItem → List ℕ → Left
added o s x p = left (with_item o x) (slot_written s (32768 + 512 * o.count) p)

-- the oldest leaves
abbrev pub removed : OutQueue → List ℕ → Left
removed o s = left (without_first o) (slots_popped s 32768 o.count)

-- ---- what the moves ask for

pub record Room (o : OutQueue) (s : List ℕ) : Type 0 where
  pub few : o.count < 16
  pub store : length s ≡ 40960

pub record Some (o : OutQueue) (s : List ℕ) : Type 0 where
  pub some : 1 ≤ o.count
  pub few : o.count ≤ 16
  pub store : length s ≡ 40960
