-- When a record is well formed: document 01, "A record is well formed when"
use Rattle.std.specs.Prelude.{◌≡◌, ◌≢◌, Bool, true, false, ◌&&◌, ℕ, ◌<◌, ◌≤◌}
use Rattle.state.specs.declared.Socket.{Socket}
use Rattle.state.specs.declared.OutItem.{OutItem}
use Rattle.state.specs.declared.Queued.{Queued}
use Rattle.state.specs.Places.{no_head, no_item, socket_in}
use Rattle.state.specs.Interfaces.{ours, opening_ok}
use Rattle.state.specs.Sockets.{sockets_ok, all_apart}
use Rattle.state.specs.Threads.{thread_ok}
use Rattle.state.specs.Plain.{Opened, Chained, LocalKnown, ErrorKnown, ClosedZero, Apart, Awaited}
use Rattle.queues.specs.Moves as queue
use Rattle.queues.specs.Fits.{queues_ok}
use Rattle.outqueue.specs.Moves as out
use Rattle.outqueue.specs.Fits.{out_ok}
use Rattle.host.specs.declared.Host.{Host}

-- the test, which each step begins with
unfoldable pub well_formed : Host → Bool
well_formed h =
    opening_ok h.interfaces h.icount
    && sockets_ok h.interfaces h.sockets
    && all_apart h.sockets
    && queues_ok h.sockets h.queues
    && out_ok h.interfaces h.out
    && thread_ok h.sockets h.thread

-- ---- what a definition reads of a record

abbrev pub socket_at : Host → ℕ → Socket
socket_at h k = socket_in h.sockets k

-- how many datagrams socket k holds, and the head of the i-th oldest
abbrev pub count_at : Host → ℕ → ℕ
count_at h k = queue.count_at h.queues k

abbrev pub head_at : Host → ℕ → ℕ → Queued
head_at h k i = queue.head_at h.queues k i

-- the i-th oldest item of the out-queue
abbrev pub item_at : Host → ℕ → OutItem
item_at h i = out.item_at h.out i

-- ---- the sentence, clause by clause

pub record WellFormed (h : Host) : Type 0 where
  -- the interfaces pass the opening check
  pub opened : Opened h.interfaces h.icount
  -- every count is within its limit (that of the interfaces by the opening check)
  pub counts : (k : ℕ) → k < 16 → count_at h k ≤ 4
  pub outcount : h.out.count ≤ 16
  -- everything unused or closed is zero
  pub closed : (k : ℕ) → k < 16 → ClosedZero (socket_at h k)
  pub drained : (k : ℕ) → k < 16 → (socket_at h k).live ≡ false → count_at h k ≡ 0
  pub heads : (k i : ℕ) → k < 16 → count_at h k ≤ i → i < 4 → head_at h k i ≡ no_head
  pub items : (i : ℕ) → h.out.count ≤ i → i < 16 → item_at h i ≡ no_item
  pub notices : (i : ℕ) → i < h.out.count → (item_at h i).kind ≢ 0 → (item_at h i).len ≡ 0
  -- remote port implies remote address, which implies local address, which implies local port
  pub chained : (k : ℕ) → k < 16 → Chained (socket_at h k)
  -- a local address is 0 or our own (127/8 included)
  pub local : (k : ℕ) → k < 16 → LocalKnown h.interfaces (socket_at h k)
  -- a pending error is 0 or 10
  pub errors : (k : ℕ) → k < 16 → ErrorKnown (socket_at h k)
  -- two open sockets on one nonzero local port with overlapping local addresses both have reuse
  pub apart : (j k : ℕ) → j < 16 → k < 16 → j ≢ k → Apart (socket_at h j) (socket_at h k)
  -- no payload is over 512
  pub queued : (k i : ℕ) → k < 16 → i < count_at h k → (head_at h k i).len ≤ 512
  pub sent : (i : ℕ) → i < h.out.count → (item_at h i).len ≤ 512
  -- out-items are datagrams or notices, with a source of our own
  pub kinds : (i : ℕ) → i < h.out.count → (item_at h i).kind ≤ 2
  pub sources : (i : ℕ) → i < h.out.count → ours h.interfaces (out.source_of (item_at h i)) ≡ true
  -- a waiting descriptor is open with a local port
  pub awaited : Awaited h.sockets h.thread
