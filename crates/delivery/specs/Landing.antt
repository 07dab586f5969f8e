-- What becomes of a datagram: document 01, "Who gets a datagram", from outside and from inside alike
use Rattle.std.specs.Prelude.{ℕ, List, [], ◌∷◌, Bool, true, ◌&&◌, cond, ltb, eqb, length, Option}
use Rattle.laws.specs.Places.{part}
use Rattle.net.specs.Address.{loopback}
use Rattle.net.specs.declared.Flow.{Flow}
use Rattle.net.specs.declared.InterfaceId.{InterfaceId}
use Rattle.state.specs.declared.OutItem.{OutItem}
use Rattle.state.specs.declared.Queued.{Queued}
use Rattle.state.specs.declared.Socket.{Socket}
use Rattle.store.specs.Store.{slots_popped}
use Rattle.matching.specs.Scores.{best_of}
use Rattle.queues.specs.declared.Queues.{Queues}
use Rattle.queues.specs.Moves.{count_at, head_of, pushed}
use Rattle.queues.specs.Held.{Datagram}
use Rattle.outqueue.specs.declared.OutQueue.{OutQueue}
use Rattle.outqueue.specs.Moves.{item_at, notice_of, added, without_first}
use Rattle.outqueue.specs.Held.{Parcel}
use Rattle.delivery.specs.declared.Fate.{Fate}
use Rattle.delivery.specs.declared.Landing.{Landing}
use Rattle.delivery.specs.Fate.{fate_number, fate_at, number_so_far, at_so_far}

-- ---- into a queue (000, delivery.in.udp.1 and delivery.loopback.udp.1)

-- with the store
pub record Delivered : Type 0 where
  pub queues : Queues
  pub bytes : List ℕ
  pub number : ℕ
  pub at : ℕ

-- no fate yet where there is no winner
abbrev pub delivered : Queues → Option Fate → List ℕ → Delivered
delivered q f s = record { queues = q; bytes = s; number = number_so_far f; at = at_so_far f }

-- who gets it, as its head says where it comes from and goes
abbrev pub winner_of : List Socket → Queued → ℕ
winner_of ks h = (best_of ks h.flow).at

abbrev pub nobody : List Socket → Queued → Bool
nobody ks h = eqb (best_of ks h.flow).score 0

-- the datagram p with the head h: 20 delivered, 21 winner's queue holds 4 and it is dropped, both with descriptor; 0 where there is no winner
unfoldable pub delivering : List Socket → Queues → List ℕ → Queued → List ℕ → Delivered
delivering ks q s h p =
    cond (nobody ks h) (record { queues = q; bytes = s; number = 0; at = 0 })
    (cond (ltb (count_at q (winner_of ks h)) 4)
    (record { queues = (pushed q s (winner_of ks h) h p).queues; bytes = (pushed q s (winner_of ks h) h p).bytes; number = 20; at = winner_of ks h })
    (record { queues = q; bytes = s; number = 21; at = winner_of ks h }))

-- ---- a notice (000, delivery.in.udp.2 and delivery.loopback.udp.2)

pub record QueuedNotice : Type 0 where
  pub out : OutQueue
  pub bytes : List ℕ
  pub number : ℕ

-- 22 PORT notice queued, embedding the flow, or 23 if it may not be or the out-queue is full
unfoldable pub noticing : OutQueue → List ℕ → Flow → Bool → QueuedNotice
noticing o s f may =
    cond (may && ltb o.count 16) (record { out = (added o s (notice_of 1 f) []).out; bytes = (added o s (notice_of 1 f) []).bytes; number = 22 })
    (record { out = o; bytes = s; number = 23 })

-- ---- both in a row

pub record Landed : Type 0 where
  pub queues : Queues
  pub out : OutQueue
  pub bytes : List ℕ
  pub number : ℕ
  pub at : ℕ

abbrev pub landed : Landing → List ℕ → Landed
landed r s = record { queues = r.queues; out = r.out; bytes = s; number = fate_number r.fate; at = fate_at r.fate }

-- what the delivery d left; where there was no winner, a notice
unfoldable pub settled : Delivered → OutQueue → Flow → Bool → Landed
settled d o f may =
    cond (eqb d.number 0)
    (record { queues = d.queues; out = (noticing o d.bytes f may).out; bytes = (noticing o d.bytes f may).bytes; number = (noticing o d.bytes f may).number; at = 0 })
    (record { queues = d.queues; out = o; bytes = d.bytes; number = d.number; at = d.at })

-- the datagram p with the head h, and a notice for its sender if there may be one
abbrev pub landing : List Socket → Queues → OutQueue → List ℕ → Queued → List ℕ → Bool → Landed
landing ks q o s h p may = settled (delivering ks q s h p) o h.flow may

-- ---- from outside, and from inside

-- an arriving datagram, on the interface i
abbrev pub arriving : List Socket → Queues → OutQueue → List ℕ → Flow → InterfaceId → List ℕ → Landed
arriving ks q o s f i p = landing ks q o s (head_of f i (length p)) p true

-- the out-queue's oldest item as a queued datagram: interface 0 is loopback
abbrev pub loop_head : OutItem → Queued
loop_head x = head_of x.flow (record { 0 = 0 }) x.len

-- the oldest item is removed, with its slot, and lands; a notice is queued only if the sender's address is loopback
abbrev pub looping : List Socket → Queues → OutQueue → List ℕ → Landed
looping ks q o s =
    landing ks q (without_first o) (slots_popped s 32768 o.count) (loop_head (item_at o 0)) (part s 32768 (item_at o 0).len) (loopback (item_at o 0).flow.src)

-- ---- what a landing brings

-- to socket j: with 20, and j the winner, the datagram
abbrev pub brings : Landed → ℕ → Queued → List ℕ → List Datagram
brings l j h p = cond (eqb l.number 20 && eqb j l.at) (record { head = h; bytes = p } ∷ []) []

-- to the out-queue: with 22, the notice, whose slot is all zeros
abbrev pub leaves_notice : ℕ → Flow → List Parcel
leaves_notice n f = cond (eqb n 22) (record { head = notice_of 1 f; bytes = [] } ∷ []) []
