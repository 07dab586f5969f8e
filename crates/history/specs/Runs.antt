-- Runs: any list of steps from an accepted opening, the record and the store written by these steps only
use Rattle.std.specs.Prelude.{◌≡◌, List, [], ◌∷◌, ◌++◌, cond, ℕ}
use Rattle.state.specs.declared.Interface.{Interface}
use Rattle.queues.specs.Held.{Datagram}
use Rattle.outqueue.specs.Held.{Parcel}
use Rattle.host.specs.Opening.{opened}
use Rattle.history.specs.Steps.{World, Step, after}
use Rattle.history.specs.Order.{read_by, delivered_by, restarts}
use Rattle.history.specs.Outgoing.{queued_by, left_by}

-- ---- worlds

-- what a step leaves for the next
abbrev pub next : World → Step → World
next w t = record { host = (after w t).host; bytes = (after w t).bytes }

unfoldable pub run : World → List Step → World
run w [] = w
run w (t ∷ ts) = run (next w t) ts

-- w' is what some steps make of w
pub record Ran (w w' : World) : Type 0 where
  pub steps : List Step
  pub there : w' ≡ run w steps

-- the host and the store that an opening leaves
abbrev pub opening : List Interface → ℕ → List ℕ → World
opening is n s = record { host = (opened is n s).host; bytes = (opened is n s).bytes }

-- the opening accepted the interfaces and the store
abbrev pub Accepted : List Interface → ℕ → List ℕ → Type 0
Accepted is n s = (opened is n s).answer.number ≡ 0

-- the world after the steps ts: every point of a run is one, since ts may be any list
abbrev pub reached : List Interface → ℕ → List ℕ → List Step → World
reached is n s ts = run (opening is n s) ts

-- ---- the account of socket l: what was read from it and what was delivered to it since it was opened

pub record Account : Type 0 where
  pub read : List Datagram
  pub delivered : List Datagram

abbrev pub none : Account
none = record { read = []; delivered = [] }

-- a step that opens or ends the socket starts it anew
abbrev pub booked : World → Step → ℕ → Account → Account
booked w t l a = cond (restarts w t l) none (record { read = a.read ++ read_by w t l; delivered = a.delivered ++ delivered_by w t l })

unfoldable pub account : World → List Step → ℕ → Account → Account
account w [] l a = a
account w (t ∷ ts) l a = account (next w t) ts l (booked w t l a)

-- ---- the account of the out-queue: what was queued, and what was emitted, handled inside or discarded

unfoldable pub all_queued : World → List Step → List Parcel
all_queued w [] = []
all_queued w (t ∷ ts) = queued_by w t ++ all_queued (next w t) ts

unfoldable pub all_left : World → List Step → List Parcel
all_left w [] = []
all_left w (t ∷ ts) = left_by w t ++ all_left (next w t) ts
