-- Whom a step names or picks, and what it is to stay as one was
use Rattle.std.specs.Prelude.{◌≡◌, List, ◌≢◌, true, cond, ℕ, eqb}
use Rattle.net.specs.Address.{loopback}
use Rattle.net.specs.declared.Flow.{Flow}
use Rattle.state.specs.declared.OutItem.{OutItem}
use Rattle.state.specs.declared.Socket.{Socket}
use Rattle.matching.specs.Scores.{best_of}
use Rattle.binding.specs.Sockets.{lowest_closed}
use Rattle.queues.specs.Held.{SameQueue}
use Rattle.outqueue.specs.Moves.{destination_of}
use Rattle.delivery.specs.Hearing.{turned}
use Rattle.host.specs.Form.{socket_at}
use Rattle.host.specs.Answers.{Outcome}
use Rattle.host.specs.Reading.{awaited_by}
use Rattle.host.specs.Emitting.{oldest_item}
use Rattle.history.specs.Steps.{World, Step, socket, bind, connect, disconnect, getsockname, getpeername, geterr, getopt, setopt, sendto, recvfrom, resume, interrupt, poll, close, exit, datagram, notice, outstep}

-- socket l is the winner of the flow
abbrev pub Picks : List Socket → Flow → ℕ → Type 0
Picks ks f l = ((best_of ks f).score ≢ 0) × (l ≡ (best_of ks f).at)

-- the flow by which an item that comes back in seeks its socket: a notice seeks the sender of what it embeds
abbrev pub sought_by : OutItem → Flow
sought_by x = cond (eqb x.kind 0) x.flow (turned x.flow)

-- socket l is the one that the step names, opens, resumes the wait of, or picks; exit names every one
abbrev pub Named : World → Step → ℕ → Type 0
Named w socket l = l ≡ lowest_closed w.host.sockets
Named w (bind k a p) l = l ≡ k
Named w (connect k a p) l = l ≡ k
Named w (disconnect k) l = l ≡ k
Named w (getsockname k) l = l ≡ k
Named w (getpeername k) l = l ≡ k
Named w (geterr k) l = l ≡ k
Named w (getopt k o) l = l ≡ k
Named w (setopt k o on) l = l ≡ k
Named w (sendto k a p payload) l = l ≡ k
Named w (recvfrom k nonblocking b) l = l ≡ k
Named w (resume b) l = l ≡ awaited_by w.host.thread
Named w interrupt l = ⊥
Named w (poll r v) l = ⊥
Named w (close k) l = l ≡ k
Named w exit l = Unit
Named w (datagram f p) l = Picks w.host.sockets f l
Named w (notice src dst f) l = Picks w.host.sockets (turned f) l
Named w (outstep b) l = (loopback (destination_of (oldest_item w.host)) ≡ true) × Picks w.host.sockets (sought_by (oldest_item w.host)) l

-- socket l's record and queue are as they were: its count, its heads, and all its bytes
pub record Untouched (w : World) (o : Outcome) (l : ℕ) : Type 0 where
  pub record_same : socket_at o.host l ≡ socket_at w.host l
  pub queue_same : SameQueue w.host.queues w.bytes o.host.queues o.bytes l
