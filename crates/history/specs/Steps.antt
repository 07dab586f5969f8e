-- Every step with its arguments, and what it leaves: the definitions that the methods promise
use Rattle.std.specs.Prelude.{ℕ, List, Bool}
use Rattle.net.specs.declared.Flow.{Flow}
use Rattle.net.specs.declared.Port.{Port}
use Rattle.host.specs.declared.Host.{Host}
use Rattle.host.specs.Answers.{Outcome}
use Rattle.host.specs.Naming.{socketed, bound, connected, disconnected, local_given, peer_given}
use Rattle.host.specs.Options.{error_given, option_given, option_set}
use Rattle.host.specs.Sending.{sent}
use Rattle.host.specs.Reading.{received, resumed, interrupted}
use Rattle.host.specs.Polling.{polled_of}
use Rattle.host.specs.Closing.{closed, exited}
use Rattle.host.specs.Arrivals.{arrived, noticed}
use Rattle.host.specs.Emitting.{stepped}

-- a host and the lent store
pub record World : Type 0 where
  pub host : Host
  pub bytes : List ℕ

-- descriptors by number; a lent buffer or payload by its bytes
pub data Step : Type 0 where
  socket : Step
  bind : ℕ → ℕ → Port → Step
  connect : ℕ → ℕ → Port → Step
  disconnect : ℕ → Step
  getsockname : ℕ → Step
  getpeername : ℕ → Step
  geterr : ℕ → Step
  getopt : ℕ → ℕ → Step
  setopt : ℕ → ℕ → Bool → Step
  sendto : ℕ → ℕ → Port → List ℕ → Step
  recvfrom : ℕ → Bool → List ℕ → Step
  resume : List ℕ → Step
  interrupt : Step
  poll : ℕ → ℕ → Step
  close : ℕ → Step
  exit : Step
  -- a datagram from outside, of the flow, with its payload
  datagram : Flow → List ℕ → Step
  -- a notice from outside: its source, its destination, the flow that it embeds
  notice : ℕ → ℕ → Flow → Step
  -- the out step, with the lent buffer
  outstep : List ℕ → Step

unfoldable pub after : World → Step → Outcome
after w socket = socketed w.host w.bytes
after w (bind k a p) = bound w.host w.bytes k a p
after w (connect k a p) = connected w.host w.bytes k a p
after w (disconnect k) = disconnected w.host w.bytes k
after w (getsockname k) = local_given w.host w.bytes k
after w (getpeername k) = peer_given w.host w.bytes k
after w (geterr k) = error_given w.host w.bytes k
after w (getopt k o) = option_given w.host w.bytes k o
after w (setopt k o on) = option_set w.host w.bytes k o on
after w (sendto k a p payload) = sent w.host w.bytes k a p payload
after w (recvfrom k nonblocking b) = received w.host w.bytes k nonblocking b
after w (resume b) = resumed w.host w.bytes b
after w interrupt = interrupted w.host w.bytes
after w (poll r v) = polled_of w.host w.bytes r v
after w (close k) = closed w.host w.bytes k
after w exit = exited w.host w.bytes
after w (datagram f p) = arrived w.host w.bytes f p
after w (notice src dst f) = noticed w.host w.bytes src dst f
after w (outstep b) = stepped w.host w.bytes b
