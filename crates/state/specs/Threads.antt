-- The thread: running, waiting in recvfrom on one descriptor, or ended
use Rattle.std.specs.Prelude.{ℕ, List, Option, None, Some, Bool, true, false, ◌&&◌, not, cond, ltb, eqb}
use Rattle.net.specs.declared.Descriptor.{Descriptor}
use Rattle.state.specs.declared.Socket.{Socket}
use Rattle.state.specs.declared.Thread.{Thread}
use Rattle.state.specs.declared.Thread.TheVariants.{Running, Waiting, Ended}
use Rattle.state.specs.Places.{socket_in}

-- socket k is open with a local port
unfoldable pub bound_at : List Socket → ℕ → Bool
bound_at ks k = cond (ltb k 16) ((socket_in ks k).live && not (eqb (socket_in ks k).lport.0 0)) false

-- a waiting descriptor is open with a local port
unfoldable pub thread_ok : List Socket → Thread → Bool
thread_ok ks Running = true
thread_ok ks (Waiting d) = bound_at ks d.0
thread_ok ks Ended = true

abbrev pub ended : Thread → Bool
ended Running = false
ended (Waiting d) = false
ended Ended = true

abbrev pub waiting : Thread → Bool
waiting Running = false
waiting (Waiting d) = true
waiting Ended = false

-- the descriptor that it waits on
abbrev pub awaited_of : Thread → Option Descriptor
awaited_of Running = None
awaited_of (Waiting d) = Some d
awaited_of Ended = None
