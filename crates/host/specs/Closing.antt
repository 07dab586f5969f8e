-- close, exit
use Rattle.std.specs.Prelude.{ℕ, List, [], length}
use Rattle.laws.specs.Places.{copies}
use Rattle.state.specs.declared.Thread.TheVariants.{Ended}
use Rattle.state.specs.Places.{no_socket}
use Rattle.queues.specs.declared.Queues.{Queues}
use Rattle.queues.specs.Moves.{cleared, emptied}
use Rattle.host.specs.declared.Host.{Host}
use Rattle.answers.specs.Answers.{plain}
use Rattle.host.specs.Answers.{Outcome, gives, unless}
use Rattle.host.specs.Moves.{with_socket, with_queues}
use Rattle.answers.specs.Tables.{first}
use Rattle.host.specs.Tables.{entry_rows}
use Rattle.host.specs.Naming.{call_refusal}

-- close (000, close.1) zeroes the socket and its slots
unfoldable pub closed : Host → List ℕ → ℕ → Outcome
closed h s k =
    unless (call_refusal h (length s) k) h s []
    (gives (with_queues (with_socket h k no_socket) (cleared h.queues s k).queues) (plain 0) (cleared h.queues s k).bytes [])

-- exit does that to all and ends the thread; the out-queue stays (000, exit.1)
unfoldable pub exit_host : Host → Queues → Host
exit_host h q = record { interfaces = h.interfaces; sockets = copies no_socket 16; queues = q; out = h.out; thread = Ended; icount = h.icount }

unfoldable pub exited : Host → List ℕ → Outcome
exited h s = unless (first (entry_rows h (length s))) h s [] (gives (exit_host h (emptied s).queues) (plain 0) (emptied s).bytes [])
