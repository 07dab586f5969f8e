-- What a step queues to go out, and what it takes from the out-queue
use Rattle.std.specs.Prelude.{List, [], ◌∷◌, Bool, ◌&&◌, not, cond, ℕ, eqb, leb, length}
use Rattle.net.specs.declared.Port.{Port}
use Rattle.outqueue.specs.Moves.{datagram_of}
use Rattle.outqueue.specs.Held.{Parcel, waiting_out}
use Rattle.delivery.specs.Landing.{leaves_notice}
use Rattle.host.specs.Sending.{flow_of}
use Rattle.history.specs.Steps.{World, Step, after, socket, bind, connect, disconnect, getsockname, getpeername, geterr, getopt, setopt, sendto, recvfrom, resume, interrupt, poll, close, exit, datagram, notice, outstep}
use Rattle.history.specs.Order.{first_out}

-- what is queued to go out in w, oldest first
abbrev pub queued_in : World → List Parcel
queued_in w = waiting_out w.host.out w.bytes

-- the datagram that a sendto queues
abbrev pub sending : World → ℕ → ℕ → Port → List ℕ → Parcel
sending w k a p payload = record { head = datagram_of (flow_of w.host k a p) (length payload); bytes = payload }

-- a sendto that answers 0 queues its datagram; 22 queues a notice for the datagram that nobody took
abbrev pub queued_by : World → Step → List Parcel
queued_by w socket = []
queued_by w (bind k a p) = []
queued_by w (connect k a p) = []
queued_by w (disconnect k) = []
queued_by w (getsockname k) = []
queued_by w (getpeername k) = []
queued_by w (geterr k) = []
queued_by w (getopt k o) = []
queued_by w (setopt k o on) = []
queued_by w (sendto k a p payload) = cond (eqb (after w (sendto k a p payload)).answer.number 0) (sending w k a p payload ∷ []) []
queued_by w (recvfrom k nonblocking b) = []
queued_by w (resume b) = []
queued_by w interrupt = []
queued_by w (poll r v) = []
queued_by w (close k) = []
queued_by w exit = []
queued_by w (datagram f p) = leaves_notice (after w (datagram f p)).answer.number f
queued_by w (notice src dst f) = []
queued_by w (outstep b) = leaves_notice (after w (outstep b)).answer.number (first_out w).head.flow

-- an out step that answers 20 or more, 31 apart, has taken the oldest item: emitted, handled inside or discarded
abbrev pub takes : ℕ → Bool
takes n = leb 20 n && not (eqb n 31)

abbrev pub left_by : World → Step → List Parcel
left_by w socket = []
left_by w (bind k a p) = []
left_by w (connect k a p) = []
left_by w (disconnect k) = []
left_by w (getsockname k) = []
left_by w (getpeername k) = []
left_by w (geterr k) = []
left_by w (getopt k o) = []
left_by w (setopt k o on) = []
left_by w (sendto k a p payload) = []
left_by w (recvfrom k nonblocking b) = []
left_by w (resume b) = []
left_by w interrupt = []
left_by w (poll r v) = []
left_by w (close k) = []
left_by w exit = []
left_by w (datagram f p) = []
left_by w (notice src dst f) = []
left_by w (outstep b) = cond (takes (after w (outstep b)).answer.number) (first_out w ∷ []) []
