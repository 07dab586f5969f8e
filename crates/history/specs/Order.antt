-- What a step reads from a socket and hands over, and what it delivers to one
use Rattle.std.specs.Prelude.{◌≡◌, List, [], ◌∷◌, Bool, false, ◌&&◌, cond, ℕ, eqb, length}
use Rattle.laws.specs.Places.{splice}
use Rattle.net.specs.declared.Flow.{Flow}
use Rattle.state.specs.Interfaces.{holder_id}
use Rattle.queues.specs.Moves.{head_of}
use Rattle.queues.specs.Held.{Datagram, held, oldest}
use Rattle.outqueue.specs.Held.{Parcel, oldest_out}
use Rattle.delivery.specs.Landing.{loop_head}
use Rattle.answers.specs.declared.Answer.{Answer}
use Rattle.answers.specs.Answers.{read_of}
use Rattle.host.specs.Answers.{Outcome}
use Rattle.host.specs.Reading.{awaited_by}
use Rattle.history.specs.Steps.{World, Step, after, socket, bind, connect, disconnect, getsockname, getpeername, geterr, getopt, setopt, sendto, recvfrom, resume, interrupt, poll, close, exit, datagram, notice, outstep}

-- what socket l holds in w
abbrev pub holds : World → ℕ → List Datagram
holds w l = held w.host.queues w.bytes l

-- socket k's oldest datagram
abbrev pub first_of : World → ℕ → Datagram
first_of w k = oldest w.host.queues w.bytes k

-- a recvfrom or resume that answers 0 reads the oldest of its socket; no other step reads
abbrev pub read_by : World → Step → ℕ → List Datagram
read_by w socket l = []
read_by w (bind k a p) l = []
read_by w (connect k a p) l = []
read_by w (disconnect k) l = []
read_by w (getsockname k) l = []
read_by w (getpeername k) l = []
read_by w (geterr k) l = []
read_by w (getopt k o) l = []
read_by w (setopt k o on) l = []
read_by w (sendto k a p payload) l = []
read_by w (recvfrom k nonblocking b) l = cond (eqb l k && eqb (after w (recvfrom k nonblocking b)).answer.number 0) (first_of w k ∷ []) []
read_by w (resume b) l = cond (eqb l (awaited_by w.host.thread) && eqb (after w (resume b)).answer.number 0) (first_of w (awaited_by w.host.thread) ∷ []) []
read_by w interrupt l = []
read_by w (poll r v) l = []
read_by w (close k) l = []
read_by w exit l = []
read_by w (datagram f p) l = []
read_by w (notice src dst f) l = []
read_by w (outstep b) l = []

-- ---- what a step delivers to a socket

-- 20 with the descriptor l delivers d
abbrev pub comes : Answer → ℕ → Datagram → List Datagram
comes a l d = cond (eqb a.number 20 && eqb l a.descriptor.0) (d ∷ []) []

-- an arriving datagram by its arguments, on the interface that has its destination
abbrev pub arriving_as : World → Flow → List ℕ → Datagram
arriving_as w f p = record { head = head_of f (holder_id w.host.interfaces f.dst) (length p); bytes = p }

-- the out-queue's oldest item, and how it comes back in: with interface id 0 and its bytes
abbrev pub first_out : World → Parcel
first_out w = oldest_out w.host.out w.bytes

abbrev pub coming_back : World → Datagram
coming_back w = record { head = loop_head (first_out w).head; bytes = (first_out w).bytes }

abbrev pub delivered_by : World → Step → ℕ → List Datagram
delivered_by w socket l = []
delivered_by w (bind k a p) l = []
delivered_by w (connect k a p) l = []
delivered_by w (disconnect k) l = []
delivered_by w (getsockname k) l = []
delivered_by w (getpeername k) l = []
delivered_by w (geterr k) l = []
delivered_by w (getopt k o) l = []
delivered_by w (setopt k o on) l = []
delivered_by w (sendto k a p payload) l = []
delivered_by w (recvfrom k nonblocking b) l = []
delivered_by w (resume b) l = []
delivered_by w interrupt l = []
delivered_by w (poll r v) l = []
delivered_by w (close k) l = []
delivered_by w exit l = []
delivered_by w (datagram f p) l = comes (after w (datagram f p)).answer l (arriving_as w f p)
delivered_by w (notice src dst f) l = []
delivered_by w (outstep b) l = comes (after w (outstep b)).answer l (coming_back w)

-- ---- the steps that open or end socket l: its account starts anew

abbrev pub restarts : World → Step → ℕ → Bool
restarts w socket l = eqb (after w socket).answer.number 0 && eqb l (after w socket).answer.descriptor.0
restarts w (bind k a p) l = false
restarts w (connect k a p) l = false
restarts w (disconnect k) l = false
restarts w (getsockname k) l = false
restarts w (getpeername k) l = false
restarts w (geterr k) l = false
restarts w (getopt k o) l = false
restarts w (setopt k o on) l = false
restarts w (sendto k a p payload) l = false
restarts w (recvfrom k nonblocking b) l = false
restarts w (resume b) l = false
restarts w interrupt l = false
restarts w (poll r v) l = false
restarts w (close k) l = eqb (after w (close k)).answer.number 0 && eqb l k
restarts w exit l = eqb (after w exit).answer.number 0
restarts w (datagram f p) l = false
restarts w (notice src dst f) l = false
restarts w (outstep b) l = false

-- socket k's oldest datagram is said, and lies at the start of the buffer b
pub record Handed (w : World) (k : ℕ) (b : List ℕ) (o : Outcome) : Type 0 where
  pub said : o.answer ≡ read_of (first_of w k).head
  pub lent : o.lent ≡ splice b 0 (first_of w k).bytes
