-- What a refusal leaves
use Rattle.std.specs.Prelude.{◌≡◌, List, [], ◌≢◌, ℕ, ◌≤◌}
use Rattle.host.specs.declared.Host.{Host}
use Rattle.host.specs.Answers.{Outcome}
use Rattle.history.specs.Steps.{World, Step, socket, bind, connect, disconnect, getsockname, getpeername, geterr, getopt, setopt, sendto, recvfrom, resume, interrupt, poll, close, exit, datagram, notice, outstep}

-- the buffer that the step is lent; [] where none is
abbrev pub lent_by : Step → List ℕ
lent_by socket = []
lent_by (bind k a p) = []
lent_by (connect k a p) = []
lent_by (disconnect k) = []
lent_by (getsockname k) = []
lent_by (getpeername k) = []
lent_by (geterr k) = []
lent_by (getopt k o) = []
lent_by (setopt k o on) = []
lent_by (sendto k a p payload) = []
lent_by (recvfrom k nonblocking b) = b
lent_by (resume b) = b
lent_by interrupt = []
lent_by (poll r v) = []
lent_by (close k) = []
lent_by exit = []
lent_by (datagram f p) = []
lent_by (notice src dst f) = []
lent_by (outstep b) = b

-- record, store and buffer as they were
pub record Unchanged (w : World) (b : List ℕ) (o : Outcome) : Type 0 where
  pub host : o.host ≡ w.host
  pub bytes : o.bytes ≡ w.bytes
  pub lent : o.lent ≡ b

-- every number from 1 to 17 leaves record, store and buffer untouched; 10 is the exception
pub record Refusal (w : World) (b : List ℕ) (o : Outcome) : Type 0 where
  pub untouched : 1 ≤ o.answer.number → o.answer.number ≤ 17 → o.answer.number ≢ 10 → Unchanged w b o

-- 10 leaves the host m, and store and buffer as they were
pub record Told (w : World) (m : Host) (b : List ℕ) (o : Outcome) : Type 0 where
  pub host : o.host ≡ m
  pub bytes : o.bytes ≡ w.bytes
  pub lent : o.lent ≡ b
