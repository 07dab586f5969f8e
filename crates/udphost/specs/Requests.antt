-- Which step a request is, and everything that it leaves
use Rattle.std.specs.Prelude.{ℕ, List, [], cond, eqb, length}
use Rattle.answers.specs.declared.Answer.{Answer}
use Rattle.answers.specs.Answers.{plain}
use Rattle.answers.specs.Tables.{first_or}
use Rattle.host.specs.declared.Host.{Host}
use Rattle.host.specs.declared.Stepped.{Stepped}
use Rattle.host.specs.Answers.{Outcome, outcome, unchanged}
use Rattle.host.specs.Tables.{ready_rows}
use Rattle.history.specs.Steps.{World, after, socket, bind, connect, disconnect, getsockname, getpeername, geterr, getopt, setopt, sendto, recvfrom, resume, interrupt, poll, close, exit, datagram, notice, outstep}
use Rattle.udphost.specs.declared.Record.{Record}
use Rattle.udphost.specs.declared.Reply.{Reply}
use Rattle.udphost.specs.declared.Request.{Request}
use Rattle.udphost.specs.Crossing.{thread_known, host_of, record_of}

-- a kind that is none: 1 and 2 as of every step, then 6; nothing changes
abbrev pub none_of : Host → ℕ → Stepped
none_of h room = unchanged h (first_or (ready_rows h room) 6)

-- the steps that leave every lent byte as it is: 1 socket, 2 bind, 3 connect, 4 disconnect, 8 setopt, 10 notice,
-- 13 getsockname, 14 getpeername, 15 geterr, 16 getopt, 18 interrupt, 19 poll
unfoldable pub asked_of : ℕ → World → Request → Outcome
asked_of k w q =
    cond (eqb k 1) (after w socket)
    (cond (eqb k 2) (after w (bind q.descriptor.0 q.address q.port))
    (cond (eqb k 3) (after w (connect q.descriptor.0 q.address q.port))
    (cond (eqb k 4) (after w (disconnect q.descriptor.0))
    (cond (eqb k 8) (after w (setopt q.descriptor.0 q.option q.on))
    (cond (eqb k 10) (after w (notice q.src q.dst q.flow))
    (cond (eqb k 13) (after w (getsockname q.descriptor.0))
    (cond (eqb k 14) (after w (getpeername q.descriptor.0))
    (cond (eqb k 15) (after w (geterr q.descriptor.0))
    (cond (eqb k 16) (after w (getopt q.descriptor.0 q.option))
    (cond (eqb k 18) (after w interrupt)
    (cond (eqb k 19) (after w (poll q.readers q.writers)) (outcome (none_of w.host (length w.bytes)) w.bytes []))))))))))))

abbrev pub asked : Host → List ℕ → Request → Outcome
asked h s q = asked_of q.kind (record { host = h; bytes = s }) q

-- what is not lent to a step stays as it is
abbrev pub keeping : Outcome → List ℕ → Outcome
keeping o b = record { host = o.host; answer = o.answer; bytes = o.bytes; lent = b }

-- the others: 5 sendto, 6 recvfrom, 7 close, 9 datagram, 11 out step, 12 exit, 17 resume; p is the payload, b the lent buffer
unfoldable pub making_of : ℕ → World → Request → List ℕ → List ℕ → Outcome
making_of k w q p b =
    cond (eqb k 5) (keeping (after w (sendto q.descriptor.0 q.address q.port p)) b)
    (cond (eqb k 6) (after w (recvfrom q.descriptor.0 q.on b))
    (cond (eqb k 7) (keeping (after w (close q.descriptor.0)) b)
    (cond (eqb k 9) (keeping (after w (datagram q.flow p)) b)
    (cond (eqb k 11) (after w (outstep b))
    (cond (eqb k 12) (keeping (after w exit) b)
    (cond (eqb k 17) (after w (resume b)) (keeping (asked_of k w q) b)))))))

abbrev pub making : Host → List ℕ → Request → List ℕ → List ℕ → Outcome
making h s q p b = making_of q.kind (record { host = h; bytes = s }) q p b

-- ---- at the boundary: the record, the answer, the store and the lent buffer

pub record Crossing : Type 0 where
  pub next : Record
  pub answer : Answer
  pub bytes : List ℕ
  pub lent : List ℕ

abbrev pub reply_of : Stepped → Reply
reply_of r = record { next = record_of r.host; answer = r.answer }

abbrev pub crossing : Reply → List ℕ → List ℕ → Crossing
crossing r s b = record { next = r.next; answer = r.answer; bytes = s; lent = b }

abbrev pub crossed_of : Outcome → Crossing
crossed_of o = record { next = record_of o.host; answer = o.answer; bytes = o.bytes; lent = o.lent }

-- a record whose thread's numbers are none is answered with 1, and nothing changes
unfoldable pub stepping : Record → List ℕ → Request → List ℕ → List ℕ → Crossing
stepping r s q p b =
    cond (thread_known r.thread r.awaited) (crossed_of (making (host_of r) s q p b)) (record { next = r; answer = plain 1; bytes = s; lent = b })
