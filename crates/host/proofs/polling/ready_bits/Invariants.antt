use Rattle.host.specs.Polling.{ready_by}
use Rattle.host.proofs.polling.ready_bits.Given as goal
use Rattle.host.proofs.Bits.{Gathered}

abbrev pub invariant-loop-k : goal.invariant-loop-k
invariant-loop-k l = Gathered l.mask (ready_by l.sockets l.marks) l.k l.bits
