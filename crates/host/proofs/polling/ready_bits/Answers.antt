use Rattle.std.proofs.Common.{rules}
use Rattle.host.proofs.polling.ready_bits.Goals as goal
use Rattle.host.proofs.Bits.{ready_start, ready_turn, ready_fits}

pub loop-k-init : goal.loop-k-init
loop-k-init c = ready_start _ _

pub overflow_add-bits : goal.overflow_add-bits
overflow_add-bits c = record { fits = ready_fits c.loop-k.invariant (search rules) c.ready_bit-bits.ensures }

pub loop-k-preserved : goal.loop-k-preserved
loop-k-preserved c = ready_turn c.loop-k.invariant c.ready_bit-bits.ensures
