use Rattle.std.proofs.Common.{refl}
use Rattle.host.proofs.Host.out_step.Goals as goal
use Rattle.host.proofs.Passed.{leavable}

pub leave-requires : goal.leave-requires
leave-requires c = leavable _ _ _ c.in_default.ensures refl
