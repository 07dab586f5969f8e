use Rattle.std.proofs.Common.{◌∙◌, refl}
use Rattle.host.proofs.Host.resume.Goals as goal
use Rattle.host.proofs.Passed.{resuming}

pub resume_on-requires-clause-ready : goal.resume_on-requires-clause-ready
resume_on-requires-clause-ready c = (resuming _ _ c.in-Ok.ensures.refusal refl).0

pub resume_on-requires-clause-k_bound : goal.resume_on-requires-clause-k_bound
resume_on-requires-clause-k_bound c = rw (c.from.ensures ∙ c.in-Ok.ensures.awaited) (resuming _ _ c.in-Ok.ensures.refusal refl).1
