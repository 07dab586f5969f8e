use Rattle.host.proofs.Host.take_oldest.Goals as goal
use Rattle.host.proofs.Passed.{holds_some}

pub take-rest-requires-clause-lent : goal.take-rest-requires-clause-lent
take-rest-requires-clause-lent c = ((holds_some c.requires).2, c.if-buffer-h.false)
