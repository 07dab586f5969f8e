-- Nine rows: a search with half its steps does not go through them.
use Rattle.std.proofs.Common.{rules}
use Rattle.host.proofs.Host.may_bind.Goals as goal

pub returns-in_err-bind_rows-clause-refusal : goal.returns-in_err-bind_rows-clause-refusal
returns-in_err-bind_rows-clause-refusal c = search rules
