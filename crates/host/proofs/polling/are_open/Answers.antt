use Rattle.std.proofs.Common.{rules}
use borrow.Author.Tests.{tests}
use Rattle.laws.proofs.Below.{range_all}
use Rattle.host.specs.Polling.{names_open, all_open}
use Rattle.host.proofs.polling.are_open.Goals as goal

pub returns : goal.returns
unfolding all_open
returns c = range_all (names_open c.args.sockets.now c.args.mask) 16 _ _ c.all.result c.all.ensures.ran (cc) (λ x b q k. search (rules, tests))
