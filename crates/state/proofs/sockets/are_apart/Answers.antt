use Rattle.std.proofs.Common.{rules, tests}
use Rattle.laws.proofs.Below.{range_all}
use Rattle.state.specs.Sockets.{apart_at, all_apart}
use Rattle.state.proofs.sockets.are_apart.Goals as goal

pub returns : goal.returns
unfolding all_apart
returns c = range_all (apart_at c.args.sockets.now) 16 _ _ _ c.all.ensures.ran (cc) (λ k b q e. search (rules, tests))
