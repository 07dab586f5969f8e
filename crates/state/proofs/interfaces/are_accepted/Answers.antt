use Rattle.std.proofs.Common.{leb, rules, tests}
use Rattle.std.proofs.lemmas.Bool.{le-leb}
use Rattle.laws.proofs.Below.{range_all}
use Rattle.state.specs.Interfaces.{place_ok, opening_ok}
use Rattle.state.proofs.Lists.{and_so}
use Rattle.state.proofs.interfaces.are_accepted.Goals as goal

pub returns-then-n-le4 : goal.returns-then-n-le4
unfolding opening_ok
returns-then-n-le4 c =
    and_so (leb c.args.n 4) (le-leb c.args.n 4 c.if-n-le4.true)
    (range_all (place_ok c.args.interfaces.now c.args.n) 4 _ _ _ c.all.ensures.ran (cc) (λ i b q k. search (rules, tests)))
