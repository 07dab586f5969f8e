use Rattle.std.proofs.Common.{rules, tests, ◌∙◌}
use Rattle.state.specs.Interfaces.{member, in_one_net}
use Rattle.state.proofs.Lists.{slice_all, all_addresses}
use Rattle.state.proofs.interfaces.in_one_net.Goals as goal

pub returns : goal.returns
unfolding in_one_net
returns c =
    let f = member c.args.x in
    slice_all f c.addresses.result _ _ _ c.all.ensures.ran (cc) (λ y b q k. search (rules, tests)) ∙ all_addresses f c.args.x c.addresses.ensures
