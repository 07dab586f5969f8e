use Rattle.std.proofs.Common.{rules, tests, ◌∙◌}
use Rattle.state.specs.Interfaces.{acceptable, usable}
use Rattle.state.proofs.Lists.{slice_all, all_addresses}
use Rattle.state.proofs.interfaces.is_usable.Goals as goal

pub returns : goal.returns
unfolding usable
returns c =
    slice_all acceptable c.addresses.result _ _ _ c.all.ensures.ran (cc) (λ y b q k. search (rules, tests)) ∙ all_addresses acceptable c.args.x c.addresses.ensures
