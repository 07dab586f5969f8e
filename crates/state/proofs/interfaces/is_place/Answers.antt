use Rattle.std.proofs.Common.{take, rules, tests, arith, sym, ◌∙◌}
use Rattle.state.specs.Places.{interface_in, no_interface}
use Rattle.state.specs.Interfaces.{interface_ok, pair_apart}
use Rattle.state.proofs.Lists.{and_so, slice_all, all_before, used_place}
use Rattle.state.proofs.interfaces.is_place.Goals as goal

pub returns-then-is_interface : goal.returns-then-is_interface
returns-then-is_interface c =
    let is = c.args.interfaces.now in
    let i = c.args.i in
    let x = interface_in is i in
    and_so (interface_ok x) (sym c.is_interface.ensures ∙ c.if-is_interface.true)
    (slice_all (λ w. pair_apart w x) (take i is) _ _ _ c.all.ensures.ran (cc) (λ y b q k. search (rules, tests)) ∙ all_before (λ w. pair_apart w x) no_interface is i (omega arith))
    ∙ sym (used_place is c.args.n i c.if-i-n.true)
