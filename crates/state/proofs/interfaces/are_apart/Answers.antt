use Rattle.std.proofs.Common.{not, eqb, rules, tests, sym, ◌∙◌}
use Rattle.state.specs.Interfaces.{lacks, pair_apart}
use Rattle.state.proofs.Lists.{and_so, slice_all, all_addresses}
use Rattle.state.proofs.interfaces.are_apart.Goals as goal

pub returns-then-ne : goal.returns-then-ne
unfolding pair_apart
returns-then-ne c =
    let f = lacks c.args.x in
    and_so (not (eqb c.args.x.id.0 c.args.y.id.0)) (sym c.ne.ensures ∙ c.if-ne.true)
    (slice_all f c.addresses.result _ _ _ c.all.ensures.ran (cc) (λ y b q k. search (rules, tests)) ∙ all_addresses f c.args.y c.addresses.ensures)
