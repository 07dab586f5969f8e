use Rattle.std.proofs.Common.{ℕ, not, ◌||◌, take, eqb, rules, tests, ◌∙◌}
use Rattle.std.specs.List.{list_any}
use Rattle.std.proofs.lemmas.Iterator.{YieldsList-from_slice}
use Rattle.std.proofs.lemmas.Iterator.Consumers.{YieldsList-from_enumerate}
use Rattle.std.proofs.lemmas.Iterator.Search.{all_from_yields_List}
use Rattle.state.specs.Interfaces.{distinct_within}
use Rattle.state.proofs.Lists.{distinct_addresses}
use Rattle.state.proofs.interfaces.is_distinct.Goals as goal

pub returns : goal.returns
unfolding distinct_within
returns c =
    let at = c.addresses-at.result in
    all_from_yields_List (λ (p : ℕ × ℕ). eqb p.1 0 || not (list_any (λ b. eqb b p.1) (take p.0 at))) _ _ _ c.all.ensures.ran (YieldsList-from_enumerate (YieldsList-from_slice at cc) cc) (λ x b q k. search (rules, tests))
    ∙ distinct_addresses at c.args.x c.addresses-at.ensures
