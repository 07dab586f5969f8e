use Rattle.std.proofs.Common.{rules, ◌≡◌, ◌∙◌, ap}
use Rattle.std.specs.Option.{option_map_or}
use Rattle.std.proofs.lemmas.Iterator.{YieldsList-from_slice}
use Rattle.std.proofs.lemmas.Iterator.Search.{find_from_yields_List}
use borrow.Author.Tests.{tests}
use lib.ListN.{take}
use Rattle.matching.specs.Routes.{reaches}
use Rattle.matching.proofs.routes.source.Goals as goal
use Rattle.matching.proofs.Paths.{source_first}

pub returns : goal.returns
returns c =
    let found = find_from_yields_List (λ x. reaches x c.args.dst) _ _ c.find-reaching.result c.find-reaching.ensures.ran (YieldsList-from_slice (take c.min.result c.args.interfaces.now) cc) (λ x b q k. search (rules, tests)) in
    let m : c.map_or.result ≡ option_map_or (λ x. x.now.first) c.or.result 0 = search rules in
    m ∙ ap (λ o. option_map_or (λ x. x.now.first) o 0) c.or.ensures
    ∙ source_first _ _ _ _ _ c.told-interfaces c.is_loopback.ensures c.if-is_loopback.false c.min.ensures found c.first.ensures.value
