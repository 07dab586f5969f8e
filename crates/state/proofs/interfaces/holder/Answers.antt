use Rattle.std.proofs.Common.{◌≡◌, Option, None, Some, Bor, rules, tests, ap, ◌∙◌}
use Rattle.std.specs.Option.{MatchOption, option_map, unwrap_or}
use Rattle.std.proofs.lemmas.Iterator.{YieldsList-from_slice}
use Rattle.std.proofs.lemmas.Iterator.Search.{find_from_yields_List}
use Rattle.net.specs.declared.InterfaceId.{InterfaceId}
use Rattle.state.specs.declared.Interface.{Interface}
use Rattle.state.specs.Places.{no_interface}
use Rattle.state.specs.Interfaces.{holds, holder}
use Rattle.state.proofs.Lists.{find_is}
use Rattle.state.proofs.interfaces.holder.Goals as goal

-- what `map_or` reads of it
read : (r : Option (Bor Interface)) (P : Bor Interface → Type 0) (id : InterfaceId) → MatchOption r (id ≡ no_interface.id) P → ((y : Bor Interface) → P y → id ≡ y.now.id)
    → id ≡ (unwrap_or (option_map (λ y. y.now) r) no_interface).id
read None P id h p = h
read (Some y) P id h p = p y h

pub returns : goal.returns
unfolding holder
returns c =
    let is = c.args.interfaces.now in
    let f = λ (x : Interface). holds x c.args.a in
    let e = find_from_yields_List f _ _ c.find.result c.find.ensures.ran (YieldsList-from_slice is cc) (λ x b q k. search (rules, tests)) in
    read c.find.result _ c.map_or.result c.map_or.ensures (λ y k. search (rules, tests))
    ∙ ap (λ o. (unwrap_or o no_interface).id) e
    ∙ ap (λ (x : Interface). x.id) (find_is f no_interface is 4 c.told-interfaces)
