use Rattle.std.proofs.Common.{rules, ◌≡◌, ◌∙◌, ap, sym, true, false}
use Rattle.std.proofs.lemmas.Iterator.{first_from_Range}
use Rattle.std.specs.Option.{unwrap_or}
use Rattle.laws.proofs.Below.{lowest_found}
use Rattle.matching.specs.Ports.{port_free, auto_port}
use Rattle.matching.proofs.Free.{some_free}
use Rattle.matching.proofs.ports.autobind.Goals as goal

pub unwrap-requires : goal.unwrap-requires
unwrap-requires c =
    let ks = c.args.sockets.now in
    some_free ks c.find-p.result _
    (first_from_Range _ _ _ c.find-p.result (λ p. port_free ks p ≡ true) (λ p. port_free ks p ≡ false) c.find-p.ensures.ran (λ p q k. search rules) (λ p q k. search rules))

pub returns : goal.returns
unfolding auto_port
returns c =
    let ks = c.args.sockets.now in
    ap (λ r. unwrap_or r 5000) (sym c.unwrap.ensures)
    ∙ lowest_found (port_free ks) 3976 1024 c.find-p.result
    (first_from_Range _ _ _ c.find-p.result (λ p. port_free ks p ≡ true) (λ p. port_free ks p ≡ false) c.find-p.ensures.ran (λ p q k. search rules) (λ p q k. search rules))
