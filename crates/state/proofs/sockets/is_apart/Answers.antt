use Rattle.std.proofs.Common.{Bool, not, take, rules, tests, arith, sym, ap, ◌∙◌}
use Rattle.laws.specs.Below.{all_below}
use Rattle.state.specs.declared.Socket.{Socket}
use Rattle.state.specs.Places.{socket_in, no_socket}
use Rattle.state.specs.Sockets.{compatible, earlier}
use Rattle.state.proofs.Lists.{slice_all, all_before}
use Rattle.state.proofs.sockets.is_apart.Goals as goal

pub returns-else-eq : goal.returns-else-eq
returns-else-eq c =
    let ks = c.args.sockets.now in
    let k = c.args.k in
    let f = λ (t : Socket). compatible t (socket_in ks k) in
    slice_all f (take k ks) _ _ _ c.all.ensures.ran (cc) (λ y b q e. search (rules, tests))
    ∙ all_before f no_socket ks k (omega arith)
    ∙ sym (ap (λ (b : Bool). all_below (λ j. f (socket_in ks j)) (earlier (not b) k)) (sym c.eq.ensures ∙ c.if-eq.false))
