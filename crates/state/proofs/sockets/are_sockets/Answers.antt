use Rattle.std.proofs.Common.{rules, tests, ◌∙◌}
use Rattle.laws.proofs.Below.{all_is}
use Rattle.state.specs.Places.{no_socket}
use Rattle.state.specs.Sockets.{socket_ok, sockets_ok}
use Rattle.state.proofs.Lists.{slice_all}
use Rattle.state.proofs.sockets.are_sockets.Goals as goal

pub returns : goal.returns
unfolding sockets_ok
returns c =
    let f = socket_ok c.args.interfaces.now in
    slice_all f c.args.sockets.now _ _ _ c.all.ensures.ran (cc) (λ y b q k. search (rules, tests)) ∙ all_is f no_socket c.args.sockets.now 16 c.told-sockets
