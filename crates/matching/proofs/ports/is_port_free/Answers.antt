use Rattle.std.proofs.Common.{rules, ◌∙◌}
use Rattle.std.proofs.lemmas.Iterator.{YieldsList-from_slice}
use Rattle.std.proofs.lemmas.Iterator.Search.{all_from_yields_List}
use borrow.Author.Tests.{tests}
use Rattle.laws.proofs.Below.{all_is}
use Rattle.state.specs.Places.{no_socket}
use Rattle.matching.specs.Ports.{lacks_port, port_free}
use Rattle.matching.proofs.ports.is_port_free.Goals as goal

pub returns : goal.returns
unfolding port_free
returns c =
    all_from_yields_List (λ s. lacks_port s c.args.p.0) _ _ _ c.all.ensures.ran (YieldsList-from_slice c.args.sockets.now cc) (λ x b q k. search (rules, tests))
    ∙ all_is (λ s. lacks_port s c.args.p.0) no_socket c.args.sockets.now 16 c.told-sockets
