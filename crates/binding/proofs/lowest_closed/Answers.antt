use Rattle.std.proofs.Common.{rules, ◌∙◌, ap}
use Rattle.std.proofs.lemmas.Iterator.{YieldsList-from_slice}
use Rattle.std.proofs.lemmas.Iterator.Search.{position_from_yields_List}
use borrow.Author.Tests.{tests}
use Rattle.laws.proofs.Below.{position_is}
use Rattle.state.specs.Places.{no_socket}
use Rattle.binding.specs.Sockets.{closed_at, lowest_closed, below_16}
use Rattle.binding.proofs.lowest_closed.Goals as goal

pub returns-clause-lowest : goal.returns-clause-lowest
unfolding lowest_closed
returns-clause-lowest c =
    let p = position_is closed_at no_socket c.args.sockets.now 16 c.told-sockets in
    rw c.told-sockets at (position_from_yields_List closed_at _ _ _ c.position.ensures.ran (YieldsList-from_slice c.args.sockets.now cc) (λ x b q k. search (rules, tests)))
    ∙ ap below_16 p
