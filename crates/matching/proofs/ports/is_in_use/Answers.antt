use Rattle.std.proofs.Common.{rules, ◌∙◌, ℕ, not, eqb, ◌&&◌}
use Rattle.std.proofs.lemmas.Iterator.{YieldsList-from_slice}
use Rattle.std.proofs.lemmas.Iterator.Consumers.{YieldsList-from_enumerate}
use Rattle.std.proofs.lemmas.Iterator.Search.{any_from_yields_List}
use borrow.Author.Tests.{tests}
use Rattle.laws.proofs.Tests.{not_and}
use Rattle.laws.proofs.Below.{any_is}
use Rattle.state.specs.declared.Socket.{Socket}
use Rattle.state.specs.Places.{no_socket}
use Rattle.matching.specs.Ports.{takes, in_use}
use Rattle.matching.proofs.ports.is_in_use.Goals as goal

pub returns : goal.returns
unfolding in_use
returns c =
    any_from_yields_List (λ (q : ℕ × Socket). not (eqb q.0 c.args.k) && takes q.1 c.args.reuse c.args.a c.args.p.0) _ _ _ c.any.ensures.ran
    (YieldsList-from_enumerate (YieldsList-from_slice c.args.sockets.now cc) c.enumerate.ensures.count)
    (λ x b q k. search (rules, tests))
    ∙ any_is (λ (j : ℕ) (s : Socket). not (eqb j c.args.k) && takes s c.args.reuse c.args.a c.args.p.0) _ no_socket c.args.sockets.now 16 c.told-sockets (λ j l. not_and (eqb j c.args.k) _)
