use Rattle.std.proofs.Common.{rules, tests, ◌∙◌, ℕ}
use Rattle.std.proofs.lemmas.Iterator.{YieldsList-from_slice}
use Rattle.std.proofs.lemmas.Iterator.Consumers.{YieldsList-from_enumerate}
use Rattle.std.proofs.lemmas.Iterator.Search.{all_from_yields_List}
use Rattle.state.specs.declared.Socket.{Socket}
use Rattle.state.specs.Places.{no_socket}
use Rattle.state.proofs.Lists.{all_numbered}
use Rattle.queues.specs.Fits.{queue_ok, queues_ok}
use Rattle.queues.proofs.Queues.are_queues.Goals as goal

pub returns : goal.returns
unfolding queues_ok
returns c =
    let f = λ (p : ℕ × Socket). queue_ok p.1.live c.args.self.now p.0 in
    all_from_yields_List f _ _ _ c.all.ensures.ran (YieldsList-from_enumerate (YieldsList-from_slice c.args.sockets.now cc) cc) (λ x b q k. search (rules, tests))
    ∙ all_numbered f no_socket c.args.sockets.now 16 c.told-sockets
