use Rattle.std.proofs.Common.{rules, tests, ◌≡◌, ◌∙◌, ℕ, length}
use lib.Dec.{ltb}
use Rattle.std.proofs.lemmas.Iterator.{YieldsList-from_slice}
use Rattle.std.proofs.lemmas.Iterator.Consumers.{YieldsList-from_enumerate}
use Rattle.std.proofs.lemmas.Iterator.Search.{all_from_yields_List}
use Rattle.laws.specs.Below.{all_below}
use Rattle.state.specs.declared.OutItem.{OutItem}
use Rattle.state.specs.Places.{no_item}
use Rattle.state.proofs.Lists.{all_numbered}
use Rattle.outqueue.specs.Moves.{item_at}
use Rattle.outqueue.specs.Fits.{item_fits, out_ok}
use Rattle.outqueue.proofs.OutQueue.are_items.Goals as goal

pub returns-then-n-le16 : goal.returns-then-n-le16
unfolding out_ok
returns-then-n-le16 c =
    let items = c.args.self.now.items in
    let f = λ (p : ℕ × OutItem). item_fits c.args.interfaces.now (ltb p.0 c.args.self.now.count) p.1 in
    let size : length items ≡ 16 = search rules in
    let e : c.all.result ≡ all_below (λ i. f (i, item_at c.args.self.now i)) 16 =
    all_from_yields_List f _ _ _ c.all.ensures.ran (YieldsList-from_enumerate (YieldsList-from_slice items cc) cc) (λ x b q k. search (rules, tests)) ∙ all_numbered f no_item items 16 size in
    rw e (search (rules, tests))

pub returns-else-n-le16 : goal.returns-else-n-le16
unfolding out_ok
returns-else-n-le16 c = search (rules, tests)
