use Rattle.std.proofs.Common.{rules, ◌≡◌, ℕ}
use borrow.Author.Tests.{tests}
use Rattle.laws.specs.Below.{all_below}
use Rattle.laws.proofs.Below.{range_all}
use Rattle.queues.specs.Moves.{count_at, head_at}
use Rattle.queues.specs.Fits.{head_fits}
use Rattle.queues.proofs.Queues.is_queue.Goals as goal

pub returns-then-n-eq0 : goal.returns-then-n-eq0
returns-then-n-eq0 c =
    let f = λ (i : ℕ). head_fits (count_at c.args.self.now c.args.k) i (head_at c.args.self.now c.args.k i) in
    let e : c.all.result ≡ all_below f 4 =
    range_all f 4 _ _ c.all.result c.all.ensures.ran (cc) (λ x b q k. search (rules, tests)) in
    rw e (search (rules, tests))
