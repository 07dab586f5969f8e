use Rattle.std.proofs.Common.{rules}
use Rattle.script.proofs.whole.run.Goals as goal
use mathlib.Core.Path.{refl}
use Rattle.laws.specs.Places.{copies}
use Rattle.script.proofs.Ending.{no_room, in_memory_page, end_small}

pub returns-then-out-lt-LONGEST-clause-out_after : goal.returns-then-out-lt-LONGEST-clause-out_after
returns-then-out-lt-LONGEST-clause-out_after c = no_room c.args.input.now c.args.out.now c.if-out-lt-LONGEST.true

pub returns-clause-out_after : goal.returns-clause-out_after
unfolding copies
returns-clause-out_after c = in_memory_page c.args.input.now c.args.out.now c.if-out-lt-LONGEST.false refl refl refl refl c.print.ensures (search rules)

pub returns-clause-upper_bound : goal.returns-clause-upper_bound
returns-clause-upper_bound c = end_small c.args.input.now _ _ refl c.print.ensures
