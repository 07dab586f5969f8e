use Rattle.std.proofs.Common.{rules}
use native.Mathlib.Omega.{arith}
use Rattle.laws.proofs.Splice.{front_is, part_is, length_part}
use Rattle.store.proofs.slot_read.Goals as goal

pub returns : goal.returns
returns c = front_is _ (part_is c.args.store.now c.args.at c.copy_from_slice.ensures.after (omega arith)) (length_part _ _ _ (search rules))
