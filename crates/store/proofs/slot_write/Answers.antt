use Rattle.std.proofs.Common.{rules}
use mathlib.Core.Path.{refl}
use native.Mathlib.Omega.{arith}
use Rattle.laws.proofs.Splice.{copied_is, splice_then}
use Rattle.store.proofs.slot_write.Goals as goal

pub returns : goal.returns
returns c = splice_then _ _ _ _ (search rules) (copied_is _ _ c.copy_from_slice.ensures.after (omega arith)) refl c.clear.ensures
