use Rattle.std.proofs.Common.{rules, ◌∙◌}
use mathlib.Core.Path.{refl}
use native.Mathlib.Omega.{arith}
use Rattle.laws.proofs.Splice.{moved_is}
use Rattle.store.proofs.Slots.{copied}
use Rattle.store.proofs.slot_copy.Goals as goal

pub returns : goal.returns
returns c =
    copied _ _ _ _ (search rules) (search rules)
    (c.copy_within.ensures.after ∙ moved_is _ _ _ _ (omega arith) (omega arith)) refl c.clear.ensures
