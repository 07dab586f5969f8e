use Rattle.std.proofs.Common.{◌+◌, ◌*◌, ◌-◌, ◌∙◌}
use native.Mathlib.Omega.{arith}
use Rattle.laws.proofs.Splice.{moved_is, splice_then, length_part}
use Rattle.store.proofs.slots_pop.Goals as goal

pub returns : goal.returns
returns c =
    let a = c.args in
    let size = length_part a.store.now (a.base + 512) ((a.count - 1) * 512) (omega arith) in
    splice_then _ _ _ _ (omega (arith, size))
    (c.copy_within.ensures.after ∙ moved_is _ _ _ _ (omega arith) (omega arith)) (omega (arith, size)) c.clear.ensures
