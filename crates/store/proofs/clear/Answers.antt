use Rattle.std.proofs.Common.{rules}
use native.Mathlib.Omega.{arith}
use Rattle.laws.proofs.Splice.{filled_is}
use Rattle.store.proofs.clear.Goals as goal

pub returns : goal.returns
returns c = filled_is _ _ _ (c.fill.ensures.after (λ y e. e)) (omega arith) (search rules)
