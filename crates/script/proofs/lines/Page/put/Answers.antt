use Rattle.script.proofs.lines.Page.put.Goals as goal
use mathlib.Core.Path.{refl, ap, ◌∙◌}
use native.Mathlib.Omega.{arith}
use Rattle.laws.specs.Places.{splice}
use Rattle.laws.proofs.Splice.{put_mid_is}
use Rattle.script.proofs.Text.{put_of}

pub returns : goal.returns
returns c = put_of c.requires (record { text = put_mid_is _ _ _ _ (omega arith) ∙ ap (splice _ _) c.copy_from_slice.ensures.after; end = refl }) refl
