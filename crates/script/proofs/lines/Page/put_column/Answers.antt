use Rattle.script.proofs.lines.Page.put_column.Goals as goal
use native.Mathlib.Omega.{arith}
use Rattle.script.proofs.Text.{put_then}

pub returns-in-Some : goal.returns-in-Some
returns-in-Some c = rw c.in-Some.is (put_then c.put.ensures c.put_number.ensures (omega (arith, c.requires.room)))

pub returns-in-None : goal.returns-in-None
returns-in-None c = rw c.in-None.is (put_then c.put.ensures c.put-in-None.ensures (omega (arith, c.requires.room)))
