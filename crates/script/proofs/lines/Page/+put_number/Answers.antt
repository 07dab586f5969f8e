use Rattle.script.proofs.lines.Page.+put_number.Goals as goal
use Rattle.script.proofs.lines.Page.+put_number.Goals.{then-n-ge10, else-n-ge10}
use mathlib.Core.Path.{◌≡◌}
use Prim.Native.Nat.{◌%◌}
use native.Mathlib.Omega.{arith}
use Rattle.script.proofs.Text.{decimal_digit, decimal_step, decimal_grows, put_then}

pub returns : goal.returns
returns t c =
    elim c.if-n-ge10.branch [
      | then-n-ge10 w ↦ rw (decimal_step _ w.if-n-ge10.true c.requires.small) (put_then w.put_number.ensures (rw w.self-is at c.put.ensures) (omega (arith, decimal_grows _ w.if-n-ge10.true c.requires.small)))
      | else-n-ge10 w ↦ let e : c.args.n % 10 ≡ c.args.n = omega arith in rw (decimal_digit _ w.if-n-ge10.false, ← e, ← w.self-is) c.put.ensures
    ]
