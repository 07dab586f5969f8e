use Rattle.std.proofs.Common.{◌≡◌, ℕ, refl, arith}
use Rattle.answers.specs.Tables.{first}
use Rattle.host.specs.Tables.{call_rows}
use Rattle.host.proofs.Host.call.Goals as goal
use Rattle.host.proofs.Passed.{called}

pub returns-clause-passed : goal.returns-clause-passed
returns-clause-passed c =
    let e : ◌≡◌ {A = ℕ} 0 (first (call_rows c.args.self.now c.args.room c.args.k)) = grind arith in
    (called _ _ _ 0 e refl).0
