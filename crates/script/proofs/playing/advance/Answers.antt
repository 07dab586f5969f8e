use Rattle.script.proofs.playing.advance.Goals as goal
use native.Mathlib.Omega.{arith}
use Prim.Native.Nat.{◌+◌}
use Rattle.script.proofs.Turns.{payload_is, turned_line, turned_bad}

pub returns-in_default : goal.returns-in_default
returns-in_default c =
    turned_bad c.args.n c.args.host c.args.input.now c.args.memory.now.store c.args.memory.now.buffer c.fields_at-f.ensures
    (payload_is (c.args.n + 1) c.fields_at-f.result.len _ (omega arith) c.fill.ensures.after) (rw c.in_default.is at c.make.ensures) c.put_closing.ensures

pub returns : goal.returns
returns c =
    turned_line c.args.n c.args.host c.args.input.now c.args.memory.now.store c.args.memory.now.buffer c.fields_at-f.ensures
    (payload_is (c.args.n + 1) c.fields_at-f.result.len _ (omega arith) c.fill.ensures.after) (rw c.in-Some.is at c.make.ensures) c.put_line.ensures
