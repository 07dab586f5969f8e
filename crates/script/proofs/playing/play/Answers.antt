use Rattle.script.proofs.playing.play.Goals as goal
use native.Mathlib.Omega.{arith}
use Rattle.script.specs.Playing.{starting}
use Rattle.script.proofs.Plays.{kept_start, kept_turn, kept_end, text_small}

pub loop-n-init : goal.loop-n-init
loop-n-init c = kept_start c.args.input.now c.args.start c.args.memory.now c.args.page.now

pub advance-requires : goal.advance-requires
advance-requires c =
    let b = text_small c.args.input.now (starting c.args.start c.args.memory.now.store c.args.memory.now.buffer) c.loop-n.n in
    record { few = omega arith; step = omega arith; room = omega arith }

pub returns-in_err-host : goal.returns-in_err-host
returns-in_err-host c =
    let b = text_small c.args.input.now (starting c.args.start c.args.memory.now.store c.args.memory.now.buffer) c.loop-n.n in
    rw c.from_residual.ensures (kept_end _ _ _ c.loop-n.n c.args.m c.loop-n-test.true (omega arith) c.loop-n.invariant (rw c.in_err-host.was at c.advance.ensures))

pub loop-n-preserved : goal.loop-n-preserved
loop-n-preserved c =
    let b = text_small c.args.input.now (starting c.args.start c.args.memory.now.store c.args.memory.now.buffer) c.loop-n.n in
    kept_turn _ _ _ c.loop-n.n (omega arith) c.loop-n.invariant (rw c.in_ok-host.was at c.advance.ensures)
