use Rattle.script.proofs.whole.print.Goals as goal
use Rattle.script.proofs.whole.print.Goals.{else-is_some-via-then-is_some+else-is_left_over, else-is_some-via-else-is_some}
use Rattle.std.proofs.Common.{length, is_some}
use native.Mathlib.Omega.{arith}
use mathlib.Core.Path.{sym, ◌∙◌}
use Rattle.script.specs.Playing.{starting}
use Rattle.script.proofs.Plays.{text_small}
use Rattle.script.proofs.Ending.{bad_header_put, bad_interface_put, plain_end, short_end, left_over_going}

pub returns-then-not-is_headed : goal.returns-then-not-is_headed
returns-then-not-is_headed c = bad_header_put c.args.input.now c.args.memory.now.store c.args.memory.now.buffer (sym c.is_headed.ensures ∙ c.if-not-is_headed.true) c.put.ensures

pub returns-then-opened : goal.returns-then-opened
returns-then-opened c = bad_interface_put c.args.input.now c.args.memory.now.store c.args.memory.now.buffer (sym c.is_headed.ensures ∙ c.if-not-is_headed.false) c.interfaces_in.ensures c.opening-opened.ensures c.if-opened.true c.put-then-opened.ensures

pub put_closing-requires-clause-room : goal.put_closing-requires-clause-room
put_closing-requires-clause-room c =
    let b = text_small c.args.input.now (starting c.opening-opened.result.host c.opening-opened.new.store c.args.memory.now.buffer) c.steps_in-m.result in
    omega arith

pub returns-then-is_left_over : goal.returns-then-is_left_over
returns-then-is_left_over c =
    let b = text_small c.args.input.now (starting c.opening-opened.result.host c.opening-opened.new.store c.args.memory.now.buffer) c.steps_in-m.result in
    short_end c.args.input.now c.args.memory.now.store c.args.memory.now.buffer (sym c.is_headed.ensures ∙ c.if-not-is_headed.false) c.interfaces_in.ensures c.opening-opened.ensures c.if-opened.false c.steps_in-m.ensures.count c.play-played.ensures (omega arith) (left_over_going (length c.args.input.now) (is_some c.play-played.result) ∙ rw (← c.is_some.ensures, ← c.is_left_over.ensures, c.if-is_some.true, c.if-is_left_over.true)) c.put_closing.ensures

pub returns-else-is_some : goal.returns-else-is_some
returns-else-is_some c =
    plain_end c.args.input.now c.args.memory.now.store c.args.memory.now.buffer (sym c.is_headed.ensures ∙ c.if-not-is_headed.false) c.interfaces_in.ensures c.opening-opened.ensures c.if-opened.false c.steps_in-m.ensures.count c.play-played.ensures
    (left_over_going (length c.args.input.now) (is_some c.play-played.result) ∙ rw (← c.is_some.ensures)
    (elim c.else-is_some.branch [
      | else-is_some-via-then-is_some+else-is_left_over w ↦ rw (w.if-is_some.true) (sym w.is_left_over.ensures ∙ w.if-is_left_over.false)
      | else-is_some-via-else-is_some w ↦ rw (w.if-is_some.false)
    ]))
