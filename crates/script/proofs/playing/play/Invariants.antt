use Rattle.std.proofs.Common.{Some}
use Rattle.script.specs.Playing.{played, starting, At}
use Rattle.script.proofs.playing.play.Given as goal

abbrev pub invariant-loop-n : goal.invariant-loop-n
invariant-loop-n l = At (played l.input (starting l.fn.start l.fn.memory.store l.fn.memory.buffer) l.n) (Some l.host) l.memory l.fn.page l.page
