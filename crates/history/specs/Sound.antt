-- What every step keeps: the arrays have their lengths, and the record is well formed
use Rattle.std.specs.Prelude.{◌≡◌, length}
use Rattle.queues.specs.Held as queues
use Rattle.outqueue.specs.Held as out
use Rattle.host.specs.declared.Host.{Host}
use Rattle.host.specs.Form.{WellFormed}

pub record Sound (h : Host) : Type 0 where
  pub sockets : length h.sockets ≡ 16
  pub queues : queues.Sized h.queues
  pub out : out.Sized h.out
  pub formed : WellFormed h
