-- The few things that steps do to a host: opening and exit apart, every step's host is one of these, or two in a row
use Rattle.std.specs.Prelude.{ℕ, List, set}
use Rattle.state.specs.declared.Socket.{Socket}
use Rattle.state.specs.declared.Thread.{Thread}
use Rattle.queues.specs.declared.Queues.{Queues}
use Rattle.outqueue.specs.declared.OutQueue.{OutQueue}
use Rattle.host.specs.declared.Host.{Host}

-- other sockets
abbrev pub with_sockets : Host → List Socket → Host
with_sockets h ks = record { interfaces = h.interfaces; sockets = ks; queues = h.queues; out = h.out; thread = h.thread; icount = h.icount }

-- s as socket k
unfoldable pub with_socket : Host → ℕ → Socket → Host
with_socket h k s = with_sockets h (set h.sockets k s)

unfoldable pub with_queues : Host → Queues → Host
with_queues h q = record { interfaces = h.interfaces; sockets = h.sockets; queues = q; out = h.out; thread = h.thread; icount = h.icount }

unfoldable pub with_out : Host → OutQueue → Host
with_out h o = record { interfaces = h.interfaces; sockets = h.sockets; queues = h.queues; out = o; thread = h.thread; icount = h.icount }

unfoldable pub with_thread : Host → Thread → Host
with_thread h t = record { interfaces = h.interfaces; sockets = h.sockets; queues = h.queues; out = h.out; thread = t; icount = h.icount }
