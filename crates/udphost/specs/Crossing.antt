-- The record as C has it: the host's, with the thread as two numbers
use Rattle.std.specs.Prelude.{ℕ, Bool, ◌&&◌, ◌||◌, cond, eqb, ltb, Option, Some, None, Result, Ok, Err}
use Rattle.answers.specs.declared.Refusal.{Refusal}
use Rattle.answers.specs.declared.Refusal.TheVariants.{NotWellFormed}
use Rattle.state.specs.declared.Thread.{Thread}
use Rattle.state.specs.declared.Thread.TheVariants.{Running, Waiting, Ended}
use Rattle.host.specs.declared.Host.{Host}
use Rattle.udphost.specs.declared.Record.{Record}

-- 0 running, 1 waiting on the second number, 2 ended; the second is 0 where nothing is awaited
abbrev pub thread_known : ℕ → ℕ → Bool
thread_known n d = eqb n 1 || (ltb n 3 && eqb d 0)

abbrev pub thread_of : ℕ → ℕ → Thread
thread_of n d = cond (eqb n 0) Running (cond (eqb n 1) (Waiting (record { 0 = d })) Ended)

-- nothing for two numbers that no thread has
abbrev pub known_thread : ℕ → ℕ → Option Thread
known_thread n d = cond (thread_known n d) (Some (thread_of n d)) None

abbrev pub thread_number : Thread → ℕ
thread_number Running = 0
thread_number (Waiting d) = 1
thread_number Ended = 2

abbrev pub thread_awaited : Thread → ℕ
thread_awaited Running = 0
thread_awaited (Waiting d) = d.0
thread_awaited Ended = 0

abbrev pub host_of : Record → Host
host_of r = record { interfaces = r.interfaces; sockets = r.sockets; queues = r.queues; out = r.out; thread = thread_of r.thread r.awaited; icount = r.icount }

abbrev pub record_of : Host → Record
record_of h =
    record { interfaces = h.interfaces; sockets = h.sockets; queues = h.queues; out = h.out; icount = h.icount; thread = thread_number h.thread; awaited = thread_awaited h.thread }

-- the host of a record; 1 where its thread's numbers are none
abbrev pub known_host : Record → Result Host Refusal
known_host r = cond (thread_known r.thread r.awaited) (Ok (host_of r)) (Err NotWellFormed)
