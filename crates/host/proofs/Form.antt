-- `well_formed h` is true exactly where `WellFormed h` holds.
-- Assumes nothing.
use mathlib.Core.Logic.{◌≢◌}
use Prim.Native.Nat.{ℕ, ◌<◌}
use Rattle.laws.specs.Decides.{Decides}
use Rattle.laws.proofs.Decide.{d_and, d_then, d_to}
use Rattle.state.specs.Plain.{Opened, SocketFit, Apart, Awaited}
use Rattle.state.proofs.Opened.{opened_is}
use Rattle.state.proofs.Fits.{sockets_are, apart_are, thread_is}
use Rattle.queues.specs.Fits.{QueueFit}
use Rattle.queues.proofs.Fits.{queues_are}
use Rattle.outqueue.specs.Fits.{OutFit}
use Rattle.outqueue.proofs.Fits.{out_is}
use Rattle.host.specs.declared.Host.{Host}
use Rattle.host.specs.Form.{well_formed, socket_at, WellFormed}

-- the same by parts: what the steps' laws speak of
pub record Parts (h : Host) : Type 0 where
  pub opened : Opened h.interfaces h.icount
  pub sockets : (k : ℕ) → k < 16 → SocketFit h.interfaces (socket_at h k)
  pub apart : (j k : ℕ) → j < 16 → k < 16 → j ≢ k → Apart (socket_at h j) (socket_at h k)
  pub queues : (k : ℕ) → k < 16 → QueueFit (socket_at h k).live h.queues k
  pub out : OutFit h.interfaces h.out
  pub awaited : Awaited h.sockets h.thread

pub parts_is : (h : Host) → Decides (well_formed h) (Parts h)
unfolding well_formed
parts_is h =
    d_to
    (d_and (d_and (d_and (d_then (d_and (opened_is h.interfaces h.icount) (sockets_are h.interfaces h.sockets)) (λ p. apart_are h.interfaces h.sockets p.1))
    (queues_are h.sockets h.queues)) (out_is h.interfaces h.out)) (thread_is h.sockets h.thread))
    (λ p. record { opened = p.0.0.0.0.0; sockets = p.0.0.0.0.1; apart = p.0.0.0.1; queues = p.0.0.1; out = p.0.1; awaited = p.1 })
    (λ w. (((((w.opened, w.sockets), w.apart), w.queues), w.out), w.awaited))

pub from_parts : {h : Host} → Parts h → WellFormed h
from_parts p =
    record {
      opened = p.opened;
      counts = λ k l. (p.queues k l).few;
      outcount = p.out.few;
      closed = λ k l. (p.sockets k l).closed;
      drained = λ k l. (p.queues k l).closed;
      heads = λ k i l. (p.queues k l).unused i;
      items = p.out.unused;
      notices = λ i l. (p.out.items i l).bare;
      chained = λ k l. (p.sockets k l).chain;
      local = λ k l. (p.sockets k l).local;
      errors = λ k l. (p.sockets k l).error;
      apart = p.apart;
      queued = λ k i l. (p.queues k l).small i;
      sent = λ i l. (p.out.items i l).small;
      kinds = λ i l. (p.out.items i l).kind;
      sources = λ i l. (p.out.items i l).source;
      awaited = p.awaited;
    }

pub to_parts : {h : Host} → WellFormed h → Parts h
to_parts w =
    record {
      opened = w.opened;
      sockets = λ k l. record { closed = w.closed k l; chain = w.chained k l; local = w.local k l; error = w.errors k l };
      apart = w.apart;
      queues = λ k l. record { few = w.counts k l; closed = w.drained k l; small = λ i m. w.queued k i l m; unused = λ i m n. w.heads k i l m n };
      out = record { few = w.outcount; items = λ i l. record { kind = w.kinds i l; small = w.sent i l; bare = w.notices i l; source = w.sources i l }; unused = w.items };
      awaited = w.awaited;
    }

-- the theorem
pub formed_is : (h : Host) → Decides (well_formed h) (WellFormed h)
formed_is h = d_to (parts_is h) from_parts to_parts
