-- A sound host stays sound under each of the few things that steps do to it.
-- Assumes nothing.
use mathlib.Core.Path.{◌≡◌, ap}
use mathlib.Core.List.{List}
use mathlib.Core.Logic.{◌≢◌, ⊎_elim}
use mathlib.Core.Bool.{true, false≢true}
use Prim.Native.Nat.{ℕ, ◌<◌}
use native.Mathlib.Omega.{arith}
use lib.ListN.{set}
use Rattle.std.proofs.lemmas.Bool.{cases_eq}
use Rattle.net.specs.declared.Descriptor.{Descriptor}
use Rattle.state.specs.declared.Socket.{Socket}
use Rattle.state.specs.declared.Thread.{Thread}
use Rattle.state.specs.declared.Thread.TheVariants.{Running, Waiting}
use Rattle.state.specs.Places.{socket_in}
use Rattle.state.specs.Threads.{waiting}
use Rattle.state.specs.Plain.{Awaited}
use Rattle.state.proofs.Places.{socket_there, socket_else}
use Rattle.binding.proofs.Stands.{Fitting, Stands, stands_keeps}
use Rattle.queues.specs.declared.Queues.{Queues}
use Rattle.queues.specs.Fits.{QueueFit}
use Rattle.queues.specs.Held as queues
use Rattle.outqueue.specs.declared.OutQueue.{OutQueue}
use Rattle.outqueue.specs.Fits.{OutFit}
use Rattle.outqueue.specs.Held as out
use Rattle.host.specs.declared.Host.{Host}
use Rattle.host.specs.Form.{socket_at}
use Rattle.host.specs.Moves.{with_socket, with_queues, with_out, with_thread}
use Rattle.host.proofs.Form.{Parts, from_parts, to_parts}
use Rattle.history.specs.Sound.{Sound}

module _ {h : Host} (g : Sound h) where
  abbrev pub parts : Parts h
  parts = to_parts g.formed

  pub fitting : Fitting h.interfaces h.sockets
  fitting = record { sized = g.sockets; fit = parts.sockets; apart = parts.apart }

  -- a socket that may stand there, with its queue, and still bound where it is waited on
  pub socket_kept : {k : ℕ} {s : Socket} → k < 16 → Stands h.interfaces h.sockets k s → QueueFit s.live h.queues k
      → ((d : Descriptor) → h.thread ≡ Waiting d → d.0 ≡ k → (s.live ≡ true) × (s.lport.0 ≢ 0)) → Sound (with_socket h k s)
  unfolding with_socket
  socket_kept {k} {s} hk w f b =
      let t = stands_keeps fitting hk w in
      record {
        sockets = t.sized;
        queues = g.queues;
        out = g.out;
        formed =
            from_parts
            (record {
              opened = parts.opened;
              sockets = t.fit;
              apart = t.apart;
              queues = queue;
              out = parts.out;
              awaited = await;
            });
      }
    where
      there : socket_in (set h.sockets k s) k ≡ s
      there = socket_there h.sockets k s (omega (arith, g.sockets))

      queue : (l : ℕ) → l < 16 → QueueFit (socket_in (set h.sockets k s) l).live h.queues l
      queue l hl = ⊎_elim (λ (e : l ≡ k). rw (e, there) f) (λ (d : l ≢ k). rw (socket_else h.sockets k s l d) (parts.queues l hl)) (cases_eq l k)

      await : Awaited (set h.sockets k s) h.thread
      await d e =
          let old = parts.awaited d e in
          ⊎_elim
          (λ (x : d.0 ≡ k). let y = b d e x in record { small = old.small; live = rw (x, there) y.0; port = rw (x, there) y.1 })
          (λ (x : d.0 ≢ k). record { small = old.small; live = rw (socket_else h.sockets k s d.0 x) old.live; port = rw (socket_else h.sockets k s d.0 x) old.port })
          (cases_eq d.0 k)

  pub thread_kept : {t : Thread} → Awaited h.sockets t → Sound (with_thread h t)
  unfolding with_thread
  thread_kept a =
      record {
        sockets = g.sockets;
        queues = g.queues;
        out = g.out;
        formed = from_parts (record { opened = parts.opened; sockets = parts.sockets; apart = parts.apart; queues = parts.queues; out = parts.out; awaited = a });
      }

  pub queues_kept : {q : Queues} → queues.Sized q → ((k : ℕ) → k < 16 → QueueFit (socket_at h k).live q k) → Sound (with_queues h q)
  unfolding with_queues
  queues_kept z f =
      record {
        sockets = g.sockets;
        queues = z;
        out = g.out;
        formed = from_parts (record { opened = parts.opened; sockets = parts.sockets; apart = parts.apart; queues = f; out = parts.out; awaited = parts.awaited });
      }

  pub out_kept : {o : OutQueue} → out.Sized o → OutFit h.interfaces o → Sound (with_out h o)
  unfolding with_out
  out_kept z f =
      record {
        sockets = g.sockets;
        queues = g.queues;
        out = z;
        formed = from_parts (record { opened = parts.opened; sockets = parts.sockets; apart = parts.apart; queues = parts.queues; out = f; awaited = parts.awaited });
      }

-- a thread that runs or has ended waits on nobody
pub nobody_awaited : (ks : List Socket) → Awaited ks Running
nobody_awaited ks d e = absurd (false≢true (ap waiting e))
