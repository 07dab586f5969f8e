-- Arriving datagrams and arriving notices: document 01, "Who gets a datagram"
use Rattle.std.specs.Prelude.{ℕ, List, [], ◌∷◌, ◌++◌, Bool, ◌||◌, not, cond, ltb, eqb, length}
use Rattle.net.specs.Address.{stray}
use Rattle.net.specs.declared.Flow.{Flow}
use Rattle.state.specs.Interfaces.{own, holder_id}
use Rattle.binding.specs.Sockets.{with_error}
use Rattle.queues.specs.declared.Queues.{Queues}
use Rattle.outqueue.specs.declared.OutQueue.{OutQueue}
use Rattle.delivery.specs.Landing.{Landed, arriving}
use Rattle.delivery.specs.Hearing.{hearing}
use Rattle.host.specs.declared.Host.{Host}
use Rattle.host.specs.declared.Stepped.{Stepped}
use Rattle.host.specs.Form.{socket_at}
use Rattle.answers.specs.Answers.{plain, told}
use Rattle.host.specs.Answers.{Outcome, outcome, unless, unchanged}
use Rattle.host.specs.Moves.{with_socket, with_queues, with_out}
use Rattle.answers.specs.Tables.{first}
use Rattle.host.specs.Tables.{ready_rows}

-- ---- a datagram

-- 24 destination isn't a configured address (127/8 counts as not ours here); 25 source martian or loopback (000, delivery.in.martian.3); 26 payload over 512
abbrev pub datagram_rows : Host → ℕ → Flow → ℕ → List (Bool × ℕ)
datagram_rows h room f len = ready_rows h room ++ ((not (own h.interfaces f.dst), 24) ∷ (stray f.src, 25) ∷ (ltb 512 len, 26) ∷ [])

-- what became of a datagram, in the host that it came to: 20 and 21 with descriptor, 22, 23
abbrev pub landed_step : Host → Queues → OutQueue → ℕ → ℕ → Stepped
landed_step h q o n k = record { host = with_out (with_queues h q) o; answer = told n k }

abbrev pub landed_in : Host → Landed → List ℕ → Outcome
landed_in h l b = outcome (landed_step h l.queues l.out l.number l.at) l.bytes b

-- on the interface that has the destination (000, delivery.in.udp.1 and delivery.in.udp.2; its notices are certain here)
unfoldable pub arrived : Host → List ℕ → Flow → List ℕ → Outcome
arrived h s f p =
    unless (first (datagram_rows h (length s) f (length p))) h s []
    (landed_in h (arriving h.sockets h.queues h.out s f (holder_id h.interfaces f.dst) p) [])

-- ---- a notice, PORT or HOST alike

-- 24 by the outer destination; 25 if any of its four addresses is martian or loopback (000, delivery.in.martian.3)
abbrev pub notice_rows : Host → ℕ → ℕ → ℕ → Flow → List (Bool × ℕ)
notice_rows h room src dst f = ready_rows h room ++ ((not (own h.interfaces dst), 24) ∷ (stray src || stray dst || stray f.src || stray f.dst, 25) ∷ [])

-- 27: pending error becomes 10; 28, 29: nothing changes (000, delivery.in.icmp.1 and delivery.in.icmp.2)
unfoldable pub heard_step : Host → Flow → Stepped
heard_step h f =
    cond (eqb (hearing h.sockets f).number 27)
    (record { host = with_socket h (hearing h.sockets f).at (with_error (socket_at h (hearing h.sockets f).at) 10); answer = plain 27 })
    (unchanged h (hearing h.sockets f).number)

-- from src to dst, embedding the flow f
unfoldable pub noticed : Host → List ℕ → ℕ → ℕ → Flow → Outcome
noticed h s src dst f = unless (first (notice_rows h (length s) src dst f)) h s [] (outcome (heard_step h f) s [])
