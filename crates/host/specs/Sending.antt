-- sendto
use Rattle.std.specs.Prelude.{ℕ, ◌+◌, ◌*◌, List, [], ◌∷◌, Bool, ◌&&◌, ◌||◌, not, cond, ltb, eqb, length}
use Rattle.net.specs.declared.Flow.{Flow}
use Rattle.net.specs.declared.Port.{Port}
use Rattle.state.specs.declared.Socket.{Socket}
use Rattle.store.specs.Store.{slot_written}
use Rattle.binding.specs.Sockets.{with_local, port_for}
use Rattle.outqueue.specs.Moves.{with_item, datagram_of}
use Rattle.host.specs.declared.Host.{Host}
use Rattle.host.specs.Form.{socket_at}
use Rattle.answers.specs.Answers.{plain}
use Rattle.host.specs.Answers.{Outcome, gives, unless}
use Rattle.host.specs.Moves.{with_socket, with_out}
use Rattle.answers.specs.Tables.{first}
use Rattle.host.specs.Naming.{call_refusal, source_for}
use Rattle.host.specs.Options.{without_error}

-- exactly one of address and port is 0
abbrev pub half_given : ℕ → ℕ → Bool
half_given a p = (eqb a 0 && not (eqb p 0)) || (not (eqb a 0) && eqb p 0)

-- with both 0 the remote pair is meant
abbrev pub both_absent : ℕ → ℕ → Bool
both_absent a p = eqb a 0 && eqb p 0

abbrev pub target : Socket → ℕ → Port → ℕ
target s a p = cond (both_absent a p.0) s.raddr a

abbrev pub target_port : Socket → ℕ → Port → Port
target_port s a p = cond (both_absent a p.0) s.rport p

-- the local port, autobound if there is none
abbrev pub port_of : Host → ℕ → Port
port_of h k = port_for h.sockets (socket_at h k).lport

-- the socket with that port; its local address stays absent
abbrev pub autobound : Host → ℕ → Host
autobound h k = with_socket h k (with_local (socket_at h k) (socket_at h k).laddr (port_of h k))

-- 11 is 000's sendto.6, 12 is sendto.4 and 14 is sendto.3, without their autobind; 6 and 13 are document 01's own; sendto.2 is left out, sendto.7 cannot be
abbrev pub send_rows : Host → ℕ → ℕ → Port → ℕ → List (Bool × ℕ)
send_rows h k a p len =
    (half_given a p.0, 6) ∷
    (ltb 512 len, 11) ∷
    (both_absent a p.0 && (eqb (socket_at h k).raddr 0 || eqb (socket_at h k).rport.0 0), 12) ∷
    (eqb (source_for h (socket_at h k) (target (socket_at h k) a p)) 0, 13) ∷
    (eqb h.out.count 16, 14) ∷ []

-- the source is the local address, or the route's source where that is absent
abbrev pub flow_of : Host → ℕ → ℕ → Port → Flow
flow_of h k a p = record { src = source_for h (socket_at h k) (target (socket_at h k) a p); dst = target (socket_at h k) a p; sport = port_of h k; dport = target_port (socket_at h k) a p }

-- of an open socket with no error pending (000, sendto.1): autobind if needed, and queue it
unfoldable pub queued_out : Host → List ℕ → ℕ → ℕ → Port → List ℕ → Outcome
queued_out h s k a p payload =
    unless (first (send_rows h k a p (length payload))) h s []
    (gives (with_out (autobound h k) (with_item h.out (datagram_of (flow_of h k a p) (length payload)))) (plain 0) (slot_written s (32768 + 512 * h.out.count) payload) [])

-- 10 first of its own (000, sendto.5)
unfoldable pub sent : Host → List ℕ → ℕ → ℕ → Port → List ℕ → Outcome
sent h s k a p payload =
    unless (call_refusal h (length s) k) h s []
    (cond (eqb (socket_at h k).error 0) (queued_out h s k a p payload) (gives (without_error h k) (plain 10) s []))
