-- socket, bind, connect, disconnect, getsockname, getpeername
use Rattle.std.specs.Prelude.{ℕ, List, [], ◌∷◌, ◌++◌, Bool, ◌&&◌, not, cond, ltb, eqb, length}
use Rattle.net.specs.declared.Port.{Port}
use Rattle.state.specs.declared.Socket.{Socket}
use Rattle.state.specs.Interfaces.{ours}
use Rattle.matching.specs.Ports.{in_use}
use Rattle.matching.specs.Routes.{route_source}
use Rattle.binding.specs.Sockets.{new_socket, lowest_closed, with_local, with_remote, port_for}
use Rattle.host.specs.declared.Host.{Host}
use Rattle.host.specs.Form.{socket_at}
use Rattle.answers.specs.Answers.{plain, told, named, no_port}
use Rattle.host.specs.Answers.{Outcome, gives, unless}
use Rattle.host.specs.Moves.{with_socket}
use Rattle.answers.specs.Tables.{first}
use Rattle.host.specs.Tables.{entry_rows, call_rows}

-- ---- socket (000, socket.1; socket.2 is 15): the lowest closed descriptor

abbrev pub socket_refusal : Host → ℕ → ℕ
socket_refusal h room = first (entry_rows h room ++ ((eqb (lowest_closed h.sockets) 16, 15) ∷ []))

unfoldable pub socketed : Host → List ℕ → Outcome
socketed h s = unless (socket_refusal h (length s)) h s [] (gives (with_socket h (lowest_closed h.sockets) new_socket) (told 0 (lowest_closed h.sockets)) s [])

-- ---- bind (000, bind.1 to bind.8; bind.9 cannot be): 6, 8, 7, 9. Port 0 is never 7 or 9

abbrev pub bind_rows : Host → ℕ → ℕ → ℕ → List (Bool × ℕ)
bind_rows h k a p =
    (not (eqb (socket_at h k).lport.0 0), 6) ∷
    (not (eqb a 0) && not (ours h.interfaces a), 8) ∷
    (not (eqb p 0) && ltb p 1024, 7) ∷
    (not (eqb p 0) && in_use h.sockets k (socket_at h k).reuse a p, 9) ∷ []

abbrev pub bind_refusal : Host → ℕ → ℕ → ℕ → ℕ → ℕ
bind_refusal h room k a p = first (call_rows h room k ++ bind_rows h k a p)

unfoldable pub bound : Host → List ℕ → ℕ → ℕ → Port → Outcome
bound h s k a p =
    unless (bind_refusal h (length s) k a p.0) h s []
    (gives (with_socket h k (with_local (socket_at h k) a (port_for h.sockets p))) (plain 0) s [])

-- ---- connect (000, connect.1 and connect.2; connect.3 cannot be): 6, 13

-- an absent local address becomes the route's source; 0 where there is none
abbrev pub source_for : Host → Socket → ℕ → ℕ
source_for h s dst = cond (eqb s.laddr 0) (route_source h.interfaces h.icount dst) s.laddr

abbrev pub connect_rows : Host → ℕ → ℕ → List (Bool × ℕ)
connect_rows h k a = (eqb a 0, 6) ∷ (eqb (source_for h (socket_at h k) a) 0, 13) ∷ []

abbrev pub connect_refusal : Host → ℕ → ℕ → ℕ → ℕ
connect_refusal h room k a = first (call_rows h room k ++ connect_rows h k a)

-- an absent local port is autobound; the remote pair is replaced
unfoldable pub connected : Host → List ℕ → ℕ → ℕ → Port → Outcome
connected h s k a p =
    unless (connect_refusal h (length s) k a) h s []
    (gives (with_socket h k (with_remote (with_local (socket_at h k) (source_for h (socket_at h k) a) (port_for h.sockets (socket_at h k).lport)) a p)) (plain 0) s [])

-- ---- disconnect (000, disconnect.1 and disconnect.2): clears the remote pair only; 000 clears the local address too, and autobinds

abbrev pub call_refusal : Host → ℕ → ℕ → ℕ
call_refusal h room k = first (call_rows h room k)

unfoldable pub disconnected : Host → List ℕ → ℕ → Outcome
disconnected h s k = unless (call_refusal h (length s) k) h s [] (gives (with_socket h k (with_remote (socket_at h k) 0 no_port)) (plain 0) s [])

-- ---- getsockname (000, getsockname.1), getpeername (000, getpeername.1; 12 where there is no address)

unfoldable pub local_given : Host → List ℕ → ℕ → Outcome
local_given h s k = unless (call_refusal h (length s) k) h s [] (gives h (named (socket_at h k).laddr (socket_at h k).lport) s [])

abbrev pub peer_refusal : Host → ℕ → ℕ → ℕ
peer_refusal h room k = first (call_rows h room k ++ ((eqb (socket_at h k).raddr 0, 12) ∷ []))

unfoldable pub peer_given : Host → List ℕ → ℕ → Outcome
peer_given h s k = unless (peer_refusal h (length s) k) h s [] (gives h (named (socket_at h k).raddr (socket_at h k).rport) s [])
