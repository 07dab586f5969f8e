-- What the calls do to a socket
use Rattle.std.specs.Prelude.{ℕ, List, Option, None, Some, Bool, true, false, not, cond, eqb, ltb}
use Rattle.laws.specs.Below.{lowest}
use Rattle.net.specs.declared.Port.{Port}
use Rattle.state.specs.declared.Socket.{Socket}
use Rattle.state.specs.Places.{socket_in}
use Rattle.matching.specs.Ports.{auto_port}

-- all fields zero, and open (000, socket.1)
abbrev pub new_socket : Socket
new_socket = record { laddr = 0; raddr = 0; lport = record { 0 = 0 }; rport = record { 0 = 0 }; live = true; error = 0; bsdcompat = false; reuse = false }

abbrev pub closed_at : Socket → Bool
closed_at s = not s.live

-- the lowest closed descriptor; 16 where every one is open
unfoldable pub lowest_closed : List Socket → ℕ
lowest_closed ks = lowest (λ k. closed_at (socket_in ks k)) 16 0

-- a descriptor, where it is one of the 16
abbrev pub below_16 : ℕ → Option ℕ
below_16 k = cond (ltb k 16) (Some k) None

abbrev pub with_local : Socket → ℕ → Port → Socket
with_local s a p =
    record { laddr = a; raddr = s.raddr; lport = p; rport = s.rport; live = s.live; error = s.error; bsdcompat = s.bsdcompat; reuse = s.reuse }

abbrev pub with_remote : Socket → ℕ → Port → Socket
with_remote s a p =
    record { laddr = s.laddr; raddr = a; lport = s.lport; rport = p; live = s.live; error = s.error; bsdcompat = s.bsdcompat; reuse = s.reuse }

abbrev pub with_error : Socket → ℕ → Socket
with_error s n =
    record { laddr = s.laddr; raddr = s.raddr; lport = s.lport; rport = s.rport; live = s.live; error = n; bsdcompat = s.bsdcompat; reuse = s.reuse }

abbrev pub with_options : Socket → Bool → Bool → Socket
with_options s bsdcompat reuse =
    record { laddr = s.laddr; raddr = s.raddr; lport = s.lport; rport = s.rport; live = s.live; error = s.error; bsdcompat = bsdcompat; reuse = reuse }

-- a port that is given or already there; 0 asks for autobind
abbrev pub port_for : List Socket → Port → Port
port_for ks p = cond (eqb p.0 0) (record { 0 = auto_port ks }) p
