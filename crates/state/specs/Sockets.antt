-- What each socket must be, and what any two: document 01, "A record is well formed when"
use Rattle.std.specs.Prelude.{ℕ, List, Bool, true, false, ◌&&◌, ◌||◌, not, cond, ltb, eqb}
use Rattle.laws.specs.Below.{all_below}
use Rattle.state.specs.declared.Interface.{Interface}
use Rattle.state.specs.declared.Socket.{Socket}
use Rattle.state.specs.Places.{interface_in, socket_in}
use Rattle.state.specs.Interfaces.{ours_of}

-- ---- one socket

-- remote port implies remote address, which implies local address, which implies local port
abbrev pub chained : Socket → Bool
chained s = (eqb s.rport.0 0 || not (eqb s.raddr 0)) && (eqb s.raddr 0 || not (eqb s.laddr 0)) && (eqb s.laddr 0 || not (eqb s.lport.0 0))

-- a local address is 0 or our own
abbrev pub known_of : Interface → Interface → Interface → Interface → ℕ → Bool
known_of w x y z a = cond (eqb a 0) true (ours_of w x y z a)

unfoldable pub local_known : List Interface → ℕ → Bool
local_known is a = known_of (interface_in is 0) (interface_in is 1) (interface_in is 2) (interface_in is 3) a

-- a pending error is 0 or 10
abbrev pub error_known : ℕ → Bool
error_known n = eqb n 0 || eqb n 10

-- everything closed is zero
abbrev pub blank : Socket → Bool
blank s =
    eqb s.laddr 0
    && eqb s.raddr 0
    && eqb s.lport.0 0
    && eqb s.rport.0 0
    && not s.live
    && eqb s.error 0
    && not s.bsdcompat
    && not s.reuse

abbrev pub socket_fits : Bool → Socket → Bool
socket_fits known s = cond s.live (chained s && known && error_known s.error) (blank s)

abbrev pub socket_ok : List Interface → Socket → Bool
socket_ok is s = socket_fits (local_known is s.laddr) s

unfoldable pub sockets_ok : List Interface → List Socket → Bool
sockets_ok is ks = all_below (λ k. socket_ok is (socket_in ks k)) 16

-- ---- two sockets

-- two local addresses overlap: equal, or one wildcard
abbrev pub overlap : ℕ → ℕ → Bool
overlap a b = eqb a b || eqb a 0 || eqb b 0

-- on one local port with overlapping local addresses both have reuse
abbrev pub compatible : Socket → Socket → Bool
compatible s t = not (eqb s.lport.0 t.lport.0 && overlap s.laddr t.laddr) || (s.reuse && t.reuse)

-- with how many earlier ones a thing has to be compared: none where it is not in use
abbrev pub earlier : Bool → ℕ → ℕ
earlier used k = cond used k 0

-- socket k and every earlier one, if k has a local port: one that is closed has none
abbrev pub apart_at : List Socket → ℕ → Bool
apart_at ks k = all_below (λ j. compatible (socket_in ks j) (socket_in ks k)) (earlier (not (eqb (socket_in ks k).lport.0 0)) k)

unfoldable pub all_apart : List Socket → Bool
all_apart ks = all_below (apart_at ks) 16

-- ---- a descriptor

-- k names an open socket
unfoldable pub open_at : List Socket → ℕ → Bool
open_at ks k = cond (ltb k 16) (socket_in ks k).live false
