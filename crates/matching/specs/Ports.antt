-- Which ports are taken: document 01, bind and autobind (000, 2.3.3: unused and autobind)
use Rattle.std.specs.Prelude.{ℕ, List, Bool, ◌&&◌, ◌||◌, not, eqb}
use Rattle.laws.specs.Below.{all_below, lowest}
use Rattle.state.specs.declared.Socket.{Socket}
use Rattle.state.specs.Places.{socket_in}
use Rattle.state.specs.Sockets.{overlap}

-- s is open, has that port and an overlapping address, and not both have reuse
abbrev pub takes : Socket → Bool → ℕ → ℕ → Bool
takes s reuse a p = s.live && eqb s.lport.0 p && overlap s.laddr a && not (s.reuse && reuse)

-- or it is the one that asks
abbrev pub leaves : Socket → Bool → Bool → ℕ → ℕ → Bool
leaves s itself reuse a p = itself || not (takes s reuse a p)

-- another open socket keeps socket k, which has this reuse, off the pair
unfoldable pub in_use : List Socket → ℕ → Bool → ℕ → ℕ → Bool
in_use ks k reuse a p = not (all_below (λ j. leaves (socket_in ks j) (eqb j k) reuse a p) 16)

abbrev pub lacks_port : Socket → ℕ → Bool
lacks_port s p = not (eqb s.lport.0 p)

-- no socket has p as its local port
unfoldable pub port_free : List Socket → ℕ → Bool
port_free ks p = all_below (λ j. lacks_port (socket_in ks j) p) 16

-- autobind: the lowest port of 1024 to 4999 that no socket has
unfoldable pub auto_port : List Socket → ℕ
auto_port ks = lowest (port_free ks) 3976 1024
