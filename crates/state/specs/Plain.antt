-- The same in plain statements: what the tests of `Interfaces`, `Sockets` and `Threads` decide
use Rattle.std.specs.Prelude.{◌≡◌, List, ◌≢◌, ◌⊎◌, true, false, ℕ, suc, ◌<◌, ◌≤◌}
use Rattle.net.specs.Address.{loopback, martian, agree}
use Rattle.net.specs.declared.Descriptor.{Descriptor}
use Rattle.state.specs.declared.Interface.{Interface}
use Rattle.state.specs.declared.Socket.{Socket}
use Rattle.state.specs.declared.Thread.{Thread}
use Rattle.state.specs.declared.Thread.TheVariants.{Waiting}
use Rattle.state.specs.Places.{no_interface, no_socket, interface_in, socket_in}
use Rattle.state.specs.Interfaces.{address_of, ours}

-- ---- the opening check

-- x has the address a, in place p
abbrev pub HasAt : Interface → ℕ → ℕ → Type 0
HasAt x p a = (p < 4) × (address_of x p ≡ a) × (a ≢ 0)

-- the first address is there, and behind a place without one there is none
pub record Addressed (x : Interface) : Type 0 where
  pub primary : x.first ≢ 0
  pub dense : (p : ℕ) → p < 3 → address_of x p ≡ 0 → address_of x (suc p) ≡ 0

-- the first n of an array of interfaces are accepted
pub record Opened (is : List Interface) (n : ℕ) : Type 0 where
  -- at most 4 records
  pub few : n ≤ 4
  -- ids 1 to 255 and distinct
  pub ids : (i : ℕ) → i < n → (interface_in is i).id.0 ≢ 0
  pub others : (i j : ℕ) → i < n → j < n → i ≢ j → (interface_in is i).id.0 ≢ (interface_in is j).id.0
  -- 1 to 4 addresses each
  pub addressed : (i : ℕ) → i < n → Addressed (interface_in is i)
  -- addresses of an interface equal under its mask
  pub agreed : (i p q a b : ℕ) → i < n → HasAt (interface_in is i) p a → HasAt (interface_in is i) q b → agree a b (interface_in is i).mask ≡ true
  -- all addresses distinct
  pub distinct : (i j p q a : ℕ) → i < n → j < n → HasAt (interface_in is i) p a → HasAt (interface_in is j) q a → (i ≡ j) × (p ≡ q)
  -- none loopback or martian
  pub usable : (i p a : ℕ) → i < n → HasAt (interface_in is i) p a → (loopback a ≡ false) × (martian a ≡ false)
  -- unused places zero
  pub unused : (i : ℕ) → n ≤ i → i < 4 → interface_in is i ≡ no_interface

-- ---- one socket

-- remote port implies remote address, which implies local address, which implies local port
pub record Chained (s : Socket) : Type 0 where
  pub peer : s.rport.0 ≢ 0 → s.raddr ≢ 0
  pub remote : s.raddr ≢ 0 → s.laddr ≢ 0
  pub local : s.laddr ≢ 0 → s.lport.0 ≢ 0

-- a local address is 0 or our own, 127/8 included
abbrev pub LocalKnown : List Interface → Socket → Type 0
LocalKnown is s = (s.laddr ≡ 0) ⊎ (ours is s.laddr ≡ true)

-- a pending error is 0 or 10
abbrev pub ErrorKnown : Socket → Type 0
ErrorKnown s = (s.error ≡ 0) ⊎ (s.error ≡ 10)

-- everything closed is zero
abbrev pub ClosedZero : Socket → Type 0
ClosedZero s = s.live ≡ false → s ≡ no_socket

-- all of it
pub record SocketFit (is : List Interface) (s : Socket) : Type 0 where
  pub closed : ClosedZero s
  pub chain : Chained s
  pub local : LocalKnown is s
  pub error : ErrorKnown s

-- ---- two sockets

-- overlapping local addresses: equal, or one wildcard
abbrev pub Overlap : ℕ → ℕ → Type 0
Overlap a b = (a ≡ b) ⊎ (a ≡ 0) ⊎ (b ≡ 0)

-- two open sockets on one nonzero local port with overlapping local addresses both have reuse
pub record Apart (s t : Socket) : Type 0 where
  pub reused : s.live ≡ true → t.live ≡ true → s.lport.0 ≢ 0 → s.lport.0 ≡ t.lport.0 → Overlap s.laddr t.laddr → (s.reuse ≡ true) × (t.reuse ≡ true)

-- ---- the thread

pub record Bound (ks : List Socket) (k : ℕ) : Type 0 where
  pub small : k < 16
  pub live : (socket_in ks k).live ≡ true
  pub port : (socket_in ks k).lport.0 ≢ 0

-- a waiting descriptor is open with a local port
abbrev pub Awaited : List Socket → Thread → Type 0
Awaited ks t = (d : Descriptor) → t ≡ Waiting d → Bound ks d.0
