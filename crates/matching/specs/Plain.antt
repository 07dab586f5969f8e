-- A match in plain statements
use Rattle.std.specs.Prelude.{◌≡◌, ◌≢◌, true}
use Rattle.net.specs.declared.Flow.{Flow}
use Rattle.state.specs.declared.Socket.{Socket}

-- the socket is open and has a local port, and every part that it has agrees
pub record Matches (s : Socket) (f : Flow) : Type 0 where
  pub live : s.live ≡ true
  pub port : s.lport.0 ≢ 0
  pub here : s.lport.0 ≡ f.dport.0
  pub local : s.laddr ≢ 0 → s.laddr ≡ f.dst
  pub remote : s.raddr ≢ 0 → s.raddr ≡ f.src
  pub peer : s.rport.0 ≢ 0 → s.rport.0 ≡ f.sport.0
