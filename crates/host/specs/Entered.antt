-- What is known of a host once the rows that stand once are passed
use Rattle.std.specs.Prelude.{◌≡◌, true, ◌≢◌, ℕ, ◌<◌}
use Rattle.state.specs.declared.Thread.TheVariants.{Running}
use Rattle.host.specs.declared.Host.{Host}
use Rattle.host.specs.Form.{socket_at, count_at, WellFormed}

-- rows 1 and 2
pub record Ready (h : Host) (size : ℕ) : Type 0 where
  pub formed : WellFormed h
  pub room : size ≡ 40960

-- rows 1 to 4
pub record RunningIn (h : Host) (room : ℕ) : Type 0 where
  pub ready : Ready h room
  pub running : h.thread ≡ Running

-- rows 1 to 5
pub record Called (h : Host) (room k : ℕ) : Type 0 where
  pub ready : Ready h room
  pub running : h.thread ≡ Running
  pub small : k < 16
  pub live : (socket_at h k).live ≡ true

-- and socket k holds something
pub record Holding (h : Host) (size k : ℕ) : Type 0 where
  pub ready : Ready h size
  pub small : k < 16
  pub some : count_at h k ≢ 0
