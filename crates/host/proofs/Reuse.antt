-- In a well-formed record, any two sockets that match one datagram both have reuse (demand 3's first half).
-- Assumes nothing.
use mathlib.Core.Path.{◌≡◌}
use mathlib.Core.Bool.{true}
use mathlib.Core.Logic.{◌≢◌}
use Prim.Native.Nat.{ℕ, ◌<◌}
use Rattle.net.specs.declared.Flow.{Flow}
use Rattle.matching.specs.Scores.{score_of}
use Rattle.matching.proofs.Scores.{both_reuse}
use Rattle.host.specs.declared.Host.{Host}
use Rattle.host.specs.Form.{socket_at, WellFormed}

pub matches_reuse : (h : Host) → WellFormed h → (f : Flow) (j k : ℕ) → j < 16 → k < 16 → j ≢ k → score_of (socket_at h j) f ≢ 0 → score_of (socket_at h k) f ≢ 0
    → ((socket_at h j).reuse ≡ true) × ((socket_at h k).reuse ≡ true)
matches_reuse h w = both_reuse h.sockets w.apart
