-- Reuse: at every point of a run, any two different sockets that match one datagram both have reuse.
-- Assumes nothing.
use mathlib.Core.Path.{◌≡◌}
use mathlib.Core.List.{List}
use mathlib.Core.Logic.{◌≢◌}
use mathlib.Core.Bool.{true}
use Prim.Native.Nat.{ℕ, ◌<◌}
use Rattle.net.specs.declared.Flow.{Flow}
use Rattle.state.specs.declared.Interface.{Interface}
use Rattle.matching.specs.Scores.{score_of}
use Rattle.host.specs.Form.{socket_at}
use Rattle.host.proofs.Reuse.{matches_reuse}
use Rattle.history.specs.Steps.{World, Step}
use Rattle.history.specs.Runs.{Accepted, reached}
use Rattle.history.proofs.Preservation.{reached_good}

-- in the world w
abbrev pub Shared : World → Type 0
Shared w =
    (f : Flow) (j k : ℕ) → j < 16 → k < 16 → j ≢ k → score_of (socket_at w.host j) f ≢ 0 → score_of (socket_at w.host k) f ≢ 0
    → ((socket_at w.host j).reuse ≡ true) × ((socket_at w.host k).reuse ≡ true)

-- the theorem
abbrev pub Reuse : Type 0
Reuse = (is : List Interface) (n : ℕ) (s : List ℕ) → Accepted is n s → (ts : List Step) → Shared (reached is n s ts)

pub reuse : Reuse
reuse is n s a ts = matches_reuse (reached is n s ts).host (reached_good is n s a ts).sound.formed
