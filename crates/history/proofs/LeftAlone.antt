-- Frame: a step that neither names a socket nor picks it, doesn't resume its wait and isn't exit, changes neither its record nor its queue.
-- Assumes nothing.
use mathlib.Core.List.{List}
use Prim.Native.Nat.{ℕ, ◌<◌}
use Rattle.state.specs.declared.Interface.{Interface}
use Rattle.history.specs.Steps.{Step, after}
use Rattle.history.specs.Frame.{Named, Untouched}
use Rattle.history.specs.Runs.{Accepted, reached}
use Rattle.history.proofs.Facts.{step_facts}
use Rattle.history.proofs.Preservation.{reached_good}

-- the theorem
abbrev pub LeftAlone : Type 0
LeftAlone = (is : List Interface) (n : ℕ) (s : List ℕ) → Accepted is n s → (ts : List Step) (t : Step) (l : ℕ) → l < 16 → (Named (reached is n s ts) t l → ⊥) → Untouched (reached is n s ts) (after (reached is n s ts) t) l

pub left_alone : LeftAlone
left_alone is n s a ts t l hl d = (step_facts (reached is n s ts) (reached_good is n s a ts) t).frame l hl d
