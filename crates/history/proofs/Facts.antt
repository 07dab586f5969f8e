-- What every step does, in one record, which the theorems over runs cite.
-- Assumes nothing.
use mathlib.Core.Path.{◌≡◌, ◌∙◌}
use mathlib.Core.List.{List, [], ◌∷◌, ◌++◌}
use mathlib.Core.Bool.{true, false}
use Prim.Native.Nat.{ℕ, ◌<◌}
use lib.ListN.{length}
use Rattle.history.specs.Sound.{Sound}
use Rattle.history.specs.Frame.{Named, Untouched}
use Rattle.history.specs.Order.{holds, read_by, delivered_by, restarts}
use Rattle.history.specs.Outgoing.{queued_in, queued_by, left_by}
use Rattle.history.specs.Steps.{World, Step, after}
use Rattle.history.specs.Runs.{next, run}
use Rattle.history.proofs.Keeps.{step_keeps}
use Rattle.history.proofs.Frame.{step_frame}
use Rattle.history.proofs.Order.{step_length, step_order, step_restart}
use Rattle.history.proofs.Outgoing.{step_out}

-- a host that is sound, with the store that it wants
pub record Good (w : World) : Type 0 where
  pub sound : Sound w.host
  pub room : length w.bytes ≡ 40960

pub record Facts (w : World) (t : Step) : Type 0 where
  -- the next world is as good
  pub good : Good (next w t)
  -- a socket that is neither named nor picked stays as it was
  pub frame : (l : ℕ) → l < 16 → (Named w t l → ⊥) → Untouched w (after w t) l
  -- what a socket held, then what is delivered to it, is what is read from it, then what it holds
  pub order : (l : ℕ) → l < 16 → restarts w t l ≡ false → holds w l ++ delivered_by w t l ≡ read_by w t l ++ holds (next w t) l
  -- opened or ended, it holds nothing
  pub restart : (l : ℕ) → l < 16 → restarts w t l ≡ true → holds (next w t) l ≡ []
  -- what was queued to go out, then what is queued, is what leaves, then what is still queued
  pub out : queued_in w ++ queued_by w t ≡ left_by w t ++ queued_in (next w t)

pub step_facts : (w : World) → Good w → (t : Step) → Facts w t
step_facts w g t =
    record {
      good = record { sound = step_keeps w t g.sound; room = step_length w t g.sound ∙ g.room };
      frame = step_frame w t g.sound;
      order = step_order w t g.sound g.room;
      restart = step_restart w t g.sound;
      out = step_out w t g.sound g.room;
    }

-- ---- every point of a run

pub run_good : (w : World) → Good w → (ts : List Step) → Good (run w ts)
unfolding run
run_good w g [] = g
run_good w g (t ∷ ts) = run_good (next w t) (step_facts w g t).good ts
