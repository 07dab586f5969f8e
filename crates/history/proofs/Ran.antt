-- Steps put together: no step, one step in front, one step more.
-- Assumes nothing.
use mathlib.Core.Path.{◌≡◌, refl, ap, ◌∙◌}
use mathlib.Core.List.{List, [], ◌∷◌, ◌++◌}
use Rattle.history.specs.Steps.{World, Step}
use Rattle.history.specs.Runs.{next, run, Ran}

pub ran_none : {w : World} → Ran w w
unfolding run
ran_none = record { steps = []; there = refl }

pub ran_before : {w w' : World} (t : Step) → Ran (next w t) w' → Ran w w'
unfolding run
ran_before t r = record { steps = t ∷ r.steps; there = r.there }

-- the steps and one more
run_more : (w : World) (ts : List Step) (t : Step) → next (run w ts) t ≡ run w (ts ++ (t ∷ []))
unfolding run
run_more w [] t = refl
run_more w (u ∷ ts) t = run_more (next w u) ts t

pub ran_after : {w w' : World} → Ran w w' → (t : Step) → Ran w (next w' t)
ran_after {w} r t = record { steps = r.steps ++ (t ∷ []); there = ap (λ (v : World). next v t) r.there ∙ run_more w r.steps t }
