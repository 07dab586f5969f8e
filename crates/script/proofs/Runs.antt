-- A script is a run: so each theorem over every run is one about scripts.
-- Assumes nothing.
use mathlib.Core.List.{List}
use Prim.Native.Nat.{ℕ, zero, suc, ◌+◌, ◌*◌}
use Rattle.std.proofs.lemmas.Bool.{cond_both}
use Rattle.host.specs.declared.Host.{Host}
use Rattle.history.specs.Steps.{World}
use Rattle.history.specs.Runs.{Ran}
use Rattle.history.proofs.Ran.{ran_none, ran_after}
use Rattle.script.specs.declared.Fields.{Fields}
use Rattle.script.specs.Fields.{fields_at}
use Rattle.script.specs.Steps.{known, step_of, Making, making_of}
use Rattle.script.specs.Playing.{payload, State, played}

-- the host and the store
abbrev pub world : State → World
world q = record { host = q.host; bytes = q.bytes }

abbrev pub made : Making → World
made m = record { host = m.host; bytes = m.bytes }

-- a kind that is known makes its step, any other none
step_ran : {w : World} (k : ℕ) (h : Host) (s : List ℕ) (f : Fields) (p b : List ℕ) → Ran w (record { host = h; bytes = s }) → Ran w (made (making_of k h s f p b))
unfolding making_of
step_ran {w} k h s f p b r = cond_both (known k) _ _ (λ (m : Making). Ran w (made m)) (λ e. ran_after r (step_of k f p b)) (λ e. r)

-- the first k steps of a script, from any point
pub script_runs : (input : List ℕ) (q : State) (k : ℕ) → Ran (world q) (world (played input q k))
unfolding played
script_runs input q zero = ran_none
script_runs input q (suc k) =
    let p : State = played input q k in
    let f : Fields = fields_at input (13 + 16 * k) in
    cond_both p.ended _ _ (λ (x : State). Ran (world q) (world x)) (λ e. script_runs input q k) (λ e. step_ran f.kind p.host p.bytes f (payload (k + 1) f.len) p.lent (script_runs input q k))
