-- The refusals: document 01, "Order for calls: 1, 2, 3, 4, 5, then as listed per call"
use Rattle.std.specs.Prelude.{ℕ, List, [], ◌∷◌, ◌++◌, Bool, not, eqb}
use Rattle.state.specs.Sockets.{open_at}
use Rattle.state.specs.Threads.{ended, waiting}
use Rattle.host.specs.declared.Host.{Host}
use Rattle.host.specs.Form.{well_formed}

-- record and store
abbrev pub ready_rows : Host → ℕ → List (Bool × ℕ)
ready_rows h room = (not (well_formed h), 1) ∷ (not (eqb room 40960), 2) ∷ []

-- a thread that has not ended: resume and interrupt
abbrev pub alive_rows : Host → ℕ → List (Bool × ℕ)
alive_rows h room = ready_rows h room ++ ((ended h.thread, 3) ∷ [])

-- nor waits: every other call
abbrev pub entry_rows : Host → ℕ → List (Bool × ℕ)
entry_rows h room = alive_rows h room ++ ((waiting h.thread, 4) ∷ [])

-- and an open descriptor: every call that names one
abbrev pub call_rows : Host → ℕ → ℕ → List (Bool × ℕ)
call_rows h room k = entry_rows h room ++ ((not (open_at h.sockets k), 5) ∷ [])
