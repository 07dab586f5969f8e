-- Opening: document 01, "Opening checks 2, then 17"
use Rattle.std.specs.Prelude.{ℕ, List, [], ◌∷◌, not, cond, eqb, length}
use Rattle.laws.specs.Places.{splice, copies}
use Rattle.state.specs.declared.Interface.{Interface}
use Rattle.state.specs.declared.Thread.{Thread}
use Rattle.state.specs.declared.Thread.TheVariants.{Running, Ended}
use Rattle.state.specs.Places.{no_interface, no_socket}
use Rattle.state.specs.Interfaces.{opening_ok}
use Rattle.store.specs.Store.{zeros}
use Rattle.queues.specs.Moves.{no_queues}
use Rattle.outqueue.specs.Moves.{no_items}
use Rattle.host.specs.declared.Host.{Host}
use Rattle.answers.specs.Answers.{plain}
use Rattle.host.specs.Answers.{Outcome, gives}
use Rattle.answers.specs.Tables.{first}

-- no socket open, nothing queued
unfoldable pub empty_host : List Interface → ℕ → Thread → Host
empty_host is n t = record { interfaces = is; sockets = copies no_socket 16; queues = no_queues; out = no_items; thread = t; icount = n }

-- ended, with no interface
abbrev pub ended_host : Host
ended_host = empty_host (copies no_interface 4) 0 Ended

abbrev pub opening_refusal : List Interface → ℕ → ℕ → ℕ
opening_refusal is n room = first ((not (eqb room 40960), 2) ∷ (not (opening_ok is n), 17) ∷ [])

-- after 2 or 17 an ended host with no interface, the store untouched; a successful opening zeroes the store
unfoldable pub opened : List Interface → ℕ → List ℕ → Outcome
opened is n s =
    cond (eqb (opening_refusal is n (length s)) 0) (gives (empty_host is n Running) (plain 0) (splice s 0 (zeros 40960)) [])
    (gives ended_host (plain (opening_refusal is n (length s))) s [])
