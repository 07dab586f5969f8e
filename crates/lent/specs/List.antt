-- Opening over a list: document 01, "To open a host the caller lends a list of interface records", of which at most 4 are accepted
use Rattle.std.specs.Prelude.{ℕ, List, [], ◌∷◌, length}
use Rattle.state.specs.declared.Interface.{Interface}
use Rattle.state.specs.Places.{interface_in}
use Rattle.host.specs.Answers.{Outcome}
use Rattle.host.specs.Opening.{opened}

-- the first four places of a list; no interface where it is shorter
abbrev pub first_four : List Interface → List Interface
first_four xs = interface_in xs 0 ∷ interface_in xs 1 ∷ interface_in xs 2 ∷ interface_in xs 3 ∷ []

-- opening with those, and with the number of records that the whole list has: more than 4 are 17 whatever they are
abbrev pub opened_list : List Interface → List ℕ → Outcome
opened_list xs s = opened (first_four xs) (length xs) s
