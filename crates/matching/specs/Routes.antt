-- The source that a destination is reached from: document 01, "Route's source" (000, 2.3.7: outroute)
use Rattle.std.specs.Prelude.{ℕ, List, Bool, cond, ltb, leb, eqb}
use Rattle.laws.specs.Below.{lowest}
use Rattle.net.specs.Address.{loopback, agree, localhost}
use Rattle.state.specs.declared.Interface.{Interface}
use Rattle.state.specs.Places.{interface_in}

-- the primary agrees with the destination under the mask
abbrev pub reaches : Interface → ℕ → Bool
reaches x dst = agree x.first dst x.mask

-- the first of n interfaces that does; n where none does
abbrev pub first_reaching : List Interface → ℕ → ℕ → ℕ
first_reaching is n dst = lowest (λ i. reaches (interface_in is i) dst) n 0

-- else the first
unfoldable pub route_via : List Interface → ℕ → ℕ → ℕ
route_via is n dst = cond (ltb (first_reaching is n dst) n) (first_reaching is n dst) 0

-- an array of 4 has no more than 4 in use, whatever the count says
abbrev pub four_of : ℕ → ℕ
four_of n = cond (leb n 4) n 4

-- the primary of that interface; with no interface, none (0)
abbrev pub source_among : List Interface → ℕ → ℕ → ℕ
source_among is n dst = cond (eqb n 0) 0 (interface_in is (route_via is n dst)).first

-- destination in LOOPBACK, 127.0.0.1
unfoldable pub route_source : List Interface → ℕ → ℕ → ℕ
route_source is n dst = cond (loopback dst) localhost (source_among is (four_of n) dst)
