-- The opening check (000, 2.3.24, and document 01), and whose an address is
use Rattle.std.specs.Prelude.{ℕ, zero, suc, List, Bool, true, ◌&&◌, ◌||◌, not, cond, ltb, leb, eqb}
use Rattle.laws.specs.Below.{all_below, lowest}
use Rattle.net.specs.declared.InterfaceId.{InterfaceId}
use Rattle.net.specs.Address.{loopback, stray, agree}
use Rattle.state.specs.declared.Interface.{Interface}
use Rattle.state.specs.Places.{interface_in}

-- the four places for an address; 0 is absent
abbrev pub address_of : Interface → ℕ → ℕ
address_of x zero = x.first
address_of x (suc zero) = x.second
address_of x (suc (suc zero)) = x.third
address_of x (suc (suc (suc zero))) = x.fourth
address_of x (suc (suc (suc (suc p)))) = 0

-- ---- one interface

-- ids 1 to 255
abbrev pub id_known : Interface → Bool
id_known x = not (eqb x.id.0 0)

-- 1 to 4 addresses: the first is there, and none stands behind a gap
unfoldable pub addressed : Interface → Bool
addressed x = not (eqb x.first 0) && all_below (λ p. not (eqb (address_of x p) 0) || eqb (address_of x (suc p)) 0) 3

-- addresses of an interface equal under its mask
abbrev pub member : Interface → ℕ → Bool
member x a = eqb a 0 || agree a x.first x.mask

unfoldable pub in_one_net : Interface → Bool
in_one_net x = all_below (λ p. member x (address_of x p)) 4

-- all addresses distinct, within one record too
unfoldable pub distinct_within : Interface → Bool
distinct_within x = all_below (λ p. all_below (λ q. eqb (address_of x p) 0 || not (eqb (address_of x p) (address_of x q))) p) 4

-- none loopback or martian
abbrev pub acceptable : ℕ → Bool
acceptable a = eqb a 0 || not (stray a)

unfoldable pub usable : Interface → Bool
usable x = all_below (λ p. acceptable (address_of x p)) 4

abbrev pub interface_ok : Interface → Bool
interface_ok x = id_known x && addressed x && in_one_net x && distinct_within x && usable x

-- unused places zero
abbrev pub blank : Interface → Bool
blank x = eqb x.mask 0 && eqb x.first 0 && eqb x.second 0 && eqb x.third 0 && eqb x.fourth 0 && eqb x.id.0 0

abbrev pub fits : Bool → Interface → Bool
fits used x = cond used (interface_ok x) (blank x)

-- ---- two interfaces

abbrev pub holds : Interface → ℕ → Bool
holds x a = eqb x.first a || eqb x.second a || eqb x.third a || eqb x.fourth a

abbrev pub lacks : Interface → ℕ → Bool
lacks x a = eqb a 0 || not (holds x a)

-- other ids, and no address in common
unfoldable pub pair_apart : Interface → Interface → Bool
pair_apart x y = not (eqb x.id.0 y.id.0) && all_below (λ p. lacks x (address_of y p)) 4

-- if the second is in use
abbrev pub apart_if : Bool → Interface → Interface → Bool
apart_if used x y = cond used (pair_apart x y) true

-- ---- all of them

-- the place i of the array, of which n are in use, with those before it
abbrev pub place_ok : List Interface → ℕ → ℕ → Bool
place_ok is n i = all_below (λ j. apart_if (ltb i n) (interface_in is j) (interface_in is i)) i && fits (ltb i n) (interface_in is i)

-- the opening check: at most 4 records
unfoldable pub opening_ok : List Interface → ℕ → Bool
opening_ok is n = leb n 4 && all_below (place_ok is n) 4

-- ---- whose an address is

abbrev pub own_of : Interface → Interface → Interface → Interface → ℕ → Bool
own_of w x y z a = not (eqb a 0) && (holds w a || holds x a || holds y a || holds z a)

abbrev pub ours_of : Interface → Interface → Interface → Interface → ℕ → Bool
ours_of w x y z a = loopback a || own_of w x y z a

-- an address of one of the interfaces: "configured"
unfoldable pub own : List Interface → ℕ → Bool
own is a = own_of (interface_in is 0) (interface_in is 1) (interface_in is 2) (interface_in is 3) a

-- 127/8 included
abbrev pub ours : List Interface → ℕ → Bool
ours is a = loopback a || own is a

-- the place of the first interface that has the address; 4 where none has
unfoldable pub holder : List Interface → ℕ → ℕ
holder is a = lowest (λ i. holds (interface_in is i) a) 4 0

abbrev pub holder_id : List Interface → ℕ → InterfaceId
holder_id is a = (interface_in is (holder is a)).id
