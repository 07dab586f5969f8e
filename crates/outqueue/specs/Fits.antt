-- What well-formedness asks of the out-queue: document 01, "A record is well formed when"
use Rattle.std.specs.Prelude.{ℕ, ◌<◌, ◌≤◌, ◌≡◌, List, ◌≢◌, Bool, true, ◌&&◌, ◌||◌, cond, ltb, leb, eqb}
use Rattle.laws.specs.Below.{all_below}
use Rattle.state.specs.declared.Interface.{Interface}
use Rattle.state.specs.declared.OutItem.{OutItem}
use Rattle.state.specs.Places.{no_item}
use Rattle.state.specs.Interfaces.{ours}
use Rattle.outqueue.specs.declared.OutQueue.{OutQueue}
use Rattle.outqueue.specs.Moves.{source_of, item_at}

abbrev pub empty_item : OutItem → Bool
empty_item x =
    eqb x.flow.src 0
    && eqb x.flow.dst 0
    && eqb x.flow.sport.0 0
    && eqb x.flow.dport.0 0
    && eqb x.len 0
    && eqb x.kind 0

-- a kind that there is, no payload over 512, none with a notice, and a source of our own
abbrev pub item_ok : List Interface → OutItem → Bool
item_ok is x = leb x.kind 2 && leb x.len 512 && (eqb x.kind 0 || eqb x.len 0) && ours is (source_of x)

-- everything unused is zero
abbrev pub item_fits : List Interface → Bool → OutItem → Bool
item_fits is used x = cond used (item_ok is x) (empty_item x)

unfoldable pub out_ok : List Interface → OutQueue → Bool
out_ok is o = leb o.count 16 && all_below (λ i. item_fits is (ltb i o.count) (item_at o i)) 16

-- ---- the same in plain statements

pub record ItemFit (is : List Interface) (x : OutItem) : Type 0 where
  pub kind : x.kind ≤ 2
  pub small : x.len ≤ 512
  pub bare : x.kind ≢ 0 → x.len ≡ 0
  pub source : ours is (source_of x) ≡ true

pub record OutFit (is : List Interface) (o : OutQueue) : Type 0 where
  pub few : o.count ≤ 16
  pub items : (i : ℕ) → i < o.count → ItemFit is (item_at o i)
  pub unused : (i : ℕ) → o.count ≤ i → i < 16 → item_at o i ≡ no_item
