-- What stands at a place after a store there, or elsewhere.
-- Assumes nothing.
use mathlib.Core.Path.{◌≡◌}
use mathlib.Core.List.{List}
use mathlib.Core.Logic.{◌≢◌}
use Prim.Native.Nat.{ℕ, ◌<◌}
use lib.ListN.{length, set}
use lib.Seq.{get_or-set_same, get_or-set_other}
use Rattle.state.specs.declared.Socket.{Socket}
use Rattle.state.specs.declared.Queued.{Queued}
use Rattle.state.specs.declared.OutItem.{OutItem}
use Rattle.state.specs.Places.{socket_in, head_in, item_in}

pub socket_there : (ks : List Socket) (k : ℕ) (s : Socket) → k < length ks → socket_in (set ks k s) k ≡ s
socket_there ks k s l = get_or-set_same ks k s _ l

pub socket_else : (ks : List Socket) (k : ℕ) (s : Socket) (l : ℕ) → l ≢ k → socket_in (set ks k s) l ≡ socket_in ks l
socket_else ks k s l d = get_or-set_other ks k l s _ d

pub head_there : (hs : List Queued) (j : ℕ) (h : Queued) → j < length hs → head_in (set hs j h) j ≡ h
head_there hs j h l = get_or-set_same hs j h _ l

pub head_else : (hs : List Queued) (j : ℕ) (h : Queued) (i : ℕ) → i ≢ j → head_in (set hs j h) i ≡ head_in hs i
head_else hs j h i d = get_or-set_other hs j i h _ d

pub item_there : (xs : List OutItem) (j : ℕ) (x : OutItem) → j < length xs → item_in (set xs j x) j ≡ x
item_there xs j x l = get_or-set_same xs j x _ l

pub item_else : (xs : List OutItem) (j : ℕ) (x : OutItem) (i : ℕ) → i ≢ j → item_in (set xs j x) i ≡ item_in xs i
item_else xs j x i d = get_or-set_other xs j i x _ d
