-- What a world of machines that talk stands for: the tree of its machines, each with its place and the words to it.
use Rattle.std.specs.Prelude.{◌≡◌, Bool, false, not, ◌&&◌, [], Option, Some, None, true}
use Rattle.forest_tree.specs.Operations.{Operations}
use Rattle.forest_tree.specs.Tree.{Tree, machine, Path, subtree}
use Rattle.forest_tree.specs.Step.{alone, has_ended}
use Rattle.sibling_forest.specs.Talk.{Talks, Box}
use Rattle.sibling_forest.specs.Settle.{rests_at}
use Rattle.talking_history.specs.Places.{Place, home, Spot, spots, asleep, out, parked, spot_talks, boxes}

pub record World (M R : Type 0) : Type 0 where
  pub tree : Tree (Box (Spot M))
  -- the first reason to stop, if any was given
  pub halted : Option R

-- a machine at this place may be handed out, where it waits or not
abbrev pub is_ready_at : Place → Bool → Bool
is_ready_at asleep is_waiting = true
is_ready_at home is_waiting = true
is_ready_at out is_waiting = false
is_ready_at parked is_waiting = not is_waiting

abbrev pub is_at_home_at : Place → Bool
is_at_home_at asleep = true
is_at_home_at home = true
is_at_home_at out = false
is_at_home_at parked = true

abbrev pub is_asleep_at : Place → Bool
is_asleep_at asleep = true
is_asleep_at home = false
is_asleep_at out = false
is_asleep_at parked = false

abbrev pub is_out_at : Place → Bool
is_out_at asleep = false
is_out_at home = false
is_out_at out = true
is_out_at parked = false

abbrev pub holds : {A : Type 0} → (A → Bool) → Option A → Bool
holds test None = false
holds test (Some a) = test a

abbrev pub place_of : {M : Type 0} → Tree (Box (Spot M)) → Place
place_of t = (machine t).machine.place

-- the machine of this name is on lease
abbrev pub is_out : {M : Type 0} → Path → Tree (Box (Spot M)) → Bool
is_out name t = holds (λ a. is_out_at (place_of a)) (subtree name t)

-- no machine is on lease
abbrev pub IsWhole : {M : Type 0} → Tree (Box (Spot M)) → Type 0
IsWhole t = (name : Path) → is_out name t ≡ false

module _ {M E : Type 0} (o : Operations M E) (k : Talks M) where
  -- the machine of this name makes no step: none is there, or it has ended, or its join, send or receive waits
  abbrev pub is_resting : Path → Tree (Box (Spot M)) → Bool
  is_resting name t = rests_at (spots o) (spot_talks k) name t

  abbrev pub lives_ready : Bool → Tree (Box (Spot M)) → Bool
  lives_ready resting t = not (has_ended (boxes o k) t) && is_ready_at (place_of t) resting

  abbrev pub lives_at_home : Tree (Box (Spot M)) → Bool
  lives_at_home t = not (has_ended (boxes o k) t) && is_at_home_at (place_of t)

  -- the machine of this name lives, is at home, and is not parked at a join, send or receive that waits
  abbrev pub is_ready : Path → Tree (Box (Spot M)) → Bool
  is_ready name t = holds (lives_ready (is_resting name t)) (subtree name t)

  -- a live machine of this name is at home
  abbrev pub is_at_home : Path → Tree (Box (Spot M)) → Bool
  is_at_home name t = holds lives_at_home (subtree name t)

  -- the machine of this name is ready, and still a descriptor
  abbrev pub is_to_wake : Path → Tree (Box (Spot M)) → Bool
  is_to_wake name t = is_ready name t && holds (λ a. is_asleep_at (place_of a)) (subtree name t)

  -- the world of one machine, at home, with no words to it
  abbrev pub world_of : {R : Type 0} → M → World M R
  world_of m = record {
    tree = alone (boxes o k) (record { machine = record { machine = m; place = home }; inbox = [] });
    halted = None;
  }
