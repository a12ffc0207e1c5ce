-- Machines at their places, with the words to them, seen as machines that talk.
use Rattle.std.proofs.Common.{◌≡◌, refl, Option, None}
use Rattle.forest_tree.specs.Operations.{Call, Operations, Makes, IsStep, is_cloned, IsMachine}
use Rattle.forest_tree.specs.Tree.{Tree, node, machine}
use Rattle.sibling_forest.specs.Talk.{Talks, Box, HasNumberOf, IsTalking}
use Rattle.sibling_forest.specs.Laws.{TalksAlike}
use Rattle.sibling_forest.proofs.Boxes.{boxed-machine}
use Rattle.talking_history.specs.Places.{Place, Spot, put, spots, placed, spot_talks, boxes}
use Rattle.forest_tree.specs.Projection.{Projects}
use Rattle.forest_tree.proofs.Projected.{IsMachine-projected}

-- a machine that is put at a place
pub machine-placed : {M : Type 0} (place : Place) (t : Tree (Box (Spot M))) → (machine (placed place t)).machine ≡ put place (machine t).machine
machine-placed place (node b broods log) = refl

module _ {M E : Type 0} (o : Operations M E) where
  pub projects : Projects (spots o) o (λ (s : Spot M). s.machine)
  unfolding spots
  projects = record {
    ending = λ s. refl;
    call = λ s. refl;
    left = λ s. refl;
    holding = λ s. refl;
    cloned = λ s. refl;
    grant = λ s t. refl;
    may_clone = λ s t. refl;
    is_good = λ s. refl;
    advance = λ s. refl;
    forked = λ s. refl;
    child = λ s k. refl;
    after_join = λ s endings. refl;
    after_kill = λ s. refl;
  }

  pub machine-spots : IsMachine o → IsMachine (spots o)
  machine-spots rules = IsMachine-projected (spots o) o (λ (s : Spot M). s.machine) projects rules

module _ {M : Type 0} (k : Talks M) where
  pub talks-alike : TalksAlike (spot_talks k) k (λ (s : Spot M). s.machine)
  unfolding spot_talks
  talks-alike = record { talk = λ s. refl; word = λ s. refl; received = λ s word. refl }

module _ {M E : Type 0} (o : Operations M E) (k : Talks M) where
  spot-makes : (s : Spot M) (next : Option Call) → Makes (spots o) s next → Makes o s.machine next
  unfolding spots
  spot-makes s next h = record { good = h.good; lives = h.lives; call = h.call }

  spot-step : (s : Spot M) (n : M) → IsStep o s.machine n (is_cloned o s.machine)
      → IsStep (spots o) s (record s { machine = n }) (is_cloned (spots o) s)
  unfolding spots
  spot-step s n h = record {
    good = h.good;
    counted = h.counted;
    holding = h.holding;
    tickets = h.tickets;
    grants = h.grants;
    once = h.once;
  }

  spot-number : (s r : Spot M) → HasNumberOf o k s.machine r.machine → HasNumberOf (spots o) (spot_talks k) s r
  unfolding spot_talks
  spot-number s r h = record { number = h.number; siblings = h.siblings }

  pub talking-spots : IsTalking o k → IsTalking (spots o) (spot_talks k)
  unfolding spots spot_talks
  talking-spots talking = record {
    received = λ s j word makes talks. spot-step s (k.received s.machine word) (talking.received s.machine j word (spot-makes s None makes) talks);
    first = λ s what talks. talking.first s.machine what talks;
    last = λ s what talks. talking.last s.machine what talks;
    other = λ s what talks. talking.other s.machine what talks;
    advance_numbers = λ s. spot-number s ((spots o).advance s) (talking.advance_numbers s.machine);
    received_numbers = λ s word. spot-number s ((spot_talks k).received s word) (talking.received_numbers s.machine word);
    forked_numbers = λ s. spot-number s ((spots o).forked s) (talking.forked_numbers s.machine);
    join_numbers = λ s endings. spot-number s ((spots o).after_join s endings) (talking.join_numbers s.machine endings);
    kill_numbers = λ s. spot-number s ((spots o).after_kill s) (talking.kill_numbers s.machine);
    child_number = λ s t i makes low high. talking.child_number s.machine t i (spot-makes s _ makes) low high;
    child_siblings = λ s t i makes low high. talking.child_siblings s.machine t i (spot-makes s _ makes) low high;
  }

  pub machine-boxes : IsMachine o → IsTalking o k → IsMachine (boxes o k)
  machine-boxes rules talking = boxed-machine (spots o) (spot_talks k) (machine-spots o rules) (talking-spots talking)
