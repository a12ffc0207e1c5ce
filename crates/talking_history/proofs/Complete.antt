-- Complete histories of a world come to one forest.
use Rattle.std.proofs.Common.{◌≡◌, ◌⊎◌, inl, inr, sym, ◌∙◌}
use Rattle.forest_tree.specs.Operations.{Operations, IsMachine}
use Rattle.forest_tree.specs.Sound.{IsSound}
use Rattle.sibling_forest.specs.Talk.{Talks, IsTalking}
use Rattle.sibling_forest.specs.Finish.{finish}
use Rattle.talking_history.specs.Places.{bare, boxes}
use Rattle.talking_history.specs.World.{World}
use Rattle.talking_history.specs.Rows.{over, stuck, Allows}
use Rattle.talking_history.specs.Histories.{History, record_of, replay, IsComplete}
use Rattle.talking_history.proofs.Ends.{over-ends}
use Rattle.talking_history.proofs.Histories.{replay-leaves}
use Rattle.talking_history.proofs.Stuck.{stuck-ends}

module _ {M E R : Type 0} (o : Operations M E) (k : Talks M) (rules : IsMachine o) (talking : IsTalking o k) where
  -- nothing is left to do
  done-ends : (w : World M R) → Allows o k over w ⊎ Allows o k stuck w → finish o k (bare w.tree) ≡ bare w.tree
  unfolding Allows
  done-ends w (inl ended) = over-ends o k rules talking w.tree ended
  done-ends w (inr none) = stuck-ends o k rules talking w none

  complete-ends : (history : History R) (w : World M R) → IsSound (boxes o k) w.tree → IsComplete o k history w
      → bare (replay o k history (record_of w)).world.tree ≡ finish o k (bare w.tree)
  complete-ends history w h complete =
      sym (done-ends (replay o k history (record_of w)).world complete.ends) ∙ replay-leaves o k rules talking history (record_of w) h

  pub complete-agree : (one other : History R) (w : World M R) → IsSound (boxes o k) w.tree → IsComplete o k one w → IsComplete o k other w
      → bare (replay o k one (record_of w)).world.tree ≡ bare (replay o k other (record_of w)).world.tree
  complete-agree one other w h first second = complete-ends one w h first ∙ sym (complete-ends other w h second)
