use Rattle.std.proofs.Common.{refl}
use Rattle.forest_tree.specs.Tree.{subtree, beyond, at_path}
use Rattle.sibling_forest.specs.Finish.{paths, first_not}
use Rattle.sibling_forest.specs.Settle.{settle_all}
use Rattle.sibling_forest.specs.Toy.{speakers, speech, both_wait}
use Rattle.sibling_forest.proofs.Computing.{steps_compute}
use Rattle.talking_history.specs.Places.{spots, spot_talks, may_run}
use Rattle.forest_tree.specs.Step.{advanced}
use Rattle.talking_history.specs.Histories.{holding, without_name, Permits, record_after, replay, IsLegal}
use Rattle.talking_history.specs.Rows.{Allows, does}
use Rattle.talking_history.specs.Toy.{first_record, waiting_history}
use Rattle.talking_history.proofs.Stuck.{none-ready, none-out}
use Rattle.talking_history.proofs.toy.toy_world_is_stuck.Goals as goal

pub returns : goal.returns
unfolding steps_compute settle_all at_path subtree beyond spots spot_talks may_run advanced holding without_name Allows does Permits record_after replay IsLegal paths first_not
returns c = record {
  legal = (
    (((refl, refl), refl), tt),
    (
      (record { ran = record { is_out = refl; own = refl }; may = refl }, refl),
      (
        (((refl, refl), refl), tt),
        (
          (record { ran = record { is_out = refl; own = refl }; may = refl }, refl),
          (
            (((refl, refl), refl), tt),
            (
              (record { ran = record { is_out = refl; own = refl }; may = refl }, refl),
              (
                (((refl, refl), refl), tt),
                (
                  (record { ran = record { is_out = refl; own = refl }; may = refl }, refl),
                  tt,
                ),
              ),
            ),
          ),
        ),
      ),
    ),
  );
  stuck = (
    (refl, refl),
    none-ready speakers speech (replay speakers speech waiting_history (first_record both_wait)).world.tree refl,
    none-out (replay speakers speech waiting_history (first_record both_wait)).world.tree refl,
  );
}
