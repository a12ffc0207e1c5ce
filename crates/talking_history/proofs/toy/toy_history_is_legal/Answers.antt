use Rattle.std.proofs.Common.{refl}
use Rattle.forest_tree.specs.Tree.{subtree, beyond, at_path}
use Rattle.forest_tree.specs.Projection.{map_tree}
use Rattle.sibling_forest.specs.Settle.{settle_all}
use Rattle.sibling_forest.specs.Toy.{told}
use Rattle.sibling_forest.proofs.Computing.{steps_compute}
use Rattle.talking_history.specs.Places.{spots, spot_talks, may_run}
use Rattle.forest_tree.specs.Step.{advanced}
use Rattle.talking_history.specs.Histories.{holding, without_name, Permits, record_after, replay, IsLegal}
use Rattle.talking_history.specs.Rows.{Allows, does}
use Rattle.talking_history.proofs.toy.toy_history_is_legal.Goals as goal

pub returns : goal.returns
unfolding steps_compute settle_all at_path subtree beyond spots spot_talks may_run advanced holding without_name Allows does Permits record_after replay IsLegal told map_tree
returns c = record {
  legal = (
    (((refl, refl), refl), tt),
    (
      (record { ran = record { is_out = refl; own = refl }; may = refl }, refl),
      (
        (((refl, refl), refl), tt),
        (
          (record { ran = record { is_out = refl; own = refl }; may = refl }, refl),
          (
            (((refl, refl), refl), tt),
            (
              (record { ran = record { is_out = refl; own = refl }; may = refl }, refl),
              (
                (((refl, refl), refl), tt),
                (
                  (record { ran = record { is_out = refl; own = refl }; may = refl }, refl),
                  (
                    (((refl, refl), refl), tt),
                    (
                      (record { ran = record { is_out = refl; own = refl }; may = refl }, refl),
                      (
                        (((refl, refl), refl), tt),
                        (
                          (record { ran = record { is_out = refl; own = refl }; may = refl }, refl),
                          (
                            (((refl, refl), refl), tt),
                            (
                              (record { ran = record { is_out = refl; own = refl }; may = refl }, refl),
                              (
                                (((refl, refl), refl), tt),
                                (
                                  (record { ran = record { is_out = refl; own = refl }; may = refl }, refl),
                                  (
                                    (((refl, refl), refl), tt),
                                    (
                                      (record { ran = record { is_out = refl; own = refl }; may = refl }, refl),
                                      (
                                        (((refl, refl), refl), tt),
                                        (
                                          (record { ran = record { is_out = refl; own = refl }; may = refl }, refl),
                                          (
                                            (((refl, refl), refl), tt),
                                            (
                                              (record { ran = record { is_out = refl; own = refl }; may = refl }, refl),
                                              ((refl, tt), tt),
                                            ),
                                          ),
                                        ),
                                      ),
                                    ),
                                  ),
                                ),
                              ),
                            ),
                          ),
                        ),
                      ),
                    ),
                  ),
                ),
              ),
            ),
          ),
        ),
      ),
    ),
  );
  told = refl;
}
