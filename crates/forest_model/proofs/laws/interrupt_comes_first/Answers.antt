use Rattle.forest_model.proofs.Finish.{next-interrupt, advance-interrupt}
use Rattle.forest_model.proofs.Touch.{touch-interrupt}
use Rattle.forest_model.proofs.laws.interrupt_comes_first.Goals as goal

pub returns : goal.returns
returns c = record {
  comes = next-interrupt;
  touches_nothing = touch-interrupt;
  traps = advance-interrupt;
}
