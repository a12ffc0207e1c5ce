use Rattle.forest_model.proofs.UserMode.{clone-keeps, join-keeps, kill-keeps, step-keeps, talk-keeps}
use Rattle.forest_model.proofs.laws.user_mode_keeps_registers.Goals as goal

pub returns : goal.returns
returns c = record {
  step = step-keeps;
  clone = λ m user. let kept = clone-keeps m user in (kept.registers, kept.ram);
  join = λ m endings user. let kept = join-keeps m user endings in (kept.registers, kept.ram);
  kill = λ m user. let kept = kill-keeps m user in (kept.registers, kept.ram);
  talk = λ m word answer user. let kept = talk-keeps m user word answer in (kept.registers, kept.ram);
}
