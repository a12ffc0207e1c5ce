use Rattle.drive_script.proofs.Lined.{script-alone, script-counts, script-end, script-sound, script-steps, script-whole}
use Rattle.drive_script.proofs.laws.scripts_are_steps.Goals as goal

pub returns : goal.returns
returns c = record {
  steps = script-steps;
  sound = script-sound;
  queues = script-whole;
  end = script-end;
  alone = script-alone;
  counted = script-counts;
}
