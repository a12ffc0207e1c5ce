use Rattle.forest_model.proofs.Alone.{no-call, no-talk, IsChildless-after_steps, ended-after_steps, finish-childless, booted-childless}
use Rattle.forest_model.proofs.laws.childless_machines_run_alone.Goals as goal

pub returns : goal.returns
returns c = record {
  no_call = no-call;
  no_talk = no-talk;
  stays = IsChildless-after_steps;
  ends = ended-after_steps;
  finish = finish-childless;
  boots = booted-childless;
}
