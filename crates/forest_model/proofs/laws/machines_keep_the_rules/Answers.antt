use Rattle.forest_model.proofs.Rules.{machines-rules}
use Rattle.forest_model.proofs.Talking.{machines-talk, booted-whole}
use Rattle.forest_model.proofs.laws.machines_keep_the_rules.Goals as goal

pub returns : goal.returns
returns c = record { rules = machines-rules; talks = machines-talk; booted = booted-whole }
