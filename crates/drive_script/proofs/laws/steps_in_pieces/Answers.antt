use Rattle.forest_model.specs.Paged.{paged_machines, paged_talks, stalled_at}
use Rattle.drive_script.proofs.Steps.{made-both}
use Rattle.drive_script.proofs.Lined.{pieces}
use Rattle.drive_script.proofs.laws.steps_in_pieces.Goals as goal

pub returns : goal.returns
returns c = record {
  made = λ first more path s. made-both paged_machines paged_talks stalled_at first more path s.tree;
  after = pieces;
}
