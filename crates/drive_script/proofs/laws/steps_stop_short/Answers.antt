use Rattle.forest_model.specs.Paged.{paged_machines, paged_talks, stalled_at}
use Rattle.drive_script.proofs.Steps.{made-at-most, made-each, made-short}
use Rattle.drive_script.proofs.Lined.{counts, ok}
use Rattle.drive_script.proofs.laws.steps_stop_short.Goals as goal

pub returns : goal.returns
returns c = record {
  at_most = made-at-most paged_machines paged_talks stalled_at;
  each = made-each paged_machines paged_talks stalled_at;
  short = λ most path s. made-short paged_machines paged_talks stalled_at most path s.tree;
  counted = counts;
  ok = ok;
}
