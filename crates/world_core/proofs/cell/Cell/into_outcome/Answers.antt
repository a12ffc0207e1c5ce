use Rattle.std.proofs.Common.{ap, ◌∙◌}
use Rattle.run_report.specs.Report.{lines_of}
use Rattle.world_core.proofs.LogKilled.{broods_fit, outcome_lines}
use Rattle.world_core.proofs.cell.Cell.into_outcome.Goals as goal
use Rattle.vm_cell.specs.Keyed.{paged}

pub log_killed-requires-clause-small : goal.log_killed-requires-clause-small
log_killed-requires-clause-small c = broods_fit c.args.name c.args.self c.requires.0 c.requires.1

pub returns-clause-lines : goal.returns-clause-lines
unfolding lines_of
returns-clause-lines c = λ t tallies sound is ended.
    ap lines_of c.new.ensures
    ∙ outcome_lines c.args.name c.args.self t (paged c.args.vm) c.args.ending c.steps-steps.result c.into_output.result.items c.log_killed.new.log.items
    tallies sound c.log_killed.ensures.ordered c.log_killed.ensures.lines is ended c.steps-steps.ensures c.into_output.ensures
