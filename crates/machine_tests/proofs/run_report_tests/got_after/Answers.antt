use Rattle.std.proofs.Common.{◌∙◌}
use Rattle.machine_names.proofs.NameMaps.{updated-apart}
use Rattle.machine_tests.proofs.run_report_tests.got_after.Goals as goal

pub returns-clause-apart : goal.returns-clause-apart
returns-clause-apart c other =
    c.copied.ensures ∙ c.get.ensures.value ∙ updated-apart c.args.map.now c.insert.new.self c.args.at _ c.in_ok-insert.ensures.updates c.args.name.now other
