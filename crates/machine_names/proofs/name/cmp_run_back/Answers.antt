use Rattle.std.proofs.Common.{sym, ap, ◌∙◌}
use Rattle.machine_names.specs.NameOrder.{back_cmp}
use Rattle.machine_names.proofs.NameMaps.{back-itself}
use Rattle.machine_names.proofs.name.cmp_run_back.Goals as goal

pub returns-then-are_same : goal.returns-then-are_same
returns-then-are_same c =
    sym (ap (back_cmp c.args.left.now) (sym (c.are_same.ensures c.if-are_same.true)) ∙ back-itself c.args.left.now)
