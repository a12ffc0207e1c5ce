use Rattle.std.proofs.Common.{length, sym, ap, ◌∙◌}
use Rattle.std.specs.Arc.{arc_value}
use Rattle.machine_names.proofs.Rows.{named-long}
use Rattle.machine_names.proofs.name.Name.depth.Goals as goal

pub returns : goal.returns
returns c =
    sym (sym (ap length c.self.view_is) ∙ named-long (arc_value c.self.inside.above) c.self.inside.depth c.self.inside.last c.self.invariant)
