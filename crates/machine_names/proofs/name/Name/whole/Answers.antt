use Rattle.std.proofs.Common.{length, ap, arith}
use Rattle.std.specs.Arc.{arc_value}
use Rattle.machine_names.proofs.Rows.{named-again, named-long}
use Rattle.machine_names.proofs.name.Name.whole.Goals as goal

pub invariant_of-result : goal.invariant_of-result
invariant_of-result c =
    omega (
      arith,
      ap length c.self.view_is,
      named-long (arc_value c.self.inside.above) c.self.inside.depth c.self.inside.last c.self.invariant,
      c.in_ok-row.ensures.within,
    )

pub returns : goal.returns
returns c =
    named-again (arc_value c.self.inside.above) c.self.inside.depth c.self.inside.last c.self.invariant c.args.self.now (arc_value c.in_ok-row.field-0)
    c.self.view_is c.in_ok-row.ensures
