use Rattle.std.proofs.Common.{◌≡◌, ◌+◌, [], ◌∷◌, ◌++◌, length, sym, ap, ◌∙◌, arith}
use Rattle.std.specs.Arc.{arc_value}
use Rattle.machine_names.specs.Forks.{named}
use Rattle.machine_names.proofs.Rows.{child-named, named-long}
use Rattle.machine_names.proofs.name.Name.child.Goals as goal

pub invariant_of-result : goal.invariant_of-result
invariant_of-result c =
    omega (
      arith,
      ap length c.self.view_is,
      named-long (arc_value c.self.inside.above) c.self.inside.depth c.self.inside.last c.self.invariant,
      c.in_ok-row.ensures.within,
    )

pub returns : goal.returns
returns c =
    let path = c.args.self.now in
    let row = arc_value c.in_ok-row.field-0 in
    let long : length path ≡ c.self.inside.depth =
    sym (ap length c.self.view_is) ∙ named-long (arc_value c.self.inside.above) c.self.inside.depth c.self.inside.last c.self.invariant in
    let deeper : c.in-Some.depth ≡ c.self.inside.depth + 1 = omega (arith, c.in-Some.ensures) in
    ap (λ n. named n c.new.result row) deeper ∙ child-named path row c.self.inside.depth c.new.result long c.in_ok-row.ensures
    ∙ ap (λ b. path ++ b ∷ []) c.new.ensures
