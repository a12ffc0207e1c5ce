use Rattle.std.proofs.Common.{◌-◌, [], ◌∷◌, ◌++◌, take, sym, ap, ◌∙◌, arith}
use Rattle.std.specs.Arc.{arc_value}
use Rattle.machine_names.proofs.Rows.{named-is, none-named}
use Rattle.machine_names.proofs.name.Name.last.Goals as goal

pub returns-then-self-eq0 : goal.returns-then-self-eq0
returns-then-self-eq0 c =
    none-named (arc_value c.self.inside.above) c.args.self.now c.self.inside.depth c.self.inside.last c.self.view_is c.if-self-eq0.true

pub returns : goal.returns
returns c =
    let before = take (c.self.inside.depth - 1) (arc_value c.self.inside.above) in (
      before,
      sym c.self.view_is ∙ named-is (arc_value c.self.inside.above) c.self.inside.depth c.self.inside.last c.self.invariant (omega arith)
          ∙ ap (λ b. before ++ b ∷ []) (sym c.last.view_is),
    )
