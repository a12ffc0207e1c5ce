use Rattle.std.proofs.Common.{◌-◌, [], ◌∷◌, ◌++◌, sym, ap, ◌∙◌, subst, arith}
use Rattle.std.specs.Arc.{arc_value}
use Rattle.machine_names.specs.Forks.{IsNamed, named}
use Rattle.machine_names.proofs.Rows.{none-named, popped}
use Rattle.machine_names.proofs.name.Name.pop.Goals as goal

pub returns-then-self-eq0 : goal.returns-then-self-eq0
returns-then-self-eq0 c =
    let none = none-named (arc_value c.self.inside.above) c.args.self.now c.self.inside.depth c.self.inside.last c.self.view_is c.if-self-eq0.true in
    (none, none)

pub returns : goal.returns
returns c =
    let above = arc_value c.self.inside.above in
    let before = c.last_of-self-inside.result in
    sym c.self.view_is
    ∙ popped above c.self.inside.depth c.self.inside.last before c.self.invariant (omega arith)
    (subst (IsNamed (c.self.inside.depth - 1) before) c.deref.ensures c.last_of-self-inside.ensures)
    ∙ ap (λ b. named (c.self.inside.depth - 1) before above ++ b ∷ []) (sym c.last.view_is)
