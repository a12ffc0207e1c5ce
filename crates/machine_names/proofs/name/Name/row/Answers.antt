use Rattle.std.proofs.Common.{◌-◌, [], ◌∷◌, ◌++◌, get_or, length, take, sym, ap, ◌∙◌, subst, arith}
use Rattle.std.specs.Arc.{arc_value}
use Rattle.std.proofs.lemmas.Result.{IfOk-weaker}
use Rattle.machine_names.specs.Forks.{BeginsWith, IsNamed}
use Rattle.machine_names.proofs.Rows.{begins-made, begins-none, begins-whole, none-named}
use Rattle.machine_names.proofs.name.Name.row.Goals as goal

pub returns-then-self-eq0 : goal.returns-then-self-eq0
returns-then-self-eq0 c =
    let none = none-named (arc_value c.self.inside.above) c.args.self.now c.self.inside.depth c.self.inside.last c.self.view_is c.if-self-eq0.true in
    IfOk-weaker c.try_clone.result _ _ (λ row same. begins-none (arc_value row) c.args.self.now none) c.try_clone.ensures

pub returns-then-has_at : goal.returns-then-has_at
returns-then-has_at c =
    let there = c.has_at.ensures c.if-has_at.true in
    let named : IsNamed c.self.inside.depth c.self.inside.last (arc_value c.self.inside.above) = record {
      within = omega (arith, there.0, ap length c.deref.ensures);
      is_last = λ _. there.1 ∙ ap (λ xs. get_or xs (c.self.inside.depth - 1) c.self.inside.last) c.deref.ensures;
    } in
    let begins = begins-whole (arc_value c.self.inside.above) c.args.self.now c.self.inside.depth c.self.inside.last c.self.view_is named in
    IfOk-weaker c.try_clone-then-has_at.result _ _ (λ row same. subst (BeginsWith c.args.self.now) (sym same) begins) c.try_clone-then-has_at.ensures

pub returns : goal.returns
returns c =
    begins-made (arc_value c.self.inside.above) c.args.self.now (arc_value c.in_ok-new.field-0) c.self.inside.depth c.self.inside.last
    c.self.invariant c.self.view_is (omega arith)
    (c.in_ok-new.ensures.ok ∙ c.in_ok-all.ensures
    ∙ ap (λ xs. take (c.self.inside.depth - 1) xs ++ c.self.inside.last ∷ []) c.deref-2.ensures)
