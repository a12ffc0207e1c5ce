use Rattle.std.proofs.Common.{◌-◌, take, sym, ap, ap₂, ◌∙◌, arith}
use Rattle.std.specs.Arc.{arc_value}
use Rattle.std.specs.Ordering.{ordering_then}
use Rattle.machine_names.specs.NameOrder.{back_cmp}
use Rattle.machine_names.proofs.Back.{decided, undecided}
use Rattle.machine_names.proofs.Rows.{deep-last}
use Rattle.machine_names.proofs.name.Name.cmp_as_deep.Goals as goal

pub returns-then-is_ne : goal.returns-then-is_ne
returns-then-is_ne c =
    let ours = arc_value c.self.inside.above in
    let theirs = arc_value c.other.inside.above in
    let before = back_cmp (take (c.self.inside.depth - 1) ours) (take (c.self.inside.depth - 1) theirs) in
    decided c.cmp-order.result before (sym c.if-is_ne.ensures) ∙ ap (λ o. ordering_then o before) c.cmp-order.ensures
    ∙ sym (deep-last ours theirs c.args.self.now c.args.other.now c.self.inside.depth c.other.inside.depth c.self.inside.last c.other.inside.last
    c.self.invariant c.other.invariant c.self.view_is c.other.view_is c.requires (omega arith))

pub returns : goal.returns
returns c =
    let ours = arc_value c.self.inside.above in
    let theirs = arc_value c.other.inside.above in
    let before = back_cmp (take (c.self.inside.depth - 1) ours) (take (c.self.inside.depth - 1) theirs) in
    c.cmp_back.ensures ∙ ap₂ (λ a b. back_cmp (take (c.self.inside.depth - 1) a) (take (c.self.inside.depth - 1) b)) c.deref.ensures c.deref-2.ensures
    ∙ ap (λ o. ordering_then o before) (sym (undecided c.cmp-order.result (sym c.if-is_ne.ensures)) ∙ c.cmp-order.ensures)
    ∙ sym (deep-last ours theirs c.args.self.now c.args.other.now c.self.inside.depth c.other.inside.depth c.self.inside.last c.other.inside.last
    c.self.invariant c.other.invariant c.self.view_is c.other.view_is c.requires (omega arith))
