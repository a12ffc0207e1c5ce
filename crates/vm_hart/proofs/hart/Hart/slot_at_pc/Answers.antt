use Rattle.std.proofs.Common.{◌≡◌, ◌%◌, ◌<◌, sym, subst}
use Rattle.vm_hart.specs.Keyed.{KeyedState}
use Rattle.vm_hart.proofs.Kept.{comes-at}
use Rattle.vm_hart.proofs.hart.Hart.slot_at_pc.Goals as goal

pub returns-then-is_kept-clause-comes : goal.returns-then-is_kept-clause-comes
returns-then-is_kept-clause-comes c =
    let aligned = subst (λ (h : KeyedState). h.state.pc % 4 ≡ 0) c.self.view_is c.self.invariant.aligned in
    comes-at c.args.self.now c.args.epoch c.slot_of-number.result c.args.slots.now c.index-slots-number.result c.requires.keeps c.slot_of-number.ensures.inside
    (c.is_kept.ensures.place c.if-is_kept.true) c.is_kept.ensures.says aligned

pub returns-then-is_kept-2-clause-comes : goal.returns-then-is_kept-2-clause-comes
returns-then-is_kept-2-clause-comes c =
    let aligned = subst (λ (h : KeyedState). h.state.pc % 4 ≡ 0) c.self.view_is c.self.invariant.aligned in
    comes-at c.args.self.now c.args.epoch c.slot_of-number.result c.look_up.new.slots c.index-slots-number-2.result c.look_up.ensures.keeps
    (subst (λ n. c.slot_of-number.result < n) (sym c.look_up.ensures.same_length) c.slot_of-number.ensures.inside)
    (c.is_kept-2.ensures.place c.if-is_kept-2.true) c.is_kept-2.ensures.says aligned
