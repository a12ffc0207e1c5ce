use Rattle.std.proofs.Common.{◌+◌, ap, ◌∙◌, arith}
use Rattle.instruction_slots.specs.Slots.{place_of}
use Rattle.vm_hart.specs.Kept.{tagged}
use Rattle.vm_hart.specs.Keyed.{KeyedState}
use Rattle.vm_hart.proofs.Kept.{tag-small}
use Rattle.vm_hart.proofs.hart.Hart.is_kept.Goals as goal

pub overflow_add-tagged : goal.overflow_add-tagged
overflow_add-tagged c =
    let small = tag-small c.args.self.now.state.csrs.mode in
    let aligned = c.self.invariant.aligned in
    omega (arith, small, aligned, c.requires)

pub returns-clause-place : goal.returns-clause-place
returns-clause-place c =
    λ yes. c.is_at.ensures.place.0 yes
    ∙ ap (λ tag. place_of (c.self.inside.pc + tag) c.args.epoch) c.requires
    ∙ ap (λ (h : KeyedState). place_of (tagged c.args.self.now.state.csrs.mode h.state.pc) c.args.epoch) c.self.view_is
