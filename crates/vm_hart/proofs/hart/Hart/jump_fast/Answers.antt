use Rattle.std.proofs.Common.{refl, sym, ap, ◌∙◌}
use Rattle.rv_decode.specs.Kinds.{group_of}
use Rattle.rv_decode.specs.declared.kinds.Group.TheVariants as group
use Rattle.vm_hart.proofs.Fast.{group-acts, not-stored}
use Rattle.vm_hart.proofs.hart.Hart.jump_fast.Goals as goal

pub returns-clause-acts : goal.returns-clause-acts
returns-clause-acts c =
    group-acts group.Jump c.args.self.now c.jump.new.self c.args.instr.now c.jump.result c.is_retired.result
    (ap group_of (sym c.requires.kind) ∙ c.requires.group) tt (λ word. c.jump.ensures) c.is_retired.ensures

pub returns-clause-stored : goal.returns-clause-stored
returns-clause-stored c = not-stored group.Jump c.args.instr.now c.args.self.now.state (ap group_of (sym c.requires.kind) ∙ c.requires.group) refl
