use Rattle.std.proofs.Common.{refl, sym, ap, ◌∙◌}
use Rattle.rv_decode.specs.Kinds.{group_of}
use Rattle.rv_decode.specs.declared.kinds.Group.TheVariants as group
use Rattle.vm_hart.proofs.Fast.{group-acts, not-stored}
use Rattle.vm_hart.proofs.hart.Hart.load_upper_fast.Goals as goal

pub returns-clause-acts : goal.returns-clause-acts
returns-clause-acts c =
    group-acts group.LoadUpper c.args.self.now c.load_upper.new.self c.args.instr.now c.load_upper.result c.is_retired.result
    (ap group_of (sym c.requires.kind) ∙ c.requires.group) tt (λ word. c.load_upper.ensures) c.is_retired.ensures

pub returns-clause-stored : goal.returns-clause-stored
returns-clause-stored c = not-stored group.LoadUpper c.args.instr.now c.args.self.now.state (ap group_of (sym c.requires.kind) ∙ c.requires.group) refl
