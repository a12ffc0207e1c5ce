use Rattle.vm_hart.proofs.hart.Hart.step_fast.Goals as goal

pub returns-clause-keeps : goal.returns-clause-keeps
returns-clause-keeps g c = c.step_by.ensures.keeps c.args.epoch c.slot_at_pc.ensures.keeps
