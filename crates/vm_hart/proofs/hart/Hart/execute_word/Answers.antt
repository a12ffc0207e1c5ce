use Rattle.std.proofs.Common.{sym, subst, Some}
use Rattle.std.specs.Prelude.{IsSomeAnd, OnErr, slice_index_or}
use Rattle.rv_decode.specs.Instruction.{Instruction}
use Rattle.vm_hart.specs.Acts.{ActsBy, InstructionGrows}
use Rattle.vm_hart.proofs.hart.Hart.execute_word.Goals as goal

pub returns-clause-acts : goal.returns-clause-acts
returns-clause-acts c =
    let old = c.args.self.now in
    let number = c.in-Some.number in
    let i : Instruction = (slice_index_or c.slot_with.new.slots number c.index-slots-number.result).instr in
    subst (λ m. ActsBy old c.execute.new.self m c.args.word c.execute.result) (sym (c.in-Some.ensures.says c.index-slots-number.result))
    (subst (λ (j : Instruction). ActsBy old c.execute.new.self (Some j) c.args.word c.execute.result) c.instr-instr.ensures c.execute.ensures.acts)

pub returns-clause-memory : goal.returns-clause-memory
returns-clause-memory c =
    let old = c.args.self.now in
    let number = c.in-Some.number in
    let i : Instruction = (slice_index_or c.slot_with.new.slots number c.index-slots-number.result).instr in
    subst (λ m. OnErr c.execute.result (IsSomeAnd m (λ instr. InstructionGrows instr old.state))) (sym (c.in-Some.ensures.says c.index-slots-number.result))
    (subst (λ (j : Instruction). OnErr c.execute.result (InstructionGrows j old.state)) c.instr-instr.ensures c.execute.ensures.memory)
