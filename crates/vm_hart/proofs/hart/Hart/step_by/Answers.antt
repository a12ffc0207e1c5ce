use Rattle.std.proofs.Common.{◌≡◌, length, sym, subst}
use Rattle.std.specs.Prelude.{MatchBool, slice_index_or}
use Rattle.rv_decode.specs.Instruction.{Instruction}
use Rattle.instruction_slots.specs.Slots.{ForgetsAt}
use Rattle.vm_hart.specs.Kept.{Keeps}
use Rattle.vm_hart.specs.Keyed.{KeyedState}
use Rattle.vm_hart.specs.Fast.{IsFastStep}
use Rattle.vm_hart.specs.Tries.{IsTry}
use Rattle.vm_hart.proofs.Kept.{forgot-length, step-made, step-keeps, step-size}
use Rattle.vm_hart.proofs.hart.Hart.step_by.Goals as goal

pub returns-clause-made : goal.returns-clause-made
returns-clause-made g c =
    let tried = c.execute_fast-tried.result in
    let i : Instruction = (slice_index_or c.args.slots.now c.args.number c.index-slots-number.result).instr in
    let is : IsTry c.args.self.now c.execute_fast-tried.new.self i tried =
    subst (λ j. IsTry c.args.self.now c.execute_fast-tried.new.self j tried) c.instr-instr.ensures c.execute_fast-tried.ensures.tried in
    subst (λ (h : KeyedState). MatchBool tried.is_made (IsFastStep c.args.self.now h) (h ≡ c.args.self.now)) (sym c.forget_stored.ensures.same)
    (step-made c.args.self.now c.execute_fast-tried.new.self i tried.is_made (c.requires.slot_at_pc.there c.index-slots-number.result) is.acts)

pub returns-clause-same_size : goal.returns-clause-same_size
returns-clause-same_size g c =
    let tried = c.execute_fast-tried.result in
    let i : Instruction = (slice_index_or c.args.slots.now c.args.number c.index-slots-number.result).instr in
    let is : IsTry c.args.self.now c.execute_fast-tried.new.self i tried =
    subst (λ j. IsTry c.args.self.now c.execute_fast-tried.new.self j tried) c.instr-instr.ensures c.execute_fast-tried.ensures.tried in
    subst (λ (h : KeyedState). length h.state.ram ≡ length c.args.self.now.state.ram) (sym c.forget_stored.ensures.same)
    (step-size c.args.self.now c.execute_fast-tried.new.self i tried.is_made c.has_whole_words.ensures is.acts)

pub returns-clause-keeps : goal.returns-clause-keeps
returns-clause-keeps g c = λ epoch keeps.
    let tried = c.execute_fast-tried.result in
    let i : Instruction = (slice_index_or c.args.slots.now c.args.number c.index-slots-number.result).instr in
    let is : IsTry c.args.self.now c.execute_fast-tried.new.self i tried =
    subst (λ j. IsTry c.args.self.now c.execute_fast-tried.new.self j tried) c.instr-instr.ensures c.execute_fast-tried.ensures.tried in
    subst (λ (h : KeyedState). Keeps h epoch c.forget_stored.new.slots) (sym c.forget_stored.ensures.same)
    (step-keeps c.args.self.now c.execute_fast-tried.new.self i epoch c.args.slots.now c.forget_stored.new.slots tried.is_made c.has_whole_words.ensures is.acts
    (subst (λ stored. ForgetsAt stored c.args.slots.now c.forget_stored.new.slots) is.stored c.forget_stored.ensures.forgets) keeps)

pub returns-clause-same_length : goal.returns-clause-same_length
returns-clause-same_length g c = forgot-length c.execute_fast-tried.result.stored c.args.slots.now c.forget_stored.new.slots c.forget_stored.ensures.forgets
