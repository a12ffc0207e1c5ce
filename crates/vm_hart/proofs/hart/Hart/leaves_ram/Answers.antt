use Rattle.std.proofs.Common.{◌≡◌, ◌%◌, length, sym, subst}
use Rattle.instruction_slots.specs.Slots.{KeptInstruction}
use Rattle.rv_decode.specs.Instruction.{Instruction}
use Rattle.rv_decode.specs.Kinds.{group_of}
use Rattle.vm_hart.specs.Kept.{IsAside, IsKept}
use Rattle.vm_hart.specs.Keyed.{KeyedState}
use Rattle.vm_hart.proofs.Kept.{comes-found}
use Rattle.vm_hart.proofs.hart.Hart.leaves_ram.Goals as goal

pub returns : goal.returns
returns c = λ yes.
    let h : KeyedState = c.args.self.now in
    let number = c.slot_of-number.result in
    let count = length c.args.slots.now in
    let slot : KeptInstruction = c.index-slots-number.result in
    let aligned = subst (λ (k : KeyedState). k.state.pc % 4 ≡ 0) c.self.view_is c.self.invariant.aligned in
    let kept = subst (IsKept h c.args.epoch count number) (sym c.index-slots-number.is) (c.requires.keeps number slot c.slot_of-number.ensures.inside) in
    record {
      instr = slot.instr;
      comes = comes-found h c.args.epoch count number slot kept (c.is_kept.ensures.place c.if-not-is_kept.false) c.is_kept.ensures.says aligned;
      aside = subst (λ (i : Instruction). IsAside (group_of i.kind) i h.state) c.instr.ensures (c.is_aside.ensures yes);
    }
