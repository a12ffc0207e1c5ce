use Rattle.std.proofs.Common.{◌≡◌, Option, None, true, is_some, sym, subst}
use Rattle.rv_decode.specs.Instruction.{Instruction}
use Rattle.instruction_slots.proofs.Slots.{nop-decodes}
use Rattle.instruction_slots.proofs.slot.Slot.empty.Goals as goal

pub unreachable-requires : goal.unreachable-requires
unreachable-requires c =
    let some : is_some {T = Instruction} c.decode.result ≡ true = subst (λ (o : Option Instruction). is_some o ≡ true) (sym c.decode.ensures) nop-decodes in
    let none : is_some {T = Instruction} None ≡ true = subst (λ (o : Option Instruction). is_some o ≡ true) c.in_default.is some in
    absurd (cc)
