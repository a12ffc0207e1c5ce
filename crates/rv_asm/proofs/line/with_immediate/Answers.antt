use Rattle.std.proofs.Common.{◌≡◌, subst, ◌∙◌}
use Rattle.std.specs.Prelude.{SomeIff}
use Rattle.std.specs.Int.{cast_signed, cast_unsigned, w32}
use Rattle.std.proofs.lemmas.Int.{to_z-of_z}
use Rattle.rv_decode.specs.declared.kinds.Format.TheVariants.{J}
use Rattle.rv_decode.specs.Instruction.{Instruction, IsInFormat, IsInstruction}
use Rattle.rv_asm.proofs.Offsets.{instruction, IsInstruction-other, SomeIff-same, no_rd}
use Rattle.rv_asm.proofs.line.with_immediate.Goals as goal

pub returns-in-J : goal.returns-in-J
returns-in-J c =
    let i = c.args.instruction in
    let h : IsInstruction i = subst (λ format. IsInFormat format i) c.format.ensures.value c.format.ensures.fields in
    let jump : IsInFormat J i = subst (λ format. IsInFormat format i) c.in-J.is c.format.ensures.fields in
    let none : i.rs1 ≡ 0 = jump.1 in
    let none_2 : i.rs2 ≡ 0 = jump.2 in
    let passed = to_z-of_z w32 c.args.imm c.ranges.imm in
    let same : instruction c.kind-kind.result c.rd.result 0 0 (cast_signed w32 (cast_unsigned w32 c.args.imm)) ≡ record i { imm = c.args.imm } = cc in
    SomeIff-same _ _ _ _ (IsInstruction-other i c.args.imm c.requires h)
    (subst (λ (fields : Instruction). SomeIff c.new.result (IsInstruction fields) fields) same c.new.ensures)

pub returns-in_default : goal.returns-in_default
returns-in_default c =
    let i = c.args.instruction in
    let h : IsInstruction i = subst (λ format. IsInFormat format i) c.format.ensures.value c.format.ensures.fields in
    let none : i.rd ≡ 0 = no_rd i c.requires (λ jump. c.in_default.not-J (c.format.ensures.value ∙ jump)) h in
    let passed = to_z-of_z w32 c.args.imm c.ranges.imm in
    let same : instruction c.kind-kind.result 0 c.rs1.result c.rs2.result (cast_signed w32 (cast_unsigned w32 c.args.imm)) ≡ record i { imm = c.args.imm } = cc in
    SomeIff-same _ _ _ _ (IsInstruction-other i c.args.imm c.requires h)
    (subst (λ (fields : Instruction). SomeIff c.new-in_default.result (IsInstruction fields) fields) same c.new-in_default.ensures)
