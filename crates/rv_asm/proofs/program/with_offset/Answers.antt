use Rattle.std.proofs.Common.{sym, ap, ◌∙◌, rules}
use Rattle.std.specs.Prelude.{FitsSigned}
use Rattle.std.specs.Int.{cast_signed, cast_unsigned, w32}
use Rattle.std.proofs.lemmas.Int.{to_z-of_z}
use Rattle.rv_asm.specs.Listing.{with_offset}
use Rattle.rv_asm.proofs.Lines.{with_offset_answer}
use Rattle.rv_asm.proofs.program.with_offset.Goals as goal

pub returns-in-Some-offset : goal.returns-in-Some-offset
returns-in-Some-offset c =
    let imm = c.in-Some-offset.imm in
    let fits : FitsSigned w32 imm = search rules in
    c.ok_or.ensures.value
    ∙ with_offset_answer c.args.instruction c.args.at c.in-Some.place (cast_signed w32 (cast_unsigned w32 imm)) c.with_immediate.result
    (to_z-of_z w32 imm fits ∙ c.in-Some-offset.ensures.value) c.with_immediate.ensures
    ∙ ap (with_offset c.args.instruction c.args.at) (sym c.in-Some.is)
