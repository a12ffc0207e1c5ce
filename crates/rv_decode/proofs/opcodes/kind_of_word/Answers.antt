-- The first three rows are told by the opcode alone.
use Rattle.std.proofs.Common.{◌≡◌, false, sym, eq-eqb, lit<, arith}
use Rattle.std.specs.Prelude.{bit_and}
use Rattle.std.proofs.lemmas.Grind.{common_steps}
use Rattle.rv_decode.specs.declared.kinds.Kind.TheVariants.{Lui}
use Rattle.rv_decode.specs.Table.{rows, row}
use Rattle.rv_decode.proofs.Rows.{kind_of_word-matches}
use Rattle.rv_decode.proofs.ByOpcode.{is_opcode, kind_of_word-other_opcode}
use Rattle.rv_decode.proofs.opcodes.kind_of_word.Goals as goal

pub returns-in-55 : goal.returns-in-55
unfolding rows
returns-in-55 c = sym (kind_of_word-matches c.args.word 0 (row 0 0 Lui) (lit< tt) (eq-eqb _ _ c.in-55.is))

pub returns-in-23 : goal.returns-in-23
unfolding rows
returns-in-23 c = sym (kind_of_word-matches c.args.word 1 (row 0 0 Lui) (lit< tt) (eq-eqb _ _ c.in-23.is))

pub returns-in-111 : goal.returns-in-111
unfolding rows
returns-in-111 c = sym (kind_of_word-matches c.args.word 2 (row 0 0 Lui) (lit< tt) (eq-eqb _ _ c.in-111.is))

pub returns-in_default : goal.returns-in_default
returns-in_default c =
    let other : is_opcode (bit_and c.args.word 127) ≡ false = grind (arith, common_steps) in
    sym (kind_of_word-other_opcode c.args.word other)
