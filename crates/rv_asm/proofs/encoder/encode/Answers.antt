use Rattle.std.proofs.Common.{◌≡◌, ◌+◌, subst, arith}
use Rattle.rv_decode.specs.Instruction.{IsInstruction, IsInFormat}
use Rattle.rv_asm.specs.Encode.{encoded}
use Rattle.rv_asm.proofs.Encoding.{encoded_within, encoded_below, decoded-encoded}
use Rattle.rv_asm.proofs.encoder.encode.Goals as goal

-- the instruction is one, and the sum is its word
is_instruction : (c : goal.After-placed) → IsInstruction c.args.instruction.now
is_instruction c = subst (λ format. IsInFormat format c.args.instruction.now) c.format.ensures.value c.format.ensures.fields

is_word : (c : goal.After-placed) → c.row_bits.result + c.placed.result ≡ encoded c.args.instruction.now
unfolding encoded
is_word c = rw (c.row_bits.ensures, c.kind.ensures, c.placed.ensures, c.format.ensures.value)

pub overflow_add-result : goal.overflow_add-result
overflow_add-result c = let below = encoded_below c.args.instruction.now (is_instruction c) in omega (arith, below, is_word c)

pub returns-clause-decodes : goal.returns-clause-decodes
returns-clause-decodes c = rw (is_word c) (decoded-encoded c.args.instruction.now (is_instruction c))

pub returns-clause-ignored : goal.returns-clause-ignored
returns-clause-ignored c = rw (is_word c) (encoded_within c.args.instruction.now (is_instruction c)).same
