-- Instructions whose immediate is an offset from their own address.
-- RISC-V Unprivileged ISA 20191213, section 2.5
use Rattle.std.specs.Prelude.{ℕ, ◌+◌, ◌*◌, Bool, true, false, ◌&&◌, nat_le, nat_lt, ℤ, pos, ◌-ℤ◌}
use Rattle.rv_decode.specs.declared.kinds.Kind.{Kind}
use Rattle.rv_decode.specs.declared.kinds.Kind.TheVariants.{Jal, Beq, Bne, Blt, Bge, Bltu, Bgeu}
use Rattle.rv_decode.specs.Instruction.{Instruction}

-- JAL and the branches
abbrev pub takes_label : Kind → Bool
takes_label Jal = true
takes_label Beq = true
takes_label Bne = true
takes_label Blt = true
takes_label Bge = true
takes_label Bltu = true
takes_label Bgeu = true
takes_label _ = false

-- one of them, and the label to which its offset leads
pub record BranchTo : Type 0 where
  pub instruction : Instruction
  pub label : ℕ

-- offsets reach back so many bytes, and less far ahead
abbrev pub reach : Kind → ℕ
reach Jal = 0x10_0000
reach _ = 0x1000

-- from a word of a program to another, each by its index
abbrev pub offset : ℕ → ℕ → ℤ
offset at place = pos (4 * place) -ℤ pos (4 * at)

abbrev pub reaches : Kind → ℕ → ℕ → Bool
reaches kind at place = nat_le (4 * at) (4 * place + reach kind) && nat_lt (4 * place) (4 * at + reach kind)
