-- Where a branch is taken: a is the register rs1, b the register rs2.
-- RISC-V Unprivileged ISA 20191213, section 2.5
use Rattle.std.specs.Prelude.{ℕ, ◌==◌, Bool, false, not, nat_lt, nat_le, int_lt, int_le}
use Rattle.rv_decode.specs.declared.kinds.Kind.{Kind}
use Rattle.rv_decode.specs.declared.kinds.Kind.TheVariants.{Beq, Bne, Blt, Bge, Bltu, Bgeu}
use Rattle.rv_exec.specs.Words.{signed}

abbrev pub branch_taken : Kind → ℕ → ℕ → Bool
branch_taken Beq a b = a == b
branch_taken Bne a b = not (a == b)
branch_taken Blt a b = int_lt (signed a) (signed b)
branch_taken Bge a b = int_le (signed b) (signed a)
branch_taken Bltu a b = nat_lt a b
branch_taken Bgeu a b = nat_le b a
branch_taken _ a b = false
