-- The kinds of instructions, by the format of their words and by what executes them.
use Rattle.rv_decode.specs.declared.kinds.Kind.{Kind}
use Rattle.rv_decode.specs.declared.kinds.Kind.TheVariants.{Lui, Auipc, Jal, Jalr, Beq, Bne, Blt, Bge, Bltu, Bgeu, Lb, Lh, Lw, Lbu, Lhu, Sb, Sh}
use Rattle.rv_decode.specs.declared.kinds.Kind.TheVariants.{Sw, Addi, Slti, Sltiu, Xori, Ori, Andi, Slli, Srli, Srai, Add, Sub, Sll, Slt, Sltu}
use Rattle.rv_decode.specs.declared.kinds.Kind.TheVariants.{Xor, Srl, Sra, Or, And, Mul, Mulh, Mulhsu, Mulhu, Div, Divu, Rem, Remu, Fence, FenceI}
use Rattle.rv_decode.specs.declared.kinds.Kind.TheVariants.{Ecall, Ebreak, Mret, Wfi, Csrrw, Csrrs, Csrrc, Csrrwi, Csrrsi, Csrrci, LrW, ScW}
use Rattle.rv_decode.specs.declared.kinds.Kind.TheVariants.{AmoswapW, AmoaddW, AmoxorW, AmoandW, AmoorW, AmominW, AmomaxW, AmominuW, AmomaxuW}
use Rattle.rv_decode.specs.declared.kinds.Format.{Format}
use Rattle.rv_decode.specs.declared.kinds.Format.TheVariants as format
use Rattle.rv_decode.specs.declared.kinds.Group.{Group}
use Rattle.rv_decode.specs.declared.kinds.Group.TheVariants as group

-- the layout of the fields in a word of each kind.
-- RISC-V Unprivileged ISA 20191213, chapter 24
unfoldable pub format_of : Kind → Format
format_of Lui = format.U
format_of Auipc = format.U
format_of Jal = format.J
format_of Jalr = format.I
format_of Beq = format.B
format_of Bne = format.B
format_of Blt = format.B
format_of Bge = format.B
format_of Bltu = format.B
format_of Bgeu = format.B
format_of Lb = format.I
format_of Lh = format.I
format_of Lw = format.I
format_of Lbu = format.I
format_of Lhu = format.I
format_of Sb = format.S
format_of Sh = format.S
format_of Sw = format.S
format_of Addi = format.I
format_of Slti = format.I
format_of Sltiu = format.I
format_of Xori = format.I
format_of Ori = format.I
format_of Andi = format.I
format_of Slli = format.Shift
format_of Srli = format.Shift
format_of Srai = format.Shift
format_of Add = format.R
format_of Sub = format.R
format_of Sll = format.R
format_of Slt = format.R
format_of Sltu = format.R
format_of Xor = format.R
format_of Srl = format.R
format_of Sra = format.R
format_of Or = format.R
format_of And = format.R
format_of Mul = format.R
format_of Mulh = format.R
format_of Mulhsu = format.R
format_of Mulhu = format.R
format_of Div = format.R
format_of Divu = format.R
format_of Rem = format.R
format_of Remu = format.R
format_of Fence = format.Bare
format_of FenceI = format.Bare
format_of Ecall = format.Bare
format_of Ebreak = format.Bare
format_of Mret = format.Bare
format_of Wfi = format.Bare
format_of Csrrw = format.Csr
format_of Csrrs = format.Csr
format_of Csrrc = format.Csr
format_of Csrrwi = format.Csr
format_of Csrrsi = format.Csr
format_of Csrrci = format.Csr
format_of LrW = format.Lr
format_of ScW = format.R
format_of AmoswapW = format.R
format_of AmoaddW = format.R
format_of AmoxorW = format.R
format_of AmoandW = format.R
format_of AmoorW = format.R
format_of AmominW = format.R
format_of AmomaxW = format.R
format_of AmominuW = format.R
format_of AmomaxuW = format.R

-- the kinds that are executed alike
unfoldable pub group_of : Kind → Group
group_of Lui = group.LoadUpper
group_of Auipc = group.AddUpper
group_of Jal = group.Jump
group_of Jalr = group.JumpRegister
group_of Beq = group.Branch
group_of Bne = group.Branch
group_of Blt = group.Branch
group_of Bge = group.Branch
group_of Bltu = group.Branch
group_of Bgeu = group.Branch
group_of Lb = group.Load
group_of Lh = group.Load
group_of Lw = group.Load
group_of Lbu = group.Load
group_of Lhu = group.Load
group_of Sb = group.Store
group_of Sh = group.Store
group_of Sw = group.Store
group_of Addi = group.ComputeImmediate
group_of Slti = group.ComputeImmediate
group_of Sltiu = group.ComputeImmediate
group_of Xori = group.ComputeImmediate
group_of Ori = group.ComputeImmediate
group_of Andi = group.ComputeImmediate
group_of Slli = group.ComputeImmediate
group_of Srli = group.ComputeImmediate
group_of Srai = group.ComputeImmediate
group_of Add = group.Compute
group_of Sub = group.Compute
group_of Sll = group.Compute
group_of Slt = group.Compute
group_of Sltu = group.Compute
group_of Xor = group.Compute
group_of Srl = group.Compute
group_of Sra = group.Compute
group_of Or = group.Compute
group_of And = group.Compute
group_of Mul = group.Compute
group_of Mulh = group.Compute
group_of Mulhsu = group.Compute
group_of Mulhu = group.Compute
group_of Div = group.Compute
group_of Divu = group.Compute
group_of Rem = group.Compute
group_of Remu = group.Compute
group_of Fence = group.Nothing
group_of FenceI = group.Nothing
group_of Ecall = group.EnvironmentCall
group_of Ebreak = group.Breakpoint
group_of Mret = group.TrapReturn
group_of Wfi = group.Nothing
group_of Csrrw = group.Csr
group_of Csrrs = group.Csr
group_of Csrrc = group.Csr
group_of Csrrwi = group.Csr
group_of Csrrsi = group.Csr
group_of Csrrci = group.Csr
group_of LrW = group.LoadReserved
group_of ScW = group.StoreConditional
group_of AmoswapW = group.Amo
group_of AmoaddW = group.Amo
group_of AmoxorW = group.Amo
group_of AmoandW = group.Amo
group_of AmoorW = group.Amo
group_of AmominW = group.Amo
group_of AmomaxW = group.Amo
group_of AmominuW = group.Amo
group_of AmomaxuW = group.Amo
