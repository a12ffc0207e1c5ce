-- Accesses to control and status registers, and the return from a trap.
-- RISC-V Unprivileged ISA 20191213, chapter 9, and Privileged ISA 20211203, section 3.3.2
use Rattle.std.specs.Prelude.{ℕ, ◌-◌, ◌^◌, ◌==◌, Bool, true, false, not, Option, Some, None, bit_and, bit_or}
use Rattle.rv_decode.specs.declared.kinds.Kind.{Kind}
use Rattle.rv_decode.specs.declared.kinds.Kind.TheVariants.{Csrrs, Csrrc, Csrrwi, Csrrsi, Csrrci}
use Rattle.rv_decode.specs.Instruction.{Instruction}
use Rattle.rv_traps.specs.declared.registers.CsrRegisters.{CsrRegisters}
use Rattle.forest_model.specs.declared.Written.TheVariants.{Nothing, Counter}
use Rattle.rv_traps.specs.Access.{csr_read, csr_write}
use Rattle.rv_traps.specs.Counters.{half_of}
use Rattle.rv_traps.specs.Trap.{mret}
use Rattle.forest_model.specs.declared.CsrOperation.{CsrOperation}
use Rattle.forest_model.specs.declared.CsrOperation.TheVariants.{Write, SetBits, ClearBits}
use Rattle.forest_model.specs.declared.cause.TheConstants.{ILLEGAL_INSTRUCTION}
use Rattle.forest_model.specs.State.{State, at_next_instruction, is_timer_due}
use Rattle.forest_model.specs.Action.{Action, trap, retire, retire_next, with_rd, rs1, immediate}

-- what an access does with its operand
abbrev pub operation_of : Kind → CsrOperation
operation_of Csrrs = SetBits
operation_of Csrrsi = SetBits
operation_of Csrrc = ClearBits
operation_of Csrrci = ClearBits
operation_of _ = Write

-- the operand: the field rs1 itself in the forms with an immediate, else its register
abbrev pub operand : Kind → Instruction → State → ℕ
operand Csrrwi i s = i.rs1
operand Csrrsi i s = i.rs1
operand Csrrci i s = i.rs1
operand _ i s = rs1 i s

-- the value that is written, by the one before
abbrev pub csr_value : CsrOperation → ℕ → ℕ → ℕ
csr_value Write old operand = operand
csr_value SetBits old operand = bit_or old operand
csr_value ClearBits old operand = bit_and old (2 ^ 32 - 1 - operand)

-- a write that gives its value to nobody does not read
abbrev pub reads : CsrOperation → Instruction → Bool
reads Write i = not (i.rd == 0)
reads SetBits i = true
reads ClearBits i = true

-- bits are set or cleared where the field rs1 is not 0
abbrev pub writes : CsrOperation → Instruction → Bool
writes Write i = true
writes SetBits i = not (i.rs1 == 0)
writes ClearBits i = not (i.rs1 == 0)

-- an access that is not lawful is an illegal instruction
abbrev pub written_action : Option CsrRegisters → ℕ → Instruction → ℕ → State → Action
written_action None old i word s = trap ILLEGAL_INSTRUCTION word
written_action (Some csrs) old i word s =
    retire (Counter (half_of (immediate i))) (at_next_instruction (with_rd i old (record s { csrs = csrs })))

abbrev pub write_action : Bool → ℕ → Instruction → ℕ → State → Action
write_action false old i word s = retire_next (with_rd i old s)
write_action true old i word s =
    written_action (csr_write s.csrs (immediate i) (csr_value (operation_of i.kind) old (operand i.kind i s))) old i word s

abbrev pub old_action : Option ℕ → Instruction → ℕ → State → Action
old_action None i word s = trap ILLEGAL_INSTRUCTION word
old_action (Some old) i word s = write_action (writes (operation_of i.kind) i) old i word s

abbrev pub old_value : Bool → Instruction → State → Option ℕ
old_value true i s = csr_read s.csrs (immediate i) (is_timer_due s)
old_value false i s = Some 0

unfoldable pub csr_access : Instruction → ℕ → State → Action
csr_access i word s = old_action (old_value (reads (operation_of i.kind) i) i s) i word s

-- MRET, which is not lawful in user mode
abbrev pub returned_action : Option CsrRegisters → ℕ → State → Action
returned_action None word s = trap ILLEGAL_INSTRUCTION word
returned_action (Some csrs) word s = retire Nothing (record s { csrs = csrs; pc = s.csrs.mepc })

unfoldable pub trap_return : ℕ → State → Action
trap_return word s = returned_action (mret s.csrs) word s
