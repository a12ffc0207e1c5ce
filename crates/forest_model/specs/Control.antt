-- Jumps and branches. RISC-V Unprivileged ISA 20191213, section 2.5
use Rattle.std.specs.Prelude.{ℕ, ◌+◌, ◌-◌, ◌%◌, ◌^◌, ◌==◌, Bool, true, false}
use Rattle.rv_decode.specs.Instruction.{Instruction}
use Rattle.rv_exec.specs.Branch.{branch_taken}
use Rattle.forest_model.specs.declared.Written.TheVariants.{Nothing}
use Rattle.forest_model.specs.declared.cause.TheConstants.{INSTRUCTION_ADDRESS_MISALIGNED}
use Rattle.forest_model.specs.State.{State}
use Rattle.forest_model.specs.Action.{Action, trap, retire, retire_next, with_rd, rs1, rs2, immediate}

-- control goes to a target, which is a multiple of 4. Else the jump is an exception, and s does not come
abbrev pub aligned_jump : Bool → ℕ → State → Action
aligned_jump false target s = trap INSTRUCTION_ADDRESS_MISALIGNED target
aligned_jump true target s = retire Nothing (record s { pc = target })

abbrev pub jump_to : ℕ → State → Action
jump_to target s = aligned_jump (target % 4 == 0) target s

-- pc plus the immediate
abbrev pub relative : Instruction → State → ℕ
relative i s = (s.pc + immediate i) % 2 ^ 32

-- the state with the address of the next instruction in rd
abbrev pub linked : Instruction → State → State
linked i s = with_rd i ((s.pc + 4) % 2 ^ 32) s

-- JAL
unfoldable pub jump : Instruction → State → Action
jump i s = jump_to (relative i s) (linked i s)

-- an address with bit 0 cleared
abbrev pub even : ℕ → ℕ
even address = address - address % 2

-- JALR
unfoldable pub jump_register : Instruction → State → Action
jump_register i s = jump_to (even ((rs1 i s + immediate i) % 2 ^ 32)) (linked i s)

abbrev pub branch_by : Bool → Instruction → State → Action
branch_by false i s = retire_next s
branch_by true i s = jump_to (relative i s) s

unfoldable pub branch : Instruction → State → Action
branch i s = branch_by (branch_taken i.kind (rs1 i s) (rs2 i s)) i s
