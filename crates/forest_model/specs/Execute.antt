-- What the coming step of a machine is: the word at pc, the instruction that it says, and what that
-- does.
use Rattle.std.specs.Prelude.{ℕ, ◌-◌, Bool, true, false, Option, Some, None}
use Rattle.elf_load.specs.declared.image.TheConstants.{RAM_BASE}
use Rattle.flat_memory.specs.Flat.{word_at}
use Rattle.guest_pmp.specs.declared.access.Mode.{Mode}
use Rattle.guest_pmp.specs.declared.access.Mode.TheVariants.{User, Machine}
use Rattle.rv_decode.specs.declared.kinds.Group.{Group}
use Rattle.rv_decode.specs.declared.kinds.Group.TheVariants.{LoadUpper, AddUpper, Jump, JumpRegister, Branch, Load, Store}
use Rattle.rv_decode.specs.declared.kinds.Group.TheVariants.{ComputeImmediate, Compute, Nothing, EnvironmentCall, Breakpoint}
use Rattle.rv_decode.specs.declared.kinds.Group.TheVariants.{TrapReturn, Csr, LoadReserved, StoreConditional, Amo}
use Rattle.rv_decode.specs.Kinds.{group_of}
use Rattle.rv_decode.specs.Instruction.{Instruction}
use Rattle.rv_decode.specs.Table.{decoded}
use Rattle.rv_traps.specs.Trap.{takes_interrupt}
use Rattle.forest_model.specs.declared.cause.TheConstants.{INSTRUCTION_ACCESS_FAULT, ILLEGAL_INSTRUCTION, BREAKPOINT}
use Rattle.forest_model.specs.declared.cause.TheConstants.{ENVIRONMENT_CALL_FROM_USER, ENVIRONMENT_CALL_FROM_MACHINE}
use Rattle.forest_model.specs.State.{State, is_timer_due}
use Rattle.forest_model.specs.Action.{Action, trap, interrupt, retire_next}
use Rattle.forest_model.specs.Access.{Reached, faulted, of_ram, of_port, reached, fetch_access}
use Rattle.forest_model.specs.Compute.{load_upper, add_upper, compute_immediate, compute}
use Rattle.forest_model.specs.Control.{jump, jump_register, branch}
use Rattle.forest_model.specs.Memory.{load, store}
use Rattle.forest_model.specs.System.{csr_access, trap_return}
use Rattle.forest_model.specs.Atomic.{load_reserved, store_conditional, amo}

-- the cause of ECALL tells the mode that it comes from
abbrev pub environment_call_cause : Mode → ℕ
environment_call_cause User = ENVIRONMENT_CALL_FROM_USER
environment_call_cause Machine = ENVIRONMENT_CALL_FROM_MACHINE

abbrev pub execute_group : Group → Instruction → ℕ → State → Action
execute_group LoadUpper i word s = load_upper i s
execute_group AddUpper i word s = add_upper i s
execute_group Jump i word s = jump i s
execute_group JumpRegister i word s = jump_register i s
execute_group Branch i word s = branch i s
execute_group Load i word s = load i s
execute_group Store i word s = store i s
execute_group ComputeImmediate i word s = compute_immediate i s
execute_group Compute i word s = compute i s
execute_group Nothing i word s = retire_next s
execute_group EnvironmentCall i word s = trap (environment_call_cause s.csrs.mode) 0
execute_group Breakpoint i word s = trap BREAKPOINT 0
execute_group TrapReturn i word s = trap_return word s
execute_group Csr i word s = csr_access i word s
execute_group LoadReserved i word s = load_reserved i s
execute_group StoreConditional i word s = store_conditional i s
execute_group Amo i word s = amo i s

-- what an instruction does, which a word says
unfoldable pub execute : Instruction → ℕ → State → Action
execute i word s = execute_group (group_of i.kind) i word s

abbrev pub decoded_action : Option Instruction → ℕ → State → Action
decoded_action None word s = trap ILLEGAL_INSTRUCTION word
decoded_action (Some i) word s = execute i word s

-- the word at pc
abbrev pub fetched : State → ℕ
fetched s = word_at s.ram (s.pc - RAM_BASE)

-- by what its fetch comes to. No port has one
abbrev pub fetch_action : Reached → State → Action
fetch_action (faulted cause) s = trap cause s.pc
fetch_action (of_ram page) s = decoded_action (decoded (fetched s)) (fetched s) s
fetch_action of_port s = trap INSTRUCTION_ACCESS_FAULT s.pc

abbrev pub action_by : Bool → State → Action
action_by true s = interrupt
action_by false s = fetch_action (reached (fetch_access s) s) s

-- the coming step: the interrupt comes before all else
unfoldable pub action : State → Action
action s = action_by (takes_interrupt s.csrs (is_timer_due s)) s

-- the instruction that the coming step executes, if it comes to one
abbrev pub instruction_at : Reached → State → Option Instruction
instruction_at (faulted cause) s = None
instruction_at (of_ram page) s = decoded (fetched s)
instruction_at of_port s = None

abbrev pub instruction_by : Bool → State → Option Instruction
instruction_by true s = None
instruction_by false s = instruction_at (reached (fetch_access s) s) s

unfoldable pub coming_instruction : State → Option Instruction
coming_instruction s = instruction_by (takes_interrupt s.csrs (is_timer_due s)) s
