-- What the coming step of a machine comes to.
use Rattle.std.specs.Prelude.{ℕ, List}
use Rattle.std.specs.Int.{cast_unsigned, w32}
use Rattle.rv_decode.specs.Instruction.{Instruction}
use Rattle.fork_port.specs.declared.commands.Call.{Call}
use Rattle.sibling_port.specs.declared.talk.Talk.{Talk}
use Rattle.forest_model.specs.declared.Written.{Written}
use Rattle.forest_model.specs.declared.Written.TheVariants.{Nothing}
use Rattle.forest_model.specs.State.{State, register, with_register, at_next_instruction}

pub data Action : Type 0 where
  -- an exception, with its cause and value
  trap : ℕ → ℕ → Action
  -- the timer interrupt
  interrupt : Action
  -- an instruction that retires, with what it wrote of the counters, and the state after it
  retire : Written → State → Action
  -- the machine ends with a value and hands over these bytes, and the state after the instruction
  exit : ℕ → List ℕ → State → Action
  -- the machine asks for a call, and the state after the instruction but for what the call does
  ask : Call → State → Action
  -- the machine is to talk to a sibling, and the state after the instruction but for what the talk leaves
  speak : Talk → State → Action

-- the instruction retires, and the next one follows
abbrev pub retire_next : State → Action
retire_next s = retire Nothing (at_next_instruction s)

-- the state with a value in rd
abbrev pub with_rd : Instruction → ℕ → State → State
with_rd i value s = record s { registers = with_register s.registers i.rd value }

-- the registers rs1 and rs2
abbrev pub rs1 : Instruction → State → ℕ
rs1 i s = register s.registers i.rs1

abbrev pub rs2 : Instruction → State → ℕ
rs2 i s = register s.registers i.rs2

-- the immediate as a number modulo 2 ^ 32
abbrev pub immediate : Instruction → ℕ
immediate i = cast_unsigned w32 i.imm
