-- Words that are loaded, computed with and stored in one step, in RAM alone, at the address in rs1.
-- RISC-V Unprivileged ISA 20191213, chapter 8
use Rattle.std.specs.Prelude.{ℕ, ◌==◌, Bool, true, false, Option, Some, None}
use Rattle.std.specs.Int.{to_le_bytes, w32}
use Rattle.rv_decode.specs.Instruction.{Instruction}
use Rattle.rv_exec.specs.Atomic.{amo_value}
use Rattle.forest_model.specs.declared.access.Access.{Access}
use Rattle.forest_model.specs.declared.access.Direction.TheVariants as access
use Rattle.forest_model.specs.declared.cause.TheConstants.{LOAD_ACCESS_FAULT, STORE_ACCESS_FAULT}
use Rattle.forest_model.specs.State.{State}
use Rattle.forest_model.specs.Action.{Action, trap, retire_next, with_rd, rs1, rs2}
use Rattle.forest_model.specs.Access.{Reached, faulted, of_ram, of_port, reached}
use Rattle.forest_model.specs.Memory.{ram_number, with_bytes}

-- LR: the word is loaded, and its address is reserved. No port has it
abbrev pub reserve_by : Reached → Instruction → ℕ → State → Action
reserve_by (faulted cause) i address s = trap cause address
reserve_by (of_ram page) i address s =
    retire_next (with_rd i (ram_number address 4 s) (record s { reservation = Some address }))
reserve_by of_port i address s = trap LOAD_ACCESS_FAULT address

abbrev pub reserve_access : Instruction → State → Access
reserve_access i s = record { address = rs1 i s; width = 4; direction = access.Reserve }

unfoldable pub load_reserved : Instruction → State → Action
load_reserved i s = reserve_by (reached (reserve_access i s) s) i (rs1 i s) s

-- SC: the word is stored, and rd is 0, where its address is the one that is reserved; else rd is 1.
-- Nothing is reserved then. No port has it
abbrev pub is_reserved : Option ℕ → ℕ → Bool
is_reserved None address = false
is_reserved (Some reserved) address = reserved == address

abbrev pub conditional_action : Bool → Instruction → ℕ → State → Action
conditional_action true i address s =
    retire_next (with_rd i 0 (with_bytes address (to_le_bytes w32 (rs2 i s)) (record s { reservation = None })))
conditional_action false i address s = retire_next (with_rd i 1 (record s { reservation = None }))

abbrev pub conditional_by : Reached → Instruction → ℕ → State → Action
conditional_by (faulted cause) i address s = trap cause address
conditional_by (of_ram page) i address s = conditional_action (is_reserved s.reservation address) i address s
conditional_by of_port i address s = trap STORE_ACCESS_FAULT address

abbrev pub conditional_access : Instruction → State → Access
conditional_access i s = record { address = rs1 i s; width = 4; direction = access.Conditional (is_reserved s.reservation (rs1 i s)) }

unfoldable pub store_conditional : Instruction → State → Action
store_conditional i s = conditional_by (reached (conditional_access i s) s) i (rs1 i s) s

-- AMO: rd becomes the word of RAM, and that becomes what the kind makes of it and rs2. No port has it
abbrev pub amo_by : Reached → Instruction → ℕ → State → Action
amo_by (faulted cause) i address s = trap cause address
amo_by (of_ram page) i address s =
    let old = ram_number address 4 s
    in retire_next (with_rd i old (with_bytes address (to_le_bytes w32 (amo_value i.kind old (rs2 i s))) s))
amo_by of_port i address s = trap STORE_ACCESS_FAULT address

abbrev pub amo_access : Instruction → State → Access
amo_access i s = record { address = rs1 i s; width = 4; direction = access.Update }

unfoldable pub amo : Instruction → State → Action
amo i s = amo_by (reached (amo_access i s) s) i (rs1 i s) s
