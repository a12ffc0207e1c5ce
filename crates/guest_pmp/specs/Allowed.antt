-- Which accesses are allowed.
-- RISC-V Privileged ISA 20211203, sections 3.7.1 and 3.7.1.3
use Rattle.std.specs.Prelude.{◌≡◌, ℕ, Bool, true, false, ◌&&◌, ◌||◌, not, ◌⊎◌, Option, Some, None}
use Rattle.guest_pmp.specs.declared.access.Access.{Access}
use Rattle.guest_pmp.specs.declared.access.Access.TheVariants.{Fetch, Load, Store, Amo}
use Rattle.guest_pmp.specs.declared.access.Mode.{Mode}
use Rattle.guest_pmp.specs.declared.access.Mode.TheVariants.{User, Machine}
use Rattle.guest_pmp.specs.declared.registers.PmpRegisters.{PmpRegisters}
use Rattle.guest_pmp.specs.Registers.{can_read, can_write, can_execute, is_locked}
use Rattle.guest_pmp.specs.Regions.{deciding}

abbrev pub is_machine : Mode → Bool
is_machine User = false
is_machine Machine = true

abbrev pub permits : Access → ℕ → Bool
permits Fetch byte = can_execute byte
permits Load byte = can_read byte
permits Store byte = can_write byte
permits Amo byte = can_read byte && can_write byte

-- what the entry that decides says: it binds machine mode only where it is locked
abbrev pub lets : ℕ → Access → Mode → Bool
lets byte access mode = (is_machine mode && not (is_locked byte)) || permits access byte

abbrev pub decided : Option ℕ → Access → Mode → Bool
decided None access mode = is_machine mode
decided (Some byte) access mode = lets byte access mode

-- Whether an access is allowed: as the first entry says that matches its address, and where none does, in machine
-- mode alone.
abbrev pub allowed : PmpRegisters → Access → Mode → ℕ → Bool
allowed r access mode address = decided (deciding r address) access mode

abbrev pub IsAccessWidth : ℕ → Type 0
IsAccessWidth width = (width ≡ 1) ⊎ (width ≡ 2) ⊎ (width ≡ 4)
