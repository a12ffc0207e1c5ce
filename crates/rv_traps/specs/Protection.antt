-- Which accesses a machine may make, by its mode and its entries of memory protection.
-- RISC-V Privileged ISA 20211203, sections 3.1.6.3 and 3.7.1
use Rattle.std.specs.Prelude.{ℕ, Bool, ◌&&◌, not, if◌then◌else◌}
use Rattle.guest_pmp.specs.declared.access.Access.{Access}
use Rattle.guest_pmp.specs.declared.access.Access.TheVariants.{Fetch, Load, Store, Amo}
use Rattle.guest_pmp.specs.declared.access.Mode.{Mode}
use Rattle.guest_pmp.specs.Allowed.{allowed, is_machine}
use Rattle.guest_pmp.specs.Registers.{has_lock}
use Rattle.rv_traps.specs.declared.registers.CsrRegisters.{CsrRegisters}
use Rattle.rv_traps.specs.Registers.{previous_mode, modifies_privilege}

-- the mode of an access to data: in machine mode that in MPP, where MPRV is 1
abbrev pub data_mode : CsrRegisters → Mode
data_mode c = if is_machine c.mode && modifies_privilege c then previous_mode c else c.mode

-- the mode by whose rights an access is made
abbrev pub acting_mode : CsrRegisters → Access → Mode
acting_mode c Fetch = c.mode
acting_mode c Load = data_mode c
acting_mode c Store = data_mode c
acting_mode c Amo = data_mode c

-- an access is allowed
unfoldable pub allows : CsrRegisters → Access → ℕ → Bool
allows c access address = allowed c.pmp access (acting_mode c access) address

-- Everything is allowed: all accesses are made by the rights of machine mode, and no entry is locked.
abbrev pub is_unrestricted : CsrRegisters → Bool
is_unrestricted c = is_machine c.mode && (is_machine (data_mode c) && not (has_lock c.pmp))
