-- Where memory protection allows data to be accessed: for as long as the registers of control and status stay, but for the
-- counters.
use Rattle.std.specs.Prelude.{◌≡◌, ℕ, true}
use Rattle.guest_pmp.specs.Spans.{HasAddress}
use Rattle.guest_pmp.specs.declared.access.Access as protection
use Rattle.guest_pmp.specs.declared.access.Access.TheVariants as right
use Rattle.guest_pmp.specs.declared.span.Span.{Span}
use Rattle.rv_traps.specs.Protection.{allows}
use Rattle.rv_traps.specs.declared.registers.CsrRegisters.{CsrRegisters}
use Rattle.vm_hart.specs.declared.hart.window.Windows.{Windows}

-- this access is allowed at each address of a span
abbrev pub IsOpen : CsrRegisters → protection.Access → Span → Type 0
IsOpen c access span = (address : ℕ) → HasAddress span address → allows c access address ≡ true

pub record AreOpen (c : CsrRegisters) (windows : Windows) : Type 0 where
  pub loads : IsOpen c right.Load windows.loads
  pub stores : IsOpen c right.Store windows.stores
