-- A machine on lease that pages are sent to.
use Rattle.vm_cell.specs.Received.{without_here}
use Rattle.world_core.specs.Lent.{Lent, lent_as, vm_of}

-- all of it but which of its pages are here
abbrev pub lent_without_here : Lent → Lent
lent_without_here lease = lent_as lease.name lease.start lease.ran (without_here (vm_of lease))
