use Rattle.std.proofs.Common.{subst}
use Rattle.guest_mem.specs.Ram.{IsRam}
use Rattle.guest_mem.proofs.Pages.{IsRam-ram_of}
use Rattle.guest_mem.proofs.memory.GuestMem.pages.Goals as goal

pub returns-clause-is_ram : goal.returns-clause-is_ram
returns-clause-is_ram c = subst IsRam c.self.view_is (IsRam-ram_of c.self.inside.entries c.self.inside.key c.self.invariant)
