use Rattle.std.proofs.Common.{rules}
use Rattle.guest_mem.proofs.memory.GuestMem.store.Goals as goal

pub returns-in-2-clause-ok : goal.returns-in-2-clause-ok
returns-in-2-clause-ok c = search rules
