use Rattle.std.proofs.Common.{arith}
use Rattle.guest_pmp.proofs.Locks.{any-locked}
use Rattle.guest_pmp.proofs.registers.PmpRegisters.has_lock.Goals as goal

pub returns : goal.returns
returns c = any-locked c.args.self.now.configurations c.from_le_bytes.result (grind arith) c.requires c.from_le_bytes.ensures
