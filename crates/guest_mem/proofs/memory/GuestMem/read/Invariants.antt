use Rattle.std.proofs.Common.{◌≡◌, length, take, drop}
use Rattle.guest_mem.proofs.memory.GuestMem.read.Given as goal

abbrev pub invariant-loop-place : goal.invariant-loop-place
invariant-loop-place l = (length l.bytes ≡ length l.fn.bytes) × (take l.place l.bytes ≡ take l.place (drop l.at l.self.reads))
