use Rattle.std.proofs.Common.{◌≡◌, length, take}
use Rattle.vm_descriptor.specs.Described.{numbers_from}
use Rattle.vm_descriptor.proofs.read.doubles_at.Given as goal

abbrev pub invariant-loop-index : goal.invariant-loop-index
invariant-loop-index g l = (length l.doubles ≡ g.row.N) × (take l.index l.doubles ≡ numbers_from 8 l.index l.at l.bytes)
