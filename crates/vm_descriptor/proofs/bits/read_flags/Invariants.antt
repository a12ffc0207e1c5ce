use Rattle.std.proofs.Common.{◌≡◌, ◌++◌, length, drop}
use Rattle.vm_descriptor.specs.MadeRuns.{IsInTurn, from_the_start}
use Rattle.vm_descriptor.specs.Maps.{flags_of}
use Rattle.vm_descriptor.proofs.bits.read_flags.Given as goal

abbrev pub invariant-words : goal.invariant-words
invariant-words l = record { in_turn : IsInTurn l.runs; so_far : from_the_start l.runs ++ flags_of l.left l.bytes ≡ flags_of l.count l.map }

abbrev pub decreases-words : goal.decreases-words
decreases-words l = length l.bytes

abbrev pub invariant-loop-byte : goal.invariant-loop-byte
invariant-loop-byte l = record { in_turn : IsInTurn l.runs; so_far : from_the_start l.runs ++ flags_of l.left (drop l.byte-index l.byte-items) ≡ flags_of l.count l.map }
