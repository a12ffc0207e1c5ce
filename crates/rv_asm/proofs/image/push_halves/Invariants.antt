use Rattle.std.proofs.Common.{◌≡◌, ◌++◌, take}
use Rattle.std.specs.List.{flat_map}
use Rattle.elf_load.specs.OneSegment.{half}
use Rattle.rv_asm.proofs.image.push_halves.Given as goal

abbrev pub invariant-loop-half : goal.invariant-loop-half
invariant-loop-half l = l.file.items ≡ l.initial.file.items ++ flat_map half (take l.half-index l.halves)
