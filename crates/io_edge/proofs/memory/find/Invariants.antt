use Rattle.std.proofs.Common.{◌≡◌, drop}
use Rattle.io_edge.specs.Files.{file_named, named}
use Rattle.io_edge.proofs.memory.find.Given as goal

abbrev pub invariant-loop-other : goal.invariant-loop-other
invariant-loop-other l = file_named (named (drop l.other-index l.files)) l.name ≡ file_named (named l.files) l.name
