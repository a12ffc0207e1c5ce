-- A guest whose image has no disk: the pages of the image are those of RAM alone.
use Rattle.std.proofs.Common.{Bool, List, Option, Some, None, arith}
use Rattle.image_depot.specs.Key.{Key}
use Rattle.image_depot.specs.Receiver.{HasAbsent}
use Rattle.guest_mem.specs.Ram.{HasAbsentPages}
use Rattle.memory_tests.specs.Wants.{HasNoDisk}

pub has_absent : (key : Option Key) (here : List Bool) → HasNoDisk key → HasAbsentPages key here → HasAbsent key here
has_absent (Some key) here none has = omega (arith, none, has)
has_absent None here none has = has
