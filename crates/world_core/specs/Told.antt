-- The replies that a world was told.
use Rattle.std.specs.Prelude.{List}
use Rattle.std.specs.List.{All}
use Rattle.image_depot.specs.Key.{Shelves}
use Rattle.image_depot.specs.Reply.{Delivery, IsSentOf}
use Rattle.world_core.specs.declared.world.World.{World}

-- in their order
abbrev pub told_of : World → List Delivery
told_of w = w.told.items

-- this depot keeps all of them
abbrev pub AreKept : Shelves → World → Type 0
AreKept depot w = All (IsSentOf depot) (told_of w)
