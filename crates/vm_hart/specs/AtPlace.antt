-- The answer to a page that came, by its place.
use Rattle.std.specs.Prelude.{ℕ}
use Rattle.cow_disk.specs.declared.arrived.Arrived.{Arrived}
use Rattle.cow_disk.specs.declared.arrived.Arrived.TheVariants.{Got, Had}

abbrev pub at_place : ℕ → Arrived → Arrived
at_place place (Got page) = Got place
at_place place (Had page) = Had place
