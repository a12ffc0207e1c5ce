use Rattle.world_core.proofs.Images.{no-brood}
use Rattle.std.proofs.Common.{refl}
use Rattle.talking_history.specs.Places.{out}
use Rattle.vm_cell.specs.Keyed.{paged}
use Rattle.world_core.proofs.SlotBegins.{alone-awake, alone-holds}
use Rattle.world_core.proofs.cell.Cell.of_lent.Goals as goal

pub returns-clause-shows : goal.returns-clause-shows
returns-clause-shows c depot path resting inbox vm lives none = record {
  awake = alone-awake (paged vm) out inbox lives refl;
  kin = tt;
  state = refl;
  of_depot = tt;
  holds = alone-holds depot path _ (paged vm) out inbox
      (record { no_brood = c.new.ensures.empty; no_line = c.new-2.ensures.items; no_length = c.new-2.ensures.len }) none;
}

pub returns-clause-images : goal.returns-clause-images
returns-clause-images c images path = record { state = tt; broods = no-brood images path c.new.result c.new.ensures.empty }
