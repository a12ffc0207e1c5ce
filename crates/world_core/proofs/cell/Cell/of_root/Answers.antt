use Rattle.world_core.proofs.Images.{no-brood}
use Rattle.std.proofs.Common.{[], refl, inl}
use Rattle.talking_history.specs.Places.{home}
use Rattle.vm_cell.specs.Keyed.{paged}
use Rattle.world_core.proofs.SlotBegins.{alone-awake, alone-holds}
use Rattle.world_core.proofs.cell.Cell.of_root.Goals as goal

pub returns-clause-shows : goal.returns-clause-shows
returns-clause-shows c depot resting inbox lives of_depot none = record {
  awake = alone-awake (paged c.args.vm.value) home inbox lives refl;
  kin = refl;
  state = (refl, inl refl);
  of_depot = of_depot;
  holds = alone-holds depot [] _ (paged c.args.vm.value) home inbox
      (record { no_brood = c.new.ensures.empty; no_line = c.new-2.ensures.items; no_length = c.new-2.ensures.len }) none;
}

pub returns-clause-images : goal.returns-clause-images
returns-clause-images c images path at = record { state = at; broods = no-brood images path c.new.result c.new.ensures.empty }
