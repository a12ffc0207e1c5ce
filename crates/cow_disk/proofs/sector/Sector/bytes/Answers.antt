use Rattle.std.proofs.Common.{sym, ap, ◌∙◌}
use Rattle.std.specs.Arc.{arc_value}
use Rattle.std.specs.Option.{option_map_or}
use Rattle.flat_memory.specs.Flat.{zeros}
use Rattle.cow_disk.specs.declared.disk.TheConstants.{SECTOR_SIZE}
use Rattle.cow_disk.proofs.sector.Sector.bytes.Goals as goal

pub returns-in-None : goal.returns-in-None
unfolding zeros
returns-in-None c = ap (λ held. option_map_or arc_value held (zeros SECTOR_SIZE)) (sym c.in-None.is) ∙ c.self.view_is
