use Rattle.cow_disk.proofs.Sectors.{sector_at-with_sector, sector_at-with_sector_other, length-with_sector}
use Rattle.cow_disk.proofs.laws.write_changes_one_sector.Goals as goal

pub returns : goal.returns
returns c = record { written = sector_at-with_sector; others = sector_at-with_sector_other; length_stays = length-with_sector }
