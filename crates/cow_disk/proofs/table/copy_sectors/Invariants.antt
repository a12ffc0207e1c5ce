use Rattle.std.proofs.Common.{◌≡◌, ◌*◌, take, drop}
use Rattle.std.specs.List.{concat}
use Rattle.cow_disk.specs.declared.disk.TheConstants.{SECTOR_SIZE}
use Rattle.cow_disk.specs.Paged.{padded}
use Rattle.cow_disk.proofs.table.copy_sectors.Given as goal

abbrev pub invariant-row : goal.invariant-row
invariant-row l = l.bytes ≡ padded (take (SECTOR_SIZE * l.n) (drop (SECTOR_SIZE * l.first) (concat l.sectors)))
