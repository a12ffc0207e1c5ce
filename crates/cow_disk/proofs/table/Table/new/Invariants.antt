use Rattle.std.proofs.Common.{◌≡◌, take}
use Rattle.cow_disk.proofs.table.Table.new.Given as goal

abbrev pub invariant-loop-sector : goal.invariant-loop-sector
invariant-loop-sector l = l.shared.items ≡ take l.sector-index l.sectors
