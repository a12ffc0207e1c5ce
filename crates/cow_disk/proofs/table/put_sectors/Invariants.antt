use Rattle.cow_disk.proofs.Rows.{IsWritten}
use Rattle.cow_disk.proofs.table.put_sectors.Given as goal

abbrev pub invariant-row : goal.invariant-row
invariant-row l = IsWritten l.fn.sectors l.first l.row l.n l.sectors
