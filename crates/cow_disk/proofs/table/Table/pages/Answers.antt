use Rattle.std.proofs.Common.{arith}
use Rattle.cow_disk.proofs.Tables.{count_most, flag_count, pages_count}
use Rattle.cow_disk.proofs.table.Table.pages.Goals as goal

pub returns : goal.returns
returns c =
    let sectors = c.self.inside.sectors in
    let here = c.self.inside.here.items in
    let total = pages_count sectors here c.self.invariant c.args.self.now c.self.view_is in
    let flags = flag_count sectors here c.self.invariant c.args.self.now c.self.view_is in
    let most = count_most sectors here c.self.invariant c.args.self.now c.self.view_is in
    record {
      value = omega (arith, c.len.ensures, flags, total);
      entries = omega (arith, c.len.ensures, flags);
      most = omega (arith, c.len.ensures, flags, total, most);
    }
