use Rattle.std.proofs.Common.{List, ℕ, ap, ◌∙◌}
use Rattle.std.specs.List.{concat}
use Rattle.cow_disk.specs.Disk.{sector_count}
use Rattle.cow_disk.specs.Paged.{disk_over, here_pages, paged_disk}
use Rattle.cow_disk.proofs.Tables.{in_list, reads_written, pages_written, count_written}
use Rattle.cow_disk.proofs.table.Table.write.Goals as goal

pub write_one-requires : goal.write_one-requires
write_one-requires c = in_list c.self.inside.sectors c.self.inside.here.items c.self.invariant c.args.self.now c.self.view_is c.args.n c.requires.there

pub returns-clause-ok : goal.returns-clause-ok
returns-clause-ok c =
    let here = c.self.inside.here.items in
    let wrote = c.in_ok-write_one.ensures in
    λ below.
    ap (λ (s : List (List ℕ)). disk_over (paged_disk (concat s) here) below) wrote.ok
    ∙ reads_written c.self.inside.sectors here c.self.invariant c.args.self.now c.self.view_is c.args.n c.requires c.args.bytes.now wrote.full below

pub returns-clause-pages : goal.returns-clause-pages
returns-clause-pages c =
    let here = c.self.inside.here.items in
    let wrote = c.in_ok-write_one.ensures in
    ap (λ (s : List (List ℕ)). here_pages (paged_disk (concat s) here)) wrote.ok
    ∙ pages_written c.self.inside.sectors here c.self.invariant c.args.self.now c.self.view_is c.args.n c.requires c.args.bytes.now wrote.full

pub returns-clause-sectors : goal.returns-clause-sectors
returns-clause-sectors c =
    let here = c.self.inside.here.items in
    let wrote = c.in_ok-write_one.ensures in
    ap (λ (s : List (List ℕ)). sector_count (concat s)) wrote.ok
    ∙ count_written c.self.inside.sectors here c.self.invariant c.args.self.now c.self.view_is c.args.n c.requires c.args.bytes.now wrote.full
