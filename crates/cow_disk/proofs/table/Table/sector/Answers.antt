use Rattle.std.proofs.Common.{[], sym, ◌∙◌}
use Rattle.std.proofs.lemmas.List.{get_or_read}
use Rattle.cow_disk.proofs.Tables.{in_list, sector_of}
use Rattle.cow_disk.proofs.table.Table.sector.Goals as goal

pub get-requires : goal.get-requires
get-requires c = in_list c.self.inside.sectors c.self.inside.here.items c.self.invariant c.args.self.now c.self.view_is c.args.n c.requires.there

pub returns : goal.returns
returns c =
    let sectors = c.self.inside.sectors in
    let below = in_list sectors c.self.inside.here.items c.self.invariant c.args.self.now c.self.view_is c.args.n c.requires.there in
    λ under.
    c.bytes.ensures
    ∙ get_or_read sectors c.args.n c.get.result.now below c.get.ensures []
    ∙ sym (sector_of sectors c.self.inside.here.items c.self.invariant c.args.self.now c.self.view_is c.args.n c.requires under)
