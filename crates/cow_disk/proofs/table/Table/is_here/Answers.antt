use Rattle.std.proofs.Common.{false, sym, ◌∙◌, arith}
use Rattle.std.proofs.lemmas.List.{get_or_read}
use Rattle.cow_disk.proofs.Tables.{in_flags, flag_of}
use Rattle.cow_disk.proofs.table.Table.is_here.Goals as goal

pub index-requires : goal.index-requires
index-requires c =
    omega (arith, in_flags c.self.inside.sectors c.self.inside.here.items c.self.invariant c.args.self.now c.self.view_is c.args.page c.requires, c.self.inside.here.ok.0)

pub returns : goal.returns
returns c =
    let here = c.self.inside.here.items in
    let inside = in_flags c.self.inside.sectors here c.self.invariant c.args.self.now c.self.view_is c.args.page c.requires in
    get_or_read here c.args.page c.index.result.now inside c.index.ensures false
    ∙ sym (flag_of c.self.inside.sectors here c.self.invariant c.args.self.now c.self.view_is c.args.page)
