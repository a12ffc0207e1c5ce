use Rattle.std.proofs.Common.{refl, sym, ap, subst}
use Rattle.std.specs.BTreeMap.{get}
use Rattle.machine_names.specs.NameOrder.{path_cmp}
use Rattle.world_core.specs.World.{ShowsEach}
use Rattle.world_core.specs.declared.world.World.{World}
use Rattle.world_core.proofs.Images as images_of
use Rattle.world_core.proofs.Returns.{some-is, written-apart, written-here}
use Rattle.world_core.proofs.Stirs.{middle-slot, none-above, none-awake, same-cells, same-images, set-images, stir-each}
use Rattle.world_core.proofs.world.World.stir.Goals as goal

pub returns-in_default-clause-each : goal.returns-in_default-clause-each
returns-in_default-clause-each c depot before after t whole root each wakes =
    subst (λ v. ShowsEach depot after v t) (sym (ap (λ cells. record c.args.self.now { cells = cells }) c.get_mut.follows.holds-at-none))
    (none-above depot c.args.self.now t before after c.args.change c.args.parent.now c.args.ticket c.args.index whole root each wakes (sym c.in_default.ensures.value))

pub returns-in_default-take_name-clause-each : goal.returns-in_default-take_name-clause-each
returns-in_default-take_name-clause-each c depot before after t whole root each wakes =
    let w = c.args.self.now in
    let d = c.take_name.new.self in
    let cells = c.get_mut.follows.lender d in
    same-cells depot w cells c.args.parent.now c.in-Some.cell.now d after t c.in-Some.ensures.value (c.get_mut.follows.holds d) c.in_default-take_name.ensures.0
    (none-awake depot w t before after c.args.change c.args.parent.now c.args.ticket c.args.index whole root each wakes c.in-Some.cell.now (sym c.in-Some.ensures.value)
    c.in_default-take_name.ensures.1)

pub returns-in_default-take_name-clause-images : goal.returns-in_default-take_name-clause-images
returns-in_default-take_name-clause-images c images h =
    let d = c.take_name.new.self in
    images_of.written images c.args.self.now.cells (c.get_mut.follows.lender d) c.args.parent.now c.in-Some.cell.now d c.in-Some.ensures.value (c.get_mut.follows.holds d)
    (same-images images c.args.parent.now c.in-Some.cell.now d c.in_default-take_name.ensures.0) h

pub put_name-requires-clause-asleep : goal.put_name-requires-clause-asleep
put_name-requires-clause-asleep c =
    let w : World = c.args.self.now in
    let parent = c.args.parent.now in
    let d = c.take_name.new.self in
    let m = c.in-Some-get_mut.cell.now in
    let cells = c.get_mut.follows.lender d in
    let written = c.get_mut.follows.holds d in
    let some = some-is c.in-Some.cell.now (get path_cmp w.cells parent) c.in-Some.ensures.value in
    middle-slot c.args.change w (record w { cells = cells }) c.rouse.new.self parent c.in-Some-take_name.name c.args.ticket c.args.index c.in-Some.cell.now d m m
    (sym c.in-Some.ensures.value) c.in-Some-take_name.ensures.0 c.in-Some-take_name.ensures.1 (written-here w.cells cells parent d written some)
    (written-apart w.cells cells parent d written some) c.rouse.ensures.rouses (sym c.in-Some-get_mut.ensures.value)

pub returns-clause-each : goal.returns-clause-each
returns-clause-each c depot before after t whole root each wakes =
    let w : World = c.args.self.now in
    let parent = c.args.parent.now in
    let d = c.take_name.new.self in
    let e = c.put_name.new.self in
    let m = c.in-Some-get_mut.cell.now in
    let told : World = c.rouse.new.self in
    let cells = c.get_mut.follows.lender d in
    let last = c.get_mut-2.follows.lender e in
    let written = c.get_mut.follows.holds d in
    let written_last = c.get_mut-2.follows.holds e in
    let some = some-is c.in-Some.cell.now (get path_cmp w.cells parent) c.in-Some.ensures.value in
    let some_last = some-is m (get path_cmp told.cells parent) c.in-Some-get_mut.ensures.value in
    stir-each depot w t before after c.args.change parent c.args.ticket c.args.index whole root each wakes (record w { cells = cells }) told
    (record told { cells = last }) c.in-Some-take_name.name c.in-Some.cell.now d m e (sym c.in-Some.ensures.value) c.requires c.in-Some-take_name.ensures.0
    c.in-Some-take_name.ensures.1 (written-here w.cells cells parent d written some) (written-apart w.cells cells parent d written some) refl
    c.rouse.ensures.rouses (sym c.in-Some-get_mut.ensures.value) c.put_name.ensures (written-here told.cells last parent e written_last some_last)
    (written-apart told.cells last parent e written_last some_last) refl

pub returns-clause-images : goal.returns-clause-images
returns-clause-images c images h =
    let parent = c.args.parent.now in
    let d = c.take_name.new.self in
    let e = c.put_name.new.self in
    let m = c.in-Some-get_mut.cell.now in
    images_of.written images c.rouse.new.self.cells (c.get_mut-2.follows.lender e) parent m e c.in-Some-get_mut.ensures.value (c.get_mut-2.follows.holds e)
    (set-images images parent _ c.args.ticket c.args.index m e c.put_name.ensures)
    (c.rouse.ensures.images images
    (images_of.written images c.args.self.now.cells (c.get_mut.follows.lender d) parent c.in-Some.cell.now d c.in-Some.ensures.value (c.get_mut.follows.holds d)
    (set-images images parent _ c.args.ticket c.args.index c.in-Some.cell.now d c.in-Some-take_name.ensures.1) h))
