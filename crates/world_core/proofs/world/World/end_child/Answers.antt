use Rattle.world_core.proofs.Images.{written}
use Rattle.std.proofs.Common.{◌≡◌, ◌∷◌, true, sym, ◌∙◌, subst}
use Rattle.std.specs.BTreeMap.{get}
use Rattle.forest_tree.specs.Tree.{Branch}
use Rattle.machine_names.specs.NameOrder.{path_cmp}
use Rattle.world_core.specs.declared.cell.Cell.{Cell}
use Rattle.world_core.specs.Listed.{IsListed}
use Rattle.world_core.specs.Stirring.{IsStirring}
use Rattle.world_core.proofs.Ready.{IsListed-more, IsListed-first, IsCovered-more}
use Rattle.world_core.proofs.Leaving.{end-child, if-some-is}
use Rattle.world_core.proofs.world.World.end_child.Goals as goal

pub returns-in-Some-child_ended-clause-stirs : goal.returns-in-Some-child_ended-clause-stirs
returns-in-Some-child_ended-clause-stirs c depot f b leaving left whole =
    let x : Branch = record { ticket = c.args.ticket; child = c.args.index } in
    let parent = c.args.parent.now in
    let turn = c.in-Some-child_ended.turn in
    subst (λ list. IsStirring depot (record c.args.self.now { cells = c.get_mut.follows.lender c.child_ended.new.self; ready = list })
    f parent c.args.ticket c.args.index b 1) (sym c.push.ensures)
    (end-child depot c.args.self.now f parent x b c.args.outcome leaving left whole c.in-Some.cell.now c.child_ended.new.self
    (c.get_mut.follows.lender c.child_ended.new.self) (turn ∷ c.args.self.now.ready) c.in-Some.ensures.value
    (c.get_mut.follows.holds c.child_ended.new.self)
    (λ by_talk p a alone shows there awake. c.child_ended.ensures.shows depot parent by_talk p a b alone shows there awake left)
    (λ by_talk p a alone shows there awake. c.child_ended.ensures.ready depot parent by_talk p a b alone shows there awake left)
    (λ n. IsListed-more n turn c.args.self.now.ready) (λ n. IsCovered-more n turn c.args.self.now.ready)
    (λ resting p shows is. IsListed-first parent turn c.args.self.now.ready (c.in-Some-child_ended.ensures.turn depot parent resting p shows)))

pub returns-in_default-child_ended-clause-stirs : goal.returns-in_default-child_ended-clause-stirs
returns-in_default-child_ended-clause-stirs c depot f b leaving left whole =
    let x : Branch = record { ticket = c.args.ticket; child = c.args.index } in
    let parent = c.args.parent.now in
    end-child depot c.args.self.now f parent x b c.args.outcome leaving left whole c.in-Some.cell.now c.child_ended.new.self
    (c.get_mut.follows.lender c.child_ended.new.self) c.args.self.now.ready c.in-Some.ensures.value
    (c.get_mut.follows.holds c.child_ended.new.self)
    (λ by_talk p a alone shows there awake. c.child_ended.ensures.shows depot parent by_talk p a b alone shows there awake left)
    (λ by_talk p a alone shows there awake. c.child_ended.ensures.ready depot parent by_talk p a b alone shows there awake left)
    (λ n h. h) (λ n h. h)
    (λ resting p shows is.
    if-some-is (get path_cmp c.args.self.now.cells parent) c.in-Some.cell.now (λ (cell : Cell). cell.is_listed ≡ true → IsListed parent c.args.self.now.ready)
    c.in-Some.ensures.value (leaving.listed parent) (sym c.in_default-child_ended.ensures.listed ∙ is))

pub returns-in-Some-child_ended-clause-images : goal.returns-in-Some-child_ended-clause-images
returns-in-Some-child_ended-clause-images c images h =
    written images c.args.self.now.cells (c.get_mut.follows.lender c.child_ended.new.self) c.args.parent.now c.in-Some.cell.now c.child_ended.new.self
    c.in-Some.ensures.value (c.get_mut.follows.holds c.child_ended.new.self) (c.child_ended.ensures.images images c.args.parent.now) h

pub returns-in_default-child_ended-clause-images : goal.returns-in_default-child_ended-clause-images
returns-in_default-child_ended-clause-images c images h =
    written images c.args.self.now.cells (c.get_mut.follows.lender c.child_ended.new.self) c.args.parent.now c.in-Some.cell.now c.child_ended.new.self
    c.in-Some.ensures.value (c.get_mut.follows.holds c.child_ended.new.self) (c.child_ended.ensures.images images c.args.parent.now) h
