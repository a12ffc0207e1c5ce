use Rattle.std.proofs.Common.{◌≡◌, None, sym, ap, ◌∙◌, subst}
use Rattle.std.specs.Option.{IfSome}
use Rattle.std.specs.BTreeMap.{get}
use Rattle.forest_tree.specs.Tree.{Tree, machine}
use Rattle.machine_names.specs.Name.{child_path}
use Rattle.machine_names.specs.NameOrder.{path_cmp}
use Rattle.ready_queue.specs.Ready.{Ready}
use Rattle.vm_cell.specs.Keyed.{KeyedMachine, IsOfDepot, paged}
use Rattle.world_core.specs.Images.{HasImages, IsImageAt}
use Rattle.world_core.proofs.Leaving.{if-some-is}
use Rattle.world_core.proofs.Waking.{parent-there, sleeper-of, sleeper-siblings}
use Rattle.world_core.proofs.world.World.woken_child.Goals as goal
use Rattle.world_core.specs.Shows.{Member, paged_of}

pub unreachable-requires : goal.unreachable-requires
unreachable-requires c =
    let r = c.requires in
    parent-there c.args.depot.now c.args.self.now.cells c.args.parent.now c.args.ticket c.args.index r.0 r.1 r.2 c.in_default.ensures.value

pub woken-requires : goal.woken-requires
woken-requires c =
    let r = c.requires in
    let s = sleeper-of c.args.depot.now c.args.self.now.cells c.args.parent.now c.args.ticket c.args.index r.0 r.1 r.2 c.in-Some.cell.now c.in-Some.ensures.value in
    (c.args.parent.now, s.above, s.child, s.shows.holds, s.is_child, s.asleep, s.lives)

pub returns-clause-turn : goal.returns-clause-turn
returns-clause-turn c =
    c.in_ok-turn.ensures ∙ ap (λ n. let own : Ready = record { name = n; children = None } in own) (c.in_ok-copy.ensures ∙ c.in_ok-name.ensures)

pub returns-clause-machine : goal.returns-clause-machine
returns-clause-machine c = λ t h is.
    let s = sleeper-of c.args.depot.now c.args.self.now.cells c.args.parent.now c.args.ticket c.args.index t h is c.in-Some.cell.now c.in-Some.ensures.value in
    let woke = c.in_ok-vm.ensures.shows c.args.parent.now s.above s.child s.shows.holds s.is_child s.asleep s.lives
    (sleeper-siblings c.args.depot.now c.args.self.now.cells c.args.parent.now c.args.ticket c.args.index t c.in-Some.cell.now h s) in
    subst (λ o. IfSome o (λ (a : Tree Member). paged_of (machine a) ≡ paged c.in_ok-vm-2.vm.value)) (sym s.there)
    (sym (ap paged c.in_ok-vm-2.ensures.ok ∙ woke.0))

pub returns-clause-of_depot : goal.returns-clause-of_depot
returns-clause-of_depot c =
    let r = c.requires in
    let s = sleeper-of c.args.depot.now c.args.self.now.cells c.args.parent.now c.args.ticket c.args.index r.0 r.1 r.2 c.in-Some.cell.now c.in-Some.ensures.value in
    let woke = c.in_ok-vm.ensures.shows c.args.parent.now s.above s.child s.shows.holds s.is_child s.asleep s.lives
    (sleeper-siblings c.args.depot.now c.args.self.now.cells c.args.parent.now c.args.ticket c.args.index r.0 c.in-Some.cell.now r.1 s) in
    subst (λ (v : KeyedMachine). IsOfDepot c.args.depot.now v.key) (sym c.in_ok-vm-2.ensures.ok) woke.1

pub returns-clause-images : goal.returns-clause-images
returns-clause-images c = λ images h.
    let parent = c.args.parent.now in
    let woke = c.in_ok-vm.ensures.images images parent
    (if-some-is (get path_cmp c.args.self.now.cells parent) c.in-Some.cell.now (HasImages images parent) c.in-Some.ensures.value (h parent)) in
    subst (λ (v : KeyedMachine). IsImageAt images (child_path parent c.args.ticket c.args.index) v.key) (sym c.in_ok-vm-2.ensures.ok) woke
