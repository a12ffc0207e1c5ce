use Rattle.std.proofs.Common.{◌≡◌, is_some, refl, sym, ap, ◌∙◌, subst}
use Rattle.std.specs.Option.{IfSome}
use Rattle.std.specs.BTreeMap.{get}
use Rattle.forest_tree.specs.Tree.{Tree, Path, machine, subtree, at_path}
use Rattle.talking_history.specs.Places.{out, placed}
use Rattle.machine_names.specs.Name.{child_path}
use Rattle.machine_names.specs.NameOrder.{path_cmp}
use Rattle.ready_queue.specs.Ready.{Ready}
use Rattle.vm_cell.specs.Keyed.{paged}
use Rattle.world_core.specs.Images.{IsImageAt, IsLentAt}
use Rattle.world_core.specs.Lent.{Lent, now_of}
use Rattle.world_core.specs.Answers.{IsLentOf}
use Rattle.world_core.specs.Popped.{ShowsCells, is_listed_in}
use Rattle.world_core.proofs.Images.{alike, no-lent, put, written}
use Rattle.world_core.proofs.Waking.{parent-there, parent-still, sleeper-at, lent-shows, woken-some, woken-listed, woken-cells, sleeper-no_cell}
use Rattle.world_core.proofs.Waking.{no-lease, no-start, not-ok, on-err}
use Rattle.world_core.proofs.world.World.wake.Goals as goal
use Rattle.world_core.specs.Shows.{Member, paged_of}
use Rattle.world_core.specs.World.{rests_in}

pub unreachable-requires : goal.unreachable-requires
unreachable-requires c =
    let r = c.requires in
    parent-there c.args.depot.now c.args.self.now.cells c.args.parent.now c.args.ticket c.args.index r.0 r.1 r.2
    (c.in_default.ensures.value
    ∙ parent-still c.args.self.now.cells c.seat.new.cells c.args.parent.now c.args.ticket c.args.index c.in_ok-name.name c.of_lent.result c.in_ok-name.ensures.name
    c.in_ok-seat.ensures.ok)

pub returns-in_err-name : goal.returns-in_err-name
returns-in_err-name c =
    let r = c.from_residual.result in
    let failed = c.from_residual.ensures.0 in
    let path : Path = child_path c.args.parent.now c.args.ticket c.args.index in
    let cells = c.args.self.now.cells in
    record {
      lease = no-lease c.args.depot.now path r failed;
      start = λ t h is. no-start t r failed;
      cells = λ t h is. not-ok (ShowsCells c.args.depot.now cells (at_path (placed out) path t)) r failed;
      same = on-err ((name : Path) → get path_cmp cells name ≡ get path_cmp cells name) r (λ name. refl);
      listed = λ name. refl;
      others = λ name other. refl;
      rest = (refl, refl, refl);
      told = refl;
      images = λ images h. (h, no-lent images r (IsLentAt images) failed);
    }

pub returns-in_err-again : goal.returns-in_err-again
returns-in_err-again c =
    let r = c.from_residual-in_err-again.result in
    let failed = c.from_residual-in_err-again.ensures.0 in
    let path : Path = child_path c.args.parent.now c.args.ticket c.args.index in
    let cells = c.args.self.now.cells in
    record {
      lease = no-lease c.args.depot.now path r failed;
      start = λ t h is. no-start t r failed;
      cells = λ t h is. not-ok (ShowsCells c.args.depot.now cells (at_path (placed out) path t)) r failed;
      same = on-err ((name : Path) → get path_cmp cells name ≡ get path_cmp cells name) r (λ name. refl);
      listed = λ name. refl;
      others = λ name other. refl;
      rest = (refl, refl, refl);
      told = refl;
      images = λ images h. (h, no-lent images r (IsLentAt images) failed);
    }

pub returns-in_err-kin : goal.returns-in_err-kin
returns-in_err-kin c =
    let r = c.from_residual-in_err-kin.result in
    let failed = c.from_residual-in_err-kin.ensures.0 in
    let path : Path = child_path c.args.parent.now c.args.ticket c.args.index in
    let cells = c.args.self.now.cells in
    record {
      lease = no-lease c.args.depot.now path r failed;
      start = λ t h is. no-start t r failed;
      cells = λ t h is. not-ok (ShowsCells c.args.depot.now cells (at_path (placed out) path t)) r failed;
      same = on-err ((name : Path) → get path_cmp cells name ≡ get path_cmp cells name) r (λ name. refl);
      listed = λ name. refl;
      others = λ name other. refl;
      rest = (refl, refl, refl);
      told = refl;
      images = λ images h. (h, no-lent images r (IsLentAt images) failed);
    }

pub returns-in_err-seat : goal.returns-in_err-seat
returns-in_err-seat c =
    let r = c.from_residual-in_err-seat.result in
    let failed = c.from_residual-in_err-seat.ensures.0 in
    let path : Path = child_path c.args.parent.now c.args.ticket c.args.index in
    let mid = c.seat.new.cells in
    let still : (name : Path) → get path_cmp mid name ≡ get path_cmp c.args.self.now.cells name = c.in_err-seat.ensures.err in
    record {
      lease = no-lease c.args.depot.now path r failed;
      start = λ t h is. no-start t r failed;
      cells = λ t h is. not-ok (ShowsCells c.args.depot.now mid (at_path (placed out) path t)) r failed;
      same = on-err ((name : Path) → get path_cmp mid name ≡ get path_cmp c.args.self.now.cells name) r still;
      listed = λ name. ap is_listed_in (still name);
      others = λ name other. ap is_some (still name);
      rest = (refl, refl, refl);
      told = refl;
      images = λ images h. (alike images c.args.self.now.cells mid still h, no-lent images r (IsLentAt images) failed);
    }

pub child_wakes-requires : goal.child_wakes-requires
child_wakes-requires c =
    let r = c.requires in
    let cells = c.args.self.now.cells in
    let s = sleeper-at cells c.seat.new.cells c.args.parent.now c.args.ticket c.args.index c.in_ok-name.name c.of_lent.result c.in-Some.cell.now c.in_ok-name.ensures.name
    c.in_ok-seat.ensures.ok c.in-Some.ensures.value c.args.depot.now r.0 r.1 r.2 in
    (c.args.depot.now, c.args.parent.now, s.above, s.child, s.shows.holds, s.is_child, s.asleep, s.lives)

pub returns-clause-lease : goal.returns-clause-lease
returns-clause-lease c =
    let path : Path = child_path c.args.parent.now c.args.ticket c.args.index in
    let named : c.in_ok-name.turn.name ≡ path = ap (λ (w : Ready). w.name) c.in_ok-name.ensures.turn in
    subst (λ (l : Lent). (l.name ≡ path) × (l.ran ≡ 0) × (l.now ≡ l.start) × IsLentOf c.args.depot.now l) (sym c.new.ensures)
    (named, refl, refl, c.in_ok-name.ensures.of_depot)

pub returns-clause-start : goal.returns-clause-start
returns-clause-start c = λ t h is.
    let named : c.in_ok-name.turn.name ≡ child_path c.args.parent.now c.args.ticket c.args.index = ap (λ (w : Ready). w.name) c.in_ok-name.ensures.turn in
    subst (λ (l : Lent). IfSome (subtree l.name t) (λ (a : Tree Member). paged_of (machine a) ≡ now_of l)) (sym c.new.ensures)
    (subst (λ n. IfSome (subtree n t) (λ (a : Tree Member). paged_of (machine a) ≡ paged c.in_ok-name.vm.value)) (sym named)
    (c.in_ok-name.ensures.machine t h is))

pub returns-clause-cells : goal.returns-clause-cells
returns-clause-cells c = λ t h is.
    let cells = c.args.self.now.cells in
    let waked = c.child_wakes.new.self in
    let s = sleeper-at cells c.seat.new.cells c.args.parent.now c.args.ticket c.args.index c.in_ok-name.name c.of_lent.result c.in-Some.cell.now c.in_ok-name.ensures.name
    c.in_ok-seat.ensures.ok c.in-Some.ensures.value c.args.depot.now t h is in
    let woke : paged_of (machine s.child) ≡ paged c.in_ok-name.vm.value
    = subst (λ o. IfSome o (λ (a : Tree Member). paged_of (machine a) ≡ paged c.in_ok-name.vm.value)) s.there (c.in_ok-name.ensures.machine t h is) in
    woken-cells cells c.seat.new.cells c.args.parent.now c.args.ticket c.args.index c.in_ok-name.name c.of_lent.result c.in-Some.cell.now c.in_ok-name.ensures.name
    c.in_ok-seat.ensures.ok c.in-Some.ensures.value (c.get_mut.follows.lender waked) waked (c.get_mut.follows.holds waked) c.args.depot.now t h s
    (lent-shows c.args.depot.now cells c.args.parent.now c.args.ticket c.args.index t c.in-Some.cell.now c.of_lent.result (paged c.in_ok-name.vm.value) h s
    (sym woke) (λ depot path resting inbox. c.of_lent.ensures.shows depot path resting inbox c.in_ok-name.vm.value))
    (c.child_wakes.ensures.shows c.args.depot.now c.args.parent.now (rests_in t c.args.parent.now) s.above s.child s.shows s.is_child s.asleep s.lives
    (c.in_ok-again.ensures ∙ c.in_ok-name.ensures.name))

pub returns-clause-listed : goal.returns-clause-listed
returns-clause-listed c =
    let cells = c.args.self.now.cells in
    let waked = c.child_wakes.new.self in
    let r = c.requires in
    let s = sleeper-at cells c.seat.new.cells c.args.parent.now c.args.ticket c.args.index c.in_ok-name.name c.of_lent.result c.in-Some.cell.now c.in_ok-name.ensures.name
    c.in_ok-seat.ensures.ok c.in-Some.ensures.value c.args.depot.now r.0 r.1 r.2 in
    woken-listed cells c.seat.new.cells c.args.parent.now c.args.ticket c.args.index c.in_ok-name.name c.of_lent.result c.in-Some.cell.now c.in_ok-name.ensures.name
    c.in_ok-seat.ensures.ok c.in-Some.ensures.value (c.get_mut.follows.lender waked) waked (c.get_mut.follows.holds waked)
    (ap (λ n. get path_cmp cells n) c.in_ok-name.ensures.name
    ∙ sleeper-no_cell c.args.depot.now cells c.args.parent.now c.args.ticket c.args.index r.0 c.in-Some.cell.now r.1 s)
    c.of_lent.ensures.listed c.child_wakes.ensures.place.0

pub returns-clause-others : goal.returns-clause-others
returns-clause-others c =
    let cells = c.args.self.now.cells in
    let waked = c.child_wakes.new.self in
    woken-some cells c.seat.new.cells c.args.parent.now c.args.ticket c.args.index c.in_ok-name.name c.of_lent.result c.in-Some.cell.now c.in_ok-name.ensures.name
    c.in_ok-seat.ensures.ok c.in-Some.ensures.value (c.get_mut.follows.lender waked) waked (c.get_mut.follows.holds waked)

pub returns-clause-images : goal.returns-clause-images
returns-clause-images c = λ images h.
    let cells = c.args.self.now.cells in
    let mid = c.seat.new.cells in
    let parent = c.args.parent.now in
    let path : Path = child_path parent c.args.ticket c.args.index in
    let waked = c.child_wakes.new.self in
    let named : c.in_ok-name.turn.name ≡ path = ap (λ (w : Ready). w.name) c.in_ok-name.ensures.turn in
    let boxed : IsImageAt images path c.in_ok-name.vm.value.key = c.in_ok-name.ensures.images images h in (
      written images mid (c.get_mut.follows.lender waked) parent c.in-Some.cell.now waked c.in-Some.ensures.value
          (c.get_mut.follows.holds waked) (c.child_wakes.ensures.images images parent)
          (put images cells mid c.in_ok-name.name c.of_lent.result c.in_ok-seat.ensures.ok (c.of_lent.ensures.images images c.in_ok-name.name) h),
      subst (IsLentAt images) (sym c.new.ensures) (subst (λ n. IsImageAt images n c.in_ok-name.vm.value.key) (sym named) boxed),
    )

pub new-requires-clause-own : goal.new-requires-clause-own
new-requires-clause-own c = ap (λ (w : Ready). w.children) c.in_ok-name.ensures.turn

pub new-requires-clause-kin : goal.new-requires-clause-kin
new-requires-clause-kin c =
    (c.args.ticket, c.args.index, ap (λ (w : Ready). w.name) c.in_ok-name.ensures.turn ∙ ap (λ p. child_path p c.args.ticket c.args.index) (sym c.in_ok-kin.ensures))
