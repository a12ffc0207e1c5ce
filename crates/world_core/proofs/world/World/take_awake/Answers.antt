use Rattle.world_core.proofs.AtName.{found-by, writes-by}
use Rattle.world_core.proofs.Leaving.{if-some-is}
use Rattle.world_core.specs.Images.{AreTakenAt, HaveImages, IsLentAt, HasImages}
use Rattle.world_core.proofs.Images.{written}
use Rattle.std.proofs.Common.{◌≡◌, sym, ap, ◌∙◌, subst, rules}
use Rattle.std.specs.BTreeMap.{get}
use Rattle.machine_names.specs.NameOrder.{path_cmp}
use Rattle.forest_tree.specs.Tree.{Path}
use Rattle.talking_history.specs.Rows.{took}
use Rattle.world_core.specs.declared.cell.Cell.{Cell}
use Rattle.world_core.specs.declared.world.World.{World}
use Rattle.world_core.specs.World.{rests_in}
use Rattle.world_core.specs.Kin.{IsKin}
use Rattle.world_core.specs.Lent.{Lent}
use Rattle.world_core.specs.Answers.{Goes, IsLentOf, Starts}
use Rattle.world_core.specs.Popped.{TakesBy}
use Rattle.world_core.proofs.TurnOfOne.{awake-gone, awake-idle, awake-kin, awake-taken, kin-free}
use Rattle.world_core.proofs.world.World.take_awake.Goals as goal

pub returns-in_err-cell-clause-takes : goal.returns-in_err-cell-clause-takes
returns-in_err-cell-clause-takes c = λ depot f h.
    let cells = c.get_mut.follows.lender-at-none in
    let after : World = record c.args.self.now { cells = cells } in
    subst (λ r. TakesBy depot f r after) (sym c.from_residual.ensures)
    (awake-gone depot c.args.turn c.args.self.now f c.requires.one h c.requires.going.0 cells
    (found-by c.args.self.now.cells c.name.ensures c.in_err-cell.ensures.value)
    (λ n. ap (λ cells. get path_cmp cells n) c.get_mut.follows.holds-at-none))

pub returns-in_err-vm-clause-takes : goal.returns-in_err-vm-clause-takes
returns-in_err-vm-clause-takes c = λ depot f h.
    let name : Path = c.args.turn.name in
    let cells = c.get_mut.follows.lender c.lend.new.self in
    let after : World = record c.args.self.now { cells = cells } in
    subst (λ r. TakesBy depot f r after) (sym c.from_residual-in_err-vm.ensures)
    (awake-idle depot c.args.turn c.args.self.now f c.requires.one h c.requires.going.0 c.in_ok-cell.cell.now
    (found-by c.args.self.now.cells c.name.ensures c.in_ok-cell.ensures.value) cells c.lend.new.self
    (writes-by c.args.self.now.cells cells c.lend.new.self c.name.ensures (c.get_mut.follows.holds c.lend.new.self))
    (c.in_err-vm.ensures.shows depot name (rests_in f.tree name)))

pub returns-clause-takes : goal.returns-clause-takes
returns-clause-takes c = λ depot f h.
    let name : Path = c.args.turn.name in
    let lent : Cell = record c.lend.new.self { kin = c.take-kin.new.self } in
    let cells = c.get_mut.follows.lender lent in
    let after : World = record c.args.self.now { cells = cells } in
    subst (λ (lease : Lent). Goes depot f (took lease.name) after × Starts f lease × IsLentOf depot lease) (sym c.new.ensures)
    (awake-taken depot c.args.turn c.args.self.now f c.requires.one h c.requires.going.0 c.in_ok-cell.cell.now
    (found-by c.args.self.now.cells c.name.ensures c.in_ok-cell.ensures.value) cells lent
    (writes-by c.args.self.now.cells cells lent c.name.ensures (c.get_mut.follows.holds lent))
    c.in_ok-vm.vm.value c.requires.going.1 c.in_ok-vm.ensures.place.0
    (λ t shows.
    let is = c.in_ok-vm.ensures.shows depot name (rests_in f.tree name) t shows in
    (is.0, is.1, is.2, is.3, kin-free depot name (rests_in f.tree name) c.lend.new.self c.take-kin.new.self t is.4)))

pub new-requires-clause-kin : goal.new-requires-clause-kin
new-requires-clause-kin c =
    let r = c.requires.world in
    let name : Path = c.args.turn.name in
    let same : c.take-kin.result ≡ c.lend.new.self.kin = search rules in
    subst (λ kin. IsKin kin name) (sym (same ∙ c.in_ok-vm.ensures.place.1))
    (awake-kin r.0 c.args.turn c.args.self.now r.1.0 c.requires.one r.1.1 c.requires.going.0 c.in_ok-cell.cell.now
    (found-by c.args.self.now.cells c.name.ensures c.in_ok-cell.ensures.value)
    (λ t shows. c.in_ok-vm.ensures.shows r.0 name (rests_in r.1.0.tree name) t shows))

pub returns-in_err-cell-clause-images : goal.returns-in_err-cell-clause-images
returns-in_err-cell-clause-images c = λ images h. (
  subst (HaveImages images) (sym c.get_mut.follows.holds-at-none) h,
  subst (AreTakenAt images) (sym c.from_residual.ensures) tt,
)

pub returns-in_err-vm-clause-images : goal.returns-in_err-vm-clause-images
returns-in_err-vm-clause-images c = λ images h.
    let name : Path = c.args.turn.name in
    let cells = c.get_mut.follows.lender c.lend.new.self in (
      written images c.args.self.now.cells cells name c.in_ok-cell.cell.now c.lend.new.self
          (found-by c.args.self.now.cells c.name.ensures c.in_ok-cell.ensures.value)
          (writes-by c.args.self.now.cells cells c.lend.new.self c.name.ensures (c.get_mut.follows.holds c.lend.new.self))
          (λ was. (c.in_err-vm.ensures.images images name (record { state = was.state; broods = was.broods })).0) h,
      subst (AreTakenAt images) (sym c.from_residual-in_err-vm.ensures) tt,
    )

pub returns-clause-images : goal.returns-clause-images
returns-clause-images c = λ images h.
    let name : Path = c.args.turn.name in
    let after : Cell = record c.lend.new.self { kin = c.take-kin.new.self } in
    let cells = c.get_mut.follows.lender after in
    let found = found-by c.args.self.now.cells c.name.ensures c.in_ok-cell.ensures.value in
    let was = if-some-is (get path_cmp c.args.self.now.cells name) c.in_ok-cell.cell.now (HasImages images name) found (h name) in
    let lent = c.in_ok-vm.ensures.images images name (record { state = was.state; broods = was.broods }) in (
      written images c.args.self.now.cells cells name c.in_ok-cell.cell.now after found
          (writes-by c.args.self.now.cells cells after c.name.ensures (c.get_mut.follows.holds after))
          (λ same. record { state = lent.0.state; broods = lent.0.broods }) h,
      subst (IsLentAt images) (sym c.new.ensures) lent.1,
    )
