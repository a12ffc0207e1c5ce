use Rattle.world_core.specs.Images.{AreOfImages}
use Rattle.world_core.proofs.Images.{alike, taken-out}
use Rattle.std.proofs.Common.{◌≡◌, refl, sym, ap, ◌∙◌, subst}
use Rattle.std.specs.BTreeMap.{BTreeMap, get}
use Rattle.std.specs.Option.{IfSome}
use Rattle.image_depot.specs.Key.{Shelves}
use Rattle.forest_tree.specs.Tree.{Tree, Branch, Path, machine}
use Rattle.talking_history.specs.Places.{home, placed}
use Rattle.forest_model.specs.Paged.{Paged}
use Rattle.machine_names.specs.Name.{child_path}
use Rattle.vm_cell.specs.Keyed.{paged}
use Rattle.machine_names.specs.NameOrder.{path_cmp}
use Rattle.world_core.specs.declared.cell.Cell.{Cell}
use Rattle.world_core.specs.declared.world.World.{World}
use Rattle.world_core.specs.Shows.{Member, paged_of, ended_tree}
use Rattle.world_core.specs.World.{Forest, IsForest, StandsFor}
use Rattle.world_core.specs.Between.{HasLeft, IsBetween, IsLeaving, TakesOut, with_tree}
use Rattle.world_core.proofs.Finishing.{between-leaves, child-counts, left-by, outcome-wanted, parent-known, root-leaves, taken-holds}
use Rattle.world_core.proofs.Leaving.{if-some-is, left-ended}
use Rattle.world_core.proofs.world.World.finish.Goals as goal
use Rattle.world_core.proofs.world.World.finish.Goals.{in-Some-pop, in-None+in-Some-1, in-None+in-None-1}

-- the cell that was taken out is that of the turn's name
taken-by : (old new : BTreeMap Path Cell) (name made : Path) (cell : Cell) → made ≡ name → TakesOut old new made cell → TakesOut old new name cell
taken-by old new name made cell e h = subst (λ n. TakesOut old new n cell) e h

-- some forest with which the world is in the middle of the call
abbrev Known : World → Path → Paged → Type 0
Known w name vm = (depot : Shelves) × (f : Forest) × (a : Tree Member) × IsBetween depot w f name a × (paged_of (machine a) ≡ vm)

known-by : (w : World) (new : BTreeMap Path Cell) (name : Path) (vm : Paged) (cell : Cell) → TakesOut w.cells new name cell
    → IfSome (get path_cmp w.cells name) (λ (c : Cell). Known w name vm) → Known w name vm
known-by w new name vm cell taken h = if-some-is (get path_cmp w.cells name) cell (λ (c : Cell). Known w name vm) (sym taken.was) h

pub into_outcome-outcome-requires : goal.into_outcome-outcome-requires
into_outcome-outcome-requires c =
    let w = c.args.self.now in
    let name = c.args.turn.name in
    let cell = c.in-Some.cell in
    let named = c.into_name-name.ensures in
    let taken = taken-by w.cells c.take_out.new.cells name c.into_name-name.result cell named c.in-Some.ensures.1 in
    let k = known-by w c.take_out.new.cells name (paged c.args.vm.value) cell taken c.requires.between in
    outcome-wanted k.0 name cell k.2 (paged c.args.vm.value) c.args.ending k.4 c.requires.ended
    (taken-holds k.0 w k.1 name k.2 k.3 c.take_out.new.cells cell taken) k.3.own c.in-Some.key (c.in-Some.ensures.0 ∙ named)

pub end_child-requires : goal.end_child-requires
end_child-requires c =
    let w = c.args.self.now in
    let name = c.args.turn.name in
    let cell = c.in-Some.cell in
    let named = c.into_name-name.ensures in
    let taken = taken-by w.cells c.take_out.new.cells name c.into_name-name.result cell named c.in-Some.ensures.1 in
    let k = known-by w c.take_out.new.cells name (paged c.args.vm.value) cell taken c.requires.between in
    let x : Branch = record { ticket = c.in-Some-pop.ticket; child = c.in-Some-pop.index } in
    let left : World = record w { cells = c.take_out.new.cells } in
    parent-known k.0 left k.1 c.pop.new.self x
    (subst (IsLeaving k.0 left k.1) (sym named ∙ c.in-Some-pop.ensures) (between-leaves k.0 w k.1 name k.2 k.3 c.take_out.new.cells cell taken))

pub stir_siblings-requires : goal.stir_siblings-requires
stir_siblings-requires c =
    let w = c.args.self.now in
    let name = c.args.turn.name in
    let cell = c.in-Some.cell in
    let named = c.into_name-name.ensures in
    let taken = taken-by w.cells c.take_out.new.cells name c.into_name-name.result cell named c.in-Some.ensures.1 in
    let k = known-by w c.take_out.new.cells name (paged c.args.vm.value) cell taken c.requires.between in
    let x : Branch = record { ticket = c.in-Some-pop.ticket; child = c.in-Some-pop.index } in
    let left : World = record w { cells = c.take_out.new.cells } in
    child-counts k.0 left k.1 c.pop.new.self x
    (subst (IsLeaving k.0 left k.1) (sym named ∙ c.in-Some-pop.ensures) (between-leaves k.0 w k.1 name k.2 k.3 c.take_out.new.cells cell taken))

pub returns-clause-finished : goal.returns-clause-finished
returns-clause-finished c depot f a between same whole =
    let w = c.args.self.now in
    let name = c.args.turn.name in
    let cell = c.in-Some.cell in
    let b : Tree Member = placed home (ended_tree a) in
    let named = c.into_name-name.ensures in
    let taken = taken-by w.cells c.take_out.new.cells name c.into_name-name.result cell named c.in-Some.ensures.1 in
    let leaving = between-leaves depot w f name a between c.take_out.new.cells cell taken in
    let outcome = c.into_outcome-outcome.result in
    let left = left-by depot name cell a (paged c.args.vm.value) c.args.ending same c.requires.ended f between.heard
    (taken-holds depot w f name a between c.take_out.new.cells cell taken) between.own c.in-Some.key (c.in-Some.ensures.0 ∙ named)
    (paged c.into_inner.result) (ap paged c.into_inner.ensures) outcome c.into_outcome-outcome.ensures.ending c.into_outcome-outcome.ensures.lines in (
      refl,
      elim c.match-pop.branch [
        | in-Some-pop v ↦
            let path : Path = child_path c.pop.new.self v.in-Some-pop.ticket v.in-Some-pop.index in
            let at : name ≡ path = sym named ∙ v.in-Some-pop.ensures in
            subst (λ new. StandsFor depot new (with_tree name b f)) (sym v.self-is)
            (subst (λ n. StandsFor depot v.stir_siblings.new.self (with_tree n b f)) (sym at)
            (v.stir_siblings.ensures.stands depot f b
            (v.end_child.ensures.stirs depot f b (subst (IsLeaving depot (record w { cells = c.take_out.new.cells }) f) at leaving)
            (subst (λ n. HasLeft n b outcome) at left) (subst (λ n. IsForest (with_tree n b f).tree) at whole))
            (left-ended name b outcome left)))
        | in-None+in-Some-1 v ↦
            subst (λ new. StandsFor depot new (with_tree name b f)) (sym v.self-is)
            (root-leaves depot (record w { cells = c.take_out.new.cells }) f b outcome name (sym named ∙ v.in-None.ensures.0) leaving left whole)
        | in-None+in-None-1 v ↦
            subst (λ new. StandsFor depot new (with_tree name b f)) (sym v.self-is)
            (root-leaves depot (record w { cells = c.take_out.new.cells }) f b outcome name (sym named ∙ v.in-None.ensures.0) leaving left whole)
      ],
    )

pub returns-in_default-clause-images : goal.returns-in_default-clause-images
returns-in_default-clause-images c images h = alike images c.args.self.now.cells c.take_out.new.cells c.in_default.ensures.1 h

pub returns-clause-images : goal.returns-clause-images
returns-clause-images c images h =
    let kept = taken-out images c.args.self.now.cells c.take_out.new.cells c.into_name-name.result c.in-Some.cell c.in-Some.ensures.1 h in
    elim c.match-pop.branch [
      | in-Some-pop v ↦ subst (AreOfImages images) (sym v.self-is) (v.stir_siblings.ensures.images images (v.end_child.ensures.images images kept))
      | in-None+in-Some-1 v ↦ subst (AreOfImages images) (sym v.self-is) kept
      | in-None+in-None-1 v ↦ subst (AreOfImages images) (sym v.self-is) kept
    ]
