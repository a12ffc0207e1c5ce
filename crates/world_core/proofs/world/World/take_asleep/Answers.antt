use Rattle.world_core.specs.Images.{AreTakenAt}
use Rattle.std.proofs.Common.{◌≡◌, ◌≢◌, ℕ, true, ◌∷◌, None, Some, is_some, sym, ap, ◌∙◌, subst}
use Rattle.std.specs.BTreeMap.{get}
use Rattle.forest_tree.specs.Tree.{Path, at_path}
use Rattle.talking_history.specs.Places.{out, placed}
use Rattle.machine_names.specs.Name.{child_path}
use Rattle.machine_names.specs.NameOrder.{path_cmp}
use Rattle.world_core.specs.declared.world.World.{World}
use Rattle.world_core.specs.Popped.{IsFirstAsleep, ShowsCells, TakesBy, sleeps}
use Rattle.world_core.proofs.TurnOfChildren.{before-children, spent-turn, child-taken, child-kept}
use Rattle.world_core.proofs.world.World.take_asleep.Goals as goal

pub asleep_from-requires : goal.asleep_from-requires
asleep_from-requires c =
    let r = c.requires.world in (
      c.args.depot.now,
      r.0.tree,
      before-children c.args.depot.now c.args.turn c.args.ticket c.args.first c.args.self.now r.0 c.requires.children r.1 c.requires.going.0,
    )

pub returns-in_err-index-clause-takes : goal.returns-in_err-index-clause-takes
returns-in_err-index-clause-takes c = λ f h.
    let turn = c.args.turn in
    let before = before-children c.args.depot.now turn c.args.ticket c.args.first c.args.self.now f c.requires.children h c.requires.going.0 in
    let found : IsFirstAsleep turn.name c.args.ticket c.args.first f.tree None
    = subst (λ n. IsFirstAsleep n c.args.ticket c.args.first f.tree None) c.name.ensures (c.in_err-index.ensures c.args.depot.now f.tree before) in
    subst (λ r. TakesBy c.args.depot.now f r c.args.self.now) (sym c.from_residual.ensures)
    (spent-turn c.args.depot.now turn c.args.ticket c.args.first c.args.self.now f c.requires.children h c.requires.going.0 found)

pub wake-woken-requires : goal.wake-woken-requires
wake-woken-requires c =
    let r = c.requires.world in
    let turn = c.args.turn in
    let before = before-children c.args.depot.now turn c.args.ticket c.args.first c.args.self.now r.0 c.requires.children r.1 c.requires.going.0 in
    let found : IsFirstAsleep turn.name c.args.ticket c.args.first r.0.tree (Some c.in_ok-index.index)
    = subst (λ n. IsFirstAsleep n c.args.ticket c.args.first r.0.tree (Some c.in_ok-index.index)) c.name.ensures
    (c.in_ok-index.ensures c.args.depot.now r.0.tree before) in
    (r.0.tree, before, subst (λ n. sleeps n c.args.ticket c.in_ok-index.index r.0.tree ≡ true) (sym c.name-2.ensures) found.1)

pub returns-in-Ok-clause-takes : goal.returns-in-Ok-clause-takes
returns-in-Ok-clause-takes c = λ f h.
    let depot = c.args.depot.now in
    let turn = c.args.turn in
    let ticket = c.args.ticket in
    let index : ℕ = c.in_ok-index.index in
    let later = c.set_children.new.self in
    let before = before-children depot turn ticket c.args.first c.args.self.now f c.requires.children h c.requires.going.0 in
    let found : IsFirstAsleep turn.name ticket c.args.first f.tree (Some index)
    = subst (λ n. IsFirstAsleep n ticket c.args.first f.tree (Some index)) c.name.ensures (c.in_ok-index.ensures depot f.tree before) in
    let parent : Path = c.name-2.result.now in
    let same : parent ≡ turn.name = c.name-2.ensures in
    let asleep : sleeps parent ticket index f.tree ≡ true = subst (λ p. sleeps p ticket index f.tree ≡ true) (sym same) found.1 in
    let after : World = record c.wake-woken.new.self { ready = c.push.new.self } in
    let woke = c.in-Ok.ensures in
    let rest = c.wake-woken.ensures.rest in
    let ready : after.ready ≡ later ∷ c.args.self.now.ready = c.push.ensures ∙ ap (λ turns. later ∷ turns) rest.0 in
    child-taken depot turn ticket c.args.first c.args.self.now f c.requires.children h c.requires.going.0 index found after later c.set_children.ensures ready
    c.in-Ok.lease (woke.lease.0 ∙ ap (λ p. child_path p ticket index) same) woke.lease.1 woke.lease.2 woke.lease.3 (woke.start f.tree before asleep)
    (subst (λ p. ShowsCells depot after.cells (at_path (placed out) (child_path p ticket index) f.tree)) same (woke.cells f.tree before asleep))
    c.wake-woken.ensures.listed
    (subst (λ p. (n : Path) → n ≢ child_path p ticket index → is_some (get path_cmp after.cells n) ≡ is_some (get path_cmp c.args.self.now.cells n)) same
    c.wake-woken.ensures.others)
    rest.1 rest.2 c.requires.going.1

pub returns-in-Err-clause-takes : goal.returns-in-Err-clause-takes
returns-in-Err-clause-takes c = λ f h.
    let depot = c.args.depot.now in
    let turn = c.args.turn in
    let ticket = c.args.ticket in
    let index : ℕ = c.in_ok-index.index in
    let later = c.set_children.new.self in
    let before = before-children depot turn ticket c.args.first c.args.self.now f c.requires.children h c.requires.going.0 in
    let found : IsFirstAsleep turn.name ticket c.args.first f.tree (Some index)
    = subst (λ n. IsFirstAsleep n ticket c.args.first f.tree (Some index)) c.name.ensures (c.in_ok-index.ensures depot f.tree before) in
    let after : World = record c.wake-woken.new.self { ready = c.push.new.self } in
    let rest = c.wake-woken.ensures.rest in
    let ready : after.ready ≡ later ∷ c.args.self.now.ready = c.push.ensures ∙ ap (λ turns. later ∷ turns) rest.0 in
    child-kept depot turn ticket c.args.first c.args.self.now f c.requires.children h c.requires.going.0 index found after later c.set_children.ensures ready
    c.in-Err.ensures.same rest.1 rest.2 c.requires.going.1

pub returns-in_err-index-clause-images : goal.returns-in_err-index-clause-images
returns-in_err-index-clause-images c = λ images h. (h, subst (AreTakenAt images) (sym c.from_residual.ensures) tt)

pub returns-in-Ok-clause-images : goal.returns-in-Ok-clause-images
returns-in-Ok-clause-images c = λ images h. c.in-Ok.ensures.images images h

pub returns-in-Err-clause-images : goal.returns-in-Err-clause-images
returns-in-Err-clause-images c = λ images h. ((c.in-Err.ensures.images images h).0, tt)
