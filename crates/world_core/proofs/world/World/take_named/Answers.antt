use Rattle.std.specs.Option.{IfSome}
use Rattle.world_core.proofs.Leaving.{if-some-is}
use Rattle.world_core.specs.Images.{HasImages, HaveImages, IsLentAt, Images}
use Rattle.world_core.proofs.Images.{alike, written, no-lent}
use Rattle.std.proofs.Common.{◌≡◌, ℕ, true, None, refl, sym, ap, ◌∙◌, subst, Option, rules}
use Rattle.std.specs.BTreeMap.{get}
use Rattle.forest_tree.specs.Tree.{Path}
use Rattle.forest_tree.proofs.Rests.{lives-none}
use Rattle.machine_names.specs.Name.{child_path}
use Rattle.machine_names.specs.NameOrder.{path_cmp}
use Rattle.world_core.specs.declared.world.World.{World}
use Rattle.ready_queue.specs.Ready.{Ready}
use Rattle.world_core.specs.Popped.{ShowsCells, sleeps}
use Rattle.world_core.specs.Kin.{IsKin}
use Rattle.world_core.specs.Lent.{lent_as, Lent}
use Rattle.world_core.specs.World.{StandsFor, rests_in}
use Rattle.world_core.specs.declared.cell.Cell.{Cell}
use Rattle.world_core.proofs.TurnOfOne.{kin-free}
use Rattle.world_core.proofs.ByName.{over-nobody, stands-same, rewritten, named-error, named-idle, named-kin, named-taken, root-cell, before-named, no_cell-home, named-woken}
use Rattle.world_core.proofs.world.World.take_named.Goals as goal

pub returns-then-is_some-clause-takes : goal.returns-then-is_some-clause-takes
returns-then-is_some-clause-takes c = λ f h. (over-nobody c.args.depot.now c.args.self.now f c.args.name.now h (sym c.if-is_some.ensures), h)

pub returns-in_err-copy-clause-takes : goal.returns-in_err-copy-clause-takes
returns-in_err-copy-clause-takes c = λ f h.
    let cell = c.in-Some.cell.now in
    let new = c.get_mut.follows.lender cell in
    named-error c.args.depot.now f c.args.name.now c.from_residual.result (record c.args.self.now { cells = new }) c.from_residual.ensures.0
    (stands-same c.args.depot.now c.args.self.now (record c.args.self.now { cells = new }) f
    (rewritten c.args.self.now.cells new c.args.name.now cell c.in-Some.ensures.value (c.get_mut.follows.holds cell)) refl refl refl h)

pub returns-in_err-turn-clause-takes : goal.returns-in_err-turn-clause-takes
returns-in_err-turn-clause-takes c = λ f h.
    let cell = c.in-Some.cell.now in
    let new = c.get_mut.follows.lender cell in
    named-error c.args.depot.now f c.args.name.now c.from_residual-in_err-turn.result (record c.args.self.now { cells = new }) c.from_residual-in_err-turn.ensures.0
    (stands-same c.args.depot.now c.args.self.now (record c.args.self.now { cells = new }) f
    (rewritten c.args.self.now.cells new c.args.name.now cell c.in-Some.ensures.value (c.get_mut.follows.holds cell)) refl refl refl h)

pub returns-in_default-lend_named-clause-takes : goal.returns-in_default-lend_named-clause-takes
returns-in_default-lend_named-clause-takes c = λ f h.
    let lent = c.lend_named.new.self in
    named-idle c.args.depot.now c.args.self.now f c.args.name.now h (lives-none c.args.self.now.outcome (sym c.if-is_some.ensures)) c.in-Some.cell.now
    c.in-Some.ensures.value (c.get_mut.follows.lender lent) lent (c.get_mut.follows.holds lent)
    (c.in_default-lend_named.ensures.shows c.args.depot.now c.args.name.now (rests_in f.tree c.args.name.now))

pub returns-in-Some-clause-takes : goal.returns-in-Some-clause-takes
returns-in-Some-clause-takes c = λ f h.
    let lent : Cell = record c.lend_named.new.self { kin = c.take-kin.new.self } in
    let v = c.in-Some-lend_named.vm.value in
    let name : c.in_ok-turn.turn.name ≡ c.args.name.now
    = ap (λ (w : Ready). w.name) c.in_ok-turn.ensures ∙ c.in_ok-copy.ensures in
    let is : c.new.result ≡ lent_as c.args.name.now v.machine 0 v = c.new.ensures ∙ ap (λ n. lent_as n v.machine 0 v) name in
    named-taken c.args.depot.now c.args.self.now f c.args.name.now h (lives-none c.args.self.now.outcome (sym c.if-is_some.ensures)) c.in-Some.cell.now
    c.in-Some.ensures.value (c.get_mut.follows.lender lent) lent (c.get_mut.follows.holds lent) c.new.result v is c.in-Some-lend_named.ensures.place.0
    (λ t shows.
    let is = c.in-Some-lend_named.ensures.shows c.args.depot.now c.args.name.now (rests_in f.tree c.args.name.now) t shows in
    (is.0, is.1, is.2, is.3, kin-free c.args.depot.now c.args.name.now (rests_in f.tree c.args.name.now) c.lend_named.new.self c.take-kin.new.self t is.4))

pub new-requires-clause-kin : goal.new-requires-clause-kin
new-requires-clause-kin c =
    let r = c.requires in
    let depot = c.args.depot.now in
    let path : Path = c.args.name.now in
    let name : c.in_ok-turn.turn.name ≡ path = ap (λ (w : Ready). w.name) c.in_ok-turn.ensures ∙ c.in_ok-copy.ensures in
    let same : c.take-kin.result ≡ c.lend_named.new.self.kin = search rules in
    subst (IsKin c.take-kin.result) (sym name)
    (subst (λ kin. IsKin kin path) (sym (same ∙ c.in-Some-lend_named.ensures.place.1))
    (named-kin depot c.args.self.now r.0 path r.1 (lives-none c.args.self.now.outcome (sym c.if-is_some.ensures)) c.in-Some.cell.now c.in-Some.ensures.value
    (λ t shows. c.in-Some-lend_named.ensures.shows depot path (rests_in r.0.tree path) t shows)))

pub unreachable-requires : goal.unreachable-requires
unreachable-requires c =
    let r = c.requires in
    root-cell c.args.depot.now c.args.self.now r.0 c.args.name.now r.1 (lives-none c.args.self.now.outcome (sym c.if-is_some.ensures)) c.in_default.ensures.value
    (sym c.in_ok-parent.ensures ∙ c.in_default-pop.ensures.0)

pub returns-then-not-is_asleep-clause-takes : goal.returns-then-not-is_asleep-clause-takes
returns-then-not-is_asleep-clause-takes c = λ f h.
    let depot = c.args.depot.now in
    let same = sym c.get_mut.follows.holds-at-none in
    let going = lives-none c.args.self.now.outcome (sym c.if-is_some.ensures) in
    let before = subst (λ cells. ShowsCells depot cells f.tree) same (before-named depot c.args.self.now f c.args.name.now h going) in (
      no_cell-home depot c.args.self.now f c.args.name.now h going c.in_default.ensures.value c.pop.new.self c.in-Some-pop.ticket c.in-Some-pop.index
          (sym c.in_ok-parent.ensures ∙ c.in-Some-pop.ensures) (sym (c.is_asleep.ensures depot f.tree before) ∙ c.if-not-is_asleep.true),
      subst (λ cells. StandsFor depot (record c.args.self.now { cells = cells }) f) same h,
    )

pub wake-requires : goal.wake-requires
wake-requires c =
    let r = c.requires in
    let depot = c.args.depot.now in
    let same = sym c.get_mut.follows.holds-at-none in
    let going = lives-none c.args.self.now.outcome (sym c.if-is_some.ensures) in
    let before = subst (λ cells. ShowsCells depot cells r.0.tree) same (before-named depot c.args.self.now r.0 c.args.name.now r.1 going) in (
      r.0.tree,
      before,
      sym (c.is_asleep.ensures depot r.0.tree before) ∙ c.if-not-is_asleep.false,
    )

pub returns-clause-takes : goal.returns-clause-takes
returns-clause-takes c = λ f h.
    let depot = c.args.depot.now in
    let parent : Path = c.pop.new.self in
    let ticket : ℕ = c.in-Some-pop.ticket in
    let index : ℕ = c.in-Some-pop.index in
    let same = sym c.get_mut.follows.holds-at-none in
    let going = lives-none c.args.self.now.outcome (sym c.if-is_some.ensures) in
    let named : c.args.name.now ≡ child_path parent ticket index = sym c.in_ok-parent.ensures ∙ c.in-Some-pop.ensures in
    let w : World = record c.args.self.now { cells = c.get_mut.follows.lender-at-none } in
    let stands : StandsFor depot w f = subst (λ cells. StandsFor depot (record c.args.self.now { cells = cells }) f) same h in
    let none : None ≡ get path_cmp w.cells c.args.name.now = c.in_default.ensures.value ∙ ap (λ cells. get path_cmp cells c.args.name.now) same in
    let before = before-named depot w f c.args.name.now stands going in
    let asleep : sleeps parent ticket index f.tree ≡ true
    = sym (c.is_asleep.ensures depot f.tree before) ∙ c.if-not-is_asleep.false in
    let woke = c.in_ok-wake.ensures in
    named-woken depot w f c.args.name.now stands going none parent ticket index named c.wake.new.self c.in_ok-wake.field-0 asleep woke.lease.0 woke.lease.1
    woke.lease.2 woke.lease.3 (woke.start f.tree before asleep) (woke.cells f.tree before asleep) woke.listed woke.others woke.rest.0 woke.rest.1 woke.rest.2

abbrev Named : Images → Option Lent → Type 0
Named images lease = IfSome lease (IsLentAt images)

pub returns-in_err-copy-clause-images : goal.returns-in_err-copy-clause-images
returns-in_err-copy-clause-images c = λ images h.
    let cell = c.in-Some.cell.now in
    let new = c.get_mut.follows.lender cell in (
      alike images c.args.self.now.cells new (rewritten c.args.self.now.cells new c.args.name.now cell c.in-Some.ensures.value (c.get_mut.follows.holds cell)) h,
      no-lent images c.from_residual.result (Named images) c.from_residual.ensures.0,
    )

pub returns-in_err-turn-clause-images : goal.returns-in_err-turn-clause-images
returns-in_err-turn-clause-images c = λ images h.
    let cell = c.in-Some.cell.now in
    let new = c.get_mut.follows.lender cell in (
      alike images c.args.self.now.cells new (rewritten c.args.self.now.cells new c.args.name.now cell c.in-Some.ensures.value (c.get_mut.follows.holds cell)) h,
      no-lent images c.from_residual-in_err-turn.result (Named images) c.from_residual-in_err-turn.ensures.0,
    )

pub returns-in_default-lend_named-clause-images : goal.returns-in_default-lend_named-clause-images
returns-in_default-lend_named-clause-images c = λ images h.
    let lent = c.lend_named.new.self in (
      written images c.args.self.now.cells (c.get_mut.follows.lender lent) c.args.name.now c.in-Some.cell.now lent c.in-Some.ensures.value
          (c.get_mut.follows.holds lent) (λ was. (c.in_default-lend_named.ensures.images images c.args.name.now was).0) h,
      tt,
    )

pub returns-in-Some-clause-images : goal.returns-in-Some-clause-images
returns-in-Some-clause-images c = λ images h.
    let lent : Cell = record c.lend_named.new.self { kin = c.take-kin.new.self } in
    let v = c.in-Some-lend_named.vm.value in
    let name : c.in_ok-turn.turn.name ≡ c.args.name.now
    = ap (λ (w : Ready). w.name) c.in_ok-turn.ensures ∙ c.in_ok-copy.ensures in
    let is : c.new.result ≡ lent_as c.args.name.now v.machine 0 v = c.new.ensures ∙ ap (λ n. lent_as n v.machine 0 v) name in
    let was = if-some-is (get path_cmp c.args.self.now.cells c.args.name.now) c.in-Some.cell.now (HasImages images c.args.name.now) c.in-Some.ensures.value
    (h c.args.name.now) in
    let after = c.in-Some-lend_named.ensures.images images c.args.name.now was in (
      written images c.args.self.now.cells (c.get_mut.follows.lender lent) c.args.name.now c.in-Some.cell.now lent c.in-Some.ensures.value
          (c.get_mut.follows.holds lent) (λ same. record { state = after.0.state; broods = after.0.broods }) h,
      subst (IsLentAt images) (sym is) after.1,
    )

pub returns-then-not-is_asleep-clause-images : goal.returns-then-not-is_asleep-clause-images
returns-then-not-is_asleep-clause-images c = λ images h. (subst (HaveImages images) (sym c.get_mut.follows.holds-at-none) h, tt)

pub returns-clause-images : goal.returns-clause-images
returns-clause-images c = λ images h. c.in_ok-wake.ensures.images images (subst (HaveImages images) (sym c.get_mut.follows.holds-at-none) h)
