use Rattle.std.proofs.Common.{◌≡◌, ◌<◌, suc, Bool, true, false, length, refl, sym, ap, ◌∙◌, subst, arith}
use Rattle.forest_tree.proofs.Rests.{lives-none}
use Rattle.std.specs.Option.{IfNone}
use Rattle.std.specs.BTreeMap.{get}
use Rattle.forest_tree.specs.Tree.{Path}
use Rattle.machine_names.specs.NameOrder.{path_cmp}
use Rattle.world_core.specs.declared.world.World.{World}
use Rattle.world_core.specs.Shows.{is_out_cell}
use Rattle.world_core.proofs.TurnByTurn.{over-goes, stopped-goes, idle-goes, stuck-goes, with-popped, goes-on}
use Rattle.std.specs.Prelude.{MatchBool}
use Rattle.talking_history.specs.Rows.{idle, stuck}
use Rattle.world_core.specs.Answers.{Goes, Takes}
use Rattle.world_core.specs.Images.{AreOfImages}
use Rattle.world_core.proofs.Leases.{kept-goes, kept-takes}
use Rattle.world_core.proofs.world.World.take.Goals as goal

abbrev OneOut : World → Type 0
OneOut w = (name : Path) × (is_out_cell (get path_cmp w.cells name) ≡ true)

abbrev NoneOut : World → Type 0
NoneOut w = (name : Path) → is_out_cell (get path_cmp w.cells name) ≡ false

one-out : (b : Bool) (P Q : Type 0) → b ≡ true → MatchBool b P Q → P
one-out true P Q e h = h
one-out false P Q e h = absurd (cc)

none-out : (b : Bool) (P Q : Type 0) → b ≡ false → MatchBool b P Q → Q
none-out true P Q e h = absurd (cc)
none-out false P Q e h = h

pub returns-then-is_some-clause-takes : goal.returns-then-is_some-clause-takes
returns-then-is_some-clause-takes c = λ f h. over-goes c.args.depot.now c.args.self.now f h (sym c.if-is_some.ensures)

pub returns-in-Some-clause-takes : goal.returns-in-Some-clause-takes
returns-in-Some-clause-takes c = λ f h.
    stopped-goes c.args.depot.now c.args.self.now f c.in-Some.reason h (lives-none c.args.self.now.outcome (sym c.if-is_some.ensures)) c.in-Some.is

pub loop-turn-init : goal.loop-turn-init
loop-turn-init c = record {
  going = lives-none c.args.self.now.outcome (sym c.if-is_some.ensures);
  unhalted = c.in_default.is;
  told = refl;
  images = λ images h. h;
  stands = λ f h. h;
}

pub take_by-requires-clause-world : goal.take_by-requires-clause-world
take_by-requires-clause-world c =
    let r = c.requires in (
      r.0,
      with-popped c.args.depot.now c.loop-turn.self c.in-Some-pop.turn c.pop.new.self r.0 c.in-Some-pop.ensures
          (c.loop-turn.invariant.stands r.0 r.1),
    )

pub take_by-requires-clause-going : goal.take_by-requires-clause-going
take_by-requires-clause-going c = (c.loop-turn.invariant.going, c.loop-turn.invariant.unhalted)

pub returns-in-Some-take_by-clause-takes : goal.returns-in-Some-take_by-clause-takes
returns-in-Some-take_by-clause-takes c = λ f h.
    subst (Takes c.args.depot.now f c.in-Some-take_by.taken) (sym c.keep_taken.ensures)
    (kept-takes c.args.depot.now f c.take_by.new.self c.keep_taken.new.self.leases c.in-Some-take_by.taken
    (c.in-Some-take_by.ensures.takes f
    (with-popped c.args.depot.now c.loop-turn.self c.in-Some-pop.turn c.pop.new.self f c.in-Some-pop.ensures
    (c.loop-turn.invariant.stands f h))))

pub loop-turn-smaller : goal.loop-turn-smaller
loop-turn-smaller c =
    let same : c.take_by.new.self.ready ≡ c.pop.new.self
    = subst (λ r. IfNone r (c.take_by.new.self.ready ≡ c.pop.new.self)) c.in_default-take_by.is c.take_by.ensures.turns in
    let left : length c.take_by.new.self.ready ≡ length c.pop.new.self = ap length same in
    let was : length c.loop-turn.self.ready ≡ suc (length c.pop.new.self) = ap length c.in-Some-pop.ensures in
    let less : length c.take_by.new.self.ready < length c.loop-turn.self.ready = omega arith in
    less

pub loop-turn-preserved : goal.loop-turn-preserved
loop-turn-preserved c =
    goes-on c.args.depot.now c.args.self.now c.loop-turn.self c.take_by.new.self c.in-Some-pop.turn c.pop.new.self c.loop-turn.invariant
    c.in-Some-pop.ensures c.in_default-take_by.ensures.takes c.take_by.ensures.going.0 c.take_by.ensures.going.1 c.take_by.ensures.told
    (λ images h. (c.in_default-take_by.ensures.images images h).0)

pub returns-then-is_one_out-clause-takes : goal.returns-then-is_one_out-clause-takes
returns-then-is_one_out-clause-takes c = λ f h.
    let left = c.in_default-pop.ensures in
    let now : World = record c.loop-turn.self { ready = c.pop.new.self } in
    let away = one-out c.is_one_out.result (OneOut now) (NoneOut now) c.if-is_one_out.true c.is_one_out.ensures.one in
    subst (Goes c.args.depot.now f idle) (sym c.is_one_out.ensures.same)
    (kept-goes c.args.depot.now f now c.is_one_out.new.self.leases idle
    (idle-goes c.args.depot.now c.loop-turn.self c.pop.new.self f (c.loop-turn.invariant.stands f h) c.loop-turn.invariant.going c.loop-turn.invariant.unhalted
    left.0 left.1 away.0 away.1))

pub returns-else-is_one_out-clause-takes : goal.returns-else-is_one_out-clause-takes
returns-else-is_one_out-clause-takes c = λ f h.
    let left = c.in_default-pop.ensures in
    let now : World = record c.loop-turn.self { ready = c.pop.new.self } in
    let none = none-out c.is_one_out.result (OneOut now) (NoneOut now) c.if-is_one_out.false c.is_one_out.ensures.one in
    subst (Goes c.args.depot.now f stuck) (sym c.is_one_out.ensures.same)
    (kept-goes c.args.depot.now f now c.is_one_out.new.self.leases stuck
    (stuck-goes c.args.depot.now c.loop-turn.self c.pop.new.self f (c.loop-turn.invariant.stands f h) c.loop-turn.invariant.going c.loop-turn.invariant.unhalted
    left.0 left.1 none))

pub returns-in-Some-take_by-clause-images : goal.returns-in-Some-take_by-clause-images
returns-in-Some-take_by-clause-images c = λ images h.
    let now = c.in-Some-take_by.ensures.images images (c.loop-turn.invariant.images images h) in
    (subst (AreOfImages images) (sym c.keep_taken.ensures) now.0, now.1)

pub returns-then-is_one_out-clause-images : goal.returns-then-is_one_out-clause-images
returns-then-is_one_out-clause-images c = λ images h. (subst (AreOfImages images) (sym c.is_one_out.ensures.same) (c.loop-turn.invariant.images images h), tt)

pub returns-else-is_one_out-clause-images : goal.returns-else-is_one_out-clause-images
returns-else-is_one_out-clause-images c = λ images h. (subst (AreOfImages images) (sym c.is_one_out.ensures.same) (c.loop-turn.invariant.images images h), tt)
