use Rattle.std.proofs.Common.{sym, subst}
use Rattle.world_core.specs.declared.world.Talked.TheVariants as on
use Rattle.world_core.specs.declared.world.World.{World}
use Rattle.world_core.specs.Answers.{Answers, IsHomeOnlyThen, said_by}
use Rattle.world_core.specs.Images.{IsLentAt}
use Rattle.world_core.specs.World.{StandsFor}
use Rattle.world_core.proofs.Calling.{same-image}
use Rattle.world_core.proofs.Images.{lent-key}
use Rattle.world_core.proofs.Staying.{goes-by, home-only, may-not-go-on, stays}
use Rattle.world_core.proofs.world.World.talk_on.Goals as goal

pub returns-in-Placed-clause-answers : goal.returns-in-Placed-clause-answers
returns-in-Placed-clause-answers c depot f stands out_as of_depot = c.in-Placed.ensures.answers depot f stands out_as of_depot

pub place-requires-clause-between : goal.place-requires-clause-between
place-requires-clause-between c =
    let r = c.requires.lent in
    let p = c.in-Made.ensures.answers r.0 r.1.0 r.1.1 r.1.2 r.1.3 in
    (r.0, p.between_in, p.tree, p.between, p.is, same-image r.0 c.in-Made.vm.value c.args.lease c.in-Made.ensures.own.3 r.1.3)

pub returns-then-not-may_go_on-clause-answers : goal.returns-then-not-may_go_on-clause-answers
returns-then-not-may_go_on-clause-answers c depot f stands out_as of_depot =
    let p = c.in-Made.ensures.answers depot f stands out_as of_depot in
    let done = c.place.ensures.placed depot p.between_in p.tree p.between p.is (same-image depot c.in-Made.vm.value c.args.lease c.in-Made.ensures.own.3 of_depot) p.whole in
    subst (λ r. Answers depot f (said_by c.args.talk) c.args.lease r c.place.new.self) (sym done.0) (record {
      allowed = p.allowed;
      after = subst (StandsFor depot c.place.new.self) (sym p.comes) done.1;
    })

pub returns-in-Placed-clause-home : goal.returns-in-Placed-clause-home
returns-in-Placed-clause-home c depot f stands out_as of_depot = home-only f (said_by c.args.talk) c.args.lease c.in-Placed.answer c.in-Placed.ensures.own

pub returns-then-not-may_go_on-clause-home : goal.returns-then-not-may_go_on-clause-home
returns-then-not-may_go_on-clause-home c depot f stands out_as of_depot =
    let w : World = c.make_talk.new.self in
    let p = c.in-Made.ensures.answers depot f stands out_as of_depot in
    let done = c.place.ensures.placed depot p.between_in p.tree p.between p.is (same-image depot c.in-Made.vm.value c.args.lease c.in-Made.ensures.own.3 of_depot) p.whole in
    subst (λ r. IsHomeOnlyThen f (said_by c.args.talk) c.args.lease (on.Placed r)) (sym done.0)
    (may-not-go-on depot w f c.args.lease (said_by c.args.talk) c.in-Made.turn.name c.in-Made.vm.value c.deref.result.now p c.in-Made.ensures.own.0 c.deref.ensures
    _ c.may_go_on.result c.if-not-may_go_on.true c.may_go_on.ensures)

pub returns-then-not-may_go_on-clause-images : goal.returns-then-not-may_go_on-clause-images
returns-then-not-may_go_on-clause-images c images h at = (
  c.place.ensures.images images (c.make_talk.ensures.images images h at)
      (lent-key images c.args.lease c.in-Made.turn.name c.in-Made.vm.value c.in-Made.ensures.own.0 c.in-Made.ensures.own.3 at),
  tt,
)

pub returns-else-not-may_go_on-clause-answers : goal.returns-else-not-may_go_on-clause-answers
returns-else-not-may_go_on-clause-answers c depot f stands out_as of_depot =
    let w : World = c.make_talk.new.self in
    let p = c.in-Made.ensures.answers depot f stands out_as of_depot in
    let own = c.in-Made.ensures.own in
    let goes = goes-by _ c.may_go_on.result w.halted c.deref.result.now c.in-Made.vm.value c.deref.ensures c.if-not-may_go_on.false c.may_go_on.ensures in
    stays depot w f c.args.lease (said_by c.args.talk) c.in-Made.turn.name c.in-Made.vm.value p goes.0 goes.1 c.new.result c.new.ensures own.0
    (same-image depot c.in-Made.vm.value c.args.lease own.3 of_depot)

pub returns-else-not-may_go_on-clause-images : goal.returns-else-not-may_go_on-clause-images
returns-else-not-may_go_on-clause-images c images h at =
    let own = c.in-Made.ensures.own in (
      c.make_talk.ensures.images images h at,
      subst (IsLentAt images) (sym c.new.ensures) (lent-key images c.args.lease c.in-Made.turn.name c.in-Made.vm.value own.0 own.3 at),
    )
