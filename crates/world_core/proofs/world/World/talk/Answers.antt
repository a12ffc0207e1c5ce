use Rattle.std.proofs.Common.{sym, subst}
use Rattle.std.specs.Option.{IfSome}
use Rattle.world_core.specs.Answers.{Answers, said_by}
use Rattle.world_core.specs.World.{StandsFor}
use Rattle.world_core.proofs.Calling.{same-image}
use Rattle.world_core.proofs.Images.{lent-key}
use Rattle.world_core.proofs.world.World.talk.Goals as goal

pub returns-in-Placed-clause-answers : goal.returns-in-Placed-clause-answers
returns-in-Placed-clause-answers c depot f stands out_as of_depot =
    subst (λ o. IfSome o (λ what. Answers depot f (said_by what) c.args.lease c.in-Placed.answer c.make_talk.new.self)) c.in-Some.ensures
    (c.in-Placed.ensures.answers depot f stands out_as of_depot)

pub place-requires-clause-between : goal.place-requires-clause-between
place-requires-clause-between c =
    let r = c.requires.lent in
    let p = c.in-Made.ensures.answers r.0 r.1.0 r.1.1 r.1.2 r.1.3 in
    (r.0, p.between_in, p.tree, p.between, p.is, same-image r.0 c.in-Made.vm.value c.args.lease c.in-Made.ensures.own.3 r.1.3)

pub returns-in-Made-clause-answers : goal.returns-in-Made-clause-answers
returns-in-Made-clause-answers c depot f stands out_as of_depot =
    let p = c.in-Made.ensures.answers depot f stands out_as of_depot in
    let done = c.place.ensures.placed depot p.between_in p.tree p.between p.is (same-image depot c.in-Made.vm.value c.args.lease c.in-Made.ensures.own.3 of_depot) p.whole in
    subst (λ o. IfSome o (λ what. Answers depot f (said_by what) c.args.lease c.place.result c.place.new.self)) c.in-Some.ensures
    (subst (λ r. Answers depot f (said_by c.in-Some.talk) c.args.lease r c.place.new.self) (sym done.0) (record {
      allowed = p.allowed;
      after = subst (StandsFor depot c.place.new.self) (sym p.comes) done.1;
    }))

pub returns-in-Made-clause-images : goal.returns-in-Made-clause-images
returns-in-Made-clause-images c images h at =
    c.place.ensures.images images (c.make_talk.ensures.images images h at)
    (lent-key images c.args.lease c.in-Made.turn.name c.in-Made.vm.value c.in-Made.ensures.own.0 c.in-Made.ensures.own.3 at)
