use Rattle.std.proofs.Common.{subst, inl, inr, sym, ◌∙◌}
use Rattle.world_core.specs.Lent.{vm_of}
use Rattle.world_core.specs.declared.world.Placed.{Placed}
use Rattle.drive_script.specs.Turned.{AnswersCall, HasBack, HasLent}
use Rattle.drive_script.proofs.Lent.{asks, call-dropped, call-kept, call-made, call-parked, lent-handed, taken}
use Rattle.drive_script.proofs.Reasons.{answered-reason}
use Rattle.drive_script.proofs.turn.make_call.Goals as goal

pub give_back-requires : goal.give_back-requires
give_back-requires g c =
    let depot = c.args.depot.now in
    let t = c.requires.lent.0 in
    let h = c.requires.lent.1 in
    let kept = call-kept depot c.args.world.now t c.args.lease h c.in-Memory.lease c.try_call.new.world
    (c.in-Memory.ensures.answers (taken depot c.args.world.now t c.args.lease h) h.stands (lent-handed depot c.args.world.now t c.args.lease h) h.of_depot) in
    (depot, t, subst (HasLent depot c.try_call.new.world t) (sym kept.0) kept.1)

pub unreachable-requires : goal.unreachable-requires
unreachable-requires g c =
    let depot = c.args.depot.now in
    let t = c.requires.lent.0 in
    let h = c.requires.lent.1 in
    let answers = c.try_call.ensures.answers (taken depot c.args.world.now t c.args.lease h) h.stands (lent-handed depot c.args.world.now t c.args.lease h) h.of_depot in
    elim c.in-Parked.is [
      | inl parked ↦ call-parked depot c.args.world.now t c.args.lease h c.try_call.new.world
          (subst (λ (p : Placed). AnswersCall depot (taken depot c.args.world.now t c.args.lease h) c.args.lease p c.try_call.new.world) parked answers)
          c.requires.lent.2
      | inr dropped ↦ call-dropped depot c.args.world.now t c.args.lease h c.try_call.new.world
          (subst (λ (p : Placed). AnswersCall depot (taken depot c.args.world.now t c.args.lease h) c.args.lease p c.try_call.new.world) dropped answers)
    ]

pub returns-in-Done-clause-made : goal.returns-in-Done-clause-made
returns-in-Done-clause-made g c t h =
    let depot = c.args.depot.now in
    call-made depot c.args.world.now t c.args.lease h (asks (vm_of c.args.lease) c.requires.asks) c.try_call.new.world
    (c.in-Done.ensures.answers (taken depot c.args.world.now t c.args.lease h) h.stands (lent-handed depot c.args.world.now t c.args.lease h) h.of_depot)

pub returns-in-Memory-clause-made : goal.returns-in-Memory-clause-made
returns-in-Memory-clause-made g c t h =
    let depot = c.args.depot.now in
    let kept = call-kept depot c.args.world.now t c.args.lease h c.in-Memory.lease c.try_call.new.world
    (c.in-Memory.ensures.answers (taken depot c.args.world.now t c.args.lease h) h.stands (lent-handed depot c.args.world.now t c.args.lease h) h.of_depot) in
    subst (HasBack depot c.give_back.new.world t) kept.0
    (c.give_back.ensures.back depot t (subst (HasLent depot c.try_call.new.world t) (sym kept.0) kept.1))

pub returns-in-Done-clause-reason : goal.returns-in-Done-clause-reason
returns-in-Done-clause-reason g c =
    let depot = c.args.depot.now in
    let t = c.requires.lent.0 in
    let h = c.requires.lent.1 in
    let f = taken depot c.args.world.now t c.args.lease h in
    let answers = c.try_call.ensures.answers f h.stands (lent-handed depot c.args.world.now t c.args.lease h) h.of_depot in
    answered-reason depot c.args.world.now c.try_call.new.world f h.stands answers.0 c.args.lease c.try_call.result answers.2

pub returns-in-Memory-clause-reason : goal.returns-in-Memory-clause-reason
returns-in-Memory-clause-reason g c =
    let depot = c.args.depot.now in
    let t = c.requires.lent.0 in
    let h = c.requires.lent.1 in
    let f = taken depot c.args.world.now t c.args.lease h in
    let answers = c.try_call.ensures.answers f h.stands (lent-handed depot c.args.world.now t c.args.lease h) h.of_depot in
    c.give_back.ensures.reason ∙ answered-reason depot c.args.world.now c.try_call.new.world f h.stands answers.0 c.args.lease c.try_call.result answers.2

pub returns-in-Memory-clause-told : goal.returns-in-Memory-clause-told
returns-in-Memory-clause-told g c = c.give_back.ensures.told ∙ c.try_call.ensures.told
