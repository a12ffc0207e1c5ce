use Rattle.std.proofs.Common.{Option, Result, Ok, sym, ◌∙◌, subst, replicate}
use Rattle.std.proofs.lemmas.Result.{err_from_is_err_and}
use Rattle.std.specs.declared.alloc.AllocError.{AllocError}
use Rattle.world_core.specs.Lent.{Lent}
use Rattle.world_core.specs.Answers.{TakesNamed}
use Rattle.drive_script.specs.Told.{made_at}
use Rattle.drive_script.specs.declared.turn.TurnOutcome.{TurnOutcome}
use Rattle.drive_script.specs.Turned.{EndsTurn}
use Rattle.drive_script.proofs.Driving.{made-none}
use Rattle.drive_script.proofs.Lent.{named-kept, named-lent, named-none}
use Rattle.drive_script.proofs.Reasons.{taken-reason}
use Rattle.drive_script.proofs.turn.take_turn.Goals as goal

pub returns-in_err-lease-clause-turns : goal.returns-in_err-lease-clause-turns
returns-in_err-lease-clause-turns g c t h =
    let exit = err_from_is_err_and c.from_residual.result c.from_residual.ensures.1 in
    subst (λ (r : Result TurnOutcome AllocError). EndsTurn c.args.depot.now c.args.name.now c.args.most t r c.take_named.new.self) (sym exit.1)
    (made-none c.args.depot.now c.take_named.new.self (replicate (made_at c.args.most c.args.name.now t) c.args.name.now) t
    (named-kept c.args.depot.now c.args.world.now c.take_named.new.self t c.args.name.now h (c.in_err-lease.ensures.takes h.forest h.stands)))

pub returns-in-Some-clause-turns : goal.returns-in-Some-clause-turns
returns-in-Some-clause-turns g c t h =
    let named = subst (λ (o : Option Lent). TakesNamed c.args.depot.now h.forest c.args.name.now (Ok o) c.take_named.new.self) c.in-Some.is
    (c.in_ok-lease.ensures.takes h.forest h.stands) in
    let lent = named-lent c.args.depot.now c.args.world.now c.take_named.new.self t c.args.name.now h c.in-Some.lease named in
    subst (λ name. EndsTurn c.args.depot.now name c.args.most t c.run_turn.result c.run_turn.new.world) named.1 (c.run_turn.ensures.turns t lent)

pub returns-in-None-clause-turns : goal.returns-in-None-clause-turns
returns-in-None-clause-turns g c t h =
    named-none c.args.depot.now c.args.world.now c.take_named.new.self t c.args.name.now h
    (subst (λ (o : Option Lent). TakesNamed c.args.depot.now h.forest c.args.name.now (Ok o) c.take_named.new.self) c.in-None.is
    (c.in_ok-lease.ensures.takes h.forest h.stands))

pub returns-in_err-lease-clause-reason : goal.returns-in_err-lease-clause-reason
returns-in_err-lease-clause-reason g c =
    taken-reason c.args.depot.now c.args.world.now c.take_named.new.self c.requires c.args.name.now c.take_named.result c.take_named.ensures.takes

pub returns-in-Some-clause-reason : goal.returns-in-Some-clause-reason
returns-in-Some-clause-reason g c =
    c.run_turn.ensures.reason ∙ taken-reason c.args.depot.now c.args.world.now c.take_named.new.self c.requires c.args.name.now c.take_named.result c.take_named.ensures.takes

pub returns-in-None-clause-reason : goal.returns-in-None-clause-reason
returns-in-None-clause-reason g c =
    taken-reason c.args.depot.now c.args.world.now c.take_named.new.self c.requires c.args.name.now c.take_named.result c.take_named.ensures.takes

pub run_turn-requires-clause-lent : goal.run_turn-requires-clause-lent
run_turn-requires-clause-lent g c =
    let h = c.requires.1 in (
      c.requires.0,
      named-lent c.args.depot.now c.args.world.now c.take_named.new.self c.requires.0 c.args.name.now h c.in-Some.lease
          (subst (λ (o : Option Lent). TakesNamed c.args.depot.now h.forest c.args.name.now (Ok o) c.take_named.new.self) c.in-Some.is
          (c.in_ok-lease.ensures.takes h.forest h.stands)),
    )

pub returns-in-Some-clause-told : goal.returns-in-Some-clause-told
returns-in-Some-clause-told g c = c.run_turn.ensures.told ∙ c.take_named.ensures.told
