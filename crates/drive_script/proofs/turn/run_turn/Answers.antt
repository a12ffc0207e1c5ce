use Rattle.std.proofs.Common.{rules, ◌≡◌, ◌+◌, true, Result, Ok, Err, sym, ◌∙◌, subst, arith, inl, inr}
use Rattle.world_core.specs.Lent.{vm_of}
use Rattle.std.specs.declared.alloc.AllocError.{AllocError}
use Rattle.drive_script.specs.declared.turn.TurnOutcome.{TurnOutcome}
use Rattle.drive_script.specs.declared.turn.TurnOutcome.TheVariants.{Stopped, Called}
use Rattle.drive_script.specs.Turned.{EndsTurn, is_asking}
use Rattle.std.proofs.lemmas.Result.{err_from_is_err_and}
use Rattle.drive_script.proofs.Lent.{lent-handed, taken}
use Rattle.drive_script.proofs.Turning.{Waits, lent-failed, lent-ran, may-call, stops-ended, stops-waiting, turn-called, turn-failed, turn-stopped}
use Rattle.drive_script.proofs.turn.run_turn.Goals as goal
use Rattle.drive_script.proofs.turn.run_turn.Goals.{else-ran-most-via-then-ran-most+then-is_asking+else-not-waits, else-ran-most-via-then-ran-most+else-is_asking, else-ran-most-via-else-ran-most}

pub give_back-requires : goal.give_back-requires
give_back-requires g c = (
  c.args.depot.now,
  c.requires.lent.0,
  lent-failed c.args.depot.now c.args.world.now c.requires.lent.0 c.args.lease c.run.new.self c.in_default.ensures.same c.in_default.ensures.err_ran
      c.in_default.ensures.err c.in_default.ensures.err_free c.requires.lent.1,
)

pub returns-in_default-clause-turns : goal.returns-in_default-clause-turns
returns-in_default-clause-turns g c t h =
    let depot = c.args.depot.now in
    let later = c.run.new.self in
    let lent = lent-failed depot c.args.world.now t c.args.lease later c.in_default.ensures.same c.in_default.ensures.err_ran c.in_default.ensures.err c.in_default.ensures.err_free h in
    let few = c.in_default.ensures.err_most in
    let none = c.requires.new in
    subst (λ name. EndsTurn depot name c.args.most t (Err c.in_default.field-0) c.give_back.new.world) c.in_default.ensures.same.name
    (turn-failed depot c.args.world.now t later lent c.give_back.new.world (c.give_back.ensures.back depot t lent) c.args.most (omega (arith, few, none)))

pub make_call-requires-clause-lent : goal.make_call-requires-clause-lent
make_call-requires-clause-lent g c =
    let depot = c.args.depot.now in
    let t = c.requires.lent.0 in
    let later = c.run.new.self in
    let lent = lent-ran depot c.args.world.now t c.args.lease later c.in-Ok.ran.steps c.in-Ok.ensures.same c.in-Ok.ensures.now.0 c.in-Ok.ensures.now.1
    c.in-Ok.ensures.free c.requires.lent.1 in
    let some : is_asking (vm_of later) ≡ true = search rules in
    let waits = c.waits.ensures depot (taken depot c.args.world.now t later lent) lent.stands (lent-handed depot c.args.world.now t later lent) in (
      t,
      lent,
      may-call depot c.args.world.now t later lent some
          (subst (Waits depot c.args.world.now t later lent) c.if-not-waits.true waits),
    )

pub returns-in_err-make_call-clause-turns : goal.returns-in_err-make_call-clause-turns
returns-in_err-make_call-clause-turns g c t h =
    let depot = c.args.depot.now in
    let later = c.run.new.self in
    let lent = lent-ran depot c.args.world.now t c.args.lease later c.in-Ok.ran.steps c.in-Ok.ensures.same c.in-Ok.ensures.now.0 c.in-Ok.ensures.now.1 c.in-Ok.ensures.free h in
    let ran = c.in-Ok.ensures.now.0 in
    let within = c.in-Ok.ensures.most in
    let none = c.requires.new in
    let exit = err_from_is_err_and c.from_residual.result c.from_residual.ensures.1 in
    subst (λ (r : Result TurnOutcome AllocError). EndsTurn depot c.args.lease.name c.args.most t r c.make_call.new.world) (sym exit.1)
    (subst (λ name. EndsTurn depot name c.args.most t (Err exit.0) c.make_call.new.world) c.in-Ok.ensures.same.name
    (turn-failed depot c.args.world.now t later lent c.make_call.new.world (c.in_err-make_call.ensures.made t lent) c.args.most (omega (arith, ran, within, none))))

pub returns-then-not-waits-clause-turns : goal.returns-then-not-waits-clause-turns
returns-then-not-waits-clause-turns g c t h =
    let depot = c.args.depot.now in
    let later = c.run.new.self in
    let lent = lent-ran depot c.args.world.now t c.args.lease later c.in-Ok.ran.steps c.in-Ok.ensures.same c.in-Ok.ensures.now.0 c.in-Ok.ensures.now.1 c.in-Ok.ensures.free h in
    let ran = c.in-Ok.ensures.now.0 in
    let below = c.if-ran-most.true in
    let none = c.requires.new in
    subst (λ name. EndsTurn depot name c.args.most t (Ok (Called (c.in-Ok.ran.steps + 1))) c.make_call.new.world) c.in-Ok.ensures.same.name
    (turn-called depot c.args.world.now t later lent c.args.most c.in-Ok.ran.steps c.make_call.new.world (omega (arith, ran, none)) below
    (c.in_ok-make_call.ensures.made t lent))

pub give_back-requires-2 : goal.give_back-requires-2
give_back-requires-2 g c = (
  c.args.depot.now,
  c.requires.lent.0,
  lent-ran c.args.depot.now c.args.world.now c.requires.lent.0 c.args.lease c.run.new.self c.in-Ok.ran.steps c.in-Ok.ensures.same c.in-Ok.ensures.now.0
      c.in-Ok.ensures.now.1 c.in-Ok.ensures.free c.requires.lent.1,
)

pub returns-clause-turns : goal.returns-clause-turns
returns-clause-turns g c t h =
    let depot = c.args.depot.now in
    let later = c.run.new.self in
    let lent = lent-ran depot c.args.world.now t c.args.lease later c.in-Ok.ran.steps c.in-Ok.ensures.same c.in-Ok.ensures.now.0 c.in-Ok.ensures.now.1 c.in-Ok.ensures.free h in
    let ran = c.in-Ok.ensures.now.0 in
    let none = c.requires.new in
    subst (λ name. EndsTurn depot name c.args.most t (Ok (Stopped c.in-Ok.ran.steps c.why_it_stops-why.result)) c.give_back-2.new.world) c.in-Ok.ensures.same.name
    (turn-stopped depot c.args.world.now t later lent c.give_back-2.new.world (c.give_back-2.ensures.back depot t lent) c.args.most c.in-Ok.ran.steps
    c.why_it_stops-why.result (omega (arith, ran, none)) c.in-Ok.ensures.most (c.why_it_stops-why.ensures depot t lent)
    (elim c.else-ran-most.branch [
      | else-ran-most-via-then-ran-most+then-is_asking+else-not-waits w ↦
          inr (stops-waiting depot c.args.world.now t later lent (sym w.is_asking.ensures ∙ w.if-is_asking.true)
          (subst (Waits depot c.args.world.now t later lent) w.if-not-waits.false
          (w.waits.ensures depot (taken depot c.args.world.now t later lent) lent.stands (lent-handed depot c.args.world.now t later lent))))
      | else-ran-most-via-then-ran-most+else-is_asking w ↦ inr (stops-ended depot c.args.world.now t later lent c.in-Ok.ran.why
          (λ went. let all = c.in-Ok.ensures.all_made went in let below = w.if-ran-most.true in absurd (omega (arith, all, below)))
          c.in-Ok.ensures.stands (sym w.is_asking.ensures ∙ w.if-is_asking.false))
      | else-ran-most-via-else-ran-most w ↦
          let over = w.if-ran-most.false in
          let within = c.in-Ok.ensures.most in
          inl (omega (arith, over, within))
    ]))
