use Rattle.std.proofs.Common.{Option, Result, Ok, sym, ◌∙◌, subst}
use Rattle.std.proofs.lemmas.Result.{err_from_is_err_and}
use Rattle.std.specs.declared.alloc.AllocError.{AllocError}
use Rattle.world_core.specs.Answers.{TakesNamed}
use Rattle.world_core.specs.Lent.{Lent, now_of}
use Rattle.drive_script.specs.declared.answer.Answer.{Answer}
use Rattle.drive_script.specs.Driven.{DrivesLine}
use Rattle.drive_script.specs.Script.{peek}
use Rattle.drive_script.proofs.Driving.{looked, looks-at-none, looks-not, peeks}
use Rattle.drive_script.proofs.Lent.{named-lent}
use Rattle.drive_script.proofs.Reasons.{taken-reason}
use Rattle.drive_script.proofs.driver.peek.Goals as goal

pub returns-in_err-lease-clause-drives : goal.returns-in_err-lease-clause-drives
returns-in_err-lease-clause-drives c s h =
    let exit = err_from_is_err_and c.from_residual.result c.from_residual.ensures.1 in
    subst (λ (r : Result Answer AllocError). DrivesLine c.args.depot.now (peek c.args.name.now c.args.address) s r c.take_named.new.self) (sym exit.1)
    (looks-not c.args.depot.now c.args.world.now c.take_named.new.self (peek c.args.name.now c.args.address) s h c.in_err-lease.field-0.0 exit.0
    (c.in_err-lease.ensures.takes h.forest h.stands))

pub peek-word-requires : goal.peek-word-requires
peek-word-requires c =
    let h = c.requires.1 in
    (subst (λ (o : Option Lent). TakesNamed c.args.depot.now h.forest c.args.name.now (Ok o) c.take_named.new.self) c.in-Some.is
    (c.in_ok-lease.ensures.takes h.forest h.stands)).3

pub returns-in_default-clause-drives : goal.returns-in_default-clause-drives
returns-in_default-clause-drives c s h =
    looks-at-none c.args.depot.now c.args.world.now c.take_named.new.self (peek c.args.name.now c.args.address) s h
    (subst (λ (o : Option Lent). TakesNamed c.args.depot.now h.forest c.args.name.now (Ok o) c.take_named.new.self) c.in_default.is
    (c.in_ok-lease.ensures.takes h.forest h.stands))

pub returns-clause-drives : goal.returns-clause-drives
returns-clause-drives c s h =
    let depot = c.args.depot.now in
    peeks depot c.give_back.new.world s c.args.name.now c.args.address c.peek-word.result (now_of c.in-Some.lease) c.peek-word.ensures
    (looked depot c.args.world.now c.take_named.new.self c.give_back.new.world s.tree c.args.name.now h c.in-Some.lease
    (subst (λ (o : Option Lent). TakesNamed depot h.forest c.args.name.now (Ok o) c.take_named.new.self) c.in-Some.is (c.in_ok-lease.ensures.takes h.forest h.stands))
    (c.give_back.ensures.back depot s.tree))

pub returns-in_err-lease-clause-reason : goal.returns-in_err-lease-clause-reason
returns-in_err-lease-clause-reason c =
    taken-reason c.args.depot.now c.args.world.now c.take_named.new.self c.requires c.args.name.now c.take_named.result c.take_named.ensures.takes

pub returns-in_default-clause-reason : goal.returns-in_default-clause-reason
returns-in_default-clause-reason c =
    taken-reason c.args.depot.now c.args.world.now c.take_named.new.self c.requires c.args.name.now c.take_named.result c.take_named.ensures.takes

pub returns-clause-reason : goal.returns-clause-reason
returns-clause-reason c =
    c.give_back.ensures.reason ∙ taken-reason c.args.depot.now c.args.world.now c.take_named.new.self c.requires c.args.name.now c.take_named.result c.take_named.ensures.takes

pub give_back-requires : goal.give_back-requires
give_back-requires c =
    let h = c.requires.1 in (
      c.args.depot.now,
      c.requires.0,
      named-lent c.args.depot.now c.args.world.now c.take_named.new.self c.requires.0 c.args.name.now h c.in-Some.lease
          (subst (λ (o : Option Lent). TakesNamed c.args.depot.now h.forest c.args.name.now (Ok o) c.take_named.new.self) c.in-Some.is
          (c.in_ok-lease.ensures.takes h.forest h.stands)),
    )

pub returns-clause-told : goal.returns-clause-told
returns-clause-told c = c.give_back.ensures.told ∙ c.take_named.ensures.told
