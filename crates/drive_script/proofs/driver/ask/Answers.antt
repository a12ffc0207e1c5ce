use Rattle.std.proofs.Common.{ℕ, ◌<◌, Option, IfSome, Result, Ok, sym, ◌∙◌, subst, arith}
use Rattle.std.proofs.lemmas.Result.{err_from_is_err_and}
use Rattle.std.specs.declared.alloc.AllocError.{AllocError}
use Rattle.world_core.specs.Answers.{TakesNamed}
use Rattle.world_core.specs.Lent.{Lent, now_of}
use Rattle.drive_script.specs.declared.answer.Answer.{Answer}
use Rattle.drive_script.specs.Driven.{DrivesLine}
use Rattle.drive_script.specs.Script.{ask}
use Rattle.drive_script.proofs.Below.{sent-below, wanted-there}
use Rattle.drive_script.proofs.Driving.{asks, breaks-first, looked, looked-at-none, looks-at-none, looks-not, none-kept}
use Rattle.drive_script.proofs.Lent.{named-lent}
use Rattle.drive_script.proofs.Reasons.{taken-reason}
use Rattle.drive_script.proofs.driver.ask.Goals as goal

pub returns-in_err-lease-clause-drives : goal.returns-in_err-lease-clause-drives
returns-in_err-lease-clause-drives c s h keeps =
    let exit = err_from_is_err_and c.from_residual.result c.from_residual.ensures.1 in
    subst (λ (r : Result Answer AllocError). DrivesLine c.args.depot.now (ask c.args.name.now) s r c.take_named.new.self) (sym exit.1)
    (looks-not c.args.depot.now c.args.world.now c.take_named.new.self (ask c.args.name.now) s h c.in_err-lease.field-0.0 exit.0
    (c.in_err-lease.ensures.takes h.forest h.stands))

pub returns-in_default-clause-drives : goal.returns-in_default-clause-drives
returns-in_default-clause-drives c s h keeps =
    looks-at-none c.args.depot.now c.args.world.now c.take_named.new.self (ask c.args.name.now) s h
    (subst (λ (o : Option Lent). TakesNamed c.args.depot.now h.forest c.args.name.now (Ok o) c.take_named.new.self) c.in_default.is
    (c.in_ok-lease.ensures.takes h.forest h.stands))

pub returns-in_default-clause-keeps : goal.returns-in_default-clause-keeps
returns-in_default-clause-keeps c s h keeps =
    none-kept (ask c.args.name.now) s c.args.replies.now.lists
    (looked-at-none c.args.depot.now c.args.world.now c.take_named.new.self (ask c.args.name.now) s h
    (subst (λ (o : Option Lent). TakesNamed c.args.depot.now h.forest c.args.name.now (Ok o) c.take_named.new.self) c.in_default.is
    (c.in_ok-lease.ensures.takes h.forest h.stands))) keeps

pub returns-clause-drives : goal.returns-clause-drives
returns-clause-drives c s h keeps =
    let depot = c.args.depot.now in
    let look = looked depot c.args.world.now c.take_named.new.self c.give_back.new.world s.tree c.args.name.now h c.in-Some.lease
    (subst (λ (o : Option Lent). TakesNamed depot h.forest c.args.name.now (Ok o) c.take_named.new.self) c.in-Some.is (c.in_ok-lease.ensures.takes h.forest h.stands))
    (c.give_back.ensures.back depot s.tree) in
    (asks depot c.give_back.new.world s c.args.name.now (now_of c.in-Some.lease) look c.send.new.self.lists _ c.in_ok-sent.sent
    (c.in_ok-sent.ensures.sends s.sent keeps) c.sent_told.result (c.sent_told.ensures (now_of c.in-Some.lease) (sym c.pages-ram_pages.ensures)) c.wanted-page.ensures.value).0

pub returns-clause-keeps : goal.returns-clause-keeps
returns-clause-keeps c s h keeps =
    let depot = c.args.depot.now in
    let look = looked depot c.args.world.now c.take_named.new.self c.give_back.new.world s.tree c.args.name.now h c.in-Some.lease
    (subst (λ (o : Option Lent). TakesNamed depot h.forest c.args.name.now (Ok o) c.take_named.new.self) c.in-Some.is (c.in_ok-lease.ensures.takes h.forest h.stands))
    (c.give_back.ensures.back depot s.tree) in
    (asks depot c.give_back.new.world s c.args.name.now (now_of c.in-Some.lease) look c.send.new.self.lists _ c.in_ok-sent.sent
    (c.in_ok-sent.ensures.sends s.sent keeps) c.sent_told.result (c.sent_told.ensures (now_of c.in-Some.lease) (sym c.pages-ram_pages.ensures)) c.wanted-page.ensures.value).1

pub returns-in_err-sent-clause-drives : goal.returns-in_err-sent-clause-drives
returns-in_err-sent-clause-drives c s h keeps =
    let depot = c.args.depot.now in
    let look = looked depot c.args.world.now c.take_named.new.self c.give_back.new.world s.tree c.args.name.now h c.in-Some.lease
    (subst (λ (o : Option Lent). TakesNamed depot h.forest c.args.name.now (Ok o) c.take_named.new.self) c.in-Some.is (c.in_ok-lease.ensures.takes h.forest h.stands))
    (c.give_back.ensures.back depot s.tree) in
    let exit = err_from_is_err_and c.from_residual-in_err-sent.result c.from_residual-in_err-sent.ensures.1 in
    subst (λ (r : Result Answer AllocError). DrivesLine depot (ask c.args.name.now) s r c.give_back.new.world) (sym exit.1)
    (breaks-first depot c.give_back.new.world (ask c.args.name.now) s look.has)

pub returns-in_err-lease-clause-reason : goal.returns-in_err-lease-clause-reason
returns-in_err-lease-clause-reason c =
    taken-reason c.args.depot.now c.args.world.now c.take_named.new.self c.requires c.args.name.now c.take_named.result c.take_named.ensures.takes

pub returns-in_default-clause-reason : goal.returns-in_default-clause-reason
returns-in_default-clause-reason c =
    taken-reason c.args.depot.now c.args.world.now c.take_named.new.self c.requires c.args.name.now c.take_named.result c.take_named.ensures.takes

pub returns-clause-reason : goal.returns-clause-reason
returns-clause-reason c =
    c.give_back.ensures.reason ∙ taken-reason c.args.depot.now c.args.world.now c.take_named.new.self c.requires c.args.name.now c.take_named.result c.take_named.ensures.takes

pub give_back-requires : goal.give_back-requires
give_back-requires c =
    let h = c.requires.1 in (
      c.args.depot.now,
      c.requires.0,
      named-lent c.args.depot.now c.args.world.now c.take_named.new.self c.requires.0 c.args.name.now h c.in-Some.lease
          (subst (λ (o : Option Lent). TakesNamed c.args.depot.now h.forest c.args.name.now (Ok o) c.take_named.new.self) c.in-Some.is
          (c.in_ok-lease.ensures.takes h.forest h.stands)),
    )

pub returns-in_err-sent-clause-reason : goal.returns-in_err-sent-clause-reason
returns-in_err-sent-clause-reason c =
    c.give_back.ensures.reason ∙ taken-reason c.args.depot.now c.args.world.now c.take_named.new.self c.requires c.args.name.now c.take_named.result c.take_named.ensures.takes

pub returns-clause-told : goal.returns-clause-told
returns-clause-told c = c.give_back.ensures.told ∙ c.take_named.ensures.told

pub returns-in_err-sent-clause-told : goal.returns-in_err-sent-clause-told
returns-in_err-sent-clause-told c = c.give_back.ensures.told ∙ c.take_named.ensures.told

-- the page that was sent is the one that is wanted
pub sent_told-requires : goal.sent_told-requires
sent_told-requires c =
    let there = wanted-there c.in-Some.lease.pages.here c.wanted-page.result c.wanted-page.ensures.absent in
    sent-below c.pages-ram_pages.result c.places.result (omega (arith, c.places.ensures.few, c.pages-ram_pages.ensures)) c.wanted-page.result c.in_ok-sent.sent
    (subst (λ (n : ℕ). IfSome c.wanted-page.result (λ page. page < n)) (sym c.places.ensures.value) there) c.in_ok-sent.ensures.same
