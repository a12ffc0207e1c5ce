use Rattle.std.proofs.Common.{Option, Result, Ok, sym, ◌∙◌, subst, arith}
use Rattle.std.proofs.lemmas.Result.{err_from_is_err_and}
use Rattle.std.specs.declared.alloc.AllocError.{AllocError}
use Rattle.world_core.specs.Answers.{TakesNamed}
use Rattle.world_core.specs.Lent.{Lent, now_of}
use Rattle.drive_script.specs.declared.answer.Answer.{Answer}
use Rattle.drive_script.specs.Driven.{DrivesLine}
use Rattle.drive_script.specs.Script.{give}
use Rattle.drive_script.proofs.Below.{few-places}
use Rattle.drive_script.proofs.Bringing.{brings-lent, brought-below, gives-failed, gives-none, gives-so}
use Rattle.drive_script.proofs.Driving.{breaks-first, looks-at-none, looks-not}
use Rattle.drive_script.proofs.Lent.{named-lent}
use Rattle.drive_script.proofs.Reasons.{taken-reason}
use Rattle.drive_script.proofs.driver.give.Goals as goal

pub returns-in_err-page-clause-drives : goal.returns-in_err-page-clause-drives
returns-in_err-page-clause-drives c s h keeps =
    let exit = err_from_is_err_and c.from_residual.result c.from_residual.ensures.1 in
    subst (λ (r : Result Answer AllocError). DrivesLine c.args.depot.now (give c.args.name.now c.args.place) s r c.args.world.now) (sym exit.1)
    (breaks-first c.args.depot.now c.args.world.now (give c.args.name.now c.args.place) s h)

pub returns-in_default-clause-drives : goal.returns-in_default-clause-drives
returns-in_default-clause-drives c s h keeps =
    gives-none c.args.depot.now c.args.world.now s c.args.name.now c.args.place h (sym c.in_default.is ∙ c.in_ok-page.ensures s.sent keeps)

pub returns-in_err-lease-clause-drives : goal.returns-in_err-lease-clause-drives
returns-in_err-lease-clause-drives c s h keeps =
    let exit = err_from_is_err_and c.from_residual-in_err-lease.result c.from_residual-in_err-lease.ensures.1 in
    subst (λ (r : Result Answer AllocError). DrivesLine c.args.depot.now (give c.args.name.now c.args.place) s r c.take_named.new.self) (sym exit.1)
    (looks-not c.args.depot.now c.args.world.now c.take_named.new.self (give c.args.name.now c.args.place) s h c.in_err-lease.field-0.0 exit.0
    (c.in_err-lease.ensures.takes h.forest h.stands))

pub returns-in_default-2-clause-drives : goal.returns-in_default-2-clause-drives
returns-in_default-2-clause-drives c s h keeps =
    looks-at-none c.args.depot.now c.args.world.now c.take_named.new.self (give c.args.name.now c.args.place) s h
    (subst (λ (o : Option Lent). TakesNamed c.args.depot.now h.forest c.args.name.now (Ok o) c.take_named.new.self) c.in_default-2.is
    (c.in_ok-lease.ensures.takes h.forest h.stands))

pub give_back-requires : goal.give_back-requires
give_back-requires c =
    let depot = c.args.depot.now in
    let mid = c.take_named.new.self in
    let h = c.requires.1 in
    let held = named-lent depot c.args.world.now mid c.requires.0 c.args.name.now h c.in-Some-2.lease
    (subst (λ (o : Option Lent). TakesNamed depot h.forest c.args.name.now (Ok o) mid) c.in-Some-2.is (c.in_ok-lease.ensures.takes h.forest h.stands)) in
    let there = brings-lent depot mid c.requires.0 c.in-Some.page c.in-Some-2.lease c.bring-arrived.new.lease c.bring-arrived.result held
    (c.bring-arrived.ensures mid c.requires.0 held) in
    (depot, there.0, there.1)

pub returns-in_err-arrived-clause-drives : goal.returns-in_err-arrived-clause-drives
returns-in_err-arrived-clause-drives c s h keeps =
    let depot = c.args.depot.now in
    let mid = c.take_named.new.self in
    let named = subst (λ (o : Option Lent). TakesNamed depot h.forest c.args.name.now (Ok o) mid) c.in-Some-2.is (c.in_ok-lease.ensures.takes h.forest h.stands) in
    let held = named-lent depot c.args.world.now mid s.tree c.args.name.now h c.in-Some-2.lease named in
    let exit = err_from_is_err_and c.from_residual-in_err-arrived.result c.from_residual-in_err-arrived.ensures.1 in
    subst (λ (r : Result Answer AllocError). DrivesLine depot (give c.args.name.now c.args.place) s r c.give_back.new.world) (sym exit.1)
    (gives-failed depot c.args.world.now mid c.give_back.new.world s c.args.name.now c.args.place c.in-Some.page h c.in-Some-2.lease c.bring-arrived.new.lease named
    (λ u. c.give_back.ensures.back depot u) c.in_err-arrived.field-0.0 exit.0 (c.in_err-arrived.ensures mid s.tree held))

pub returns-clause-drives : goal.returns-clause-drives
returns-clause-drives c s h keeps =
    let depot = c.args.depot.now in
    let mid = c.take_named.new.self in
    let named = subst (λ (o : Option Lent). TakesNamed depot h.forest c.args.name.now (Ok o) mid) c.in-Some-2.is (c.in_ok-lease.ensures.takes h.forest h.stands) in
    let held = named-lent depot c.args.world.now mid s.tree c.args.name.now h c.in-Some-2.lease named in
    gives-so depot c.args.world.now mid c.give_back.new.world s c.args.name.now c.args.place c.in-Some.page h c.in-Some-2.lease c.bring-arrived.new.lease named
    (λ u. c.give_back.ensures.back depot u) c.in_ok-arrived.field-0 c.arrival_told.result
    (c.arrival_told.ensures (now_of c.in-Some-2.lease) (sym c.pages-ram_pages.ensures)) (sym c.in-Some.is ∙ c.in_ok-page.ensures s.sent keeps) (c.in_ok-arrived.ensures mid s.tree held)

pub returns-in_err-lease-clause-reason : goal.returns-in_err-lease-clause-reason
returns-in_err-lease-clause-reason c =
    taken-reason c.args.depot.now c.args.world.now c.take_named.new.self c.requires c.args.name.now c.take_named.result c.take_named.ensures.takes

pub returns-in_default-2-clause-reason : goal.returns-in_default-2-clause-reason
returns-in_default-2-clause-reason c =
    taken-reason c.args.depot.now c.args.world.now c.take_named.new.self c.requires c.args.name.now c.take_named.result c.take_named.ensures.takes

pub returns-in_err-arrived-clause-reason : goal.returns-in_err-arrived-clause-reason
returns-in_err-arrived-clause-reason c =
    c.give_back.ensures.reason ∙ taken-reason c.args.depot.now c.args.world.now c.take_named.new.self c.requires c.args.name.now c.take_named.result c.take_named.ensures.takes

pub returns-clause-reason : goal.returns-clause-reason
returns-clause-reason c =
    c.give_back.ensures.reason ∙ taken-reason c.args.depot.now c.args.world.now c.take_named.new.self c.requires c.args.name.now c.take_named.result c.take_named.ensures.takes

pub returns-in_err-arrived-clause-told : goal.returns-in_err-arrived-clause-told
returns-in_err-arrived-clause-told c = c.give_back.ensures.told ∙ c.take_named.ensures.told

pub returns-clause-told : goal.returns-clause-told
returns-clause-told c = c.give_back.ensures.told ∙ c.take_named.ensures.told

-- what came is a page of the machine's
pub arrival_told-requires : goal.arrival_told-requires
arrival_told-requires c =
    let depot = c.args.depot.now in
    let mid = c.take_named.new.self in
    let h = c.requires.1 in
    let held = named-lent depot c.args.world.now mid c.requires.0 c.args.name.now h c.in-Some-2.lease
    (subst (λ (o : Option Lent). TakesNamed depot h.forest c.args.name.now (Ok o) mid) c.in-Some-2.is (c.in_ok-lease.ensures.takes h.forest h.stands)) in
    let few = few-places c.pages-ram_pages.result c.places.result (omega (arith, c.places.ensures.few, c.pages-ram_pages.ensures)) in
    brought-below c.in-Some-2.lease.pages.here c.in-Some.page _ c.in_ok-arrived.field-0 (omega (arith, few, c.places.ensures.value))
    (c.in_ok-arrived.ensures mid c.requires.0 held).0
