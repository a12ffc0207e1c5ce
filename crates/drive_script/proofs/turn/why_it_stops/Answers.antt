use Rattle.std.proofs.Common.{Some, sym, ap, ◌∙◌, arith}
use Rattle.fetch_proto.specs.Number.{page_number}
use Rattle.forest_model.specs.Paged.{paged_machines, paged_talks}
use Rattle.sibling_forest.specs.Settle.{rests_at}
use Rattle.world_core.specs.Lent.{vm_of}
use Rattle.drive_script.specs.declared.answer.Why.TheVariants.{Stalls}
use Rattle.drive_script.specs.Turned.{standing}
use Rattle.drive_script.proofs.Below.{place-below, wanted-there}
use Rattle.drive_script.proofs.Lent.{lent-handed, lent-waits, lent-why, taken}
use Rattle.drive_script.proofs.Whys.{ends, goes, stalls, waits-at, waits-so}
use Rattle.drive_script.proofs.turn.why_it_stops.Goals as goal

pub returns-in-Some : goal.returns-in-Some
returns-in-Some c depot t h =
    let lease = c.args.lease.now in
    lent-why depot c.args.world.now t lease h
    ∙ ap Some (ends (vm_of lease) (rests_at paged_machines paged_talks lease.name (standing lease t)) c.in-Some.ending (sym c.in-Some.ensures))

pub returns-in-Some-wanted : goal.returns-in-Some-wanted
returns-in-Some-wanted c depot t h =
    let lease = c.args.lease.now in
    let number = c.page_number.ensures ∙ ap (λ n. page_number n c.in-Some-wanted.page) c.pages.ensures in
    lent-why depot c.args.world.now t lease h
    ∙ ap Some (stalls (vm_of lease) (rests_at paged_machines paged_talks lease.name (standing lease t)) c.in-Some-wanted.page (sym c.in_default.ensures)
    (sym c.in-Some-wanted.ensures.value) ∙ ap Stalls (sym number))

pub returns-then-waits : goal.returns-then-waits
returns-then-waits c depot t h =
    let lease = c.args.lease.now in
    let here = sym c.in_default-wanted.ensures.value in
    let lives = sym c.in_default.ensures in
    let rests = waits-so lease.now.ending (rests_at paged_machines paged_talks lease.name (standing lease t)) c.waits.result lives
    (lent-waits depot c.args.world.now t lease h here c.waits.result
    (c.waits.ensures depot (taken depot c.args.world.now t lease h) h.stands (lent-handed depot c.args.world.now t lease h))) in
    lent-why depot c.args.world.now t lease h
    ∙ ap Some (waits-at (vm_of lease) (rests_at paged_machines paged_talks lease.name (standing lease t)) lives here (rests ∙ c.if-waits.true) ∙ sym c.awaited.ensures)

pub returns-else-waits : goal.returns-else-waits
returns-else-waits c depot t h =
    let lease = c.args.lease.now in
    let here = sym c.in_default-wanted.ensures.value in
    let lives = sym c.in_default.ensures in
    let rests = waits-so lease.now.ending (rests_at paged_machines paged_talks lease.name (standing lease t)) c.waits.result lives
    (lent-waits depot c.args.world.now t lease h here c.waits.result
    (c.waits.ensures depot (taken depot c.args.world.now t lease h) h.stands (lent-handed depot c.args.world.now t lease h))) in
    lent-why depot c.args.world.now t lease h
    ∙ ap Some (goes (vm_of lease) (rests_at paged_machines paged_talks lease.name (standing lease t)) lives here (rests ∙ c.if-waits.false))

-- the page that it waits for is one of its own
pub page_number-requires : goal.page_number-requires
page_number-requires c =
    let page = c.in-Some-wanted.page in
    let there = wanted-there c.args.lease.now.pages.here (Some page) c.in-Some-wanted.ensures.absent in
    place-below c.pages.result c.places.result (omega (arith, c.places.ensures.few, c.pages.ensures)) page (omega (arith, there, c.places.ensures.value))
