use Rattle.std.proofs.Common.{sym, arith}
use Rattle.drive_script.proofs.Bringing.{brings-had, brings-none, brought}
use Rattle.drive_script.proofs.Lent.{lent-handed, taken}
use Rattle.drive_script.proofs.turn.bring.Goals as goal

pub returns-then-page-places : goal.returns-then-page-places
returns-then-page-places c w t h =
    let count = c.places.ensures.value in
    let past = c.if-page-places.true in
    brings-none c.args.depot.now w t c.args.lease.now h c.requires.new c.args.page (omega (arith, count, past))

pub returns-in_default : goal.returns-in_default
returns-in_default c w t h =
    let count = c.places.ensures.value in
    let within = c.if-page-places.false in
    brings-had c.args.depot.now w t c.args.lease.now h c.requires.new c.args.page (omega (arith, count, within)) (sym c.in_default.ensures.value) c.in_default.ensures.absent

pub returns : goal.returns
returns c w t h =
    let depot = c.args.depot.now in
    let old = c.args.lease.now in
    let same = c.in_ok-arrived.ensures.same in
    brought depot w t old h c.requires.new c.arrive.new.self same.0 same.1 c.in_ok-arrived.ensures.rest c.args.page c.in_ok-parcel.parcel c.in-Some.key.now
    c.in_ok-arrived.arrived (sym c.in-Some.ensures.value) c.in_ok-parcel.ensures c.in_ok-arrived.ensures.arrives
    (c.in_ok-arrived.ensures.handed w (taken depot w t old h) h.stands (lent-handed depot w t old h)).0
