use Rattle.std.proofs.Common.{sym, ◌∙◌}
use Rattle.vm_cell.specs.Standing.{standing_talk}
use Rattle.world_core.specs.Lent.{vm_of}
use Rattle.drive_script.proofs.Lent.{lent-handed, no-call, said, taken}
use Rattle.drive_script.proofs.turn.try_call.Goals as goal

pub fork-requires-clause-lent : goal.fork-requires-clause-lent
fork-requires-clause-lent g c =
    let t = c.requires.lent.0 in
    let h = c.requires.lent.1 in
    (taken c.args.depot.now c.args.world.now t c.args.lease h, h.stands, lent-handed c.args.depot.now c.args.world.now t c.args.lease h, h.of_depot)

pub join-requires-clause-lent : goal.join-requires-clause-lent
join-requires-clause-lent g c =
    let t = c.requires.lent.0 in
    let h = c.requires.lent.1 in
    (c.args.depot.now, (taken c.args.depot.now c.args.world.now t c.args.lease h, h.stands, lent-handed c.args.depot.now c.args.world.now t c.args.lease h, h.of_depot))

pub kill-requires-clause-lent : goal.kill-requires-clause-lent
kill-requires-clause-lent g c =
    let t = c.requires.lent.0 in
    let h = c.requires.lent.1 in
    (c.args.depot.now, (taken c.args.depot.now c.args.world.now t c.args.lease h, h.stands, lent-handed c.args.depot.now c.args.world.now t c.args.lease h, h.of_depot))

pub talk-requires-clause-lent : goal.talk-requires-clause-lent
talk-requires-clause-lent g c =
    let t = c.requires.lent.0 in
    let h = c.requires.lent.1 in
    (c.args.depot.now, (taken c.args.depot.now c.args.world.now t c.args.lease h, h.stands, lent-handed c.args.depot.now c.args.world.now t c.args.lease h, h.of_depot))

pub talk-requires-clause-talks : goal.talk-requires-clause-talks
talk-requires-clause-talks g c = no-call (vm_of c.args.lease) (sym c.call.ensures ∙ c.in-None.is) c.requires.asks

pub returns-in-None-clause-answers : goal.returns-in-None-clause-answers
returns-in-None-clause-answers g c f stands out of_depot =
    said c.args.depot.now f c.args.lease c.talk.result c.talk.new.self (standing_talk (vm_of c.args.lease))
    (no-call (vm_of c.args.lease) (sym c.call.ensures ∙ c.in-None.is) c.requires.asks) (c.talk.ensures.answers c.args.depot.now f stands out of_depot)
