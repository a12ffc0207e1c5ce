use Rattle.world_core.specs.Answers.{home_by}
use Rattle.world_core.proofs.Giving.{home-wants-none}
use Rattle.drive_script.proofs.Lent.{given-back, lent-handed, taken}
use Rattle.drive_script.proofs.Reasons.{answered-reason}
use Rattle.drive_script.proofs.turn.give_back.Goals as goal

pub give-requires : goal.give-requires
give-requires c =
    let h = c.requires.2 in
    (c.requires.0, (taken c.requires.0 c.args.world.now c.requires.1 c.args.lease h, h.stands, lent-handed c.requires.0 c.args.world.now c.requires.1 c.args.lease h, h.of_depot))

pub returns-clause-back : goal.returns-clause-back
returns-clause-back c depot t h =
    given-back depot c.args.world.now t c.args.lease h c.give.result c.give.new.self
    (c.give.ensures.answers depot (taken depot c.args.world.now t c.args.lease h) h.stands (lent-handed depot c.args.world.now t c.args.lease h) h.of_depot)

pub unreachable-requires : goal.unreachable-requires
unreachable-requires c =
    let h = c.requires.2 in
    let f = taken c.requires.0 c.args.world.now c.requires.1 c.args.lease h in
    home-wants-none c.args.lease.now.ending
    (c.in-Memory.ensures.answers c.requires.0 f h.stands (lent-handed c.requires.0 c.args.world.now c.requires.1 c.args.lease h) h.of_depot).0

pub returns-clause-reason : goal.returns-clause-reason
returns-clause-reason c =
    let h = c.requires.2 in
    let f = taken c.requires.0 c.args.world.now c.requires.1 c.args.lease h in
    answered-reason c.requires.0 c.args.world.now c.give.new.self f h.stands (home_by c.args.lease.now.ending) c.args.lease c.give.result
    (c.give.ensures.answers c.requires.0 f h.stands (lent-handed c.requires.0 c.args.world.now c.requires.1 c.args.lease h) h.of_depot)
