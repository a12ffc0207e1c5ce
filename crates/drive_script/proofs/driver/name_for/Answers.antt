use Rattle.std.proofs.Common.{sym}
use Rattle.drive_script.proofs.Driving.{too-far}
use Rattle.drive_script.proofs.driver.name_for.Goals as goal

pub returns-then-not-reaches : goal.returns-then-not-reaches
returns-then-not-reaches c depot t h =
    too-far depot c.args.world.now t c.args.name.now h
    (c.reaches.ensures.far depot h.forest h.stands c.if-not-reaches.true c.args.name.now (sym c.depth.ensures))
