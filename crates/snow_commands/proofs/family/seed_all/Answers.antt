use Rattle.std.proofs.Common.{map, refl, arith}
use Rattle.command_texts.proofs.Seeding.{all-given, next-given}
use Rattle.snow_commands.proofs.family.seed_all.Goals as goal

pub loop-wire-init : goal.loop-wire-init
loop-wire-init g c = refl

pub loop-wire-preserved : goal.loop-wire-preserved
loop-wire-preserved g c =
    next-given g.W.Wire.seeds c.args.seed c.loop-wire.wire-index (map g.W.Wire.seeds c.args.wires.now) _ _ _ c.loop-wire.invariant c.seed.ensures.given (omega arith)

pub returns-clause-seeded : goal.returns-clause-seeded
returns-clause-seeded g c =
    all-given g.W.Wire.seeds c.args.seed c.loop-wire.wire-index c.args.wires.now _ c.loop-wire.invariant (omega (arith, c.loop-wire-test.false))
