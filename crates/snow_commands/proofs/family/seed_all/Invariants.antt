use Rattle.std.proofs.Common.{◌≡◌, ◌++◌, drop, map, take}
use Rattle.command_texts.specs.Seeded.{all_seeded}
use Rattle.snow_commands.proofs.family.seed_all.Given as goal

abbrev pub invariant-loop-wire : goal.invariant-loop-wire
invariant-loop-wire g l =
    map g.W.Wire.seeds l.wires
    ≡ all_seeded l.seed (take l.wire-index (map g.W.Wire.seeds l.initial.wires)) ++ drop l.wire-index (map g.W.Wire.seeds l.initial.wires)
