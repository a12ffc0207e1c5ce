use Rattle.std.proofs.Common.{refl}
use Rattle.world_core.proofs.Giving.{same-stands}
use Rattle.world_core.proofs.world.World.tell.Goals as goal

pub returns-in_default-clause-stands : goal.returns-in_default-clause-stands
returns-in_default-clause-stands c = λ depot f h.
    same-stands depot c.args.self.now _ f (record { cells = λ name. refl; ready = refl; halted = refl; outcome = refl }) h

pub returns-clause-stands : goal.returns-clause-stands
returns-clause-stands c = λ depot f h.
    same-stands depot c.args.self.now _ f (record { cells = λ name. refl; ready = refl; halted = refl; outcome = refl }) h
