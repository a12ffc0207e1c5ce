use Rattle.std.proofs.Common.{refl, sym, subst, arith}
use Rattle.vm_hart.specs.Keyed.{KeyedState}
use Rattle.vm_hart.proofs.Fast.{stretch-counted}
use Rattle.vm_hart.proofs.Kept.{StaysSame, kept-same}
use Rattle.vm_hart.proofs.hart.Hart.make_fast.Goals as goal

pub returns-clause-made : goal.returns-clause-made
returns-clause-made c =
    stretch-counted c.stretch-made.result c.quiet_steps.result c.args.self.now c.stretch-made.new.self c.count_many.new.self
    c.stretch-made.ensures.stretch c.quiet_steps.ensures (omega (arith, c.stretch-made.ensures.most)) c.count_many.ensures

-- counting leaves what slots keep
pub returns-clause-keeps : goal.returns-clause-keeps
returns-clause-keeps c =
    let made : KeyedState = c.stretch-made.new.self in
    let same : StaysSame made c.count_many.new.self = subst (StaysSame made) (sym c.count_many.ensures) (record { ram = refl; here = refl; entries = refl }) in
    kept-same made c.count_many.new.self c.args.epoch c.stretch-made.new.slots same c.stretch-made.ensures.keeps
