use Rattle.std.proofs.Common.{arith}
use Rattle.std.proofs.Math.Pow.{pow_mono}
use Rattle.vm_descriptor.proofs.BitRuns.{bits_kept, kept_below}
use Rattle.vm_descriptor.proofs.bits.filled.Goals as goal

pub overflow_sub-result : goal.overflow_sub-result
overflow_sub-result c = let more = pow_mono c.requires.order in omega (arith, more)

pub returns-else-flag-clause-bits : goal.returns-else-flag-clause-bits
returns-else-flag-clause-bits c = bits_kept c.args.flag c.args.byte c.args.from c.args.to c.requires.order c.requires.below c.if-flag.false

pub returns-else-flag-clause-below : goal.returns-else-flag-clause-below
returns-else-flag-clause-below c = kept_below c.args.byte c.args.from c.args.to c.requires.order c.requires.below
