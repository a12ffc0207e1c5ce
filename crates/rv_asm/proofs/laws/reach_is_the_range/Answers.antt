use Rattle.rv_asm.proofs.Offsets.{IsInstruction-reaches}
use Rattle.rv_asm.proofs.laws.reach_is_the_range.Goals as goal

pub returns : goal.returns
returns c = IsInstruction-reaches
