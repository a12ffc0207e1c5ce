use Rattle.guest_mem.proofs.Making.{cloned_frozen}
use Rattle.guest_mem.proofs.laws.clone_reads_what_was_frozen.Goals as goal

pub returns : goal.returns
returns c = cloned_frozen
