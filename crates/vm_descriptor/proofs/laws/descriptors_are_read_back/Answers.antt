use Rattle.vm_descriptor.proofs.Marks.{spelling_read, spelling_taken}
use Rattle.vm_descriptor.proofs.laws.descriptors_are_read_back.Goals as goal

pub returns-clause-read : goal.returns-clause-read
returns-clause-read c d bytes fits is = spelling_read d fits bytes is

pub returns-clause-taken : goal.returns-clause-taken
returns-clause-taken c d bytes fits range is = spelling_taken d fits range bytes is
