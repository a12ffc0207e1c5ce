use Rattle.page_frames.specs.declared.page.TheConstants.{PAGE_SIZE}
use Rattle.flat_memory.proofs.Zeros.{length-zeros}
use Rattle.page_frames.proofs.entry.Entry.write.Goals as goal

pub returns-in-Blank-clause-whole : goal.returns-in-Blank-clause-whole
returns-in-Blank-clause-whole c = rw c.in-Blank.is (length-zeros PAGE_SIZE)
