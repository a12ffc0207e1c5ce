use Rattle.std.proofs.Common.{ap, sym}
use Rattle.flat_memory.specs.Flat.{zeros}
use Rattle.flat_memory.proofs.Zeros.{length-zeros}
use Rattle.page_frames.specs.declared.page.TheConstants.{PAGE_SIZE}
use Rattle.page_frames.specs.Tables.{entry_bytes}
use Rattle.page_frames.proofs.entry.Entry.bytes.Goals as goal

pub returns-in-Blank-clause-value : goal.returns-in-Blank-clause-value
unfolding zeros
returns-in-Blank-clause-value c = ap entry_bytes (sym c.in-Blank.is)

pub returns-in-Blank-clause-whole : goal.returns-in-Blank-clause-whole
returns-in-Blank-clause-whole c = rw c.in-Blank.is (length-zeros PAGE_SIZE)
