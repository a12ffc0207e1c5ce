use Rattle.std.proofs.Common.{sym}
use Rattle.page_frames.specs.declared.page.TheConstants.{PAGE_SIZE}
use Rattle.page_frames.proofs.Memory.{little_from-zeros}
use Rattle.page_frames.proofs.entry.Entry.word.Goals as goal

pub returns-in-Blank : goal.returns-in-Blank
returns-in-Blank c = rw c.in-Blank.is (sym (little_from-zeros c.args.at 4 PAGE_SIZE))
