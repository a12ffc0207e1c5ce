use Rattle.page_frames.proofs.Memory.{length-laid_over, byte_of_own, byte_of_other}
use Rattle.page_frames.proofs.laws.memory_is_its_pages.Goals as goal

pub returns : goal.returns
returns c = record { size = length-laid_over; own = byte_of_own; others = byte_of_other }
