use Rattle.page_frames.proofs.page.Page.zeroed.Goals as goal
use Rattle.flat_memory.specs.Flat.{zeros}

pub returns : goal.returns
unfolding zeros
returns c = c.from_slice.ensures
