use Rattle.std.proofs.Common.{◌∙◌, arith}
use Rattle.page_frames.specs.Tables.{entry_bytes}
use Rattle.image_depot.proofs.Stacks.{word_of_page}
use Rattle.image_depot.proofs.frozen.Frozen.word.Goals as goal

pub returns : goal.returns
returns c = c.word.ensures ∙ word_of_page c.args.self.now.contents (entry_bytes c.entry.result.now) c.args.page c.entry.ensures.bytes c.args.at (omega (arith, c.requires.inside, c.requires.aligned))
