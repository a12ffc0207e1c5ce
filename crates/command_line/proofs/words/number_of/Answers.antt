use Rattle.std.proofs.Common.{◌∙◌}
use Rattle.command_line.proofs.Meanings.{number_of-parse}
use Rattle.command_line.proofs.words.number_of.Goals as goal

pub returns : goal.returns
returns c = c.ok.ensures.value ∙ number_of-parse c.args.text.now c.parse.result c.parse.ensures.value.0
