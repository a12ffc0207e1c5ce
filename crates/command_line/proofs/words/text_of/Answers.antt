use Rattle.command_line.proofs.Meanings.{text-found}
use Rattle.command_line.proofs.words.text_of.Goals as goal

pub returns : goal.returns
returns c = text-found c.args.found.now c.args.id.now c.get_str.result c.get_str.ensures
