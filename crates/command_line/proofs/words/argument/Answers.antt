use Rattle.command_line.proofs.Meanings.{made-required}
use Rattle.command_line.proofs.words.argument.Goals as goal

pub returns-in-Word : goal.returns-in-Word
returns-in-Word c =
    rw c.in-Word.is (made-required c.new.result c.required.result c.in-Word.name.now c.required.ensures c.new.ensures.optional.1 c.new.ensures.rule)
