use Rattle.std.proofs.Common.{◌∙◌}
use Rattle.command_line.specs.Words.{texts}
use Rattle.command_line.proofs.Meanings.{meant-taken, meant-refused}
use Rattle.command_line.proofs.words.command_asked.Goals as goal

pub returns-in-Ok : goal.returns-in-Ok
returns-in-Ok c =
    c.command_found.ensures
    ∙ meant-taken _ (texts c.args.words.now) c.in-Ok.matches c.in_ok-snow_command.ensures c.in-Ok.ensures.kinds c.in-Ok.ensures.matches

pub returns : goal.returns
returns c =
    meant-refused _ (texts c.args.words.now) _ c.in_ok-snow_command.ensures c.in-Err.ensures.kinds
    (λ memory. c.in_default.not-OutOfMemory (c.kind.ensures ∙ memory))
