use Rattle.command_line.proofs.words.workers_of.Goals as goal

pub returns-clause-value : goal.returns-clause-value
returns-clause-value c = c.value_of.ensures.value
