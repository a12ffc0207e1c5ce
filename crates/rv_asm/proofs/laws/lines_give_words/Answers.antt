use Rattle.rv_asm.proofs.Assembled.{count, each, first_error}
use Rattle.rv_asm.proofs.laws.lines_give_words.Goals as goal

pub returns : goal.returns
returns c = record { count = count; each = each; first_error = first_error }
