use Rattle.rv_asm.proofs.Encoding.{decoded-encoded}
use Rattle.rv_asm.proofs.laws.words_decode.Goals as goal

pub returns : goal.returns
returns c = decoded-encoded
