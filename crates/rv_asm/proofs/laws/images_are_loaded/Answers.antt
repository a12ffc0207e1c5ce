use Rattle.rv_asm.proofs.Loading.{loads, refuses, words_loaded, nothing_else, entered}
use Rattle.rv_asm.proofs.laws.images_are_loaded.Goals as goal

pub returns : goal.returns
returns c = record { loads = loads; refuses = refuses; words = words_loaded; nothing_else = nothing_else; entered = entered }
