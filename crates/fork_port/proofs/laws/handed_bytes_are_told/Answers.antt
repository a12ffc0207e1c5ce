use Rattle.std.proofs.Common.{refl}
use Rattle.fork_port.specs.Handed.{handed_of}
use Rattle.fork_port.proofs.HandedLemmas.{bytes_told, word_told, zero_told}
use Rattle.fork_port.proofs.laws.handed_bytes_are_told.Goals as goal

pub returns-clause-count : goal.returns-clause-count
unfolding handed_of
returns-clause-count c bytes = refl

pub returns-clause-bytes : goal.returns-clause-bytes
returns-clause-bytes c = bytes_told

pub returns-clause-words : goal.returns-clause-words
returns-clause-words c = word_told

pub returns-clause-zeros_behind : goal.returns-clause-zeros_behind
returns-clause-zeros_behind c = zero_told
