use Rattle.fork_port.proofs.HandedLemmas.{length-loaded, word-loaded}
use Rattle.fork_port.proofs.laws.joins_tell_bytes.Goals as goal

pub returns-clause-count : goal.returns-clause-count
returns-clause-count c = length-loaded

pub returns-clause-words : goal.returns-clause-words
returns-clause-words c f value bytes at ended = word-loaded f value bytes ended at
