use Rattle.elf_load.proofs.OneSegment.{loaded-elf_of}
use Rattle.elf_load.proofs.Words.{bytes_of_words-words_of, length-bytes_of_words}
use Rattle.elf_load.proofs.loader.one_segment.Goals as goal

pub returns-clause-loads : goal.returns-clause-loads
returns-clause-loads c = loaded-elf_of

pub returns-clause-words : goal.returns-clause-words
returns-clause-words c = bytes_of_words-words_of

pub returns-clause-whole_words : goal.returns-clause-whole_words
returns-clause-whole_words c = length-bytes_of_words
