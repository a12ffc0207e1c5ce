use Rattle.elf_load.specs.OneSegment.{headers, elf_of}
use Rattle.elf_load.proofs.Words.{length-bytes_of_words}
use Rattle.rv_asm.proofs.image.elf_of.Goals as goal

pub returns : goal.returns
unfolding elf_of headers
returns c =
    rw (length-bytes_of_words c.args.words.now, c.in_ok-push_words.ensures, c.in_ok-push_program_header.ensures, c.in_ok-push_elf_header.ensures, c.in_ok-file.ensures.items)
