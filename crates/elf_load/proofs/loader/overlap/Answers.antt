use Rattle.std.proofs.Common.{◌≡◌, leb, rules}
use Rattle.std.proofs.lemmas.List.Sorted.{answers_always}
use Rattle.elf_load.specs.Elf.{end_of}
use Rattle.elf_load.specs.declared.segment.Segment.{Segment}
use Rattle.elf_load.proofs.Overlap.{overlap_from_adjacent}
use Rattle.elf_load.proofs.loader.overlap.Goals as goal

pub returns : goal.returns
returns c =
    let none : Segment = record { offset = 0; address = 0; file_size = 0; memory_size = 0 } in
    overlap_from_adjacent c.args.segments.now none c.is_sorted_by.result c.requires.sorted c.requires.not_empty
    (c.is_sorted_by.ensures.cases (λ low high. leb (end_of low) high.address) (answers_always _ (λ a r. r ≡ leb (end_of a.0.now) a.1.0.now.address) _ (λ f a r after called. search rules)))
