use Rattle.std.proofs.Common.{◌≡◌, true}
use Rattle.std.proofs.lemmas.List.Elements.{All-get_or}
use Rattle.page_frames.specs.declared.entry.Entry.{Entry}
use Rattle.page_frames.specs.declared.entry.Entry.TheVariants.{Absent}
use Rattle.page_frames.specs.Tables.{is_own}
use Rattle.elf_load.proofs.memory.put_part.Goals as goal

pub write_page-requires-clause-own : goal.write_page-requires-clause-own
write_page-requires-clause-own c = All-get_or (λ (e : Entry). is_own e ≡ true) c.args.table.now c.args.page Absent c.requires.there c.requires.whole
