use Rattle.std.proofs.Common.{◌≡◌, sym, subst, ap, ◌∙◌}
use Rattle.elf_load.specs.Image.{IsImage}
use Rattle.elf_load.proofs.Kept.{IsImage-ram_of}
use Rattle.elf_load.proofs.loader.place.Goals as goal

pub invariant_of-result : goal.invariant_of-result
invariant_of-result c = (
  c.in_ok-table_of.ensures.whole,
  rw (c.in_ok-table_of.ensures.ram, c.in_ok-table_of.ensures.flags)
      (IsImage-ram_of c.args.bytes.now c.args.segments.now c.args.pages c.args.entry c.requires.least c.requires.most c.requires.entered),
)
