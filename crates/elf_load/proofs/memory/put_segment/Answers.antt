use Rattle.std.proofs.Common.{◌≡◌, ◌+◌, ◌-◌, ◌/◌, [], length, take, drop, subst, ap, ◌∙◌, arith}
use Rattle.std.proofs.lemmas.List.{length-map}
use Rattle.flat_memory.specs.Flat.{put_bytes}
use Rattle.page_frames.specs.Tables.{laid_over}
use Rattle.elf_load.specs.Elf.{end_of}
use Rattle.elf_load.specs.Image.{held_pages, is_held}
use Rattle.elf_load.specs.declared.image.TheConstants.{RAM_BASE}
use Rattle.page_frames.specs.declared.page.TheConstants.{PAGE_SIZE}
use Rattle.elf_load.proofs.PutSoFar.{so_far_first, so_far_last, so_far_next}
use Rattle.elf_load.proofs.RamPages.{AreSet, flag_more}
use Rattle.elf_load.proofs.memory.put_segment.Goals as goal

pub loop-page-init : goal.loop-page-init
loop-page-init c = record {
  order = omega arith;
  inside = omega (arith, c.end.ensures, c.requires.in_ram.not_empty, c.requires.in_ram.from_base);
  put = so_far_first _ _ c.args.table.now c.requires.whole;
}

pub put_part-requires-clause-there : goal.put_part-requires-clause-there
put_part-requires-clause-there c =
    omega (arith, c.loop-page-test.true, c.end.ensures, c.requires.in_ram.not_empty, c.requires.in_ram.from_base, c.requires.in_ram.within, c.loop-page.invariant.put.size)

pub put_part-requires-clause-whole : goal.put_part-requires-clause-whole
put_part-requires-clause-whole c = c.loop-page.invariant.put.whole

pub put_part-requires-clause-most : goal.put_part-requires-clause-most
put_part-requires-clause-most c = omega (arith, c.requires.most, c.loop-page.invariant.put.size)

pub put_part-requires-clause-begun : goal.put_part-requires-clause-begun
put_part-requires-clause-begun c = omega (arith, c.loop-page.invariant.order)

pub loop-page-preserved : goal.loop-page-preserved
loop-page-preserved c =
    let so_far = c.loop-page.invariant in
    record {
      order = omega (arith, so_far.order);
      inside = omega (arith, c.loop-page-test.true);
      put =
          so_far_next _ c.loop-page.page _ _ c.args.table.now c.loop-page.table c.put_part.new.table so_far.order
          (omega (arith, c.loop-page-test.true, c.end.ensures, c.requires.in_ram.not_empty, c.requires.in_ram.from_base, c.requires.in_ram.within, so_far.put.size))
          (omega (arith, so_far.order))
          (omega (arith, c.file_end.ensures, c.requires.in_file.within, c.requires.in_file.fits, c.requires.in_ram.from_base, c.requires.in_ram.within))
          c.in_ok-put_part.ensures.whole c.in_ok-put_part.ensures.ok so_far.put;
    }

pub returns-clause-ram : goal.returns-clause-ram
returns-clause-ram c =
    let segment = c.args.segment.now in
    let size : c.file_end.result - segment.offset ≡ segment.file_size = omega (arith, c.file_end.ensures) in
    so_far_last _ c.loop-page.page _ _ c.args.table.now c.loop-page.table
    (omega (arith, c.loop-page-test.false, c.end.ensures, c.file_end.ensures, c.requires.in_file.fits, c.requires.in_file.within, c.requires.in_ram.from_base, c.requires.in_ram.not_empty))
    c.loop-page.invariant.put
    ∙ ap (λ n. put_bytes (laid_over c.args.table.now []) (segment.address - RAM_BASE) (take n (drop segment.offset c.args.bytes.now))) size

pub returns-clause-flags : goal.returns-clause-flags
returns-clause-flags c page there =
    let segment = c.args.segment.now in
    let so_far = c.loop-page.invariant in
    let last : c.loop-page.page ≡ (end_of segment - 1 - RAM_BASE) / PAGE_SIZE + 1 = omega (arith, c.loop-page-test.false, so_far.inside, c.end.ensures) in
    flag_more (length c.args.table.now) segment (held_pages c.args.table.now) (held_pages c.loop-page.table) c.requires.in_ram
    (subst (λ end. AreSet ((segment.address - RAM_BASE) / PAGE_SIZE) end (held_pages c.args.table.now) (held_pages c.loop-page.table)) last so_far.put.held) page
    (omega (arith, there, length-map c.args.table.now is_held))
