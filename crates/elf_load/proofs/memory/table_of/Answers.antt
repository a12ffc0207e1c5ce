use Rattle.std.proofs.Common.{ap, ◌∙◌}
use Rattle.elf_load.proofs.SoFar.{pages_all, ram_all, ram_more, ram_none}
use Rattle.elf_load.proofs.memory.table_of.Goals as goal

pub loop-segment-init : goal.loop-segment-init
loop-segment-init c = ram_none c.args.bytes.now c.args.segments.now c.args.pages _ c.in_ok-table.ensures

pub loop-segment-preserved : goal.loop-segment-preserved
loop-segment-preserved c =
    ram_more c.args.bytes.now c.args.segments.now c.args.pages c.loop-segment.segment-index _ c.loop-segment.table c.put_segment.new.table
    c.loop-segment-test.true c.requires.in_file c.requires.in_ram c.requires.in_order c.loop-segment.invariant
    c.in_ok-put_segment.ensures.ram c.in_ok-put_segment.ensures.flags c.in_ok-put_segment.ensures.whole c.in_ok-put_segment.ensures.size

pub returns-clause-ram : goal.returns-clause-ram
returns-clause-ram c =
    ram_all c.args.bytes.now c.args.segments.now c.args.pages c.loop-segment.segment-index c.loop-segment.table c.loop-segment-test.false c.loop-segment.invariant

pub returns-clause-flags : goal.returns-clause-flags
returns-clause-flags c =
    pages_all c.args.bytes.now c.args.segments.now c.args.pages c.loop-segment.segment-index c.loop-segment.table c.loop-segment-test.false c.loop-segment.invariant
