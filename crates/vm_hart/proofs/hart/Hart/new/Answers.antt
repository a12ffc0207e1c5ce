use Rattle.std.proofs.Common.{refl, ◌∙◌}
use Rattle.forest_model.specs.Machine.{registers_at_start}
use Rattle.vm_hart.proofs.Seeds.{booted-is}
use Rattle.vm_hart.proofs.hart.Hart.new.Goals as goal

pub invariant_of-result : goal.invariant_of-result
invariant_of-result c =
    let count = c.pages.ensures.entries ∙ c.pages.ensures.value in
    rw (c.in_ok-booted.ensures, c.in_ok-new.ensures) (record { zero_register = refl; aligned = c.entry.ensures.aligned; reservation = tt; entries = count; based = c.requires.disk_whole })

pub returns : goal.returns
unfolding registers_at_start
returns c =
    let count = c.pages.ensures.entries ∙ c.pages.ensures.value in
    rw (c.in_ok-booted.ensures, c.in_ok-new.ensures, c.entry.ensures.value, c.reset.ensures)
    (booted-is registers_at_start c.args.image.now c.args.disk c.args.input.now c.args.allot count c.requires.disk_whole)
