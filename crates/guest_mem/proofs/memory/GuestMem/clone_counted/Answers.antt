use Rattle.std.proofs.Common.{◌≡◌, length, Some, ap, ◌∙◌, arith}
use Rattle.std.proofs.lemmas.List.{length-map}
use Rattle.guest_mem.specs.Ram.{ram_of}
use Rattle.page_frames.specs.declared.entry.Entry.TheVariants.{Blank, Absent}
use Rattle.shared_leaves.specs.Choices.{choice}
use Rattle.guest_mem.proofs.Making.{ram_of_clone}
use Rattle.guest_mem.proofs.memory.GuestMem.clone_counted.Goals as goal

pub invariant_of-result : goal.invariant_of-result
invariant_of-result g c =
    let blank = c.args.descriptor.now.blank in
    let made : length c.in_ok-table_of.field-0 ≡ length blank = ap length c.in_ok-table_of.ensures.value ∙ length-map blank (choice Blank Absent) in
    record { least = omega arith; most = omega arith; based = omega arith }

pub returns-clause-value : goal.returns-clause-value
returns-clause-value g c =
    ap (λ table. ram_of table (Some c.args.key)) c.in_ok-table_of.ensures.value ∙ ram_of_clone c.args.descriptor.now.blank c.args.key
