use Rattle.std.proofs.Common.{◌≡◌, ◌+◌, ◌/◌, length, Some, ap, ◌∙◌, arith}
use Rattle.std.proofs.lemmas.List.{length-map}
use Rattle.guest_mem.specs.Ram.{ram_of}
use Rattle.page_frames.specs.declared.entry.Entry.TheVariants.{Blank, Absent}
use Rattle.shared_leaves.specs.Choices.{choice}
use Rattle.guest_mem.proofs.Making.{ram_of_clone}
use Rattle.guest_mem.proofs.memory.GuestMem.sharing_counted.Goals as goal

pub invariant_of-result : goal.invariant_of-result
invariant_of-result g c =
    let blank = c.args.table.now in
    let made : length c.in_ok-share_counted.field-0 ≡ length blank =
    ap length (c.in_ok-share_counted.ensures.value ∙ c.entries.ensures) ∙ length-map blank (choice Blank Absent) in
    record { least = omega (arith, made, c.requires.least); most = omega (arith, made, c.requires.most); based = omega (arith, made, c.requires.pages_of_image) }

pub returns-clause-value : goal.returns-clause-value
returns-clause-value g c =
    ap (λ table. ram_of table (Some c.args.key)) (c.in_ok-share_counted.ensures.value ∙ c.entries.ensures) ∙ ram_of_clone c.args.table.now c.args.key

pub returns-clause-cost : goal.returns-clause-cost
returns-clause-cost g c =
    let size : length c.entries.result.now ≡ length c.args.table.now = ap length c.entries.ensures ∙ length-map c.args.table.now (choice Blank Absent) in
    c.in_ok-share_counted.ensures.cost ∙ ap (λ n. c.args.steps.now + (n + 63) / 64) size
