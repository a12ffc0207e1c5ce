use Rattle.std.proofs.Common.{ap, sym, ◌∙◌, false}
use Rattle.shared_leaves.specs.Choices.{flags_of_runs}
use Rattle.page_frames.specs.Tables.{blank_pages}
use Rattle.vm_descriptor.specs.CloneTables.{clone_table}
use Rattle.vm_descriptor.proofs.CloneTables.{clone_blank}
use Rattle.vm_descriptor.proofs.clone_table.CloneTable.of_ledger.Goals as goal

pub invariant_of-result : goal.invariant_of-result
invariant_of-result g c =
    let is = c.in_ok-new.ensures.ok ∙ c.in_ok-entries.ensures.value in
    is ∙ ap clone_table (sym (ap blank_pages is ∙ clone_blank (flags_of_runs false c.args.lengths.now)))

pub returns : goal.returns
returns g c =
    let is = c.in_ok-new.ensures.ok ∙ c.in_ok-entries.ensures.value in
    ap blank_pages is ∙ clone_blank (flags_of_runs false c.args.lengths.now)
