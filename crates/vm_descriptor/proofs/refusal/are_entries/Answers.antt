use Rattle.std.proofs.Common.{ap, ◌∙◌}
use Rattle.std.specs.List.{list_all}
use Rattle.std.proofs.lemmas.List.Sums.{AllPass-from_list_all, list_all-from_AllPass}
use Rattle.guest_pmp.specs.declared.registers.PmpRegisters.{PmpRegisters}
use Rattle.guest_pmp.specs.Registers.{is_configuration}
use Rattle.vm_descriptor.specs.Described.{are_entries}
use Rattle.vm_descriptor.proofs.RunLengths.{test_by}
use Rattle.vm_descriptor.proofs.refusal.are_entries.Goals as goal

pub returns : goal.returns
returns c =
    let bytes = c.entries_in.result.configurations in
    test_by c.is_in_range.result (list_all is_configuration bytes)
    (λ is. list_all-from_AllPass is_configuration bytes (c.is_in_range.ensures.0 is))
    (λ is. c.is_in_range.ensures.1 (AllPass-from_list_all is_configuration bytes is))
    ∙ ap (λ (p : PmpRegisters). are_entries p) c.entries_in.ensures
