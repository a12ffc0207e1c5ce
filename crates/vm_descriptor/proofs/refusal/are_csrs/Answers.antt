use Rattle.std.proofs.Common.{ap}
use Rattle.guest_pmp.specs.declared.registers.PmpRegisters.{PmpRegisters}
use Rattle.vm_descriptor.specs.Described.{are_csrs, are_entries}
use Rattle.vm_descriptor.proofs.DecodedInRange.{csrs_in_range}
use Rattle.vm_descriptor.proofs.NotRefused.{csrs_in}
use Rattle.vm_descriptor.proofs.RunLengths.{test_by}
use Rattle.vm_descriptor.proofs.refusal.are_csrs.Goals as goal

pub returns : goal.returns
returns c =
    let csrs = c.args.csrs.now in
    test_by c.is_in_range.result (are_csrs csrs)
    (λ is. csrs_in csrs (c.is_in_range.ensures.0 is))
    (λ is. c.is_in_range.ensures.1 (csrs_in_range csrs is (ap (λ (p : PmpRegisters). are_entries p) c.requires)))
