use Rattle.std.proofs.Common.{ap}
use Rattle.rv_traps.specs.declared.registers.CsrRegisters.{CsrRegisters}
use Rattle.vm_descriptor.proofs.FieldsRead.{ranges_read}
use Rattle.vm_descriptor.proofs.refusal.are_fields_in_range.Goals as goal

pub returns : goal.returns
returns c =
    cc (ranges_read c.args.bytes.now c.words_at.result c.doubles_at.result c.words_at-2.result c.csrs_at.result c.words_at.ensures c.doubles_at.ensures c.words_at-2.ensures
    c.csrs_at.ensures)

pub are_csrs-is_csrs-requires : goal.are_csrs-is_csrs-requires
are_csrs-is_csrs-requires c = ap (λ (csrs : CsrRegisters). csrs.pmp) c.csrs_at.ensures
