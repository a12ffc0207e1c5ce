use Rattle.std.proofs.Common.{sym, ap, ◌∙◌, subst, bit_and}
use Rattle.guest_pmp.specs.Registers.{IsInRange as ArePmpInRange}
use Rattle.rv_traps.specs.declared.registers.CsrRegisters.{CsrRegisters}
use Rattle.rv_traps.specs.Access.{put}
use Rattle.rv_traps.specs.Registers.{IsInRange}
use Rattle.rv_traps.proofs.InRange.{IsInRange-put}
use Rattle.rv_traps.proofs.csrs.Csrs.write.Goals as goal

pub invariant_of-self : goal.invariant_of-self
invariant_of-self c =
    let csr = c.in_ok-csr.csr in
    let before : CsrRegisters = c.self.inside.registers in
    let same = c.put.ensures.registers ∙ ap (λ kept. put csr c.args.number (bit_and c.args.value kept) before) c.keeps.ensures in
    subst IsInRange (sym same)
    (IsInRange-put csr c.args.number c.args.value before (subst (λ (r : CsrRegisters). ArePmpInRange r.pmp) same c.put.ensures.in_range) c.self.invariant)
