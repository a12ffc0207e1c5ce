use Rattle.std.proofs.Common.{false, arith}
use Rattle.rv_traps.proofs.Mstatus.{mstatus-made}
use Rattle.rv_traps.proofs.csrs.Csrs.enter.Goals as goal

pub invariant_of-self : goal.invariant_of-self
invariant_of-self c = record {
  mstatus = mstatus-made c.mstatus-self-inside.result false c.interrupt_enable-mie.result c.to_machine_mode-before.result c.modifies_privilege-mprv.result c.mstatus-self-inside.ensures;
  mie = c.self.invariant.mie;
  mtvec = c.self.invariant.mtvec;
  mepc = omega arith;
  pmp = c.self.invariant.pmp;
}
