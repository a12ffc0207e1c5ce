use Rattle.std.proofs.Common.{arith, refl}
use Rattle.rv_traps.specs.Trap.{mret}
use Rattle.rv_traps.proofs.Mstatus.{mie-mstatus_of, mpie-mstatus_of, mpp-mstatus_of}
use Rattle.rv_traps.proofs.laws.mret_undoes_trap.Goals as goal

pub returns-clause-masked : goal.returns-clause-masked
returns-clause-masked c = λ s cause value pc timer. rw mie-mstatus_of (grind arith)

pub returns-clause-lawful : goal.returns-clause-lawful
unfolding mret
returns-clause-lawful c = λ s cause value pc. refl

pub returns-clause-mode : goal.returns-clause-mode
returns-clause-mode c = λ s cause value pc. rw mpp-mstatus_of

pub returns-clause-enable : goal.returns-clause-enable
returns-clause-enable c = λ s cause value pc. rw (mie-mstatus_of, mpie-mstatus_of)
