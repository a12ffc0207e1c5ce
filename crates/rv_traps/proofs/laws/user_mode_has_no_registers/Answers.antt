use Rattle.rv_traps.proofs.Modes.{csr_read-user, csr_write-user, mret-user}
use Rattle.rv_traps.proofs.laws.user_mode_has_no_registers.Goals as goal

pub returns : goal.returns
returns c = record { read = csr_read-user; write = csr_write-user; mret = mret-user }
