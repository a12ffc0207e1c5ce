use Rattle.rv_traps.proofs.Modes.{csr_write-entries, csr_write-mode}
use Rattle.rv_traps.proofs.laws.writes_leave_the_mode.Goals as goal

pub returns : goal.returns
returns c = record { mode = csr_write-mode; entries = csr_write-entries }
