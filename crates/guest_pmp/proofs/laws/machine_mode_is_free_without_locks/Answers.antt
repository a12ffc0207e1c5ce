use Rattle.guest_pmp.proofs.Deciding.{allowed-unlocked}
use Rattle.guest_pmp.proofs.laws.machine_mode_is_free_without_locks.Goals as goal

pub returns : goal.returns
returns c = allowed-unlocked
