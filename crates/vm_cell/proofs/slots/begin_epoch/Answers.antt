use Rattle.vm_cell.proofs.Lent.{keeps-next}
use Rattle.vm_cell.proofs.slots.begin_epoch.Goals as goal

pub returns-then-epoch-lt4294967295-clause-keeps : goal.returns-then-epoch-lt4294967295-clause-keeps
returns-then-epoch-lt4294967295-clause-keeps c = λ h. keeps-next h c.args.epoch.now c.args.slots.now c.requires
