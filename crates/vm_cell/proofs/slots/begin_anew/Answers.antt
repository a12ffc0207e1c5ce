use Rattle.vm_cell.proofs.Lent.{keeps-nowhere}
use Rattle.vm_cell.proofs.slots.begin_anew.Goals as goal

pub returns-clause-keeps : goal.returns-clause-keeps
returns-clause-keeps c = λ h. keeps-nowhere h 0 c.forget_all.new.slots c.forget_all.ensures.nowhere
