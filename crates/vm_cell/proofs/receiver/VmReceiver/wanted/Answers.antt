use Rattle.vm_hart.specs.Keyed.{paged}
use Rattle.vm_cell.proofs.Receiving.{wanted-absent}
use Rattle.vm_cell.proofs.receiver.VmReceiver.wanted.Goals as goal

pub returns-clause-absent : goal.returns-clause-absent
returns-clause-absent c = wanted-absent (paged c.args.self.now) c.wanted.result c.wanted.ensures c.pages.ensures.flagged
