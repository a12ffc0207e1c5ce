use Rattle.std.proofs.Common.{ap, ◌∙◌}
use Rattle.vm_cell.specs.Keyed.{paged}
use Rattle.vm_cell.proofs.Receiving.{wanted-absent}
use Rattle.world_core.specs.Lent.{vm_of}
use Rattle.world_core.proofs.Receiving.{flagged-of}
use Rattle.world_core.proofs.receiver.LeaseReceiver.wanted.Goals as goal

pub returns-clause-absent : goal.returns-clause-absent
returns-clause-absent c =
    let lease = c.args.self.now in
    wanted-absent (paged (vm_of lease)) c.wanted.result c.wanted.ensures (flagged-of c.deref.result.now lease (c.deref.ensures ∙ ap vm_of c.self.view_is) c.pages.ensures.flagged)
