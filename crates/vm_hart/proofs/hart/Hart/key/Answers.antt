use Rattle.std.proofs.Common.{subst}
use Rattle.vm_hart.specs.Keyed.{HasImage, KeyedState}
use Rattle.vm_hart.proofs.Disks.{has_absent}
use Rattle.vm_hart.proofs.hart.Hart.key.Goals as goal

pub returns-clause-absent : goal.returns-clause-absent
returns-clause-absent c =
    let h = c.self.inside in
    subst (λ (k : KeyedState). HasImage k.key k.pages) c.self.view_is
    (has_absent h.memory.here h.ports.block.disk c.self.invariant.entries h.memory.key c.pages.ensures.is_ram.absent c.self.invariant.based)
