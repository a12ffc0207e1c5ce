use Rattle.std.proofs.Common.{subst}
use Rattle.image_depot.specs.Receiver.{HasAbsent}
use Rattle.memory_tests.specs.Wants.{Waiting}
use Rattle.memory_tests.proofs.NoDisk.{has_absent}
use Rattle.memory_tests.proofs.waiting.GuestReceiver.key.Goals as goal

pub returns-clause-absent : goal.returns-clause-absent
returns-clause-absent c =
    let m = c.self.inside.memory in
    subst (λ (w : Waiting). HasAbsent w.memory.key w.memory.here) c.self.view_is (has_absent m.key m.here c.self.invariant c.pages.ensures.is_ram.absent)
