use Rattle.std.proofs.Common.{ap}
use Rattle.vm_hart.specs.Keyed.{KeyedState}
use Rattle.vm_cell.proofs.Seeds.{counted_woken}
use Rattle.vm_cell.proofs.vm.Vm.wake.Goals as goal

pub invariant_of-result : goal.invariant_of-result
invariant_of-result c =
    counted_woken c.args.descriptor.now _ _ c.requires.of_image.in_range c.ending_at.ensures
    (ap (λ (h : KeyedState). h.state.ports.fork) c.in_ok-woken.ensures)
