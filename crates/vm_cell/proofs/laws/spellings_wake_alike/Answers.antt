use Rattle.std.proofs.Common.{ap}
use Rattle.vm_descriptor.specs.declared.descriptor.Descriptor.{Descriptor}
use Rattle.vm_cell.specs.Woken.{woken}
use Rattle.vm_cell.proofs.laws.spellings_wake_alike.Goals as goal

pub returns : goal.returns
returns c = λ d siblings key bytes fits is. ap (λ (e : Descriptor). woken e siblings key) (c.descriptors_are_read_back.ensures.read d bytes fits is)
