use Rattle.vm_descriptor.proofs.Marks.{accepted_spelled}
use Rattle.vm_descriptor.proofs.laws.accepted_bytes_are_spelled.Goals as goal

pub returns : goal.returns
returns c bytes are none = accepted_spelled bytes are none
