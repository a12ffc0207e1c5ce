use Rattle.vm_descriptor.proofs.FlagsRead.{flags_read}
use Rattle.vm_descriptor.proofs.RunLengths.{flags_back}
use Rattle.vm_descriptor.proofs.laws.maps_are_read_back.Goals as goal

pub returns-clause-bits : goal.returns-clause-bits
returns-clause-bits c flags = flags_read flags

pub returns-clause-runs : goal.returns-clause-runs
returns-clause-runs c flags = flags_back _ 0 flags
