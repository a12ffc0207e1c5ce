use Rattle.std.proofs.Common.{refl}
use Rattle.vm_descriptor.specs.Versions.{version_of}
use Rattle.vm_descriptor.proofs.version.version_of.Goals as goal

pub loop-version-init : goal.loop-version-init
unfolding version_of
loop-version-init c = record { rows = refl; left = refl }
