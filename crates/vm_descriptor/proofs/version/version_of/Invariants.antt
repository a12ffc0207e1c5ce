use Rattle.std.proofs.Common.{◌≡◌, drop, take}
use Rattle.vm_descriptor.specs.Versions.{marked, version_of, versions}
use Rattle.vm_descriptor.proofs.version.version_of.Given as goal

abbrev pub invariant-loop-version : goal.invariant-loop-version
invariant-loop-version l = record {
  rows : l.version-items ≡ versions;
  left : marked (drop l.version-index versions) (take 4 l.bytes) ≡ version_of l.bytes;
}
