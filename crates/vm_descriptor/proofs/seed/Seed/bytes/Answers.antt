use Rattle.std.proofs.Common.{sym, ap, ◌∙◌}
use Rattle.vm_descriptor.specs.Described.{described}
use Rattle.vm_descriptor.proofs.seed.Seed.bytes.Goals as goal

pub returns : goal.returns
returns c = c.deref.ensures.value ∙ sym c.self.invariant.kept.spelled ∙ ap described c.self.view_is
