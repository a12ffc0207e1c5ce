use Rattle.std.proofs.Common.{length, ap, ◌∙◌}
use Rattle.vm_hart.specs.Keyed.{KeyedState}
use Rattle.vm_hart.proofs.hart.Hart.ram_size.Goals as goal

pub returns : goal.returns
returns c = c.size.ensures.value ∙ ap (λ (h : KeyedState). length h.state.ram) c.self.view_is
