use Rattle.std.proofs.Common.{length, ap, arith}
use Rattle.vm_hart.proofs.hart.Hart.has_page.Goals as goal

pub is_here-requires : goal.is_here-requires
is_here-requires c = omega (arith, c.requires, ap (λ k. length k.pages.blank) c.self.view_is, c.pages.ensures.is_ram.flagged)
