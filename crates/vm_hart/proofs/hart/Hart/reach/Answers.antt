use Rattle.std.proofs.Common.{refl}
use Rattle.vm_hart.proofs.Reaching.{reaches-absent, reaches-ram}
use Rattle.vm_hart.proofs.hart.Hart.reach.Goals as goal

pub returns-then-not-has_page : goal.returns-then-not-has_page
returns-then-not-has_page c =
    let is = c.in-Ok.ensures in
    reaches-absent c.args.self.now c.args.access is.aligned is.allowed c.in-Ok.offset is.in_ram is.place _ refl c.if-not-has_page.ensures

pub returns-else-not-has_page : goal.returns-else-not-has_page
returns-else-not-has_page c =
    let is = c.in-Ok.ensures in
    reaches-ram c.args.self.now c.args.access is.aligned is.allowed c.in-Ok.offset is.in_ram is.place _ refl c.requires is.from_base is.inside c.if-not-has_page.ensures
