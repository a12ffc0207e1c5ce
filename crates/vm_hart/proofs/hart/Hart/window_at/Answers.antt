use Rattle.std.proofs.Common.{subst}
use Rattle.vm_hart.specs.Keyed.{KeyedState}
use Rattle.vm_hart.specs.Windows.{IsOpen}
use Rattle.vm_hart.proofs.hart.Hart.window_at.Goals as goal

pub returns-in-Some : goal.returns-in-Some
returns-in-Some c = subst (λ (h : KeyedState). IsOpen h.state.csrs c.args.right c.in-Some.span) c.self.view_is c.in-Some.ensures.allowed

pub returns-in-None : goal.returns-in-None
returns-in-None c = λ address has. absurd (c.none.ensures address has)
