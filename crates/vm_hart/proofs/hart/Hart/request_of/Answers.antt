use Rattle.std.proofs.Common.{◌∙◌}
use Rattle.vm_hart.proofs.Asks.{no-word}
use Rattle.vm_hart.proofs.hart.Hart.request_of.Goals as goal

pub returns-in_default : goal.returns-in_default
returns-in_default c = λ word. no-word c.args.instr word c.args.self.now.state (λ is. c.in_default.not-Sw (c.kind.ensures ∙ is))
