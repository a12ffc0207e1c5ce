use Rattle.std.proofs.Common.{sym, ap, ◌∙◌}
use Rattle.forest_model.specs.Access.{faulted}
use Rattle.forest_model.proofs.Accesses.{reached-denied, reached-outside}
use Rattle.vm_hart.proofs.Reaching.{reaches-refused}
use Rattle.vm_hart.proofs.hart.Hart.outside.Goals as goal

pub returns-then-is_allowed : goal.returns-then-is_allowed
returns-then-is_allowed c =
    reached-outside c.args.access c.args.self.now.state c.requires.aligned (sym c.is_allowed.ensures ∙ c.if-is_allowed.true) c.requires.outside ∙ c.in-Port.ensures

pub returns-else-is_allowed : goal.returns-else-is_allowed
returns-else-is_allowed c =
    reached-denied c.args.access c.args.self.now.state c.requires.aligned (sym c.is_allowed.ensures ∙ c.if-is_allowed.false)
    ∙ ap (λ cause. faulted cause) (sym c.fault_cause.ensures)

pub returns-in_default : goal.returns-in_default
returns-in_default c =
    reaches-refused c.args.self.now c.args.access c.requires.aligned c.requires.outside c.outside_ram.result c.outside_ram.ensures c.in_default.not-Port
