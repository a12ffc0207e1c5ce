use Rattle.std.proofs.Common.{refl, sym, ap, ◌∙◌}
use Rattle.forest_model.specs.Access.{faulted}
use Rattle.forest_model.proofs.Accesses.{reached-denied, reached-misaligned}
use Rattle.vm_hart.proofs.Reaching.{is-placed}
use Rattle.vm_hart.proofs.hart.Hart.offset_of.Goals as goal

pub returns-then-not-is_aligned : goal.returns-then-not-is_aligned
returns-then-not-is_aligned c =
    reached-misaligned c.args.access c.args.self.now.state (sym c.is_aligned.ensures ∙ c.if-not-is_aligned.true)
    ∙ ap (λ cause. faulted cause) (sym c.misaligned_cause.ensures)

pub returns-then-not-is_allowed : goal.returns-then-not-is_allowed
returns-then-not-is_allowed c =
    reached-denied c.args.access c.args.self.now.state (sym c.is_aligned.ensures ∙ c.if-not-is_aligned.false)
    (sym c.is_allowed.ensures ∙ c.if-not-is_allowed.true)
    ∙ ap (λ cause. faulted cause) (sym c.fault_cause.ensures)

pub returns-else-not-is_allowed : goal.returns-else-not-is_allowed
returns-else-not-is_allowed c =
    is-placed c.args.self.now c.args.access c.in-Some.offset c.requires (sym c.is_aligned.ensures ∙ c.if-not-is_aligned.false)
    (sym c.is_allowed.ensures ∙ c.if-not-is_allowed.false) c.in-Some.ensures.inside

pub outside-requires-clause-outside : goal.outside-requires-clause-outside
outside-requires-clause-outside c = c.ram_offset.ensures.outside.0 (rw c.in-None.is refl)
