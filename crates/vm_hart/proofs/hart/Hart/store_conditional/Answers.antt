use Rattle.std.proofs.Common.{refl, ap}
use Rattle.forest_model.specs.declared.access.Access.{Access}
use Rattle.forest_model.specs.declared.access.Direction.TheVariants as access
use Rattle.vm_hart.proofs.Answering.{no-port-reached}
use Rattle.vm_hart.proofs.hart.Hart.store_conditional.Goals as goal

-- no port has it
pub returns-in-Port-clause-acts : goal.returns-in-Port-clause-acts
returns-in-Port-clause-acts c =
    no-port-reached c.word_access.result c.args.self.now.state (access.Conditional c.is_reserved-is_reserved.result) (ap (λ (a : Access). a.direction) c.word_access.ensures) refl c.in-Port.ensures
