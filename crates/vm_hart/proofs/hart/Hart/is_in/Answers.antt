use Rattle.vm_hart.proofs.hart.Hart.is_in.Goals as goal

pub returns-then-has_address-clause-allowed : goal.returns-then-has_address-clause-allowed
returns-then-has_address-clause-allowed c = λ yes. c.requires c.args.address (c.has_address.ensures.0 c.if-has_address.true)
