use Rattle.std.proofs.Common.{◌≡◌, ◌%◌, subst, arith}
use Rattle.vm_hart.specs.Keyed.{KeyedState}
use Rattle.vm_hart.proofs.hart.Hart.fetched.Goals as goal

pub word-requires-clause-aligned : goal.word-requires-clause-aligned
word-requires-clause-aligned c =
    let aligned = subst (λ (h : KeyedState). h.state.pc % 4 ≡ 0) c.self.view_is c.self.invariant.aligned in
    let place = c.requires.place in
    let from_base = c.requires.from_base in
    omega arith
