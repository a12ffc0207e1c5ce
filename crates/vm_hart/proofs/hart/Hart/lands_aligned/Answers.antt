use Rattle.std.proofs.Common.{◌≡◌, ◌%◌, eqb, ap, subst, arith}
use Rattle.std.proofs.lemmas.Int.{to_z-of_z}
use Rattle.forest_model.specs.Action.{immediate}
use Rattle.forest_model.specs.Control.{relative}
use Rattle.vm_hart.specs.Keyed.{KeyedState}
use Rattle.vm_hart.proofs.hart.Hart.lands_aligned.Goals as goal

pub returns : goal.returns
returns c =
    let aligned = subst (λ (h : KeyedState). h.state.pc % 4 ≡ 0) c.self.view_is c.self.invariant.aligned in
    let is : c.cast_unsigned.result ≡ immediate c.args.instr.now = grind (arith, to_z-of_z, c.cast_unsigned.ensures, c.imm.ensures) in
    let same : c.cast_unsigned.result % 4 ≡ relative c.args.instr.now c.args.self.now.state % 4 = omega (arith, aligned, is) in
    ap (λ n. eqb n 0) same
