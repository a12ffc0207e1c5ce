use Rattle.std.proofs.Common.{◌<◌, length, subst, sym}
use Rattle.vm_cell.proofs.Lent.{nowhere-set}
use Rattle.vm_cell.proofs.slots.forget_all.Goals as goal

pub loop-number-preserved : goal.loop-number-preserved
loop-number-preserved c =
    let inside : c.loop-number.number < length c.loop-number.slots = subst (λ n. c.loop-number.number < n) (sym c.loop-number.auto.slots) c.loop-number-test.true in
    nowhere-set c.loop-number.number c.loop-number.slots c.empty.result c.empty.ensures inside c.loop-number.invariant
