use Rattle.std.proofs.Common.{sym}
use Rattle.vm_hart.proofs.hart.fast.not_a_store.Goals as goal

pub returns : goal.returns
returns c = λ old new i acts stored next. record { acts = acts; stored = sym stored; next = next }
