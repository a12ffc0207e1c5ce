use Rattle.std.proofs.Common.{sym, subst}
use Rattle.vm_hart.specs.Kept.{ComesAside, Keeps}
use Rattle.vm_hart.specs.Keyed.{KeyedMachine, hart_in}
use Rattle.vm_cell.proofs.vm.Vm.leaves_ram.Goals as goal

pub leaves_ram-requires-clause-keeps : goal.leaves_ram-requires-clause-keeps
leaves_ram-requires-clause-keeps c = subst (λ (v : KeyedMachine). Keeps (hart_in v) c.args.epoch c.args.slots.now) (sym c.self.view_is) c.requires.keeps

pub returns : goal.returns
returns c = λ told. subst (λ (v : KeyedMachine). ComesAside (hart_in v)) c.self.view_is (c.leaves_ram.ensures told)
