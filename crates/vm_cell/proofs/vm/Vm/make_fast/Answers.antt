use Rattle.std.proofs.Common.{◌≡◌, ◌+◌, ◌<◌, None, ap, sym, ◌∙◌, subst, arith}
use Rattle.vm_hart.specs.Kept.{Keeps}
use Rattle.vm_hart.specs.Keyed.{KeyedMachine, hart_in, machine_of}
use Rattle.vm_hart.specs.Runs.{IsRun}
use Rattle.vm_cell.proofs.vm.Vm.make_fast.Goals as goal

pub make_fast-made-requires-clause-keeps : goal.make_fast-made-requires-clause-keeps
make_fast-made-requires-clause-keeps c =
    subst (λ (v : KeyedMachine). Keeps (hart_in v) c.args.epoch c.args.slots.now) (sym c.self.view_is) c.requires.keeps

pub returns-clause-run : goal.returns-clause-run
returns-clause-run c =
    let hart = c.self.inside.hart in
    let steps = c.self.inside.steps in
    let limit = c.self.inside.limit in
    let made = c.make_fast-made.result in
    let live : c.self.inside.ending ≡ None = ap (λ (v : KeyedMachine). v.machine.ending) c.self.view_is ∙ c.requires.live in
    let below : steps + made < limit = omega (arith, c.self.invariant.live live, c.make_fast-made.ensures.most) in
    subst (λ v. IsRun v (machine_of c.make_fast-made.new.self (steps + made) limit c.self.inside.ending) made) c.self.view_is
    (subst (λ e. IsRun (machine_of hart steps limit e) (machine_of c.make_fast-made.new.self (steps + made) limit e) made) (sym live)
    (c.make_fast-made.ensures.made steps limit below))
