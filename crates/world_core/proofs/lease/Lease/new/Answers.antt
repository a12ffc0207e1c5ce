use Rattle.std.proofs.Common.{◌≡◌, refl, sym, ◌∙◌, subst, arith}
use Rattle.forest_model.specs.Machine.{Machine, after_steps}
use Rattle.vm_cell.specs.Keyed.{KeyedMachine}
use Rattle.world_core.specs.Lent.{HasLed, IsLent, lent_as}
use Rattle.world_core.proofs.Arriving.{led-none}
use Rattle.world_core.proofs.lease.Lease.new.Goals as goal

lent-none : (m : Machine) → IsLent m 0 m
unfolding after_steps
lent-none m = record { after = refl; each_made = omega arith }

pub invariant_of-result : goal.invariant_of-result
invariant_of-result c =
    let vm = c.args.vm.value in
    let name = c.args.turn.name in
    let same : vm ≡ c.of-start.result.value = sym (c.of-start.ensures ∙ c.deref.ensures) in
    record {
      own = c.requires.own;
      kin = c.requires.kin;
      made = subst (λ (v : KeyedMachine). IsLent v.machine 0 vm.machine) same (lent-none vm.machine);
      led = subst (λ (v : KeyedMachine). HasLed (lent_as name v.machine 0 vm)) same (led-none name vm);
    }
