use Rattle.std.proofs.Common.{◌≡◌, ◌≤◌, ap, subst, sym, arith}
use Rattle.std.proofs.lemmas.Result.{IfOk-weaker}
use Rattle.fork_port.specs.declared.commands.Call.TheVariants.{Clone}
use Rattle.vm_descriptor.specs.declared.descriptor.TheConstants.{MAX_CLONES, MAX_SHARE}
use Rattle.vm_descriptor.specs.declared.descriptor.Descriptor.{Descriptor}
use Rattle.vm_descriptor.specs.Descriptor.{numbered}
use Rattle.image_depot.specs.Key.{image_of}
use Rattle.forest_model.specs.Forest.{machines}
use Rattle.vm_hart.specs.Keyed.{KeyedMachine, machine_of}
use Rattle.vm_cell.specs.Standing.{IsAsked}
use Rattle.vm_hart.specs.Seeds.{image_left}
use Rattle.vm_cell.specs.Woken.{AreSeeds}
use Rattle.vm_cell.proofs.Seeds.{in_range_numbered, is_seed}
use Rattle.vm_cell.proofs.Standing.{granted_fits, share_fits}
use Rattle.vm_cell.proofs.vm.Vm.seed.Goals as goal

pub seed-requires-clause-share : goal.seed-requires-clause-share
seed-requires-clause-share c =
    let v : KeyedMachine = machine_of c.self.inside.hart c.self.inside.steps c.self.inside.limit c.self.inside.ending in
    let t = c.args.ticket in
    let fits = subst (λ (n : KeyedMachine). (machines.grant n.machine t).share ≤ MAX_SHARE) c.self.view_is (share_fits v.machine t c.self.invariant.funded) in
    subst (λ share. share ≤ MAX_SHARE) (sym c.grant-children.ensures.share) fits

pub returns : goal.returns
returns c =
    let v : KeyedMachine = machine_of c.self.inside.hart c.self.inside.steps c.self.inside.limit c.self.inside.ending in
    let t = c.args.ticket in
    let seed = c.in_ok-seed.seed in
    let asked = subst (λ (n : KeyedMachine). IsAsked n.machine (Clone t)) (sym c.self.view_is) c.requires.asked in
    let left = subst (λ (n : KeyedMachine). image_of c.args.key.now ≡ image_left n.machine.state) (sym c.self.view_is) c.requires.image in
    let same = subst (λ (n : KeyedMachine). c.grant-children.result.1 ≡ (machines.grant n.machine t).share) (sym c.self.view_is) c.grant-children.ensures.share in
    IfOk-weaker c.new.result _ _
    (λ kept is. subst (λ (d : Descriptor). AreSeeds c.args.self.now c.args.key.now (machines.grant c.args.self.now.machine t).children d) (sym is)
    (subst (λ (n : KeyedMachine). AreSeeds n c.args.key.now (machines.grant n.machine t).children seed) c.self.view_is (λ k first last.
    let few : k ≤ MAX_CLONES = let fits = granted_fits v.machine t c.self.invariant.funded in omega (arith, last, fits) in
    is_seed v t k asked c.args.key.now c.number.result c.grant-children.result.1 (numbered k seed) left c.number.ensures same
    c.in_ok-seed.ensures.registers (ap (numbered k) c.in_ok-seed.ensures.value) c.in_ok-seed.ensures.blank
    (in_range_numbered k seed first few c.in_ok-seed.ensures.in_range))))
    c.new.ensures

pub new-requires : goal.new-requires
new-requires c = c.in_ok-seed.ensures.in_range
