use Rattle.std.proofs.Common.{◌≡◌, ℕ, ◌≤◌, arith, List, length, replicate, Some, sym, ap, ◌∙◌, subst, vec_len}
use Rattle.std.proofs.Math.ListN.{length-replicate}
use Rattle.fork_port.specs.declared.commands.Call.TheVariants.{Clone}
use Rattle.forest_model.specs.Forest.{machines}
use Rattle.vm_cell.specs.Keyed.{KeyedMachine}
use Rattle.vm_cell.specs.Standing.{standing_call}
use Rattle.vm_cell.specs.Woken.{AreSeeds}
use Rattle.vm_cell.specs.declared.vm.fork.ForkImage.{ForkImage}
use Rattle.vm_descriptor.specs.declared.descriptor.TheConstants.{MAX_CLONES}
use Rattle.world_core.specs.declared.cell.ChildSlot.{ChildSlot}
use Rattle.world_core.specs.declared.cell.ChildSlot.TheVariants.{Asleep}
use Rattle.world_core.specs.Lent.{vm_of}
use Rattle.ready_queue.specs.Ready.{Ready}
use Rattle.world_core.proofs.lease.Lease.prepare_fork.Goals as goal

pub invariant_of-result : goal.invariant_of-result
invariant_of-result g c =
    let slots = c.in_ok-slots.slots in
    let count : vec_len slots ≡ c.granted.result =
    slots.ok.0 ∙ ap (λ (items : List ChildSlot). length items) c.in_ok-slots.ensures ∙ length-replicate c.granted.result Asleep in
    record {
      slots = c.in_ok-slots.ensures ∙ ap (λ (n : ℕ). replicate n Asleep) (sym count);
      wordless = c.new-2.ensures;
      silent = record {
        none = c.in_ok-notes.ensures.none;
        room = omega (arith, c.in_ok-notes.ensures.room, c.len.ensures, count, c.granted.ensures.most);
      };
      few = subst (λ n. n ≤ MAX_CLONES) (sym count) c.granted.ensures.most;
      queued = c.in_ok-turn.ensures
          ∙ ap (λ n. let turn : Ready = record { name = n; children = Some (c.in-Some-Clone.ticket, 1) } in turn)
          c.in_ok-copy.ensures;
    }

pub returns-clause-of_lease : goal.returns-clause-of_lease
returns-clause-of_lease g c =
    let slots = c.in_ok-slots.slots in
    let left = c.in_ok-left.left in
    let ticket : ℕ = c.in-Some-Clone.ticket in
    let count : vec_len slots ≡ c.granted.result =
    slots.ok.0 ∙ ap (λ (items : List ChildSlot). length items) c.in_ok-slots.ensures ∙ length-replicate c.granted.result Asleep in
    let at : standing_call (vm_of c.args.self.now) ≡ Some (Clone ticket) = sym (ap Some (sym c.in-Some-Clone.field-0-is) ∙ c.in-Some-Clone.ensures) in
    let same = c.deref-2.ensures ∙ ap vm_of c.self.view_is in
    let many = count ∙ c.granted.ensures.value ∙ ap (λ (v : KeyedMachine). (machines.grant v.machine ticket).children) (c.deref.ensures ∙ ap vm_of c.self.view_is) in
    record {
      name = c.in_ok-name.ensures ∙ c.name.ensures;
      clone = at;
      children = many;
      seeds = subst (λ (image : ForkImage). AreSeeds (vm_of c.args.self.now) image.key (vec_len slots) image.seed) (sym c.in_ok-image.ensures)
          (subst (λ n. AreSeeds (vm_of c.args.self.now) left.key n left.seed) (sym many)
          (subst (λ v. AreSeeds v left.key (machines.grant v.machine ticket).children left.seed) same
          (c.in_ok-left.ensures.seeds ticket (ap standing_call same ∙ at))));
    }
