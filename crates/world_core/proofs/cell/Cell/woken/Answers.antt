use Rattle.world_core.proofs.Images.{woken-at}
use Rattle.std.proofs.Common.{◌≡◌, Some, sym, ap, ◌∙◌, subst, arith}
use Rattle.vm_descriptor.specs.declared.descriptor.Descriptor.{Descriptor}
use Rattle.vm_cell.specs.Woken.{IsOfImage}
use Rattle.world_core.proofs.SlotChanges.{brood-size, child-place, few-slots, no-brood-no-child, none-left, sleepers-seed, wakes-to}
use Rattle.world_core.proofs.cell.Cell.woken.Goals as goal

pub unreachable-requires : goal.unreachable-requires
unreachable-requires c =
    let r = c.requires in
    no-brood-no-child c.args.depot.now r.0 c.args.self.now r.1 r.2 c.args.ticket c.args.index r.3 r.4 (sym c.in_default.ensures.value)

pub unreachable-requires-in_default-image : goal.unreachable-requires-in_default-image
unreachable-requires-in_default-image c =
    let r = c.requires in
    none-left c.args.depot.now r.0 c.args.self.now r.1 r.2 c.args.ticket c.args.index c.in-Some.brood.now r.3 r.4 r.5 r.6 (sym c.in-Some.ensures.value)
    c.in_default-image.is

pub through_bytes-requires : goal.through_bytes-requires
through_bytes-requires c =
    let r = c.requires in let kept = c.in-Some-image.is ∙ ap Some (sym c.get-image.ensures) in
    (sleepers-seed c.args.depot.now r.0 c.args.self.now r.1 r.2 c.args.ticket c.args.index c.in-Some.brood.now c.get-image.result.now r.3 r.4 r.5 r.6
    (sym c.in-Some.ensures.value) kept).sleeps.of_image.in_range

pub wake-requires : goal.wake-requires
wake-requires c =
    let r = c.requires in let image = c.get-image.result.now in let kept = c.in-Some-image.is ∙ ap Some (sym c.get-image.ensures) in
    let at = sleepers-seed c.args.depot.now r.0 c.args.self.now r.1 r.2 c.args.ticket c.args.index c.in-Some.brood.now image r.3 r.4 r.5 r.6
    (sym c.in-Some.ensures.value) kept in
    let place = child-place c.args.depot.now r.0 c.args.self.now r.1 r.2 c.args.ticket c.args.index c.in-Some.brood.now r.3 r.4 (sym c.in-Some.ensures.value) in
    let number : c.in_ok-seed.seed.clone_id ≡ c.args.index = ap (λ (d : Descriptor). d.clone_id) c.in_ok-seed.ensures in
    record {
      of_depot = at.key;
      of_image = subst (IsOfImage image.key) (sym c.in_ok-seed.ensures) at.sleeps.of_image;
      least = omega (arith, number, place, c.len.ensures);
      most = omega (arith, few-slots c.args.depot.now r.0 c.args.self.now r.1 c.args.ticket c.in-Some.brood.now r.3 (sym c.in-Some.ensures.value), c.len.ensures);
    }

pub returns-clause-shows : goal.returns-clause-shows
returns-clause-shows c path t a h found asleep lives as_many =
    let image = c.get-image.result.now in let kept = c.in-Some-image.is ∙ ap Some (sym c.get-image.ensures) in
    wakes-to c.args.depot.now c.args.index _ image a c.in_ok-seed.seed c.wake.result
    (sleepers-seed c.args.depot.now path c.args.self.now t a c.args.ticket c.args.index c.in-Some.brood.now image h found asleep lives
    (sym c.in-Some.ensures.value) kept)
    (as_many ∙ sym (brood-size c.args.depot.now path c.args.self.now t c.args.ticket c.in-Some.brood.now h (sym c.in-Some.ensures.value)) ∙ sym c.len.ensures)
    c.in_ok-seed.ensures c.wake.ensures

pub returns-clause-images : goal.returns-clause-images
returns-clause-images c images path h =
    let kept = c.in-Some-image.is ∙ ap Some (sym c.get-image.ensures) in
    woken-at images path c.args.ticket c.args.index _ c.in-Some.brood.now c.get-image.result.now c.in_ok-seed.seed c.wake.result c.args.self.now h
    (sym c.in-Some.ensures.value) kept c.wake.ensures
