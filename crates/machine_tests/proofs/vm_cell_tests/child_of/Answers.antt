use Rattle.std.proofs.Common.{◌≡◌, Some, ap, ◌∙◌, subst, sym, arith}
use Rattle.image_depot.specs.Key.{IsKeyOf}
use Rattle.vm_descriptor.specs.declared.descriptor.Descriptor.{Descriptor}
use Rattle.vm_cell.specs.Keyed.{KeyedMachine}
use Rattle.vm_cell.specs.Woken.{IsOfImage, woken}
use Rattle.machine_tests.proofs.vm_cell_tests.child_of.Goals as goal

pub through_bytes-requires : goal.through_bytes-requires
through_bytes-requires c = (c.requires.seeds c.args.number c.requires.first c.requires.last).in_range

pub wake-requires-clause-of_image : goal.wake-requires-clause-of_image
wake-requires-clause-of_image c =
    subst (IsOfImage c.args.brood.now.key) (sym c.in_ok-seed.ensures) (c.requires.seeds c.args.number c.requires.first c.requires.last)

pub wake-requires-clause-least : goal.wake-requires-clause-least
wake-requires-clause-least c = omega (arith, ap (λ (d : Descriptor). d.clone_id) c.in_ok-seed.ensures, c.requires.last)

-- the clone's absent pages are in the image of the brood
pub returns : goal.returns
unfolding woken
returns c = λ key is.
    let both : Some c.args.brood.now.key ≡ Some key = sym (ap (λ (v : KeyedMachine). v.key) c.in_ok-wake.ensures) ∙ is in
    let same : c.args.brood.now.key ≡ key = cc in
    subst (IsKeyOf c.args.depot.now) same c.requires.here
