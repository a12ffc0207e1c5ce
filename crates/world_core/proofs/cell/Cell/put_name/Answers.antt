use Rattle.std.proofs.Common.{◌≡◌, ◌-◌, ◌<◌, Some, slice_get, sym, ap, ◌∙◌, subst}
use Rattle.std.proofs.lemmas.Option.{slice_get_within}
use Rattle.world_core.specs.declared.cell.ChildSlot.TheVariants.{Asleep}
use Rattle.world_core.specs.Talking.{slot_in}
use Rattle.world_core.proofs.cell.Cell.put_name.Goals as goal

pub index_mut-requires : goal.index_mut-requires
index_mut-requires c =
    let b = c.in-Some.brood.now in
    let there : slice_get b.slots.items (c.args.index - 1) ≡ Some Asleep = ap (slot_in c.args.index) c.in-Some.ensures.value ∙ c.requires.asleep in
    subst (λ n. c.args.index - 1 < n) (sym b.slots.ok.0) (slice_get_within b.slots.items (c.args.index - 1) Asleep there)
