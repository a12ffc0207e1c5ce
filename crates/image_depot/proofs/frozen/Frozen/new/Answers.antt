use Rattle.std.proofs.Common.{◌∷◌, [], ap, sym, ◌∙◌, subst}
use Rattle.image_depot.specs.Image.{IsFrozen, image_of_layers}
use Rattle.image_depot.proofs.Disks.{frozen_alone}
use Rattle.image_depot.proofs.frozen.Frozen.new.Goals as goal

pub invariant_of-result : goal.invariant_of-result
invariant_of-result c =
    let tables = c.in_ok-tables.ensures.items ∙ ap (λ table. table ∷ []) c.in_ok-table.ensures in
    let count = c.pages.ensures.entries ∙ c.pages.ensures.value in
    subst (λ ts. IsFrozen ts c.in_ok-disks.disks.items) (sym tables)
    (subst (IsFrozen (c.args.entries ∷ [])) (sym c.in_ok-disks.ensures.items) (frozen_alone c.args.entries c.args.disk c.requires.whole c.requires.pages_fit c.requires.disk_whole count))

pub returns : goal.returns
returns c =
    ap (λ tables. image_of_layers tables c.in_ok-disks.disks.items c.args.input) (c.in_ok-tables.ensures.items ∙ ap (λ table. table ∷ []) c.in_ok-table.ensures)
    ∙ ap (λ disks. image_of_layers (c.args.entries ∷ []) disks c.args.input) c.in_ok-disks.ensures.items
