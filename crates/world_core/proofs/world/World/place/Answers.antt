use Rattle.std.proofs.Common.{◌≡◌, sym, ap, ◌∙◌, subst}
use Rattle.forest_tree.specs.Tree.{Path}
use Rattle.talking_history.specs.Places.{home, placed}
use Rattle.vm_cell.specs.Keyed.{paged}
use Rattle.world_core.specs.declared.world.Placed.TheVariants.{Done}
use Rattle.world_core.specs.World.{IsForest, StandsFor}
use Rattle.world_core.specs.Between.{with_tree}
use Rattle.world_core.proofs.Calling.{settled-ended, settled-lives, lives-by}
use Rattle.world_core.proofs.world.World.place.Goals as goal

pub returns-in-Some-clause-placed : goal.returns-in-Some-clause-placed
returns-in-Some-clause-placed c depot f a between same of_depot whole =
    let name : Path = c.args.turn.name in
    let is = settled-ended a (paged c.args.vm.value) c.in-Some.ending same (c.in-Some.ensures.ending ∙ ap (λ v. v.machine.ending) c.deref.ensures) in
    subst (λ t. (c.finish.result ≡ Done) × StandsFor depot c.finish.new.self (with_tree name (placed home t) f)) is
    (c.finish.ensures.finished depot f a between same (subst (λ t. IsForest (with_tree name (placed home t) f).tree) (sym is) whole))

pub returns-in-None-clause-placed : goal.returns-in-None-clause-placed
returns-in-None-clause-placed c depot f a between same of_depot whole =
    let name : Path = c.args.turn.name in
    let none = c.in-None.ensures.ending ∙ ap (λ v. v.machine.ending) c.deref.ensures in
    let is = settled-lives a (paged c.args.vm.value) same none in
    subst (λ t. (c.home.result ≡ Done) × StandsFor depot c.home.new.self (with_tree name (placed home t) f)) is
    (c.home.ensures.home depot f a between same of_depot (lives-by a (paged c.args.vm.value) same none)
    (subst (λ t. IsForest (with_tree name (placed home t) f).tree) (sym is) whole))

pub returns-in-Some-clause-images : goal.returns-in-Some-clause-images
returns-in-Some-clause-images c images h at = c.finish.ensures.images images h

pub returns-in-None-clause-images : goal.returns-in-None-clause-images
returns-in-None-clause-images c images h at = c.home.ensures.images images h at
