use Rattle.world_core.proofs.Images.{fork-prepared, prepared-number}
use Rattle.std.proofs.Common.{◌≡◌, false, refl, sym, ap, ◌∙◌, Option, Some, None, is_some}
use Rattle.std.specs.BTreeMap.{get_by}
use Rattle.machine_names.specs.NameOrder.{path_cmp}
use Rattle.world_core.proofs.Calling.{gone-here}
use Rattle.world_core.proofs.world.World.fork.Goals as goal

none_by : {A : Type 0} (o : Option A) → is_some o ≡ false → None ≡ o
none_by None e = refl
none_by (Some a) e = absurd (cc)

pub returns-then-not-contains_key-clause-answers : goal.returns-then-not-contains_key-clause-answers
returns-then-not-contains_key-clause-answers g c f stands out_as of_depot =
    gone-here c.args.depot.now c.args.self.now c.args.self.now f c.args.lease stands out_as
    (none_by _ (sym c.contains_key.ensures ∙ c.if-not-contains_key.true) ∙ ap (λ n. get_by (path_cmp n) c.args.self.now.cells) c.name.ensures) refl

pub commit_fork-requires-clause-lent : goal.commit_fork-requires-clause-lent
commit_fork-requires-clause-lent g c = (c.args.depot.now, c.requires.lent, c.prepare_fork-prepared.ensures.kept)

pub returns-clause-answers : goal.returns-clause-answers
returns-clause-answers g c f stands out_as of_depot = c.commit_fork.ensures.answers c.args.depot.now f stands out_as of_depot c.prepare_fork-prepared.ensures.kept

pub returns-then-not-contains_key-clause-images : goal.returns-then-not-contains_key-clause-images
returns-then-not-contains_key-clause-images g c = (0, λ images ticket stands at h lent. h)

pub returns-clause-images : goal.returns-clause-images
returns-clause-images g c =
    let number = prepared-number c.prepare_fork-prepared.result in (
      number,
      λ images ticket stands at h lent. c.commit_fork.ensures.images images h lent
          (fork-prepared images c.args.lease ticket c.prepare_fork-prepared.result stands at c.prepare_fork-prepared.ensures.of_lease),
    )
