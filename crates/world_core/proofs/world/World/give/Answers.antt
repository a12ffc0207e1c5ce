use Rattle.world_core.specs.Images.{IsImageAt}
use Rattle.std.proofs.Common.{◌≡◌, None, is_some, sym, ap, ◌∙◌, subst}
use Rattle.forest_tree.proofs.Rests.{lives-none}
use Rattle.world_core.specs.Lent.{Lent, lent_as}
use Rattle.world_core.specs.Answers.{Answers, IsHandedOut, IsLentOf, home_by}
use Rattle.world_core.proofs.Giving.{gave-answers}
use Rattle.world_core.proofs.world.World.give.Goals as goal

pub returns-clause-answers : goal.returns-clause-answers
returns-clause-answers c depot f stands out_as of_depot =
    let i = c.lease.inside in
    let lease : Lent = lent_as i.turn.name i.start.value.machine i.ran i.vm.value in
    let lives : c.args.lease.now.ending ≡ None = lives-none c.args.lease.now.ending (ap is_some (sym c.ended.ensures) ∙ sym c.if-is_some.ensures) in
    subst (λ e. Answers depot f (home_by e) c.args.lease c.home.result c.home.new.self) (sym lives)
    (subst (λ l. Answers depot f (home_by None) l c.home.result c.home.new.self) c.lease.view_is
    (gave-answers depot c.args.self.now f lease c.lease.invariant.made stands (subst (IsHandedOut f) (sym c.lease.view_is) out_as) c.home.result
    c.home.new.self c.home.ensures.gone (ap (λ (l : Lent). l.now.ending) c.lease.view_is ∙ lives)
    (λ a between same lives sound. c.home.ensures.home depot f a between same (subst (IsLentOf depot) (sym c.lease.view_is) of_depot) lives sound)))

pub returns-clause-images : goal.returns-clause-images
returns-clause-images c images h at =
    c.home.ensures.images images h (subst (λ (l : Lent). IsImageAt images l.name l.key) (sym c.lease.view_is) at)
