use Rattle.std.proofs.Common.{sym, ap, ◌∙◌, subst}
use Rattle.talking_history.specs.Rows.{ended}
use Rattle.world_core.specs.Lent.{Lent, lent_as}
use Rattle.world_core.specs.Answers.{Answers, HandedOut, IsHandedOut}
use Rattle.world_core.proofs.Giving.{back-wanted, ended-answers}
use Rattle.world_core.proofs.world.World.end.Goals as goal

pub finish-requires-clause-between : goal.finish-requires-clause-between
finish-requires-clause-between c =
    let i = c.lease.inside in
    let lease : Lent = lent_as i.turn.name i.start.value.machine i.ran i.vm.value in
    back-wanted c.args.self.now lease c.lease.invariant.made (subst (HandedOut c.args.self.now) (sym c.lease.view_is) c.requires.lent)

pub returns-clause-answers : goal.returns-clause-answers
returns-clause-answers c depot f stands out_as of_depot =
    let i = c.lease.inside in
    let lease : Lent = lent_as i.turn.name i.start.value.machine i.ran i.vm.value in
    subst (λ l. Answers depot f ended l c.finish.result c.finish.new.self) c.lease.view_is
    (ended-answers depot c.args.self.now f lease c.lease.invariant.made stands (subst (IsHandedOut f) (sym c.lease.view_is) out_as) c.finish.result
    c.finish.new.self c.finish.ensures.gone c.in-Some.ending (sym (ap (λ v. v.machine.ending) c.deref.ensures) ∙ sym c.ended.ensures.ending ∙ c.in-Some.is)
    (c.finish.ensures.finished depot f))
