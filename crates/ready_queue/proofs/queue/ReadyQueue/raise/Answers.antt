use Rattle.std.proofs.Common.{reverse, refl, subst}
use Rattle.ready_queue.specs.Ready.{Raises}
use Rattle.ready_queue.proofs.Raised.{raised-first}
use Rattle.ready_queue.proofs.queue.ReadyQueue.raise.Goals as goal

pub returns-then-begins_with-clause-raised : goal.returns-then-begins_with-clause-raised
returns-then-begins_with-clause-raised c =
    let now = c.self.inside in
    subst (λ turns. Raises c.args.name.now c.args.ticket turns turns) c.self.view_is
    (raised-first c.args.name.now c.args.ticket now.front (reverse now.back) (c.if-begins_with.ensures refl))
