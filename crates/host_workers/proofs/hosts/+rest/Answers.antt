use Rattle.std.proofs.Common.{◌++◌, sym, subst}
use denote.Exit.{no}
use denote.Param.Send.{arg_send, param_send}
use Rattle.host_workers.specs.Spread.{HaveWorked}
use Rattle.host_workers.proofs.Crosses.{rest_send}
use Rattle.host_workers.proofs.States.{both-halves}
use Rattle.host_workers.proofs.hosts.+rest.Goals as goal

pub work_all-returns-then-not-is_over-clause-worked : goal.work_all-returns-then-not-is_over-clause-worked
work_all-returns-then-not-is_over-clause-worked g t c =
    let run = c.work_beside in
    let states = c.split_at_mut-first in
    subst (λ l. HaveWorked g.W.Wire.streak (run.new.here ++ run.new.there) l (run.new.first ++ run.new.rest)) (sym states.ensures.value)
    (both-halves g.W.Wire.streak run.new.here run.new.there states.result.0.now states.result.1.now run.new.first run.new.rest
    run.ensures.first.0 run.ensures.rest.0)

pub work_beside-back-returns : goal.work_beside-back-returns
work_beside-back-returns g t c = (c.work_all.ensures.worked, c.work_all.ensures.len, c.work_all.ensures.seeds)

pub work_beside-join_mut-requires-send-F : goal.work_beside-join_mut-requires-send-F
work_beside-join_mut-requires-send-F g t c κs within =
    let all = c.requires.crosses in
    param_send 1 _ (arg_send _ no _ (rest_send _ _ _ _ _ _ g.row.R g.row.W g.row.G all.0 all.1 all.2))
