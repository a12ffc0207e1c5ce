use Rattle.std.proofs.Common.{ap, subst, sym, ◌∙◌}
use Rattle.talking_history.specs.Rows.{forked, joined, killed}
use Rattle.vm_cell.specs.Standing.{IsClone, IsKill}
use Rattle.vm_cell.specs.Steps.{Stands}
use Rattle.vm_cell.specs.declared.vm.Stepped.TheVariants as stepped
use Rattle.world_core.specs.Answers.{IsJoinCall, home_by, said_by}
use Rattle.world_core.specs.Lent.{vm_of}
use Rattle.board_worker.proofs.Standing.{stands-call, stands-talk}
use Rattle.board_worker.proofs.Swapping.{swapped-so}
use Rattle.board_worker.proofs.Working.{lent-here}
use Rattle.board_worker.proofs.worker.swap.Goals as goal

pub talk_on-requires-clause-of_depot : goal.talk_on-requires-clause-of_depot
talk_on-requires-clause-of_depot g c = lent-here c.args.pass c.args.shared.now.board.now c.args.lease c.requires.board c.requires.one

pub fork_and_take-requires-clause-of_depot : goal.fork_and_take-requires-clause-of_depot
fork_and_take-requires-clause-of_depot g c = lent-here c.args.pass c.args.shared.now.board.now c.args.lease c.requires.board c.requires.one

pub join_and_take-requires-clause-of_depot : goal.join_and_take-requires-clause-of_depot
join_and_take-requires-clause-of_depot g c = lent-here c.args.pass c.args.shared.now.board.now c.args.lease c.requires.board c.requires.one

pub kill_and_take-requires-clause-of_depot : goal.kill_and_take-requires-clause-of_depot
kill_and_take-requires-clause-of_depot g c = lent-here c.args.pass c.args.shared.now.board.now c.args.lease c.requires.board c.requires.one

pub give_and_take-requires-clause-of_depot : goal.give_and_take-requires-clause-of_depot
give_and_take-requires-clause-of_depot g c = lent-here c.args.pass c.args.shared.now.board.now c.args.lease c.requires.board c.requires.one

pub talk_on-requires-clause-talks : goal.talk_on-requires-clause-talks
talk_on-requires-clause-talks g c =
    stands-talk (vm_of c.args.lease) c.in-Talk.what (subst (Stands (vm_of c.args.lease)) c.in-Talk.is c.requires.stands)

pub fork_and_take-requires-clause-clone : goal.fork_and_take-requires-clause-clone
fork_and_take-requires-clause-clone g c =
    let call = rw c.in-Call-Clone.is at c.in-Call-Clone.field-0-is in
    let here = subst (Stands (vm_of c.args.lease)) (c.in-Call-Clone.is ∙ ap stepped.Call call) c.requires.stands in
    subst IsClone (sym (stands-call (vm_of c.args.lease) _ here)) tt

pub join_and_take-requires-clause-join : goal.join_and_take-requires-clause-join
join_and_take-requires-clause-join g c =
    let call = rw c.in-Call-Join.is at c.in-Call-Join.field-0-is in
    let here = subst (Stands (vm_of c.args.lease)) (c.in-Call-Join.is ∙ ap stepped.Call call) c.requires.stands in
    subst IsJoinCall (sym (stands-call (vm_of c.args.lease) _ here)) tt

pub kill_and_take-requires-clause-kill : goal.kill_and_take-requires-clause-kill
kill_and_take-requires-clause-kill g c =
    let call = rw c.in-Call-Kill.is at c.in-Call-Kill.field-0-is in
    let here = subst (Stands (vm_of c.args.lease)) (c.in-Call-Kill.is ∙ ap stepped.Call call) c.requires.stands in
    subst IsKill (sym (stands-call (vm_of c.args.lease) _ here)) tt

pub returns-in-Talk : goal.returns-in-Talk
returns-in-Talk g c =
    let r = c.talk_on.result in
    let so = swapped-so c.args.pass r.0 c.args.lease c.requires.one (said_by c.in-Talk.what) r.1 c.talk_on.ensures in
    record { worked = so.worked; holds = so.holds; spares = so.spares }

pub returns-in-Call-Clone : goal.returns-in-Call-Clone
returns-in-Call-Clone g c =
    let r = c.fork_and_take.result in
    let so = swapped-so c.args.pass r.0 c.args.lease c.requires.one forked r.1 c.fork_and_take.ensures in
    record { worked = so.worked; holds = so.holds; spares = so.spares }

pub returns-in-Call-Join : goal.returns-in-Call-Join
returns-in-Call-Join g c =
    let r = c.join_and_take.result in
    let so = swapped-so c.args.pass r.0 c.args.lease c.requires.one joined r.1 c.join_and_take.ensures in
    record { worked = so.worked; holds = so.holds; spares = so.spares }

pub returns-in-Call-Kill : goal.returns-in-Call-Kill
returns-in-Call-Kill g c =
    let r = c.kill_and_take.result in
    let so = swapped-so c.args.pass r.0 c.args.lease c.requires.one killed r.1 c.kill_and_take.ensures in
    record { worked = so.worked; holds = so.holds; spares = so.spares }

pub returns-in_default : goal.returns-in_default
returns-in_default g c =
    let r = c.give_and_take.result in
    let so = swapped-so c.args.pass r.0 c.args.lease c.requires.one (home_by c.args.lease.now.ending) r.1 c.give_and_take.ensures in
    record { worked = so.worked; holds = so.holds; spares = so.spares }
