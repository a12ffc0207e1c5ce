use Rattle.std.proofs.Common.{ap, subst, sym, ◌∙◌}
use Rattle.std.specs.Prelude.{is_some}
use Rattle.talking_history.specs.Rows.{forked, joined, killed}
use Rattle.vm_cell.specs.Standing.{IsClone, IsKill, standing_talk}
use Rattle.vm_cell.specs.Steps.{Stands}
use Rattle.vm_cell.specs.declared.vm.Stepped.TheVariants as stepped
use Rattle.world_core.specs.Answers.{IsJoinCall, home_by}
use Rattle.world_core.specs.Lent.{vm_of}
use Rattle.board_worker.proofs.Standing.{stands-call, stands-talk}
use Rattle.board_worker.proofs.Working.{came-back, lent-here, said-back}
use Rattle.board_worker.proofs.worker.hand_back.Goals as goal

pub talk-requires-clause-of_depot : goal.talk-requires-clause-of_depot
talk-requires-clause-of_depot g c = lent-here c.args.pass c.args.shared.now.board.now c.args.lease c.requires.board c.requires.one

pub fork-requires-clause-of_depot : goal.fork-requires-clause-of_depot
fork-requires-clause-of_depot g c = lent-here c.args.pass c.args.shared.now.board.now c.args.lease c.requires.board c.requires.one

pub join-requires-clause-of_depot : goal.join-requires-clause-of_depot
join-requires-clause-of_depot g c = lent-here c.args.pass c.args.shared.now.board.now c.args.lease c.requires.board c.requires.one

pub kill-requires-clause-of_depot : goal.kill-requires-clause-of_depot
kill-requires-clause-of_depot g c = lent-here c.args.pass c.args.shared.now.board.now c.args.lease c.requires.board c.requires.one

pub give-requires-clause-of_depot : goal.give-requires-clause-of_depot
give-requires-clause-of_depot g c = lent-here c.args.pass c.args.shared.now.board.now c.args.lease c.requires.board c.requires.one

pub talk-requires-clause-talks : goal.talk-requires-clause-talks
talk-requires-clause-talks g c =
    ap is_some (stands-talk (vm_of c.args.lease) c.in-Talk.field-0 (subst (Stands (vm_of c.args.lease)) c.in-Talk.is c.requires.stands))

pub fork-requires-clause-clone : goal.fork-requires-clause-clone
fork-requires-clause-clone g c =
    let call = rw c.in-Call-Clone.is at c.in-Call-Clone.field-0-is in
    let here = subst (Stands (vm_of c.args.lease)) (c.in-Call-Clone.is ∙ ap stepped.Call call) c.requires.stands in
    subst IsClone (sym (stands-call (vm_of c.args.lease) _ here)) tt

pub join-requires-clause-join : goal.join-requires-clause-join
join-requires-clause-join g c =
    let call = rw c.in-Call-Join.is at c.in-Call-Join.field-0-is in
    let here = subst (Stands (vm_of c.args.lease)) (c.in-Call-Join.is ∙ ap stepped.Call call) c.requires.stands in
    subst IsJoinCall (sym (stands-call (vm_of c.args.lease) _ here)) tt

pub kill-requires-clause-kill : goal.kill-requires-clause-kill
kill-requires-clause-kill g c =
    let call = rw c.in-Call-Kill.is at c.in-Call-Kill.field-0-is in
    let here = subst (Stands (vm_of c.args.lease)) (c.in-Call-Kill.is ∙ ap stepped.Call call) c.requires.stands in
    subst IsKill (sym (stands-call (vm_of c.args.lease) _ here)) tt

pub returns-in-Talk : goal.returns-in-Talk
returns-in-Talk g c =
    let r = c.talk.result in
    let there = ap is_some (stands-talk (vm_of c.args.lease) c.in-Talk.field-0 (subst (Stands (vm_of c.args.lease)) c.in-Talk.is c.requires.stands)) in
    let back =
    said-back c.args.pass r.0 c.args.lease c.requires.one r.1 (standing_talk (vm_of c.args.lease)) there c.talk.ensures.makes c.talk.ensures.places in
    record { worked = back.worked; holds = back.holds; spares = back.spares }

pub returns-in-Call-Clone : goal.returns-in-Call-Clone
returns-in-Call-Clone g c =
    let r = c.fork.result in
    let back = came-back c.args.pass r.0 c.args.lease c.requires.one r.1 forked c.fork.ensures.makes c.fork.ensures.places in
    record { worked = back.worked; holds = back.holds; spares = back.spares }

pub returns-in-Call-Join : goal.returns-in-Call-Join
returns-in-Call-Join g c =
    let r = c.join.result in
    let back = came-back c.args.pass r.0 c.args.lease c.requires.one r.1 joined c.join.ensures.makes c.join.ensures.places in
    record { worked = back.worked; holds = back.holds; spares = back.spares }

pub returns-in-Call-Kill : goal.returns-in-Call-Kill
returns-in-Call-Kill g c =
    let r = c.kill.result in
    let back = came-back c.args.pass r.0 c.args.lease c.requires.one r.1 killed c.kill.ensures.makes c.kill.ensures.places in
    record { worked = back.worked; holds = back.holds; spares = back.spares }

pub returns-in_default : goal.returns-in_default
returns-in_default g c =
    let r = c.give.result in
    let lease = c.args.lease in
    let back = came-back c.args.pass r.0 lease c.requires.one r.1 (home_by lease.now.ending) c.give.ensures.makes c.give.ensures.places in
    record { worked = back.worked; holds = back.holds; spares = back.spares }
