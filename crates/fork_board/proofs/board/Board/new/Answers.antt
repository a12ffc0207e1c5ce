use Rattle.std.proofs.Common.{[], sym, ap, subst}
use Rattle.talking_history.specs.World.{world_of}
use Rattle.forest_model.specs.Paged.{paged_machines, paged_talks}
use Rattle.vm_cell.specs.Keyed.{paged}
use Rattle.world_core.specs.World.{StandsFor}
use Rattle.turn_board.specs.declared.view.View.{View}
use Rattle.fork_board.specs.declared.note.TurnNote.{TurnNote}
use Rattle.fork_board.specs.declared.note.Opening.{Opening}
use Rattle.fork_board.specs.Follows.{Follows}
use Rattle.fork_board.proofs.Passing.{first-place, none-held, own-seat}
use Rattle.fork_board.proofs.Worlds.{begins}
use Rattle.fork_board.proofs.board.Board.new.Goals as goal

pub new-requires-2 : goal.new-requires-2
new-requires-2 c =
    let opening : Opening = record { first = c.args.first; depot = c.of.result } in
    subst (Follows opening []) (sym c.in_ok-world.ensures.ok)
    (begins opening c.args.world
    (subst (λ d. StandsFor d c.args.world (world_of paged_machines paged_talks (paged c.args.first.value))) (sym c.of.ensures) c.requires.world) c.requires.told)

pub returns-clause-none : goal.returns-clause-none
returns-clause-none c =
    let new = c.in_ok-turns.seat in
    let is = c.in_ok-turns.ensures in
    let t = c.in_ok-turns.turns.table.shared in
    none-held (record { table = new.table_id; opening = c.of-2.result.value }) new
    (own-seat t.table_id (record { first = c.args.first; depot = c.of.result }) c.of-2.result.value new is.1 c.of-2.ensures)
    (ap (λ (v : View Opening TurnNote). v.mine) is.2)

pub invariant_of-pass : goal.invariant_of-pass
invariant_of-pass c =
    let opening : Opening = record { first = c.args.first; depot = c.of.result } in
    let is = c.in_ok-turns.ensures in
    first-place c.in_ok-turns.turns.table.shared.table_id opening c.of-2.result.value c.in_ok-turns.seat c.args.world is.1 c.of-2.ensures
    (ap (λ (v : View Opening TurnNote). v.seen) is.2)
    (begins opening c.args.world
    (subst (λ d. StandsFor d c.args.world (world_of paged_machines paged_talks (paged c.args.first.value))) (sym c.of.ensures) c.requires.world) c.requires.told)
