use Rattle.world_core.specs.Answers.{home_by}
use Rattle.fork_board.specs.Notes.{placed_entry}
use Rattle.fork_board.proofs.Holding.{home-again}
use Rattle.talking_history.specs.Histories.{row}
use Rattle.talking_history.specs.Rows.{halted}
use Rattle.board_ends.specs.Stages.{free, halting}
use Rattle.board_worker.proofs.Working.{halted-stops, holds-halted, spares-halted, spares-placed, spares-worked, steps-home, worked-more, worked-one}
use Rattle.board_worker.proofs.worker.give_up.Goals as goal

pub returns : goal.returns
returns g c =
    let old = c.args.pass in
    let mid = c.stop-pass.result in
    let new = c.give-pass.result.0 in
    let placed = c.give-pass.result.1 in
    let lease = c.args.lease in
    let how = home_by lease.now.ending in
    let stops = c.stop-pass.ensures in
    let gives = c.give-pass.ensures in
    let back = worked-one {a = halting} {b = free} mid new (placed_entry how lease.name lease.ran placed) gives.makes (steps-home lease new placed gives.places) in
    record {
      worked = λ from halts. worked-more {a = from} {b = halting} {c = free} old mid new (worked-one old mid (row (halted c.args.reason)) stops halts) back;
      none = home-again mid new lease (holds-halted old mid c.args.reason lease stops c.requires.one) placed gives.makes gives.places;
      spares = λ unlike. spares-worked old mid new back (spares-halted old mid c.args.reason stops unlike)
          (spares-placed mid new how lease.name lease.ran placed gives.makes);
      stopped = record { before = mid; stopped = halted-stops old mid c.args.reason stops; placed = placed; makes = gives.makes };
    }
