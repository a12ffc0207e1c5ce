use Rattle.std.proofs.Common.{ap, sym, ◌∙◌, subst}
use Rattle.talking_history.specs.Histories.{row}
use Rattle.talking_history.specs.Rows.{took}
use Rattle.world_core.specs.Answers.{TalksOn}
use Rattle.world_core.specs.World.{StandsFor}
use Rattle.fork_board.specs.declared.note.Note.TheVariants as note
use Rattle.fork_board.specs.Answers.{Places}
use Rattle.fork_board.specs.Deeds.{how_of}
use Rattle.fork_board.specs.Follows.{depot_of}
use Rattle.fork_board.specs.Notes.{placed_entry}
use Rattle.fork_board.specs.Passes.{Makes}
use Rattle.fork_board.specs.Swaps.{TakesNext}
use Rattle.fork_board.specs.Visits.{Visits, pass_of}
use Rattle.fork_board.proofs.Passing.{sees-now}
use Rattle.fork_board.proofs.Returning.{comes, follows-back, handed-in, returned}
use Rattle.fork_board.proofs.Swapping.{follows-both, follows-on, goes-on, takes-next}
use Rattle.fork_board.proofs.board.Board.swap.Goals as goal

pub on_still-requires : goal.on_still-requires
on_still-requires g c =
    let now = pass_of c.args.self.now c.enter-visit.result.turn.seat in
    let w = c.deref_mut-world.result.now in
    let v = subst (Visits c.args.pass now) (sym c.deref_mut-world.ensures.value) c.enter-visit.ensures.visits in
    let at = comes c.args.pass now w c.args.lease v c.requires.held c.ran-ran.ensures.handed c.requires.of_depot in
    (depot_of c.args.self.now.opening, handed-in c.args.pass now w c.args.lease at, c.requires.may)

pub leave-requires-clause-follows : goal.leave-requires-clause-follows
leave-requires-clause-follows g c =
    let now = pass_of c.args.self.now c.enter-visit.result.turn.seat in
    let w = c.deref_mut-world.result.now in
    let v = subst (Visits c.args.pass now) (sym c.deref_mut-world.ensures.value) c.enter-visit.ensures.visits in
    let at = comes c.args.pass now w c.args.lease v c.requires.held c.ran-ran.ensures.handed c.requires.of_depot in
    let how = how_of c.args.deed c.args.lease.now.ending in
    let depot = depot_of c.args.self.now.opening in
    let next = c.in-Goes.lease in
    let a =
    subst (λ t. TalksOn depot at.out.forest how c.args.lease t c.on_still.new.world) c.in-Goes.is
    (c.on_still.ensures.answers depot at.out.forest at.out.stands at.out.handed at.of_depot c.requires.may) in
    follows-on c.args.pass now w c.on_still.new.world c.args.lease next at how c.note-done.result (note.Took c.of-name.result) c.note-done.ensures
    (ap (λ n. row (took n)) (c.of-name.ensures ∙ c.name.ensures ∙ sym a.same)) a c.on_still.ensures.told

pub returns-in-Goes : goal.returns-in-Goes
returns-in-Goes g c =
    let now = pass_of c.args.self.now c.enter-visit.result.turn.seat in
    let w = c.deref_mut-world.result.now in
    let v = subst (Visits c.args.pass now) (sym c.deref_mut-world.ensures.value) c.enter-visit.ensures.visits in
    let at = comes c.args.pass now w c.args.lease v c.requires.held c.ran-ran.ensures.handed c.requires.of_depot in
    let how = how_of c.args.deed c.args.lease.now.ending in
    let depot = depot_of c.args.self.now.opening in
    let next = c.in-Goes.lease in
    let a =
    subst (λ t. TalksOn depot at.out.forest how c.args.lease t c.on_still.new.world) c.in-Goes.is
    (c.on_still.ensures.answers depot at.out.forest at.out.stands at.out.handed at.of_depot c.requires.may) in (
      a.same,
      goes-on c.args.pass now w c.on_still.new.world c.args.lease next at how c.note-done.result (note.Took c.of-name.result) c.note-done.ensures
          (ap (λ n. row (took n)) (c.of-name.ensures ∙ c.name.ensures ∙ sym a.same)) a c.on_still.ensures.told c.leave.result c.leave.ensures,
    )

pub take-taken-requires : goal.take-taken-requires
take-taken-requires g c =
    let now = pass_of c.args.self.now c.enter-visit.result.turn.seat in
    let w = c.deref_mut-world.result.now in
    let v = subst (Visits c.args.pass now) (sym c.deref_mut-world.ensures.value) c.enter-visit.ensures.visits in
    let at = comes c.args.pass now w c.args.lease v c.requires.held c.ran-ran.ensures.handed c.requires.of_depot in
    let how = how_of c.args.deed c.args.lease.now.ending in
    let depot = depot_of c.args.self.now.opening in
    let a =
    subst (λ t. TalksOn depot at.out.forest how c.args.lease t c.on_still.new.world) c.in-Placed.is
    (c.on_still.ensures.answers depot at.out.forest at.out.stands at.out.handed at.of_depot c.requires.may) in
    let on =
    follows-back c.args.pass now w c.args.lease at how c.in-Placed.placed c.on_still.new.world c.of-name.result.value c.ran-ran.result c.note-done.result
    c.placed_note-first.result (c.of-name.ensures ∙ c.name.ensures) c.ran-ran.ensures.value c.note-done.ensures c.placed_note-first.ensures a
    c.on_still.ensures.told in
    (on.world.forest, subst (λ d. StandsFor d c.on_still.new.world on.world.forest) c.requires.depot on.world.stands)

pub leave-requires-in-Ok-clause-follows : goal.leave-requires-in-Ok-clause-follows
leave-requires-in-Ok-clause-follows g c =
    let now = pass_of c.args.self.now c.enter-visit.result.turn.seat in
    let w = c.deref_mut-world.result.now in
    let v = subst (Visits c.args.pass now) (sym c.deref_mut-world.ensures.value) c.enter-visit.ensures.visits in
    let at = comes c.args.pass now w c.args.lease v c.requires.held c.ran-ran.ensures.handed c.requires.of_depot in
    let how = how_of c.args.deed c.args.lease.now.ending in
    let depot = depot_of c.args.self.now.opening in
    let a =
    subst (λ t. TalksOn depot at.out.forest how c.args.lease t c.on_still.new.world) c.in-Placed.is
    (c.on_still.ensures.answers depot at.out.forest at.out.stands at.out.handed at.of_depot c.requires.may) in
    let on =
    follows-back c.args.pass now w c.args.lease at how c.in-Placed.placed c.on_still.new.world c.of-name.result.value c.ran-ran.result c.note-done.result
    c.placed_note-first.result (c.of-name.ensures ∙ c.name.ensures) c.ran-ran.ensures.value c.note-done.ensures c.placed_note-first.ensures a
    c.on_still.ensures.told in
    follows-both c.args.pass now (sees-now c.args.pass now w v) c.on_still.new.world c.take-taken.new.self c.args.depot.now c.placed_note-first.result
    c.taken_note.result c.take-taken.result c.requires.depot c.taken_note.ensures on c.take-taken.ensures.takes c.take-taken.ensures.told

pub returns-in-Ok : goal.returns-in-Ok
returns-in-Ok g c =
    let now = pass_of c.args.self.now c.enter-visit.result.turn.seat in
    let w = c.deref_mut-world.result.now in
    let v = subst (Visits c.args.pass now) (sym c.deref_mut-world.ensures.value) c.enter-visit.ensures.visits in
    let at = comes c.args.pass now w c.args.lease v c.requires.held c.ran-ran.ensures.handed c.requires.of_depot in
    let how = how_of c.args.deed c.args.lease.now.ending in
    let depot = depot_of c.args.self.now.opening in
    let back = c.in-Placed.placed in
    let a =
    subst (λ t. TalksOn depot at.out.forest how c.args.lease t c.on_still.new.world) c.in-Placed.is
    (c.on_still.ensures.answers depot at.out.forest at.out.stands at.out.handed at.of_depot c.requires.may) in
    let on =
    follows-back c.args.pass now w c.args.lease at how back c.on_still.new.world c.of-name.result.value c.ran-ran.result c.note-done.result
    c.placed_note-first.result (c.of-name.ensures ∙ c.name.ensures) c.ran-ran.ensures.value c.note-done.ensures c.placed_note-first.ensures a
    c.on_still.ensures.told in
    subst (λ p. TakesNext how c.args.lease p c.take-taken.result c.args.pass c.leave-in-Ok.result) c.in-Ok.ensures.ok
    (takes-next c.args.pass now (sees-now c.args.pass now w v) c.on_still.new.world c.take-taken.new.self c.args.depot.now c.placed_note-first.result
    c.taken_note.result c.take-taken.result c.requires.depot c.taken_note.ensures on c.take-taken.ensures.takes c.take-taken.ensures.told how
    c.args.lease back
    (returned c.args.pass now w c.args.lease at how back c.on_still.new.world c.of-name.result.value c.ran-ran.result c.note-done.result
    c.placed_note-first.result (c.of-name.ensures ∙ c.name.ensures) c.ran-ran.ensures.value c.note-done.ensures c.placed_note-first.ensures a
    c.on_still.ensures.told) c.leave-in-Ok.result c.leave-in-Ok.ensures)

pub leave-requires-in-Err-clause-follows : goal.leave-requires-in-Err-clause-follows
leave-requires-in-Err-clause-follows g c =
    let now = pass_of c.args.self.now c.enter-visit.result.turn.seat in
    let w = c.deref_mut-world.result.now in
    let v = subst (Visits c.args.pass now) (sym c.deref_mut-world.ensures.value) c.enter-visit.ensures.visits in
    let at = comes c.args.pass now w c.args.lease v c.requires.held c.ran-ran.ensures.handed c.requires.of_depot in
    let how = how_of c.args.deed c.args.lease.now.ending in
    let depot = depot_of c.args.self.now.opening in
    let a =
    subst (λ t. TalksOn depot at.out.forest how c.args.lease t c.on_still.new.world) c.in-Placed.is
    (c.on_still.ensures.answers depot at.out.forest at.out.stands at.out.handed at.of_depot c.requires.may) in
    follows-back c.args.pass now w c.args.lease at how c.in-Placed.placed c.on_still.new.world c.of-name.result.value c.ran-ran.result c.note-done.result
    c.placed_note-first.result (c.of-name.ensures ∙ c.name.ensures) c.ran-ran.ensures.value c.note-done.ensures c.placed_note-first.ensures a
    c.on_still.ensures.told

pub returns-in-Err : goal.returns-in-Err
returns-in-Err g c =
    let now = pass_of c.args.self.now c.enter-visit.result.turn.seat in
    let w = c.deref_mut-world.result.now in
    let v = subst (Visits c.args.pass now) (sym c.deref_mut-world.ensures.value) c.enter-visit.ensures.visits in
    let at = comes c.args.pass now w c.args.lease v c.requires.held c.ran-ran.ensures.handed c.requires.of_depot in
    let how = how_of c.args.deed c.args.lease.now.ending in
    let depot = depot_of c.args.self.now.opening in
    let a =
    subst (λ t. TalksOn depot at.out.forest how c.args.lease t c.on_still.new.world) c.in-Placed.is
    (c.on_still.ensures.answers depot at.out.forest at.out.stands at.out.handed at.of_depot c.requires.may) in
    subst (λ p. Makes c.args.pass c.leave-in-Err.result (placed_entry how c.args.lease.name c.args.lease.ran p) × Places how c.args.lease c.leave-in-Err.result p)
    c.in-Err.ensures.err
    (returned c.args.pass now w c.args.lease at how c.in-Placed.placed c.on_still.new.world c.of-name.result.value c.ran-ran.result c.note-done.result
    c.placed_note-first.result (c.of-name.ensures ∙ c.name.ensures) c.ran-ran.ensures.value c.note-done.ensures c.placed_note-first.ensures a
    c.on_still.ensures.told c.leave-in-Err.result c.leave-in-Err.ensures)
