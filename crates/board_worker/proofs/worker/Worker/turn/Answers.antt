use Rattle.std.proofs.Common.{◌∙◌}
use Rattle.fork_board.specs.Notes.{taken_entry}
use Rattle.board_ends.specs.Stages.{free}
use Rattle.board_worker.specs.Next.{stage_taken}
use Rattle.board_worker.proofs.Swapping.{has-taken, steps-taken, still-stopped}
use Rattle.board_worker.proofs.Working.{blames-worked, fit-on, spares-taken, worked-more, worked-one}
use Rattle.board_worker.proofs.worker.Worker.turn.Goals as goal

pub take-pass-requires-clause-board : goal.take-pass-requires-clause-board
take-pass-requires-clause-board g c = c.requires.board

pub take-pass-requires-clause-depot : goal.take-pass-requires-clause-depot
take-pass-requires-clause-depot g c = c.args.shared.now.of_board

pub run_taken-requires-clause-board : goal.run_taken-requires-clause-board
run_taken-requires-clause-board g c = c.take-pass.ensures.makes.same_board ∙ c.requires.board

pub run_taken-requires-clause-taken : goal.run_taken-requires-clause-taken
run_taken-requires-clause-taken g c =
    let r = c.take-pass.result in
    has-taken c.args.pass r.0 r.1 c.take-pass.ensures.makes c.take-pass.ensures.takes c.requires.none

pub run_taken-requires-clause-fit : goal.run_taken-requires-clause-fit
run_taken-requires-clause-fit g c = fit-on _ _ _ _ c.look.ensures.hearing c.look.ensures.claims c.requires.fit

pub returns : goal.returns
returns g c =
    let old = c.args.pass in
    let r = c.take-pass.result in
    let e = c.take-pass.ensures in
    let new = c.run_taken.result.0 in
    let ran = c.run_taken.ensures in
    record {
      worked = worked-more old r.0 new (worked-one {a = free} {b = stage_taken r.1} old r.0 (taken_entry r.1) e.makes (steps-taken r.1)) ran.worked;
      none = ran.none;
      turns = ran.turns;
      fit = ran.fit;
      wire = blames-worked g.W.Wire.streak c.run_taken.new.wire old r.0 new ran.worked (spares-taken old r.0 r.1 e.makes) ran.wire;
      stopped = still-stopped c.run_taken.new.wire c.args.wire.now r.1 old r.0 e.makes (has-taken old r.0 r.1 e.makes e.takes c.requires.none) ran.still;
      seeds = ran.seeds;
    }
