use Rattle.std.proofs.Common.{◌≡◌, inl, inr, refl, subst, ◌∙◌}
use Rattle.talking_history.specs.Histories.{row}
use Rattle.talking_history.specs.Rows.{halted}
use Rattle.world_core.specs.declared.reason.Reason.TheVariants as reason
use Rattle.world_core.specs.declared.world.Taken.TheVariants as taken
use Rattle.board_ends.specs.Stages.{free, short}
use Rattle.board_ends.proofs.Ending.{ends-over, ends-stopped, ends-stuck}
use Rattle.board_worker.specs.Next.{HasNext, HasTaken, stage_next, stage_taken}
use Rattle.board_worker.specs.Stays.{Worked}
use Rattle.board_worker.proofs.Swapping.{machine-by, not-stopped, still-by, worked-none}
use Rattle.board_worker.proofs.Working.{blames-on, spares-halted, spares-none, worked-more, worked-one}
use Rattle.board_worker.proofs.worker.Worker.run_taken.Goals as goal

pub loop-init : goal.loop-init
loop-init g c = record {
  goes = tt;
  ends = tt;
  worked = worked-none c.args.pass c.args.taken c.requires.taken;
  taken = c.requires.taken;
  fit = c.requires.fit;
  seeds = refl {a = g.W.Wire.seeds c.args.wire.now};
  wire = λ by. inr (spares-none c.args.pass by);
  still = inl (refl, refl);
}

pub returns-in-Over : goal.returns-in-Over
returns-in-Over g c =
    let was = c.loop.invariant in
    let pass = c.loop.pass in
    let has = subst (HasTaken pass) c.in-Over.is was.taken in
    record {
      worked = subst (λ t. Worked (stage_taken c.args.taken) (stage_taken t) c.args.pass pass) c.in-Over.is was.worked;
      none = has.holds;
      turns = ends-over has.before pass has.makes;
      fit = was.fit;
      wire = was.wire;
      seeds = was.seeds;
      still = still-by was.still;
    }

pub returns-in-Stopped : goal.returns-in-Stopped
returns-in-Stopped g c =
    let was = c.loop.invariant in
    let pass = c.loop.pass in
    let has = subst (HasTaken pass) c.in-Stopped.is was.taken in
    record {
      worked = subst (λ t. Worked (stage_taken c.args.taken) (stage_taken t) c.args.pass pass) c.in-Stopped.is was.worked;
      none = has.holds;
      turns = ends-stopped has.before pass c.in-Stopped.reason has.makes;
      fit = was.fit;
      wire = was.wire;
      seeds = was.seeds;
      still = still-by was.still;
    }

pub returns-in-Stuck : goal.returns-in-Stuck
returns-in-Stuck g c =
    let was = c.loop.invariant in
    let pass = c.loop.pass in
    let has = subst (HasTaken pass) c.in-Stuck.is was.taken in
    record {
      worked = subst (λ t. Worked (stage_taken c.args.taken) (stage_taken t) c.args.pass pass) c.in-Stuck.is was.worked;
      none = has.holds;
      turns = ends-stuck has.before pass has.makes;
      fit = was.fit;
      wire = was.wire;
      seeds = was.seeds;
      still = still-by was.still;
    }

pub returns-in-Idle : goal.returns-in-Idle
returns-in-Idle g c =
    let was = c.loop.invariant in
    let pass = c.loop.pass in
    let has = subst (HasTaken pass) c.in-Idle.is was.taken in
    record {
      worked = subst (λ t. Worked (stage_taken c.args.taken) (stage_taken t) c.args.pass pass) c.in-Idle.is was.worked;
      none = has.holds;
      turns = tt;
      fit = was.fit;
      wire = was.wire;
      seeds = was.seeds;
      still = still-by was.still;
    }

pub stop-requires : goal.stop-requires
stop-requires g c = c.loop.invariant.worked.same_board ∙ c.requires.board

pub returns-in-Memory : goal.returns-in-Memory
returns-in-Memory g c =
    let was = c.loop.invariant in
    let pass = c.loop.pass in
    let new = c.stop.result in
    let stops = c.stop.ensures in
    let has = subst (HasTaken pass) c.in-Memory.is was.taken in
    let halts = worked-one {a = short} {b = free} pass new (row (halted reason.Memory)) stops (refl, refl) in
    let work = subst (λ t. Worked (stage_taken c.args.taken) (stage_taken t) c.args.pass pass) c.in-Memory.is was.worked in
    record {
      worked = worked-more c.args.pass pass new work halts;
      none = λ name. stops.free name (has.holds name);
      turns = tt;
      fit = was.fit;
      wire = blames-on g.W.Wire.streak c.loop.wire c.loop.wire c.args.pass pass new was.wire halts (λ stopped. refl)
          (λ by. inr (spares-halted pass new reason.Memory stops (λ same. let no : reason.Memory ≡ reason.Wire = same in cc) by));
      seeds = was.seeds;
      still = still-by was.still;
    }

pub run-after-requires-clause-board : goal.run-after-requires-clause-board
run-after-requires-clause-board g c = c.loop.invariant.worked.same_board ∙ c.requires.board

pub run-after-requires-clause-one : goal.run-after-requires-clause-one
run-after-requires-clause-one g c = (subst (HasTaken c.loop.pass) c.in-Took.is c.loop.invariant.taken).holds

pub run-after-requires-clause-fit : goal.run-after-requires-clause-fit
run-after-requires-clause-fit g c = c.loop.invariant.fit

pub returns-in-None-next : goal.returns-in-None-next
returns-in-None-next g c =
    let was = c.loop.invariant in
    let pass = c.loop.pass in
    let new = c.run-after.result.0 in
    let ran = c.run-after.ensures in
    let has = subst (HasTaken pass) c.in-Took.is was.taken in
    let work = subst (λ n. Worked (stage_taken (taken.Took c.in-Took.lease)) (stage_next n) pass new) c.in-None-next.is ran.worked in
    record {
      worked = worked-more c.args.pass pass new
          (subst (λ t. Worked (stage_taken c.args.taken) (stage_taken t) c.args.pass pass) c.in-Took.is was.worked) work;
      none = subst (HasNext new) c.in-None-next.is ran.next;
      turns = tt;
      fit = ran.fit;
      wire = blames-on g.W.Wire.streak c.loop.wire c.run-after.new.wire c.args.pass pass new was.wire work
          (λ stopped. absurd (not-stopped (taken.Took c.in-Took.lease) pass has tt stopped)) ran.wire;
      seeds = ran.seeds ∙ was.seeds;
      still = inr (machine-by c.loop.taken c.args.taken c.in-Took.lease c.in-Took.is was.still);
    }

pub loop-preserved : goal.loop-preserved
loop-preserved g c =
    let was = c.loop.invariant in
    let pass = c.loop.pass in
    let new = c.run-after.result.0 in
    let ran = c.run-after.ensures in
    let has = subst (HasTaken pass) c.in-Took.is was.taken in
    let work = subst (λ n. Worked (stage_taken (taken.Took c.in-Took.lease)) (stage_next n) pass new) c.in-Some-next.is ran.worked in
    record {
      goes = tt;
      ends = tt;
      worked = worked-more c.args.pass pass new
          (subst (λ t. Worked (stage_taken c.args.taken) (stage_taken t) c.args.pass pass) c.in-Took.is was.worked) work;
      taken = subst (HasNext new) c.in-Some-next.is ran.next;
      fit = ran.fit;
      wire = blames-on g.W.Wire.streak c.loop.wire c.run-after.new.wire c.args.pass pass new was.wire work
          (λ stopped. absurd (not-stopped (taken.Took c.in-Took.lease) pass has tt stopped)) ran.wire;
      seeds = ran.seeds ∙ was.seeds;
      still = inr (machine-by c.loop.taken c.args.taken c.in-Took.lease c.in-Took.is was.still);
    }
