use Rattle.std.proofs.Common.{◌≡◌, ℕ, ◌<◌, List, Ok, Err, refl}
use Rattle.std.proofs.lemmas.Result.{err_from_is_err_and}
use Rattle.io_edge.specs.Outside.{HasRisen, IsPrefixGone, appended}
use Rattle.board_ends.specs.Lost.{IsOneLost}
use Rattle.guest_files.specs.Parts.{IsFaultOf, IsGuestLoad, guest_loads}
use Rattle.guest_files.specs.declared.stop.Stop.TheVariants.{WriteFault}
use Rattle.guest_files.proofs.PartLemmas.{made-all, to-all}
use Rattle.run_report.specs.Report.{Ended as Outcome, report, report_of}
use Rattle.run_report.proofs.Begin.{outcome-report}
use Rattle.command_texts.specs.Text.{HasLines}
use Rattle.command_texts.proofs.Late.{run-late}
use Rattle.command_texts.proofs.Made.{family-made, stop-silent}
use Rattle.command_texts.proofs.Seeding.{before-all, stop-same, stops-unrun}
use Rattle.command_texts.proofs.TextLemmas.{over-gives, over-writes, run-stops, stops-writes, text-then}
use Rattle.snow_commands.proofs.run.run_and_report.Goals as goal

abbrev shows : Outcome → List ℕ → Type 0
shows outcome told = report_of outcome ≡ told

pub returns-in_err-files-clause-writes : goal.returns-in_err-files-clause-writes
returns-in_err-files-clause-writes g c =
    let guest = c.args.guest.now in
    let files = g.S.Shelf.files c.args.shelf.now in
    let rise = HasRisen (g.S.Shelf.faults c.args.shelf.now) (g.S.Shelf.faults c.read_guest.new.shelf) in
    let fault : ℕ → Type 0 = λ load. rise × IsFaultOf (guest_loads guest) load (g.S.Shelf.asked c.args.shelf.now) (g.S.Shelf.asked c.read_guest.new.shelf) in
    let count = g.K.Sink.faults c.args.sink.now in
    let gone = g.K.Sink.gone c.args.sink.now in
    let lost = (0 < guest.clones) × IsOneLost g.W.Wire.streak c.args.wires.now.items in
    let stop = c.in_err-files.field-0.0 in
    let p = err_from_is_err_and c.from_residual.result c.from_residual.ensures.1 in
    rw (p.1, p.2)
    (stops-writes guest c.args.plan.now.how.now files fault (HasRisen count count) lost gone gone stop
    (run-stops guest files _ (λ load. IsGuestLoad guest load × fault load) stop (λ load was. (was.0, (was.1, was.2))) c.in_err-files.ensures.gives))

pub returns-in_err-files-clause-seeded : goal.returns-in_err-files-clause-seeded
returns-in_err-files-clause-seeded g c =
    let p = err_from_is_err_and c.from_residual.result c.from_residual.ensures.1 in
    rw (p.1, p.2) (stops-unrun (Unit {0}) _ _ _ c.in_err-files.field-0.0 _ c.in_err-files.ensures.gives)

pub returns-in_err-files-clause-silent : goal.returns-in_err-files-clause-silent
returns-in_err-files-clause-silent g c =
    let p = err_from_is_err_and c.from_residual.result c.from_residual.ensures.1 in
    rw (p.1, p.2) (stop-silent c.in_err-files.field-0.0 _ refl)

pub returns-in_err-outcome-clause-writes : goal.returns-in_err-outcome-clause-writes
returns-in_err-outcome-clause-writes g c =
    let guest = c.args.guest.now in
    let files = g.S.Shelf.files c.args.shelf.now in
    let rise = HasRisen (g.S.Shelf.faults c.args.shelf.now) (g.S.Shelf.faults c.read_guest.new.shelf) in
    let fault : ℕ → Type 0 = λ load. rise × IsFaultOf (guest_loads guest) load (g.S.Shelf.asked c.args.shelf.now) (g.S.Shelf.asked c.read_guest.new.shelf) in
    let count = g.K.Sink.faults c.args.sink.now in
    let gone = g.K.Sink.gone c.args.sink.now in
    let lost = (0 < guest.clones) × IsOneLost g.W.Wire.streak c.run_files.new.wires.items in
    let stop = c.in_err-outcome.field-0.0 in
    let p = err_from_is_err_and c.from_residual-in_err-outcome.result c.from_residual-in_err-outcome.ensures.1 in
    rw (p.1, p.2)
    (over-writes guest c.args.plan.now.how.now files fault (HasRisen count count) lost gone gone shows stop
    (over-gives lost guest files (λ load. IsGuestLoad guest load × fault load) c.in_ok-files.files shows (Err stop) c.in_ok-files.ensures.gives
    (family-made report report_of outcome-report lost guest c.in_ok-files.files (Err stop) c.in_err-outcome.ensures.makes)))

pub returns-in_err-outcome-clause-seeded : goal.returns-in_err-outcome-clause-seeded
returns-in_err-outcome-clause-seeded g c =
    let p = err_from_is_err_and c.from_residual-in_err-outcome.result c.from_residual-in_err-outcome.ensures.1 in
    rw (p.1, p.2) (stop-same Outcome (Unit {0}) c.in_err-outcome.field-0.0 _ c.in_err-outcome.ensures.seeded)

pub returns-in_err-outcome-clause-silent : goal.returns-in_err-outcome-clause-silent
returns-in_err-outcome-clause-silent g c =
    let p = err_from_is_err_and c.from_residual-in_err-outcome.result c.from_residual-in_err-outcome.ensures.1 in
    rw (p.1, p.2) (stop-silent c.in_err-outcome.field-0.0 _ refl)

pub returns-in-Ok-clause-writes : goal.returns-in-Ok-clause-writes
returns-in-Ok-clause-writes g c =
    let guest = c.args.guest.now in
    let files = g.S.Shelf.files c.args.shelf.now in
    let outcome = c.in_ok-outcome.outcome in
    let lost = (0 < guest.clones) × IsOneLost g.W.Wire.streak c.run_files.new.wires.items in
    text-then guest files (report_of outcome) (λ told. g.K.Sink.gone c.write_report.new.sink ≡ appended (g.K.Sink.gone c.args.sink.now) told)
    (over-gives lost guest files (λ load. IsGuestLoad guest load) c.in_ok-files.files shows (Ok outcome) c.in_ok-files.ensures.gives
    (family-made report report_of outcome-report lost guest c.in_ok-files.files (Ok outcome) c.in_ok-outcome.ensures.makes))
    c.in-Ok.ensures.ok

pub returns-clause-writes : goal.returns-clause-writes
returns-clause-writes g c =
    let guest = c.args.guest.now in
    let files = g.S.Shelf.files c.args.shelf.now in
    let outcome = c.in_ok-outcome.outcome in
    let lost = (0 < guest.clones) × IsOneLost g.W.Wire.streak c.run_files.new.wires.items in (
      c.in-Err-Sink.ensures.sink,
      text-then guest files (report_of outcome) (IsPrefixGone (g.K.Sink.gone c.args.sink.now) (g.K.Sink.gone c.write_report.new.sink))
          (over-gives lost guest files (λ load. IsGuestLoad guest load) c.in_ok-files.files shows (Ok outcome) c.in_ok-files.ensures.gives
          (family-made report report_of outcome-report lost guest c.in_ok-files.files (Ok outcome) c.in_ok-outcome.ensures.makes))
          c.write_report.ensures.prefix,
    )

pub returns-in_err-files-clause-loads : goal.returns-in_err-files-clause-loads
returns-in_err-files-clause-loads g c =
    let p = err_from_is_err_and c.from_residual.result c.from_residual.ensures.1 in
    rw (p.1, p.2) c.in_err-files.ensures.asked

pub returns-in_err-files-clause-untouched : goal.returns-in_err-files-clause-untouched
returns-in_err-files-clause-untouched g c =
    let p = err_from_is_err_and c.from_residual.result c.from_residual.ensures.1 in
    rw (p.1, p.2) (before-all c.in_err-files.field-0.0 _ refl)

pub returns-in_err-outcome-clause-loads : goal.returns-in_err-outcome-clause-loads
returns-in_err-outcome-clause-loads g c =
    let guest = c.args.guest.now in
    let files = c.in_ok-files.files in
    let lost = (0 < guest.clones) × IsOneLost g.W.Wire.streak c.run_files.new.wires.items in
    let stop = c.in_err-outcome.field-0.0 in
    let p = err_from_is_err_and c.from_residual-in_err-outcome.result c.from_residual-in_err-outcome.ensures.1 in
    rw (p.1, p.2)
    (made-all (guest_loads guest) stop _ _ (run-late lost guest files (HasLines guest files) stop c.in_err-outcome.ensures.makes) (to-all guest)
    c.in_ok-files.ensures.asked)

pub returns-in_err-outcome-clause-untouched : goal.returns-in_err-outcome-clause-untouched
returns-in_err-outcome-clause-untouched g c =
    let p = err_from_is_err_and c.from_residual-in_err-outcome.result c.from_residual-in_err-outcome.ensures.1 in
    rw (p.1, p.2) c.in_err-outcome.ensures.untouched

pub returns-clause-loads : goal.returns-clause-loads
returns-clause-loads g c = made-all (guest_loads c.args.guest.now) WriteFault _ _ refl (to-all c.args.guest.now) c.in_ok-files.ensures.asked
