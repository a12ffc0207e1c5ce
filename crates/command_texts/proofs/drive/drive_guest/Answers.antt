use Rattle.std.proofs.Common.{inl, inr, [], ◌∷◌, refl, sym}
use Rattle.std.proofs.lemmas.List.{append-nil}
use Rattle.std.proofs.lemmas.Result.{err_from_is_err_and}
use Rattle.guest_files.specs.declared.stop.TheConstants.{SCRIPT_LOAD, SCRIPT_TOO_LONG}
use Rattle.guest_files.specs.declared.stop.Stop.TheVariants.{ScriptRefused}
use Rattle.command_line.specs.Words.{drive}
use Rattle.guest_files.specs.Parts.{guest_loads, load_of, loads_of}
use Rattle.guest_files.proofs.PartLemmas.{all-loads, asked-both, rises, fault-before, fault-after, made-to, until-script}
use Rattle.command_texts.proofs.Late.{drive-late, made-late}
use Rattle.command_texts.proofs.TextLemmas.{drive-stops, script-stops, drive-gives}
use Rattle.command_texts.proofs.drive.drive_guest.Goals as goal

pub returns-in_err-files-clause-gives : goal.returns-in_err-files-clause-gives
returns-in_err-files-clause-gives g c =
    let start = g.S.Shelf.asked c.args.shelf.now in
    let with_guest = g.S.Shelf.asked c.read_guest.new.shelf in
    let p = err_from_is_err_and c.from_residual.result c.from_residual.ensures.1 in
    rw (p.1, p.2)
    (drive-stops c.args.guest.now c.args.script.now (g.S.Shelf.files c.args.shelf.now) _ _ c.in_err-files.field-0.0
    (λ load was. (inl was.0, was.1, fault-before (guest_loads c.args.guest.now) (load_of SCRIPT_LOAD c.args.script.now ∷ []) load start with_guest was.2)) c.in_err-files.ensures.gives)

pub returns-in_err-text-clause-gives : goal.returns-in_err-text-clause-gives
returns-in_err-text-clause-gives g c =
    let start = g.S.Shelf.asked c.args.shelf.now in
    let with_guest = g.S.Shelf.asked c.read_guest.new.shelf in
    let with_script = g.S.Shelf.asked c.load_script.new.shelf in
    let p = err_from_is_err_and c.from_residual-in_err-text.result c.from_residual-in_err-text.ensures.1 in
    rw (p.1, p.2)
    (script-stops c.args.guest.now c.args.script.now (g.S.Shelf.files c.args.shelf.now) (g.S.Shelf.files c.read_guest.new.shelf) c.in_ok-files.files _ _
    c.in_err-text.field-0.0 c.in_ok-files.ensures.same c.in_ok-files.ensures.gives
    (λ load was. (
      inr was.0,
      rises _ _ _ c.in_ok-files.ensures.counts was.1,
      fault-after (guest_loads c.args.guest.now) (load_of SCRIPT_LOAD c.args.script.now ∷ []) load start with_guest with_script c.in_ok-files.ensures.asked was.2,
    ))
    c.in_err-text.ensures.gives)

pub returns-clause-gives : goal.returns-clause-gives
returns-clause-gives g c =
    drive-gives c.args.guest.now c.args.script.now (g.S.Shelf.files c.args.shelf.now) (g.S.Shelf.files c.read_guest.new.shelf) _ c.in_ok-files.files
    c.deref.result.now _ c.drive_files.result c.in_ok-files.ensures.same c.in_ok-files.ensures.gives
    (rw c.deref.ensures.value c.in_ok-text.ensures.gives) c.drive_files.ensures

pub returns-in_err-files-clause-loads : goal.returns-in_err-files-clause-loads
returns-in_err-files-clause-loads g c =
    let p = err_from_is_err_and c.from_residual.result c.from_residual.ensures.1 in
    rw (p.1, p.2)
    (until-script (guest_loads c.args.guest.now) c.args.script.now c.in_err-files.field-0.0 (g.S.Shelf.asked c.args.shelf.now) (g.S.Shelf.asked c.read_guest.new.shelf)
    c.in_err-files.ensures.asked c.in_err-files.ensures.stops)

pub returns-in_err-text-clause-loads : goal.returns-in_err-text-clause-loads
returns-in_err-text-clause-loads g c =
    let command = drive c.args.guest.now c.args.script.now in
    let start = g.S.Shelf.asked c.args.shelf.now in
    let with_script = g.S.Shelf.asked c.load_script.new.shelf in
    let p = err_from_is_err_and c.from_residual-in_err-text.result c.from_residual-in_err-text.ensures.1 in
    rw (p.1, p.2)
    (made-to (loads_of command) (loads_of command) [] SCRIPT_LOAD (ScriptRefused 0 SCRIPT_TOO_LONG) c.in_err-text.field-0.0 start with_script
    (sym (append-nil (loads_of command))) (all-loads command) refl c.in_err-text.ensures.stops
    (asked-both (guest_loads c.args.guest.now) (load_of SCRIPT_LOAD c.args.script.now ∷ []) start (g.S.Shelf.asked c.read_guest.new.shelf) with_script
    c.in_ok-files.ensures.asked c.in_err-text.ensures.asked))

pub returns-clause-loads : goal.returns-clause-loads
returns-clause-loads g c =
    let command = drive c.args.guest.now c.args.script.now in
    let start = g.S.Shelf.asked c.args.shelf.now in
    made-late (loads_of command) c.drive_files.result start (g.S.Shelf.asked c.load_script.new.shelf) (all-loads command)
    (drive-late c.args.guest.now c.in_ok-files.files c.deref.result.now _ c.drive_files.result c.drive_files.ensures)
    (asked-both (guest_loads c.args.guest.now) (load_of SCRIPT_LOAD c.args.script.now ∷ []) start
    (g.S.Shelf.asked c.read_guest.new.shelf) (g.S.Shelf.asked c.load_script.new.shelf)
    c.in_ok-files.ensures.asked c.in_ok-text.ensures.asked)
