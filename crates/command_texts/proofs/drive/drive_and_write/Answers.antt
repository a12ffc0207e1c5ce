use Rattle.std.proofs.Common.{refl}
use Rattle.std.proofs.lemmas.Result.{err_from_is_err_and}
use Rattle.command_line.specs.Words.{drive}
use Rattle.guest_files.specs.Parts.{loads_of}
use Rattle.guest_files.specs.declared.stop.Stop.TheVariants.{WriteFault}
use Rattle.guest_files.proofs.PartLemmas.{all-loads, made-all}
use Rattle.command_texts.proofs.drive.drive_and_write.Goals as goal

pub returns-in_err-text-clause-loads : goal.returns-in_err-text-clause-loads
returns-in_err-text-clause-loads g c =
    let p = err_from_is_err_and c.from_residual.result c.from_residual.ensures.1 in
    rw (p.1, p.2) c.in_err-text.ensures.loads

pub returns-clause-loads : goal.returns-clause-loads
returns-clause-loads g c =
    let command = drive c.args.guest.now c.args.script.now in
    made-all (loads_of command) WriteFault _ _ refl (all-loads command) c.in_ok-text.ensures.loads
