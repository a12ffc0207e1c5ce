use Rattle.std.proofs.Common.{refl, arith}
use Rattle.guest_files.specs.Reads.{script_too_long}
use Rattle.command_texts.specs.Text.{script_read}
use Rattle.command_texts.proofs.drive.load_script.Goals as goal

pub returns-clause-gives : goal.returns-clause-gives
unfolding script_read
returns-clause-gives g c = c.load_file.ensures.gives script_too_long ((refl, refl), omega arith)
