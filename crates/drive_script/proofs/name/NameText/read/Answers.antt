use Rattle.drive_script.specs.NameTexts.{path_of}
use Rattle.drive_script.proofs.NameTexts.{is-text, name-utf8, no-text}
use Rattle.drive_script.proofs.name.NameText.read.Goals as goal

pub returns-in_default : goal.returns-in_default
returns-in_default c = no-text c.args.text.now c.in_default.ensures

pub unreachable-requires : goal.unreachable-requires
unreachable-requires c =
    let is = is-text c.args.text.now c.in-Some.depth c.in-Some.ensures in
    c.in_default-from_utf8.ensures.cases.0 (name-utf8 c.args.text.now (path_of c.args.text.now) is.is_name)
