use Rattle.std.proofs.Common.{◌≡◌, ℕ, List, ◌∙◌, ap, subst}
use Rattle.std.specs.Fmt.{HasWritten}
use Rattle.std.specs.Prelude.{string_bytes}
use Rattle.machine_names.specs.Name.{name_text}
use Rattle.drive_script.specs.NameTexts.{path_of}
use Rattle.drive_script.proofs.WrittenNames.{name-spelled}
use Rattle.drive_script.proofs.name.NameTextDisplay.fmt.Goals as goal

pub returns-clause-writes : goal.returns-clause-writes
returns-clause-writes g c plain ok =
    let bytes = string_bytes c.self.inside.text in
    let text : c.as_str.result.now ≡ name_text c.args.self.now =
    c.as_str.ensures.value ∙ (name-spelled bytes (path_of bytes) c.self.invariant.is_name).0 ∙ ap name_text c.self.view_is in
    subst (λ (bs : List ℕ). HasWritten g.W.Write.write_str_gives c.args.f.now bs c.write_str.new.self) text (c.write_str.ensures.writes plain ok)
