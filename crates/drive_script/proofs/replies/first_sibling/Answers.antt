use Rattle.std.proofs.Common.{option_map, sym, ap, ◌∙◌}
use Rattle.drive_script.specs.Driven.{first_of}
use Rattle.drive_script.proofs.Sending.{first-sibling, siblings-root}
use Rattle.drive_script.proofs.replies.first_sibling.Goals as goal

pub returns-in_default : goal.returns-in_default
returns-in_default c =
    sym (ap (option_map first_of) (siblings-root c.args.name.now (sym c.in_ok-parent.ensures ∙ c.in_default.ensures.0)))

pub returns : goal.returns
returns c =
    first-sibling c.args.name.now c.pop.new.self c.in_ok-child.field-0 c.in-Some.ticket c.in-Some.field-0-1
    (sym c.in_ok-parent.ensures ∙ c.in-Some.ensures) c.in_ok-child.ensures
