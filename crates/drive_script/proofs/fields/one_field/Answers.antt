use Rattle.std.proofs.Common.{sym}
use Rattle.drive_script.proofs.OneByOne.{one-of-two}
use Rattle.drive_script.proofs.fields.one_field.Goals as goal

pub returns-in-Some : goal.returns-in-Some
returns-in-Some c =
    let cut = rw c.in-Some.is at c.cut.ensures.parts in
    rw c.in_ok-fields.was (sym (one-of-two c.cut.result.0.now c.in-Some.field-0.now _ cut))
