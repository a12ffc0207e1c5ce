use Rattle.std.proofs.Common.{◌∙◌, sym, ap, Some}
use Rattle.drive_script.proofs.Numbers.{address-read, address-refused}
use Rattle.drive_script.proofs.fields.address_of.Goals as goal

pub returns-in-Ok : goal.returns-in-Ok
returns-in-Ok c = ap Some c.from_be_bytes.ensures ∙ address-read c.args.text.now c.in-Ok.bytes (sym c.in-Ok.ensures)

pub returns-in-Err : goal.returns-in-Err
returns-in-Err c = address-refused c.args.text.now c.in-Err.field-0 (sym c.in-Err.ensures)
