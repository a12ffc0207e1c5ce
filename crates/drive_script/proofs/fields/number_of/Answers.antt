use Rattle.std.proofs.Common.{◌∙◌, sym}
use Rattle.drive_script.proofs.Numbers.{decimal-utf8, number-read}
use Rattle.drive_script.proofs.fields.number_of.Goals as goal

pub returns-in-Err : goal.returns-in-Err
returns-in-Err c =
    absurd (c.in-Err.ensures.cases.0 (decimal-utf8 c.args.text.now (sym c.is_decimal.ensures ∙ c.if-not-is_decimal.false)))

pub returns-in-Ok : goal.returns-in-Ok
returns-in-Ok c =
    c.ok.ensures.value
    ∙ number-read c.args.text.now c.parse.result (sym c.is_decimal.ensures ∙ c.if-not-is_decimal.false) (rw c.in-Ok.ensures.cases.0 at c.parse.ensures.value.0)
