use Rattle.std.proofs.Common.{◌∙◌, sym, rules, tests}
use Rattle.std.specs.Char.{is_ascii_digit}
use Rattle.std.proofs.lemmas.Iterator.{YieldsList-from_slice}
use Rattle.std.proofs.lemmas.Iterator.Search.{all_from_yields_List}
use Rattle.drive_script.proofs.Numbers.{decimal-rest}
use Rattle.drive_script.proofs.fields.is_decimal.Goals as goal

pub returns : goal.returns
returns c =
    let all = all_from_yields_List is_ascii_digit _ _ _ c.all.ensures.ran (YieldsList-from_slice c.args.text.now cc) (λ x b q k. search (rules, tests)) in
    all ∙ decimal-rest c.args.text.now (sym c.if-is_empty.ensures) (sym c.if-has_leading_zero.ensures)
