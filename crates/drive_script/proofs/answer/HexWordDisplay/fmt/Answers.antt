use Rattle.std.proofs.Common.{List, ℕ, sym, ap, ◌∙◌, subst}
use Rattle.std.specs.Fmt.{HasWritten}
use Rattle.std.specs.Str.{IsUtf8}
use Rattle.hex.specs.Hex.{encode_lower}
use Rattle.drive_script.proofs.Digits.{hex-is-text, word-digits}
use Rattle.drive_script.proofs.answer.HexWordDisplay.fmt.Goals as goal

pub unreachable-requires-in_default-from_utf8 : goal.unreachable-requires-in_default-from_utf8
unreachable-requires-in_default-from_utf8 g c =
    c.in_default-from_utf8.ensures.cases.0 (subst IsUtf8 (sym c.in-Ok.ensures.written) (hex-is-text c.to_be_bytes.result))

pub returns-clause-writes : goal.returns-clause-writes
returns-clause-writes g c plain ok =
    let text = c.in-Ok-from_utf8.ensures.cases.0 ∙ c.in-Ok.ensures.written ∙ ap encode_lower c.to_be_bytes.ensures ∙ word-digits c.args.self.now.0 in
    subst (λ (bs : List ℕ). HasWritten g.W.Write.write_str_gives c.args.f.now bs c.write_str.new.self) text (c.write_str.ensures.writes plain ok)
