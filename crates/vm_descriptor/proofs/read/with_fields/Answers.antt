use Rattle.std.proofs.Common.{rules, ◌≡◌, ap, ◌∙◌, arith}
use Rattle.std.specs.Prelude.{Bool, if◌then◌else◌}
use Rattle.vm_descriptor.proofs.FieldsRead.{all_read, line_control_read}
use Rattle.vm_descriptor.proofs.read.with_fields.Goals as goal

pub overflow_cast-result : goal.overflow_cast-result
overflow_cast-result c =
    let is = line_control_read c.words_at-2.result c.args.bytes.now c.words_at-2.ensures in
    let most = c.requires.line_control in
    search rules

pub returns : goal.returns
returns c =
    all_read c.args.version.now c.args.bytes.now c.words_at.result c.doubles_at.result c.words_at-2.result c.words_at-3.result c.csrs_at.result c.reservation_in.result c.status_in.result
    c.buffer_in.result c.args.blank c.words_at.ensures c.doubles_at.ensures c.words_at-2.ensures c.entries_in.result c.words_at-3.ensures c.csrs_at.ensures
    c.entries_in.ensures c.reservation_in.ensures c.status_in.ensures c.buffer_in.ensures c.requires.map

pub entries_in-requires : goal.entries_in-requires
entries_in-requires c = λ has.
    let enough : c.args.version.now.fields ≡ 816 = c.requires.known.entries ∙ ap (λ (b : Bool). if b then 816 else 776) has in
    omega (arith, enough)
