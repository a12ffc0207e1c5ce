use Rattle.std.proofs.Common.{rules, ◌≡◌, ◌<◌, ℕ, None, Some, ap, sym, subst, ◌∙◌, arith}
use Rattle.std.specs.Prelude.{Bool, if◌then◌else◌, Option}
use Rattle.std.proofs.Math.ListN.{get_or}
use Rattle.std.proofs.lemmas.Result.{err_from_is_err_and}
use Rattle.vm_descriptor.specs.declared.descriptor.Descriptor.{Descriptor}
use Rattle.vm_descriptor.specs.Described.{IsSpelling, refused}
use Rattle.vm_descriptor.specs.Descriptor.{IsInRange}
use Rattle.vm_descriptor.specs.Fields.{number_in}
use Rattle.vm_descriptor.proofs.Accepted.{accepted, in_range}
use Rattle.vm_descriptor.proofs.DecodedInRange.{decoded_in_range}
use Rattle.vm_descriptor.proofs.Decoding.{few_flags, given_unless_refused, refused_by_form}
use Rattle.vm_descriptor.proofs.Marks.{accepted_spelled, read_by_version, spelling_read, spelling_taken}
use Rattle.vm_descriptor.proofs.descriptor.Descriptor.decode.Goals as goal

pub returns-in_err-version-clause-taken : goal.returns-in_err-version-clause-taken
returns-in_err-version-clause-taken c d fits range is =
    let p = err_from_is_err_and c.from_residual.result c.from_residual.ensures.1 in
    rw (p.1, p.2) (given_unless_refused (λ (found : Descriptor). found ≡ d) c.args.bytes.now _ (spelling_taken d fits range c.args.bytes.now is) c.in_err-version.ensures.refused)

pub returns-in_err-version-clause-refuses : goal.returns-in_err-version-clause-refuses
returns-in_err-version-clause-refuses c =
    let p = err_from_is_err_and c.from_residual.result c.from_residual.ensures.1 in
    rw (p.1, p.2) c.in_err-version.ensures.refused

pub read_fields-requires-clause-whole : goal.read_fields-requires-clause-whole
read_fields-requires-clause-whole c = (accepted c.in_ok-version.version.now c.args.bytes.now c.in_ok-version.ensures.readable.unread).long

pub read_fields-requires-clause-line_control : goal.read_fields-requires-clause-line_control
read_fields-requires-clause-line_control c =
    (in_range (number_in c.args.bytes.now) (accepted c.in_ok-version.version.now c.args.bytes.now c.in_ok-version.ensures.readable.unread).fields).line_control

pub split_at-requires : goal.split_at-requires
split_at-requires c =
    let long = (accepted c.in_ok-version.version.now c.args.bytes.now c.in_ok-version.ensures.readable.unread).long in
    omega (arith, long)

pub is_due-requires : goal.is_due-requires
is_due-requires c =
    let bytes = c.args.bytes.now in
    let are : (i : ℕ) → get_or bytes i 0 < 256 = λ i. let fits = c.type_inv.bytes i in search rules in
    few_flags bytes are c.in_ok-version.version.now c.in_ok-version.ensures.readable c.in_ok-descriptor.descriptor.blank
    (ap (λ (d : Descriptor). d.blank) c.in_ok-descriptor.ensures)

pub returns-then-not-due-clause-refuses : goal.returns-then-not-due-clause-refuses
returns-then-not-due-clause-refuses c =
    let bytes = c.args.bytes.now in
    let version = c.in_ok-version.version.now in
    let are : (i : ℕ) → get_or bytes i 0 < 256 = λ i. let fits = c.type_inv.bytes i in search rules in
    refused_by_form bytes are version c.in_ok-version.ensures.readable c.split_at.result.1.now c.in_ok-descriptor.descriptor.blank c.in_ok-due.due
    c.split_at.ensures.back (ap (λ (d : Descriptor). d.blank) c.in_ok-descriptor.ensures) c.in_ok-due.ensures
    ∙ ap (λ (due : Bool). let found : Option ℕ = if due then None else Some 7 in found) c.if-not-due.true

pub returns-then-not-due-clause-taken : goal.returns-then-not-due-clause-taken
returns-then-not-due-clause-taken c d fits range is =
    let bytes = c.args.bytes.now in
    let version = c.in_ok-version.version.now in
    let are : (i : ℕ) → get_or bytes i 0 < 256 = λ i. let fits = c.type_inv.bytes i in search rules in
    let seven : refused bytes ≡ Some 7 =
    refused_by_form bytes are version c.in_ok-version.ensures.readable c.split_at.result.1.now c.in_ok-descriptor.descriptor.blank c.in_ok-due.due
    c.split_at.ensures.back (ap (λ (d : Descriptor). d.blank) c.in_ok-descriptor.ensures) c.in_ok-due.ensures
    ∙ ap (λ (due : Bool). let found : Option ℕ = if due then None else Some 7 in found) c.if-not-due.true in
    let none : refused bytes ≡ None = spelling_taken d fits range bytes is in
    cc

pub returns-clause-accepts : goal.returns-clause-accepts
returns-clause-accepts c =
    let bytes = c.args.bytes.now in
    let version = c.in_ok-version.version.now in
    let are : (i : ℕ) → get_or bytes i 0 < 256 = λ i. let fits = c.type_inv.bytes i in search rules in
    refused_by_form bytes are version c.in_ok-version.ensures.readable c.split_at.result.1.now c.in_ok-descriptor.descriptor.blank c.in_ok-due.due
    c.split_at.ensures.back (ap (λ (d : Descriptor). d.blank) c.in_ok-descriptor.ensures) c.in_ok-due.ensures
    ∙ ap (λ (due : Bool). let found : Option ℕ = if due then None else Some 7 in found) c.if-not-due.false

pub returns-clause-reads : goal.returns-clause-reads
returns-clause-reads c = c.in_ok-descriptor.ensures ∙ sym (read_by_version c.args.bytes.now c.in_ok-version.version.now c.in_ok-version.ensures.readable)

pub returns-clause-spelled : goal.returns-clause-spelled
returns-clause-spelled c =
    let bytes = c.args.bytes.now in
    let are : (i : ℕ) → get_or bytes i 0 < 256 = λ i. let fits = c.type_inv.bytes i in search rules in
    subst (λ (d : Descriptor). IsSpelling d bytes)
    (sym (c.in_ok-descriptor.ensures ∙ sym (read_by_version bytes c.in_ok-version.version.now c.in_ok-version.ensures.readable)))
    (accepted_spelled bytes are (returns-clause-accepts c))

pub returns-clause-in_range : goal.returns-clause-in_range
returns-clause-in_range c =
    let bytes = c.args.bytes.now in
    let are : (i : ℕ) → get_or bytes i 0 < 256 = λ i. let fits = c.type_inv.bytes i in search rules in
    subst IsInRange (sym c.in_ok-descriptor.ensures) (decoded_in_range c.in_ok-version.version.now bytes are c.in_ok-version.ensures.readable)

pub returns-clause-taken : goal.returns-clause-taken
returns-clause-taken c d fits range is =
    c.in_ok-descriptor.ensures ∙ sym (read_by_version c.args.bytes.now c.in_ok-version.version.now c.in_ok-version.ensures.readable)
    ∙ spelling_read d fits c.args.bytes.now is
