use Rattle.std.proofs.Common.{◌≡◌, ap, ◌∙◌, arith}
use Rattle.std.specs.Prelude.{Bool, if◌then◌else◌}
use Rattle.vm_descriptor.proofs.refusal.unread.Goals as goal

pub are_entries-requires : goal.are_entries-requires
are_entries-requires c = λ has.
    let enough : c.args.version.now.fields ≡ 816 = c.requires.known.entries ∙ ap (λ (b : Bool). if b then 816 else 776) has in
    omega (arith, enough)
