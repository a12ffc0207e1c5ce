use Rattle.std.proofs.Common.{◌≡◌, ◌≤◌, List, ℕ, length, sym, ap, ◌∙◌, subst, refl, arith}
use Rattle.vm_descriptor.specs.Descriptor.{numbered}
use Rattle.vm_descriptor.specs.Fields.{LineControl, number_in}
use Rattle.vm_descriptor.specs.Versions.{version_3}
use Rattle.vm_descriptor.specs.Described.{read_as}
use Rattle.vm_descriptor.proofs.Kept.{kept_line_control, kept_long}
use Rattle.vm_descriptor.proofs.seed.Seed.through_bytes.Goals as goal

pub with_fields-descriptor-requires : goal.with_fields-descriptor-requires
with_fields-descriptor-requires c =
    let own = c.self.inside.bytes.items in
    let kept = c.self.invariant.kept in
    let same : own ≡ c.deref.result.now = sym c.deref.ensures.value in
    record {
      known = record { fields = omega arith; few = omega arith; entries = refl; least = omega arith; most = omega arith };
      whole = subst (λ (xs : List ℕ). 816 ≤ length xs) same (kept_long own kept);
      line_control = subst (λ (xs : List ℕ). number_in xs LineControl ≤ 255) same (kept_line_control own kept);
      map = c.in_ok-blank.ensures ∙ ap (λ d. d.blank) (sym c.self.view_is) ∙ ap (λ (xs : List ℕ). (read_as version_3 xs).blank) same;
    }

pub returns : goal.returns
returns c = ap (numbered c.args.clone_id) (c.with_fields-descriptor.ensures ∙ ap (read_as version_3) c.deref.ensures.value ∙ c.self.view_is)
