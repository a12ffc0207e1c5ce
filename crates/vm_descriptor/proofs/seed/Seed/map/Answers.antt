use Rattle.std.proofs.Common.{◌≤◌, List, ℕ, length, sym, ap, ◌∙◌, subst, refl, arith}
use Rattle.std.proofs.lemmas.Result.{IfOk-weaker}
use Rattle.vm_descriptor.specs.Versions.{version_3}
use Rattle.vm_descriptor.specs.Described.{read_as}
use Rattle.vm_descriptor.proofs.Kept.{kept_long}
use Rattle.vm_descriptor.proofs.seed.Seed.map.Goals as goal

pub map_behind-requires : goal.map_behind-requires
map_behind-requires c = record {
  known = record { fields = omega arith; few = omega arith; entries = refl; least = omega arith; most = omega arith };
  whole = subst (λ (xs : List ℕ). 816 ≤ length xs) (sym c.deref.ensures.value) (kept_long c.self.inside.bytes.items c.self.invariant.kept);
}

pub returns-in_ok-share-in-Some : goal.returns-in_ok-share-in-Some
returns-in_ok-share-in-Some c =
    c.from_table.ensures ∙ c.in_ok-share-in-Some.ensures ∙ c.self.invariant.shared c.in-Some.table c.in-Some.is ∙ ap (λ d. d.blank) c.self.view_is

pub returns-in-None : goal.returns-in-None
returns-in-None c =
    IfOk-weaker c.map_behind.result _ _ (λ map is. is ∙ ap (λ (xs : List ℕ). (read_as version_3 xs).blank) c.deref.ensures.value ∙ ap (λ d. d.blank) c.self.view_is)
    c.map_behind.ensures
