-- Words of memory in a row, and the entries that match them.
use Rattle.std.proofs.Common.{◌≡◌, ℕ, ◌/◌, true, false, sym, ◌∙◌, arith, refl}
use Rattle.std.proofs.lemmas.Bool.{false_from_ne_true}
use Rattle.std.proofs.lemmas.Bool.Decides.{nat_tests}
use Rattle.guest_pmp.specs.declared.span.Span.{Span}
use Rattle.guest_pmp.specs.Regions.{Entry, has}
use Rattle.guest_pmp.specs.Spans.{HasAddress, IsOfEntry}
use Rattle.guest_pmp.proofs.Words.{has-word}

module _ (e : Entry) (region : Span) (address : ℕ) (is : IsOfEntry e region) where
  pub has-in : HasAddress region address → has address e ≡ true
  has-in inside = has-word e address (address / 4) refl ∙ grind (arith, nat_tests)

  has-is : has address e ≡ true → HasAddress region address
  has-is found = let tests = sym (has-word e address (address / 4) refl) ∙ found in (grind (arith, nat_tests), grind (arith, nat_tests))

  pub has-out : (HasAddress region address → ⊥) → has address e ≡ false
  has-out out = false_from_ne_true (has address e) (λ found. out (has-is found))
