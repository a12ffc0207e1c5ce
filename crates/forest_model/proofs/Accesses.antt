-- What an access comes to: an access of RAM is aligned, is allowed and lies in RAM, and the page that it needs is its
-- own.
use Rattle.std.proofs.Common.{◌≡◌, ℕ, ◌*◌, ◌<◌, Bool, true, false, cond, List, length, Option, Some, None, refl, sym, ap, ◌∙◌, subst, arith}
use Rattle.std.specs.Option.{IfSome}
use Rattle.std.proofs.lemmas.Bool.Decides.{nat_tests}
use Rattle.page_frames.specs.declared.page.TheConstants.{PAGE_SIZE}
use Rattle.forest_model.specs.declared.access.Access.{Access}
use Rattle.forest_model.specs.State.{State, is_in_ram}
use Rattle.forest_model.specs.Access.{faulted, of_ram, of_port, uses, is_made, is_aligned_for, misaligned_cause, fault_cause}
use Rattle.forest_model.specs.Access.{is_allowed, outside_ram, page_of, page_for, reached_if, reached_by, reached}

pub record IsOfRam (a : Access) (s : State) (page : Option ℕ) : Type 0 where
  pub aligned : is_aligned_for a.direction a.address a.width ≡ true
  pub allowed : is_allowed a s ≡ true
  pub in_ram : is_in_ram s.ram a.address ≡ true
  pub needs : page ≡ page_for a.direction (page_of a.address)

not-outside : (of_ports : Bool) (cause : ℕ) (page : Option ℕ) {R : Type 0} → cond of_ports of_port (faulted cause) ≡ of_ram page → R
not-outside true cause page e = absurd (cc)
not-outside false cause page e = absurd (cc)

of_ram-in : (allowed in_ram : Bool) (a : Access) (s : State) (page : Option ℕ) → is_allowed a s ≡ allowed → is_in_ram s.ram a.address ≡ in_ram
    → is_aligned_for a.direction a.address a.width ≡ true → reached_if allowed in_ram a ≡ of_ram page → IsOfRam a s page
of_ram-in false in_ram a s page right e aligned is = absurd (cc)
of_ram-in true false a s page right e aligned is = not-outside (uses a.direction).of_ports (fault_cause a.direction) page is
of_ram-in true true a s page right e aligned is = record { aligned = aligned; allowed = right; in_ram = e; needs = cc }

of_ram-by : (aligned : Bool) (a : Access) (s : State) (page : Option ℕ) → is_aligned_for a.direction a.address a.width ≡ aligned
    → reached_by aligned a s ≡ of_ram page → IsOfRam a s page
of_ram-by false a s page e is = absurd (cc)
of_ram-by true a s page e is = of_ram-in (is_allowed a s) (is_in_ram s.ram a.address) a s page refl refl e is

pub of_ram-is : (a : Access) (s : State) (page : Option ℕ) → reached a s ≡ of_ram page → IsOfRam a s page
unfolding reached
of_ram-is a s page is = of_ram-by (is_aligned_for a.direction a.address a.width) a s page refl is

-- ---- what it comes to, by its tests

module _ (a : Access) (s : State) where
  pub reached-misaligned : is_aligned_for a.direction a.address a.width ≡ false → reached a s ≡ faulted (misaligned_cause a.direction)
  unfolding reached
  reached-misaligned e = ap (λ b. reached_by b a s) e

  -- by its alignment, whether it is allowed, and whether it is in RAM
  reached-if : (allowed in_ram : Bool) → is_aligned_for a.direction a.address a.width ≡ true → is_allowed a s ≡ allowed → is_in_ram s.ram a.address ≡ in_ram
      → reached a s ≡ reached_if allowed in_ram a
  unfolding reached
  reached-if allowed in_ram e right is =
      ap (λ b. reached_by b a s) e ∙ ap (λ b. reached_if b (is_in_ram s.ram a.address) a) right ∙ ap (λ b. reached_if allowed b a) is

  pub reached-denied : is_aligned_for a.direction a.address a.width ≡ true → is_allowed a s ≡ false → reached a s ≡ faulted (fault_cause a.direction)
  reached-denied e denied = reached-if false (is_in_ram s.ram a.address) e denied refl

  pub reached-outside : is_aligned_for a.direction a.address a.width ≡ true → is_allowed a s ≡ true → is_in_ram s.ram a.address ≡ false
      → reached a s ≡ outside_ram a.direction
  reached-outside e right outside = reached-if true false e right outside

  pub reached-ram : is_aligned_for a.direction a.address a.width ≡ true → is_allowed a s ≡ true → is_in_ram s.ram a.address ≡ true
      → reached a s ≡ of_ram (page_for a.direction (page_of a.address))
  reached-ram e right inside = reached-if true true e right inside

-- ---- the page that an access needs begins in RAM

pub page_of-begins : (ram : List ℕ) (address : ℕ) → is_in_ram ram address ≡ true → PAGE_SIZE * page_of address < length ram
page_of-begins ram address in_ram = grind (arith, nat_tests)

begins-if : (made : Bool) (ram : List ℕ) (address : ℕ) → is_in_ram ram address ≡ true
    → IfSome (cond made (Some (page_of address)) None) (λ page. PAGE_SIZE * page < length ram)
begins-if true ram address e = page_of-begins ram address e
begins-if false ram address e = tt

pub begins-for : (a : Access) (s : State) (page : Option ℕ) → reached a s ≡ of_ram page → IfSome page (λ p. PAGE_SIZE * p < length s.ram)
begins-for a s page e =
    let is = of_ram-is a s page e in
    subst (λ p. IfSome p (λ q. PAGE_SIZE * q < length s.ram)) (sym is.needs) (begins-if (is_made a.direction) s.ram a.address is.in_ram)
