-- What the hart answers of an access is what the access comes to.
use Rattle.std.proofs.Common.{◌≡◌, ℕ, inl, inr, ◌-◌, ◌/◌, ◌%◌, ◌<◌, ◌≤◌, ◌||◌, Bool, true, false, cond, length, Some, refl, sym, ap, ◌∙◌, subst, arith}
use Rattle.std.specs.Option.{IfSome}
use Rattle.std.proofs.lemmas.Bool.{eqb-true}
use Rattle.elf_load.specs.declared.image.TheConstants.{RAM_BASE}
use Rattle.page_frames.specs.declared.page.TheConstants.{PAGE_SIZE}
use Rattle.rv_exec.specs.Memory.{IsWidth}
use Rattle.forest_model.specs.declared.access.Access.{Access}
use Rattle.forest_model.specs.Access.{fault_cause, faulted, of_ram, of_port, outside_ram, is_aligned, is_aligned_for, is_allowed, page_for, reached, uses}
use Rattle.forest_model.specs.State.{is_in_ram}
use Rattle.forest_model.proofs.Accesses.{reached-denied, reached-outside, reached-ram}
use Rattle.vm_hart.specs.Acts.{IsAlignedBy, IsOutside, Reaches}
use Rattle.vm_hart.specs.Keyed.{KeyedState, IsHere, IsAbsent}
use Rattle.vm_hart.specs.Placed.{IsPlaced}
use Rattle.vm_hart.specs.declared.hart.access.Reach.{Reach}
use Rattle.vm_hart.specs.declared.hart.access.Reach.TheVariants as reach

-- RAM begins at a multiple of each width
aligned_offset : (width address offset : ℕ) → IsWidth width → is_aligned address width ≡ true → RAM_BASE ≤ address → offset ≡ address - RAM_BASE
    → offset % width ≡ 0
aligned_offset width address offset widths aligned from place = by width widths (eqb-true (address % width) 0 aligned)
  where
    by : (n : ℕ) → IsWidth n → address % n ≡ 0 → offset % n ≡ 0
    by n (inl one) e = subst (λ m. offset % m ≡ 0) (sym one) (omega arith)
    by n (inr (inl two)) e =
        let even : address % 2 ≡ 0 = subst (λ m. address % m ≡ 0) two e in subst (λ m. offset % m ≡ 0) (sym two) (omega arith)
    by n (inr (inr four)) e =
        let whole : address % 4 ≡ 0 = subst (λ m. address % m ≡ 0) four e in subst (λ m. offset % m ≡ 0) (sym four) (omega arith)

pub aligned_at : (executes : Bool) (width address offset : ℕ) → IsWidth width → executes || is_aligned address width ≡ true → RAM_BASE ≤ address
    → offset ≡ address - RAM_BASE → IsAlignedBy executes offset width
aligned_at true width address offset widths aligned from place = tt
aligned_at false width address offset widths aligned from place = aligned_offset width address offset widths aligned from place

-- an access at an offset in RAM
pub is-placed :
    (h : KeyedState) (a : Access) (offset : ℕ) → IsWidth a.width → is_aligned_for a.direction a.address a.width ≡ true → is_allowed a h.state ≡ true
    → (is_in_ram h.state.ram a.address ≡ true) × (RAM_BASE ≤ a.address) × (offset ≡ a.address - RAM_BASE) × (offset < length h.state.ram) × (offset / PAGE_SIZE < length h.pages.blank)
    → IsPlaced h a offset
is-placed h a offset width aligned right there = record {
  aligned = aligned;
  allowed = right;
  in_ram = there.0;
  from_base = there.1;
  place = there.2;
  inside = there.3;
  page = there.4;
  aligned_offset = aligned_at (uses a.direction).executes a.width a.address offset width aligned there.1 there.2;
}

-- outside RAM what no port may have is refused whether it is allowed or not
same-cause : (of_ports : Bool) (fault cause : ℕ) → cond of_ports of_port (faulted fault) ≡ faulted cause → fault ≡ cause
same-cause true fault cause is = absurd (cc)
same-cause false fault cause is = cc

module _ (h : KeyedState) (a : Access) (aligned : is_aligned_for a.direction a.address a.width ≡ true) (outside : is_in_ram h.state.ram a.address ≡ false) where
  refused-by : (allowed : Bool) (cause : ℕ) → is_allowed a h.state ≡ allowed → outside_ram a.direction ≡ faulted cause → reached a h.state ≡ faulted cause
  refused-by true cause right is = reached-outside a h.state aligned right outside ∙ is
  refused-by false cause denied is =
      reached-denied a h.state aligned denied ∙ ap (λ c. faulted c) (same-cause (uses a.direction).of_ports (fault_cause a.direction) cause is)

  pub reaches-refused : (r : Reach) → IsOutside a.direction r → (r ≡ reach.Port → ⊥) → Reaches h a r
  reaches-refused (reach.Faulted cause) is other = refused-by (is_allowed a h.state) cause refl is
  reaches-refused (reach.Absent page) is other = absurd is
  reaches-refused (reach.Ram offset) is other = absurd is
  reaches-refused reach.Port is other = absurd (other refl)

module _ (h : KeyedState) (a : Access) (aligned : is_aligned_for a.direction a.address a.width ≡ true) (right : is_allowed a h.state ≡ true) where
  pub reaches-outside : (r : Reach) → is_in_ram h.state.ram a.address ≡ false → IsOutside a.direction r → Reaches h a r
  reaches-outside (reach.Faulted cause) outside is = reached-outside a h.state aligned right outside ∙ is
  reaches-outside (reach.Absent page) outside is = absurd is
  reaches-outside (reach.Ram offset) outside is = absurd is
  reaches-outside reach.Port outside is = reached-outside a h.state aligned right outside ∙ is

  module _ (offset : ℕ) (in_ram : is_in_ram h.state.ram a.address ≡ true) (place : offset ≡ a.address - RAM_BASE) where
    -- by the page at its offset
    reached-page : reached a h.state ≡ of_ram (page_for a.direction (offset / PAGE_SIZE))
    reached-page =
        reached-ram a h.state aligned right in_ram ∙ ap (λ at. of_ram (page_for a.direction (at / PAGE_SIZE))) (sym place)

    pub reaches-absent : (page : ℕ) → page ≡ offset / PAGE_SIZE → (page_for a.direction page ≡ Some page) × IsAbsent h.pages page
        → Reaches h a (reach.Absent page)
    reaches-absent page is absent = (
      reached-page ∙ ap (λ p. of_ram (page_for a.direction p)) (sym is) ∙ ap (λ needed. of_ram needed) absent.0,
      absent.1,
    )

    pub reaches-ram : (page : ℕ) → page ≡ offset / PAGE_SIZE → IsWidth a.width → RAM_BASE ≤ a.address → offset < length h.state.ram
        → IfSome (page_for a.direction page) (IsHere h.pages) → Reaches h a (reach.Ram offset)
    reaches-ram page is width from_base inside here = record {
      is = reached-page;
      here = subst (λ p. IfSome (page_for a.direction p) (IsHere h.pages)) is here;
      from_base = from_base;
      place = place;
      inside = inside;
      aligned = aligned_at (uses a.direction).executes a.width a.address offset width aligned from_base place;
    }

-- what does not reach a port
pub reaches-no-port : (h : KeyedState) (a : Access) (r : Reach) → Reaches h a r → (r ≡ reach.Port → ⊥) → reached a h.state ≡ of_port → ⊥
reaches-no-port h a (reach.Faulted cause) is other port = let both : faulted cause ≡ of_port = sym is ∙ port in cc
reaches-no-port h a (reach.Absent page) is other port = let both : of_ram (Some page) ≡ of_port = sym is.0 ∙ port in cc
reaches-no-port h a (reach.Ram offset) is other port = let both : of_ram (page_for a.direction (offset / PAGE_SIZE)) ≡ of_port = sym is.is ∙ port in cc
reaches-no-port h a reach.Port is other port = other refl
