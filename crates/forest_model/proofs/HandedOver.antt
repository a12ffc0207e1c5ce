-- Bytes that a machine hands over as it ends.
use Rattle.std.proofs.Common.{◌≡◌, ℕ, ◌+◌, ◌-◌, ◌<◌, ◌≤◌, ◌⊎◌, ◌&&◌, ◌||◌, inl, inr, Bool, true, false, cond, eqb, leb, []}
use Rattle.std.proofs.Common.{◌∷◌, length, drop, get_or, length-drop, refl, sym, ap, ◌∙◌, subst, arith, leb-true, eqb-true}
use Rattle.std.specs.List.{Contains}
use Rattle.std.proofs.lemmas.Bool.{and_parts}
use Rattle.std.proofs.lemmas.Bool.Decides.{nat_tests, leb_tells}
use Rattle.std.proofs.lemmas.List.{get_or-drop, get_or-take, length-take-le}
use Rattle.elf_load.specs.declared.image.TheConstants.{RAM_BASE}
use Rattle.fork_port.specs.declared.commands.Effect.TheVariants.{ExitWith}
use Rattle.fork_port.specs.declared.handed.TheConstants.{MAX_HANDED}
use Rattle.fork_port.specs.declared.refusals.TheConstants.{BAD_ARGUMENT}
use Rattle.fork_port.specs.Registers.{refused}
use Rattle.forest_model.specs.declared.Written.TheVariants.{Nothing}
use Rattle.forest_model.specs.State.{State}
use Rattle.forest_model.specs.Access.{page_of}
use Rattle.forest_model.specs.Action.{exit, retire}
use Rattle.forest_model.specs.Memory.{alone, bytes_at, handing_over, is_byte_range, outcome, with_fork}

-- bytes of RAM begin in it and end in it, if there are any
pub from-base : (address count size : ℕ) → eqb count 0 ≡ false → (eqb count 0) || (leb RAM_BASE address && leb (address + count) (RAM_BASE + size)) ≡ true
    → (RAM_BASE ≤ address) × (address + count ≤ RAM_BASE + size)
from-base address count size some h =
    let both : leb RAM_BASE address && leb (address + count) (RAM_BASE + size) ≡ true =
    subst (λ (b : Bool). b || (leb RAM_BASE address && leb (address + count) (RAM_BASE + size)) ≡ true) some h in
    let parts = and_parts (leb RAM_BASE address) (leb (address + count) (RAM_BASE + size)) both in
    (leb-true RAM_BASE address parts.0, leb-true (address + count) (RAM_BASE + size) parts.1)

pub fits : (none : Bool) (address count size : ℕ) → eqb count 0 ≡ none → (eqb count 0) || (leb RAM_BASE address && leb (address + count) (RAM_BASE + size)) ≡ true
    → count ≤ size - (address - RAM_BASE)
fits true address count size e h = let is : count ≡ 0 = eqb-true count 0 e in omega arith
fits false address count size e h = let both = from-base address count size e h in omega (arith, both.0, both.1)

-- each of these bytes lies in the page of the first or in that of the last
pub page-of-either : (address count k : ℕ) → RAM_BASE ≤ address → count ≤ MAX_HANDED → k < count
    → (page_of (address + k) ≡ page_of address) ⊎ (page_of (address + k) ≡ page_of (address + (count - 1)))
page-of-either address count k from few below = elim (leb_tells (page_of (address + k)) (page_of address)) [
  | inl first ↦ inl (omega (arith, first.1))
  | inr other ↦ inr (omega (arith, other.1))
]

module _ (s : State) where
  pub handed-action : (value address count : ℕ) → is_byte_range address count s.ram ≡ true
      → (outcome (ExitWith value address count) s).action ≡ exit value (bytes_at address count s) s
  handed-action value address count e = ap (λ b. (handing_over b value address count s).action) e

  pub handed-refused : (value address count : ℕ) → is_byte_range address count s.ram ≡ false
      → outcome (ExitWith value address count) s ≡ alone (retire Nothing (with_fork (refused s.ports.fork BAD_ARGUMENT) s))
  handed-refused value address count e = ap (λ b. handing_over b value address count s) e

  pub handed-size : (address count : ℕ) → is_byte_range address count s.ram ≡ true → length (bytes_at address count s) ≡ count
  handed-size address count e =
      let room : count ≤ length s.ram - (address - RAM_BASE) = fits (eqb count 0) address count (length s.ram) refl e in
      length-take-le count (drop (address - RAM_BASE) s.ram) (simp length-drop room)

  pub handed-bytes : (address count k : ℕ) → is_byte_range address count s.ram ≡ true → k < count
      → get_or (bytes_at address count s) k 0 ≡ get_or s.ram (address + k - RAM_BASE) 0
  handed-bytes address count k e below =
      let some : eqb count 0 ≡ false = grind (arith, nat_tests) in
      let both = from-base address count (length s.ram) some e in
      get_or-take count (drop (address - RAM_BASE) s.ram) k 0 below
      ∙ get_or-drop (address - RAM_BASE) s.ram k 0
      ∙ ap (λ at. get_or s.ram at 0) (omega (arith, both.0))

  pub handed-pages : (value address count k : ℕ) → is_byte_range address count s.ram ≡ true → count ≤ MAX_HANDED → k < count
      → Contains (outcome (ExitWith value address count) s).footprint.needs (page_of (address + k))
  handed-pages value address count k e few below =
      let some : eqb count 0 ≡ false = grind (arith, nat_tests) in
      let both = from-base address count (length s.ram) some e in
      let page : ℕ = page_of (address + k) in
      let listed : Contains (page_of address ∷ page_of (address + (count - 1)) ∷ []) page =
      elim (page-of-either address count k both.0 few below) [
        | inl first ↦ (0, omega arith, sym first)
        | inr last ↦ (1, omega arith, sym last)
      ] in
      subst (λ (b : Bool). Contains (handing_over b value address count s).footprint.needs page) (sym e)
      (subst (λ (b : Bool). Contains (cond b [] (page_of address ∷ page_of (address + (count - 1)) ∷ [])) page) (sym some) listed)
