-- The place of an address, by the first range that has it.
use Rattle.std.proofs.Common.{◌≡◌, ℕ, ◌+◌, ◌-◌, Bool, true, false, cond, List, [], ◌∷◌, refl, arith}
use Rattle.std.proofs.lemmas.Bool.Decides.{nat_tests}
use Rattle.port_map.specs.declared.Place.{Place}
use Rattle.port_map.specs.declared.Place.TheVariants.{NoPort}
use Rattle.port_map.specs.Ranges.{Range, is_within, place_in}
use Rattle.port_map.specs.Bus.{IsAt, place_of, ranges}

-- ---- what `place_of` tests one after the other

pub first_place : (r : Range) (rest : List Range) (address : ℕ) (place : Place) → is_within r.base r.size address ≡ true → place ≡ r.place (address - r.base)
    → place ≡ place_in (r ∷ rest) address
unfolding place_in
first_place r rest address place inside is = rw inside is

pub later_place : (r : Range) (rest : List Range) (address : ℕ) (place : Place) → is_within r.base r.size address ≡ false → place ≡ place_in rest address
    → place ≡ place_in (r ∷ rest) address
unfolding place_in
later_place r rest address place outside is = rw outside is

pub no_place : (address : ℕ) → NoPort ≡ place_in [] address
unfolding place_in
no_place address = refl

-- ---- each address is that of its place

-- the places of these ranges are at their addresses
abbrev AreAt : List Range → Type 0
AreAt [] = Unit {0}
AreAt (r ∷ rest) = ((address offset : ℕ) → address ≡ r.base + offset → IsAt address (r.place offset)) × AreAt rest

chosen : (P : Place → Type 0) (b : Bool) (one other : Place) → (b ≡ true → P one) → P other → P (cond b one other)
chosen P true one other here there = here refl
chosen P false one other here there = there

at-place_in : (rs : List Range) → AreAt rs → (address : ℕ) → IsAt address (place_in rs address)
unfolding place_in
at-place_in [] at address = tt
at-place_in (r ∷ rest) at address =
    chosen (IsAt address) (is_within r.base r.size address) (r.place (address - r.base)) (place_in rest address)
    (λ inside. at.0 address (address - r.base) (grind (arith, nat_tests, inside))) (at-place_in rest at.1 address)

ranges-at : AreAt ranges
ranges-at = search depth 20

pub at-place : (address : ℕ) → IsAt address (place_of address)
at-place address = at-place_in ranges ranges-at address
