-- Ranges of addresses, each of a port, and the place of an address in the first that has it.
use Rattle.std.specs.Prelude.{ℕ, ◌+◌, ◌-◌, ◌&&◌, Bool, nat_lt, nat_le, if◌then◌else◌, List, [], ◌∷◌}
use Rattle.port_map.specs.declared.Place.{Place}
use Rattle.port_map.specs.declared.Place.TheVariants.{NoPort}

abbrev pub is_within : ℕ → ℕ → ℕ → Bool
is_within base size address = nat_le base address && nat_lt address (base + size)

-- the addresses of a port, and the place of an offset there
pub record Range : Type 0 where
  pub base : ℕ
  pub size : ℕ
  pub place : ℕ → Place

-- the place of an address in the first of these ranges that has it
unfoldable pub place_in : List Range → ℕ → Place
place_in [] address = NoPort
place_in (range ∷ rest) address = if is_within range.base range.size address then range.place (address - range.base) else place_in rest address
