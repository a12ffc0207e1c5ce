-- Wires that are lost: they have given no reply for the longest time that is counted.
use Rattle.std.specs.Prelude.{◌≡◌, ◌⊎◌, ℕ, List, [], ◌∷◌}
use Rattle.wire_fates.specs.declared.fate.TheConstants.{LONGEST_STREAK}

abbrev pub IsLost : {W : Type 0} → (W → ℕ) → W → Type 0
IsLost streak wire = streak wire ≡ LONGEST_STREAK

-- one of these wires is lost
abbrev pub IsOneLost : {W : Type 0} → (W → ℕ) → List W → Type 0
IsOneLost streak [] = ⊥
IsOneLost streak (wire ∷ wires) = IsLost streak wire ⊎ IsOneLost streak wires
