-- Lists in which each entry is one of two, and how many steps it takes to make them.
use Rattle.std.specs.Prelude.{◌≡◌, ℕ, ◌+◌, ◌/◌, ◌%◌, Bool, true, false, not, List, [], ◌∷◌, ◌++◌, length, map, replicate, Option, is_some}
use Rattle.std.specs.List.{list_any}
use Rattle.std.specs.Option.{ForSome}
use Rattle.std.specs.Bool.{beq}
use Rattle.std.specs.Simd.{first_chunks}
use Rattle.shared_leaves.specs.declared.leaf.TheConstants.{LEAF_ENTRIES}

module _ {T : Type 0} (set unset : T) where
  -- the entry of a flag
  abbrev pub choice : Bool → T
  choice true = set
  choice false = unset

  -- the entries of flags
  abbrev pub chosen : List Bool → List T
  chosen flags = map choice flags

  -- the leaves of equal entries that are made
  abbrev pub AreMade : Option (List T) → Option (List T) → Type 0
  AreMade all_set all_unset = ForSome all_set (λ leaf. leaf ≡ replicate LEAF_ENTRIES set) × ForSome all_unset (λ leaf. leaf ≡ replicate LEAF_ENTRIES unset)

-- which leaves of equal entries are made: that of the first entry, and that of the other
pub record WhichMade : Type 0 where
  pub set : Bool
  pub unset : Bool

-- at first none is
abbrev pub no_leaf : WhichMade
no_leaf = record { set = false; unset = false }

abbrev pub which : {A : Type 0} → Option A → Option A → WhichMade
which all_set all_unset = record { set = is_some all_set; unset = is_some all_unset }

-- some flag of a leaf is this
abbrev pub has : Bool → List Bool → Bool
has flag piece = list_any (λ f. beq f flag) piece

-- a leaf of equal entries costs a handle, and its entries where it is not made yet
abbrev pub equal_steps : Bool → List Bool → ℕ
equal_steps true piece = 1
equal_steps false piece = length piece + 1

-- by whether some flag is set, and some is not
abbrev pub steps_by : Bool → Bool → List Bool → WhichMade → ℕ
steps_by false other piece made = equal_steps made.unset piece
steps_by true false piece made = equal_steps made.set piece
steps_by true true piece made = length piece

abbrev pub made_by : Bool → Bool → WhichMade → WhichMade
made_by false other made = record made { unset = true }
made_by true false made = record made { set = true }
made_by true true made = made

-- what a leaf costs, and which leaves of equal entries are made then
abbrev pub piece_steps : List Bool → WhichMade → ℕ
piece_steps piece made = steps_by (has true piece) (has false piece) piece made

abbrev pub made_with : List Bool → WhichMade → WhichMade
made_with piece made = made_by (has true piece) (has false piece) made

-- what whole leaves cost
abbrev pub pieces_steps : WhichMade → List (List Bool) → ℕ
pieces_steps made [] = 0
pieces_steps made (piece ∷ pieces) = piece_steps piece made + pieces_steps (made_with piece made) pieces

-- the flags of the whole leaves
abbrev pub whole_pieces : List Bool → List (List Bool)
whole_pieces flags = first_chunks LEAF_ENTRIES (length flags / LEAF_ENTRIES) flags

-- a whole leaf of equal flags is a handle on one of two leaves, and the entries of all others are written
unfoldable pub choice_steps : List Bool → ℕ
choice_steps flags = pieces_steps no_leaf (whole_pieces flags) + length flags % LEAF_ENTRIES

-- how many whole leaves have both entries
abbrev pub one_if_mixed : Bool → Bool → ℕ
one_if_mixed true true = 1
one_if_mixed true false = 0
one_if_mixed false other = 0

abbrev pub mixed_pieces : List (List Bool) → ℕ
mixed_pieces [] = 0
mixed_pieces (piece ∷ pieces) = one_if_mixed (has true piece) (has false piece) + mixed_pieces pieces

abbrev pub mixed_leaves : List Bool → ℕ
mixed_leaves flags = mixed_pieces (whole_pieces flags)

-- the flags of runs by their lengths, the first of which has flags that are this
unfoldable pub flags_of_runs : Bool → List ℕ → List Bool
flags_of_runs flag [] = []
flags_of_runs flag (run ∷ runs) = replicate run flag ++ flags_of_runs (not flag) runs
