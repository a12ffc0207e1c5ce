-- The map of pages in its two forms: a bit for each page, or the lengths of runs of equal flags.
use Rattle.std.specs.Prelude.{ℕ, zero, suc, ◌+◌, ◌*◌, ◌/◌, ◌%◌, ◌-◌, ◌^◌, ◌==◌, slice_index, nat_lt, not, ◌&&◌, Bool, true, false, if◌then◌else◌}
use Rattle.std.specs.Prelude.{List, [], ◌∷◌, ◌++◌, length, drop, Option, Some, None}
use Rattle.std.specs.Bool.{beq}
use Rattle.std.specs.List.{flat_map, list_all, sum}
use Rattle.byteorder.specs.Endian.{little_bytes, little_number}
pub use Rattle.shared_leaves.specs.Choices.{flags_of_runs}

-- ---- a bit for each page

-- the bytes of a map of so many pages
abbrev pub map_size : ℕ → ℕ
map_size pages = (pages + 7) / 8

abbrev pub bit_value : Bool → ℕ
bit_value false = 0
bit_value true = 1

-- the number of which these are the bits, the lowest first
unfoldable pub number_of_bits : List Bool → ℕ
number_of_bits [] = 0
number_of_bits (bit ∷ bits) = bit_value bit + 2 * number_of_bits bits

-- the number of eight equal bits
abbrev pub whole_byte : Bool → ℕ
whole_byte false = 0
whole_byte true = 255

-- a byte for each eight flags, of which the first is the lowest bit. The bits past the last flag are 0
unfoldable pub map_bytes : List Bool → List ℕ
map_bytes [] = []
map_bytes (a ∷ (b ∷ (c ∷ (d ∷ (e ∷ (f ∷ (g ∷ (h ∷ rest)))))))) =
    number_of_bits (a ∷ b ∷ c ∷ d ∷ e ∷ f ∷ g ∷ h ∷ []) ∷ map_bytes rest
map_bytes few = number_of_bits few ∷ []

-- so many bits of a number, the lowest first
unfoldable pub bits_of : ℕ → ℕ → List Bool
bits_of zero n = []
bits_of (suc count) n = (n % 2 == 1) ∷ bits_of count (n / 2)

-- so many flags, eight in a byte
unfoldable pub flags_of : ℕ → List ℕ → List Bool
flags_of count [] = []
flags_of count (byte ∷ rest) = if nat_lt 8 count then bits_of 8 byte ++ flags_of (count - 8) rest else bits_of count byte

-- a bit past the last page is 1
abbrev pub has_spare_bit : ℕ → List ℕ → Bool
has_spare_bit pages map = not (pages % 8 == 0) && not (slice_index map (length map - 1) / 2 ^ (pages % 8) == 0)

-- ---- the lengths of runs

-- a number of 16 bits
abbrev pub half : ℕ → List ℕ
half n = little_bytes 2 n

-- the numbers of 16 bits in bytes
unfoldable pub halves : List ℕ → List ℕ
halves (low ∷ (high ∷ bytes)) = little_number 2 (low ∷ high ∷ []) ∷ halves bytes
halves few = []

-- the lengths of the runs of equal flags, where so many that are this stand before these
unfoldable pub runs_behind : Bool → ℕ → List Bool → List ℕ
runs_behind flag count [] = count ∷ []
runs_behind flag count (next ∷ flags) =
    if beq next flag then runs_behind flag (count + 1) flags else (count ∷ runs_behind next 1 flags)

-- the lengths of the runs of equal flags, in turn of flags that are not set and of flags that are. Only the first may be 0
abbrev pub runs : List Bool → List ℕ
runs flags = runs_behind false 0 flags

-- lengths of runs that have so many flags, of which none is 0 but maybe the first
abbrev pub are_runs : ℕ → List ℕ → Bool
are_runs pages lengths = list_all (λ run. nat_lt 0 run) (drop 1 lengths) && sum lengths == pages

-- ---- the two forms: 0 is a bit for each page, and 1 the lengths of runs

-- the bytes of a map in a form
abbrev pub map_in : ℕ → List Bool → List ℕ
map_in form flags = if form == 0 then map_bytes flags else flat_map half (runs flags)

-- the flags of so many pages in a map of a form
abbrev pub flags_in : ℕ → ℕ → List ℕ → List Bool
flags_in form pages map = if form == 0 then flags_of pages map else flags_of_runs false (halves map)

-- the form that is due: the lengths of runs where these have fewer bytes
abbrev pub due_form : List Bool → ℕ
due_form flags = if nat_lt (2 * length (runs flags)) (map_size (length flags)) then 1 else 0

-- ---- the map of a version, which has forms or not. Where it has, a byte before the map tells the form

abbrev pub map_as : Bool → List Bool → List ℕ
map_as true flags = due_form flags ∷ map_in (due_form flags) flags
map_as false flags = map_bytes flags

-- of what stands behind the fields the form, and the map itself
abbrev pub form_of : Bool → List ℕ → ℕ
form_of true rest = slice_index rest 0
form_of false rest = 0

abbrev pub map_of : Bool → List ℕ → List ℕ
map_of true rest = drop 1 rest
map_of false rest = rest

-- the flags of so many pages
abbrev pub flags_as : Bool → ℕ → List ℕ → List Bool
flags_as has_forms pages rest = flags_in (form_of has_forms rest) pages (map_of has_forms rest)

-- a map of a form has as many bytes as so many pages ask for
abbrev pub is_sized : ℕ → ℕ → ℕ → Bool
is_sized form pages size = if form == 0 then size == map_size pages else (form == 1 && size % 2 == 0)

-- the byte of the form is there, and the map has as many bytes as it asks for
abbrev pub is_whole : Bool → ℕ → List ℕ → Bool
is_whole true pages [] = false
is_whole true pages (form ∷ map) = is_sized form pages (length map)
is_whole false pages map = is_sized 0 pages (length map)

-- the number of the first reason why a map of a form is none of so many pages: 6 a bit past the last of them, 7 lengths that
-- are none of their runs
abbrev pub misread : ℕ → ℕ → List ℕ → Option ℕ
misread form pages map =
    if form == 0 then (if has_spare_bit pages map then Some 6 else None)
    else (if are_runs pages (halves map) then None else Some 7)

-- no other form is due
abbrev pub is_due : Bool → ℕ → List Bool → Bool
is_due true form flags = form == due_form flags
is_due false form flags = true
