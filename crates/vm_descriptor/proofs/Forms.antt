-- Maps in whichever form, with the byte of the form or without.
use Rattle.std.proofs.Common.{◌≡◌, ◌<◌, ◌*◌, ◌-◌, ◌/◌, ◌%◌, ◌^◌, ℕ, suc, List, [], ◌∷◌, length, get_or, sym, ap, ◌∙◌, refl, true, false, Some, None, arith}
use Rattle.std.specs.Prelude.{Bool, not, ◌&&◌, ◌==◌, nat_lt, if◌then◌else◌, Option}
use Rattle.std.specs.List.{flat_map}
use Rattle.std.proofs.lemmas.Bool.{and_parts, eq-eqb, eqb-true, eqb-false}
use Rattle.flat_memory.proofs.ByteLists.{AreBytes}
use Rattle.vm_descriptor.specs.Maps.{are_runs, due_form, flags_as, flags_in, flags_of, flags_of_runs, form_of, half, halves, has_spare_bit}
use Rattle.vm_descriptor.specs.Maps.{is_due, is_sized, is_whole, map_as, map_bytes, map_in, map_of, map_size, misread, runs}
use Rattle.vm_descriptor.proofs.FlagsRead.{flags_read}
use Rattle.vm_descriptor.proofs.FlagLengths.{length_flags}
use Rattle.vm_descriptor.proofs.MapLast.{length_map, clear_last}
use Rattle.vm_descriptor.proofs.MapSpelled.{ends_clear, map_back}
use Rattle.vm_descriptor.proofs.RunLengths.{flags_back, halves_back, length_halves, length_kept, runs_are, runs_kept, runs_read}

-- ---- maps that are spelled

-- the last bits of a map of flags are clear
none_spare : (whole : Bool) (flags : List Bool) → (length flags % 8 == 0) ≡ whole
    → (not whole && not (get_or (map_bytes flags) (length (map_bytes flags) - 1) 0 / 2 ^ (length flags % 8) == 0)) ≡ false
none_spare true flags test = refl
none_spare false flags test =
    ap (λ (b : Bool). not b) (eq-eqb (get_or (map_bytes flags) (length (map_bytes flags) - 1) 0 / 2 ^ (length flags % 8)) 0 (clear_last flags (eqb-false (length flags % 8) 0 test)))

module _ (flags : List Bool) (few : length flags < 2 ^ 16) where
  sized : (shorter : Bool) → is_sized (if shorter then 1 else 0) (length flags) (length (map_in (if shorter then 1 else 0) flags)) ≡ true
  sized true = let size = length_halves (runs flags) in eq-eqb (length (flat_map half (runs flags)) % 2) 0 (omega (arith, size))
  sized false = eq-eqb (length (map_bytes flags)) (map_size (length flags)) (length_map flags)

  in_form : (shorter : Bool) → flags_in (if shorter then 1 else 0) (length flags) (map_in (if shorter then 1 else 0) flags) ≡ flags
  in_form true = ap (λ (lengths : List ℕ). flags_of_runs false lengths) (runs_read flags few) ∙ flags_back false 0 flags
  in_form false = flags_read flags

  read_well : (shorter : Bool) → misread (if shorter then 1 else 0) (length flags) (map_in (if shorter then 1 else 0) flags) ≡ None
  read_well true =
      ap (λ (are : Bool). let found : Option ℕ = if are then None else Some 7 in found)
      (ap (λ (lengths : List ℕ). are_runs (length flags) lengths) (runs_read flags few) ∙ runs_are flags)
  read_well false =
      ap (λ (spare : Bool). let found : Option ℕ = if spare then Some 6 else None in found) (none_spare (length flags % 8 == 0) flags refl)

  is_shorter : Bool
  is_shorter = nat_lt (2 * length (runs flags)) (map_size (length flags))

  -- what is spelled is whole, in the form that is due, and read as it was
  pub map_whole : (has_forms : Bool) → is_whole has_forms (length flags) (map_as has_forms flags) ≡ true
  unfolding is_shorter
  map_whole true = sized is_shorter
  map_whole false = sized false

  pub map_read : (has_forms : Bool) → flags_as has_forms (length flags) (map_as has_forms flags) ≡ flags
  unfolding is_shorter
  map_read true = in_form is_shorter
  map_read false = in_form false

  pub map_well : (has_forms : Bool) → misread (form_of has_forms (map_as has_forms flags)) (length flags) (map_of has_forms (map_as has_forms flags)) ≡ None
  unfolding is_shorter
  map_well true = read_well is_shorter
  map_well false = read_well false

  pub map_due : (has_forms : Bool) → is_due has_forms (form_of has_forms (map_as has_forms flags)) flags ≡ true
  map_due true = eq-eqb (due_form flags) (due_form flags) refl
  map_due false = refl

-- ---- maps that are read

-- a map of so many pages, of which the flags are spelled so in that form
pub record IsKept (form pages : ℕ) (map : List ℕ) : Type 0 where
  pub each : length (flags_in form pages map) ≡ pages
  pub spelled : map_in form (flags_in form pages map) ≡ map

unless_spare : (spare : Bool) → (let found : Option ℕ = if spare then Some 6 else None in found) ≡ None → spare ≡ false
unless_spare true none = absurd (cc)
unless_spare false none = refl

when_runs : (are : Bool) → (let found : Option ℕ = if are then None else Some 7 in found) ≡ None → are ≡ true
when_runs true none = refl
when_runs false none = absurd (cc)

module _ (pages : ℕ) (positive : 0 < pages) where
  -- by whether it has bits
  abbrev flags_by : Bool → List ℕ → List Bool
  flags_by is_bits map = if is_bits then flags_of pages map else flags_of_runs false (halves map)

  kept_by : (is_bits : Bool) (form : ℕ) (map : List ℕ) → AreBytes map
      → (if is_bits then length map == map_size pages else (form == 1 && length map % 2 == 0)) ≡ true
      → (let found : Option ℕ = if is_bits then (if has_spare_bit pages map then Some 6 else None) else (if are_runs pages (halves map) then None else Some 7) in found) ≡ None
      → (length (flags_by is_bits map) ≡ pages) × ((if is_bits then map_bytes (flags_by is_bits map) else flat_map half (runs (flags_by is_bits map))) ≡ map)
  kept_by true form map are size well =
      let whole = eqb-true (length map) (map_size pages) size in
      (length_flags pages map whole, map_back map pages are whole (ends_clear pages map (unless_spare (has_spare_bit pages map) well)))
  kept_by false form map are size well =
      let even = eqb-true (length map % 2) 0 (and_parts (form == 1) (length map % 2 == 0) size).1 in
      let lengths = when_runs (are_runs pages (halves map)) well in
      (length_kept pages (halves map) lengths, ap (λ (ls : List ℕ). flat_map half ls) (runs_kept pages (halves map) positive lengths) ∙ halves_back map are even)

  kept_in : (form : ℕ) (map : List ℕ) → AreBytes map → is_sized form pages (length map) ≡ true → misread form pages map ≡ None → IsKept form pages map
  kept_in form map are size well = let kept = kept_by (form == 0) form map are size well in record { each = kept.0; spelled = kept.1 }

  -- what is whole, well and due has a flag for each page, and is spelled as it was
  pub map_kept : (has_forms : Bool) (rest : List ℕ) → AreBytes rest → is_whole has_forms pages rest ≡ true → misread (form_of has_forms rest) pages (map_of has_forms rest) ≡ None
      → is_due has_forms (form_of has_forms rest) (flags_as has_forms pages rest) ≡ true
      → (length (flags_as has_forms pages rest) ≡ pages) × (map_as has_forms (flags_as has_forms pages rest) ≡ rest)
  map_kept true [] are whole well due = absurd (cc)
  map_kept true (form ∷ map) are whole well due =
      let kept = kept_in form map (λ i. are (suc i)) whole well in
      let flags = flags_in form pages map in
      let same : due_form flags ≡ form = sym (eqb-true form (due_form flags) due) in (kept.each, ap (λ (f : ℕ). f ∷ map_in f flags) same ∙ ap (λ (ys : List ℕ). form ∷ ys) kept.spelled)
  map_kept false rest are whole well due = let kept = kept_in 0 rest are whole well in (kept.each, kept.spelled)

  pub length_as : (has_forms : Bool) (rest : List ℕ) → AreBytes rest → is_whole has_forms pages rest ≡ true → misread (form_of has_forms rest) pages (map_of has_forms rest) ≡ None
      → length (flags_as has_forms pages rest) ≡ pages
  length_as true [] are whole well = absurd (cc)
  length_as true (form ∷ map) are whole well = (kept_in form map (λ i. are (suc i)) whole well).each
  length_as false rest are whole well = (kept_in 0 rest are whole well).each
