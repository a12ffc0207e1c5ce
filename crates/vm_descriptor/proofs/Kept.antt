-- What a seed keeps: the bytes of a descriptor, and maybe the table with which the clones start.
use Rattle.std.proofs.Common.{◌≡◌, ◌≤◌, ◌+◌, List, ℕ, length, ap, sym, ◌∙◌, subst, true, arith}
use Rattle.std.specs.Prelude.{Bool, Option}
use Rattle.std.specs.Option.{ForSome}
use Rattle.vm_descriptor.specs.declared.descriptor.Descriptor.{Descriptor}
use Rattle.vm_descriptor.specs.Fields.{LineControl, number_in}
use Rattle.vm_descriptor.specs.Maps.{map_as}
use Rattle.vm_descriptor.specs.Versions.{version_3}
use Rattle.vm_descriptor.specs.Described.{described, read_as, Fits, IsKept, IsKeptWith}
use Rattle.vm_descriptor.specs.declared.version.TheConstants.{ENTRIES_SIZE, HEADER_SIZE}
use Rattle.vm_descriptor.proofs.DescribedBack.{read_back, spelled_behind}
use Rattle.vm_descriptor.proofs.NotRefused.{long_enough}

-- the bytes of a descriptor are read as it was
pub read_kept : (d : Descriptor) (bytes : List ℕ) → Fits d → bytes ≡ described d → read_as version_3 bytes ≡ d
read_kept d bytes fits is = ap (λ (ys : List ℕ). read_as version_3 ys) is ∙ read_back 83 70 68 51 16 16_384 true true d fits tt

-- they can be kept, with a table that has its blank pages
pub kept_with : (d : Descriptor) (bytes : List ℕ) (table : Option (List Bool)) → Fits d → bytes ≡ described d → ForSome table (λ blank. blank ≡ d.blank)
    → IsKeptWith bytes table
kept_with d bytes table fits is shared =
    let back = read_kept d bytes fits is in
    record {
      kept = record { fits = subst Fits (sym back) fits; spelled = ap (λ (d : Descriptor). described d) back ∙ sym is };
      shared = subst (λ (d : Descriptor). ForSome table (λ blank. blank ≡ d.blank)) (sym back) shared;
    }

module _ (bytes : List ℕ) (is : IsKept bytes) where
  -- the map stands behind all fields
  pub kept_long : HEADER_SIZE + ENTRIES_SIZE ≤ length bytes
  kept_long =
      let d = read_as version_3 bytes in
      let behind = (spelled_behind 83 70 68 51 16 16_384 true true d is.fits tt).map_there in
      subst (λ (xs : List ℕ). HEADER_SIZE + ENTRIES_SIZE ≤ length xs) is.spelled (long_enough 816 (described d) (map_as true d.blank) behind (omega arith))

  pub kept_line_control : number_in bytes LineControl ≤ 255
  unfolding read_as
  kept_line_control = omega (arith, is.fits.line_control)
