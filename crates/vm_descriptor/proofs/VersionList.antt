-- The table of versions, row by row.
use Rattle.std.proofs.Common.{◌≡◌, ◌<◌, ◌+◌, ℕ, zero, suc, List, length, drop, get_or, sym, ap, ◌∙◌, refl, true, false, subst, Some, arith}
use Rattle.std.specs.Prelude.{Bool, if◌then◌else◌, Option, None}
use Rattle.std.specs.Str.{bytes_eq}
use Rattle.vm_descriptor.specs.declared.version.Version.{Version}
use Rattle.vm_descriptor.specs.Versions.{IsVersion, marked, version_1, version_2, version_3, versions}

-- what a row of the table answers
abbrev pub row_or : Version → Option Version → Bool → Option Version
row_or row others matches = if matches then Some row else others

-- a row whose mark it is
pub row_found : (mark : List ℕ) (i : ℕ) (d version : Version) → i < length versions → version ≡ get_or versions i d → bytes_eq mark version.mark ≡ true
    → marked (drop i versions) mark ≡ Some version
row_found mark zero d version there is same =
    ap (row_or version_3 (marked (drop 1 versions) mark)) (ap (λ (v : Version). bytes_eq mark v.mark) (sym is) ∙ same) ∙ ap Some (sym is)
row_found mark (suc zero) d version there is same =
    ap (row_or version_2 (marked (drop 2 versions) mark)) (ap (λ (v : Version). bytes_eq mark v.mark) (sym is) ∙ same) ∙ ap Some (sym is)
row_found mark (suc (suc zero)) d version there is same =
    ap (row_or version_1 None) (ap (λ (v : Version). bytes_eq mark v.mark) (sym is) ∙ same) ∙ ap Some (sym is)
row_found mark (suc (suc (suc i))) d version there is same = absurd (omega (arith, there))

-- and one whose mark it is not
pub row_passed : (mark : List ℕ) (i : ℕ) (d version : Version) → i < length versions → version ≡ get_or versions i d → bytes_eq mark version.mark ≡ false
    → marked (drop (i + 1) versions) mark ≡ marked (drop i versions) mark
row_passed mark zero d version there is other =
    sym (ap (row_or version_3 (marked (drop 1 versions) mark)) (ap (λ (v : Version). bytes_eq mark v.mark) (sym is) ∙ other))
row_passed mark (suc zero) d version there is other =
    sym (ap (row_or version_2 (marked (drop 2 versions) mark)) (ap (λ (v : Version). bytes_eq mark v.mark) (sym is) ∙ other))
row_passed mark (suc (suc zero)) d version there is other =
    sym (ap (row_or version_1 None) (ap (λ (v : Version). bytes_eq mark v.mark) (sym is) ∙ other))
row_passed mark (suc (suc (suc i))) d version there is other = absurd (omega (arith, there))

-- each row is that of a version
pub row_known : (i : ℕ) (d version : Version) → i < length versions → version ≡ get_or versions i d → IsVersion version
row_known zero d version there is =
    subst IsVersion (sym is) (record { fields = omega arith; few = omega arith; entries = refl; least = omega arith; most = omega arith })
row_known (suc zero) d version there is =
    subst IsVersion (sym is) (record { fields = omega arith; few = omega arith; entries = refl; least = omega arith; most = omega arith })
row_known (suc (suc zero)) d version there is =
    subst IsVersion (sym is) (record { fields = omega arith; few = omega arith; entries = refl; least = omega arith; most = omega arith })
row_known (suc (suc (suc i))) d version there is = absurd (omega (arith, there))
