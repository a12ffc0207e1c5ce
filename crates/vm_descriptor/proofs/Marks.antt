-- Which version bytes are of, and what holds of all versions.
use Rattle.std.proofs.Common.{◌≡◌, ◌≤◌, ℕ, List, length, take, sym, ap, ◌∙◌, refl, subst, true, false, Some, None, inl, inr, arith}
use Rattle.std.specs.Prelude.{Bool, ◌⊎◌, if◌then◌else◌, nat_lt, Option}
use Rattle.std.specs.Option.{option_or}
use Rattle.std.specs.Str.{bytes_eq}
use Rattle.std.proofs.lemmas.Bool.{le-ltb}
use Rattle.flat_memory.proofs.ByteLists.{AreBytes}
use Rattle.vm_descriptor.specs.declared.descriptor.Descriptor.{Descriptor}
use Rattle.vm_descriptor.specs.declared.version.Version.{Version}
use Rattle.vm_descriptor.specs.Descriptor.{IsInRange}
use Rattle.vm_descriptor.specs.Versions.{version_1, version_2, version_3, version_of}
use Rattle.vm_descriptor.specs.Described.{described, described_as, described_old, described_v2, Fits, IsReadable, IsSpelling, read, read_as, read_by, refused, refused_by, undue, unread}
use Rattle.vm_descriptor.proofs.DescribedBack.{read_back}
use Rattle.vm_descriptor.proofs.NotRefused.{all_there, not_undue, not_unread}
use Rattle.vm_descriptor.proofs.Spelling.{version_spelled}

-- ---- the version of spelled bytes

marked_3 : (d : Descriptor) → version_of (described d) ≡ Some version_3
unfolding version_of described_as
marked_3 d = refl

marked_2 : (d : Descriptor) → version_of (described_v2 d) ≡ Some version_2
unfolding version_of described_as
marked_2 d = refl

marked_1 : (d : Descriptor) → version_of (described_old d) ≡ Some version_1
unfolding version_of described_as
marked_1 d = refl

-- bytes are of a version, and begin with its mark
abbrev pub IsMarked : List ℕ → Version → Version → Type 0
IsMarked bytes version row = (version ≡ row) × (bytes_eq (take 4 bytes) row.mark ≡ true)

which : (bytes : List ℕ) (version : Version) → version_of bytes ≡ Some version
    → IsMarked bytes version version_3 ⊎ (IsMarked bytes version version_2 ⊎ IsMarked bytes version version_1)
unfolding version_of
which bytes version is =
    by (bytes_eq (take 4 bytes) version_3.mark) (bytes_eq (take 4 bytes) version_2.mark) (bytes_eq (take 4 bytes) version_1.mark) is where
      by : (third second first : Bool) → (let found : Option Version = if third then Some version_3 else (if second then Some version_2 else (if first then Some version_1 else None)) in found)
          ≡ Some version
          → ((version ≡ version_3) × (third ≡ true)) ⊎ (((version ≡ version_2) × (second ≡ true)) ⊎ ((version ≡ version_1) × (first ≡ true)))
      by true second first is = inl (cc, refl)
      by false true first is = inr (inl (cc, refl))
      by false false true is = inr (inr (cc, refl))
      by false false false is = absurd (cc)

-- ---- spelled bytes are read back

module _ (d : Descriptor) (fits : Fits d) where
  read_by_mark : (bytes spelled : List ℕ) (version : Version) → bytes ≡ spelled → version_of spelled ≡ Some version → read_as version spelled ≡ d → read bytes ≡ d
  read_by_mark bytes spelled version is mark back =
      ap (λ (ys : List ℕ). read ys) is ∙ (ap (λ (v : Option Version). read_by v spelled) mark ∙ back)

  pub spelling_read : (bytes : List ℕ) → IsSpelling d bytes → read bytes ≡ d
  spelling_read bytes (inl newest) = read_by_mark bytes (described d) version_3 newest.2 (marked_3 d) (read_back 83 70 68 51 16 16_384 true true d fits newest.1)
  spelling_read bytes (inr (inl second)) = read_by_mark bytes (described_v2 d) version_2 second.2 (marked_2 d) (read_back 83 70 68 50 16 16_384 false true d fits second.1)
  spelling_read bytes (inr (inr (inl old))) = read_by_mark bytes (described_old d) version_1 old.2 (marked_1 d) (read_back 83 70 68 49 16 1024 false false d fits old.1)
  spelling_read bytes (inr (inr (inr none))) = elim none [ ]

-- ---- and not refused

passed : (short : Bool) (version found : Option Version) (xs : List ℕ) → short ≡ false → version ≡ found → (if short then Some 1 else refused_by version xs) ≡ refused_by found xs
passed true version found xs long is = absurd (cc)
passed false version found xs long is = ap (λ (v : Option Version). refused_by v xs) is

or_none : (first second : Option ℕ) → first ≡ None → second ≡ None → option_or first second ≡ None
or_none first second one two = ap (λ (o : Option ℕ). option_or o second) one ∙ two

or_parts : (first second : Option ℕ) → option_or first second ≡ None → (first ≡ None) × (second ≡ None)
or_parts None second is = (refl, is)
or_parts (Some number) second is = absurd (cc)

taken_by : (bytes spelled : List ℕ) (version : Version) → bytes ≡ spelled → version_of spelled ≡ Some version → 776 ≤ length spelled → unread version spelled ≡ None → undue version spelled ≡ None
    → refused bytes ≡ None
taken_by bytes spelled version is mark long readable due =
    ap refused is ∙ passed (nat_lt (length spelled) 776) (version_of spelled) (Some version) spelled (le-ltb (length spelled) 776 long) mark
    ∙ or_none (unread version spelled) (undue version spelled) readable due

fewer : (n : ℕ) → 816 ≤ n → 776 ≤ n
fewer n enough = omega (arith, enough)

module _ (d : Descriptor) (fits : Fits d) (range : IsInRange d) where
  pub spelling_taken : (bytes : List ℕ) → IsSpelling d bytes → refused bytes ≡ None
  spelling_taken bytes (inl newest) =
      let long = all_there 83 70 68 51 16 16_384 true true d fits newest.1 range range.ram.least newest.0 in
      taken_by bytes (described d) version_3 newest.2 (marked_3 d) (fewer _ long)
      (not_unread 83 70 68 51 16 16_384 true true d fits newest.1 range range.ram.least newest.0) (not_undue 83 70 68 51 16 16_384 true true d fits newest.1 range range.ram.least newest.0)
  spelling_taken bytes (inr (inl second)) =
      let long = all_there 83 70 68 50 16 16_384 false true d fits second.1 range range.ram.least second.0 in
      taken_by bytes (described_v2 d) version_2 second.2 (marked_2 d) long
      (not_unread 83 70 68 50 16 16_384 false true d fits second.1 range range.ram.least second.0) (not_undue 83 70 68 50 16 16_384 false true d fits second.1 range range.ram.least second.0)
  spelling_taken bytes (inr (inr (inl old))) =
      let long = all_there 83 70 68 49 16 1024 false false d fits old.1 range range.ram.least old.0 in
      taken_by bytes (described_old d) version_1 old.2 (marked_1 d) long
      (not_unread 83 70 68 49 16 1024 false false d fits old.1 range range.ram.least old.0) (not_undue 83 70 68 49 16 1024 false false d fits old.1 range range.ram.least old.0)
  spelling_taken bytes (inr (inr (inr none))) = elim none [ ]

-- ---- what is not refused is spelled

module _ (bytes : List ℕ) where
  -- only the form of the map is left to ask about
  pub left_of : (version : Version) → IsReadable version bytes → refused bytes ≡ undue version bytes
  left_of version is =
      passed (nat_lt (length bytes) 776) (version_of bytes) (Some version) bytes (le-ltb (length bytes) 776 is.long) is.marked
      ∙ ap (λ (o : Option ℕ). option_or o (undue version bytes)) is.unread

  pub read_by_version : (version : Version) → IsReadable version bytes → read bytes ≡ read_as version bytes
  read_by_version version is = ap (λ (v : Option Version). read_by v bytes) is.marked

  parts_by : (short : Bool) (version : Option Version) → (if short then Some 1 else refused_by version bytes) ≡ None
      → (v : Version) × (version ≡ Some v) × (unread v bytes ≡ None) × (undue v bytes ≡ None)
  parts_by true version none = absurd (cc)
  parts_by false None none = absurd (cc)
  parts_by false (Some version) none = let parts = or_parts (unread version bytes) (undue version bytes) none in (version, refl, parts.0, parts.1)

  pub spelled_by : (version : Version) → AreBytes bytes → version_of bytes ≡ Some version → unread version bytes ≡ None → undue version bytes ≡ None → IsSpelling (read_as version bytes) bytes
  spelled_by version are marked = by (which bytes version marked) where
    by : IsMarked bytes version version_3 ⊎ (IsMarked bytes version version_2 ⊎ IsMarked bytes version version_1)
        → unread version bytes ≡ None → undue version bytes ≡ None → IsSpelling (read_as version bytes) bytes
    by (inl is) =
        subst (λ (v : Version). unread v bytes ≡ None → undue v bytes ≡ None → IsSpelling (read_as v bytes) bytes) (sym is.0)
        (λ readable due. inl (version_spelled _ _ _ _ 16 16_384 true true (omega arith) bytes are is.1 readable due))
    by (inr (inl is)) =
        subst (λ (v : Version). unread v bytes ≡ None → undue v bytes ≡ None → IsSpelling (read_as v bytes) bytes) (sym is.0)
        (λ readable due. inr (inl (version_spelled _ _ _ _ 16 16_384 false true (omega arith) bytes are is.1 readable due)))
    by (inr (inr is)) =
        subst (λ (v : Version). unread v bytes ≡ None → undue v bytes ≡ None → IsSpelling (read_as v bytes) bytes) (sym is.0)
        (λ readable due. inr (inr (inl (version_spelled _ _ _ _ 16 1024 false false (omega arith) bytes are is.1 readable due))))

  pub accepted_spelled : AreBytes bytes → refused bytes ≡ None → IsSpelling (read bytes) bytes
  accepted_spelled are none =
      let parts = parts_by (nat_lt (length bytes) 776) (version_of bytes) none in
      subst (λ (d : Descriptor). IsSpelling d bytes) (sym (ap (λ (v : Option Version). read_by v bytes) parts.1)) (spelled_by parts.0 are parts.1 parts.2 parts.3)
