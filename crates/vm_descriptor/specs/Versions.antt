-- The versions of the format: what each has of its own, and which one bytes are of.
use Rattle.std.specs.Prelude.{◌≡◌, ℕ, ◌≤◌, true, false, if◌then◌else◌, List, [], ◌∷◌, take, codes, Option, Some, None}
use Rattle.std.specs.Str.{bytes_eq}
use Rattle.vm_descriptor.specs.declared.version.Version.{Version}

abbrev pub version_1 : Version
version_1 = record { mark = codes "SFD1"; fields = 776; has_entries = false; has_forms = false; least_pages = 16; most_pages = 1024 }

abbrev pub version_2 : Version
version_2 = record { mark = codes "SFD2"; fields = 776; has_entries = false; has_forms = true; least_pages = 16; most_pages = 16_384 }

abbrev pub version_3 : Version
version_3 = record { mark = codes "SFD3"; fields = 816; has_entries = true; has_forms = true; least_pages = 16; most_pages = 16_384 }

-- all versions, the newest first
abbrev pub versions : List Version
versions = version_3 ∷ version_2 ∷ version_1 ∷ []

-- the first of these versions whose mark these four bytes are
abbrev pub marked : List Version → List ℕ → Option Version
marked [] mark = None
marked (version ∷ others) mark = if bytes_eq mark version.mark then Some version else marked others mark

-- the version of which bytes are
unfoldable pub version_of : List ℕ → Option Version
version_of bytes = marked versions (take 4 bytes)

-- what holds of every version
pub record IsVersion (version : Version) : Type 0 where
  pub fields : 776 ≤ version.fields
  pub few : version.fields ≤ 816
  pub entries : version.fields ≡ (if version.has_entries then 816 else 776)
  pub least : 16 ≤ version.least_pages
  pub most : version.most_pages ≤ 16_384
