-- What pages of an image are sent to: for each page, at its place, whether it is here, and the key to the image that has
-- the others.
use Rattle.std.specs.Prelude.{◌≡◌, ⊤, ℕ, Bool, true, false, List, length, slice_get, slice_set, Option, Some, None}
use Rattle.cow_disk.specs.declared.arrived.Arrived.{Arrived}
use Rattle.cow_disk.specs.declared.arrived.Arrived.TheVariants.{Got, Had}
use Rattle.image_depot.specs.Image.{place_count}
use Rattle.image_depot.specs.Key.{Key, image_of, number_of}
use Rattle.image_depot.specs.Reply.{Reply}

-- the page is here
abbrev pub IsHere : List Bool → ℕ → Type 0
IsHere here page = slice_get here page ≡ Some true

-- the page is absent
abbrev pub IsAbsent : List Bool → ℕ → Type 0
IsAbsent here page = slice_get here page ≡ Some false

-- every page that is not here is one of the image of the key; where there is no key, none is absent
abbrev pub HasAbsent : Option Key → List Bool → Type 0
HasAbsent (Some key) here = place_count (image_of key) ≡ length here
HasAbsent None here = (page : ℕ) → slice_get here page ≡ Some false → ⊥

-- the reply carries a page of the image that has the absent pages
abbrev pub IsOfImage : Option Key → Reply → Type 0
IsOfImage (Some key) reply = number_of key ≡ number_of reply.key
IsOfImage None reply = ⊥

-- a page is got just where it is absent and the reply carries it, and is here then; else it is had, and nothing changes
abbrev pub Arrives : Option Key → List Bool → Reply → List Bool → Arrived → Type 0
Arrives key old reply new (Got page) = (page ≡ reply.page) × IsOfImage key reply × IsAbsent old page × (new ≡ slice_set old page true)
Arrives key old reply new (Had page) = (page ≡ reply.page) × (new ≡ old) × (IsOfImage key reply → IsHere old page)

-- what was sent was had
abbrev pub IsHad : Arrived → Type 0
IsHad (Got page) = ⊥
IsHad (Had page) = ⊤
