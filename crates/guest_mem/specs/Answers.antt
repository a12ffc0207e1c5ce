-- What loads, stores and arrivals answer.
use Rattle.std.specs.Prelude.{◌≡◌, ℕ}
use Rattle.cow_disk.specs.declared.arrived.Arrived.{Arrived}
use Rattle.cow_disk.specs.declared.arrived.Arrived.TheVariants.{Got, Had}
use Rattle.image_depot.specs.Reply.{Reply}
use Rattle.guest_mem.specs.declared.answers.StoreError.{StoreError}
use Rattle.guest_mem.specs.declared.answers.StoreError.TheVariants.{Absent, Memory}
use Rattle.guest_mem.specs.Ram.{Ram, IsHere, IsAbsent, IsOfImage, arrived}

-- a store to a page is refused just where the page is absent. Memory is wanting only where it is here
abbrev pub IsRefused : Ram → ℕ → StoreError → Type 0
IsRefused ram page (Absent absent) = (absent.page ≡ page) × IsAbsent ram page
IsRefused ram page Memory = IsHere ram page

-- a page is got just where it is absent and the reply carries it; else the guest has had it, and nothing changes
abbrev pub Arrives : Ram → Reply → Ram → Arrived → Type 0
Arrives old reply new (Got page) = (page ≡ reply.page) × IsOfImage old.key reply × IsAbsent old page × (new ≡ arrived old page)
Arrives old reply new (Had page) = (page ≡ reply.page) × (new ≡ old) × (IsOfImage old.key reply → IsHere old page)
