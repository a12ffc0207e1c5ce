-- A page that comes to a hart, one of RAM or one of the disk.
use Rattle.std.proofs.Common.{◌≡◌, ℕ, ◌+◌, ◌<◌, Bool, true, false, List, ◌++◌, length, Option, Result, Ok, Err, IfOk, OnErr, sym, ap, ap₂, ◌∙◌, subst}
use Rattle.std.specs.declared.alloc.AllocError.{AllocError}
use Rattle.std.proofs.lemmas.List.{length-set}
use Rattle.std.proofs.lemmas.Option.{slice_get_within}
use Rattle.rv_traps.specs.declared.registers.CsrRegisters.{CsrRegisters}
use Rattle.cow_disk.specs.declared.arrived.Arrived.{Arrived}
use Rattle.cow_disk.specs.declared.arrived.Arrived.TheVariants.{Got, Had}
use Rattle.cow_disk.specs.Paged as cow
use Rattle.cow_disk.specs.Paged.{PagedDisk, disk_page, here_pages, is_page_here, with_page, IsPageBelow}
use Rattle.port_map.specs.Bus.{PortRegisters}
use Rattle.vm_bus.specs.Bus.{BusParts, bus_over}
use Rattle.image_depot.specs.Key.{Key}
use Rattle.image_depot.specs.Receiver.{IsOfImage}
use Rattle.image_depot.specs.Reply.{Reply}
use Rattle.guest_mem.specs.Answers as memory
use Rattle.guest_mem.specs.Ram.{Ram, disk_below}
use Rattle.forest_model.specs.Paged.{Pages}
use Rattle.forest_model.specs.State.{State}
use Rattle.vm_hart.specs.AtPlace.{at_place}
use Rattle.vm_hart.specs.Keyed.{Arrives, pages_of}
use Rattle.vm_hart.proofs.Disks.{disk-absent, disk-arrived, disk-here, flag-ram, page-below, ram-arrived}

-- ---- one of RAM

pub ram-arrives : (old new : Ram) (disk : PagedDisk) (reply : Reply) (r : Result Arrived AllocError) → IfOk r (memory.Arrives old reply new)
    → IfOk r (Arrives old.key (pages_of old disk) reply (pages_of new disk))
ram-arrives old new disk reply (Ok (Got page)) h = (
  h.0,
  h.1,
  flag-ram old.here (here_pages disk) page false h.2,
  ap (λ (m : Ram). pages_of m disk) h.3 ∙ ram-arrived old.here old.blank disk page (slice_get_within old.here page false h.2),
)
ram-arrives old new disk reply (Ok (Had page)) h =
    (h.0, ap (λ (m : Ram). pages_of m disk) h.1, λ of_image. flag-ram old.here (here_pages disk) page true (h.2 of_image))
ram-arrives old new disk reply (Err e) h = tt

-- RAM reads as it did
pub ram-stays : (old new : Ram) (reply : Reply) (r : Result Arrived AllocError) → IfOk r (memory.Arrives old reply new) → OnErr r (new ≡ old)
    → (new.reads ≡ old.reads) × (new.key ≡ old.key)
ram-stays old new reply (Ok (Got page)) h err = (ap (λ (m : Ram). m.reads) h.3, ap (λ (m : Ram). m.key) h.3)
ram-stays old new reply (Ok (Had page)) h err = (ap (λ (m : Ram). m.reads) h.1, ap (λ (m : Ram). m.key) h.1)
ram-stays old new reply (Err e) h err = (ap (λ (m : Ram). m.reads) err, ap (λ (m : Ram). m.key) err)

-- ---- one of the disk

module _ (ram blank : List Bool) (disk : PagedDisk) (place q : ℕ) (is_place : place ≡ length ram + q) (there : q < length disk.pages) where
  module _ (key : Option Key) (reply : Reply) (is_page : place ≡ reply.page) where
    disk-got : (new : PagedDisk) (bytes : List ℕ) → IsOfImage key reply → is_page_here disk q ≡ false → new ≡ with_page disk q bytes
        → Arrives key (record { here = ram ++ here_pages disk; blank = blank }) reply (record { here = ram ++ here_pages new; blank = blank }) (Got place)
    disk-got new bytes of_image absent is =
        (is_page, of_image, disk-absent ram blank disk place q is_place there absent, disk-arrived ram blank disk place q is_place there new bytes is)

    disk-had : (new : PagedDisk) → is_page_here disk q ≡ true → new ≡ disk
        → Arrives key (record { here = ram ++ here_pages disk; blank = blank }) reply (record { here = ram ++ here_pages new; blank = blank }) (Had place)
    disk-had new here is = (
      is_page,
      ap (λ (d : PagedDisk). let pages : Pages = record { here = ram ++ here_pages d; blank = blank } in pages) is,
      λ of_image. disk-here ram blank disk place q is_place there here,
    )

    pub disk-arrives : (new : PagedDisk) (bytes : List ℕ) (arrived : Arrived) → IsOfImage key reply → cow.Arrives disk q bytes new arrived
        → Arrives key (record { here = ram ++ here_pages disk; blank = blank }) reply (record { here = ram ++ here_pages new; blank = blank }) (at_place place arrived)
    disk-arrives new bytes (Got got) of_image h = disk-got new bytes of_image h.1 h.2
    disk-arrives new bytes (Had had) of_image h = disk-had new h.1 h.2

-- ---- the state stays

module _ (registers : List ℕ) (pc : ℕ) (csrs : CsrRegisters) (reservation : Option ℕ) where
  abbrev state_of : List ℕ → PortRegisters → State
  state_of reads bus = record { registers = registers; pc = pc; csrs = csrs; reservation = reservation; ram = reads; ports = bus }

  -- since RAM reads as it did
  pub same-by_ram : (old new : Ram) (ports : BusParts) → (new.reads ≡ old.reads) × (new.key ≡ old.key)
      → (state_of new.reads (bus_over ports (disk_below new.key)) ≡ state_of old.reads (bus_over ports (disk_below old.key))) × (new.key ≡ old.key)
  same-by_ram old new ports same = (ap₂ (λ reads key. state_of reads (bus_over ports (disk_below key))) same.0 same.1, same.1)

  -- since the disk reads as it did
  pub same-by_disk : (ram : Ram) (old new : BusParts) → bus_over new (disk_below ram.key) ≡ bus_over old (disk_below ram.key)
      → state_of ram.reads (bus_over new (disk_below ram.key)) ≡ state_of ram.reads (bus_over old (disk_below ram.key))
  same-by_disk ram old new same = ap (λ (bus : PortRegisters). state_of ram.reads bus) same

-- ---- what holds of the disk

-- it has as many pages and sectors
came-kept : (disk new : PagedDisk) (q : ℕ) (bytes : List ℕ) (r : Arrived) → cow.Arrives disk q bytes new r
    → (length new.pages ≡ length disk.pages) × (new.sectors ≡ disk.sectors)
came-kept disk new q bytes (Got got) h = (ap (λ (d : PagedDisk). length d.pages) h.2 ∙ length-set disk.pages q _, ap (λ (d : PagedDisk). d.sectors) h.2)
came-kept disk new q bytes (Had had) h = (ap (λ (d : PagedDisk). length d.pages) h.2, ap (λ (d : PagedDisk). d.sectors) h.2)

pub arrived-kept : (old new : BusParts) (q : ℕ) (bytes : List ℕ) (r : Result Arrived AllocError) → IfOk r (cow.Arrives old.block.disk q bytes new.block.disk) → OnErr r (new ≡ old)
    → (length new.block.disk.pages ≡ length old.block.disk.pages) × (new.block.disk.sectors ≡ old.block.disk.sectors)
arrived-kept old new q bytes (Ok arrived) h err = came-kept old.block.disk new.block.disk q bytes arrived h
arrived-kept old new q bytes (Err e) h err = (ap (λ (b : BusParts). length b.block.disk.pages) err, ap (λ (b : BusParts). b.block.disk.sectors) err)

-- the bytes that come are those of a page below
pub below-came : (disk : PagedDisk) (below image bytes : List ℕ) (q : ℕ) → image ≡ below → bytes ≡ disk_page image q → IsPageBelow disk q bytes below
below-came disk below image bytes q same is =
    subst (λ (came : List ℕ). IsPageBelow disk q came below) (sym (is ∙ ap (λ (i : List ℕ). disk_page i q) same)) (page-below disk below q)
