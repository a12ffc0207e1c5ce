-- Stores of the bus, over the disk of the image of the key, as those of the hart.
use Rattle.std.proofs.Common.{◌≡◌, inl, refl, ℕ, ◌+◌, ◌*◌, ◌<◌, true, false, Bool, List, [], ◌∷◌, ◌++◌, length, slice_get}
use Rattle.std.proofs.Common.{Option, Some, None, Result, Ok, Err, IfOk, sym, ap, ◌∙◌, subst, arith}
use Rattle.std.proofs.lemmas.Bool.Decides.{nat_tests}
use Rattle.std.proofs.lemmas.Option.{get_or_from_slice_get}
use Rattle.page_frames.specs.declared.page.TheConstants.{PAGE_SIZE}
use Rattle.cow_disk.specs.Disk.{sector_count}
use Rattle.cow_disk.specs.Paged.{PagedDisk, disk_over, here_pages, is_page_here, page_of_sector, page_total}
use Rattle.cow_disk.proofs.Pages.{length-over}
use Rattle.cow_disk.proofs.Whole.{whole_stays}
use Rattle.block_port.specs.Block.{block_over, touched_page}
use Rattle.fork_port.specs.declared.commands.Effect.{Effect}
use Rattle.fork_port.specs.declared.commands.Effect.TheVariants as effect
use Rattle.image_depot.specs.Key.{Key}
use Rattle.rv_traps.specs.declared.registers.CsrRegisters.{CsrRegisters}
use Rattle.guest_mem.specs.Ram.{IsDiskBased, Ram, disk_below}
use Rattle.port_map.specs.declared.Place.{Place}
use Rattle.port_map.specs.declared.Place.TheVariants.{Block as at_block}
use Rattle.forest_model.specs.Memory.{needs_at, page_on_disk, pages_on_disk}
use Rattle.forest_model.specs.Paged.{Pages}
use Rattle.port_map.specs.Bus.{PortRegisters, disk_page_at}
use Rattle.forest_model.specs.State.{State}
use Rattle.vm_bus.specs.Bus.{BusParts, IsDiskPageHereAt, Waits, bus_over}
use Rattle.vm_hart.specs.Acts.{IsMet, LeavesTo, WaitsAt}
use Rattle.vm_hart.specs.Hart.{hart_of}
use Rattle.vm_hart.specs.Keyed.{KeyedState}
use Rattle.vm_hart.specs.Requests.{IsPossible}
use Rattle.vm_hart.specs.declared.hart.Request.TheVariants as request
use Rattle.vm_hart.proofs.Disks.{flag-disk, get-disk, length-here}

-- what waits on the bus is left to the machine
pub leaves-to : (make : BusParts → KeyedState) (old new : BusParts) (e : Effect)
    → ((b : BusParts) → (make b).state.ports ≡ bus_over b (disk_below (make b).key)) → Waits old new e → LeavesTo (make old) (make new) e
leaves-to make old new effect.Done is h = tt
leaves-to make old new effect.TimeWritten is h = tt
leaves-to make old new (effect.Call c) is h = (ap make h.0, subst (λ p. IsPossible p (request.Call c)) (sym (is old)) h.1)
leaves-to make old new (effect.Talk t) is h = (ap make h.0, subst (λ p. IsPossible p (request.Talk t)) (sym (is old)) h.1)
leaves-to make old new (effect.Exit value) is h = tt
leaves-to make old new (effect.ExitWith value address count) is h = (ap make h.0, h.1)
leaves-to make old new (effect.Zero first count) is h = ap make h

-- ---- the page that a store needs

module _ (ram : List Bool) (parts : BusParts) (below : List ℕ) (count : length parts.block.disk.pages ≡ page_total parts.block.disk.sectors)
    (s : State) (ports : s.ports ≡ bus_over parts below) (pages : length s.ram ≡ PAGE_SIZE * length ram) where
  -- its place
  pub place-is : (q : ℕ) → page_on_disk s q ≡ length ram + q
  place-is q = omega (arith, pages)

  -- where the pages that it needs are here, the bus can make it
  pub bus-here : (place : Place) (width word : ℕ) (flags : Pages) → flags.here ≡ ram ++ here_pages parts.block.disk
      → IsMet (needs_at place width word s) flags → IsDiskPageHereAt place parts width word
  bus-here (at_block offset) width word flags is_here met = λ command there.
      let inside : parts.block.sector < sector_count (disk_over parts.block.disk below) = omega (arith, there, length-over parts.block.disk count below) in
      let asked : touched_page (block_over parts.block below) offset width word ≡ Some (page_of_sector parts.block.sector) = grind (arith, nat_tests, command, inside) in
      let touched : touched_page s.ports.block offset width word ≡ Some (page_of_sector parts.block.sector) =
      ap (λ p. touched_page p.block offset width word) ports ∙ asked in
      let one : IsMet (page_on_disk s (page_of_sector parts.block.sector) ∷ []) flags = subst (λ page. IsMet (pages_on_disk s page) flags) touched met in
      get_or_from_slice_get (here_pages parts.block.disk) (page_of_sector parts.block.sector) true false
      (sym (get-disk ram (here_pages parts.block.disk) (page_of_sector parts.block.sector))
      ∙ ap (λ here. slice_get here (length ram + page_of_sector parts.block.sector)) (sym is_here)
      ∙ ap (slice_get flags.here) (sym (place-is (page_of_sector parts.block.sector))) ∙ one.0)
  bus-here _ width word flags is_here met = tt

  -- the page of the disk that is needed, if one is
  module _ (flags : Pages) (is_here : flags.here ≡ ram ++ here_pages parts.block.disk) (place : Place) (width word q : ℕ)
      (touched : disk_page_at place (bus_over parts below) width word ≡ Some q) (there : q < length parts.block.disk.pages) where
    one-needed : needs_at place width word s ≡ (length ram + q) ∷ []
    one-needed =
        ap (λ (p : PortRegisters). pages_on_disk s (disk_page_at place p width word)) ports ∙ ap (pages_on_disk s) touched ∙ ap (λ page. page ∷ []) (place-is q)

    its-flag : (flag : Bool) → is_page_here parts.block.disk q ≡ flag → slice_get flags.here (length ram + q) ≡ Some flag
    its-flag flag is =
        ap (λ here. slice_get here (length ram + q)) is_here
        ∙ flag-disk ram (here_pages parts.block.disk) q flag (omega (arith, there, length-here parts.block.disk)) is

    pub one-met : is_page_here parts.block.disk q ≡ true → IsMet (needs_at place width word s) flags
    one-met here = subst (λ needs. IsMet needs flags) (sym one-needed) (its-flag true here, tt)

    pub one-waits : is_page_here parts.block.disk q ≡ false → WaitsAt (needs_at place width word s) flags (length ram + q)
    one-waits absent = subst (λ needs. WaitsAt needs flags (length ram + q)) (sym one-needed) (inl (refl, its-flag false absent))

-- ---- what a load or a store leaves

pub if_ok-both : {X Y : Type 0} (r : Result X Y) (P Q R : X → Type 0) → ((x : X) → P x → Q x → R x) → IfOk r P → IfOk r Q → IfOk r R
if_ok-both (Ok x) P Q R both p q = both x p q
if_ok-both (Err e) P Q R both p q = tt

-- the ports change alone
pub ports-alone : (registers : List ℕ) (pc : ℕ) (csrs : CsrRegisters) (reservation : Option ℕ) (memory : Ram) (old new : BusParts)
    → here_pages new.block.disk ≡ here_pages old.block.disk → (now : KeyedState) → hart_of registers pc csrs reservation memory old ≡ now
    → hart_of registers pc csrs reservation memory new
    ≡ record now { state = record now.state { ports = bus_over new (disk_below memory.key) } }
ports-alone registers pc csrs reservation memory old new same now is =
    let state : State = (hart_of registers pc csrs reservation memory new).state in
    ap (λ (flags : List Bool). let k : KeyedState = record { state = state; pages = record { here = memory.here ++ flags; blank = memory.blank }; key = memory.key } in k) same
    ∙ ap (λ (k : KeyedState). record k { state = record k.state { ports = state.ports } }) is

pub based-stays : (key : Option Key) (old new : PagedDisk) → here_pages new ≡ here_pages old → new.sectors ≡ old.sectors → IsDiskBased old key → IsDiskBased new key
based-stays (Some key) old new pages sectors based = sectors ∙ based
based-stays None old new pages sectors based = whole_stays old new pages sectors based

pub entries-stay : (old new : PagedDisk) → here_pages new ≡ here_pages old → new.sectors ≡ old.sectors → length old.pages ≡ page_total old.sectors → length new.pages ≡ page_total new.sectors
entries-stay old new pages sectors count =
    sym (length-here new) ∙ ap length pages ∙ length-here old ∙ count ∙ ap page_total (sym sectors)
