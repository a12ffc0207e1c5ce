-- The hart of a clone, and what a hart leaves for its clones.
use Rattle.std.proofs.Common.{◌≡◌, ℕ, ◌*◌, Bool, List, [], ◌∷◌, ◌++◌, length, Option, Some, None, ap, ◌∙◌, arith}
use Rattle.std.specs.Option.{IfSome}
use Rattle.page_frames.specs.declared.page.TheConstants.{PAGE_SIZE}
use Rattle.page_frames.proofs.Memory.{length-paged}
use Rattle.vm_descriptor.specs.Descriptor.{IsRamWord}
use Rattle.vm_descriptor.specs.declared.descriptor.Descriptor.{Descriptor}
use Rattle.cow_disk.specs.declared.disk.TheConstants.{SECTOR_SIZE}
use Rattle.cow_disk.specs.Disk.{sector_count}
use Rattle.cow_disk.specs.Paged.{PagedDisk, IsWholeDisk, absent_disk, disk_over, here_pages, page_total}
use Rattle.cow_disk.proofs.Pages.{absent_reads}
use Rattle.image_depot.specs.Key.{Key, image_of}
use Rattle.elf_load.specs.Image.{Image}
use Rattle.rv_traps.specs.Registers.{at_reset}
use Rattle.rv_traps.specs.declared.registers.CsrRegisters.{CsrRegisters}
use Rattle.vm_bus.specs.Bus.{BusParts, parts_at_boot, parts_of_fields}
use Rattle.guest_mem.specs.Ram.{Ram, IsRam, at_boot, cleared, cloned}
use Rattle.guest_mem.proofs.Making.{cleared_frozen}
use Rattle.forest_model.specs.Paged.{Pages, pages_at_boot}
use Rattle.block_port.specs.Block.{at_start}
use Rattle.port_map.specs.Bus.{ports_at_start, ports_of_fields}
use Rattle.vm_hart.specs.Hart.{IsWordOf, hart_of}
use Rattle.vm_hart.specs.Keyed.{KeyedState}
use Rattle.vm_hart.specs.Seeds.{IsBlankMap, block_on, port_fields, woken_hart}
use Rattle.vm_hart.proofs.Disks.{absent-flags, booted-pages}

pub length-cleared : (blank : List Bool) (memory : List ℕ) → length (cleared blank memory) ≡ PAGE_SIZE * length blank
unfolding cleared
length-cleared blank memory = length-paged (length blank) _

-- what a descriptor reserves lies in RAM of its pages
pub reserved : (reservation : Option ℕ) (pages size : ℕ) → size ≡ PAGE_SIZE * pages → IfSome reservation (IsRamWord pages) → IfSome reservation (IsWordOf size)
reserved None pages size e h = tt
reserved (Some address) pages size e h = record {
  aligned = h.aligned;
  from_base = h.from_base;
  below_end = let below = h.below_end in omega arith;
}

pub blank_map : (ram : Ram) → IsRam ram → IsBlankMap ram.reads ram.blank
blank_map ram is_ram = record {
  one_a_page = let whole = is_ram.whole_pages in let flagged = is_ram.flagged in omega arith;
  zero = cleared_frozen ram is_ram;
}

-- the hart at the start, which has every page
pub booted-is : (registers : List ℕ) (image : Image) (disk : PagedDisk) (input : List ℕ) (allot : ℕ) → length disk.pages ≡ page_total disk.sectors → IsWholeDisk disk
    → hart_of registers image.entry at_reset None (at_boot image) (parts_at_boot disk input allot)
    ≡ record {
      state = record {
        registers = registers;
        pc = image.entry;
        csrs = at_reset;
        reservation = None;
        ram = image.ram;
        ports = ports_at_start (at_start (disk_over disk [])) input allot;
      };
      pages = pages_at_boot image (disk_over disk []);
      key = None;
    }
booted-is registers image disk input allot count whole =
    let with_pages : Pages → KeyedState = λ pages. record {
      state = record {
        registers = registers;
        pc = image.entry;
        csrs = at_reset;
        reservation = None;
        ram = image.ram;
        ports = ports_at_start (at_start (disk_over disk [])) input allot;
      };
      pages = pages;
      key = None;
    } in
    ap with_pages (booted-pages image disk count whole)

-- the hart of a clone, whose disk is absent and so reads as that of the image
woken-is : (d : Descriptor) (siblings : ℕ) (key : Key) (disk : PagedDisk) → disk ≡ absent_disk (sector_count (image_of key).disk)
    → SECTOR_SIZE * sector_count (image_of key).disk ≡ length (image_of key).disk
    → hart_of (0 ∷ d.registers) d.pc d.csrs d.reservation (cloned key d.blank) (parts_of_fields (port_fields d) disk (image_of key).input siblings) ≡ woken_hart d siblings key
woken-is d siblings key disk is whole =
    let image = image_of key in
    let with_disk : PagedDisk → KeyedState = λ dk. hart_of (0 ∷ d.registers) d.pc d.csrs d.reservation (cloned key d.blank) (parts_of_fields (port_fields d) dk image.input siblings) in
    let that_reads : List ℕ → List Bool → KeyedState = λ reads flags. record {
      state = record {
        registers = 0 ∷ d.registers;
        pc = d.pc;
        csrs = d.csrs;
        reservation = d.reservation;
        ram = cleared d.blank image.contents;
        ports = ports_of_fields (port_fields d) (block_on d reads) image.input siblings;
      };
      pages = record { here = d.blank ++ flags; blank = d.blank };
      key = Some key;
    } in
    ap with_disk is
    ∙ ap (λ reads. that_reads reads (here_pages (absent_disk (sector_count image.disk)))) (absent_reads image.disk whole)
    ∙ ap (that_reads image.disk) (absent-flags image.disk)

-- the same of its parts
pub woken-by : (d : Descriptor) (siblings : ℕ) (key : Key) (disk : PagedDisk) (registers : List ℕ) (csrs : CsrRegisters) (memory : Ram) (ports : BusParts) → registers ≡ 0 ∷ d.registers → csrs ≡ d.csrs
    → memory ≡ cloned key d.blank → ports ≡ parts_of_fields (port_fields d) disk (image_of key).input siblings → disk ≡ absent_disk (sector_count (image_of key).disk)
    → SECTOR_SIZE * sector_count (image_of key).disk ≡ length (image_of key).disk → hart_of registers d.pc csrs d.reservation memory ports ≡ woken_hart d siblings key
woken-by d siblings key disk registers csrs memory ports same_registers same_csrs same_memory same_ports absent whole =
    ap (λ r. hart_of r d.pc csrs d.reservation memory ports) same_registers
    ∙ ap (λ s. hart_of (0 ∷ d.registers) d.pc s d.reservation memory ports) same_csrs
    ∙ ap (λ m. hart_of (0 ∷ d.registers) d.pc d.csrs d.reservation m ports) same_memory
    ∙ ap (λ p. hart_of (0 ∷ d.registers) d.pc d.csrs d.reservation (cloned key d.blank) p) same_ports
    ∙ woken-is d siblings key disk absent whole
