-- What holds of every hart.
use Rattle.std.specs.Prelude.{◌≡◌, ℕ, ◌+◌, ◌%◌, ◌<◌, ◌≤◌, List, length, slice_index, Option, IfSome}
use Rattle.elf_load.specs.declared.image.TheConstants.{RAM_BASE}
use Rattle.rv_traps.specs.declared.registers.CsrRegisters.{CsrRegisters}
use Rattle.image_depot.specs.Key.{Key}
use Rattle.guest_mem.specs.Ram.{Ram, IsDiskBased, disk_below}
use Rattle.forest_model.specs.State.{State}
use Rattle.cow_disk.specs.Paged.{PagedDisk, page_total}
use Rattle.vm_bus.specs.Bus.{BusParts, bus_over}
use Rattle.vm_hart.specs.Keyed.{KeyedState, pages_of}

-- what a hart of these parts is. Its disk lies over that of the image of its key
abbrev pub hart_of : List ℕ → ℕ → CsrRegisters → Option ℕ → Ram → BusParts → KeyedState
hart_of registers pc csrs reservation ram ports = record {
  state = record {
    registers = registers;
    pc = pc;
    csrs = csrs;
    reservation = reservation;
    ram = ram.reads;
    ports = bus_over ports (disk_below ram.key);
  };
  pages = pages_of ram ports.block.disk;
  key = ram.key;
}

-- the address of a word of RAM of so many bytes
pub record IsWordOf (size address : ℕ) : Type 0 where
  pub aligned : address % 4 ≡ 0
  pub from_base : RAM_BASE ≤ address
  pub below_end : address < RAM_BASE + size

pub record IsHart (s : State) (key : Option Key) (disk : PagedDisk) : Type 0 where
  -- so a read of x0 needs no test
  pub zero_register : slice_index s.registers 0 ≡ 0
  -- so a word at a pc in RAM lies in RAM whole
  pub aligned : s.pc % 4 ≡ 0
  pub reservation : IfSome s.reservation (IsWordOf (length s.ram))
  -- so there is a flag for each page of the disk
  pub entries : length disk.pages ≡ page_total disk.sectors
  -- so the image of the key has the absent pages of the disk, and without a key none is absent
  pub based : IsDiskBased disk key
