-- The block port: a disk that is read and written a sector at a time, through a buffer.
use Rattle.std.specs.Prelude.{◌≡◌, ℕ, ◌+◌, ◌-◌, ◌%◌, ◌<◌, ◌==◌, ◌&&◌, ◌||◌, Bool, nat_lt, nat_le, if◌then◌else◌, List, Option, Some, None, IsTrue}
use Rattle.std.specs.Int.{to_le_bytes, w32}
use Rattle.flat_memory.specs.Flat.{word_at, put_bytes, zeros}
use Rattle.cow_disk.specs.declared.disk.TheConstants.{SECTOR_SIZE}
use Rattle.cow_disk.specs.Disk.{sector_count, sector_at, with_sector}
use Rattle.cow_disk.specs.Paged.{PagedDisk, disk_over, is_page_here, page_of_sector}
use Rattle.block_port.specs.declared.registers.TheConstants.{BLOCK_SECTOR, BLOCK_COMMAND, BLOCK_STATUS, BLOCK_COUNT, BLOCK_BUFFER, READ_COMMAND, WRITE_COMMAND}
use Rattle.block_port.specs.declared.status.Status.{Status}
use Rattle.block_port.specs.declared.status.Status.TheVariants.{Done, BadSector, UnknownCommand}

pub record BlockRegisters : Type 0 where
  pub sector : ℕ
  -- what became of the last command
  pub status : Status
  pub buffer : List ℕ
  pub disk : List ℕ

-- the registers of a machine that starts with this disk
abbrev pub at_start : List ℕ → BlockRegisters
at_start disk = record { sector = 0; status = Done; buffer = zeros SECTOR_SIZE; disk = disk }

-- a port, with a disk of which pages may be absent
pub record BlockParts : Type 0 where
  pub sector : ℕ
  pub status : Status
  pub buffer : List ℕ
  pub disk : PagedDisk

abbrev pub parts_at_start : PagedDisk → BlockParts
parts_at_start disk = record { sector = 0; status = Done; buffer = zeros SECTOR_SIZE; disk = disk }

-- its registers, where it lies over a disk that has the absent pages
abbrev pub block_over : BlockParts → List ℕ → BlockRegisters
block_over b below = record { sector = b.sector; status = b.status; buffer = b.buffer; disk = disk_over b.disk below }

abbrev pub status_word : Status → ℕ
status_word Done = 0
status_word BadSector = 1
status_word UnknownCommand = 2

-- the words of the buffer
abbrev pub is_in_buffer : ℕ → Bool
is_in_buffer offset = nat_le BLOCK_BUFFER offset && (nat_lt offset (BLOCK_BUFFER + SECTOR_SIZE) && (offset % 4 == 0))

abbrev pub register_load : BlockRegisters → ℕ → Option ℕ
register_load b offset =
    if offset == BLOCK_SECTOR then Some b.sector
    else (if offset == BLOCK_STATUS then Some (status_word b.status)
    else (if offset == BLOCK_COUNT then Some (sector_count b.disk)
    else (if is_in_buffer offset then Some (word_at b.buffer (offset - BLOCK_BUFFER)) else None)))

-- the registers after a command. One that is refused changes the status alone
abbrev pub commanded : BlockRegisters → ℕ → BlockRegisters
commanded b command =
    if nat_le (sector_count b.disk) b.sector then record b { status = BadSector }
    else (if command == READ_COMMAND then record b { status = Done; buffer = sector_at b.disk b.sector }
    else (if command == WRITE_COMMAND then record b { status = Done; disk = with_sector b.disk b.sector b.buffer }
    else record b { status = UnknownCommand }))

abbrev pub register_store : BlockRegisters → ℕ → ℕ → Option BlockRegisters
register_store b offset word =
    if offset == BLOCK_SECTOR then Some (record b { sector = word })
    else (if offset == BLOCK_COMMAND then Some (commanded b word)
    else (if is_in_buffer offset then Some (record b { buffer = put_bytes b.buffer (offset - BLOCK_BUFFER) (to_le_bytes w32 word) }) else None))

-- A load and a store of a word. They are none exactly where there is no such access: words alone, and a
-- load changes nothing.
abbrev pub block_load : BlockRegisters → ℕ → ℕ → Option ℕ
block_load b offset width = if width == 4 then register_load b offset else None

abbrev pub block_store : BlockRegisters → ℕ → ℕ → ℕ → Option BlockRegisters
block_store b offset width word = if width == 4 then register_store b offset word else None

-- the store writes a sector of the disk
pub record WritesSector (b : BlockRegisters) (offset width word : ℕ) : Type 0 where
  pub a_command : offset ≡ BLOCK_COMMAND
  pub whole : width ≡ 4
  pub writes : word ≡ WRITE_COMMAND
  pub there : b.sector < sector_count b.disk

-- the page of the disk that a store touches: that of the sector which a command reads or writes
abbrev pub is_sector_command : ℕ → ℕ → ℕ → Bool
is_sector_command offset width word = ((word == READ_COMMAND) || (word == WRITE_COMMAND)) && ((offset == BLOCK_COMMAND) && (width == 4))

abbrev pub touched_page : BlockRegisters → ℕ → ℕ → ℕ → Option ℕ
touched_page b offset width word =
    if is_sector_command offset width word && nat_lt b.sector (sector_count b.disk) then Some (page_of_sector b.sector) else None

-- the page that a store touches, if it touches one, is here
abbrev pub IsTouchedHere : BlockParts → ℕ → ℕ → ℕ → Type 0
IsTouchedHere b offset width word =
    IsTrue (is_sector_command offset width word) → b.sector < b.disk.sectors → IsTrue (is_page_here b.disk (page_of_sector b.sector))
