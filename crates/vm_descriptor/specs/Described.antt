-- The bytes of a descriptor, and why others are none. All numbers are little endian.
use Rattle.std.specs.Prelude.{◌≡◌, ◌≤◌, ⊤, ℕ, zero, suc, ◌+◌, ◌*◌, ◌%◌, ◌^◌, ◌==◌, slice_index, nat_le, nat_lt, not, ◌&&◌, ◌⊎◌, Bool, true, false}
use Rattle.std.specs.Prelude.{if◌then◌else◌, ◌<◌, List, [], ◌∷◌, ◌++◌, length, take, drop, Option, Some, None, Result, Ok, Err}
use Rattle.std.specs.List.{flat_map, list_all}
use Rattle.std.specs.Option.{ForSome, option_or}
use Rattle.byteorder.specs.Endian.{little_bytes, little_from}
use Rattle.block_port.specs.declared.status.Status.{Status}
use Rattle.block_port.specs.declared.status.Status.TheVariants.{Done, BadSector, UnknownCommand}
use Rattle.guest_pmp.specs.declared.registers.PmpRegisters.{PmpRegisters}
use Rattle.guest_pmp.specs.Registers.{at_reset as no_entries, is_configuration}
use Rattle.rv_traps.specs.declared.registers.CsrRegisters.{CsrRegisters}
use Rattle.rv_traps.specs.Registers.{is_mstatus}
use Rattle.elf_load.specs.declared.image.TheConstants.{RAM_BASE}
use Rattle.page_frames.specs.declared.page.TheConstants.{PAGE_SIZE}
use Rattle.vm_descriptor.specs.declared.error.DescError.{DescError}
use Rattle.vm_descriptor.specs.declared.error.DescError.TheVariants.{Refused, Memory}
use Rattle.vm_descriptor.specs.declared.descriptor.Descriptor.{Descriptor}
use Rattle.vm_descriptor.specs.declared.version.Version.{Version}
use Rattle.vm_descriptor.specs.Fields.{Field, aligned, between, has_only, mode_of, mstatus_in, number}
use Rattle.vm_descriptor.specs.Fields.{number_in, row, spelled, in_ranges, before_registers, behind_registers}
use Rattle.vm_descriptor.specs.Fields as field
use Rattle.vm_descriptor.specs.Maps.{flags_as, form_of, is_due, is_whole, map_as, map_of, misread}
use Rattle.vm_descriptor.specs.Versions.{IsVersion, version_1, version_2, version_3, version_of, versions}

-- ---- the bytes

abbrev pub word : ℕ → List ℕ
word n = little_bytes 4 n

abbrev pub double : ℕ → List ℕ
double n = little_bytes 8 n

-- what stands before the buffer of the block port
abbrev pub before_buffer : List ℕ → Descriptor → List ℕ
before_buffer mark d =
    mark ++ (spelled (number d) before_registers ++ (flat_map word d.registers ++ spelled (number d) behind_registers))

-- the entries of memory protection, in a version that has them: their bytes, and then their addresses
abbrev pub entries_as : Bool → PmpRegisters → List ℕ
entries_as true pmp = pmp.configurations ++ flat_map word pmp.addresses
entries_as false pmp = []

-- the spelling of a descriptor in a version
unfoldable pub described_as : Version → Descriptor → List ℕ
described_as version d =
    before_buffer version.mark d ++ (d.block.buffer ++ (entries_as version.has_entries d.csrs.pmp ++ map_as version.has_forms d.blank))

-- the spelling in the newest version; in the second, which tells of no entries; and in the first, which tells of no more than
-- 1,024 pages either
abbrev pub described : Descriptor → List ℕ
described d = described_as version_3 d

abbrev pub described_v2 : Descriptor → List ℕ
described_v2 d = described_as version_2 d

abbrev pub described_old : Descriptor → List ℕ
described_old d = described_as version_1 d

-- a version that has no entries tells that all of them are 0
abbrev pub AreTold : Bool → PmpRegisters → Type 0
AreTold true pmp = ⊤
AreTold false pmp = pmp ≡ no_entries

-- these bytes are the spelling of a descriptor in one of these versions, which can tell of its pages and entries
abbrev pub IsSpelledIn : List Version → Descriptor → List ℕ → Type 0
IsSpelledIn [] d bytes = ⊥
IsSpelledIn (version ∷ others) d bytes =
    ((d.pages ≤ version.most_pages) × AreTold version.has_entries d.csrs.pmp × (bytes ≡ described_as version d)) ⊎ IsSpelledIn others d bytes

-- in any version
abbrev pub IsSpelling : Descriptor → List ℕ → Type 0
IsSpelling d bytes = IsSpelledIn versions d bytes

-- ---- what bytes say

-- so many numbers of a width from a place on
unfoldable pub numbers_from : ℕ → ℕ → ℕ → List ℕ → List ℕ
numbers_from width zero at bytes = []
numbers_from width (suc count) at bytes = little_from at width bytes ∷ numbers_from width count (at + width) bytes

abbrev pub status_of : ℕ → Status
status_of word = if word == 0 then Done else (if word == 1 then BadSector else UnknownCommand)

abbrev pub reservation_of : ℕ → ℕ → Option ℕ
reservation_of reserved address = if reserved == 0 then None else Some address

-- the control and status registers
abbrev pub csrs_of : (Field → ℕ) → PmpRegisters → CsrRegisters
csrs_of numbers entries = record {
  mode = mode_of (numbers field.Mstatus);
  mstatus = mstatus_in (numbers field.Mstatus);
  mie = numbers field.Mie;
  mtvec = numbers field.Mtvec;
  mscratch = numbers field.Mscratch;
  mepc = numbers field.Mepc;
  mcause = numbers field.Mcause;
  mtval = numbers field.Mtval;
  mcycle = numbers field.Mcycle;
  minstret = numbers field.Minstret;
  pmp = entries;
}

-- the entries of memory protection in bytes of a version
abbrev pub entries_in : Bool → List ℕ → PmpRegisters
entries_in true bytes = record { configurations = take 8 (drop 776 bytes); addresses = numbers_from 4 8 784 bytes }
entries_in false bytes = no_entries

-- the descriptor with these numbers, entries of memory protection, x1 to x31, buffer of the block port and flags of pages
abbrev pub descriptor_of : (Field → ℕ) → PmpRegisters → List ℕ → List ℕ → List Bool → Descriptor
descriptor_of numbers entries registers buffer blank = record {
  image = numbers field.Image;
  pages = numbers field.Pages;
  clone_id = numbers field.CloneId;
  share = numbers field.Share;
  pc = numbers field.Pc;
  registers = registers;
  csrs = csrs_of numbers entries;
  timer = record { mtime = numbers field.Mtime; mtimecmp = numbers field.Mtimecmp };
  steps = numbers field.Steps;
  limit = numbers field.Limit;
  reservation = reservation_of (numbers field.Reserved) (numbers field.Reservation);
  console = record { place = numbers field.Place; line_control = numbers field.LineControl };
  block = record { sector = numbers field.Sector; status = status_of (numbers field.BlockStatus); buffer = buffer };
  argument_0 = numbers field.Argument0;
  argument_1 = numbers field.Argument1;
  join_select = numbers field.JoinSelect;
  granted = numbers field.Granted;
  blank = blank;
}

-- what bytes of a version say
unfoldable pub read_as : Version → List ℕ → Descriptor
read_as version bytes =
    descriptor_of (number_in bytes) (entries_in version.has_entries bytes) (numbers_from 4 31 24 bytes) (take 512 (drop 264 bytes))
    (flags_as version.has_forms (number_in bytes field.Pages) (drop version.fields bytes))

-- what bytes say. Those of no version say nothing, and are read as of the newest
abbrev pub read_by : Option Version → List ℕ → Descriptor
read_by (Some version) bytes = read_as version bytes
read_by None bytes = read_as version_3 bytes

abbrev pub read : List ℕ → Descriptor
read bytes = read_by (version_of bytes) bytes

-- ---- why bytes are none

-- there is none and the address is 0, or the address is that of a word of RAM
abbrev pub is_reservation : ℕ → ℕ → ℕ → Bool
is_reservation pages reserved address =
    if reserved == 0 then address == 0
    else (address % 4 == 0 && (nat_le RAM_BASE address && nat_lt address (RAM_BASE + PAGE_SIZE * pages)))

-- what a number may be beside another
abbrev pub agree : (Field → ℕ) → Bool
agree numbers =
    nat_le (numbers field.Steps) (numbers field.Limit)
    && is_reservation (numbers field.Pages) (numbers field.Reserved) (numbers field.Reservation)

-- the control and status registers are in range
abbrev pub are_csrs : CsrRegisters → Bool
are_csrs csrs = is_mstatus csrs.mstatus && (has_only 0x80 csrs.mie && (has_only 0xffff_fffd csrs.mtvec && aligned csrs.mepc))

-- each field is in its range
unfoldable pub are_in_range : (Field → ℕ) → Bool
are_in_range numbers = in_ranges numbers before_registers (in_ranges numbers behind_registers (agree numbers))

-- each byte of an entry is one that a register can hold
abbrev pub are_entries : PmpRegisters → Bool
are_entries entries = list_all is_configuration entries.configurations

-- the number of the first reason why bytes are none of this version, but that the other form of the map is due
unfoldable pub unread : Version → List ℕ → Option ℕ
unread version bytes =
    let pages = number_in bytes field.Pages in
    let rest = drop version.fields bytes in
    if not (between version.least_pages version.most_pages pages) then Some 3
    else if not (nat_le version.fields (length bytes) && is_whole version.has_forms pages rest) then Some 4
    else if not (are_in_range (number_in bytes) && are_entries (entries_in version.has_entries bytes)) then Some 5
    else misread (form_of version.has_forms rest) pages (map_of version.has_forms rest)

-- that the other form is due
abbrev pub undue : Version → List ℕ → Option ℕ
undue version bytes =
    let rest = drop version.fields bytes in
    if is_due version.has_forms (form_of version.has_forms rest) (flags_as version.has_forms (number_in bytes field.Pages) rest) then None
    else Some 7

-- the number of the first reason why bytes are none of this version
abbrev pub refused_as : Version → List ℕ → Option ℕ
refused_as version bytes = option_or (unread version bytes) (undue version bytes)

abbrev pub refused_by : Option Version → List ℕ → Option ℕ
refused_by (Some version) bytes = refused_as version bytes
refused_by None bytes = Some 2

-- the number of the first reason why bytes are no descriptor, if there is one
abbrev pub refused : List ℕ → Option ℕ
refused bytes = if nat_lt (length bytes) 776 then Some 1 else refused_by (version_of bytes) bytes

-- these bytes are refused for the reason that is told
abbrev pub IsRefused : List ℕ → DescError → Type 0
IsRefused bytes (Refused number) = refused bytes ≡ Some number
IsRefused bytes Memory = ⊤

-- no reason refuses bytes of this version, but maybe that the other form of the map is due
pub record IsReadable (version : Version) (bytes : List ℕ) : Type 0 where
  pub known : IsVersion version
  pub long : 776 ≤ length bytes
  pub marked : version_of bytes ≡ Some version
  pub unread : unread version bytes ≡ None

-- the answer is such a value, or there is no memory for it
abbrev pub IsGiven : {T : Type 0} → (T → Type 0) → Result T DescError → Type 0
IsGiven P (Ok found) = P found
IsGiven P (Err (Refused number)) = ⊥
IsGiven P (Err Memory) = ⊤

-- the answer is this descriptor, or there is no memory for it
abbrev pub IsReadAs : Descriptor → Result Descriptor DescError → Type 0
IsReadAs d answer = IsGiven (λ found. found ≡ d) answer

-- ---- what the types of the fields say

abbrev pub AreWords : List ℕ → Type 0
AreWords words = (i : ℕ) → slice_index words i < 2 ^ 32

-- each number fits in the bytes of its field, and mstatus below the mode; words have 32 bits; there are 31 registers, 512 bytes
-- in the buffer and eight entries; and the map has a flag for each page, so many that the length of a run of them fits in two
-- bytes
pub record Fits (d : Descriptor) : Type 0 where
  pub numbers : (f : Field) → number d f < 256 ^ (row f).width
  pub mstatus : d.csrs.mstatus < 2 ^ 31
  pub line_control : d.console.line_control < 2 ^ 8
  pub registers : AreWords d.registers
  pub each : length d.registers ≡ 31
  pub buffer : length d.block.buffer ≡ 512
  pub configurations : length d.csrs.pmp.configurations ≡ 8
  pub addresses : length d.csrs.pmp.addresses ≡ 8
  pub words : AreWords d.csrs.pmp.addresses
  pub map : length d.blank ≡ d.pages
  pub runs : d.pages < 2 ^ 16

-- bytes that are kept, of the newest version, are those of the descriptor that they are read as
pub record IsKept (bytes : List ℕ) : Type 0 where
  pub fits : Fits (read_as version_3 bytes)
  pub spelled : described (read_as version_3 bytes) ≡ bytes

-- what a seed keeps: such bytes, and maybe the table with which each clone starts, which has the blank pages that they tell
pub record IsKeptWith (bytes : List ℕ) (table : Option (List Bool)) : Type 0 where
  pub kept : IsKept bytes
  pub shared : ForSome table (λ blank. blank ≡ (read_as version_3 bytes).blank)
