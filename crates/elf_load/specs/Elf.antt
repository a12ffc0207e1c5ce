-- Which files are loaded, and what loading one gives: ELF executables for RV32.
-- System V gABI, "ELF Header" and "Program Header"; RISC-V ELF psABI, "File Header"
use Rattle.std.specs.Prelude.{◌≡◌, ℕ, ◌+◌, ◌-◌, ◌*◌, ◌%◌, ◌<◌, ◌≤◌, ◌==◌, Bool, true, false, not, ◌&&◌, ◌||◌, nat_eq, nat_lt, nat_le, max, min}
use Rattle.std.specs.Prelude.{if◌then◌else◌, List, [], ◌∷◌, ◌++◌, length, map, filter, slice_index, Option, Some, None, Result, Ok, Err, ⊤}
use Rattle.std.specs.List.{list_any, range_with_len, slice_range, starts_with}
use Rattle.flat_memory.specs.Flat.{half_at, word_at}
use Rattle.elf_load.specs.Image.{Image}
use Rattle.elf_load.specs.declared.error.ImageError.{ImageError}
use Rattle.elf_load.specs.declared.error.ImageError.TheVariants.{Refused, Memory}
use Rattle.elf_load.specs.declared.header.Header.{Header}
use Rattle.elf_load.specs.declared.header.TheConstants.{MAGIC, HEADER_SIZE, ELFCLASS32, ELFDATA2LSB, EV_CURRENT, ET_EXEC, EM_RISCV, PN_XNUM}
use Rattle.elf_load.specs.declared.image.TheConstants.{RAM_BASE}
use Rattle.page_frames.specs.declared.page.TheConstants.{PAGE_SIZE}
use Rattle.elf_load.specs.declared.segment.Segment.{Segment}
use Rattle.elf_load.specs.declared.segment.TheConstants.{PROGRAM_HEADER_SIZE, PT_LOAD}

-- ---- the fields that are read. What stands behind the end of a file reads as 0

-- of the ELF header
abbrev pub ei_class : List ℕ → ℕ
ei_class file = slice_index file 4

abbrev pub ei_data : List ℕ → ℕ
ei_data file = slice_index file 5

abbrev pub ei_version : List ℕ → ℕ
ei_version file = slice_index file 6

abbrev pub e_type : List ℕ → ℕ
e_type file = half_at file 16

abbrev pub e_machine : List ℕ → ℕ
e_machine file = half_at file 18

abbrev pub e_version : List ℕ → ℕ
e_version file = word_at file 20

abbrev pub e_entry : List ℕ → ℕ
e_entry file = word_at file 24

abbrev pub e_phoff : List ℕ → ℕ
e_phoff file = word_at file 28

abbrev pub e_phentsize : List ℕ → ℕ
e_phentsize file = half_at file 42

abbrev pub e_phnum : List ℕ → ℕ
e_phnum file = half_at file 44

-- of the program header that begins at a place of the file
abbrev pub p_type : List ℕ → ℕ → ℕ
p_type file at = word_at file at

abbrev pub p_offset : List ℕ → ℕ → ℕ
p_offset file at = word_at file (at + 4)

abbrev pub p_paddr : List ℕ → ℕ → ℕ
p_paddr file at = word_at file (at + 12)

abbrev pub p_filesz : List ℕ → ℕ → ℕ
p_filesz file at = word_at file (at + 16)

abbrev pub p_memsz : List ℕ → ℕ → ℕ
p_memsz file at = word_at file (at + 20)

-- ---- the segments

-- the segment of a program header, whose bytes go to its physical address
unfoldable pub segment_at : List ℕ → ℕ → Segment
segment_at file at =
    record {
      offset = p_offset file at;
      address = p_paddr file at;
      file_size = p_filesz file at;
      memory_size = p_memsz file at;
    }

-- the places of so many program headers in a table
abbrev pub places : ℕ → ℕ → List ℕ
places table count = map (λ n. table + PROGRAM_HEADER_SIZE * n) (range_with_len 0 count)

-- what the program headers of type PT_LOAD at these places say
unfoldable pub loads_among : List ℕ → List ℕ → List Segment
loads_among file headers = map (segment_at file) (filter (λ at. p_type file at == PT_LOAD) headers)

abbrev pub loads_of : List ℕ → List Segment
loads_of file = loads_among file (places (e_phoff file) (e_phnum file))

-- those of them that place a byte
abbrev pub non_empty : List Segment → List Segment
non_empty segments = filter (λ s. nat_lt 0 s.memory_size) segments

abbrev pub segments_of : List ℕ → List Segment
segments_of file = non_empty (loads_of file)

-- where a segment ends, where RAM ends, and where a page of RAM begins
abbrev pub end_of : Segment → ℕ
end_of s = s.address + s.memory_size

abbrev pub ram_end : ℕ → ℕ
ram_end pages = RAM_BASE + PAGE_SIZE * pages

abbrev pub page_start : ℕ → ℕ
page_start page = RAM_BASE + PAGE_SIZE * page

-- whether two ranges of addresses have one in common, each from a start up to an end
abbrev pub meet : ℕ → ℕ → ℕ → ℕ → Bool
meet start end other_start other_end = nat_lt (max start other_start) (min end other_end)

-- ---- what is refused

abbrev pub is_short : List ℕ → Bool
is_short file = nat_lt (length file) HEADER_SIZE

abbrev pub has_other_magic : List ℕ → Bool
has_other_magic file = not (starts_with nat_eq file MAGIC)

abbrev pub has_other_class : List ℕ → Bool
has_other_class file =
    not (ei_class file == ELFCLASS32) || not (ei_data file == ELFDATA2LSB) || not (ei_version file == EV_CURRENT)
    || not (e_version file == EV_CURRENT)

abbrev pub has_other_type : List ℕ → Bool
has_other_type file = not (e_type file == ET_EXEC)

abbrev pub has_other_machine : List ℕ → Bool
has_other_machine file = not (e_machine file == EM_RISCV)

-- PN_XNUM marks a count that stands elsewhere
abbrev pub has_other_table : List ℕ → Bool
has_other_table file = not (e_phentsize file == PROGRAM_HEADER_SIZE) || e_phnum file == PN_XNUM

abbrev pub is_cut_in_table : List ℕ → Bool
is_cut_in_table file = nat_lt (length file) (e_phoff file + PROGRAM_HEADER_SIZE * e_phnum file)

-- of a segment: more bytes in the file than in memory, bytes behind the end of the file, bytes out of RAM
abbrev pub is_overfull : Segment → Bool
is_overfull s = nat_lt s.memory_size s.file_size

abbrev pub is_cut : List ℕ → Segment → Bool
is_cut file s = nat_lt (length file) (s.offset + s.file_size)

abbrev pub is_outside : ℕ → Segment → Bool
is_outside pages s = nat_lt s.address RAM_BASE || nat_lt (ram_end pages) (end_of s)

abbrev pub shares : Segment → Segment → Bool
shares s t = meet s.address (end_of s) t.address (end_of t)

-- whether any two of the segments share a byte
abbrev pub overlap : List Segment → Bool
overlap [] = false
overlap (s ∷ others) = list_any (shares s) others || overlap others

abbrev pub is_entry : ℕ → ℕ → Bool
is_entry pages address = address % 4 == 0 && (nat_le RAM_BASE address && nat_lt address (ram_end pages))

-- the rules, each with its number and whether a file breaks it
unfoldable pub header_rules : List ℕ → List (ℕ × Bool)
header_rules file =
    (1, is_short file)
    ∷ (2, has_other_magic file)
    ∷ (3, has_other_class file)
    ∷ (4, has_other_type file)
    ∷ (5, has_other_machine file)
    ∷ (6, has_other_table file)
    ∷ (7, is_cut_in_table file)
    ∷ []

unfoldable pub place_rules : List ℕ → ℕ → List Segment → ℕ → List (ℕ × Bool)
place_rules file pages segments entry =
    (9, list_any (is_cut file) segments)
    ∷ (10, list_any (is_outside pages) segments)
    ∷ (11, overlap segments)
    ∷ (12, not (is_entry pages entry))
    ∷ []

unfoldable pub rules_of : List ℕ → ℕ → List (ℕ × Bool)
rules_of file pages =
    header_rules file
    ++ ((8, list_any is_overfull (loads_of file)) ∷ place_rules file pages (segments_of file) (e_entry file))

-- the number of the first rule that is broken
abbrev pub first_broken : List (ℕ × Bool) → Option ℕ
first_broken [] = None
first_broken (rule ∷ others) = if rule.1 then Some rule.0 else first_broken others

-- ---- what is loaded

abbrev pub covers : Segment → ℕ → Bool
covers s address = nat_le s.address address && nat_lt address (end_of s)

-- the byte that a segment has at an address that it covers: one of the file, or zero behind those
abbrev pub segment_byte : List ℕ → Segment → ℕ → ℕ
segment_byte file s address = if nat_lt address (s.address + s.file_size) then slice_index file (s.offset + (address - s.address)) else 0

-- the byte of RAM at an address: that of the segment that covers it, or zero
abbrev pub byte_at : List ℕ → List Segment → ℕ → ℕ
byte_at file [] address = 0
byte_at file (s ∷ others) address = if covers s address then segment_byte file s address else byte_at file others address

unfoldable pub ram_of : List ℕ → List Segment → ℕ → List ℕ
ram_of file placed pages = map (λ at. byte_at file placed (RAM_BASE + at)) (range_with_len 0 (PAGE_SIZE * pages))

-- those of some bytes that fall in a page of RAM, where they begin at a place of it
abbrev pub part_in : ℕ → ℕ → List ℕ → List ℕ
part_in page start content = slice_range content (min (PAGE_SIZE * page - start) (length content)) (min (PAGE_SIZE * page + PAGE_SIZE - start) (length content))

-- whether a byte of a segment falls in a page of RAM
abbrev pub touches : ℕ → Segment → Bool
touches page s = meet s.address (end_of s) (page_start page) (page_start (page + 1))

unfoldable pub pages_of : List Segment → ℕ → List Bool
pages_of placed pages = map (λ page. list_any (touches page) placed) (range_with_len 0 pages)

unfoldable pub image_of : List ℕ → ℕ → Image
image_of file pages =
    record {
      ram = ram_of file (segments_of file) pages;
      entry = e_entry file;
      segments = pages_of (segments_of file) pages;
    }

abbrev pub unless_refused : Option ℕ → Image → Result Image ℕ
unless_refused None image = Ok image
unless_refused (Some number) image = Err number

-- what loading a file into so many pages of RAM gives, or the number of its refusal
unfoldable pub loaded : List ℕ → ℕ → Result Image ℕ
loaded file pages = unless_refused (first_broken (rules_of file pages)) (image_of file pages)

-- when each error comes. Out of memory may come at any time
abbrev pub IsRefused : List ℕ → ℕ → ImageError → Type 0
IsRefused file pages (Refused number) = loaded file pages ≡ Err number
IsRefused file pages Memory = ⊤

-- the error has the number of the rule that is broken, if one is
abbrev pub NamesRule : Option ℕ → ImageError → Type 0
NamesRule broken (Refused number) = broken ≡ Some number
NamesRule broken Memory = ⊤

-- what the loader takes from the header of a file, whose program headers end within it
pub record IsHeaderOf (file : List ℕ) (header : Header) : Type 0 where
  pub entry : header.entry ≡ e_entry file
  pub table : header.table ≡ e_phoff file
  pub count : header.count ≡ e_phnum file
  pub within : header.table + PROGRAM_HEADER_SIZE * header.count ≤ length file

-- a segment has its bytes in the file, and no more of them than it has in memory
pub record IsInFile (file : List ℕ) (s : Segment) : Type 0 where
  pub within : s.offset + s.file_size ≤ length file
  pub fits : s.file_size ≤ s.memory_size

-- a segment places a byte, and all that it places is in RAM
pub record IsInRam (pages : ℕ) (s : Segment) : Type 0 where
  pub not_empty : 0 < s.memory_size
  pub from_base : RAM_BASE ≤ s.address
  pub within : end_of s ≤ ram_end pages

-- a segment ends before another begins
abbrev pub IsBelow : Segment → Segment → Type 0
IsBelow low high = end_of low ≤ high.address
