-- Executables of one segment, which goes to one place in RAM and is entered there.
-- System V gABI, "ELF Header" and "Program Header"; RISC-V ELF psABI, "File Header"
use Rattle.std.specs.Prelude.{ℕ, ◌+◌, ◌-◌, Bool, List, [], ◌∷◌, ◌++◌, length, map, replicate}
use Rattle.std.specs.List.{flat_map, range_with_len}
use Rattle.byteorder.specs.Endian.{little_bytes, little_number}
use Rattle.flat_memory.specs.Flat.{zeros}
use Rattle.elf_load.specs.Image.{Image}
use Rattle.elf_load.specs.Elf.{meet, page_start, ram_end}
use Rattle.elf_load.specs.declared.image.TheConstants.{RAM_BASE}

-- the fields of a header
abbrev pub half : ℕ → List ℕ
half n = little_bytes 2 n

abbrev pub word : ℕ → List ℕ
word n = little_bytes 4 n

-- the magic number, 32-bit objects, little endian, version 1, and padding
abbrev pub identification : List ℕ
identification = 0x7f ∷ 0x45 ∷ 0x4c ∷ 0x46 ∷ 1 ∷ 1 ∷ 1 ∷ replicate 9 0

-- the header of an executable for RISC-V that starts at `entry`, with one program header and no sections
abbrev pub elf_header : ℕ → List ℕ
elf_header entry =
    identification
    ++ half 2  -- e_type: ET_EXEC
    ++ half 243  -- e_machine: EM_RISCV
    ++ word 1  -- e_version
    ++ word entry  -- e_entry
    ++ word 52  -- e_phoff
    ++ word 0  -- e_shoff
    ++ word 0  -- e_flags
    ++ half 52  -- e_ehsize
    ++ half 32  -- e_phentsize
    ++ half 1  -- e_phnum
    ++ half 0  -- e_shentsize
    ++ half 0  -- e_shnum
    ++ half 0  -- e_shstrndx

-- the header of a segment of `size` bytes that stands behind the two headers and goes to `base`
abbrev pub program_header : ℕ → ℕ → List ℕ
program_header base size =
    word 1  -- p_type: PT_LOAD
    ++ word 84  -- p_offset
    ++ word base  -- p_vaddr
    ++ word base  -- p_paddr
    ++ word size  -- p_filesz
    ++ word size  -- p_memsz
    ++ word 7  -- p_flags: PF_R, PF_W and PF_X
    ++ word 4  -- p_align

-- both headers
unfoldable pub headers : ℕ → ℕ → List ℕ
headers base size = elf_header base ++ program_header base size

-- an executable with one segment, of these bytes, which goes to `base` and starts there
unfoldable pub elf_of : ℕ → List ℕ → List ℕ
elf_of base code = headers base (length code) ++ code

-- the bytes of instruction words, and the words of such bytes
abbrev pub bytes_of_words : List ℕ → List ℕ
bytes_of_words words = flat_map word words

abbrev pub words_of : List ℕ → List ℕ
words_of (a ∷ b ∷ c ∷ d ∷ bytes) = little_number 4 (a ∷ b ∷ c ∷ d ∷ []) ∷ words_of bytes
words_of _ = []

-- code at `base` with zeros before and behind it, entered at its start
unfoldable pub image_of_code : ℕ → List ℕ → ℕ → Image
image_of_code base code pages =
    let code_end = base + length code in
    record {
      ram = zeros (base - RAM_BASE) ++ (code ++ zeros (ram_end pages - code_end));
      entry = base;
      segments = map (λ page. meet base code_end (page_start page) (page_start (page + 1))) (range_with_len 0 pages);
    }
