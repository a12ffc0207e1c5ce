-- What loads make of the bytes of memory, and stores of a register.
-- RISC-V Unprivileged ISA 20191213, section 2.6
use Rattle.std.specs.Prelude.{◌≡◌, ◌⊎◌, ℕ, ◌%◌, ◌^◌, List}
use Rattle.std.specs.Int.{cast_signed, bytes_low_first, w8, w16}
use Rattle.rv_decode.specs.declared.kinds.Kind.{Kind}
use Rattle.rv_decode.specs.declared.kinds.Kind.TheVariants.{Lb, Lh, Lw, Lbu, Lhu, Sb, Sh, Sw}
use Rattle.rv_exec.specs.Words.{word_of}

-- the bytes of a byte, a halfword or a word
abbrev pub IsWidth : ℕ → Type 0
IsWidth width = (width ≡ 1) ⊎ ((width ≡ 2) ⊎ (width ≡ 4))

-- how many bytes a load reads
abbrev pub load_width : Kind → ℕ
load_width Lb = 1
load_width Lh = 2
load_width Lw = 4
load_width Lbu = 1
load_width Lhu = 2
load_width _ = 0

-- what a load writes to rd, where the bytes that it reads are the lowest of a word
abbrev pub load_value : Kind → ℕ → ℕ
load_value Lb word = word_of (cast_signed w8 (word % 2 ^ 8))
load_value Lh word = word_of (cast_signed w16 (word % 2 ^ 16))
load_value Lw word = word
load_value Lbu word = word % 2 ^ 8
load_value Lhu word = word % 2 ^ 16
load_value _ word = 0

-- how many bytes a store writes
abbrev pub store_width : Kind → ℕ
store_width Sb = 1
store_width Sh = 2
store_width Sw = 4
store_width _ = 0

-- what a store writes: that many bytes of the register rs2, from the lowest up
abbrev pub store_bytes : Kind → ℕ → List ℕ
store_bytes kind value = bytes_low_first 0 (store_width kind) value
