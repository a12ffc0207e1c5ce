-- What the registers of physical memory protection hold, read and keep.
-- RISC-V Privileged ISA 20211203, sections 3.7.1 and 3.7.1.2
use Rattle.std.specs.Prelude.{ℕ, ◌+◌, ◌-◌, ◌*◌, ◌/◌, ◌%◌, ◌^◌, ◌≤◌, ◌⊎◌, ◌==◌, ◌&&◌, ◌||◌, not, Bool, nat_le}
use Rattle.std.specs.Prelude.{nat_lt, if◌then◌else◌, List, replicate, slice_index, slice_set, bit_and}
use Rattle.std.specs.List.{AllPass, list_any}
use Rattle.guest_pmp.specs.declared.registers.PmpRegisters.{PmpRegisters}
use Rattle.guest_pmp.specs.declared.registers.TheConstants.{PMPCFG0, PMPCFG3, PMPADDR0, PMPADDR15}

-- the bit of a byte at this place is 1
abbrev pub has_bit : ℕ → ℕ → Bool
has_bit byte place = byte / 2 ^ place % 2 == 1

-- An entry's byte: R, W, X, how the entry matches addresses (0 off, 1 top of range, 2 four bytes, 3 a naturally
-- aligned power of two), and L, which locks the entry
abbrev pub can_read : ℕ → Bool
can_read byte = has_bit byte 0

abbrev pub can_write : ℕ → Bool
can_write byte = has_bit byte 1

abbrev pub can_execute : ℕ → Bool
can_execute byte = has_bit byte 2

abbrev pub matching : ℕ → ℕ
matching byte = byte / 8 % 4

abbrev pub is_locked : ℕ → Bool
is_locked byte = has_bit byte 7

-- bits 6:5 of a byte read 0
abbrev pub kept : ℕ → ℕ
kept byte = bit_and byte 0x9f

-- a byte has no bits but those, and W only with R
abbrev pub is_configuration : ℕ → Bool
is_configuration byte = (byte == kept byte) && (can_read byte || not (can_write byte))

abbrev pub IsInRange : PmpRegisters → Type 0
IsInRange r = AllPass is_configuration r.configurations

-- the registers of a machine that starts
abbrev pub at_reset : PmpRegisters
at_reset = record { configurations = replicate 8 0; addresses = replicate 8 0 }

abbrev pub has_lock : PmpRegisters → Bool
has_lock r = list_any is_locked r.configurations

-- the numbers of the registers
abbrev pub IsNumber : ℕ → Type 0
IsNumber number = (PMPCFG0 ≤ number) × (number ≤ PMPCFG3) ⊎ (PMPADDR0 ≤ number) × (number ≤ PMPADDR15)

-- four bytes as a little-endian word
abbrev pub word_from : List ℕ → ℕ → ℕ
word_from bytes first =
    slice_index bytes first
    + 2 ^ 8 * slice_index bytes (first + 1)
    + 2 ^ 16 * slice_index bytes (first + 2)
    + 2 ^ 24 * slice_index bytes (first + 3)

-- What a register reads: the bytes of four entries, or the address of one. There are eight entries; the registers
-- of more read 0.
abbrev pub reading : PmpRegisters → ℕ → ℕ
reading r number =
    if number == 0x3a0 then word_from r.configurations 0
    else if number == 0x3a1 then word_from r.configurations 4
    else if nat_le 0x3b0 number && nat_le number 0x3b7 then slice_index r.addresses (number - 0x3b0)
    else 0

-- an entry's byte after a write: it stays where it is locked, and where the new one would be W without R
abbrev pub written_byte : ℕ → ℕ → ℕ
written_byte old byte = if is_locked old || not (is_configuration (kept byte)) then old else kept byte

abbrev pub with_byte : PmpRegisters → ℕ → ℕ → PmpRegisters
with_byte r entry byte = record r {
  configurations = slice_set r.configurations entry (written_byte (slice_index r.configurations entry) byte);
}

-- the bytes of four entries are written
abbrev pub with_word : PmpRegisters → ℕ → ℕ → PmpRegisters
with_word r first word =
    with_byte
    (with_byte
    (with_byte
    (with_byte r first (word % 2 ^ 8))
    (first + 1) (word / 2 ^ 8 % 2 ^ 8))
    (first + 2) (word / 2 ^ 16 % 2 ^ 8))
    (first + 3) (word / 2 ^ 24 % 2 ^ 8)

-- An entry's address is locked with it, and with the next entry where this address is the lower end of that one's
-- range.
abbrev pub is_guarded : PmpRegisters → ℕ → Bool
is_guarded r entry =
    is_locked (slice_index r.configurations entry)
    || (nat_lt (entry + 1) 8
    && (is_locked (slice_index r.configurations (entry + 1)) && (matching (slice_index r.configurations (entry + 1)) == 1)))

abbrev pub with_address : PmpRegisters → ℕ → ℕ → PmpRegisters
with_address r entry address =
    if is_guarded r entry then r else record r { addresses = slice_set r.addresses entry address }

-- the registers after a write; those of more than eight entries keep nothing
abbrev pub written : PmpRegisters → ℕ → ℕ → PmpRegisters
written r number word =
    if number == 0x3a0 then with_word r 0 word
    else if number == 0x3a1 then with_word r 4 word
    else if nat_le 0x3b0 number && nat_le number 0x3b7 then with_address r (number - 0x3b0) word
    else r
