-- The regions of memory that the entries match, in whole numbers.
-- RISC-V Privileged ISA 20211203, section 3.7.1.1
use Rattle.std.specs.Prelude.{ℕ, ◌+◌, ◌*◌, ◌/◌, ◌^◌, ◌==◌, ◌&&◌, Bool, nat_le, nat_lt, if◌then◌else◌, List, [], ◌∷◌, Option}
use Rattle.std.specs.Int.{w32, trailing_ones}
use Rattle.std.specs.List.{find}
use Rattle.std.specs.Option.{option_map}
use Rattle.guest_pmp.specs.declared.registers.PmpRegisters.{PmpRegisters}
use Rattle.guest_pmp.specs.Registers.{matching}

-- an entry's byte, and the words of memory that it matches: from `first` up to but not `behind`
pub record Entry : Type 0 where
  pub configuration : ℕ
  pub first : ℕ
  pub behind : ℕ

abbrev pub ranged : ℕ → ℕ → ℕ → Entry
ranged byte first behind = record { configuration = byte; first = first; behind = behind }

-- a naturally aligned power of two: the ones at the low end of the address word tell its size, and are no part of
-- where it begins
abbrev pub block : ℕ → ℕ → Entry
block byte word =
    let words : ℕ = 2 ^ (trailing_ones w32 word + 1) in
    ranged byte (word / words * words) (word / words * words + words)

-- The entry of a byte and an address word, behind an entry whose address word is `below`. An entry that is off
-- matches nothing.
abbrev pub entry_of : ℕ → ℕ → ℕ → Entry
entry_of byte below word =
    if matching byte == 0 then ranged byte 0 0
    else if matching byte == 1 then ranged byte below word
    else if matching byte == 2 then ranged byte word (word + 1)
    else block byte word

-- a word has four bytes
abbrev pub has : ℕ → Entry → Bool
has address e = nat_le (4 * e.first) address && nat_lt address (4 * e.behind)

-- the entries of these bytes and address words, in order
abbrev pub entries_from : ℕ → List ℕ → List ℕ → List Entry
entries_from below [] words = []
entries_from below (byte ∷ bytes) [] = []
entries_from below (byte ∷ bytes) (word ∷ words) = entry_of byte below word ∷ entries_from word bytes words

-- the byte of the first of these entries that matches an address
abbrev pub deciding_from : ℕ → List ℕ → List ℕ → ℕ → Option ℕ
deciding_from below bytes words address =
    option_map (λ e. e.configuration) (find (has address) (entries_from below bytes words))

-- the byte of the entry that decides: the first that matches
unfoldable pub deciding : PmpRegisters → ℕ → Option ℕ
deciding r address = deciding_from 0 r.configurations r.addresses address
