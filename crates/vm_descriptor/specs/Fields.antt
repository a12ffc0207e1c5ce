-- The fields of a descriptor that are numbers of their own: where each stands in the bytes, how many bytes it has, and
-- what it may be by itself. x1 to x31, the buffer of the block port, the entries of memory protection and the map of pages are
-- lists, and have no row.
use Rattle.std.specs.Prelude.{ℕ, ◌+◌, ◌%◌, ◌^◌, ◌==◌, nat_le, ◌&&◌, if◌then◌else◌, Bool, true, List, [], ◌∷◌, ◌++◌, bit_and, Option, Some, None}
use Rattle.byteorder.specs.Endian.{little_bytes, little_from}
use Rattle.block_port.specs.Block.{status_word}
use Rattle.console_port.specs.declared.port.TheConstants.{MAX_INPUT}
use Rattle.guest_pmp.specs.declared.access.Mode.{Mode}
use Rattle.guest_pmp.specs.declared.access.Mode.TheVariants.{User, Machine}
use Rattle.rv_traps.specs.Registers.{has_bit, is_mstatus}
use Rattle.vm_descriptor.specs.declared.descriptor.Descriptor.{Descriptor}
use Rattle.vm_descriptor.specs.declared.descriptor.TheConstants.{MAX_CLONES, MAX_SHARE, MAX_LIMIT}

pub data Field : Type 0 where
  Image : Field
  Pages : Field
  CloneId : Field
  Share : Field
  Pc : Field
  Mstatus : Field
  Mie : Field
  Mtvec : Field
  Mscratch : Field
  Mepc : Field
  Mcause : Field
  Mtval : Field
  Mcycle : Field
  Minstret : Field
  Mtime : Field
  Mtimecmp : Field
  Steps : Field
  Limit : Field
  Reserved : Field
  Reservation : Field
  Place : Field
  LineControl : Field
  Sector : Field
  BlockStatus : Field
  Argument0 : Field
  Argument1 : Field
  JoinSelect : Field
  Granted : Field

-- ---- what a number may be by itself

abbrev pub any : ℕ → Bool
any n = true

abbrev pub between : ℕ → ℕ → ℕ → Bool
between least most n = nat_le least n && nat_le n most

abbrev pub up_to : ℕ → ℕ → Bool
up_to most n = nat_le n most

abbrev pub aligned : ℕ → Bool
aligned n = n % 4 == 0

-- the word of mstatus has the mode in bit 31: 1 for user mode
abbrev pub mode_bit : Mode → ℕ
mode_bit User = 2 ^ 31
mode_bit Machine = 0

abbrev pub mode_of : ℕ → Mode
mode_of word = if has_bit word 31 then User else Machine

abbrev pub mstatus_in : ℕ → ℕ
mstatus_in word = word % 2 ^ 31

abbrev pub is_mode_and_mstatus : ℕ → Bool
is_mode_and_mstatus word = is_mstatus (mstatus_in word)

abbrev pub has_only : ℕ → ℕ → Bool
has_only bits n = n == bit_and n bits

-- ---- the table

pub record Row : Type 0 where
  -- the place of the first byte
  pub at : ℕ
  -- how many bytes there are
  pub width : ℕ
  pub range : ℕ → Bool

abbrev pub field : ℕ → ℕ → (ℕ → Bool) → Row
field at width range = record { at = at; width = width; range = range }

-- The pages have their range from the version, and the address of a reservation from the pages.
abbrev pub row : Field → Row
row Image = field 4 4 any
row Pages = field 8 4 any
row CloneId = field 12 4 (between 1 MAX_CLONES)
row Share = field 16 4 (up_to MAX_SHARE)
row Pc = field 20 4 aligned
row Mstatus = field 148 4 is_mode_and_mstatus
row Mie = field 152 4 (has_only 0x80)
row Mtvec = field 156 4 (has_only 0xffff_fffd)
row Mscratch = field 160 4 any
row Mepc = field 164 4 aligned
row Mcause = field 168 4 any
row Mtval = field 172 4 any
row Mcycle = field 176 8 any
row Minstret = field 184 8 any
row Mtime = field 192 8 any
row Mtimecmp = field 200 8 any
row Steps = field 208 8 any
row Limit = field 216 8 (between 1 MAX_LIMIT)
row Reserved = field 224 4 (up_to 1)
row Reservation = field 228 4 any
row Place = field 232 4 (up_to MAX_INPUT)
row LineControl = field 236 4 (up_to 255)
row Sector = field 240 4 any
row BlockStatus = field 244 4 (up_to 2)
row Argument0 = field 248 4 any
row Argument1 = field 252 4 any
row JoinSelect = field 256 4 any
row Granted = field 260 4 any

-- the rows before x1 to x31, and those behind them, in the order of their places
abbrev pub before_registers : List Field
before_registers = Image ∷ Pages ∷ CloneId ∷ Share ∷ Pc ∷ []

abbrev pub behind_registers : List Field
behind_registers =
    Mstatus ∷ Mie ∷ Mtvec ∷ Mscratch ∷ Mepc ∷ Mcause ∷ Mtval
    ∷ Mcycle ∷ Minstret ∷ Mtime ∷ Mtimecmp ∷ Steps ∷ Limit
    ∷ Reserved ∷ Reservation ∷ Place ∷ LineControl ∷ Sector ∷ BlockStatus
    ∷ Argument0 ∷ Argument1 ∷ JoinSelect ∷ Granted ∷ []

-- ---- the numbers

-- a reservation is a number that tells whether there is one, and the address
abbrev pub reserved_of : Option ℕ → ℕ
reserved_of None = 0
reserved_of (Some address) = 1

abbrev pub address_of : Option ℕ → ℕ
address_of None = 0
address_of (Some address) = address

-- the number in a field of a descriptor
abbrev pub number : Descriptor → Field → ℕ
number d Image = d.image
number d Pages = d.pages
number d CloneId = d.clone_id
number d Share = d.share
number d Pc = d.pc
number d Mstatus = mode_bit d.csrs.mode + d.csrs.mstatus
number d Mie = d.csrs.mie
number d Mtvec = d.csrs.mtvec
number d Mscratch = d.csrs.mscratch
number d Mepc = d.csrs.mepc
number d Mcause = d.csrs.mcause
number d Mtval = d.csrs.mtval
number d Mcycle = d.csrs.mcycle
number d Minstret = d.csrs.minstret
number d Mtime = d.timer.mtime
number d Mtimecmp = d.timer.mtimecmp
number d Steps = d.steps
number d Limit = d.limit
number d Reserved = reserved_of d.reservation
number d Reservation = address_of d.reservation
number d Place = d.console.place
number d LineControl = d.console.line_control
number d Sector = d.block.sector
number d BlockStatus = status_word d.block.status
number d Argument0 = d.argument_0
number d Argument1 = d.argument_1
number d JoinSelect = d.join_select
number d Granted = d.granted

-- the number in a field of bytes
abbrev pub number_in : List ℕ → Field → ℕ
number_in bytes f = little_from (row f).at (row f).width bytes

-- the bytes of fields that hold these numbers
abbrev pub spelled : (Field → ℕ) → List Field → List ℕ
spelled numbers [] = []
spelled numbers (f ∷ fields) = little_bytes (row f).width (numbers f) ++ spelled numbers fields

-- each of these numbers is in the range of its field, and then this holds
abbrev pub in_ranges : (Field → ℕ) → List Field → Bool → Bool
in_ranges numbers [] rest = rest
in_ranges numbers (f ∷ fields) rest = (row f).range (numbers f) && in_ranges numbers fields rest
