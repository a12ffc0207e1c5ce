-- The word that has the mode and mstatus.
use Rattle.std.proofs.Common.{◌≡◌, ◌≤◌, ◌<◌, ◌+◌, ◌/◌, ◌%◌, ◌^◌, ℕ, ap, refl, true, false, arith}
use Rattle.std.specs.Prelude.{Bool, ◌==◌, if◌then◌else◌}
use Rattle.std.proofs.lemmas.Bool.{eqb-true, eqb-false}
use Rattle.guest_pmp.specs.declared.access.Mode.{Mode}
use Rattle.guest_pmp.specs.declared.access.Mode.TheVariants.{User, Machine}
use Rattle.rv_traps.specs.Registers.{mode_bits, mstatus_of}
use Rattle.vm_descriptor.specs.Fields.{mode_bit, mode_of, mstatus_in}

-- they are read as they were
pub mode_read : (mode : Mode) (mstatus : ℕ) → mstatus < 2 ^ 31 → mode_of (mode_bit mode + mstatus) ≡ mode
mode_read User mstatus below =
    ap (λ (n : ℕ). let mode : Mode = if n % 2 == 1 then User else Machine in mode) (let one : (2 ^ 31 + mstatus) / 2 ^ 31 ≡ 1 = omega (arith, below) in one)
mode_read Machine mstatus below =
    ap (λ (n : ℕ). let mode : Mode = if n % 2 == 1 then User else Machine in mode) (let none : (0 + mstatus) / 2 ^ 31 ≡ 0 = omega (arith, below) in none)

pub mstatus_read : (mode : Mode) (mstatus : ℕ) → mstatus < 2 ^ 31 → mstatus_in (mode_bit mode + mstatus) ≡ mstatus
mstatus_read User mstatus below = omega (arith, below)
mstatus_read Machine mstatus below = omega (arith, below)

-- and spelled as they are read
spelled_by : (user : Bool) (word : ℕ) → (word / 2 ^ 31 % 2 == 1) ≡ user → word < 2 ^ 32 → mode_bit (if user then User else Machine) + word % 2 ^ 31 ≡ word
spelled_by true word is below = let one = eqb-true (word / 2 ^ 31 % 2) 1 is in omega (arith, one, below)
spelled_by false word is below = let none = eqb-false (word / 2 ^ 31 % 2) 1 is in omega (arith, none, below)

pub mode_spelled : (word : ℕ) → word < 2 ^ 32 → mode_bit (mode_of word) + mstatus_in word ≡ word
mode_spelled word below = spelled_by (word / 2 ^ 31 % 2 == 1) word refl below

-- the word has 32 bits
at_most : (b : Bool) (n : ℕ) → (if b then n else 0) ≤ n
at_most true n = omega arith
at_most false n = omega arith

bits_at_most : (mode : Mode) → mode_bits mode ≤ 0x1800
bits_at_most User = omega arith
bits_at_most Machine = omega arith

pub mstatus_small : (mstatus : ℕ) (mie mpie : Bool) (mpp : Mode) (mprv : Bool) → mstatus ≡ mstatus_of mie mpie mpp mprv → mstatus < 2 ^ 31
mstatus_small mstatus mie mpie mpp mprv is =
    omega (arith, is, at_most mie 0x08, at_most mpie 0x80, bits_at_most mpp, at_most mprv 0x2_0000)

pub word_fits : (mode : Mode) (mstatus : ℕ) → mstatus < 2 ^ 31 → mode_bit mode + mstatus < 2 ^ 32
word_fits User mstatus below = omega (arith, below)
word_fits Machine mstatus below = omega (arith, below)
