-- Registers hold whole numbers below 2 ^ 32. How they are read as signed numbers, and what is kept of
-- a number that lies outside. RISC-V Unprivileged ISA 20191213, section 2.1
use Rattle.std.specs.Prelude.{ℕ, ◌^◌, ℤ, pos, unsigned_abs}
use Rattle.std.specs.Int.{cast_signed, int_div_euclid, int_rem_euclid, w32}

-- a word in two's complement: from 2 ^ 31 on it stands for the number that is 2 ^ 32 less
abbrev pub signed : ℕ → ℤ
signed word = cast_signed w32 word

-- a whole number modulo 2 ^ 32
abbrev pub word_of : ℤ → ℕ
word_of z = unsigned_abs (int_rem_euclid z (pos (2 ^ 32)))

-- z / n, rounded down
abbrev pub floor_div : ℤ → ℕ → ℤ
floor_div z n = int_div_euclid z (pos n)
