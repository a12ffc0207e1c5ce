-- Blocks: a few instructions each, of one of four kinds, with numbers that are drawn.
use Rattle.std.specs.Prelude.{ℕ, zero, suc, ◌+◌, ◌*◌, ◌%◌, ◌==◌, if◌then◌else◌, List, [], ◌∷◌, ◌++◌}
use Rattle.rv_decode.specs.Instruction.{Instruction}
use Rattle.seed_draws.specs.Draws.{next, drawn}
use Rattle.guest_gen.specs.Assembly.{lui, addi, add, lw, sw, sb}

abbrev pub Code : Type 0
Code = List Instruction

-- a word of a page behind the code is written, read and added to the sum
unfoldable pub memory_block : ℕ → ℕ → ℕ → Code
memory_block page word number = lui 6 (0x8_0010 + page) ∷ addi 7 0 number ∷ sw 7 (4 * word) 6 ∷ lw 8 (4 * word) 6 ∷ add 14 14 8 ∷ []

-- a page behind the code is zeroed
unfoldable pub zero_block : ℕ → Code
zero_block page =
    addi 6 0 (16 + page) ∷ sw 6 0 5  -- ARG0
    ∷ addi 6 0 1 ∷ sw 6 4 5  -- ARG1
    ∷ addi 6 0 6 ∷ sw 6 8 5  -- ZERO
    ∷ []

-- a sector is read, its first word is increased, the sector is written, and the word is added to the sum
unfoldable pub disk_block : ℕ → ℕ → Code
disk_block sector increase =
    addi 6 0 sector ∷ sw 6 0 12  -- SECTOR
    ∷ addi 6 0 1 ∷ sw 6 4 12  -- read
    ∷ lw 7 512 12 ∷ addi 7 7 increase ∷ sw 7 512 12
    ∷ addi 6 0 2 ∷ sw 6 4 12  -- write
    ∷ add 14 14 7
    ∷ []

-- a word of a page behind the code is added to the sum, and a letter goes to the console
unfoldable pub console_block : ℕ → ℕ → ℕ → Code
console_block page word letter = lui 6 (0x8_0010 + page) ∷ lw 8 (4 * word) 6 ∷ add 14 14 8 ∷ addi 7 0 (65 + letter) ∷ sb 7 0 11 ∷ []

-- a block of each kind, with the numbers that are drawn for it from a state on
unfoldable pub block_of : ℕ → ℕ → Code
block_of kind s =
    if kind == 0 then memory_block (drawn s % 48) (drawn (next s) % 512) (drawn (next (next s)) % 2048)
    else (if kind == 1 then zero_block (drawn s % 48)
    else (if kind == 2 then disk_block (drawn s % 16) (drawn (next s) % 2048)
    else console_block (drawn s % 48) (drawn (next s) % 512) (drawn (next (next s)) % 26)))

-- the state behind its draws
unfoldable pub after_block_of : ℕ → ℕ → ℕ
after_block_of kind s =
    if kind == 0 then next (next (next s))
    else (if kind == 1 then next s
    else (if kind == 2 then next (next s)
    else next (next (next s))))

-- a block whose kind is drawn first
unfoldable pub block : ℕ → Code
block s = block_of (drawn s % 4) (next s)

unfoldable pub after_block : ℕ → ℕ
after_block s = after_block_of (drawn s % 4) (next s)

-- so many blocks, each drawn from the state behind those before it
unfoldable pub after_blocks : ℕ → ℕ → ℕ
after_blocks zero s = s
after_blocks (suc n) s = after_block (after_blocks n s)

unfoldable pub blocks : ℕ → ℕ → Code
blocks zero s = []
blocks (suc n) s = blocks n s ++ block (after_blocks n s)
