-- The guest of a seed: its instructions, their words, and its image.
use Rattle.std.specs.Prelude.{ℕ, List, [], ◌∷◌, ◌++◌, map}
use Rattle.elf_load.specs.OneSegment.{bytes_of_words, elf_of}
use Rattle.rv_asm.specs.Encode.{encoded}
use Rattle.guest_gen.specs.Assembly.{lui, addi}
use Rattle.guest_gen.specs.Blocks.{Code}
use Rattle.guest_gen.specs.Levels.{numbered, forking_level, after_level, last_level}

-- the addresses of the fork port, the console and the block port, and the sum
unfoldable pub start : Code
start = lui 5 0x1_0002 ∷ lui 11 0x1_0000 ∷ lui 12 0x1_0001 ∷ addi 14 0 0 ∷ []

-- levels 0, 1 and 2. Four children of level 1 with no share are made at a time, so those of level 0 are
-- given eight each
unfoldable pub instructions : ℕ → Code
instructions seed =
    let first = after_level seed in
    let second = after_level first in
    start ++ forking_level 8 seed ++ numbered ++ forking_level 0 first ++ numbered ++ last_level second

unfoldable pub words : ℕ → List ℕ
words seed = map encoded (instructions seed)

unfoldable pub guest : ℕ → List ℕ
guest seed = elf_of 0x8000_0000 (bytes_of_words (words seed))
