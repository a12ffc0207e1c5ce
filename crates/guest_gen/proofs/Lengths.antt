-- How many instructions the parts of a guest have at most.
use Rattle.std.proofs.Common.{ℕ, zero, suc, ◌*◌, ◌%◌, ◌≤◌, length, arith, length-append, lit≤}
use Rattle.std.proofs.lemmas.Bool.Decides.{nat_tests}
use Rattle.std.proofs.lemmas.List.{length-map}
use Rattle.rv_asm.specs.Encode.{encoded}
use Rattle.seed_draws.specs.Draws.{next, drawn}
use Rattle.guest_gen.specs.Blocks.{memory_block, zero_block, disk_block, console_block, block_of, block, blocks, after_blocks}
use Rattle.guest_gen.specs.Levels.{numbered, fork, forked, kill, join, value, values, exit, last_part, middle_part, forking_level, after_level, last_level}
use Rattle.guest_gen.specs.Guest.{start, instructions, words}

block_of_short : (kind s : ℕ) → length (block_of kind s) ≤ 10
unfolding block_of memory_block zero_block disk_block console_block
block_of_short kind s = grind (arith, nat_tests)

block_short : (s : ℕ) → length (block s) ≤ 10
unfolding block
block_short s = block_of_short (drawn s % 4) (next s)

blocks_short : (n s : ℕ) → length (blocks n s) ≤ 10 * n
unfolding blocks
blocks_short zero s = lit≤ tt
blocks_short (suc n) s = omega (arith, blocks_short n s, block_short (after_blocks n s), length-append (blocks n s) (block (after_blocks n s)))

pub last_part_short : (s : ℕ) → length (last_part s) ≤ 525
unfolding last_part kill join values value exit
last_part_short s = simp length-append (omega (arith, blocks_short 50 s))

pub middle_part_short : (share s : ℕ) → length (middle_part share s) ≤ 1038
unfolding middle_part forked fork
middle_part_short share s = simp length-append (omega (arith, blocks_short 50 s, last_part_short (after_blocks 50 s)))

forking_level_short : (share s : ℕ) → length (forking_level share s) ≤ 3051
unfolding forking_level forked fork
forking_level_short share s = simp length-append (omega (arith, blocks_short 200 s, middle_part_short share (after_blocks 200 s)))

last_level_short : (s : ℕ) → length (last_level s) ≤ 2003
unfolding last_level exit
last_level_short s = simp length-append (omega (arith, blocks_short 200 s))

instructions_short : (seed : ℕ) → length (instructions seed) ≤ 8113
unfolding instructions start numbered
instructions_short seed =
    let first = after_level seed in
    simp length-append
    (omega (arith, forking_level_short 8 seed, forking_level_short 0 first, last_level_short (after_level first)))

pub words_short : (seed : ℕ) → length (words seed) ≤ 8113
unfolding words
words_short seed = omega (arith, instructions_short seed, length-map (instructions seed) encoded)
