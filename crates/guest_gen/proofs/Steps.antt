-- One more block, and one more value.
use Rattle.std.proofs.Common.{◌≡◌, ℕ, ◌+◌, ◌++◌, add-one}
use Rattle.guest_gen.specs.Blocks.{block, after_block, blocks, after_blocks}
use Rattle.guest_gen.specs.Levels.{value, values}

pub blocks_more : (n s : ℕ) → blocks (n + 1) s ≡ blocks n s ++ block (after_blocks n s)
unfolding blocks
blocks_more n s = rw add-one

pub after_blocks_more : (n s : ℕ) → after_blocks (n + 1) s ≡ after_block (after_blocks n s)
unfolding after_blocks
after_blocks_more n s = rw add-one

pub values_more : (n : ℕ) → values (n + 1) ≡ values n ++ value (n + 1)
unfolding values
values_more n = rw add-one
