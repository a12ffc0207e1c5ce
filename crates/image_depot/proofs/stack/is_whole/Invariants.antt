use Rattle.std.proofs.Common.{◌≡◌, ◌<◌, ℕ, true}
use Rattle.page_frames.specs.Tables.{entry_at, is_own}
use Rattle.image_depot.proofs.stack.is_whole.Given as goal

abbrev pub invariant-loop-page : goal.invariant-loop-page
invariant-loop-page g l = (i : ℕ) → i < l.page → is_own (entry_at (g.L.Layer.entries l.layer) i) ≡ true
