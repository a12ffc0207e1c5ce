-- What a leaf and a list end as, where a `&mut` to one of their entries is returned.
use Rattle.std.specs.Prelude.{ℕ, List, Option, Result, slice_set}
use Rattle.std.specs.Borrow.{LendsIf, LendsIfOk, Fml, RattleType, MutBor}
use Rattle.std.specs.declared.clone.Clone.{Ghosts as CloneGhosts}
use Rattle.std.specs.declared.default.Default.{Ghosts as DefaultGhosts}
use Rattle.shared_leaves.specs.contracts.leaf.Leaf.{the_row as leaf_row}
use Rattle.shared_leaves.specs.contracts.list.SharedList.{the_row as list_row}

module _ (T : RattleType) (clone : CloneGhosts T.Denot) (default : DefaultGhosts T.Denot) (entries : MutBor (List T.Denot)) (i : ℕ) {E : Type 0} where
  -- once the borrow r ends, the leaf has at that place the last value written through r, and at `Err` it stays as it is
  abbrev pub leaf_lends : Result (MutBor T.Denot) E → Fml
  leaf_lends r = LendsIfOk (leaf_row T clone default) T entries r (slice_set entries.now i) entries.now

  -- the same of a list
  abbrev pub list_lends : Result (MutBor T.Denot) E → Fml
  list_lends r = LendsIfOk (list_row T clone default) T entries r (slice_set entries.now i) entries.now

-- the same of entries that no clone shares: at `None` they stay as they are
module _ (T : RattleType) (clone : CloneGhosts T.Denot) (default : DefaultGhosts T.Denot) (entries : MutBor (List T.Denot)) (i : ℕ) where
  abbrev pub leaf_lends_own : Option (MutBor T.Denot) → Fml
  leaf_lends_own r = LendsIf (leaf_row T clone default) T entries r (slice_set entries.now i) entries.now

  abbrev pub list_lends_own : Option (MutBor T.Denot) → Fml
  list_lends_own r = LendsIf (list_row T clone default) T entries r (slice_set entries.now i) entries.now
