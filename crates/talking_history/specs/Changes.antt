-- A step of a machine as changes at two paths: its own, and that of the sibling to which it sends.
use Rattle.std.specs.Prelude.{ℕ, [], ◌∷◌, Option, Some, None}
use Rattle.forest_tree.specs.Operations.{Operations}
use Rattle.forest_tree.specs.Tree.{Tree, Path, at_path}
use Rattle.sibling_forest.specs.Talk.{Talk, send, receive, Talks, Box}
use Rattle.sibling_forest.specs.Settle.{delivered}
use Rattle.sibling_forest.specs.Laws.{child_number}

-- the path to child j of the ticket of which a path leads to a child
unfoldable pub to_sibling : ℕ → Path → Path
to_sibling j [] = []
to_sibling j (b ∷ []) = record { ticket = b.ticket; child = j } ∷ []
to_sibling j (b ∷ (c ∷ path)) = b ∷ to_sibling j (c ∷ path)

module _ {M E : Type 0} (o : Operations M E) (k : Talks M) where
  -- what a talk of the machine at a path makes of the tree beside its own step: a word that it sends comes to the sibling
  abbrev pub told : Option Talk → ℕ → Path → Tree (Box M) → Tree (Box M)
  told None word path t = t
  told (Some (send j)) word path t = at_path (delivered o k (child_number path) word) (to_sibling j path) t
  told (Some (receive j)) word path t = t
