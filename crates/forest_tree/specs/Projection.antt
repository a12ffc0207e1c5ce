-- Machines with more inside, seen as machines with less: trees of the ones are then trees of the others.
use Rattle.std.specs.Prelude.{◌≡◌, ℕ, List}
use Rattle.forest_tree.specs.Operations.{Operations}
use Rattle.forest_tree.specs.Tree.{Tree, node, Trees, no_tree, tree, Broods, no_brood, brood, Log, no_entry, joined, killed}

module _ {M N : Type 0} (f : M → N) where
  -- the tree with f of each machine in it and in its log
  unfoldable mutual
    pub map_tree : Tree M → Tree N
    map_tree (node m broods log) = node (f m) (map_broods broods) (map_log log)

    pub map_trees : Trees M → Trees N
    map_trees no_tree = no_tree
    map_trees (tree t rest) = tree (map_tree t) (map_trees rest)

    pub map_broods : Broods M → Broods N
    map_broods no_brood = no_brood
    map_broods (brood t trees rest) = brood t (map_trees trees) (map_broods rest)

    pub map_log : Log M → Log N
    map_log no_entry = no_entry
    map_log (joined log t trees) = joined (map_log log) t (map_trees trees)
    map_log (killed log t n) = killed (map_log log) t n

-- what f leaves of a machine tells the same, and the operations lead to each other
pub record Projects {M N E : Type 0} (o : Operations M E) (p : Operations N E) (f : M → N) : Type 0 where
  pub ending : (m : M) → p.ending (f m) ≡ o.ending m
  pub call : (m : M) → p.call (f m) ≡ o.call m
  pub left : (m : M) → p.left (f m) ≡ o.left m
  pub holding : (m : M) → p.holding (f m) ≡ o.holding m
  pub cloned : (m : M) → p.cloned (f m) ≡ o.cloned m
  pub grant : (m : M) (t : ℕ) → p.grant (f m) t ≡ o.grant m t
  pub may_clone : (m : M) (t : ℕ) → p.may_clone (f m) t ≡ o.may_clone m t
  pub is_good : (m : M) → p.is_good (f m) ≡ o.is_good m
  pub advance : (m : M) → p.advance (f m) ≡ f (o.advance m)
  pub forked : (m : M) → p.forked (f m) ≡ f (o.forked m)
  pub child : (m : M) (k : ℕ) → p.child (f m) k ≡ f (o.child m k)
  pub after_join : (m : M) (endings : List E) → p.after_join (f m) endings ≡ f (o.after_join m endings)
  pub after_kill : (m : M) → p.after_kill (f m) ≡ f (o.after_kill m)
