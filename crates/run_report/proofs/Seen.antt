-- The lines of machines with more inside are those of the machines seen with less.
use Rattle.std.proofs.Common.{◌≡◌, ℕ, suc, refl, ap, ap₂, List, [], ◌∷◌, ◌++◌}
use Rattle.forest_tree.specs.Tree.{Tree, node, Trees, no_tree, tree, Broods, no_brood, brood, Log, no_entry, joined, killed, Path}
use Rattle.forest_tree.specs.Projection.{map_tree, map_trees, map_broods, map_log}
use Rattle.machine_names.specs.Name.{child_path}
use Rattle.run_report.specs.Lines.{Line, Block, ticket_line, Told, TellsSame, in_order, own_line, lines, trees_lines, log_lines, blocks}

module _ {M N : Type 0} (told : Told M) (less : Told N) (f : M → N) (same : TellsSame told less f) where
  own-map : (path : Path) (m : M) → own_line less path (f m) ≡ own_line told path m
  own-map path m =
      let ending = same.ending m in
      let steps = same.steps m in
      let output = same.output m in
      cc

  mutual
    unfolding lines trees_lines log_lines blocks map_tree map_trees map_broods map_log

    pub lines-map : (path : Path) (t : Tree M) → lines less path (map_tree f t) ≡ lines told path t
    lines-map path (node m broods log) =
        ap₂ (λ own rest. own ∷ rest) (own-map path m)
        (ap₂ (λ before rest. before ++ rest) (log_lines-map path log) (ap₂ in_order (same.cloned m) (blocks-map path broods)))

    pub trees_lines-map : (path : Path) (ticket k : ℕ) (trees : Trees M) → trees_lines less path ticket k (map_trees f trees) ≡ trees_lines told path ticket k trees
    trees_lines-map path ticket k no_tree = refl
    trees_lines-map path ticket k (tree child rest) =
        ap₂ (λ own rest. own ++ rest) (lines-map (child_path path ticket k) child) (trees_lines-map path ticket (suc k) rest)

    pub log_lines-map : (path : Path) (log : Log M) → log_lines less path (map_log f log) ≡ log_lines told path log
    log_lines-map path no_entry = refl
    log_lines-map path (joined log ticket trees) =
        ap₂ (λ before rest. before ++ rest) (log_lines-map path log) (trees_lines-map path ticket 1 trees)
    log_lines-map path (killed log ticket count) =
        ap (λ before. before ++ ticket_line path ticket count ∷ []) (log_lines-map path log)

    blocks-map : (path : Path) (broods : Broods M) → blocks less path (map_broods f broods) ≡ blocks told path broods
    blocks-map path no_brood = refl
    blocks-map path (brood ticket trees rest) =
        let make : List Line → List Block → List Block = λ all more. record { ticket = ticket; lines = all } ∷ more in
        ap₂ make (trees_lines-map path ticket 1 trees) (blocks-map path rest)
