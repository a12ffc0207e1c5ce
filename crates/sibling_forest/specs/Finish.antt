-- A tree whose machines talk, run to its end.
use Rattle.std.specs.Prelude.{◌≡◌, ℕ, zero, suc, Bool, true, false, List, [], ◌∷◌, ◌++◌, map, Option, Some, None, IsSome, is_some, not}
use Rattle.forest_tree.specs.Operations.{Operations}
use Rattle.forest_tree.specs.Tree.{Tree, node, Trees, no_tree, tree, Broods, no_brood, brood, machine, Path}
use Rattle.forest_tree.specs.Step.{has_ended}
use Rattle.forest_tree.specs.Sound.{IsSound}
use Rattle.forest_tree.specs.Ahead.{ahead}
use Rattle.sibling_forest.specs.Talk.{Talks, Box, boxed}
use Rattle.sibling_forest.specs.Settle.{settle, rests_at}

-- the paths to all machines of a tree: a machine first, then what is below it, by ticket and child in order
unfoldable mutual
  pub paths : {M : Type 0} → Tree M → List Path
  paths (node m broods log) = [] ∷ paths_of_broods broods

  pub paths_of_broods : {M : Type 0} → Broods M → List Path
  paths_of_broods no_brood = []
  paths_of_broods (brood t trees rest) = paths_of_broods rest ++ paths_of_trees t 1 trees

  pub paths_of_trees : {M : Type 0} → ℕ → ℕ → Trees M → List Path
  paths_of_trees t k no_tree = []
  paths_of_trees t k (tree c rest) = map (λ path. record { ticket = t; child = k } ∷ path) (paths c) ++ paths_of_trees t (suc k) rest

abbrev pub found_by : Bool → Path → Option Path → Option Path
found_by true path later = later
found_by false path later = Some path

-- the first path of which r does not hold
unfoldable pub first_not : (Path → Bool) → List Path → Option Path
first_not r [] = None
first_not r (path ∷ rest) = found_by (r path) path (first_not r rest)

module _ {M E : Type 0} (o : Operations M E) (k : Talks M) where
  -- the first path at which a machine can make a step
  abbrev pub first_path : Tree (Box M) → Option Path
  first_path t = first_not (λ path. rests_at o k path t) (paths t)

  -- no machine of the tree can make a step
  abbrev pub rests : Tree (Box M) → Bool
  rests t = not (is_some (first_path t))

  -- where it is to make the next step: nowhere once the root has ended
  abbrev pub next_by : Bool → Option Path → Option Path
  next_by true path = None
  next_by false path = path

  abbrev pub next_path : Tree (Box M) → Option Path
  next_path t = next_by (has_ended (boxed o k) t) (first_path t)

  abbrev pub go_on : Option Path → (Path → Tree (Box M)) → Tree (Box M) → Tree (Box M)
  go_on None f t = t
  go_on (Some path) f t = f path

  -- so many steps at most, each where the first machine can make one
  unfoldable pub run : ℕ → Tree (Box M) → Tree (Box M)
  run zero t = t
  run (suc n) t = go_on (next_path t) (λ path. run n (settle o k path t)) t

  -- as many steps as are ahead at most, and so to its end
  unfoldable pub finish : Tree (Box M) → Tree (Box M)
  finish t = run (ahead (boxed o k) t) t

  -- f runs each sound tree to its end: it leaves one whose root has ended or that rests, and else it goes on after
  -- the step at the first path at which one can be made
  pub record IsFinish (f : Tree (Box M) → Tree (Box M)) : Type 0 where
    pub ended : (t : Tree (Box M)) → IsSound (boxed o k) t → IsSome (o.ending (machine t).machine) → f t ≡ t
    pub resting : (t : Tree (Box M)) → IsSound (boxed o k) t → rests t ≡ true → f t ≡ t
    pub steps : (t : Tree (Box M)) (path : Path) → IsSound (boxed o k) t → o.ending (machine t).machine ≡ None → first_path t ≡ Some path
        → f t ≡ f (settle o k path t)
