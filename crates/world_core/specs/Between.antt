-- A world in the middle of a call: a machine has come back and made its call, and is to be put home or to be ended.
use Rattle.std.specs.Prelude.{◌≡◌, ◌⊎◌, ℕ, true, false, ◌∷◌, ◌++◌, [], Some, None, IfSome, IsSomeAnd, if◌then◌else◌}
use Rattle.std.specs.BTreeMap.{BTreeMap, btree_map_len, get}
use Rattle.image_depot.specs.Key.{Shelves}
use Rattle.forest_tree.specs.Operations.{is_cloned}
use Rattle.forest_tree.specs.Tree.{Tree, node, no_brood, Branch, Path, machine, broods_of, broods_with, beyond, subtree, at_path}
use Rattle.forest_tree.specs.Step.{has_ended, settled}
use Rattle.sibling_forest.specs.Talk.{queue}
use Rattle.talking_history.specs.Places.{home}
use Rattle.std.specs.Option.{IfSome}
use Rattle.machine_names.specs.NameOrder.{path_cmp}
use Rattle.run_report.specs.Lines.{lines}
use Rattle.run_report.specs.Report.{Ended, lines_of}
use Rattle.world_core.specs.declared.cell.Cell.{Cell}
use Rattle.world_core.specs.declared.world.World.{World}
use Rattle.world_core.specs.Listed.{IsListed}
use Rattle.world_core.specs.Shows.{Member, forest, told_member, HasEndedAs, IsAwake, HoldsAfter, Shows}
use Rattle.world_core.specs.World.{Forest, IsDue, IsForest, is_ready_in, rests_in}

-- the worlds have the same in them
pub record IsSameWorld (old new : World) : Type 0 where
  pub cells : (name : Path) → get path_cmp new.cells name ≡ get path_cmp old.cells name
  pub ready : new.ready ≡ old.ready
  pub halted : new.halted ≡ old.halted
  pub outcome : new.outcome ≡ old.outcome

-- a machine with its broods, of which there is one for each of its cloned tickets, where it has ended too
pub record IsWhole (t : Tree Member) : Type 0 where
  pub good : forest.is_good (machine t) ≡ true
  pub one_each : (ticket : ℕ) → broods_with ticket (broods_of t) ≡ (if is_cloned forest (machine t) ticket then 1 else 0)

-- the machine lives with the words that wait for the one in its place, or has ended, and none wait for it
abbrev pub IsHeardAs : Tree Member → Tree Member → Type 0
IsHeardAs a t = ((has_ended forest a ≡ false) × ((machine a).inbox ≡ (machine t).inbox))
    ⊎ ((has_ended forest a ≡ true) × ((j : ℕ) → queue j (machine a).inbox ≡ []))

-- the world stands for a forest but for the machine of this name, whose cell holds the tree `a` in place of its own
-- there, and whose descendants are those of `a`
pub record IsBetween (depot : Shelves) (w : World) (f : Forest) (name : Path) (a : Tree Member) : Type 0 where
  pub whole : IsForest f.tree
  pub halted : w.halted ≡ f.halted
  pub going : w.outcome ≡ None
  pub root : IsAwake f.tree
  pub there : IsSomeAnd (subtree name f.tree) IsAwake
  pub own : IsWhole a
  pub heard : IsSomeAnd (subtree name f.tree) (IsHeardAs a)
  pub cell : IsSomeAnd (get path_cmp w.cells name) (λ c. HoldsAfter depot name c a)
  pub below : (x : Branch) (rest : Path)
      → Shows depot (name ++ x ∷ rest) (rests_in a (x ∷ rest)) (get path_cmp w.cells (name ++ x ∷ rest)) (subtree (x ∷ rest) a)
  pub ready_below : (x : Branch) (rest : Path) → is_ready_in (rests_in a) (x ∷ rest) a ≡ true
      → IsDue (get path_cmp w.cells (name ++ x ∷ rest)) (name ++ x ∷ rest) w.ready
  pub elsewhere : (n : Path) → beyond name n ≡ None → Shows depot n (rests_in f.tree n) (get path_cmp w.cells n) (subtree n f.tree)
  pub ready : (n : Path) → beyond name n ≡ None → is_ready_in (rests_in f.tree) n f.tree ≡ true → IsDue (get path_cmp w.cells n) n w.ready
  pub listed : (n : Path) → IfSome (get path_cmp w.cells n) (λ c. c.is_listed ≡ true → IsListed n w.ready)

-- the world stands for a forest but for the machine of this name, which is gone from it with its descendants
pub record IsLeaving (depot : Shelves) (w : World) (f : Forest) (name : Path) : Type 0 where
  pub whole : IsForest f.tree
  pub halted : w.halted ≡ f.halted
  pub going : w.outcome ≡ None
  pub root : IsAwake f.tree
  pub there : IsSomeAnd (subtree name f.tree) IsAwake
  pub gone : (rest : Path) → get path_cmp w.cells (name ++ rest) ≡ None
  pub elsewhere : (n : Path) → beyond name n ≡ None → Shows depot n (rests_in f.tree n) (get path_cmp w.cells n) (subtree n f.tree)
  pub ready : (n : Path) → beyond name n ≡ None → is_ready_in (rests_in f.tree) n f.tree ≡ true → IsDue (get path_cmp w.cells n) n w.ready
  pub listed : (n : Path) → IfSome (get path_cmp w.cells n) (λ c. c.is_listed ≡ true → IsListed n w.ready)

-- what a machine left that has ended, and is the tree `b` at this path then
pub record HasLeft (path : Path) (b : Tree Member) (outcome : Ended) : Type 0 where
  pub ending : HasEndedAs outcome.ending (told_member.ending (machine b))
  pub home : (machine b).machine.place ≡ home
  pub alone : broods_of b ≡ no_brood
  pub silent : (j : ℕ) → queue j (machine b).inbox ≡ []
  pub lines : lines_of outcome ≡ lines told_member path b

-- a cell is taken out of a map, and those below it where it has broods
pub record TakesOut (old new : BTreeMap Path Cell) (name : Path) (c : Cell) : Type 0 where
  pub was : get path_cmp old name ≡ Some c
  pub here : get path_cmp new name ≡ None
  pub below : (x : Branch) (rest : Path) → (get path_cmp new (name ++ x ∷ rest) ≡ None)
      ⊎ ((btree_map_len c.broods ≡ 0) × (get path_cmp new (name ++ x ∷ rest) ≡ get path_cmp old (name ++ x ∷ rest)))
  pub elsewhere : (n : Path) → beyond name n ≡ None → get path_cmp new n ≡ get path_cmp old n

-- the forest with another tree at a name
abbrev pub with_tree : Path → Tree Member → Forest → Forest
with_tree name b f = record f { tree = at_path (λ a. b) name f.tree }

-- where its machine has ended, its broods are dropped
abbrev pub settled_tree : Tree Member → Tree Member
settled_tree (node s broods log) = settled forest s broods log
