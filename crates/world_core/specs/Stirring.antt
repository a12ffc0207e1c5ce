-- A world after a machine of it has ended, while its siblings are told of that.
use Rattle.std.specs.Prelude.{◌≡◌, ◌≢◌, ℕ, ◌==◌, ◌&&◌, not, Bool, true, false, nat_le, if◌then◌else◌, [], ◌∷◌, Option, Some, None}
use Rattle.image_depot.specs.Key.{Shelves}
use Rattle.std.specs.Option.{IfSome}
use Rattle.forest_tree.specs.Tree.{Tree, Path, machine, beyond, subtree}
use Rattle.forest_tree.specs.Step.{has_ended}
use Rattle.talking_history.specs.Places.{parked}
use Rattle.machine_names.specs.Name.{child_path}
use Rattle.world_core.specs.declared.cell.Awaited.{Awaited}
use Rattle.world_core.specs.declared.cell.Change.{Change}
use Rattle.world_core.specs.declared.world.World.{World}
use Rattle.world_core.specs.Shows.{Member, forest, Awaits, IsAwake}
use Rattle.world_core.specs.Unparked.{ends_wait}
use Rattle.world_core.specs.Between.{with_tree}
use Rattle.world_core.specs.World.{Forest, IsForest, Rests, ShowsEach, rests_in}

-- what is left of a path is one of the children of a ticket, from one on
abbrev pub is_from : ℕ → ℕ → Option Path → Bool
is_from ticket first None = false
is_from ticket first (Some []) = false
is_from ticket first (Some (b ∷ [])) = (b.ticket == ticket) && nat_le first b.child
is_from ticket first (Some (b ∷ (c ∷ rest))) = false

-- the children of a ticket rest as before from one on, and all others as after
abbrev pub rests_until : Path → ℕ → ℕ → Rests → Rests → Path → Bool
rests_until parent ticket first before after name = if is_from ticket first (beyond parent name) then before name else after name

-- the world stands for the forest in which a child of a ticket is the tree `b`, but that its siblings from one on, which may
-- wait no more, are still as before
pub record IsStirring (depot : Shelves) (w : World) (f : Forest) (parent : Path) (ticket k : ℕ) (b : Tree Member) (first : ℕ) : Type 0 where
  pub whole : IsForest (with_tree (child_path parent ticket k) b f).tree
  pub halted : w.halted ≡ f.halted
  pub going : w.outcome ≡ None
  pub root : IsAwake (with_tree (child_path parent ticket k) b f).tree
  pub each : ShowsEach depot (rests_until parent ticket first (rests_in f.tree) (rests_in (with_tree (child_path parent ticket k) b f).tree)) w
      (with_tree (child_path parent ticket k) b f).tree

-- a machine that rested or not, and that the change may wake
pub record IsWokenBy (change : Change) (before after : Bool) (b : Member) : Type 0 where
  pub waits : (awaited : Awaited) → Awaits awaited b → before ≡ true → after ≡ not (ends_wait change awaited)
  pub goes_on : before ≡ false → after ≡ false

-- where it lives and is parked, it rests as before
pub record RestsAsBefore (before after : Bool) (t : Tree Member) : Type 0 where
  pub same : has_ended forest t ≡ false → (machine t).machine.place ≡ parked → after ≡ before

-- the machine of this name may be woken by the change, and no other
pub record WakesOne (change : Change) (name : Path) (before after : Rests) (t : Tree Member) : Type 0 where
  pub one : IfSome (subtree name t) (λ a. IsAwake a → IsWokenBy change (before name) (after name) (machine a))
  pub others : (n : Path) → n ≢ name → IfSome (subtree n t) (RestsAsBefore (before n) (after n))
