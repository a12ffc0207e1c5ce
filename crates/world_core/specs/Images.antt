-- Which image the machines of a brood have.
use Rattle.std.specs.Prelude.{◌≡◌, ℕ, [], ◌∷◌, Option, Some, None, IfSome}
use Rattle.std.specs.Ordering.{nat_cmp}
use Rattle.std.specs.BTreeMap.{BTreeMap, get}
use Rattle.forest_tree.specs.Tree.{Path}
use Rattle.image_depot.specs.Key.{Key, number_of}
use Rattle.machine_names.specs.NameOrder.{path_cmp}
use Rattle.world_core.specs.declared.cell.Brood.{Brood}
use Rattle.world_core.specs.declared.cell.Cell.{Cell}
use Rattle.world_core.specs.declared.cell.State.{State}
use Rattle.world_core.specs.declared.cell.State.TheVariants.{Home, Parked, Out}
use Rattle.world_core.specs.declared.world.Taken.{Taken}
use Rattle.world_core.specs.declared.world.Taken.TheVariants as taken
use Rattle.world_core.specs.declared.world.Talked.{Talked}
use Rattle.world_core.specs.declared.world.Talked.TheVariants as on
use Rattle.world_core.specs.declared.world.World.{World}
use Rattle.world_core.specs.Lent.{Lent}
use Rattle.world_core.specs.PreparedFork.{Prepared}

-- the number of the image of each brood, by the name of the parent and the ticket
abbrev pub Images : Type 0
Images = Path → ℕ → ℕ

-- that of the brood of a machine. The root is of none
unfoldable pub image_at : Images → Path → Option ℕ
image_at images [] = None
image_at images (b ∷ []) = Some (images [] b.ticket)
image_at images (b ∷ (c ∷ rest)) = image_at (λ path. images (b ∷ path)) (c ∷ rest)

-- a machine's key, if it has one, is to the image of its brood
abbrev pub IsImageAt : Images → Path → Option Key → Type 0
IsImageAt images path key = IfSome key (λ k. image_at images path ≡ Some (number_of k))

abbrev pub IsStateAt : Images → Path → State → Type 0
IsStateAt images path (Home vm) = IsImageAt images path vm.value.key
IsStateAt images path (Parked awaited vm turn) = IsImageAt images path vm.value.key
IsStateAt images path Out = Unit {0}

-- what the children of a ticket start with, as long as it is kept, is of the image of their brood
abbrev pub IsBroodAt : Images → Path → ℕ → Brood → Type 0
IsBroodAt images path ticket b = IfSome b.image (λ image. images path ticket ≡ number_of image.key)

abbrev pub AreBroodsAt : Images → Path → BTreeMap ℕ Brood → Type 0
AreBroodsAt images path broods = (ticket : ℕ) → IfSome (get nat_cmp broods ticket) (IsBroodAt images path ticket)

-- the keys of a cell are to these images
pub record HasImages (images : Images) (path : Path) (c : Cell) : Type 0 where
  pub state : IsStateAt images path c.state
  pub broods : AreBroodsAt images path c.broods

abbrev pub HaveImages : Images → BTreeMap Path Cell → Type 0
HaveImages images cells = (name : Path) → IfSome (get path_cmp cells name) (HasImages images name)

-- all keys of a brood but those of its machines on lease are to one image
abbrev pub AreOfImages : Images → World → Type 0
AreOfImages images w = HaveImages images w.cells

-- so is the key of a machine on lease
abbrev pub IsLentAt : Images → Lent → Type 0
IsLentAt images lease = IsImageAt images lease.name lease.key

abbrev pub IsTakenAt : Images → Taken → Type 0
IsTakenAt images taken.Over = Unit {0}
IsTakenAt images (taken.Stopped reason) = Unit {0}
IsTakenAt images taken.Stuck = Unit {0}
IsTakenAt images taken.Idle = Unit {0}
IsTakenAt images (taken.Took lease) = IsLentAt images lease
IsTakenAt images taken.Memory = Unit {0}

abbrev pub AreTakenAt : Images → Option Taken → Type 0
AreTakenAt images None = Unit {0}
AreTakenAt images (Some t) = IsTakenAt images t

abbrev pub IsTalkedAt : Images → Talked → Type 0
IsTalkedAt images (on.Goes next heard) = IsLentAt images next
IsTalkedAt images (on.Placed answer) = Unit {0}

-- the children that a CLONE is to have are of the image that is told for their brood
abbrev pub IsPreparedAt : Images → Prepared → Type 0
IsPreparedAt images prepared = images prepared.name prepared.ticket ≡ number_of prepared.image.key
