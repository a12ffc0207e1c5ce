-- A world keeps its reason to stop.
use Rattle.std.proofs.Common.{◌≡◌, refl, sym, ◌∙◌, Option, Some, None, Result, Ok, Err}
use Rattle.std.specs.declared.alloc.AllocError.{AllocError}
use Rattle.image_depot.specs.Key.{Shelves}
use Rattle.forest_tree.specs.Tree.{Path}
use Rattle.talking_history.specs.Rows.{How, waited, took, spent, dropped, kept, does}
use Rattle.forest_model.specs.Paged.{paged_machines, paged_talks}
use Rattle.world_core.specs.declared.world.World.{World}
use Rattle.world_core.specs.declared.world.Placed.{Placed}
use Rattle.world_core.specs.declared.world.Placed.TheVariants.{Done, Parked, Dropped, Memory}
use Rattle.world_core.specs.Lent.{Lent}
use Rattle.world_core.specs.World.{Forest, StandsFor, reason_of}
use Rattle.world_core.specs.Answers.{Answers, TakesNamed}
use Rattle.drive_script.specs.Steps.{Family}
use Rattle.drive_script.specs.Driven.{HasMachines}

module _ (depot : Shelves) (w new : World) (f : Forest) (h : StandsFor depot w f) where
  same-reason : (g : Forest) → StandsFor depot new g → g.halted ≡ f.halted → reason_of new ≡ reason_of w
  same-reason g after same = after.halted ∙ same ∙ sym h.halted

  -- as a machine is taken by its name
  named-reason : (name : Path) (r : Result (Option Lent) AllocError) → TakesNamed depot f name r new → reason_of new ≡ reason_of w
  unfolding does
  named-reason name (Ok None) taken = same-reason f taken.1 refl
  named-reason name (Ok (Some lease)) taken = same-reason (does paged_machines paged_talks (took name) f) taken.4 refl
  named-reason name (Err e) taken = same-reason f taken refl

  -- as one comes back
  pub answered-reason : (how : How) (lease : Lent) (placed : Placed) → Answers depot f how lease placed new → reason_of new ≡ reason_of w
  unfolding does
  answered-reason how lease Done goes = same-reason (does paged_machines paged_talks (spent how lease.name lease.ran) f) goes.after refl
  answered-reason how lease Parked goes = same-reason (does paged_machines paged_talks (spent waited lease.name lease.ran) f) goes.1.after refl
  answered-reason how lease Dropped goes = same-reason (does paged_machines paged_talks (dropped lease.name) f) goes.after refl
  answered-reason how lease (Memory back) goes = same-reason (does paged_machines paged_talks (kept lease.name lease.ran) f) goes.2.after refl

-- as a machine is taken by its name from a world that has machines of a tree
pub taken-reason : (depot : Shelves) (w new : World) (has : (t : Family) × HasMachines depot w t) (name : Path) (r : Result (Option Lent) AllocError)
    → ((f : Forest) → StandsFor depot w f → TakesNamed depot f name r new) → reason_of new ≡ reason_of w
taken-reason depot w new has name r takes = named-reason depot w new has.1.forest has.1.stands name r (takes has.1.forest has.1.stands)
