-- Every machine is one that a forest may have.
use Rattle.std.proofs.Common.{◌≡◌, ℕ, ◌<◌, ◌||◌, ltb, true, lt-ltb, refl, Option, Some, None, is_some}
use Rattle.std.specs.Cmp.Derive.{both_true}
use Rattle.fork_port.specs.declared.ending.Ending.{Ending}
use Rattle.port_rules.proofs.Tickets.{is-accounted}
use Rattle.forest_model.specs.Machine.{Machine}
use Rattle.forest_model.specs.Forest.{machines, port_of}
use Rattle.vm_cell.specs.Steps.{IsCounted}

-- it has ended, or is below its limit
below-limit : (ending : Option Ending) (steps limit : ℕ) → (ending ≡ None → steps < limit) → is_some ending || ltb steps limit ≡ true
below-limit None steps limit live = lt-ltb steps limit (live refl)
below-limit (Some ending) steps limit live = refl

pub counted-good : (m : Machine) → IsCounted m.steps m.limit m.ending (port_of m) → machines.is_good m ≡ true
unfolding machines
counted-good m h = both_true (is-accounted (port_of m) h.funded.accounted) (below-limit m.ending m.steps m.limit h.live)
