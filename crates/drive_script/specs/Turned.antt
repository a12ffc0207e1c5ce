-- What a machine does in its turn: it is taken from a world, makes steps of its own, maybe makes a call or a talk, and is
-- at home again.
use Rattle.std.specs.Prelude.{◌≡◌, ◌||◌, Bool, true, false, ℕ, ◌<◌, ◌≤◌, Option, Some}
use Rattle.std.specs.Prelude.{None, is_some, IsSome, IfSome, IsSomeAnd, slice_get, Result, Ok, Err, replicate}
use Rattle.std.specs.declared.alloc.AllocError.{AllocError}
use Rattle.image_depot.specs.Key.{Shelves}
use Rattle.cow_disk.specs.declared.arrived.Arrived.{Arrived}
use Rattle.fork_port.specs.declared.ending.Ending.{Ending}
use Rattle.fork_port.specs.declared.ending.Ending.TheVariants.{Exit, Limit}
use Rattle.sibling_port.specs.declared.talk.Talk.{Talk}
use Rattle.sibling_port.specs.declared.talk.Talk.TheVariants.{Send, Receive}
use Rattle.forest_tree.specs.Tree.{Path, machine, subtree, at_path}
use Rattle.sibling_forest.specs.Settle.{rests_at}
use Rattle.talking_history.specs.Places.{bare}
use Rattle.talking_history.specs.World.{IsWhole, is_at_home}
use Rattle.talking_history.specs.Rows.{How, gave, ended, forked, joined, killed, sent, received, waited, took, does}
use Rattle.forest_model.specs.Paged.{Paged, advanced_by, paged_machines, paged_talks, stalled_at}
use Rattle.vm_cell.specs.Keyed.{KeyedMachine}
use Rattle.vm_cell.specs.Standing.{standing_call, standing_talk}
use Rattle.world_core.specs.declared.world.World.{World}
use Rattle.world_core.specs.declared.world.Placed.{Placed}
use Rattle.world_core.specs.Answers.{Answers, IsLentOf}
use Rattle.world_core.specs.Lent.{Lent, now_of}
use Rattle.world_core.specs.Shows.{paged_of}
use Rattle.world_core.specs.World.{Forest, IsForest, StandsFor}
use Rattle.drive_script.specs.declared.answer.Why.{Why}
use Rattle.drive_script.specs.declared.answer.Why.TheVariants.{Sends, Receives}
use Rattle.drive_script.specs.declared.turn.TurnOutcome.{TurnOutcome}
use Rattle.drive_script.specs.declared.turn.TurnOutcome.TheVariants.{NoMachine, Stopped, Called}
use Rattle.drive_script.specs.Replies.{arrived_by, with_arrival}
use Rattle.drive_script.specs.Steps.{Family, after_steps, awaited_by, stops, why_at, with_machine, live_at, stall_told}
use Rattle.drive_script.specs.Told.{made_at}
use Rattle.drive_script.specs.Driven.{HasMachines, HasMade}

-- ---- a machine on lease

-- the machine of the lease has come from this one, by steps at none of which it waited for a page
pub record RanFrom (lease : Lent) (p : Paged) : Type 0 where
  pub start : p.machine ≡ lease.start
  pub now : advanced_by lease.ran p ≡ now_of lease
  pub here : (k : ℕ) → k < lease.ran → stalled_at (advanced_by k p) ≡ None

-- the world has the machines of t, of which this one is on lease and no other. It lived when it was taken
pub record HasLent (depot : Shelves) (w : World) (t : Family) (lease : Lent) : Type 0 where
  -- the forest before it was taken
  pub forest : Forest
  pub sound : IsForest forest.tree
  pub whole : IsWhole forest.tree
  pub same : bare forest.tree ≡ t
  pub lives : is_at_home paged_machines paged_talks lease.name forest.tree ≡ true
  pub begins : IfSome (subtree lease.name forest.tree) (λ a. RanFrom lease (paged_of (machine a)))
  pub of_depot : IsLentOf depot lease
  pub stands : StandsFor depot w (does paged_machines paged_talks (took lease.name) forest)

-- the family with the machine of this name as it stands on lease
abbrev pub standing : Lent → Family → Family
standing lease t = at_path (with_machine (now_of lease)) lease.name t

-- the machine on lease lives, and does not wait for a child or a sibling
abbrev pub MayGo : Family → Lent → Type 0
MayGo t lease = rests_at paged_machines paged_talks lease.name (standing lease t) ≡ false

-- the machine that was on lease is at home again, and has made the steps of the lease, each by itself
pub record HasBack (depot : Shelves) (w : World) (t : Family) (lease : Lent) : Type 0 where
  pub made : made_at lease.ran lease.name t ≡ lease.ran
  -- it stops where it does as it stands on lease, for the same reason
  pub stops_so : stops paged_machines paged_talks stalled_at lease.name (after_steps paged_machines paged_talks lease.ran lease.name t)
      ≡ stops paged_machines paged_talks stalled_at lease.name (standing lease t)
  pub why_so : why_at paged_machines paged_talks stall_told lease.name (after_steps paged_machines paged_talks lease.ran lease.name t)
      ≡ why_at paged_machines paged_talks stall_told lease.name (standing lease t)
  pub has : HasMachines depot w (after_steps paged_machines paged_talks lease.ran lease.name t)

-- ---- a page that comes

-- the answer where a page comes to a machine on lease that has made no step
abbrev pub Brings : Shelves → World → Family → ℕ → Lent → Result (Option Arrived) AllocError → Lent → Type 0
Brings depot w t page old (Ok arrived) new =
    (arrived ≡ arrived_by (slice_get old.pages.here page) page) × (new.name ≡ old.name) × (new.ran ≡ 0) × HasLent depot w (with_arrival old.name arrived t) new
Brings depot w t page old (Err e) new = new ≡ old

-- ---- its call or its talk

-- its next step is one
abbrev pub is_asking : KeyedMachine → Bool
is_asking v = is_some (standing_call v) || is_some (standing_talk v)

-- what it waits for, if it waits with it
abbrev pub awaited_of : Option Talk → Option ℕ → Why
awaited_of None ticket = awaited_by ticket
awaited_of (Some (Send to)) ticket = Sends to
awaited_of (Some (Receive from)) ticket = Receives from

abbrev pub IsMade : How → Type 0
IsMade gave = ⊥
IsMade ended = ⊥
IsMade forked = Unit {0}
IsMade joined = Unit {0}
IsMade killed = Unit {0}
IsMade sent = Unit {0}
IsMade received = Unit {0}
IsMade waited = ⊥

-- the answer of the world to a machine that makes it
abbrev pub AnswersCall : Shelves → Forest → Lent → Placed → World → Type 0
AnswersCall depot f lease placed w = (how : How) × IsMade how × Answers depot f how lease placed w

-- a machine lives, or has ended by its limit
abbrev pub IsLiveOrLimit : Option Ending → Type 0
IsLiveOrLimit None = Unit {0}
IsLiveOrLimit (Some (Exit value handed)) = ⊥
IsLiveOrLimit (Some Limit) = Unit {0}

-- ---- its turn

-- a live machine has the name
abbrev pub Lives : Path → Family → Type 0
Lives name t = IsSome (live_at paged_machines name t)

-- the machine has made so many steps, the last of them a call or a talk
pub record HasRun (depot : Shelves) (name : Path) (steps : ℕ) (t : Family) (w : World) : Type 0 where
  pub made : made_at steps name t ≡ steps
  pub there : IsSomeAnd (subtree name (after_steps paged_machines paged_talks steps name t)) (λ a. IsLiveOrLimit (machine a).machine.machine.ending)
  pub has : HasMachines depot w (after_steps paged_machines paged_talks steps name t)

-- of at most so many steps it has made these, and this is why it stops
pub record HasStopped (depot : Shelves) (name : Path) (most : ℕ) (t : Family) (steps : ℕ) (reason : Why) (w : World) : Type 0 where
  pub made : made_at most name t ≡ steps
  pub there : why_at paged_machines paged_talks stall_told name (after_steps paged_machines paged_talks steps name t) ≡ Some reason
  pub has : HasMachines depot w (after_steps paged_machines paged_talks steps name t)

-- the answer of a turn of at most so many steps
abbrev pub EndsTurn : Shelves → Path → ℕ → Family → Result TurnOutcome AllocError → World → Type 0
EndsTurn depot name most t (Ok NoMachine) w = (live_at paged_machines name t ≡ None) × HasMachines depot w t
EndsTurn depot name most t (Ok (Stopped steps reason)) w = Lives name t × HasStopped depot name most t steps reason w
EndsTurn depot name most t (Ok (Called steps)) w = Lives name t × (0 < steps) × (steps ≤ most) × HasRun depot name steps t w
EndsTurn depot name most t (Err e) w = HasMade depot (replicate (made_at most name t) name) t w
