-- What the calls of a world answer, and what the world stands for after them.
use Rattle.std.specs.Prelude.{◌≡◌, ◌⊎◌, ℕ, Option, Some, None, Bool, true, false, not, ◌&&◌, is_some, IfSome, IsSome, Result, Ok, Err}
use Rattle.image_depot.specs.Key.{Shelves}
use Rattle.std.specs.declared.alloc.AllocError.{AllocError}
use Rattle.fork_port.specs.declared.commands.Call.{Call}
use Rattle.fork_port.specs.declared.commands.Call.TheVariants.{Clone, Join, Kill}
use Rattle.fork_port.specs.declared.ending.Ending.{Ending}
use Rattle.sibling_port.specs.declared.talk.Talk.{Talk}
use Rattle.sibling_port.specs.declared.talk.Talk.TheVariants.{Send, Receive}
use Rattle.forest_tree.specs.Tree.{Tree, node, machine, Path, subtree, at_path}
use Rattle.forest_tree.specs.Step.{has_ended}
use Rattle.talking_history.specs.Places.{out}
use Rattle.talking_history.specs.World.{holds, is_at_home, is_resting}
use Rattle.talking_history.specs.Rows.{How, gave, ended, forked, joined, killed, sent, received, waited}
use Rattle.talking_history.specs.Rows.{Row, over, stopped, stuck, idle, took, wake_failed, spent, dropped, kept, Allows, does}
use Rattle.world_core.specs.declared.reason.Reason.{Reason}
use Rattle.world_core.specs.declared.world.World.{World}
use Rattle.world_core.specs.declared.world.Placed.{Placed}
use Rattle.world_core.specs.declared.world.Placed.TheVariants.{Done, Parked, Dropped, Memory}
use Rattle.world_core.specs.declared.world.Taken.{Taken}
use Rattle.world_core.specs.declared.world.Taken.TheVariants as taken
use Rattle.world_core.specs.declared.world.Talked.{Talked}
use Rattle.world_core.specs.declared.world.Talked.TheVariants as on
use Rattle.forest_model.specs.Paged.{stalled_at, paged_machines, paged_talks, Paged, advanced_by}
use Rattle.std.specs.Option.{IfSome}
use Rattle.vm_cell.specs.Keyed.{IsOfDepot, KeyedMachine, paged}
use Rattle.world_core.specs.Lent.{Lent, now_of}
use Rattle.world_core.specs.Shows.{Member, forest, paged_of}
use Rattle.world_core.specs.World.{Forest, StandsFor}

-- the call is this row of the forest, and the world stands for what the row makes of it
pub record Goes (depot : Shelves) (f : Forest) (row : Row Reason) (new : World) : Type 0 where
  pub allowed : Allows paged_machines paged_talks row f
  pub after : StandsFor depot new (does paged_machines paged_talks row f)

-- the forest's machine is out, as it was when it was taken, with the pages that the steps on this lease lead to what
-- is known of them now
pub record IsOutAs (lease : Lent) (t : Tree Member) : Type 0 where
  pub is_out : (machine t).machine.place ≡ out
  pub start : (paged_of (machine t)).machine ≡ lease.start
  pub pages : (advanced_by lease.ran (paged_of (machine t))).pages ≡ lease.pages

-- the forest's machine is out, as it was when it was taken, whatever was known of its pages
abbrev pub IsOutFrom : Lent → Tree Member → Type 0
IsOutFrom lease t = ((machine t).machine.place ≡ out) × ((paged_of (machine t)).machine ≡ lease.start)

-- the machine of this name is out so, or the name is gone
abbrev pub IsOutSince : Forest → Lent → Type 0
IsOutSince f lease = IfSome (subtree lease.name f.tree) (IsOutFrom lease)

-- the same, with such pages
abbrev pub IsHandedOut : Forest → Lent → Type 0
IsHandedOut f lease = IfSome (subtree lease.name f.tree) (IsOutAs lease)

-- the absent pages of its machine, if it has some, are in an image of this depot
abbrev pub IsLentOf : Shelves → Lent → Type 0
IsLentOf depot lease = IsOfDepot depot lease.key

-- the world handed out the lease: so it is in a forest that the world stands for, with its images in this depot
abbrev pub HandedOutIn : Shelves → World → Lent → Type 0
HandedOutIn depot w lease = (f : Forest) × StandsFor depot w f × IsHandedOut f lease × IsLentOf depot lease

-- the same, in any depot
abbrev pub HandedOut : World → Lent → Type 0
HandedOut w lease = (depot : Shelves) × HandedOutIn depot w lease

-- the call is JOIN
abbrev pub IsJoinCall : Option Call → Type 0
IsJoinCall None = ⊥
IsJoinCall (Some (Clone ticket)) = ⊥
IsJoinCall (Some (Join ticket)) = Unit {0}
IsJoinCall (Some (Kill ticket)) = ⊥

abbrev pub join_ticket : Option Call → Option ℕ
join_ticket None = None
join_ticket (Some (Clone ticket)) = None
join_ticket (Some (Join ticket)) = Some ticket
join_ticket (Some (Kill ticket)) = None

-- how a machine comes back that makes this talk
abbrev pub said_by : Talk → How
said_by (Send j) = sent
said_by (Receive j) = received

-- which calls may want memory
abbrev pub MayWant : How → Type 0
MayWant gave = ⊥
MayWant ended = ⊥
MayWant forked = Unit {0}
MayWant joined = Unit {0}
MayWant killed = ⊥
MayWant sent = Unit {0}
MayWant received = ⊥
MayWant waited = ⊥

-- which may find that the machine waits
abbrev pub MayWait : How → Type 0
MayWait gave = ⊥
MayWait ended = ⊥
MayWait forked = ⊥
MayWait joined = Unit {0}
MayWait killed = ⊥
MayWait sent = Unit {0}
MayWait received = Unit {0}
MayWait waited = ⊥

-- the answer to a lease that comes back so
abbrev pub Answers : Shelves → Forest → How → Lent → Placed → World → Type 0
Answers depot f how lease Done new = Goes depot f (spent how lease.name lease.ran) new
Answers depot f how lease Parked new = MayWait how × Goes depot f (spent waited lease.name lease.ran) new
Answers depot f how lease Dropped new = Goes depot f (dropped lease.name) new
Answers depot f how lease (Memory back) new = MayWant how × (back ≡ lease) × Goes depot f (kept lease.name lease.ran) new

-- a machine that comes back lives, or has ended
abbrev pub home_by : Option Ending → How
home_by None = gave
home_by (Some ending) = ended

-- a lease of the machine of that name, as it stands there
pub record Starts (f : Forest) (lease : Lent) : Type 0 where
  pub ran : lease.ran ≡ 0
  pub now : lease.now ≡ lease.start
  pub start : IfSome (subtree lease.name f.tree) (λ t. paged_of (machine t) ≡ now_of lease)

-- the answer of `take`
abbrev pub Takes : Shelves → Forest → Taken → World → Type 0
Takes depot f taken.Over new = Goes depot f over new
Takes depot f (taken.Stopped reason) new = Goes depot f (stopped reason) new
Takes depot f taken.Stuck new = Goes depot f stuck new
Takes depot f taken.Idle new = Goes depot f idle new
Takes depot f (taken.Took lease) new = Goes depot f (took lease.name) new × Starts f lease × IsLentOf depot lease
Takes depot f taken.Memory new = Goes depot f wake_failed new

-- the forest after the machine of a lease came back so
abbrev pub after_spent : Forest → How → Lent → Forest
after_spent f how lease = does paged_machines paged_talks (spent how lease.name lease.ran) f

-- the machine came back so, and was taken again at once
pub record StaysOnLease (depot : Shelves) (f : Forest) (how : How) (lease next : Lent) (new : World) : Type 0 where
  pub allowed : Allows paged_machines paged_talks (spent how lease.name lease.ran) f
  pub same : next.name ≡ lease.name
  pub taken_again : Goes depot (after_spent f how lease) (took lease.name) new
  pub starts : Starts (after_spent f how lease) next
  pub of_depot : IsLentOf depot next

-- the answer to a talk whose machine may stay on lease
abbrev pub TalksOn : Shelves → Forest → How → Lent → Talked → World → Type 0
TalksOn depot f how lease (on.Goes next heard) new = StaysOnLease depot f how lease next new
TalksOn depot f how lease (on.Placed answer) new = Answers depot f how lease answer new

-- a machine that came back so does not run on: the world was stopped, or the machine has ended
abbrev pub MayNotGoOn : Forest → How → Lent → Type 0
MayNotGoOn f how lease = IsSome f.halted ⊎ (holds (has_ended forest) (subtree lease.name (after_spent f how lease).tree) ≡ true)

-- only then is it taken back once it has made its talk
abbrev pub IsHomeOnlyThen : Forest → How → Lent → Talked → Type 0
IsHomeOnlyThen f how lease (on.Goes next heard) = Unit {0}
IsHomeOnlyThen f how lease (on.Placed Done) = MayNotGoOn f how lease
IsHomeOnlyThen f how lease (on.Placed Parked) = Unit {0}
IsHomeOnlyThen f how lease (on.Placed Dropped) = Unit {0}
IsHomeOnlyThen f how lease (on.Placed (Memory back)) = Unit {0}

-- the answer of `take_named`, which takes a machine that waits too
abbrev pub TakesNamed : Shelves → Forest → Path → Result (Option Lent) AllocError → World → Type 0
TakesNamed depot f name (Ok None) new = (is_at_home paged_machines paged_talks name f.tree ≡ false) × StandsFor depot new f
TakesNamed depot f name (Ok (Some lease)) new =
    (is_at_home paged_machines paged_talks name f.tree ≡ true) × (lease.name ≡ name) × Starts f lease × IsLentOf depot lease
    × StandsFor depot new (does paged_machines paged_talks (took name) f)
TakesNamed depot f name (Err e) new = StandsFor depot new f

-- the tree with its machine as it stands now
abbrev pub with_machine : Paged → Tree Member → Tree Member
with_machine m (node b broods log) = node (record b { machine = record b.machine { machine = m } }) broods log

-- a live machine of this name waits: for a child of the ticket that it joins, or with its talk for a sibling
abbrev pub stands_waiting : Path → Tree Member → Bool
stands_waiting name t = holds (λ a. not (has_ended forest a)) (subtree name t) && is_resting paged_machines paged_talks name t

-- so does this one in its place: one whose next step stalls stands at no call and no talk
abbrev pub stands_waiting_of : KeyedMachine → Path → Tree Member → Bool
stands_waiting_of v name t = not (is_some (stalled_at (paged v))) && stands_waiting name (at_path (with_machine (paged v)) name t)
