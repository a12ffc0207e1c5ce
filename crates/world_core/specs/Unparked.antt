-- A cell whose machine waits no more.
use Rattle.std.specs.Prelude.{◌≡◌, ℕ, ◌==◌, ◌||◌, Bool, false, if◌then◌else◌, Option, Some, None}
use Rattle.forest_tree.specs.Operations.{join}
use Rattle.forest_tree.specs.Tree.{Tree, machine}
use Rattle.forest_tree.specs.Step.{waits}
use Rattle.sibling_port.specs.declared.talk.Talk.TheVariants.{Send, Receive}
use Rattle.world_core.specs.declared.cell.Awaited.{Awaited}
use Rattle.world_core.specs.declared.cell.Awaited.TheVariants.{Children, Sibling}
use Rattle.world_core.specs.declared.cell.Change.{Change}
use Rattle.world_core.specs.declared.cell.Change.TheVariants.{AllEnded, Word, Room, Ended}
use Rattle.world_core.specs.declared.cell.State.{State}
use Rattle.world_core.specs.declared.cell.State.TheVariants.{Home, Parked, Out}
use Rattle.ready_queue.specs.Ready.{Ready}
use Rattle.world_core.specs.Shows.{Member, forest}

-- the change ends a wait for this
abbrev pub ends_wait : Change → Awaited → Bool
ends_wait (AllEnded ticket) (Children waited) = ticket == waited
ends_wait (AllEnded ticket) (Sibling what) = false
ends_wait (Word from) (Children waited) = false
ends_wait (Word from) (Sibling (Send peer)) = false
ends_wait (Word from) (Sibling (Receive peer)) = from == peer
ends_wait (Room to) (Children waited) = false
ends_wait (Room to) (Sibling (Send peer)) = to == peer
ends_wait (Room to) (Sibling (Receive peer)) = false
ends_wait (Ended sibling) (Children waited) = false
ends_wait (Ended sibling) (Sibling (Send peer)) = sibling == peer
ends_wait (Ended sibling) (Sibling (Receive peer)) = sibling == peer

-- the machine is at home, if the change ends its wait
abbrev pub unparked : Change → State → State
unparked change (Home vm) = Home vm
unparked change (Parked awaited vm turn) = if ends_wait change awaited then Home vm else Parked awaited vm turn
unparked change Out = Out

abbrev pub is_parked_for : Change → State → Bool
is_parked_for change (Home vm) = false
is_parked_for change (Parked awaited vm turn) = ends_wait change awaited
is_parked_for change Out = false

-- the turn that a machine keeps which waits
abbrev pub kept_turn : State → Option Ready
kept_turn (Home vm) = None
kept_turn (Parked awaited vm turn) = Some turn
kept_turn Out = None

-- a live machine rests where it waits for its children, or by its talk for a sibling
abbrev pub rests_with : Bool → Tree Member → Bool
rests_with by_talk t = waits forest t || by_talk

-- one that stands at a join does not talk
abbrev pub JoinsAlone : Bool → Tree Member → Type 0
JoinsAlone by_talk t = (ticket : ℕ) → forest.call (machine t) ≡ Some (join ticket) → by_talk ≡ false
