-- What the notes of a board stand for in a history.
use Rattle.std.specs.Prelude.{ℕ, [], ◌∷◌, ◌++◌, Option, Result, Ok, Err}
use Rattle.std.specs.declared.alloc.AllocError.{AllocError}
use Rattle.forest_tree.specs.Tree.{Path}
use Rattle.talking_history.specs.Histories.{Seat, Entry, row, told, heard, tell_failed, hear_failed, History}
use Rattle.talking_history.specs.Rows.{How, gave, ended, forked, joined, killed, sent, received, waited}
use Rattle.talking_history.specs.Rows.{spent, over, stopped, stuck, idle, took, wake_failed, dropped, kept, halted}
use Rattle.image_depot.specs.Reply.{Delivery}
use Rattle.turn_board.specs.History as notes
use Rattle.world_core.specs.declared.reason.Reason.{Reason}
use Rattle.world_core.specs.declared.world.Placed.{Placed}
use Rattle.world_core.specs.declared.world.Placed.TheVariants as placed
use Rattle.world_core.specs.declared.world.Taken.{Taken}
use Rattle.world_core.specs.declared.world.Taken.TheVariants as taken
use Rattle.fork_board.specs.declared.note.Note.{Note}
use Rattle.fork_board.specs.declared.note.Note.TheVariants as note
use Rattle.fork_board.specs.declared.note.TurnNote.{TurnNote}
use Rattle.fork_board.specs.declared.note.TurnNote.TheVariants.{One, Two}

abbrev pub entry_of : Note → Entry Reason
entry_of note.Over = row over
entry_of (note.Stopped reason) = row (stopped reason)
entry_of note.Stuck = row stuck
entry_of note.Idle = row idle
entry_of (note.Took name) = row (took name.value)
entry_of note.WakeFailed = row wake_failed
entry_of (note.Gave name ran) = row (spent gave name.value ran)
entry_of (note.Ended name ran) = row (spent ended name.value ran)
entry_of (note.Forked name ran) = row (spent forked name.value ran)
entry_of (note.Joined name ran) = row (spent joined name.value ran)
entry_of (note.Killed name ran) = row (spent killed name.value ran)
entry_of (note.Sent name ran) = row (spent sent name.value ran)
entry_of (note.Received name ran) = row (spent received name.value ran)
entry_of (note.Parked name ran) = row (spent waited name.value ran)
entry_of (note.Dropped name) = row (dropped name.value)
entry_of (note.Kept name ran) = row (kept name.value ran)
entry_of (note.Halted reason) = row (halted reason)
entry_of (note.Told image page) = told image page
entry_of (note.Heard place) = heard place
entry_of note.TellFailed = tell_failed
entry_of (note.HearFailed place) = hear_failed place

-- the entries that a seat made in one turn, in their order
abbrev pub turn_entries : Seat → TurnNote → History Reason
turn_entries seat (One call) = (seat, entry_of call) ∷ []
turn_entries seat (Two first then) = (seat, entry_of first) ∷ (seat, entry_of then) ∷ []

-- the history of the notes
abbrev pub entries : notes.History TurnNote → History Reason
entries [] = []
entries (e ∷ log) = turn_entries e.0 e.1 ++ entries log

-- ---- the entry of each answer

abbrev pub taken_entry : Taken → Entry Reason
taken_entry taken.Over = row over
taken_entry (taken.Stopped reason) = row (stopped reason)
taken_entry taken.Stuck = row stuck
taken_entry taken.Idle = row idle
taken_entry (taken.Took lease) = row (took lease.name)
taken_entry taken.Memory = row wake_failed

-- of a machine that comes back so, after so many steps
abbrev pub placed_entry : How → Path → ℕ → Placed → Entry Reason
placed_entry how name ran placed.Done = row (spent how name ran)
placed_entry how name ran placed.Parked = row (spent waited name ran)
placed_entry how name ran placed.Dropped = row (dropped name)
placed_entry how name ran (placed.Memory lease) = row (kept name ran)

abbrev pub told_entry : ℕ → ℕ → Result (Unit {0}) AllocError → Entry Reason
told_entry image page (Ok u) = told image page
told_entry image page (Err e) = tell_failed

abbrev pub heard_entry : ℕ → Result (Option Delivery) AllocError → Entry Reason
heard_entry place (Ok reply) = heard place
heard_entry place (Err e) = hear_failed place
