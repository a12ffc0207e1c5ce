-- How the work on a board ends: the root has ended, or the world was stopped, or no machine makes a step any more; and which
-- pass stopped it.
use Rattle.std.specs.Prelude.{◌≡◌, ◌≢◌, ◌⊎◌, ℕ, ◌+◌, ◌<◌, ◌≤◌, Bool, true, false, [], ◌∷◌, ◌++◌, Option, Some, None, IsSome, IsSomeAnd}
use Rattle.std.specs.Option.{IfSome}
use Rattle.forest_tree.specs.Tree.{Path}
use Rattle.forest_tree.specs.Step.{has_ended}
use Rattle.sibling_forest.specs.Finish.{rests}
use Rattle.talking_history.specs.Places.{bare, boxes}
use Rattle.talking_history.specs.Rows.{Row, over, stopped, stuck, idle, took, wake_failed, spent, dropped, kept, halted}
use Rattle.talking_history.specs.Histories.{Seat, holding, Entry, row, told, heard, tell_failed, hear_failed, History, IsLegal}
use Rattle.forest_model.specs.Forest.{machines, talks}
use Rattle.turn_board.specs.History.{entries_by}
use Rattle.world_core.specs.declared.reason.Reason.{Reason}
use Rattle.fork_board.specs.Follows.{opening_record}
use Rattle.fork_board.specs.Passes.{PassValue, seen_record}
use Rattle.board_ends.specs.Stages.{Goes, done, free}
use Rattle.board_ends.specs.declared.finish.Finish.{Finish}
use Rattle.board_ends.specs.declared.finish.Finish.TheVariants as finish

-- ---- the end

-- the root has ended, after all that the pass has seen
abbrev pub is_over : PassValue → Bool
is_over pass = has_ended (boxes machines talks) (seen_record pass).world.tree

-- an entry of the history tells that the world is stuck: none of its machines makes a step any more
pub record HasStuck {R : Type 0} (log : History R) : Type 0 where
  pub before : History R
  pub seat : Seat
  pub later : History R
  pub entry : log ≡ before ++ (seat, row stuck) ∷ later

-- the root lives, there is no reason to stop, and the pass has seen that the world is stuck
pub record IsStuck (pass : PassValue) : Type 0 where
  pub lives : is_over pass ≡ false
  pub going : (seen_record pass).world.halted ≡ None
  pub found : HasStuck pass.seen

-- the answer of the work: the root has ended; or it lives, and this is the first reason to stop; or the world is stuck
abbrev pub Finishes : PassValue → Finish → Type 0
Finishes pass finish.Over = is_over pass ≡ true
Finishes pass (finish.Stopped reason) = (is_over pass ≡ false) × ((seen_record pass).world.halted ≡ Some reason)
Finishes pass finish.Stuck = IsStuck pass

-- the reason for which the world was stopped, if it was
abbrev pub stopped_for : Finish → Option Reason
stopped_for finish.Over = None
stopped_for (finish.Stopped reason) = Some reason
stopped_for finish.Stuck = None

-- the family has come to its end: the root has ended, or no machine makes a step any more
abbrev pub IsAtEnd : PassValue → Type 0
IsAtEnd pass = (is_over pass ≡ true) ⊎ IsStuck pass

-- no machine of the family makes a step, after all that the pass has seen
abbrev pub is_at_rest : PassValue → Bool
is_at_rest pass = rests machines talks (bare (seen_record pass).world.tree)

-- ---- who stopped the world

-- the reason to stop that an entry gives, if it gives one
abbrev pub reason_of_row : {R : Type 0} → Row R → Option R
reason_of_row over = None
reason_of_row (stopped reason) = None
reason_of_row stuck = None
reason_of_row idle = None
reason_of_row (took name) = None
reason_of_row wake_failed = None
reason_of_row (spent how name k) = None
reason_of_row (dropped name) = None
reason_of_row (kept name k) = None
reason_of_row (halted reason) = Some reason

abbrev pub reason_of : {R : Type 0} → Entry R → Option R
reason_of (row x) = reason_of_row x
reason_of (told image page) = None
reason_of (heard place) = None
reason_of tell_failed = None
reason_of (hear_failed place) = None

-- the reason of this seat, or what was given later
abbrev pub stop_or : {R : Type 0} → Seat → Option R → Option (Seat × R) → Option (Seat × R)
stop_or seat None later = later
stop_or seat (Some reason) later = Some (seat, reason)

-- the first reason to stop in a history, with the seat that gave it
unfoldable pub first_stop : {R : Type 0} → History R → Option (Seat × R)
first_stop [] = None
first_stop (e ∷ rest) = stop_or e.0 (reason_of e.1) (first_stop rest)

-- the pass has seen that the world was stopped
abbrev pub IsStopped : PassValue → Type 0
IsStopped pass = IsSome (first_stop pass.seen)

-- the pass has seen that the world was stopped first by this seat, and for this reason
abbrev pub IsStoppedBy : Seat → Reason → PassValue → Type 0
IsStoppedBy seat reason pass = first_stop pass.seen ≡ Some (seat, reason)

-- the seat is not the pass's, and is of no pass that is yet to be split off from it, nor of one that is split off from such
pub record IsForeign (pass : PassValue) (seat : Seat) : Type 0 where
  pub not_own : seat ≢ pass.number
  pub not_below : (k : ℕ) (below : Seat) → pass.splits ≤ k → seat ≢ pass.number ++ k ∷ below

-- in what a later pass has seen, the world was stopped first by a seat that is foreign to the pass
abbrev pub IsStoppedElsewhere : PassValue → PassValue → Type 0
IsStoppedElsewhere pass later = IsSomeAnd (first_stop later.seen) (λ stop. IsForeign pass stop.0)

-- ---- the work of passes

-- the pass and those that were split off from it have made entries
pub record WorkedAll (old new : PassValue) : Type 0 where
  pub same_board : new.board ≡ old.board
  pub same_number : new.number ≡ old.number
  pub rest : History Reason
  pub seen : new.seen ≡ old.seen ++ rest
  pub legal : IsLegal machines talks new.seen (opening_record old.board.opening)

-- ---- how many have worked

-- since the history was as long as this, the seat has worked, until it found that there is nothing more to be done: each time
-- it handed its machine back, and where it could not run it on, it stopped the world first. It holds no machine
pub record IsDone (seat : Seat) (before : History Reason) (new : PassValue) : Type 0 where
  pub rest : History Reason
  pub seen : new.seen ≡ before ++ rest
  pub goes : Goes free (entries_by seat rest) done
  pub none : (name : Path) → IfSome (holding name (seen_record new).holdings) (λ h. h.seat ≢ seat)

-- so many have worked so: the pass itself, and all others, which were split off from it one after another
pub record AreDone (count : ℕ) (old new : PassValue) : Type 0 where
  pub splits : new.splits + 1 ≡ old.splits + count
  pub own : IsDone old.number old.seen new
  pub others : (k : ℕ) → k + 1 < count → IsDone (old.number ++ (old.splits + k) ∷ []) old.seen new
