-- A turn of a pass, between its start and its end.
use Rattle.std.specs.Prelude.{◌≡◌, ℕ, ◌≤◌, List, [], ◌∷◌, ◌++◌, Box}
use Rattle.std.specs.declared.alloc.Global.{Global}
use Rattle.forest_tree.specs.Sound.{IsSound}
use Rattle.talking_history.specs.Places.{boxes}
use Rattle.talking_history.specs.Histories.{History, IsLegal}
use Rattle.forest_model.specs.Forest.{machines, talks}
use Rattle.atomic_table.specs.declared.shared.Seat.{Seat}
use Rattle.turn_board.specs.declared.view.Content.{Content}
use Rattle.turn_board.specs.declared.view.View.{View}
use Rattle.turn_board.specs.Calls.{IsSeat}
use Rattle.turn_board.specs.History.{entries_by}
use Rattle.world_core.specs.declared.reason.Reason.{Reason}
use Rattle.world_core.specs.declared.world.World.{World}
use Rattle.fork_board.specs.declared.note.TurnNote.{TurnNote}
use Rattle.fork_board.specs.declared.note.Opening.{Opening}
use Rattle.fork_board.specs.Follows.{Follows, opening_record}
use Rattle.fork_board.specs.Notes.{entries, turn_entries}
use Rattle.fork_board.specs.Passes.{BoardValue, PassValue}

-- a seat at the lock
abbrev pub Place : Type 0
Place = Seat (Content (Box World Global) TurnNote) (View Opening TurnNote)

-- the pass as its seat has it
abbrev pub pass_of : BoardValue → Place → PassValue
pass_of board seat = record {
  board = board;
  number = seat.me.0.seat;
  splits = seat.me.0.splits;
  seen = entries seat.me.0.seen;
  mine = entries seat.me.0.mine;
  ended = seat.me.0.ended;
}

-- the seat is one of this board and has no turn, and what it has seen is legal from the machine of the opening on
pub record IsPlace (board : BoardValue) (place : Place) : Type 0 where
  pub seat : IsSeat board.table board.opening place
  pub start : IsSound (boxes machines talks) (opening_record board.opening).world.tree
  pub legal : IsLegal machines talks (entries place.me.0.seen) (opening_record board.opening)

-- the turn of the pass has come: others made entries since, and the world follows all
pub record Visits (pass now : PassValue) (w : World) : Type 0 where
  pub same_board : now.board ≡ pass.board
  pub same_number : now.number ≡ pass.number
  pub same_splits : now.splits ≡ pass.splits
  pub same_mine : now.mine ≡ pass.mine
  pub same_ended : now.ended ≡ pass.ended
  pub between : History Reason
  pub seen : now.seen ≡ pass.seen ++ between
  pub others : entries_by pass.number between ≡ []
  pub own : entries_by now.number now.seen ≡ now.mine
  pub unmade : (k : ℕ) (below : List ℕ) → now.splits ≤ k → entries_by (now.number ++ k ∷ below) now.seen ≡ []
  pub follows : Follows now.board.opening now.seen w

-- the turn has passed with the entries of its note
pub record Passed (now new : PassValue) (note : TurnNote) : Type 0 where
  pub same_board : new.board ≡ now.board
  pub same_number : new.number ≡ now.number
  pub same_splits : new.splits ≡ now.splits
  pub same_ended : new.ended ≡ now.ended
  pub seen : new.seen ≡ now.seen ++ turn_entries now.number note
  pub mine : new.mine ≡ now.mine ++ turn_entries now.number note
  pub own : entries_by new.number new.seen ≡ new.mine
