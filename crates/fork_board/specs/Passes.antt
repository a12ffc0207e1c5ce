-- What contracts see of a board and of its passes.
use Rattle.std.specs.Prelude.{◌≡◌, ◌≢◌, ◌⊎◌, ℕ, ◌≤◌, true, List, [], ◌∷◌, ◌++◌, Some}
use Rattle.std.specs.Option.{IfSome}
use Rattle.atomic_table.specs.Seated.{TableId}
use Rattle.forest_tree.specs.Tree.{Path}
use Rattle.talking_history.specs.Histories.{Seat, holding, Entry, row, told, heard, tell_failed, hear_failed, History, IsLegal, Record}
use Rattle.talking_history.specs.Rows.{over, stopped, stuck, idle, took, wake_failed, spent, dropped, kept, halted}
use Rattle.forest_model.specs.Forest.{machines, talks}
use Rattle.forest_model.specs.Machine.{Machine}
use Rattle.turn_board.specs.History.{HasEnded, entries_by}
use Rattle.turn_board.specs.Seats.{has_seat, next_seat}
use Rattle.world_core.specs.declared.reason.Reason.{Reason}
use Rattle.world_core.specs.declared.world.World.{World}
use Rattle.world_core.specs.Lent.{Lent}
use Rattle.fork_board.specs.declared.note.Opening.{Opening}
use Rattle.fork_board.specs.Follows.{Follows, opening_record, record_at}

-- which board it is, and what was fixed when it was made
pub record BoardValue : Type 0 where
  pub table : TableId
  pub opening : Opening

pub record PassValue : Type 0 where
  pub board : BoardValue
  -- the number of its seat
  pub number : Seat
  -- how many passes were split off from it
  pub splits : ℕ
  -- the history as far as it has seen it
  pub seen : History Reason
  -- the entries that it made
  pub mine : History Reason
  -- the passes that were joined to it, and to those, each by the number that it would have given next
  pub ended : List Seat

-- the first pass of a board
abbrev pub first_pass : BoardValue → PassValue
first_pass board = record { board = board; number = []; splits = 0; seen = []; mine = []; ended = [] }

-- what is on record after all that the pass has seen
abbrev pub seen_record : PassValue → Record Machine Reason
seen_record pass = record_at pass.board.opening pass.seen

-- the pass has taken the machine of the lease, and holds it
abbrev pub IsHeld : PassValue → Lent → Type 0
IsHeld pass lease = holding lease.name (seen_record pass).holdings ≡ Some (record { name = lease.name; seat = pass.number; found = lease.start })

-- the pass does not hold the machine of this name
abbrev pub IsFree : PassValue → Path → Type 0
IsFree pass name = IfSome (holding name (seen_record pass).holdings) (λ h. h.seat ≢ pass.number)

-- the pass holds no machine
abbrev pub HoldsNone : PassValue → Type 0
HoldsNone pass = (name : Path) → IsFree pass name

-- who makes the entry holds no machine of this name behind it: it held none before, or hands it back
abbrev pub FreeAfter : Entry Reason → Path → Type 0 → Type 0
FreeAfter (row over) name before = before
FreeAfter (row (stopped reason)) name before = before
FreeAfter (row stuck) name before = before
FreeAfter (row idle) name before = before
FreeAfter (row (took other)) name before = (other ≢ name) × before
FreeAfter (row wake_failed) name before = before
FreeAfter (row (spent how other k)) name before = (other ≡ name) ⊎ before
FreeAfter (row (dropped other)) name before = (other ≡ name) ⊎ before
FreeAfter (row (kept other k)) name before = before
FreeAfter (row (halted reason)) name before = before
FreeAfter (told image page) name before = before
FreeAfter (heard place) name before = before
FreeAfter tell_failed name before = before
FreeAfter (hear_failed place) name before = before

-- who makes the entry neither takes the machine of this name nor hands it back
abbrev pub Leaves : Entry Reason → Path → Type 0
Leaves (row over) name = Unit {0}
Leaves (row (stopped reason)) name = Unit {0}
Leaves (row stuck) name = Unit {0}
Leaves (row idle) name = Unit {0}
Leaves (row (took other)) name = other ≢ name
Leaves (row wake_failed) name = Unit {0}
Leaves (row (spent how other k)) name = other ≢ name
Leaves (row (dropped other)) name = other ≢ name
Leaves (row (kept other k)) name = Unit {0}
Leaves (row (halted reason)) name = Unit {0}
Leaves (told image page) name = Unit {0}
Leaves (heard place) name = Unit {0}
Leaves tell_failed name = Unit {0}
Leaves (hear_failed place) name = Unit {0}

-- the history has one entry more of the pass behind those that others made since, and is legal with it
pub record Makes (old new : PassValue) (entry : Entry Reason) : Type 0 where
  pub same_board : new.board ≡ old.board
  pub same_number : new.number ≡ old.number
  pub same_splits : new.splits ≡ old.splits
  pub same_ended : new.ended ≡ old.ended
  pub between : History Reason
  pub seen : new.seen ≡ (old.seen ++ between) ++ (old.number, entry) ∷ []
  -- none of those in between is the pass's own
  pub others : entries_by old.number between ≡ []
  pub mine : new.mine ≡ old.mine ++ (old.number, entry) ∷ []
  pub own : entries_by new.number new.seen ≡ new.mine
  -- no pass that is yet to be split off from it has made an entry, nor has one that would be split off from such
  pub unmade : (k : ℕ) (below : Seat) → new.splits ≤ k → entries_by (new.number ++ k ∷ below) new.seen ≡ []
  pub legal : IsLegal machines talks new.seen (opening_record old.board.opening)
  pub free : (name : Path) → FreeAfter entry name (IsFree old name) → IsFree new name
  pub held : (lease : Lent) → IsHeld old lease → Leaves entry lease.name → IsHeld new lease

-- the pass has seen the longer of what two had seen, of which the other is the beginning. All of it is legal, and the
-- pass holds what it held, and has no entries but its own. The second has ended: of it, and of those that ended before, the
-- pass has seen all entries, and there is none of a pass that one of these had yet to split off
pub record Joins (pass other new : PassValue) : Type 0 where
  pub same_board : new.board ≡ pass.board
  pub same_number : new.number ≡ pass.number
  pub same_splits : new.splits ≡ pass.splits
  pub same_mine : new.mine ≡ pass.mine
  pub either : (new.seen ≡ pass.seen) ⊎ (new.seen ≡ other.seen)
  pub seen : (rest : History Reason) × (new.seen ≡ pass.seen ++ rest)
  pub others : (rest : History Reason) × (new.seen ≡ other.seen ++ rest)
  pub own : entries_by new.number new.seen ≡ new.mine
  pub legal : IsLegal machines talks new.seen (opening_record new.board.opening)
  pub free : (name : Path) → IsFree pass name → IsFree new name
  pub held : (lease : Lent) → IsHeld pass lease → IsHeld new lease
  pub unmade : (k : ℕ) (below : Seat) → new.splits ≤ k → entries_by (new.number ++ k ∷ below) new.seen ≡ []
  pub ended : new.ended ≡ pass.ended ++ next_seat other.number other.splits ∷ other.ended
  pub still : (seat : Seat) (splits : ℕ) → has_seat pass.ended (next_seat seat splits) ≡ true → HasEnded seat splits pass.seen new.seen
  pub last : (seat : Seat) (splits : ℕ) → has_seat (next_seat other.number other.splits ∷ other.ended) (next_seat seat splits) ≡ true
      → HasEnded seat splits other.seen new.seen

-- the whole history begins with what the pass had seen, and has no more entries of its number. The world follows it
pub record Closes (pass : PassValue) (w : World) : Type 0 where
  pub log : History Reason
  pub between : History Reason
  pub later : log ≡ pass.seen ++ between
  pub own : entries_by pass.number log ≡ pass.mine
  pub unmade : (k : ℕ) (below : Seat) → pass.splits ≤ k → entries_by (pass.number ++ k ∷ below) log ≡ []
  pub follows : Follows pass.board.opening log w
