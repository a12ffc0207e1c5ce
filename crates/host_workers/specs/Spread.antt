-- Work that is spread over passes which were split off from one.
use Rattle.std.specs.Prelude.{◌≡◌, ◌⊎◌, ℕ, zero, suc, ◌+◌, ◌<◌, ◌≤◌, true, List, length, [], ◌∷◌, ◌++◌}
use Rattle.talking_history.specs.Histories.{Seat}
use Rattle.turn_board.specs.History.{entries_by}
use Rattle.turn_board.specs.Seats.{has_seat, next_seat}
use Rattle.world_core.specs.declared.reason.Reason.TheVariants as reason
use Rattle.fork_board.specs.Passes.{BoardValue, HoldsNone, PassValue}
use Rattle.page_claims.specs.Calls.{IsSamePass}
use Rattle.page_claims.specs.Values.{ClaimsValue}
use Rattle.board_ends.specs.Finishes.{AreDone, Finishes, IsStopped, IsStoppedElsewhere, WorkedAll}
use Rattle.board_ends.specs.Lost.{IsOneLost}
use Rattle.board_ends.specs.Stages.{done, free}
use Rattle.board_ends.specs.declared.finish.Finish.{Finish}
use Rattle.board_ends.specs.declared.finish.Finish.TheVariants.{Over, Stopped, Stuck}
use Rattle.board_worker.specs.Claiming.{IsShare, share}
use Rattle.board_worker.specs.Stays.{Blames, Worked}
use Rattle.host_workers.specs.declared.state.State.{State}
use Rattle.host_workers.specs.declared.state.State.TheVariants.{Due, Begun, Done}

-- the pass after one was split off, and that one
abbrev pub parent : PassValue → PassValue
parent pass = record pass { splits = pass.splits + 1 }

abbrev pub child : PassValue → PassValue
child pass = record pass { number = pass.number ++ pass.splits ∷ []; splits = 0; mine = []; ended = [] }

-- the end of two, of whom each came to one: a world in which no machine makes a step may still be stopped
abbrev pub finish_of : Finish → Finish → Finish
finish_of Over second = Over
finish_of (Stopped r) Over = Over
finish_of (Stopped r) (Stopped s) = Stopped s
finish_of (Stopped r) Stuck = Stopped r
finish_of Stuck second = second

-- ---- states

-- the states of so many workers and one more, which are due under this number and the next ones: each but the last has a pass
-- that is split off, one after another, and each has a share of these claims
unfoldable pub states_of : ClaimsValue → ℕ → PassValue → ℕ → List State
states_of claims first pass zero = Due first pass (share claims) ∷ []
states_of claims first pass (suc k) = Due first (child pass) (share claims) ∷ states_of claims (first + 1) (parent pass) k

-- the pass is of this board, and holds no machine
pub record IsReady (board : BoardValue) (pass : PassValue) : Type 0 where
  pub of_board : pass.board ≡ board
  pub none : HoldsNone pass

-- the worker is to work, with a pass that is ready, and with a share of these claims
abbrev pub IsDue : BoardValue → ClaimsValue → State → Type 0
IsDue board claims (Due number pass claiming) = IsReady board pass × IsShare claims claiming
IsDue board claims Begun = ⊥
IsDue board claims (Done pass claiming finish) = ⊥

-- one worker has worked over this wire
pub record Works {W : Type 0} (streak : W → ℕ) (wire : W) (old new : PassValue) (finish : Finish) : Type 0 where
  pub worked : Worked free done old new
  pub none : HoldsNone new
  pub end : Finishes new finish
  pub blames : Blames streak wire old new

-- a worker that was to work has done so, over this wire, and has as large a share of the claims as before
abbrev pub HasWorked : {W : Type 0} → (W → ℕ) → W → State → State → Type 0
HasWorked streak wire (Due number old claiming) (Done new claimed finish) = Works streak wire old new finish × IsSamePass claiming claimed
HasWorked streak wire (Due number old claiming) (Due other new claimed) = ⊥
HasWorked streak wire (Due number old claiming) Begun = ⊥
HasWorked streak wire Begun new = ⊥
HasWorked streak wire (Done old claiming end) new = ⊥

-- the same of each of them, over a wire of its own
unfoldable pub HaveWorked : {W : Type 0} → (W → ℕ) → List W → List State → List State → Type 0
HaveWorked streak [] [] [] = Unit {0}
HaveWorked streak (wire ∷ wires) (old ∷ olds) (new ∷ news) = HasWorked streak wire old new × HaveWorked streak wires olds news
HaveWorked streak [] [] (new ∷ news) = ⊥
HaveWorked streak [] (old ∷ olds) news = ⊥
HaveWorked streak (wire ∷ wires) [] news = ⊥
HaveWorked streak (wire ∷ wires) (old ∷ olds) [] = ⊥

-- ---- all of them

-- where the world was stopped for a wire, one of these wires is lost, or it was stopped before, or by another
abbrev pub BlamesOne : {W : Type 0} → (W → ℕ) → List W → PassValue → PassValue → Finish → Type 0
BlamesOne streak wires old new finish =
    finish ≡ Stopped reason.Wire → IsOneLost streak wires ⊎ (IsStopped old ⊎ IsStoppedElsewhere old new)

-- workers have worked over these wires, one over each
pub record WorkAll {W : Type 0} (streak : W → ℕ) (wires : List W) (old new : PassValue) (finish : Finish) : Type 0 where
  pub worked : WorkedAll old new
  pub none : HoldsNone new
  pub end : Finishes new finish
  pub own : entries_by new.number new.seen ≡ new.mine
  pub unmade : (k : ℕ) (below : Seat) → new.splits ≤ k → entries_by (new.number ++ k ∷ below) new.seen ≡ []
  pub ended : (k : ℕ) → k + 1 < length wires → has_seat new.ended (next_seat (old.number ++ (old.splits + k) ∷ []) 0) ≡ true
  pub are_done : AreDone (length wires) old new
  pub blames : BlamesOne streak wires old new finish
