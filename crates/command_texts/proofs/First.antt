-- The first pass of a new board: no seat is foreign to it, and it has seen nothing.
use Rattle.std.proofs.Common.{◌≡◌, ◌⊎◌, inl, inr, ℕ, ◌<◌, true, false, List, [], ◌∷◌, get_or, length, Option, Some, None, Result, IfOk, refl, ap, ◌∙◌, subst, arith}
use Rattle.std.specs.Option.{IsSomeAnd}
use Rattle.talking_history.specs.Histories.{Seat}
use Rattle.board_ends.specs.Finishes.{IsForeign, IsStopped, IsStoppedElsewhere, WorkedAll, first_stop}
use Rattle.board_ends.specs.Lost.{IsOneLost}
use Rattle.guest_files.specs.declared.stop.Stop.{Stop}
use Rattle.forest_model.specs.Forest.{finish}
use Rattle.forest_model.specs.Machine.{Machine}
use Rattle.run_report.specs.Lines.{lines}
use Rattle.run_report.specs.Report.{Ended as Outcome, lines_of, told_box}
use Rattle.wire_fates.specs.declared.fate.TheConstants.{LONGEST_STREAK}
use Rattle.vm_cell.specs.Keyed.{KeyedMachine}
use Rattle.world_core.specs.declared.reason.Reason.{Reason}
use Rattle.fork_board.specs.Passes.{BoardValue, PassValue, first_pass}
use Rattle.command_texts.specs.Text.{first_family}

not-foreign : (board : BoardValue) (seat : Seat) → IsForeign (first_pass board) seat → ⊥
not-foreign board [] f = f.not_own refl
not-foreign board (k ∷ below) f = f.not_below k below (omega arith) refl

-- so if the world was stopped, it was by the pass or by one that was split off from it
elsewhere-not : (board : BoardValue) (stop : Option (Seat × Reason)) → IsSomeAnd stop (λ s. IsForeign (first_pass board) s.0) → ⊥
elsewhere-not board None h = h
elsewhere-not board (Some s) h = not-foreign board s.0 h

unstopped : (board : BoardValue) → IsStopped (first_pass board) → ⊥
unfolding first_stop
unstopped board stopped = let no : false ≡ true = stopped in cc

pub first-blames : {Lost : Type 0} (board : BoardValue) (pass later : PassValue) → pass ≡ first_pass board
    → Lost ⊎ (IsStopped pass ⊎ IsStoppedElsewhere pass later) → Lost
first-blames {Lost} board pass later is blame = by (subst (λ (p : PassValue). Lost ⊎ (IsStopped p ⊎ IsStoppedElsewhere p later)) is blame)
  where
    by : Lost ⊎ (IsStopped (first_pass board) ⊎ IsStoppedElsewhere (first_pass board) later) → Lost
    by (inl lost) = lost
    by (inr (inl stopped)) = absurd (unstopped board stopped)
    by (inr (inr elsewhere)) = absurd (elsewhere-not board (first_stop later.seen) elsewhere)

-- the only one of the wires is not lost
pub only-kept : {W : Type 0} (streak : W → ℕ) (wires : List W) (default : W) (count : ℕ) → IsOneLost streak wires → length wires ≡ 1
    → count ≡ streak (get_or wires 0 default) → count < LONGEST_STREAK → ⊥
only-kept streak [] default count lost one is kept = lost
only-kept streak (wire ∷ []) default count (inl lost) one is kept = let here : count ≡ streak wire = is in absurd (omega (arith, here, kept, lost))
only-kept streak (wire ∷ []) default count (inr lost) one is kept = lost
only-kept streak (wire ∷ second ∷ rest) default count lost one is kept = absurd (omega (arith, one))

-- the lines that are told of the machine that a board began with
pub first-lines : (board : BoardValue) (pass later : PassValue) (first : KeyedMachine) (r : Result Outcome Stop) → board.opening.first.value ≡ first
    → pass ≡ first_pass board → WorkedAll pass later
    → IfOk r (λ outcome. lines_of outcome ≡ lines told_box [] (finish (first_family later.board.opening.first.value.machine)))
    → IfOk r (λ outcome. lines_of outcome ≡ lines told_box [] (finish (first_family first.machine)))
first-lines board pass later first r opened is worked told =
    let same : later.board.opening.first.value.machine ≡ first.machine =
    ap (λ (b : BoardValue). b.opening.first.value.machine) (worked.same_board ∙ ap (λ (p : PassValue). p.board) is)
    ∙ ap (λ (v : KeyedMachine). v.machine) opened in
    subst (λ (m : Machine). IfOk r (λ (o : Outcome). lines_of o ≡ lines told_box [] (finish (first_family m)))) same told
