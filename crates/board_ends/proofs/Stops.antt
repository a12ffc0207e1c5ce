-- The first reason to stop in a history.
use Rattle.std.proofs.Common.{◌≡◌, ◌≢◌, [], ◌∷◌, ◌++◌, Bool, true, false, cond, Option, Some, None, option_map, refl, sym, ap, ◌∙◌}
use Rattle.std.specs.Prelude.{IsSome}
use Rattle.talking_history.specs.World as history
use Rattle.talking_history.specs.Rows.{Row, over, stopped, stuck, idle, took, wake_failed, spent, dropped, kept, halted, does, first_reason}
use Rattle.talking_history.specs.Histories.{Seat, Entry, row, told, heard, tell_failed, hear_failed, History, Record, record_after, replay}
use Rattle.forest_model.specs.Forest.{machines, talks}
use Rattle.forest_model.specs.Machine.{Machine}
use Rattle.turn_board.specs.History.{entries_by}
use Rattle.turn_board.specs.Seats.{is_seat}
use Rattle.turn_board.proofs.Names.{same_is}
use Rattle.world_core.specs.declared.reason.Reason.{Reason}
use Rattle.fork_board.specs.Follows.{opening_record}
use Rattle.fork_board.specs.Passes.{PassValue, seen_record}
use Rattle.board_ends.specs.Finishes.{IsStopped, first_stop, reason_of, reason_of_row, stop_or}

module _ {R : Type 0} where
  -- what comes later does not change it
  pub stops-on : (log more : History R) (x : Seat × R) → first_stop log ≡ Some x → first_stop (log ++ more) ≡ Some x
  unfolding first_stop
  stops-on [] more x h = absurd (cc)
  stops-on (e ∷ log) more x h = at (reason_of e.1) h (stops-on log more x)
    where
      at : (o : Option R) → stop_or e.0 o (first_stop log) ≡ Some x → (first_stop log ≡ Some x → first_stop (log ++ more) ≡ Some x)
          → stop_or e.0 o (first_stop (log ++ more)) ≡ Some x
      at None h down = down h
      at (Some r) h down = h

  pub stops-later : (log more : History R) → first_stop log ≡ None → first_stop (log ++ more) ≡ first_stop more
  unfolding first_stop
  stops-later [] more h = refl
  stops-later (e ∷ log) more h = at (reason_of e.1) h (stops-later log more)
    where
      at : (o : Option R) → stop_or e.0 o (first_stop log) ≡ None → (first_stop log ≡ None → first_stop (log ++ more) ≡ first_stop more)
          → stop_or e.0 o (first_stop (log ++ more)) ≡ first_stop more
      at None h down = down h
      at (Some r) h down = absurd (cc)

  -- who has made no entry has not stopped the world
  pub stops-by : (seat : Seat) (log : History R) (x : Seat × R) → entries_by seat log ≡ [] → first_stop log ≡ Some x → x.0 ≢ seat
  unfolding first_stop
  stops-by seat [] x none h = absurd (cc)
  stops-by seat (e ∷ log) x none h = here (is_seat e.0 seat) refl none (stops-by seat log x)
    where
      at : (o : Option R) → e.0 ≢ seat → stop_or e.0 o (first_stop log) ≡ Some x → (first_stop log ≡ Some x → x.0 ≢ seat) → x.0 ≢ seat
      at None apart h down same = down h same
      at (Some r) apart h down same =
          let both : ◌≡◌ {A = Option (Seat × R)} (Some (e.0, r)) (Some x) = h in
          let pair : ◌≡◌ {A = Seat × R} (e.0, r) x = cc in apart (ap (λ (p : Seat × R). p.0) pair ∙ same)

      here : (b : Bool) → is_seat e.0 seat ≡ b → cond b (e ∷ entries_by seat log) (entries_by seat log) ≡ []
          → (entries_by seat log ≡ [] → first_stop log ≡ Some x → x.0 ≢ seat) → x.0 ≢ seat
      here true is empty down = absurd (cc)
      here false is empty down =
          at (reason_of e.1) (λ same. let yes : true ≡ false = sym (same_is e.0) ∙ ap (is_seat e.0) same ∙ is in absurd (cc)) h (down empty)

-- ---- it is on record

-- the first reason, after one that was given before and those of a history
abbrev pub first_of : {R : Type 0} → Option R → Option (Seat × R) → Option R
first_of None stop = option_map (λ s. s.1) stop
first_of (Some r) stop = Some r

abbrev halted_by : {R : Type 0} → Option R → Option R → Option R
halted_by None before = before
halted_by (Some r) before = first_reason before r

row-halted : (x : Row Reason) (w : history.World Machine Reason) → (does machines talks x w).halted ≡ halted_by (reason_of_row x) w.halted
unfolding does
row-halted over w = refl
row-halted (stopped r) w = refl
row-halted stuck w = refl
row-halted idle w = refl
row-halted (took name) w = refl
row-halted wake_failed w = refl
row-halted (spent how name k) w = refl
row-halted (dropped name) w = refl
row-halted (kept name k) w = refl
row-halted (halted r) w = refl

entry-halted : (seat : Seat) (e : Entry Reason) (r : Record Machine Reason)
    → (record_after machines talks seat e r).world.halted ≡ halted_by (reason_of e) r.world.halted
unfolding record_after
entry-halted seat (row x) r = row-halted x r.world
entry-halted seat (told image page) r = refl
entry-halted seat (heard place) r = refl
entry-halted seat tell_failed r = refl
entry-halted seat (hear_failed place) r = refl

first-then : (seat : Seat) (o before : Option Reason) (stop : Option (Seat × Reason))
    → first_of (halted_by o before) stop ≡ first_of before (stop_or seat o stop)
first-then seat None before stop = refl
first-then seat (Some r) None stop = refl
first-then seat (Some r) (Some first) stop = refl

first-none : (before : Option Reason) → before ≡ first_of before None
first-none None = refl
first-none (Some r) = refl

-- a world's reason to stop is the first of its history
pub replay-halted : (log : History Reason) (r : Record Machine Reason)
    → (replay machines talks log r).world.halted ≡ first_of r.world.halted (first_stop log)
unfolding replay first_stop
replay-halted [] r = first-none r.world.halted
replay-halted (e ∷ rest) r =
    replay-halted rest (record_after machines talks e.0 e.1 r) ∙ ap (λ h. first_of h (first_stop rest)) (entry-halted e.0 e.1 r)
    ∙ first-then e.0 (reason_of e.1) r.world.halted (first_stop rest)

pub seen-halted : (pass : PassValue) → (seen_record pass).world.halted ≡ option_map (λ s. s.1) (first_stop pass.seen)
seen-halted pass = replay-halted pass.seen (opening_record pass.board.opening)

pub going-unstopped : (pass : PassValue) → (seen_record pass).world.halted ≡ None → IsStopped pass → ⊥
going-unstopped pass going was = at (first_stop pass.seen) was (sym (seen-halted pass) ∙ going)
  where
    at : (stop : Option (Seat × Reason)) → IsSome stop → option_map (λ s. s.1) stop ≡ None → ⊥
    at None h e = absurd (cc)
    at (Some s) h e = absurd (cc)

-- where there is no reason on record, none was given
pub unstopped : (pass : PassValue) → (seen_record pass).world.halted ≡ None → first_stop pass.seen ≡ None
unstopped pass going = at (first_stop pass.seen) refl (sym (seen-halted pass) ∙ going)
  where
    at : (o : Option (Seat × Reason)) → first_stop pass.seen ≡ o → option_map (λ s. s.1) o ≡ None → first_stop pass.seen ≡ None
    at None is e = is
    at (Some s) is e = absurd (cc)
