-- What several workers know, when their passes are joined.
use Rattle.std.proofs.Common.{◌≡◌, ◌≢◌, ◌⊎◌, inl, inr, ℕ, zero, suc, ◌+◌, ◌<◌, ◌≤◌, Bool, true, false, List, [], ◌∷◌, ◌++◌, append_assoc, append-nil}
use Rattle.std.proofs.Common.{length, Option, Some, None, option_map, IsSomeAnd, refl, sym, ap, ap₂, ◌∙◌, subst, arith, ◌-◌}
use mathlib.Core.Logic.{dite}
use native.Mathlib.Decide.{dec_lt}
use Rattle.std.proofs.lemmas.Bool.{cases_eq}
use Rattle.std.proofs.lemmas.List.Elements.{filter-append}
use Rattle.std.proofs.lemmas.Slice.Eq.{bytes_eq-Decides}
use Rattle.talking_history.specs.Histories.{Seat, Entry, History, IsLegal}
use Rattle.forest_model.specs.Forest.{machines, talks}
use Rattle.turn_board.specs.History.{HasEnded, entries_by}
use Rattle.turn_board.specs.Seats.{has_seat, is_seat, next_seat}
use Rattle.turn_board.proofs.Names.{has_back, has_front, has_new, same_is}
use Rattle.world_core.specs.declared.reason.Reason.{Reason}
use Rattle.world_core.specs.declared.reason.Reason.TheVariants as reason
use Rattle.fork_board.specs.Follows.{opening_record, record_at}
use Rattle.fork_board.specs.Passes.{BoardValue, HoldsNone, Joins, PassValue, seen_record}
use Rattle.fork_board.proofs.Entries.{none-between}
use Rattle.fork_board.proofs.Records.{Free, free-more}
use Rattle.board_ends.specs.Finishes.{AreDone, Finishes, IsDone, IsForeign, IsStopped, HasStuck, IsStoppedElsewhere, WorkedAll, first_stop, is_over}
use Rattle.board_ends.specs.Lost.{IsLost, IsOneLost}
use Rattle.board_ends.specs.Stages.{Goes, done, free}
use Rattle.board_ends.specs.declared.finish.Finish.{Finish}
use Rattle.board_ends.specs.declared.finish.Finish.TheVariants.{Over, Stopped, Stuck}
use Rattle.board_ends.proofs.Over.{over-later, over-same}
use Rattle.board_ends.proofs.Stops.{seen-halted, stops-by, stops-later, stops-on, unstopped}
use Rattle.host_workers.specs.Spread.{BlamesOne, WorkAll, Works, child, finish_of, parent}
use Rattle.board_worker.specs.Stays.{Blames, Worked}

-- ---- who stopped the world

abbrev stop-of : Seat → Reason → Seat × Reason
stop-of seat r = (seat, r)

-- the first stop that a pass has seen, for this reason
abbrev StopFor : PassValue → Reason → Type 0
StopFor pass r = (stop : Seat × Reason) × ((first_stop pass.seen ≡ Some stop) × (stop.1 ≡ r))

stop-for : (pass : PassValue) (r : Reason) → (seen_record pass).world.halted ≡ Some r → StopFor pass r
stop-for pass r halted = at (first_stop pass.seen) refl (sym (seen-halted pass) ∙ halted)
  where
    at : (o : Option (Seat × Reason)) → first_stop pass.seen ≡ o → option_map (λ s. s.1) o ≡ Some r → StopFor pass r
    at None is e = absurd (cc)
    at (Some stop) is e = (stop, (is, cc))

halted-for : (pass : PassValue) (stop : Seat × Reason) → first_stop pass.seen ≡ Some stop → (seen_record pass).world.halted ≡ Some stop.1
halted-for pass stop is = seen-halted pass ∙ ap (option_map (λ s. s.1)) is

-- a pass that has seen more
module _ (old new : PassValue) (more : History Reason) (seen : new.seen ≡ old.seen ++ more) where
  stop-later : (stop : Seat × Reason) → first_stop old.seen ≡ Some stop → first_stop new.seen ≡ Some stop
  stop-later stop is = ap first_stop seen ∙ stops-on old.seen more stop is

  halted-later : (r : Reason) → (seen_record old).world.halted ≡ Some r → (seen_record new).world.halted ≡ Some r
  halted-later r halted =
      let s : StopFor old r = stop-for old r halted in
      halted-for new s.0 (stop-later s.0 s.1.0) ∙ ap Some s.1.1

same-or-other : (a b : Seat) → (a ≡ b) ⊎ (a ≢ b)
same-or-other a b = by (is_seat a b) refl
  where
    by : (same : Bool) → is_seat a b ≡ same → (a ≡ b) ⊎ (a ≢ b)
    by true is = inl ((bytes_eq-Decides a b).0 is)
    by false is = inr (λ same. let yes : true ≡ false = sym (same_is a) ∙ ap (is_seat a) same ∙ is in absurd (cc))

-- whom the end of one worker's work blames
worker-blames : {W : Type 0} (streak : W → ℕ) (wire : W) (old new : PassValue) → Worked free done old new → Blames streak wire old new → (stop : Seat × Reason)
    → first_stop new.seen ≡ Some stop → stop.1 ≡ reason.Wire → IsLost streak wire ⊎ (IsStopped old ⊎ IsForeign old stop.0)
worker-blames streak wire old new w blames stop is for_wire = by (same-or-other stop.0 new.number)
  where
    its-own : IsLost streak wire ⊎ IsStopped old → IsLost streak wire ⊎ (IsStopped old ⊎ IsForeign old stop.0)
    its-own (inl lost) = inl lost
    its-own (inr stopped) = inr (inl stopped)

    apart : (k : ℕ) (below : Seat) → old.splits ≤ k → stop.0 ≢ old.number ++ k ∷ below
    apart k below most same =
        stops-by (new.number ++ k ∷ below) new.seen stop
        (w.unmade k below (subst (λ n. n ≤ k) (sym w.same_splits) most)) is
        (same ∙ ap (λ n. n ++ k ∷ below) (sym w.same_number))

    by : (stop.0 ≡ new.number) ⊎ (stop.0 ≢ new.number) → IsLost streak wire ⊎ (IsStopped old ⊎ IsForeign old stop.0)
    by (inl own) =
        its-own (blames (is ∙ ap Some (ap₂ stop-of own for_wire)))
    by (inr other) = inr (inr (record { not_own = λ same. other (same ∙ sym w.same_number); not_below = apart }))

elsewhere : (old new : PassValue) (stop : Seat × Reason) → first_stop new.seen ≡ Some stop → IsForeign old stop.0 → IsStoppedElsewhere old new
elsewhere old new stop is foreign = subst (λ o. IsSomeAnd o (λ s. IsForeign old s.0)) (sym is) foreign

-- a seat that is foreign to a pass and to one that was split off from it was so before
both-foreign : (pass : PassValue) (seat : Seat) → IsForeign (child pass) seat → IsForeign (parent pass) seat → IsForeign pass seat
both-foreign pass seat below beside = record {
  not_own = beside.not_own;
  not_below = λ k rest most. by k rest most (cases_eq k pass.splits);
}
  where
    in-child : (k : ℕ) (rest : Seat) → k ≡ pass.splits → seat ≢ pass.number ++ k ∷ rest
    in-child k [] same is = below.not_own (is ∙ ap (λ n. pass.number ++ n ∷ []) same)
    in-child k (n ∷ rest) same is =
        below.not_below n rest (omega arith)
        (is ∙ ap (λ m. pass.number ++ m ∷ n ∷ rest) same ∙ sym (append_assoc pass.number (pass.splits ∷ []) (n ∷ rest)))

    by : (k : ℕ) (rest : Seat) → pass.splits ≤ k → (k ≡ pass.splits) ⊎ (k ≡ pass.splits → ⊥) → seat ≢ pass.number ++ k ∷ rest
    by k rest most (inl same) = in-child k rest same
    by k rest most (inr other) = beside.not_below k rest (omega (arith, most, other))

-- ---- who is done

module _ (seat : Seat) (before : History Reason) (mid new : PassValue) (board : new.board ≡ mid.board) (more : History Reason)
    (seen : new.seen ≡ mid.seen ++ more) (all : entries_by seat new.seen ≡ entries_by seat mid.seen) where
  none-more : entries_by seat more ≡ []
  none-more = none-between seat mid.seen more (entries_by seat mid.seen) refl (ap (entries_by seat) (sym seen) ∙ all)

  -- who was done is so in a longer history, which has no more entries of it
  done-later : IsDone seat before mid → IsDone seat before new
  done-later d = record {
    rest = d.rest ++ more;
    seen = seen ∙ ap (λ l. l ++ more) d.seen ∙ append_assoc before d.rest more;
    goes =
        subst (λ l. Goes free l done)
        (sym (filter-append (λ (e : Seat × Entry Reason). is_seat e.0 seat) d.rest more ∙ ap (λ l. entries_by seat d.rest ++ l) none-more
        ∙ append-nil (entries_by seat d.rest)))
        d.goes;
    none = λ name.
        subst (λ (b : BoardValue). Free seat name (record_at b.opening new.seen).holdings) (sym board)
        (subst (λ l. Free seat name (record_at mid.board.opening l).holdings) (sym seen)
        (free-more seat name mid.board.opening mid.seen more none-more (d.none name)));
  }

-- whose work has ended
worked-done : (old new : PassValue) → Worked free done old new → HoldsNone new → IsDone old.number old.seen new
worked-done old new w none = record {
  rest = w.rest;
  seen = w.seen;
  goes = w.goes;
  none = λ name. subst (λ s. Free s name (record_at new.board.opening new.seen).holdings) w.same_number (none name);
}

-- one worker, over one wire
alone-done : (old new : PassValue) → Worked free done old new → HoldsNone new → AreDone 1 old new
alone-done old new w none = record {
  splits = ap (λ n. n + 1) w.same_splits;
  own = worked-done old new w none;
  others = λ k below. absurd (omega (arith, below));
}

-- who has made no entry at all has made none later
none-later : (seen more all : History Reason) → all ≡ seen ++ more → (seat : Seat) → entries_by seat all ≡ [] → entries_by seat more ≡ []
none-later seen more all is seat none =
    no-back (entries_by seat seen) (entries_by seat more)
    (sym (filter-append (λ (e : Seat × Entry Reason). is_seat e.0 seat) seen more) ∙ ap (entries_by seat) (sym is) ∙ none)
  where
    no-back : (xs ys : History Reason) → xs ++ ys ≡ [] → ys ≡ []
    no-back [] ys e = e
    no-back (x ∷ xs) ys e = absurd (cc)

-- ---- one worker alone

pub alone-works : {W : Type 0} (streak : W → ℕ) (wire : W) (old new : PassValue) (finish : Finish) → Works streak wire old new finish
    → WorkAll streak (wire ∷ []) old new finish
alone-works streak wire old new finish w = record {
  worked = record {
    same_board = w.worked.same_board;
    same_number = w.worked.same_number;
    rest = w.worked.rest;
    seen = w.worked.seen;
    legal = w.worked.legal;
  };
  none = w.none;
  end = w.end;
  own = w.worked.own;
  unmade = w.worked.unmade;
  ended = λ k below. absurd (omega (arith, below));
  are_done = alone-done old new w.worked w.none;
  blames = λ is. blames is;
}
  where
    to : (stop : Seat × Reason) → first_stop new.seen ≡ Some stop → IsLost streak wire ⊎ (IsStopped old ⊎ IsForeign old stop.0)
        → IsOneLost streak (wire ∷ []) ⊎ (IsStopped old ⊎ IsStoppedElsewhere old new)
    to stop is (inl lost) = inl (inl lost)
    to stop is (inr (inl stopped)) = inr (inl stopped)
    to stop is (inr (inr foreign)) = inr (inr (elsewhere old new stop is foreign))

    blames : finish ≡ Stopped reason.Wire → IsOneLost streak (wire ∷ []) ⊎ (IsStopped old ⊎ IsStoppedElsewhere old new)
    blames same =
        let end : Finishes new (Stopped reason.Wire) = subst (Finishes new) same w.end in
        let s : StopFor new reason.Wire = stop-for new reason.Wire end.1 in
        to s.0 s.1.0 (worker-blames streak wire old new w.worked w.blames s.0 s.1.0 s.1.1)

-- ---- a worker, and others beside it

module _ {W : Type 0} (streak : W → ℕ) (wire : W) (wires : List W) (pass first rest new : PassValue) (f g : Finish)
    (one : Works streak wire (child pass) first f) (others : WorkAll streak wires (parent pass) rest g) (j : Joins rest first new) where
  board : new.board ≡ pass.board
  board = j.same_board ∙ others.worked.same_board

  legal : IsLegal machines talks new.seen (opening_record pass.board.opening)
  legal = by j.either
    where
      by : (new.seen ≡ rest.seen) ⊎ (new.seen ≡ first.seen) → IsLegal machines talks new.seen (opening_record pass.board.opening)
      by (inl same) = subst (λ l. IsLegal machines talks l (opening_record pass.board.opening)) (sym same) others.worked.legal
      by (inr same) = subst (λ l. IsLegal machines talks l (opening_record pass.board.opening)) (sym same) one.worked.legal

  worked-all : WorkedAll pass new
  worked-all = record {
    same_board = board;
    same_number = j.same_number ∙ others.worked.same_number;
    rest = others.worked.rest ++ j.seen.0;
    seen = j.seen.1 ∙ ap (λ l. l ++ j.seen.0) others.worked.seen ∙ append_assoc pass.seen others.worked.rest j.seen.0;
    legal = legal;
  }

  first-board : new.board ≡ first.board
  first-board = board ∙ sym one.worked.same_board

  over-first : is_over first ≡ true → is_over new ≡ true
  over-first = over-later first new j.others.0 first-board j.others.1
      (subst (λ (b : BoardValue). IsLegal machines talks new.seen (opening_record b.opening)) (sym one.worked.same_board) legal)

  over-rest : is_over rest ≡ true → is_over new ≡ true
  over-rest = over-later rest new j.seen.0 j.same_board j.seen.1
      (subst (λ (b : BoardValue). IsLegal machines talks new.seen (opening_record b.opening)) (sym others.worked.same_board) legal)

  lives : is_over first ≡ false → is_over rest ≡ false → is_over new ≡ false
  lives here there = by j.either
    where
      by : (new.seen ≡ rest.seen) ⊎ (new.seen ≡ first.seen) → is_over new ≡ false
      by (inl same) = over-same rest new j.same_board same ∙ there
      by (inr same) = over-same first new first-board same ∙ here

  -- the joined pass has seen what one of the two has, and ends as it does
  stuck-first : new.seen ≡ first.seen → Finishes first Stuck → Finishes new Stuck
  stuck-first same is = record {
    lives = over-same first new first-board same ∙ is.lives;
    going = ap₂ (λ (b : BoardValue) (l : History Reason). (record_at b.opening l).world.halted) first-board same ∙ is.going;
    found = subst (λ (l : History Reason). HasStuck l) (sym same) is.found;
  }

  stuck-rest : new.seen ≡ rest.seen → Finishes rest Stuck → Finishes new Stuck
  stuck-rest same is = record {
    lives = over-same rest new j.same_board same ∙ is.lives;
    going = ap₂ (λ (b : BoardValue) (l : History Reason). (record_at b.opening l).world.halted) j.same_board same ∙ is.going;
    found = subst (λ (l : History Reason). HasStuck l) (sym same) is.found;
  }

  both-stuck : Finishes first Stuck → Finishes rest Stuck → Finishes new Stuck
  both-stuck here there = by j.either
    where
      by : (new.seen ≡ rest.seen) ⊎ (new.seen ≡ first.seen) → Finishes new Stuck
      by (inl same) = stuck-rest same there
      by (inr same) = stuck-first same here

  ends : (a b : Finish) → Finishes first a → Finishes rest b → Finishes new (finish_of a b)
  ends Over b here there = over-first here
  ends (Stopped r) Over here there = over-rest there
  ends (Stopped r) (Stopped s) here there = (lives here.0 there.0, halted-later rest new j.seen.0 j.seen.1 s there.1)
  ends (Stopped r) Stuck here there = (lives here.0 there.lives, halted-later first new j.others.0 j.others.1 r here.1)
  ends Stuck Over here there = over-rest there
  ends Stuck (Stopped s) here there = (lives here.lives there.0, halted-later rest new j.seen.0 j.seen.1 s there.1)
  ends Stuck Stuck here there = both-stuck here there

  abbrev first-number : Seat
  first-number = pass.number ++ pass.splits ∷ []

  -- the first is the one that was split off just before, and the rest were split off after it
  first-next : next_seat first.number first.splits ≡ next_seat first-number 0
  first-next = ap₂ next_seat one.worked.same_number one.worked.same_splits

  first-ended : HasEnded first-number 0 first.seen new.seen
  first-ended =
      j.last first-number 0
      (subst (λ s. has_seat (s ∷ first.ended) (next_seat first-number 0) ≡ true) (sym first-next) (has_new first.ended (next_seat first-number 0)))

  rest-ended : (k : ℕ) → k + 1 < length wires → HasEnded (pass.number ++ ((pass.splits + 1) + k) ∷ []) 0 rest.seen new.seen
  rest-ended k below = j.still (pass.number ++ ((pass.splits + 1) + k) ∷ []) 0 (others.ended k below)

  done-first : IsDone first-number pass.seen new
  done-first =
      done-later first-number pass.seen first new first-board j.others.0 j.others.1 first-ended.all
      (worked-done (child pass) first one.worked one.none)

  done-each : (k : ℕ) → k + 1 < length (wire ∷ wires) → IsDone (pass.number ++ (pass.splits + k) ∷ []) pass.seen new
  done-each zero below =
      let at : pass.splits + 0 ≡ pass.splits = omega arith in
      subst (λ n. IsDone (pass.number ++ n ∷ []) pass.seen new) (sym at) done-first
  done-each (suc k) below =
      let at : pass.splits + suc k ≡ (pass.splits + 1) + k = omega arith in
      let seat : Seat = pass.number ++ ((pass.splits + 1) + k) ∷ [] in
      subst (λ n. IsDone (pass.number ++ n ∷ []) pass.seen new) (sym at)
      (done-later seat pass.seen rest new j.same_board j.seen.0 j.seen.1 (rest-ended k (omega (arith, below))).all
      (others.are_done.others k (omega (arith, below))))

  ended-each : (k : ℕ) → k + 1 < length (wire ∷ wires) → has_seat new.ended (next_seat (pass.number ++ (pass.splits + k) ∷ []) 0) ≡ true
  ended-each zero below =
      let at : pass.splits + 0 ≡ pass.splits = omega arith in
      let seat = next_seat (pass.number ++ (pass.splits + 0) ∷ []) 0 in
      let same : next_seat first.number first.splits ≡ seat = first-next ∙ ap (λ n. next_seat (pass.number ++ n ∷ []) 0) (sym at) in
      subst (λ l. has_seat l seat ≡ true) (sym j.ended)
      (has_back rest.ended (next_seat first.number first.splits ∷ first.ended) seat
      (subst (λ s. has_seat (s ∷ first.ended) seat ≡ true) (sym same) (has_new first.ended seat)))
  ended-each (suc k) below =
      let at : pass.splits + suc k ≡ (pass.splits + 1) + k = omega arith in
      let seat = next_seat (pass.number ++ (pass.splits + suc k) ∷ []) 0 in
      subst (λ l. has_seat l seat ≡ true) (sym j.ended)
      (has_front rest.ended (next_seat first.number first.splits ∷ first.ended) seat
      (subst (λ n. has_seat rest.ended (next_seat (pass.number ++ n ∷ []) 0) ≡ true) (sym at) (others.ended k (omega (arith, below)))))

  own-still : entries_by pass.number new.seen ≡ entries_by pass.number rest.seen
  own-still =
      let number : new.number ≡ pass.number = j.same_number ∙ others.worked.same_number in
      ap (λ s. entries_by s new.seen) (sym number) ∙ j.own ∙ j.same_mine ∙ sym others.own
      ∙ ap (λ s. entries_by s rest.seen) others.worked.same_number

  splits-all : new.splits + 1 ≡ pass.splits + length (wire ∷ wires)
  splits-all =
      let after : rest.splits + 1 ≡ (pass.splits + 1) + length wires = others.are_done.splits in
      omega (arith, j.same_splits, after)

  done-all : AreDone (length (wire ∷ wires)) pass new
  done-all = record {
    splits = splits-all;
    own = done-later pass.number pass.seen rest new j.same_board j.seen.0 j.seen.1 own-still others.are_done.own;
    others = done-each;
  }

  abbrev Blamed : Type 0
  Blamed = IsOneLost streak (wire ∷ wires) ⊎ (IsStopped pass ⊎ IsStoppedElsewhere pass new)

  by-both : (stop : Seat × Reason) → first_stop new.seen ≡ Some stop → first_stop rest.seen ≡ Some stop
      → IsLost streak wire ⊎ (IsStopped (child pass) ⊎ IsForeign (child pass) stop.0)
      → IsOneLost streak wires ⊎ (IsStopped (parent pass) ⊎ IsStoppedElsewhere (parent pass) rest) → Blamed
  by-both stop is there (inl lost) beside = inl (inl lost)
  by-both stop is there (inr (inl stopped)) beside = inr (inl stopped)
  by-both stop is there (inr (inr foreign)) (inl lost) = inl (inr lost)
  by-both stop is there (inr (inr foreign)) (inr (inl stopped)) = inr (inl stopped)
  by-both stop is there (inr (inr foreign)) (inr (inr beside)) =
      inr (inr (elsewhere pass new stop is
      (both-foreign pass stop.0 foreign (subst (λ o. IsSomeAnd o (λ s. IsForeign (parent pass) s.0)) there beside))))

  blames-both : (r : Reason) → Finishes first (Stopped r) → Finishes rest (Stopped reason.Wire)
      → BlamesOne streak wires (parent pass) rest (Stopped reason.Wire) → Blamed
  blames-both r here there beside =
      let s : StopFor first r = stop-for first r here.1 in
      let t : StopFor rest reason.Wire = stop-for rest reason.Wire there.1 in
      let after-first : first_stop new.seen ≡ Some s.0 = stop-later first new j.others.0 j.others.1 s.0 s.1.0 in
      let after-rest : first_stop new.seen ≡ Some t.0 = stop-later rest new j.seen.0 j.seen.1 t.0 t.1.0 in
      by-both t.0 after-rest t.1.0
      (worker-blames streak wire (child pass) first one.worked one.blames t.0 (s.1.0 ∙ sym after-first ∙ after-rest) t.1.1)
      (beside refl)

  -- ---- the rest had found the world stuck when it was stopped

  after-rest : (seat : Seat) → entries_by seat new.seen ≡ entries_by seat rest.seen → entries_by seat j.seen.0 ≡ []
  after-rest seat all = none-between seat rest.seen j.seen.0 (entries_by seat rest.seen) refl (ap (entries_by seat) (sym j.seen.1) ∙ all)

  none-after : (seat : Seat) → entries_by seat new.seen ≡ [] → entries_by seat j.seen.0 ≡ []
  none-after seat none = none-later rest.seen j.seen.0 new.seen j.seen.1 seat none

  -- so none of the rest stopped it, nor one that would be split off from them
  module _ (stop : Seat × Reason) (is : first_stop new.seen ≡ Some stop) (going : first_stop rest.seen ≡ None) where
    after-stop : first_stop j.seen.0 ≡ Some stop
    after-stop = sym (ap first_stop j.seen.1 ∙ stops-later rest.seen j.seen.0 going) ∙ is

    not-by : (seat : Seat) → entries_by seat j.seen.0 ≡ [] → stop.0 ≢ seat
    not-by seat none = stops-by seat j.seen.0 stop none after-stop

    splits-rest : rest.splits + 1 ≡ (pass.splits + 1) + length wires
    splits-rest = others.are_done.splits

    in-rest : (k : ℕ) (below : Seat) → k + 1 < length wires → stop.0 ≢ pass.number ++ ((pass.splits + 1) + k) ∷ below
    in-rest k [] few = not-by (pass.number ++ ((pass.splits + 1) + k) ∷ []) (after-rest (pass.number ++ ((pass.splits + 1) + k) ∷ []) (rest-ended k few).all)
    in-rest k (n ∷ below) few =
        let seat : Seat = pass.number ++ ((pass.splits + 1) + k) ∷ n ∷ below in
        let same : (pass.number ++ ((pass.splits + 1) + k) ∷ []) ++ n ∷ below ≡ seat = append_assoc pass.number (((pass.splits + 1) + k) ∷ []) (n ∷ below) in
        not-by seat (none-after seat (ap (λ s. entries_by s new.seen) (sym same) ∙ (rest-ended k few).none n below (omega arith)))

    beyond : (k : ℕ) (below : Seat) → rest.splits ≤ k → stop.0 ≢ pass.number ++ k ∷ below
    beyond k below most =
        let number : new.number ≡ pass.number = j.same_number ∙ others.worked.same_number in
        not-by (pass.number ++ k ∷ below) (none-after (pass.number ++ k ∷ below)
        (ap (λ s. entries_by (s ++ k ∷ below) new.seen) (sym number) ∙ j.unmade k below (omega (arith, most, j.same_splits))))

    not-of-rest : IsForeign (parent pass) stop.0
    not-of-rest = record {
      not_own = not-by pass.number (after-rest pass.number own-still);
      not_below = λ k below most. dite (dec_lt k rest.splits) (λ (few : k < rest.splits). within k below most few) (λ (far : k < rest.splits → ⊥). beyond k below (omega (arith, far)));
    }
      where
        within : (k : ℕ) (below : Seat) → pass.splits + 1 ≤ k → k < rest.splits → stop.0 ≢ pass.number ++ k ∷ below
        within k below most few =
            let at : (pass.splits + 1) + (k - (pass.splits + 1)) ≡ k = omega (arith, most) in
            subst (λ n. stop.0 ≢ pass.number ++ n ∷ below) at (in-rest (k - (pass.splits + 1)) below (omega (arith, most, few, splits-rest)))

    by-first : IsLost streak wire ⊎ (IsStopped (child pass) ⊎ IsForeign (child pass) stop.0) → Blamed
    by-first (inl lost) = inl (inl lost)
    by-first (inr (inl stopped)) = inr (inl stopped)
    by-first (inr (inr foreign)) = inr (inr (elsewhere pass new stop is (both-foreign pass stop.0 foreign not-of-rest)))

  -- nor did the first, where it had found the world stuck
  module _ (stop : Seat × Reason) (is : first_stop new.seen ≡ Some stop) (going : first_stop first.seen ≡ None) where
    later-stop : first_stop j.others.0 ≡ Some stop
    later-stop = sym (ap first_stop j.others.1 ∙ stops-later first.seen j.others.0 going) ∙ is

    not-first-by : (seat : Seat) → entries_by seat j.others.0 ≡ [] → stop.0 ≢ seat
    not-first-by seat none = stops-by seat j.others.0 stop none later-stop

    not-of-first : IsForeign (child pass) stop.0
    not-of-first = record {
      not_own = not-first-by first-number
          (none-between first-number first.seen j.others.0 (entries_by first-number first.seen) refl (ap (entries_by first-number) (sym j.others.1) ∙ first-ended.all));
      not_below = λ k below most. not-first-by (first-number ++ k ∷ below)
          (none-later first.seen j.others.0 new.seen j.others.1 (first-number ++ k ∷ below) (first-ended.none k below most));
    }

    by-rest : IsOneLost streak wires ⊎ (IsStopped (parent pass) ⊎ IsForeign (parent pass) stop.0) → Blamed
    by-rest (inl lost) = inl (inr lost)
    by-rest (inr (inl stopped)) = inr (inl stopped)
    by-rest (inr (inr foreign)) = inr (inr (elsewhere pass new stop is (both-foreign pass stop.0 not-of-first foreign)))

  blames-first : (r : Reason) → Finishes first (Stopped r) → Finishes rest Stuck → r ≡ reason.Wire → Blamed
  blames-first r here there for_wire =
      let s : StopFor first r = stop-for first r here.1 in
      let after-first : first_stop new.seen ≡ Some s.0 = stop-later first new j.others.0 j.others.1 s.0 s.1.0 in
      by-first s.0 after-first (unstopped rest there.going)
      (worker-blames streak wire (child pass) first one.worked one.blames s.0 s.1.0 (s.1.1 ∙ for_wire))

  blames-rest : Finishes first Stuck → Finishes rest (Stopped reason.Wire) → BlamesOne streak wires (parent pass) rest (Stopped reason.Wire) → Blamed
  blames-rest here there beside =
      let t : StopFor rest reason.Wire = stop-for rest reason.Wire there.1 in
      let after : first_stop new.seen ≡ Some t.0 = stop-later rest new j.seen.0 j.seen.1 t.0 t.1.0 in
      by-rest t.0 after (unstopped first here.going) (near t.0 t.1.0 (beside refl))
    where
      near : (stop : Seat × Reason) → first_stop rest.seen ≡ Some stop → IsOneLost streak wires ⊎ (IsStopped (parent pass) ⊎ IsStoppedElsewhere (parent pass) rest)
          → IsOneLost streak wires ⊎ (IsStopped (parent pass) ⊎ IsForeign (parent pass) stop.0)
      near stop is (inl lost) = inl lost
      near stop is (inr (inl stopped)) = inr (inl stopped)
      near stop is (inr (inr foreign)) = inr (inr (subst (λ o. IsSomeAnd o (λ s. IsForeign (parent pass) s.0)) is foreign))

  blames-all : (a b : Finish) → Finishes first a → Finishes rest b → BlamesOne streak wires (parent pass) rest b
      → BlamesOne streak (wire ∷ wires) pass new (finish_of a b)
  blames-all Over b here there beside e = absurd (cc)
  blames-all (Stopped r) Over here there beside e = absurd (cc)
  blames-all (Stopped r) (Stopped s) here there beside e =
      blames-both r here (subst (Finishes rest) e there) (subst (BlamesOne streak wires (parent pass) rest) e beside)
  blames-all (Stopped r) Stuck here there beside e = blames-first r here there (let same : Stopped r ≡ Stopped reason.Wire = e in cc)
  blames-all Stuck Over here there beside e = absurd (cc)
  blames-all Stuck (Stopped s) here there beside e =
      blames-rest here (subst (Finishes rest) e there) (subst (BlamesOne streak wires (parent pass) rest) e beside)
  blames-all Stuck Stuck here there beside e = absurd (cc)

  pub both-work : WorkAll streak (wire ∷ wires) pass new (finish_of f g)
  both-work = record {
    worked = worked-all;
    none = λ name. j.free name (others.none name);
    end = ends f g one.end others.end;
    own = j.own;
    unmade = j.unmade;
    ended = ended-each;
    are_done = done-all;
    blames = blames-all f g one.end others.end others.blames;
  }
