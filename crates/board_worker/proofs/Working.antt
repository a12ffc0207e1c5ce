-- What a pass keeps from entry to entry, and whom it blames.
use Rattle.std.proofs.Common.{◌≡◌, ◌≢◌, ◌⊎◌, inl, inr, ℕ, [], ◌∷◌, ◌++◌, append_assoc, append-nil, Option, Some, None, Result, Ok, Err, refl, sym, ap, ◌∙◌, subst}
use Rattle.std.specs.Prelude.{is_some, IsSome}
use Rattle.std.specs.Option.{IfSome}
use Rattle.std.specs.declared.alloc.AllocError.{AllocError}
use Rattle.std.proofs.lemmas.List.Elements.{filter-append}
use Rattle.turn_board.specs.History.{entries_by}
use Rattle.turn_board.specs.Seats.{is_seat}
use Rattle.turn_board.proofs.Entries.{entries_by-push_same}
use Rattle.image_depot.specs.Key.{Shelves}
use Rattle.image_depot.specs.Reply.{Delivery}
use Rattle.host_fetch.specs.Heard.{AreHeardOf, Replies}
use Rattle.forest_tree.specs.Tree.{Path}
use Rattle.talking_history.specs.Rows.{How, halted}
use Rattle.talking_history.specs.Histories.{Seat, Entry, row, History, IsLegal}
use Rattle.forest_model.specs.Forest.{machines, talks}
use Rattle.vm_cell.specs.Keyed.{IsOfDepot}
use Rattle.world_core.specs.declared.reason.Reason.{Reason}
use Rattle.world_core.specs.declared.reason.Reason.TheVariants as reason
use Rattle.world_core.specs.declared.world.Placed.{Placed}
use Rattle.world_core.specs.declared.world.Placed.TheVariants.{Done, Parked, Dropped, Memory}
use Rattle.world_core.specs.declared.world.Taken.{Taken}
use Rattle.world_core.specs.declared.world.Taken.TheVariants as taken
use Rattle.sibling_port.specs.declared.talk.Talk.{Talk}
use Rattle.world_core.specs.Answers.{IsLentOf, home_by, said_by}
use Rattle.world_core.proofs.Giving.{home-wants-none}
use Rattle.world_core.specs.Lent.{IsSameLease, Lent}
use Rattle.world_core.specs.Received.{lent_without_here}
use Rattle.fork_board.specs.Answers.{IsTaken, Places}
use Rattle.fork_board.specs.Follows.{depot_of, opening_record}
use Rattle.fork_board.specs.Holds.{HoldsOne, HoldsPlaced}
use Rattle.fork_board.specs.Notes.{heard_entry, placed_entry, taken_entry, told_entry}
use Rattle.fork_board.specs.Passes.{BoardValue, FreeAfter, IsFree, Leaves, Makes, PassValue}
use Rattle.fork_board.proofs.Holding.{holds-placed}
use Rattle.fork_board.proofs.Returning.{held-same}
use Rattle.page_claims.specs.Values.{ClaimsValue, PassValue as ClaimValue}
use Rattle.board_ends.specs.Finishes.{IsStopped, IsStoppedBy, first_stop, reason_of, stop_or}
use Rattle.board_ends.specs.Lost.{IsLost}
use Rattle.board_ends.specs.Stages.{Goes, Stage, Steps, free, halting, runs}
use Rattle.board_ends.proofs.Stops.{stops-by, stops-later, stops-on}
use Rattle.board_worker.specs.Claiming.{Claiming, IsShare}
use Rattle.board_worker.specs.Fit.{IsFit}
use Rattle.board_worker.specs.declared.replies.Hearing.{Hearing}
use Rattle.board_worker.specs.declared.worker.Worker.{Worker}
use Rattle.host_fetch.specs.declared.error.FetchError.{FetchError}
use Rattle.host_fetch.specs.declared.error.FetchError.TheVariants as fault
use Rattle.board_worker.specs.Stays.{Blames, Spares, Stays, Worked, reason_for, stage_placed}

-- ---- what entries leave as it was

pub silent-taken : (answer : Taken) → reason_of (taken_entry answer) ≡ None
silent-taken taken.Over = refl
silent-taken (taken.Stopped r) = refl
silent-taken taken.Stuck = refl
silent-taken taken.Idle = refl
silent-taken (taken.Took lease) = refl
silent-taken taken.Memory = refl

pub silent-placed : (how : How) (name : Path) (ran : ℕ) (placed : Placed) → reason_of (placed_entry how name ran placed) ≡ None
silent-placed how name ran Done = refl
silent-placed how name ran Parked = refl
silent-placed how name ran Dropped = refl
silent-placed how name ran (Memory lease) = refl

silent-told : (image page : ℕ) (answer : Result (Unit {0}) AllocError) → reason_of (told_entry image page answer) ≡ None
silent-told image page (Ok u) = refl
silent-told image page (Err e) = refl

leaves-told : (image page : ℕ) (answer : Result (Unit {0}) AllocError) (name : Path) → Leaves (told_entry image page answer) name
leaves-told image page (Ok u) name = tt
leaves-told image page (Err e) name = tt

free-told : (image page : ℕ) (answer : Result (Unit {0}) AllocError) (name : Path) (before : Type 0) → before
    → FreeAfter (told_entry image page answer) name before
free-told image page (Ok u) name before h = h
free-told image page (Err e) name before h = h

silent-heard : (place : ℕ) (answer : Result (Option Delivery) AllocError) → reason_of (heard_entry place answer) ≡ None
silent-heard place (Ok sent) = refl
silent-heard place (Err e) = refl

leaves-heard : (place : ℕ) (answer : Result (Option Delivery) AllocError) (name : Path) → Leaves (heard_entry place answer) name
leaves-heard place (Ok sent) name = tt
leaves-heard place (Err e) name = tt

free-heard : (place : ℕ) (answer : Result (Option Delivery) AllocError) (name : Path) (before : Type 0) → before
    → FreeAfter (heard_entry place answer) name before
free-heard place (Ok sent) name before h = h
free-heard place (Err e) name before h = h

-- ---- stages

goes-one : (a b : Stage) (e : Seat × Entry Reason) → Steps a e.1 b → Goes a (e ∷ []) b
unfolding Goes
goes-one a b e steps = (b, (steps, refl))

pub goes-none : (a : Stage) → Goes a [] a
unfolding Goes
goes-none a = refl

goes-more : (a b c : Stage) (first then : History Reason) → Goes a first b → Goes b then c → Goes a (first ++ then) c
unfolding Goes
goes-more a b c [] then g h = subst (λ s. Goes s then c) (sym g) h
goes-more a b c (e ∷ first) then g h = (g.0, (g.1.0, goes-more g.0 b c first then g.1.1 h))

-- the entry is all that the pass has made meanwhile
goes-entry : (a b : Stage) (old new : PassValue) (entry : Entry Reason) (m : Makes old new entry) → Steps a entry b
    → Goes a (entries_by old.number (m.between ++ (old.number, entry) ∷ [])) b
goes-entry a b old new entry m steps =
    subst (λ l. Goes a l b) (sym (entries_by-push_same old.number m.between entry ∙ ap (λ l. l ++ (old.number, entry) ∷ []) m.others))
    (goes-one a b (old.number, entry) steps)

goes-both : (a b c : Stage) (seat again : Seat) → again ≡ seat → (first then : History Reason) → Goes a (entries_by seat first) b
    → Goes b (entries_by again then) c → Goes a (entries_by seat (first ++ then)) c
goes-both a b c seat again same first then g h =
    subst (λ l. Goes a l c) (sym (filter-append (λ (e : Seat × Entry Reason). is_seat e.0 seat) first then))
    (goes-more a b c (entries_by seat first) (entries_by seat then) g (subst (λ s. Goes b (entries_by s then) c) same h))

steps-told : (image page : ℕ) (answer : Result (Unit {0}) AllocError) → Steps runs (told_entry image page answer) runs
steps-told image page (Ok u) = (refl, refl)
steps-told image page (Err e) = (refl, refl)

steps-heard : (place : ℕ) (answer : Result (Option Delivery) AllocError) → Steps runs (heard_entry place answer) runs
steps-heard place (Ok sent) = (refl, refl)
steps-heard place (Err e) = (refl, refl)

-- a machine comes back, or memory is wanting for its call
pub steps-placed : (how : How) (name : Path) (ran : ℕ) (placed : Placed) → Steps runs (placed_entry how name ran placed) (stage_placed placed)
steps-placed how name ran Done = (tt, refl)
steps-placed how name ran Parked = (tt, refl)
steps-placed how name ran Dropped = (tt, refl)
steps-placed how name ran (Memory lease) = (refl, refl)

-- a machine is given back, for which the world was stopped
pub steps-home : (lease : Lent) (new : PassValue) (placed : Placed) → Places (home_by lease.now.ending) lease new placed
    → Steps halting (placed_entry (home_by lease.now.ending) lease.name lease.ran placed) free
steps-home lease new Done places = (tt, refl)
steps-home lease new Parked places = (tt, refl)
steps-home lease new Dropped places = (tt, refl)
steps-home lease new (Memory back) places = absurd (home-wants-none lease.now.ending places.0)

-- ---- a pass that holds what it held

-- it stops the world
pub holds-halted : (old new : PassValue) (reason : Reason) (lease : Lent) → Makes old new (row (halted reason)) → HoldsOne old lease → HoldsOne new lease
holds-halted old new reason lease m one = record {
  held = m.held lease one.held tt;
  of_depot = subst (λ (v : BoardValue). IsLentOf (depot_of v.opening) lease) (sym m.same_board) one.of_depot;
  others = λ name apart. m.free name (one.others name apart);
}

-- the machine that it holds, on the same lease
pub holds-on : (old new : PassValue) (a b : Lent) → Stays old new → IsSameLease a b → HoldsOne old a → HoldsOne new b
holds-on old new a b stays same one = record {
  held = held-same new a b same (stays.held a one.held);
  of_depot =
      subst (λ (v : BoardValue). IsLentOf (depot_of v.opening) b) (sym stays.same_board)
      (subst (IsOfDepot (depot_of old.board.opening)) (sym same.key) one.of_depot);
  others = λ name apart. stays.free_still name (one.others name (λ e. apart (same.name ∙ e)));
}

-- ---- a lease on the same machine

pub same-none : (lease : Lent) → IsSameLease lease lease
same-none lease = record { name = refl; start = refl; key = refl }

pub same-then : (a b c : Lent) → IsSameLease a b → IsSameLease b c → IsSameLease a c
same-then a b c first then = record {
  name = then.name ∙ first.name;
  start = then.start ∙ first.start;
  key = then.key ∙ first.key;
}

-- a page has come
pub same-fetched : (old new : Lent) → lent_without_here new ≡ lent_without_here old → IsSameLease old new
same-fetched old new rest = record {
  name = ap (λ (l : Lent). l.name) rest;
  start = ap (λ (l : Lent). l.start) rest;
  key = ap (λ (l : Lent). l.key) rest;
}

-- ---- what calls are handed

-- the machine that the pass holds is of the board's depot
pub lent-here : (pass : PassValue) (board : BoardValue) (lease : Lent) → pass.board ≡ board → HoldsOne pass lease → IsLentOf (depot_of board.opening) lease
lent-here pass board lease of one = subst (λ (v : BoardValue). IsLentOf (depot_of v.opening) lease) of one.of_depot

pub lent-of : (pass : PassValue) (board : BoardValue) (depot : Shelves) (lease : Lent) → pass.board ≡ board → depot_of board.opening ≡ depot
    → HoldsOne pass lease → IsLentOf depot lease
lent-of pass board depot lease of same one = subst (λ (d : Shelves). IsLentOf d lease) same (lent-here pass board lease of one)

-- a pass that held no machine has taken one
pub holds-taken : (old new : PassValue) (lease : Lent) → Makes old new (taken_entry (taken.Took lease)) → IsTaken new lease → ((name : Path) → IsFree old name)
    → HoldsOne new lease
holds-taken old new lease makes is none = record {
  held = is.held;
  of_depot = is.of_depot;
  others = λ name apart. makes.free name (apart, none name);
}

-- a lease on the same machine is of the same depot
pub lent-on : (depot : Shelves) (a b : Lent) → IsSameLease a b → IsLentOf depot a → IsLentOf depot b
lent-on depot a b same h = subst (IsOfDepot depot) (sym same.key) h

-- what was heard is of the depot, by either of its names
pub heard-on : (board : BoardValue) (depot : Shelves) (old new : Replies) → depot_of board.opening ≡ depot
    → (AreHeardOf (depot_of board.opening) old → AreHeardOf (depot_of board.opening) new) → AreHeardOf depot old → AreHeardOf depot new
heard-on board depot old new same then = subst (λ (d : Shelves). AreHeardOf d old → AreHeardOf d new) same then

-- ---- a pass that has worked

pub worked-one : {a b : Stage} (old new : PassValue) (entry : Entry Reason) → Makes old new entry → Steps a entry b → Worked a b old new
worked-one {a} {b} old new entry m steps = record {
  same_board = m.same_board;
  same_number = m.same_number;
  same_splits = m.same_splits;
  rest = m.between ++ (old.number, entry) ∷ [];
  seen = m.seen ∙ append_assoc old.seen m.between ((old.number, entry) ∷ []);
  goes = goes-entry a b old new entry m steps;
  own = m.own;
  unmade = m.unmade;
  legal = m.legal;
}

-- the last that it did was work
worked-last : {a b c : Stage} (first then last : PassValue) → then.board ≡ first.board → then.number ≡ first.number → then.splits ≡ first.splits
    → (rest : History Reason) → then.seen ≡ first.seen ++ rest → Goes a (entries_by first.number rest) b → Worked b c then last → Worked a c first last
worked-last {a} {b} {c} first then last board number splits rest seen goes w = record {
  same_board = w.same_board ∙ board;
  same_number = w.same_number ∙ number;
  same_splits = w.same_splits ∙ splits;
  rest = rest ++ w.rest;
  seen = w.seen ∙ ap (λ l. l ++ w.rest) seen ∙ append_assoc first.seen rest w.rest;
  goes = goes-both a b c first.number then.number number rest w.rest goes w.goes;
  own = w.own;
  unmade = w.unmade;
  legal = subst (λ (v : BoardValue). IsLegal machines talks last.seen (opening_record v.opening)) board w.legal;
}

pub stays-worked : {c : Stage} (first then last : PassValue) → Stays first then → Worked runs c then last → Worked runs c first last
stays-worked first then last a w = worked-last first then last a.same_board a.same_number a.same_splits a.rest a.seen a.goes w

pub worked-more : {a b c : Stage} (first then last : PassValue) → Worked a b first then → Worked b c then last → Worked a c first last
worked-more first then last a w = worked-last first then last a.same_board a.same_number a.same_splits a.rest a.seen a.goes w

-- a pass that may have worked
pub worked-board : {a b : Stage} (first then : PassValue) → (then ≡ first) ⊎ Worked a b first then → then.board ≡ first.board
worked-board first then (inl same) = ap (λ (p : PassValue). p.board) same
worked-board first then (inr w) = w.same_board

pub worked-then : {a c : Stage} (first then last : PassValue) → (then ≡ first) ⊎ Worked a a first then → Worked a c then last → Worked a c first last
worked-then {a} {c} first then last (inl same) w = subst (λ p. Worked a c p last) same w
worked-then first then last (inr before) w = worked-more first then last before w

-- ---- who stops the world

pub some-is : {A : Type 0} (o : Option A) → IsSome o → (x : A) × (o ≡ Some x)
some-is None h = absurd (cc)
some-is (Some x) h = (x, refl)

is-some : {A : Type 0} (o : Option A) (x : A) → o ≡ Some x → IsSome o
is-some o x e = ap is_some e

module _ (old new : PassValue) (rest : History Reason) (seen : new.seen ≡ old.seen ++ rest) where
  -- a world that was stopped stays so, by the same seat and for the same reason
  pub stopped-later : IsStopped old → IsStopped new
  stopped-later h = let s = some-is (first_stop old.seen) h in is-some (first_stop new.seen) s.0 (ap first_stop seen ∙ stops-on old.seen rest s.0 s.1)

  stopped-back : (seat : Seat) (r : Reason) → IsStoppedBy seat r new → IsStopped old → IsStoppedBy seat r old
  stopped-back seat r by h =
      let s = some-is (first_stop old.seen) h in s.1 ∙ sym (ap first_stop seen ∙ stops-on old.seen rest s.0 s.1) ∙ by

  own-back : new.number ≡ old.number → IsStoppedBy new.number reason.Wire new → IsStopped old → IsStoppedBy old.number reason.Wire old
  own-back same by h = subst (λ s. IsStoppedBy s reason.Wire old) same (stopped-back new.number reason.Wire by h)

pub spares-none : (pass : PassValue) → Spares pass pass
spares-none pass h = is-some (first_stop pass.seen) (pass.number, reason.Wire) h

module _ (first then last : PassValue) (same : last.number ≡ then.number) (rest : History Reason) (seen : last.seen ≡ then.seen ++ rest)
    (before : Spares first then) where
  pub spares-more : Spares then last → Spares first last
  spares-more spares by = before (own-back then last rest seen same by (spares by))

  pub blames-more : {W : Type 0} (streak : W → ℕ) (wire : W) → Blames streak wire then last → Blames streak wire first last
  blames-more streak wire blames by = at (blames by)
    where
      at : IsLost streak wire ⊎ IsStopped then → IsLost streak wire ⊎ IsStopped first
      at (inl lost) = inl lost
      at (inr stopped) = inr (before (own-back then last rest seen same by stopped))

-- the same, after what the pass has done since
pub spares-worked : {a b : Stage} (first then last : PassValue) → Worked a b then last → Spares first then → Spares then last → Spares first last
spares-worked first then last w before spares = spares-more first then last w.same_number w.rest w.seen before spares

pub blames-worked : {W : Type 0} {a b : Stage} (streak : W → ℕ) (wire : W) (first then last : PassValue) → Worked a b then last → Spares first then
    → Blames streak wire then last → Blames streak wire first last
blames-worked streak wire first then last w before blames = blames-more first then last w.same_number w.rest w.seen before streak wire blames

-- the wire stays as it was in a world that was stopped
pub blames-on : {W : Type 0} {a b : Stage} (streak : W → ℕ) (old new : W) (first then last : PassValue) → Blames streak old first then → Worked a b then last
    → (IsStopped then → new ≡ old) → Blames streak new then last → Blames streak new first last
blames-on streak old new first then last before w still blames by = at (blames by)
  where
    through : IsStopped then → IsLost streak old ⊎ IsStopped first → IsLost streak new ⊎ IsStopped first
    through stopped (inl lost) = inl (subst (IsLost streak) (sym (still stopped)) lost)
    through stopped (inr h) = inr h

    at : IsLost streak new ⊎ IsStopped then → IsLost streak new ⊎ IsStopped first
    at (inl lost) = inl lost
    at (inr stopped) = through stopped (before (own-back then last w.rest w.seen w.same_number by stopped))

module _ (old new : PassValue) (entry : Entry Reason) (m : Makes old new entry) where
  last-stop : first_stop ((old.number, entry) ∷ []) ≡ stop_or old.number (reason_of entry) None
  unfolding first_stop
  last-stop = refl

  -- an entry that does not stop the world for a wire
  spares-one : (reason_of entry ≡ Some reason.Wire → ⊥) → Spares old new
  spares-one not by = before (first_stop old.seen) refl
    where
      its-own : (r : Option Reason) → reason_of entry ≡ r → stop_or old.number r None ≡ Some (new.number, reason.Wire) → ⊥
      its-own None is e = absurd (cc)
      its-own (Some r) is e =
          let both : ◌≡◌ {A = Option (Seat × Reason)} (Some (old.number, r)) (Some (new.number, reason.Wire)) = e in
          let pair : ◌≡◌ {A = Seat × Reason} (old.number, r) (new.number, reason.Wire) = cc in
          not (is ∙ ap (λ (p : Seat × Reason). Some p.1) pair)

      others : (o : Option (Seat × Reason)) → first_stop m.between ≡ o
          → first_stop (m.between ++ (old.number, entry) ∷ []) ≡ Some (new.number, reason.Wire) → ⊥
      others (Some x) is e =
          let both : ◌≡◌ {A = Option (Seat × Reason)} (Some x) (Some (new.number, reason.Wire)) =
          sym (stops-on m.between ((old.number, entry) ∷ []) x is) ∙ e in
          let pair : ◌≡◌ {A = Seat × Reason} x (new.number, reason.Wire) = cc in
          stops-by old.number m.between x m.others is (ap (λ (p : Seat × Reason). p.0) pair ∙ m.same_number)
      others None is e = its-own (reason_of entry) refl (sym last-stop ∙ sym (stops-later m.between ((old.number, entry) ∷ []) is) ∙ e)

      before : (o : Option (Seat × Reason)) → first_stop old.seen ≡ o → IsStopped old
      before (Some x) is = is-some (first_stop old.seen) x is
      before None is =
          absurd (others (first_stop m.between) refl
          (sym (stops-later old.seen (m.between ++ (old.number, entry) ∷ []) is)
          ∙ ap first_stop (sym (m.seen ∙ append_assoc old.seen m.between ((old.number, entry) ∷ []))) ∙ by))

  pub spares-silent : reason_of entry ≡ None → Spares old new
  spares-silent silent = spares-one (λ is. let no : None ≡ Some reason.Wire = sym silent ∙ is in absurd (cc))

pub spares-halted : (old new : PassValue) (r : Reason) → Makes old new (row (halted r)) → r ≢ reason.Wire → Spares old new
spares-halted old new r m unlike = spares-one old new (row (halted r)) m (λ is. unlike (let same : Some r ≡ Some reason.Wire = is in cc))

pub spares-placed : (old new : PassValue) (how : How) (name : Path) (ran : ℕ) (placed : Placed) → Makes old new (placed_entry how name ran placed)
    → Spares old new
spares-placed old new how name ran placed m = spares-silent old new (placed_entry how name ran placed) m (silent-placed how name ran placed)

pub spares-taken : (old new : PassValue) (answer : Taken) → Makes old new (taken_entry answer) → Spares old new
spares-taken old new answer m = spares-silent old new (taken_entry answer) m (silent-taken answer)

-- want of memory is no lost wire
pub lost-none : {W : Type 0} (streak : W → ℕ) (wire : W) → fault.Memory ≡ fault.Wire → IsLost streak wire
lost-none streak wire same = absurd (cc)

-- a machine was given back that could not be run on
pub blames-given-up : {W : Type 0} {a b : Stage} (streak : W → ℕ) (wire : W) (first mid last : PassValue) (error : FetchError) (r : Reason)
    → r ≡ reason_for error → (error ≡ fault.Wire → IsLost streak wire) → Spares first mid → Worked a b mid last → (r ≢ reason.Wire → Spares mid last) → Blames streak wire first last
blames-given-up streak wire first mid last fault.Wire r is lost before w spares by = inl (lost refl)
blames-given-up streak wire first mid last fault.Memory r is lost before w spares by =
    inr (spares-worked first mid last w before (spares (λ same. let no : reason.Memory ≡ reason.Wire = sym is ∙ same in cc)) by)

-- whoever stops a world has seen it stopped
pub halted-stops : (old new : PassValue) (r : Reason) → Makes old new (row (halted r)) → IsStopped new
halted-stops old new r m = at (first_stop (old.seen ++ m.between)) refl
  where
    whole : (x : Seat × Reason) → first_stop ((old.seen ++ m.between) ++ (old.number, row (halted r)) ∷ []) ≡ Some x → IsStopped new
    whole x is = is-some (first_stop new.seen) x (ap first_stop m.seen ∙ is)

    at : (o : Option (Seat × Reason)) → first_stop (old.seen ++ m.between) ≡ o → IsStopped new
    at (Some x) is = whole x (stops-on (old.seen ++ m.between) ((old.number, row (halted r)) ∷ []) x is)
    at None is = whole (old.number, r) (stops-later (old.seen ++ m.between) ((old.number, row (halted r)) ∷ []) is ∙ last-stop old new (row (halted r)) m)

-- ---- a pass that tells and hears while it runs a machine

pub stays-none : (pass : PassValue) → Stays pass pass
stays-none pass = record {
  same_board = refl;
  same_number = refl;
  same_splits = refl;
  rest = [];
  seen = sym (append-nil pass.seen);
  goes = goes-none runs;
  held = λ lease h. h;
  free_still = λ name h. h;
  spares = spares-none pass;
}

pub stays-more : (first then last : PassValue) → Stays first then → Stays then last → Stays first last
stays-more first then last a b = record {
  same_board = b.same_board ∙ a.same_board;
  same_number = b.same_number ∙ a.same_number;
  same_splits = b.same_splits ∙ a.same_splits;
  rest = a.rest ++ b.rest;
  seen = b.seen ∙ ap (λ l. l ++ b.rest) a.seen ∙ append_assoc first.seen a.rest b.rest;
  goes = goes-both runs runs runs first.number then.number a.same_number a.rest b.rest a.goes b.goes;
  held = λ lease h. b.held lease (a.held lease h);
  free_still = λ name h. b.free_still name (a.free_still name h);
  spares = spares-more first then last b.same_number b.rest b.seen a.spares b.spares;
}

stays-one : (old new : PassValue) (entry : Entry Reason) → Makes old new entry → ((name : Path) → Leaves entry name)
    → ((name : Path) → IsFree old name → FreeAfter entry name (IsFree old name)) → Steps runs entry runs → reason_of entry ≡ None → Stays old new
stays-one old new entry m leaves unheld steps silent = record {
  same_board = m.same_board;
  same_number = m.same_number;
  same_splits = m.same_splits;
  rest = m.between ++ (old.number, entry) ∷ [];
  seen = m.seen ∙ append_assoc old.seen m.between ((old.number, entry) ∷ []);
  goes = goes-entry runs runs old new entry m steps;
  held = λ lease h. m.held lease h (leaves lease.name);
  free_still = λ name h. m.free name (unheld name h);
  spares = spares-silent old new entry m silent;
}

pub stays-told : (old new : PassValue) (image page : ℕ) (answer : Result (Unit {0}) AllocError) → Makes old new (told_entry image page answer)
    → Stays old new
stays-told old new image page answer m =
    stays-one old new (told_entry image page answer) m (leaves-told image page answer) (λ name h. free-told image page answer name (IsFree old name) h)
    (steps-told image page answer) (silent-told image page answer)

pub stays-heard : (old new : PassValue) (place : ℕ) (answer : Result (Option Delivery) AllocError) → Makes old new (heard_entry place answer) → Stays old new
stays-heard old new place answer m =
    stays-one old new (heard_entry place answer) m (leaves-heard place answer) (λ name h. free-heard place answer name (IsFree old name) h)
    (steps-heard place answer) (silent-heard place answer)

-- ---- a worker between calls

-- it is fit after a call that leaves what it has heard, and what it claims by
pub fit-on : (claims : ClaimsValue) (depot : Shelves) (old new : Worker) → new.hearing ≡ old.hearing → new.claimant ≡ old.claimant → IsFit claims depot old → IsFit claims depot new
fit-on claims depot old new hearing claimant fit = record {
  heard = subst (λ (h : Hearing). AreHeardOf depot h.heard) (sym hearing) fit.heard;
  claims_are = ap (λ (c : Claiming). c.claims) claimant ∙ fit.claims_are;
}

pub share-of : (claims own : ClaimsValue) (pass : ClaimValue) → own ≡ claims → IsShare own pass → IsShare claims pass
share-of claims own pass same is = subst (λ (c : ClaimsValue). IsShare c pass) same is

-- ---- a machine that is handed back

-- it came back, or memory was wanting for its call or its talk
pub record CameBack (old new : PassValue) (placed : Placed) : Type 0 where
  pub worked : Worked runs (stage_placed placed) old new
  pub holds : HoldsPlaced new placed
  pub spares : Spares old new

module _ (old new : PassValue) (lease : Lent) (one : HoldsOne old lease) (placed : Placed) where
  pub came-back : (how : How) → Makes old new (placed_entry how lease.name lease.ran placed) → Places how lease new placed → CameBack old new placed
  came-back how made places = record {
    worked = worked-one old new (placed_entry how lease.name lease.ran placed) made (steps-placed how lease.name lease.ran placed);
    holds = holds-placed old new lease one how placed made places;
    spares = spares-placed old new how lease.name lease.ran placed made;
  }

  pub said-back : (what : Option Talk) → IsSome what → IfSome what (λ said. Makes old new (placed_entry (said_by said) lease.name lease.ran placed))
      → IfSome what (λ said. Places (said_by said) lease new placed) → CameBack old new placed
  said-back None there made places = absurd (cc)
  said-back (Some said) there made places = came-back (said_by said) made places
