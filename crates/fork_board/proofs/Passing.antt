-- What a turn of a seat is to its pass.
use Rattle.std.proofs.Common.{◌≡◌, ◌≢◌, ℕ, ◌≤◌, List, [], ◌∷◌, ◌++◌, Some, length, length-append, refl, sym, ap, ap₂, ◌∙◌, subst, ◌⊎◌, inl, inr, arith}
use Rattle.std.specs.Prelude.{Box}
use Rattle.std.specs.declared.alloc.Global.{Global}
use Rattle.forest_tree.specs.Tree.{Path}
use Rattle.talking_history.specs.Histories.{Holding, Seat, holding, Entry, History, IsLegal, Record, replay}
use Rattle.forest_tree.specs.Sound.{IsSound}
use Rattle.talking_history.specs.Places.{boxes}
use Rattle.forest_model.specs.Machine.{Machine}
use Rattle.forest_model.specs.Forest.{machines, talks}
use Rattle.atomic_table.specs.Seated.{TableId}
use Rattle.turn_board.specs.History as notes
use Rattle.turn_board.specs.History.{HasEnded, entries_by, StartsWith}
use Rattle.turn_board.proofs.Entries.{entries_by-push_other}
use Rattle.turn_board.specs.Calls as turn
use Rattle.turn_board.specs.Calls.{IsSeat, IsTurn, Enters}
use Rattle.world_core.specs.declared.reason.Reason.{Reason}
use Rattle.world_core.specs.declared.world.World.{World}
use Rattle.world_core.specs.Lent.{Lent}
use Rattle.fork_board.specs.declared.note.Note.{Note}
use Rattle.fork_board.specs.declared.note.TurnNote.{TurnNote}
use Rattle.fork_board.specs.declared.note.TurnNote.TheVariants.{One}
use Rattle.fork_board.specs.declared.note.Opening.{Opening}
use Rattle.fork_board.specs.Notes.{entries, entry_of, turn_entries}
use Rattle.fork_board.specs.Follows.{Follows, opening_record, record_at}
use Rattle.fork_board.specs.Passes.{BoardValue, FreeAfter, HoldsNone, IsFree, IsHeld, Leaves, PassValue, Makes, Joins, Closes}
use Rattle.fork_board.specs.Visits.{IsPlace, Place, Passed, Visits, pass_of}
use Rattle.fork_board.proofs.Entries.{by-entries, entries-append, entries-push, none-between}
use Rattle.fork_board.proofs.Records.{Free, free-after, free-more, free-own, held-own, others-keep, record-more}
use Rattle.fork_board.proofs.Worlds.{IsHeldAt, held-still}

-- what lies under the lock, as `Kept` says it
abbrev pub kept : Opening → notes.History TurnNote → Box World Global → Type 0
kept opening log w = Follows opening (entries log) w.value

-- the entries of its number in what a seat has seen are its own
own-entries : (seat : List ℕ) (seen mine : notes.History TurnNote) → entries_by seat seen ≡ mine → entries_by seat (entries seen) ≡ entries mine
own-entries seat seen mine own = by-entries seat seen ∙ ap entries own

no-others : (seat : List ℕ) (rest : notes.History TurnNote) → entries_by seat rest ≡ [] → entries_by seat (entries rest) ≡ []
no-others seat rest none = by-entries seat rest ∙ ap entries none

module _ (board : BoardValue) where
  -- the seat's turn has come
  pub entered : (old new : Place) (w : Box World Global) → IsSeat board.table board.opening old → IsTurn board.table board.opening new
      → Enters kept board.opening old new w → Visits (pass_of board old) (pass_of board new) w.value
  entered old new w seat at e = record {
    same_board = refl;
    same_number = e.same_seat;
    same_splits = e.same_splits;
    same_mine = ap entries e.same_mine;
    same_ended = e.same_ended;
    between = entries e.later.0;
    seen = ap entries e.later.1 ∙ entries-append old.me.0.seen e.later.0;
    others =
        no-others old.me.0.seat e.later.0
        (none-between old.me.0.seat old.me.0.seen e.later.0 old.me.0.mine seat.own
        (ap (entries_by old.me.0.seat) (sym e.later.1) ∙ ap (λ s. entries_by s new.me.0.seen) (sym e.same_seat) ∙ at.own ∙ e.same_mine));
    own = own-entries new.me.0.seat new.me.0.seen new.me.0.mine at.own;
    unmade = λ k below le. no-others (new.me.0.seat ++ k ∷ below) new.me.0.seen (e.unmade k below le);
    follows = e.stands_for;
  }

  -- it has passed
  pub passed : (now new : Place) (note : TurnNote) → IsSeat board.table board.opening new → turn.Leaves now new note
      → Passed (pass_of board now) (pass_of board new) note
  passed now new note seat l = record {
    same_board = refl;
    same_number = l.same_seat;
    same_splits = l.same_splits;
    same_ended = l.same_ended;
    seen = ap entries l.seen ∙ entries-push now.me.0.seen now.me.0.seat note;
    mine = ap entries l.mine ∙ entries-push now.me.0.mine now.me.0.seat note;
    own = own-entries new.me.0.seat new.me.0.seen new.me.0.mine seat.own;
  }

  -- two have joined
  pub joined : (seat other new : Place) → IsPlace board seat → IsPlace board other → IsSeat board.table board.opening new → turn.Joins seat other new
      → IsPlace board new × Joins (pass_of board seat) (pass_of board other) (pass_of board new)
  joined seat other new is was now j = (
    record { seat = now; start = is.start; legal = legal },
    record {
      same_board = refl;
      same_number = j.same_seat;
      same_splits = j.same_splits;
      same_mine = ap entries j.same_mine;
      either = either j.either;
      seen = later seat.me.0.seen j.seen;
      others = later other.me.0.seen j.told;
      own = own-entries new.me.0.seat new.me.0.seen new.me.0.mine now.own;
      legal = legal;
      free = free;
      held = held;
      unmade = λ k below le. no-others (new.me.0.seat ++ k ∷ below) new.me.0.seen (j.unmade k below le);
      ended = j.ended;
      still = λ s splits has. as-entries s splits seat (j.still s splits has);
      last = λ s splits has. as-entries s splits other (j.last s splits has);
    },
  )
    where
      as-entries : (s : Seat) (splits : ℕ) (old : Place) → HasEnded s splits old.me.0.seen new.me.0.seen
          → HasEnded s splits (entries old.me.0.seen) (entries new.me.0.seen)
      as-entries s splits old h = record {
        all = by-entries s new.me.0.seen ∙ ap entries h.all ∙ sym (by-entries s old.me.0.seen);
        none = λ k below le. no-others (s ++ k ∷ below) new.me.0.seen (h.none k below le);
      }

      none : entries_by seat.me.0.seat (entries j.seen.0) ≡ []
      none =
          no-others seat.me.0.seat j.seen.0
          (none-between seat.me.0.seat seat.me.0.seen j.seen.0 seat.me.0.mine is.seat.own
          (ap (entries_by seat.me.0.seat) (sym j.seen.1) ∙ ap (λ s. entries_by s new.me.0.seen) (sym j.same_seat) ∙ now.own ∙ j.same_mine))

      all : entries new.me.0.seen ≡ entries seat.me.0.seen ++ entries j.seen.0
      all = ap entries j.seen.1 ∙ entries-append seat.me.0.seen j.seen.0

      legal-by : (new.me.0.seen ≡ seat.me.0.seen) ⊎ (new.me.0.seen ≡ other.me.0.seen)
          → IsLegal machines talks (entries new.me.0.seen) (opening_record board.opening)
      legal-by (inl e) = subst (λ l. IsLegal machines talks (entries l) (opening_record board.opening)) (sym e) is.legal
      legal-by (inr e) = subst (λ l. IsLegal machines talks (entries l) (opening_record board.opening)) (sym e) was.legal

      legal : IsLegal machines talks (entries new.me.0.seen) (opening_record board.opening)
      legal = legal-by j.either

      held : (lease : Lent) → IsHeld (pass_of board seat) lease → IsHeld (pass_of board new) lease
      held lease h =
          let x : Holding Machine = record { name = lease.name; seat = seat.me.0.seat; found = lease.start } in
          ap (λ l. holding lease.name (record_at board.opening l).holdings) all
          ∙ others-keep board.opening (entries seat.me.0.seen) is.start (entries j.seen.0) lease.name x
          (subst (λ l. IsLegal machines talks l (opening_record board.opening)) all legal) none h
          ∙ ap (λ s. Some (record { name = lease.name; seat = s; found = lease.start })) (sym j.same_seat)

      free : (name : Path) → IsFree (pass_of board seat) name → IsFree (pass_of board new) name
      free name h =
          subst (λ s. Free s name (record_at board.opening (entries new.me.0.seen)).holdings) (sym j.same_seat)
          (subst (λ l. Free seat.me.0.seat name (record_at board.opening l).holdings)
          (sym all)
          (free-more seat.me.0.seat name board.opening (entries seat.me.0.seen) (entries j.seen.0) none h))

      either : (new.me.0.seen ≡ seat.me.0.seen) ⊎ (new.me.0.seen ≡ other.me.0.seen)
          → (entries new.me.0.seen ≡ entries seat.me.0.seen) ⊎ (entries new.me.0.seen ≡ entries other.me.0.seen)
      either (inl e) = inl (ap entries e)
      either (inr e) = inr (ap entries e)

      later : (part : notes.History TurnNote) → StartsWith new.me.0.seen part → (rest : History Reason) × (entries new.me.0.seen ≡ entries part ++ rest)
      later part s = (entries s.0, ap entries s.1 ∙ entries-append part s.0)

  -- the lock has ended
  pub closed : (seat : Place) (w : Box World Global) → turn.Closes kept board.opening seat w → Closes (pass_of board seat) w.value
  closed seat w c = record {
    log = entries c.log;
    between = entries c.later.0;
    later = ap entries c.later.1 ∙ entries-append seat.me.0.seen c.later.0;
    own = own-entries seat.me.0.seat c.log seat.me.0.mine c.own;
    unmade = λ k below le. no-others (seat.me.0.seat ++ k ∷ below) c.log (c.unmade k below le);
    follows = c.stands_for;
  }

-- ---- a turn from its start to its end

pub unlike-below : (seat : Seat) (k : ℕ) (below : Seat) → seat ≢ seat ++ k ∷ below
unlike-below seat k below same = let longer = ap length same in absurd (omega (arith, length-append seat (k ∷ below)))

-- the pass in its turn, whatever the world is
pub record Sees (pass now : PassValue) : Type 0 where
  pub same_board : now.board ≡ pass.board
  pub same_number : now.number ≡ pass.number
  pub same_splits : now.splits ≡ pass.splits
  pub same_mine : now.mine ≡ pass.mine
  pub same_ended : now.ended ≡ pass.ended
  pub between : History Reason
  pub seen : now.seen ≡ pass.seen ++ between
  pub others : entries_by pass.number between ≡ []
  pub own : entries_by now.number now.seen ≡ now.mine
  pub unmade : (k : ℕ) (below : List ℕ) → now.splits ≤ k → entries_by (now.number ++ k ∷ below) now.seen ≡ []
  pub start : IsSound (boxes machines talks) (opening_record now.board.opening).world.tree
  pub legal : IsLegal machines talks now.seen (opening_record now.board.opening)

pub sees-now : (pass now : PassValue) (w : World) → Visits pass now w → Sees pass now
sees-now pass now w v = record {
  same_board = v.same_board;
  same_number = v.same_number;
  same_splits = v.same_splits;
  same_mine = v.same_mine;
  same_ended = v.same_ended;
  between = v.between;
  seen = v.seen;
  others = v.others;
  own = v.own;
  unmade = v.unmade;
  start = v.follows.start;
  legal = v.follows.legal;
}

-- what others did meanwhile leaves it with the pass
pub held-now : (pass now : PassValue) (lease : Lent) → Sees pass now → IsHeld pass lease → IsHeldAt now.board.opening now.seen now.number lease
held-now pass now lease v held =
    let opening = now.board.opening in
    let x : Holding Machine = record { name = lease.name; seat = pass.number; found = lease.start } in
    let first : holding lease.name (record_at opening pass.seen).holdings ≡ Some x =
    ap (λ (b : BoardValue). holding lease.name (record_at b.opening pass.seen).holdings) v.same_board ∙ held in
    let legal : IsLegal machines talks (pass.seen ++ v.between) (opening_record opening) =
    subst (λ l. IsLegal machines talks l (opening_record opening)) v.seen v.legal in
    ap (λ l. holding lease.name (record_at opening l).holdings) v.seen
    ∙ others-keep opening pass.seen v.start v.between lease.name x legal v.others first
    ∙ ap (λ s. Some (record { name = lease.name; seat = s; found = lease.start })) (sym v.same_number)

-- the pass has made an entry more, which is the note's
pub noted : (pass now new : PassValue) (note : Note) (entry : Entry Reason) → Sees pass now → Passed now new (One note) → entry_of note ≡ entry
    → IsLegal machines talks (now.seen ++ (now.number, entry_of note) ∷ []) (opening_record now.board.opening) → Makes pass new entry
noted pass now new note entry v p is legal = record {
  same_board = p.same_board ∙ v.same_board;
  same_number = p.same_number ∙ v.same_number;
  same_splits = p.same_splits ∙ v.same_splits;
  same_ended = p.same_ended ∙ v.same_ended;
  between = v.between;
  seen = p.seen ∙ ap₂ (λ l e. l ++ e ∷ []) v.seen last;
  others = v.others;
  mine = p.mine ∙ ap₂ (λ l e. l ++ e ∷ []) v.same_mine last;
  own = p.own;
  unmade = unmade;
  legal =
      subst (λ (b : BoardValue). IsLegal machines talks new.seen (opening_record b.opening)) v.same_board
      (subst (λ l. IsLegal machines talks l (opening_record now.board.opening)) (sym p.seen) legal);
  free = free;
  held = held;
}
  where
    unmade : (k : ℕ) (below : Seat) → new.splits ≤ k → entries_by (new.number ++ k ∷ below) new.seen ≡ []
    unmade k below le =
        ap₂ (λ s l. entries_by (s ++ k ∷ below) l) p.same_number p.seen
        ∙ entries_by-push_other (now.number ++ k ∷ below) now.number now.seen (entry_of note) (unlike-below now.number k below)
        ∙ v.unmade k below (subst (λ n. n ≤ k) p.same_splits le)

    before : (name : Path) → IsFree pass name → Free now.number name (record_at now.board.opening now.seen).holdings
    before name h =
        subst (λ l. Free now.number name (record_at now.board.opening l).holdings) (sym v.seen)
        (free-more now.number name now.board.opening pass.seen v.between (subst (λ s. entries_by s v.between ≡ []) (sym v.same_number) v.others)
        (subst (λ s. Free s name (record_at now.board.opening pass.seen).holdings) (sym v.same_number)
        (subst (λ (b : BoardValue). Free pass.number name (record_at b.opening pass.seen).holdings) (sym v.same_board) h)))

    behind : (name : Path) → FreeAfter entry name (IsFree pass name)
        → Free now.number name (record_at now.board.opening (now.seen ++ (now.number, entry) ∷ [])).holdings
    behind name h =
        subst (λ (r : Record Machine Reason). Free now.number name r.holdings) (sym (record-more now.board.opening now.seen now.number entry))
        (free-own now.number name entry (record_at now.board.opening now.seen)
        (free-after now.number name entry (IsFree pass name) (Free now.number name (record_at now.board.opening now.seen).holdings) (before name) h))

    free : (name : Path) → FreeAfter entry name (IsFree pass name) → IsFree new name
    free name h =
        subst (λ (b : BoardValue). Free new.number name (record_at b.opening new.seen).holdings) (sym p.same_board)
        (subst (λ s. Free s name (record_at now.board.opening new.seen).holdings) (sym p.same_number)
        (subst (λ l. Free now.number name (record_at now.board.opening l).holdings)
        (sym (p.seen ∙ ap (λ e. now.seen ++ (now.number, e) ∷ []) is)) (behind name h)))

    held : (lease : Lent) → IsHeld pass lease → Leaves entry lease.name → IsHeld new lease
    held lease h leaves =
        held-still new now.board.opening now.seen now.number entry lease (ap (λ (b : BoardValue). b.opening) p.same_board) p.same_number
        (p.seen ∙ ap (λ e. now.seen ++ (now.number, e) ∷ []) is)
        (ap (λ (r : Record Machine Reason). holding lease.name r.holdings) (record-more now.board.opening now.seen now.number entry)
        ∙ held-own now.number lease.name entry (record_at now.board.opening now.seen) leaves ∙ held-now pass now lease v h)

    last : ◌≡◌ {A = Seat × Entry Reason} (now.number, entry_of note) (pass.number, entry)
    last = ap₂ (λ s (e : Entry Reason). (s, e)) v.same_number is

-- a pass that has made no entry holds nothing
none-first : (opening : Opening) (seat : Seat) (name : Path) → Free seat name (record_at opening []).holdings
unfolding replay holding
none-first opening seat name = tt

pub none-held : (board : BoardValue) (seat : Place) → IsSeat board.table board.opening seat → seat.me.0.mine ≡ [] → HoldsNone (pass_of board seat)
none-held board seat is none name =
    free-more seat.me.0.seat name board.opening [] (entries seat.me.0.seen)
    (own-entries seat.me.0.seat seat.me.0.seen seat.me.0.mine is.own ∙ ap entries none) (none-first board.opening seat.me.0.seat name)

-- ---- what is under the lock, and what contracts see

module _ (P : TableId → Opening → Type 0) (board : BoardValue) (table : TableId) (opening key : Opening)
    (is : ◌≡◌ {A = BoardValue} (record { table = table; opening = opening }) board) (same : key ≡ opening) where
  pub at-lock : P board.table board.opening → P table key
  at-lock h = subst (P table) (sym same) (subst (λ (b : BoardValue). P b.table b.opening) (sym is) h)

  pub at-board : P table key → P board.table board.opening
  at-board h = subst (λ (b : BoardValue). P b.table b.opening) is (subst (P table) same h)

-- a seat of a lock, told by what the pass has of it
pub own-seat : (table : TableId) (key about : Opening) (seat : Place) → IsSeat table key seat → about ≡ key → IsSeat seat.table_id about seat
own-seat table key about seat h same = subst (λ t. IsSeat t about seat) (sym h.here) (subst (λ o. IsSeat table o seat) (sym same) h)

-- the first seat of a board has seen nothing
pub first-place : (table : TableId) (key about : Opening) (seat : Place) (w : World) → IsSeat table key seat → about ≡ key → seat.me.0.seen ≡ []
    → Follows key [] w → IsPlace (record { table = seat.table_id; opening = about }) seat
first-place table key about seat w is same none follows =
    subst (λ (b : BoardValue). IsPlace b seat) (ap₂ (λ t o. record { table = t; opening = o }) (sym is.here) (sym same))
    (record { seat = is; start = follows.start; legal = subst (λ l. IsLegal machines talks (entries l) (opening_record key)) (sym none) follows.legal })

-- a seat that has seen what another had
kept-place : (board : BoardValue) (old new : Place) → IsPlace board old → IsSeat board.table board.opening new → new.me.0.seen ≡ old.me.0.seen
    → IsPlace board new
kept-place board old new h is same = record {
  seat = is;
  start = h.start;
  legal = subst (λ l. IsLegal machines talks (entries l) (opening_record board.opening)) (sym same) h.legal;
}

-- a seat whose turn has passed has seen what the world follows
passed-place : (board : BoardValue) (now new : Place) (note : TurnNote) (w : World) → IsSeat board.table board.opening new
    → Passed (pass_of board now) (pass_of board new) note
    → Follows board.opening (entries now.me.0.seen ++ turn_entries now.me.0.seat note) w → IsPlace board new
passed-place board now new note w seat p follows = record {
  seat = seat;
  start = follows.start;
  legal = subst (λ l. IsLegal machines talks l (opening_record board.opening)) (sym p.seen) follows.legal;
}

-- the pass is that of its seat at the board
module _ (board : BoardValue) (pass : PassValue) (about : Opening) (seat : Place)
    (is : pass_of (record { table = seat.table_id; opening = about }) seat ≡ pass) (same : pass.board ≡ board) where
  board-is : ◌≡◌ {A = BoardValue} (record { table = seat.table_id; opening = about }) board
  board-is = ap (λ (p : PassValue). p.board) is ∙ same

  pub place-at : IsPlace (record { table = seat.table_id; opening = about }) seat → IsPlace board seat
  place-at h = subst (λ (b : BoardValue). IsPlace b seat) board-is h

  pub pass-at : pass_of board seat ≡ pass
  pass-at = ap (λ (b : BoardValue). pass_of b seat) (sym board-is) ∙ is

  pub about-is : about ≡ board.opening
  about-is = ap (λ (b : BoardValue). b.opening) board-is

  -- the lock's board is this one
  module _ (table : TableId) (opening key : Opening) (lock : ◌≡◌ {A = BoardValue} (record { table = table; opening = opening }) board)
      (fixed : key ≡ opening) where
    pub seat-in : IsPlace (record { table = seat.table_id; opening = about }) seat → IsSeat table key seat
    seat-in h = at-lock (λ t o. IsSeat t o seat) board table opening key lock fixed (place-at h).seat

    pub turn-at : (new : Place) → IsTurn table key new → IsTurn board.table board.opening new
    turn-at new h = at-board (λ t o. IsTurn t o new) board table opening key lock fixed h

    pub visits-at : (new : Place) (w : Box World Global) → IsPlace (record { table = seat.table_id; opening = about }) seat → IsTurn table key new → Enters kept key seat new w
        → Visits pass (pass_of board new) w.value
    visits-at new w h turn enters =
        subst (λ p. Visits p (pass_of board new) w.value) pass-at
        (entered board seat new w (place-at h).seat (turn-at new turn)
        (at-board (λ t o. Enters kept o seat new w) board table opening key lock fixed enters))

    pub closed-at : (w : Box World Global) → turn.Closes kept key seat w → Closes pass w.value
    closed-at w c =
        subst (λ p. Closes p w.value) pass-at (closed board seat w (at-board (λ t o. turn.Closes kept o seat w) board table opening key lock fixed c))

-- the pass of a seat whose turn has passed, or to which another was joined
module _ (board : BoardValue) (table : TableId) (opening key : Opening)
    (lock : ◌≡◌ {A = BoardValue} (record { table = table; opening = opening }) board) (fixed : key ≡ opening) where
  fixed-here : key ≡ board.opening
  fixed-here = fixed ∙ ap (λ (b : BoardValue). b.opening) lock

  board-here : (about : Opening) (seat : Place) → IsSeat table key seat → about ≡ board.opening
      → ◌≡◌ {A = BoardValue} (record { table = seat.table_id; opening = about }) board
  board-here about seat is same =
      ap₂ (λ t o. record { table = t; opening = o }) is.here (same ∙ sym (ap (λ (b : BoardValue). b.opening) lock)) ∙ lock

  here-at : (about : Opening) (seat : Place) → IsSeat table key seat → about ≡ board.opening
      → pass_of board seat ≡ pass_of (record { table = seat.table_id; opening = about }) seat
  here-at about seat is same = sym (ap (λ (b : BoardValue). pass_of b seat) (board-here about seat is same))

  place-here : (about : Opening) (seat : Place) → IsSeat table key seat → about ≡ board.opening → IsPlace board seat
      → IsPlace (record { table = seat.table_id; opening = about }) seat
  place-here about seat is same h = subst (λ (b : BoardValue). IsPlace b seat) (sym (board-here about seat is same)) h

  pub passed-at : (now : Place) (about : Opening) → about ≡ board.opening → (new : Place) (note : TurnNote) → IsSeat table key new → turn.Leaves now new note
      → Passed (pass_of board now) (pass_of (record { table = new.table_id; opening = about }) new) note
  passed-at now about same new note is leaves =
      subst (λ p. Passed (pass_of board now) p note) (here-at about new is same)
      (passed board now new note (at-board (λ t o. IsSeat t o new) board table opening key lock fixed is) leaves)

  pub passed-place-at : (now : Place) (about : Opening) → about ≡ board.opening → (new : Place) (note : TurnNote) (w : World) → IsSeat table key new
      → turn.Leaves now new note → Follows board.opening (entries now.me.0.seen ++ turn_entries now.me.0.seat note) w
      → IsPlace (record { table = new.table_id; opening = about }) new
  passed-place-at now about same new note w is leaves follows =
      let here = at-board (λ t o. IsSeat t o new) board table opening key lock fixed is in
      place-here about new is same (passed-place board now new note w here (passed board now new note here leaves) follows)

pub split-place : (board : BoardValue) (pass : PassValue) (about : Opening) (seat : Place)
    → pass_of (record { table = seat.table_id; opening = about }) seat ≡ pass → pass.board ≡ board → (table : TableId) (opening key : Opening)
    → ◌≡◌ {A = BoardValue} (record { table = table; opening = opening }) board → key ≡ opening
    → IsPlace (record { table = seat.table_id; opening = about }) seat → (whose : Opening) → whose ≡ board.opening → (new : Place) → IsSeat table key new
    → new.me.0.seen ≡ seat.me.0.seen → IsPlace (record { table = new.table_id; opening = whose }) new
split-place board pass about seat is same table opening key lock fixed mine whose here new now seen =
    place-here board table opening key lock fixed whose new now here
    (kept-place board seat new (place-at board pass about seat is same mine) (at-board (λ t o. IsSeat t o new) board table opening key lock fixed now) seen)

pub joined-at : (board : BoardValue) (pass : PassValue) (about : Opening) (seat : Place)
    → pass_of (record { table = seat.table_id; opening = about }) seat ≡ pass → pass.board ≡ board → (table : TableId) (opening key : Opening)
    → ◌≡◌ {A = BoardValue} (record { table = table; opening = opening }) board → key ≡ opening
    → (other : PassValue) (whose : Opening) (second : Place) → pass_of (record { table = second.table_id; opening = whose }) second ≡ other
    → other.board ≡ board → (new : Place) → IsPlace (record { table = seat.table_id; opening = about }) seat
    → IsPlace (record { table = second.table_id; opening = whose }) second → IsSeat table key new → turn.Joins seat second new
    → IsPlace (record { table = new.table_id; opening = about }) new × Joins pass other (pass_of (record { table = new.table_id; opening = about }) new)
joined-at board pass about seat is same table opening key lock fixed other whose second was here new mine theirs now j =
    let both =
    joined board seat second new (place-at board pass about seat is same mine) (place-at board other whose second was here theirs)
    (at-board (λ t o. IsSeat t o new) board table opening key lock fixed now) j in (
      place-here board table opening key lock fixed about new now (about-is board pass about seat is same) both.0,
      subst (λ q. Joins pass other q) (here-at board table opening key lock fixed about new now (about-is board pass about seat is same))
          (subst (λ p. Joins p other (pass_of board new)) (pass-at board pass about seat is same)
          (subst (λ o. Joins (pass_of board seat) o (pass_of board new)) (pass-at board other whose second was here) both.1)),
    )
