-- What the calls of a turn lock require and ensure of its seats.
use Rattle.std.specs.Prelude.{◌≡◌, ◌⊎◌, ℕ, ◌<◌, ◌≤◌, List, [], ◌∷◌, ◌++◌, length, true, false, Some, None}
use Rattle.atomic_table.specs.declared.shared.Seat.{Seat}
use Rattle.atomic_table.specs.Seated.{TableId}
use Rattle.turn_board.specs.declared.view.Content.{Content}
use Rattle.turn_board.specs.declared.view.View.{View}
use Rattle.turn_board.specs.Seats.{has_seat, next_seat}
use Rattle.turn_board.specs.History.{History, HasEnded, entries_by, StartsWith}
use Rattle.turn_board.specs.Rule.{content}
use Rattle.turn_board.specs.Steps.{Served}

module _ {A N T : Type 0} where
  -- a seat of this lock that has no turn. Its own entries are all that it has seen under its number, each once and in order
  pub record IsSeat (table : TableId) (about : A) (seat : Seat (Content T N) (View A N)) : Type 0 where
    pub here : seat.table_id ≡ table
    pub empty : seat.me.1 ≡ []
    pub knows : seat.me.0.about ≡ Some about
    pub undrawn : seat.me.0.number ≡ None
    pub idle : seat.me.0.served ≡ false
    pub own : entries_by seat.me.0.seat seat.me.0.seen ≡ seat.me.0.mine

  -- a seat that has drawn this number
  pub record IsDrawn (table : TableId) (about : A) (number : ℕ) (seat : Seat (Content T N) (View A N)) : Type 0 where
    pub here : seat.table_id ≡ table
    pub empty : seat.me.1 ≡ []
    pub knows : seat.me.0.about ≡ Some about
    pub drawn : seat.me.0.number ≡ Some number
    pub idle : seat.me.0.served ≡ false

  -- a seat of this lock whose turn has come
  pub record IsTurn (table : TableId) (about : A) (seat : Seat (Content T N) (View A N)) : Type 0 where
    pub here : seat.table_id ≡ table
    pub out : seat.me.1 ≡ (0, content None None) ∷ []
    pub knows : seat.me.0.about ≡ Some about
    pub served : seat.me.0.served ≡ true
    pub own : entries_by seat.me.0.seat seat.me.0.seen ≡ seat.me.0.mine

  -- the slot is out with the seat
  pub record Comes (stands : A → History N → T → Type 0) (about : A) (old new : Seat (Content T N) (View A N)) : Type 0 where
    pub here : new.table_id ≡ old.table_id
    pub id : new.id ≡ old.id
    pub turn : Served stands old.me new.me

  -- the value stands for the history, which begins with what the seat had seen
  pub record Enters (stands : A → History N → T → Type 0) (about : A) (old new : Seat (Content T N) (View A N)) (value : T) : Type 0 where
    pub same_seat : new.me.0.seat ≡ old.me.0.seat
    pub same_splits : new.me.0.splits ≡ old.me.0.splits
    pub same_mine : new.me.0.mine ≡ old.me.0.mine
    pub same_ended : new.me.0.ended ≡ old.me.0.ended
    pub later : StartsWith new.me.0.seen old.me.0.seen
    -- no seat that is yet to be split off from it has an entry, nor has one that would be split off from such
    pub unmade : (k : ℕ) (below : List ℕ) → new.me.0.splits ≤ k → entries_by (new.me.0.seat ++ k ∷ below) new.me.0.seen ≡ []
    -- no turn comes after 2^63 others
    pub few : length new.me.0.seen < 9223372036854775808
    pub stands_for : stands about new.me.0.seen value

  -- the history has one entry more, of this seat with this note
  pub record Leaves (old new : Seat (Content T N) (View A N)) (note : N) : Type 0 where
    pub same_seat : new.me.0.seat ≡ old.me.0.seat
    pub same_splits : new.me.0.splits ≡ old.me.0.splits
    pub same_ended : new.me.0.ended ≡ old.me.0.ended
    pub seen : new.me.0.seen ≡ old.me.0.seen ++ (old.me.0.seat, note) ∷ []
    pub mine : new.me.0.mine ≡ old.me.0.mine ++ (old.me.0.seat, note) ∷ []

  -- the seat has seen what either had, of which one begins the other. The second has ended: the first has seen all entries
  -- of it, and of the seats that ended before. Each of them is known by the number that it would have given next
  pub record Joins (seat other new : Seat (Content T N) (View A N)) : Type 0 where
    pub same_seat : new.me.0.seat ≡ seat.me.0.seat
    pub same_splits : new.me.0.splits ≡ seat.me.0.splits
    pub same_mine : new.me.0.mine ≡ seat.me.0.mine
    pub either : (new.me.0.seen ≡ seat.me.0.seen) ⊎ (new.me.0.seen ≡ other.me.0.seen)
    pub seen : StartsWith new.me.0.seen seat.me.0.seen
    pub told : StartsWith new.me.0.seen other.me.0.seen
    pub unmade : (k : ℕ) (below : List ℕ) → new.me.0.splits ≤ k → entries_by (new.me.0.seat ++ k ∷ below) new.me.0.seen ≡ []
    pub ended : new.me.0.ended ≡ seat.me.0.ended ++ next_seat other.me.0.seat other.me.0.splits ∷ other.me.0.ended
    pub still : (s : List ℕ) (splits : ℕ) → has_seat seat.me.0.ended (next_seat s splits) ≡ true → HasEnded s splits seat.me.0.seen new.me.0.seen
    pub last : (s : List ℕ) (splits : ℕ) → has_seat (next_seat other.me.0.seat other.me.0.splits ∷ other.me.0.ended) (next_seat s splits) ≡ true
        → HasEnded s splits other.me.0.seen new.me.0.seen

  -- the value stands for the whole history, which begins with what the seat had seen, and has no more entries of its number than its own
  pub record Closes (stands : A → History N → T → Type 0) (about : A) (seat : Seat (Content T N) (View A N)) (value : T) : Type 0 where
    pub log : History N
    pub later : StartsWith log seat.me.0.seen
    pub own : entries_by seat.me.0.seat log ≡ seat.me.0.mine
    pub unmade : (k : ℕ) (below : List ℕ) → seat.me.0.splits ≤ k → entries_by (seat.me.0.seat ++ k ∷ below) log ≡ []
    pub stands_for : stands about log value
