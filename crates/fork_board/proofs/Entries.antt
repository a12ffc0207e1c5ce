-- A history of notes as the history of their entries.
use Rattle.std.proofs.Common.{◌≡◌, ℕ, List, [], ◌∷◌, ◌++◌, append_assoc, append-nil, Bool, true, false, cond, refl, sym, ap, ap₂, ◌∙◌}
use Rattle.std.proofs.lemmas.List.{append_cancel_left}
use Rattle.std.proofs.lemmas.List.Elements.{filter-append}
use Rattle.turn_board.specs.Seats.{is_seat}
use Rattle.turn_board.specs.History.{History, entries_by}
use Rattle.fork_board.specs.declared.note.TurnNote.{TurnNote}
use Rattle.fork_board.specs.declared.note.TurnNote.TheVariants.{One, Two}
use Rattle.fork_board.specs.Notes.{entries, entry_of, turn_entries}

pub entries-append : (log more : History TurnNote) → entries (log ++ more) ≡ entries log ++ entries more
entries-append [] more = refl
entries-append (e ∷ log) more =
    ap (λ l. turn_entries e.0 e.1 ++ l) (entries-append log more) ∙ sym (append_assoc (turn_entries e.0 e.1) (entries log) (entries more))

-- one turn more
pub entries-push : (log : History TurnNote) (seat : List ℕ) (note : TurnNote) → entries (log ++ (seat, note) ∷ []) ≡ entries log ++ turn_entries seat note
entries-push log seat note =
    entries-append log ((seat, note) ∷ []) ∙ ap (λ l. entries log ++ l) (append-nil (turn_entries seat note))

by-two : {K : Type 0} (x y : List ℕ × K) (own : Bool) → cond own (x ∷ cond own (y ∷ []) []) (cond own (y ∷ []) []) ≡ cond own (x ∷ y ∷ []) []
by-two x y true = refl
by-two x y false = refl

-- all entries of a turn are of its seat
by-turn : (seat by : List ℕ) (note : TurnNote) → entries_by seat (turn_entries by note) ≡ cond (is_seat by seat) (turn_entries by note) []
by-turn seat by (One call) = refl
by-turn seat by (Two first then) = by-two (by, entry_of first) (by, entry_of then) (is_seat by seat)

pub by-entries : (seat : List ℕ) (log : History TurnNote) → entries_by seat (entries log) ≡ entries (entries_by seat log)
by-entries seat [] = refl
by-entries seat (e ∷ log) =
    filter-append (λ x. is_seat x.0 seat) (turn_entries e.0 e.1) (entries log)
    ∙ ap₂ (λ a b. a ++ b) (by-turn seat e.0 e.1) (by-entries seat log) ∙ at (is_seat e.0 seat)
  where
    at : (own : Bool) → cond own (turn_entries e.0 e.1) [] ++ entries (entries_by seat log)
        ≡ entries (cond own (e ∷ entries_by seat log) (entries_by seat log))
    at true = refl
    at false = refl

-- who has made the same entries before and after has made none in between
pub none-between : {N : Type 0} (seat : List ℕ) (seen rest mine : History N) → entries_by seat seen ≡ mine → entries_by seat (seen ++ rest) ≡ mine
    → entries_by seat rest ≡ []
none-between seat seen rest mine part whole =
    append_cancel_left (entries_by seat seen) (entries_by seat rest) []
    (sym (filter-append (λ e. is_seat e.0 seat) seen rest) ∙ whole ∙ sym part ∙ sym (append-nil (entries_by seat seen)))
