-- A history is a list of entries, each the number of the seat that made it and a note.
use Rattle.std.specs.Prelude.{◌≡◌, ℕ, ◌≤◌, List, [], ◌∷◌, ◌++◌, length, nat_lt, if◌then◌else◌}
use Rattle.std.specs.List.{filter}
use Rattle.turn_board.specs.Seats.{is_seat}

abbrev pub History : Type 0 → Type 0
History N = List (List ℕ × N)

module _ {N : Type 0} where
  -- the entries of one seat
  abbrev pub entries_by : List ℕ → History N → History N
  entries_by seat log = filter (λ e. is_seat e.0 seat) log

  -- what was seen is a prefix of the history
  abbrev pub StartsWith : History N → History N → Type 0
  StartsWith log seen = (rest : History N) × (log ≡ seen ++ rest)

  -- a seat that has split off so many has ended: since this beginning of the history it has made no entry, and nor has a seat
  -- that it had yet to split off, or one that would be split off from such
  pub record HasEnded (seat : List ℕ) (splits : ℕ) (seen log : History N) : Type 0 where
    pub all : entries_by seat log ≡ entries_by seat seen
    pub none : (k : ℕ) (below : List ℕ) → splits ≤ k → entries_by (seat ++ k ∷ below) log ≡ []

  abbrev pub longer : History N → History N → History N
  longer xs ys = if nat_lt (length xs) (length ys) then ys else xs
