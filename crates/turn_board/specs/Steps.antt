-- What each step on a word tells the seat that makes it: of the seat before, the number found, and the seat after.
use Rattle.std.specs.Prelude.{◌≡◌, ℕ, ◌<◌, ◌≤◌, List, [], ◌∷◌, ◌++◌, length, true, false, Option, Some, None}
use Rattle.atomic_table.specs.Table.{Me, Step, rest}
use Rattle.std.specs.declared.snapshot.Snapshot.{Snapshot}
use Rattle.turn_board.specs.declared.view.Content.{Content}
use Rattle.turn_board.specs.declared.view.View.{View}
use Rattle.turn_board.specs.Seats.{has_seat, next_seat}
use Rattle.turn_board.specs.History.{History, HasEnded, entries_by, StartsWith, longer}
use Rattle.turn_board.specs.Rule.{content, IsLive}

module _ {A N : Type 0} where
  abbrev pub drawn_view : View A N → ℕ → View A N
  drawn_view v n = record v { number = Some n }

  abbrev pub served_view : View A N → History N → View A N
  served_view v log = record v { seen = log; served = true }

  abbrev pub learned_view : View A N → View A N
  learned_view v = record v { seen = longer v.seen v.told; ended = v.ended ++ v.told_ended; told = []; told_ended = [] }

  abbrev pub passed_view : View A N → N → View A N
  passed_view v note = record v { seen = v.seen ++ (v.seat, note) ∷ []; mine = v.mine ++ (v.seat, note) ∷ []; number = None; served = false }

  module _ {T : Type 0} where
    -- the number found is the seat's
    abbrev pub drew : Step (Content T N) → Me (Content T N) (View A N) → ℕ → Me (Content T N) (View A N) → Type 0
    drew step v n w = w ≡ (drawn_view v.0 n, v.1)

    -- the slot is out with the seat, and its value stands for the history, which begins with what the seat had seen
    pub record Served (stands : A → History N → T → Type 0) (v w : Me (Content T N) (View A N)) : Type 0 where
      pub log : History N
      pub value : T
      pub note : Option (Snapshot N)
      pub is : w ≡ (served_view v.0 log, (0, content (Some value) note) ∷ v.1)
      pub later : StartsWith log v.0.seen
      pub few : length log < 9223372036854775808
      pub own : entries_by v.0.seat log ≡ v.0.mine
      pub unmade : (k : ℕ) (below : List ℕ) → v.0.splits ≤ k → entries_by (v.0.seat ++ k ∷ below) log ≡ []
      pub stands_for : (a : A) → v.0.about ≡ Some a → stands a log value

    -- where the number found is the seat's, and no number from which on none comes, its turn has come; else nothing changes
    abbrev pub looked : (A → History N → T → Type 0) → Step (Content T N) → Me (Content T N) (View A N) → ℕ → Me (Content T N) (View A N) → Type 0
    looked stands step v n w =
        (v.0.number ≡ Some n → n < 9223372036854775808 → Served stands v w)
        × ((v.0.number ≡ Some n → 9223372036854775808 ≤ n) → w ≡ v)

    -- the entry has the seat's number and the note that lies in the slot, which goes home
    abbrev pub passed : Step (Content T N) → Me (Content T N) (View A N) → ℕ → Me (Content T N) (View A N) → Type 0
    passed step v n w = (value : Option T) (note : Snapshot N) → v.1 ≡ (0, content value (Some note)) ∷ rest v.1 → w ≡ (passed_view v.0 note.value, rest v.1)

    -- of what the seat had seen and was told of, each begins the longer, which it has seen from now on
    pub record learned (step : Step (Content T N)) (v : Me (Content T N) (View A N)) (n : ℕ) (w : Me (Content T N) (View A N)) : Type 0 where
      pub is : w ≡ (learned_view v.0, v.1)
      pub seen : StartsWith (longer v.0.seen v.0.told) v.0.seen
      pub told : StartsWith (longer v.0.seen v.0.told) v.0.told
      pub own : IsLive v.0.about → entries_by v.0.seat (longer v.0.seen v.0.told) ≡ v.0.mine
      pub unmade : IsLive v.0.about → (k : ℕ) (below : List ℕ) → v.0.splits ≤ k → entries_by (v.0.seat ++ k ∷ below) (longer v.0.seen v.0.told) ≡ []
      -- what was seen has all of the seats that have ended
      pub still : (s : List ℕ) (splits : ℕ) → has_seat v.0.ended (next_seat s splits) ≡ true → HasEnded s splits v.0.seen (longer v.0.seen v.0.told)
      pub last : (s : List ℕ) (splits : ℕ) → has_seat v.0.told_ended (next_seat s splits) ≡ true → HasEnded s splits v.0.told (longer v.0.seen v.0.told)
