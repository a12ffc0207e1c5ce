-- A history of the small machine of `sibling_forest`: two seats run a family whose children swap their numbers, and one
-- whose children both receive first.
use Rattle.std.specs.Prelude.{ℕ, [], ◌∷◌, List}
use Rattle.forest_tree.specs.Tree.{machine, Path}
use Rattle.sibling_forest.specs.Talk.{Talk}
use Rattle.sibling_forest.specs.Toy.{Speaker, speakers, speech, start}
use Rattle.talking_history.specs.Histories.{Seat, row, History, Record, record_of}
use Rattle.talking_history.specs.World.{world_of}
use Rattle.talking_history.specs.Rows.{How, forked, joined, sent, received, waited, ended, over, took, spent}

-- the machine that starts, whose children have these talks, and what is on record of its world
abbrev pub first_record : List (List Talk) → Record Speaker ℕ
first_record plan = record_of (world_of speakers speech {R = ℕ} (machine (start plan)).machine)

abbrev pub child : ℕ → Path
child j = record { ticket = 1; child = j } ∷ []

abbrev pub one : Seat
one = []

abbrev pub other : Seat
other = 1 ∷ []

-- the seat takes the machine of this name, which comes back so after so many steps of its own, and then more
abbrev pub turn : Seat → Path → How → ℕ → History ℕ → History ℕ
turn seat name how n more = (seat, row (took name)) ∷ ((seat, row (spent how name n)) ∷ more)

-- the first child sends, and waits to receive, and the root waits to join. Once the second child has sent, the first
-- receives; then so does the second. Both end, and the root joins them and ends
abbrev pub swap_history : History ℕ
swap_history =
    turn one [] forked 1
    (turn one (child 1) sent 0
    (turn one (child 1) waited 0
    (turn one [] waited 2
    (turn other (child 2) sent 0
    (turn one (child 1) received 0
    (turn other (child 2) received 0
    (turn one (child 1) ended 2
    (turn other (child 2) ended 2
    (turn one [] joined 0
    (turn one [] ended 1
    ((one, row over) ∷ [])))))))))))

-- each waits for the other, and the root for both
abbrev pub waiting_history : History ℕ
waiting_history =
    turn one [] forked 1
    (turn one (child 1) waited 0
    (turn other (child 2) waited 0
    (turn one [] waited 2 [])))
