-- Histories of a world: what its seats did, one entry after another, and what is on record after them.
use Rattle.std.specs.Prelude.{ℕ, ◌<◌, List, [], ◌∷◌, ◌++◌, length, Option, Some, None, ◌≡◌, ◌⊎◌, Bool, true, false, if◌then◌else◌, IsSomeAnd}
use Rattle.forest_tree.specs.Operations.{Operations}
use Rattle.forest_tree.specs.Tree.{Tree, machine, Path, subtree, beyond}
use Rattle.sibling_forest.specs.Talk.{Talks, Box}
use Rattle.talking_history.specs.Places.{Spot}
use Rattle.talking_history.specs.World.{World}
use Rattle.talking_history.specs.Rows.{Row, over, stopped, stuck, idle, took, wake_failed, spent, dropped, kept, halted, Allows, does}

-- the number of a seat: the first has none, and the k-th that is split off from a seat has its number and k
abbrev pub Seat : Type 0
Seat = List ℕ

pub data Entry (R : Type 0) : Type 0 where
  -- a call on the forest, by its row
  row : Row R → Entry R
  -- a reply was told: the number of its image, and its page
  told : ℕ → ℕ → Entry R
  -- the reply at a place was heard, or none where none is there
  heard : ℕ → Entry R
  -- want of memory to tell a reply
  tell_failed : Entry R
  -- want of memory to hear the reply at a place
  hear_failed : ℕ → Entry R

-- the first entry comes first, each with the seat that made it
abbrev pub History : Type 0 → Type 0
History R = List (Seat × Entry R)

-- a machine that a seat took and has not handed back
pub record Holding (M : Type 0) : Type 0 where
  pub name : Path
  pub seat : Seat
  -- as the seat found it there
  pub found : M

-- what is on record of a world
pub record Record (M R : Type 0) : Type 0 where
  pub world : World M R
  -- the last taken first
  pub holdings : List (Holding M)
  -- the replies that were told: the number of each one's image, and its page
  pub told : List (ℕ × ℕ)

-- ---- who holds what

abbrev pub is_nothing_left : Option Path → Bool
is_nothing_left None = false
is_nothing_left (Some []) = true
is_nothing_left (Some (b ∷ rest)) = false

abbrev pub is_same_path : Path → Path → Bool
is_same_path a b = is_nothing_left (beyond a b)

-- the holding of this name, if it is held
unfoldable pub holding : {M : Type 0} → Path → List (Holding M) → Option (Holding M)
holding name [] = None
holding name (h ∷ rest) = if is_same_path h.name name then Some h else holding name rest

-- the holdings but those of this name
unfoldable pub without_name : {M : Type 0} → Path → List (Holding M) → List (Holding M)
without_name name [] = []
without_name name (h ∷ rest) = if is_same_path h.name name then without_name name rest else h ∷ without_name name rest

-- the seat holds the machine of this name
abbrev pub IsHeldBy : {M : Type 0} → Seat → Path → List (Holding M) → Type 0
IsHeldBy seat name held = IsSomeAnd (holding name held) (λ h. h.seat ≡ seat)

-- only who holds a machine hands it back
abbrev pub HandsBack : {M R : Type 0} → Seat → Row R → List (Holding M) → Type 0
HandsBack seat over held = Unit {0}
HandsBack seat (stopped r) held = Unit {0}
HandsBack seat stuck held = Unit {0}
HandsBack seat idle held = Unit {0}
HandsBack seat (took name) held = Unit {0}
HandsBack seat wake_failed held = Unit {0}
HandsBack seat (spent how name n) held = IsHeldBy seat name held
HandsBack seat (dropped name) held = IsHeldBy seat name held
HandsBack seat (kept name n) held = IsHeldBy seat name held
HandsBack seat (halted r) held = Unit {0}

-- the seat holds the machine that it took, as it stood in the tree
abbrev pub with_taken : {M : Type 0} → Seat → Path → Option (Tree (Box (Spot M))) → List (Holding M) → List (Holding M)
with_taken seat name None held = held
with_taken seat name (Some t) held = record { name = name; seat = seat; found = (machine t).machine.machine } ∷ held

abbrev pub holdings_after : {M R : Type 0} → Seat → Row R → World M R → List (Holding M) → List (Holding M)
holdings_after seat over w held = held
holdings_after seat (stopped r) w held = held
holdings_after seat stuck w held = held
holdings_after seat idle w held = held
holdings_after seat (took name) w held = with_taken seat name (subtree name w.tree) held
holdings_after seat wake_failed w held = held
holdings_after seat (spent how name n) w held = without_name name held
holdings_after seat (dropped name) w held = without_name name held
holdings_after seat (kept name n) w held = held
holdings_after seat (halted r) w held = held

-- ---- histories

-- what is on record of a world as it was made
abbrev pub record_of : {M R : Type 0} → World M R → Record M R
record_of w = record { world = w; holdings = []; told = [] }

module _ {M E : Type 0} (o : Operations M E) (k : Talks M) where
  -- where the seat may make the entry
  unfoldable pub Permits : {R : Type 0} → Seat → Entry R → Record M R → Type 0
  Permits seat (row x) r = Allows o k x r.world × HandsBack seat x r.holdings
  Permits seat (told image page) r = Unit {0}
  Permits seat (heard place) r = Unit {0}
  Permits seat tell_failed r = Unit {0}
  Permits seat (hear_failed place) r = place < length r.told

  -- what is on record after it
  unfoldable pub record_after : {R : Type 0} → Seat → Entry R → Record M R → Record M R
  record_after seat (row x) r = record r { world = does o k x r.world; holdings = holdings_after seat x r.world r.holdings }
  record_after seat (told image page) r = record r { told = r.told ++ (image, page) ∷ [] }
  record_after seat (heard place) r = r
  record_after seat tell_failed r = r
  record_after seat (hear_failed place) r = r

  -- what is on record after a history
  unfoldable pub replay : {R : Type 0} → History R → Record M R → Record M R
  replay [] r = r
  replay (e ∷ rest) r = replay rest (record_after e.0 e.1 r)

  -- each entry comes where it may, after those before it
  unfoldable pub IsLegal : {R : Type 0} → History R → Record M R → Type 0
  IsLegal [] r = Unit {0}
  IsLegal (e ∷ rest) r = Permits e.0 e.1 r × IsLegal rest (record_after e.0 e.1 r)

  -- it is legal from a world as it was made, and at the end of it the root has ended or the world is stuck
  pub record IsComplete {R : Type 0} (history : History R) (w : World M R) : Type 0 where
    pub legal : IsLegal history (record_of w)
    pub ends : Allows o k over (replay history (record_of w)).world ⊎ Allows o k stuck (replay history (record_of w)).world
