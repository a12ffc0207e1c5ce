-- The rule of a turn lock. Word 0, TICKET, counts the numbers drawn, and word 1, SERVING, the turns passed. The slot holds the value.
use Rattle.std.specs.Prelude.{◌≡◌, ◌≢◌, ℕ, ◌+◌, ◌<◌, ◌≤◌, ◌⊎◌, List, [], ◌∷◌, ◌++◌, length, Bool, true, false, Option, Some, None}
use mathlib.Core.Option.{some}
use lib.ListN.{get_elem?}
use Rattle.atomic_table.specs.Table.{State}
use Rattle.std.specs.declared.snapshot.Snapshot.{Snapshot}
use Rattle.turn_board.specs.declared.view.Content.{Content}
use Rattle.turn_board.specs.declared.view.View.{View}
use Rattle.turn_board.specs.Seats.{has_seat, next_seat, room}
use Rattle.turn_board.specs.History.{History, entries_by, StartsWith}

abbrev pub content : {T N : Type 0} → Option T → Option (Snapshot N) → Content T N
content value note = record { value = value; note = note }

-- f of each, added up
abbrev pub total : {V : Type 0} → (V → ℕ) → List V → ℕ
total f [] = 0
total f (v ∷ vs) = f v + total f vs

-- n where there is something, else 0
abbrev pub count_if : {A : Type 0} → Option A → ℕ → ℕ
count_if None n = 0
count_if (Some a) n = n

-- it was not joined to another
abbrev pub IsLive : {A : Type 0} → Option A → Type 0
IsLive {A} about = (a : A) × (about ≡ Some a)

-- a seat's number is one of those made, and none of those that may yet be split off from it
pub record IsNamed {A : Type 0} (key : A) (made : List (List ℕ)) (about : Option A) (seat : List ℕ) (splits : ℕ) : Type 0 where
  pub about_is : (a : A) → about ≡ Some a → a ≡ key
  pub depth : length seat ≤ 3
  pub few : splits ≤ 65535
  pub made_is : IsLive about → has_seat made seat ≡ true
  pub unmade : IsLive about → (k : ℕ) → splits ≤ k → has_seat made (seat ++ k ∷ []) ≡ false

-- a seat that has ended after so many splits: of it what was seen has all entries, and no more are split off from it
pub record IsOver {N : Type 0} (log : History N) (made gone : List (List ℕ)) (seat : List ℕ) (splits : ℕ) (seen : History N) : Type 0 where
  pub is_gone : has_seat gone seat ≡ true
  pub all : entries_by seat log ≡ entries_by seat seen
  pub unmade : (k : ℕ) → splits ≤ k → has_seat made (seat ++ k ∷ []) ≡ false

-- so have those that would have given these numbers next
abbrev pub HasAll : {N : Type 0} → History N → List (List ℕ) → List (List ℕ) → List (List ℕ) → History N → Type 0
HasAll log made gone ended seen = (s : List ℕ) (splits : ℕ) → has_seat ended (next_seat s splits) ≡ true → IsOver log made gone s splits seen

module _ {A N : Type 0} where
  -- how many seats may yet come of it, itself among them; of a spent one none
  abbrev pub room_of : View A N → ℕ
  room_of v = count_if v.about (room (length v.seat) v.splits)

  -- the count of the numbers that it has drawn and not passed
  abbrev pub drawn_of : View A N → ℕ
  drawn_of v = count_if v.number 1

  -- the first seat
  abbrev pub newcomer : A → View A N
  newcomer about = record {
    about = Some about;
    seat = [];
    splits = 0;
    seen = [];
    mine = [];
    ended = [];
    told = [];
    told_ended = [];
    number = None;
    served = false;
  }

  -- a seat from which one more was split off
  abbrev pub parent : View A N → View A N
  parent v = record v { splits = v.splits + 1 }

  -- the seat that is split off: it has seen as much, and has made no entry
  abbrev pub child : View A N → View A N
  child v = record {
    about = v.about;
    seat = v.seat ++ v.splits ∷ [];
    splits = 0;
    seen = v.seen;
    mine = [];
    ended = [];
    told = [];
    told_ended = [];
    number = None;
    served = false;
  }

  -- the first seat, told what the second had seen, which ends
  abbrev pub informed : View A N → View A N → View A N
  informed v w = record v { told = w.seen; told_ended = next_seat w.seat w.splits ∷ w.ended }

  -- what is left of a seat that was joined to another
  abbrev pub spent : View A N
  spent = record { about = None; seat = []; splits = 0; seen = []; mine = []; ended = []; told = []; told_ended = []; number = None; served = false }

  -- what a seat has seen is a prefix of the history, which has of its number just the entries that it made
  pub record HasSeen (log : History N) (about : Option A) (seat : List ℕ) (seen told mine : History N) : Type 0 where
    pub seen_is : StartsWith log seen
    pub told_is : StartsWith log told
    pub mine_is : IsLive about → entries_by seat log ≡ mine
    pub own_is : IsLive about → entries_by seat seen ≡ mine

  -- a number that is drawn and not passed is at least SERVING and below TICKET, and only that of SERVING is served
  pub record HasDrawn (log : History N) (ticket : ℕ) (about : Option A) (number : Option ℕ) (served : Bool) (seen : History N) : Type 0 where
    pub number_is : (n : ℕ) → number ≡ Some n → IsLive about × (length log ≤ n) × (n < ticket)
    pub served_is : served ≡ true → (number ≡ Some (length log)) × (seen ≡ log) × (length log < 9223372036854775808)

  -- a seat that lives has not ended
  pub record Outlives (log : History N) (made gone : List (List ℕ)) (about : Option A) (seat : List ℕ) (ended told_ended : List (List ℕ))
      (seen told : History N) : Type 0 where
    pub here : IsLive about → has_seat gone seat ≡ false
    pub ended_is : HasAll log made gone ended seen
    pub told_is : HasAll log made gone told_ended told

  -- what the lock keeps true of one seat
  pub record Fits (key : A) (log : History N) (made gone : List (List ℕ)) (ticket : ℕ) (v : View A N) : Type 0 where
    pub named : IsNamed key made v.about v.seat v.splits
    pub sees : HasSeen log v.about v.seat v.seen v.told v.mine
    pub draws : HasDrawn log ticket v.about v.number v.served v.seen
    pub outlives : Outlives log made gone v.about v.seat v.ended v.told_ended v.seen v.told

  -- two seats have drawn two numbers, and have two numbers of their own
  abbrev pub Unlike : View A N → View A N → Type 0
  Unlike v w = ((n : ℕ) → v.number ≡ Some n → w.number ≢ Some n) × (IsLive v.about → IsLive w.about → v.seat ≢ w.seat)

  module _ {T : Type 0} where
    -- the value is in the slot and stands for the history, or the slot is out with a seat whose turn has come, which alone moves it
    abbrev pub Home : (A → History N → T → Type 0) → A → History N → State (Content T N) (View A N) → Type 0
    Home stands about log s =
        ((x : T) × (note : Option (Snapshot N)) × (get_elem? s.homes 0 ≡ some (some (content (Some x) note))) × stands about log x)
        ⊎ ((id : ℕ) × (v : View A N) × (get_elem? s.views id ≡ some v) × (v.served ≡ true))

    pub record Turning (stands : A → History N → T → Type 0) (about : A) (s : State (Content T N) (View A N)) : Type 0 where
      -- the history
      pub log : History N
      -- the numbers of the seats that were made
      pub made : List (List ℕ)
      -- those of the seats that were joined to others
      pub gone : List (List ℕ)
      -- how many numbers were drawn
      pub ticket : ℕ
      -- SERVING is how many entries the history has
      pub words_are : s.words ≡ ticket ∷ length log ∷ []
      -- SERVING and the count of the numbers drawn and not passed make TICKET
      pub count : ticket ≡ length log + total drawn_of s.views
      -- no more seats live than had room in the first, so neither word wraps
      pub seats : total room_of s.views ≤ 281474976710656
      pub bound : length log ≤ 9223372036854775808
      pub fits : (id : ℕ) (v : View A N) → get_elem? s.views id ≡ some v → Fits about log made gone ticket v
      pub apart : (i j : ℕ) (v w : View A N) → i ≢ j → get_elem? s.views i ≡ some v → get_elem? s.views j ≡ some w → Unlike v w
      -- who split a seat off was made before it
      pub rooted : (seat : List ℕ) (k : ℕ) → has_seat made (seat ++ k ∷ []) ≡ true → has_seat made seat ≡ true
      pub gone_made : (seat : List ℕ) → has_seat gone seat ≡ true → has_seat made seat ≡ true
      -- the history has no entry of a seat that is not made
      pub fresh : (seat : List ℕ) → has_seat made seat ≡ false → entries_by seat log ≡ []
      pub home : Home stands about log s
