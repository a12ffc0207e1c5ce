-- Machines that are ready, and what a queue of them makes of a list.
use Rattle.std.specs.Prelude.{◌≡◌, ◌⊎◌, ℕ, List, ◌∷◌, ◌++◌, Option, Some}
use Rattle.forest_tree.specs.Tree.{Path}

-- the machine of that name, or the children of one of its tickets, from one on
pub record Ready : Type 0 where
  pub name : Path
  pub children : Option (ℕ × ℕ)

-- these are children of that ticket of the machine of that name
abbrev pub IsOfTicket : Path → ℕ → Ready → Type 0
IsOfTicket name ticket turn = (first : ℕ) × (turn ≡ record { name = name; children = Some (ticket, first) })

-- the first is theirs
pub record Begins (name : Path) (ticket : ℕ) (turns : List Ready) : Type 0 where
  pub turn : Ready
  pub of : IsOfTicket name ticket turn
  pub rest : List Ready
  pub is : turns ≡ turn ∷ rest

-- the turn stood among the others, which stay in their order
pub record StoodAmong (turn : Ready) (turns others : List Ready) : Type 0 where
  pub before : List Ready
  pub after : List Ready
  pub was : turns ≡ before ++ turn ∷ after
  pub left : others ≡ before ++ after

-- the turn is one more, of all children of the ticket
abbrev pub IsOneMore : Path → ℕ → Ready → List Ready → List Ready → Type 0
IsOneMore name ticket turn turns others = (turn ≡ record { name = name; children = Some (ticket, 1) }) × (others ≡ turns)

-- a turn of theirs is the first then, and the others stay in their order
pub record Raises (name : Path) (ticket : ℕ) (old new : List Ready) : Type 0 where
  pub turn : Ready
  pub of : IsOfTicket name ticket turn
  pub others : List Ready
  pub first : new ≡ turn ∷ others
  pub from : StoodAmong turn old others ⊎ IsOneMore name ticket turn old others
