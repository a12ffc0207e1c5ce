-- Who waited for whom among the children of a ticket.
use Rattle.std.specs.Prelude.{ℕ, List, slice_index_or, vec_capacity}
use Rattle.sibling_words.specs.declared.notes.Peers.{Peers}
use Rattle.sibling_words.specs.declared.notes.Peers.TheVariants.{Two, Many}
use Rattle.sibling_words.specs.declared.notes.SiblingNotes.{SiblingNotes}

-- the siblings by the number of the child that waited for them
abbrev pub peers_in : Peers → List ℕ
peers_in (Two peers) = peers
peers_in (Many peers) = peers.value.items

-- the sibling that a child last came to wait for, or 0 where it never did
abbrev pub noted : SiblingNotes → ℕ → ℕ
noted n who = slice_index_or (peers_in n.peers) who 0

abbrev pub room_in : Peers → ℕ
room_in (Two peers) = 2
room_in (Many peers) = vec_capacity peers.value

-- the numbers below this have room
abbrev pub room_of : SiblingNotes → ℕ
room_of n = room_in n.peers
