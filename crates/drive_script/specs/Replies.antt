-- The replies that are sent to the children of a ticket, and the pages of theirs that come. A page is told by its place.
use Rattle.std.specs.Prelude.{ℕ, ◌==◌, ◌&&◌, Bool, true, false, if◌then◌else◌, List, [], ◌∷◌, ◌++◌, length, slice_get, Option, Some, None}
use Rattle.cow_disk.specs.declared.arrived.Arrived.{Arrived}
use Rattle.cow_disk.specs.declared.arrived.Arrived.TheVariants.{Got, Had}
use Rattle.forest_tree.specs.Tree.{node, Branch, Path, at_path}
use Rattle.talking_history.specs.Histories.{is_same_path}
use Rattle.forest_model.specs.Paged.{Paged, pages_arrived}
use Rattle.drive_script.specs.Steps.{Family}
use Rattle.drive_script.specs.declared.answer.SentPlace.{SentPlace}

-- ---- to whom

-- the children of a ticket of the machine at a path. They have one image
pub record Siblings : Type 0 where
  pub parent : Path
  pub ticket : ℕ

abbrev pub siblings_below : Branch → Option Siblings → Option Siblings
siblings_below b None = Some (record { parent = []; ticket = b.ticket })
siblings_below b (Some s) = Some (record { parent = b ∷ s.parent; ticket = s.ticket })

-- those of the machine at a path. The root has none
unfoldable pub siblings_of : Path → Option Siblings
siblings_of [] = None
siblings_of (b ∷ rest) = siblings_below b (siblings_of rest)

abbrev pub are_same : Siblings → Siblings → Bool
are_same a b = is_same_path a.parent b.parent && a.ticket == b.ticket

-- ---- what is sent

-- the pages of the replies that were sent to each, from the first on
abbrev pub Replies : Type 0
Replies = Siblings → List ℕ

abbrev pub none_sent : Replies
none_sent to = []

-- a reply to siblings, if they are some and there is a page to be sent
abbrev pub reply_to : Option Siblings → Option ℕ → Option (Siblings × ℕ)
reply_to None page = None
reply_to (Some to) None = None
reply_to (Some to) (Some page) = Some (to, page)

-- it is the last that was sent to them
abbrev pub with_reply : Option (Siblings × ℕ) → Replies → Replies
with_reply None sent to = sent to
with_reply (Some reply) sent to = if are_same reply.0 to then sent to ++ reply.1 ∷ [] else sent to

-- and its place is behind the others, from 0
abbrev pub place_of : Option (Siblings × ℕ) → Replies → Option SentPlace
place_of None sent = None
place_of (Some reply) sent = Some (record { page = reply.1; place = length (sent reply.0) })

-- the page at a place
abbrev pub page_at : Option Siblings → ℕ → Replies → Option ℕ
page_at None place sent = None
page_at (Some to) place sent = slice_get (sent to) place

-- ---- what comes

-- what comes of a page, by whether it is here. There is nothing where the machine has no such page
abbrev pub arrived_by : Option Bool → ℕ → Option Arrived
arrived_by None page = None
arrived_by (Some true) page = Some (Had page)
arrived_by (Some false) page = Some (Got page)

-- the machine with a page that has come, and the tree whose machine has it
abbrev pub paged_with : ℕ → Paged → Paged
paged_with page p = record p { pages = pages_arrived page p.pages }

abbrev pub tree_with : ℕ → Family → Family
tree_with page (node b broods log) = node (record b { machine = paged_with page b.machine }) broods log

-- the forest after a page has come to the machine at a path, or was here
abbrev pub with_arrival : Path → Option Arrived → Family → Family
with_arrival path None t = t
with_arrival path (Some (Had page)) t = t
with_arrival path (Some (Got page)) t = at_path (tree_with page) path t
