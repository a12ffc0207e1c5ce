-- The world under the lock follows a history.
use Rattle.std.specs.Prelude.{◌≡◌, ℕ, map}
use Rattle.image_depot.specs.Key.{Shelves}
use Rattle.image_depot.specs.Reply.{Delivery, sent_image, sent_page}
use Rattle.forest_tree.specs.Sound.{IsSound}
use Rattle.talking_history.specs.Places.{boxes}
use Rattle.talking_history.specs.World.{world_of}
use Rattle.talking_history.specs.World as history
use Rattle.talking_history.specs.Seen.{seen}
use Rattle.talking_history.specs.Histories.{Record, History, IsLegal, record_of, replay}
use Rattle.forest_model.specs.Machine.{Machine}
use Rattle.forest_model.specs.Forest.{machines, talks}
use Rattle.forest_model.specs.Paged.{Paged}
use Rattle.world_core.specs.declared.reason.Reason.{Reason}
use Rattle.world_core.specs.declared.world.World.{World}
use Rattle.world_core.specs.Told.{AreKept, told_of}
use Rattle.world_core.specs.World.{Forest, StandsFor}
use Rattle.fork_board.specs.declared.note.Opening.{Opening}

abbrev pub depot_of : Opening → Shelves
depot_of opening = opening.depot.value

-- the machines of a forest at their places, with the words to them, whatever is known of their pages
abbrev pub family_of : Forest → history.World Machine Reason
family_of f = seen (λ (p : Paged). p.machine) f

-- the family of one machine, of which nothing was told
abbrev pub opening_record : Opening → Record Machine Reason
opening_record opening = record_of (world_of machines talks opening.first.value.machine)

-- what is on record after a history of the board
abbrev pub record_at : Opening → History Reason → Record Machine Reason
record_at opening log = replay machines talks log (opening_record opening)

-- the number of the image of a reply, and its page
abbrev pub pair_of : Delivery → ℕ × ℕ
pair_of sent = (sent_image sent, sent_page sent)

-- the world stands for what is on record
pub record IsWorldOf (depot : Shelves) (r : Record Machine Reason) (w : World) : Type 0 where
  pub forest : Forest
  pub stands : StandsFor depot w forest
  pub family : family_of forest ≡ r.world
  pub replies : map pair_of (told_of w) ≡ r.told
  pub kept : AreKept depot w

-- the history is legal, and the world stands for what it leads to
pub record Follows (opening : Opening) (log : History Reason) (w : World) : Type 0 where
  pub start : IsSound (boxes machines talks) (opening_record opening).world.tree
  pub legal : IsLegal machines talks log (opening_record opening)
  pub world : IsWorldOf (depot_of opening) (record_at opening log) w
