-- The other calls in a turn of a pass.
use Rattle.std.proofs.Common.{◌≡◌, ℕ, ◌<◌, [], ◌∷◌, ◌++◌, length, Option, Result, OnOk, OnErr, sym, ap, ◌∙◌, subst}
use Rattle.std.specs.declared.alloc.AllocError.{AllocError}
use Rattle.image_depot.specs.Key.{Shelves}
use Rattle.image_depot.specs.Reply.{Delivery, IsSentOf, sent_image, sent_page}
use Rattle.talking_history.specs.Rows.{Allows, halted, does}
use Rattle.talking_history.specs.Histories.{Entry, row}
use Rattle.forest_model.specs.Paged.{paged_machines, paged_talks}
use Rattle.world_core.specs.declared.reason.Reason.{Reason}
use Rattle.world_core.specs.declared.world.World.{World}
use Rattle.world_core.specs.declared.world.Taken.{Taken}
use Rattle.world_core.specs.Answers as core
use Rattle.world_core.specs.Answers.{Goes}
use Rattle.world_core.specs.Told.{told_of}
use Rattle.world_core.specs.World.{Forest, StandsFor}
use Rattle.fork_board.specs.declared.note.Note.{Note}
use Rattle.fork_board.specs.declared.note.TurnNote.TheVariants.{One}
use Rattle.fork_board.specs.Answers.{Takes}
use Rattle.fork_board.specs.Follows.{Follows, depot_of}
use Rattle.fork_board.specs.Notes.{entry_of, heard_entry, taken_entry, told_entry}
use Rattle.fork_board.specs.Passes.{Makes, PassValue}
use Rattle.fork_board.specs.Visits.{Passed, Visits}
use Rattle.fork_board.proofs.Worlds.{follows-row, follows-taken, takes}
use Rattle.fork_board.proofs.Delivered.{follows-heard, follows-told}
use Rattle.fork_board.proofs.Passing.{noted, sees-now}

-- the note is this entry, by which the world goes on
module _ (pass now : PassValue) (w : World) (v : Visits pass now w) (entry : Entry Reason) (n : Note) (is : entry_of n ≡ entry) (next : World)
    (on : Follows now.board.opening (now.seen ++ (now.number, entry) ∷ []) next) where
  pub goes-on : Follows now.board.opening (now.seen ++ (now.number, entry_of n) ∷ []) next
  goes-on = subst (λ e. Follows now.board.opening (now.seen ++ (now.number, e) ∷ []) next) (sym is) on

  pub made : (new : PassValue) → Passed now new (One n) → Makes pass new entry
  made new p = noted pass now new n entry (sees-now pass now w v) p is goes-on.legal

  pub seen-then : (new : PassValue) → Passed now new (One n) → new.seen ≡ now.seen ++ (now.number, entry) ∷ []
  seen-then new p = p.seen ∙ ap (λ e. now.seen ++ (now.number, e) ∷ []) is

module _ (pass now : PassValue) (w next : World) (depot : Shelves) (answer : Taken) (n : Note) (v : Visits pass now w)
    (here : depot_of now.board.opening ≡ depot) (is : entry_of n ≡ taken_entry answer)
    (answers : (f : Forest) → StandsFor depot w f → core.Takes depot f answer next) (told : told_of next ≡ told_of w) where
  answered : core.Takes (depot_of now.board.opening) v.follows.world.forest answer next
  answered =
      subst (λ d. core.Takes d v.follows.world.forest answer next) (sym here)
      (answers v.follows.world.forest (subst (λ d. StandsFor d w v.follows.world.forest) here v.follows.world.stands))

  on : Follows now.board.opening (now.seen ++ (now.number, taken_entry answer) ∷ []) next
  on = follows-taken now.board.opening now.seen now.number w next v.follows answer answered told

  pub followed : Follows now.board.opening (now.seen ++ (now.number, entry_of n) ∷ []) next
  followed = goes-on pass now w v (taken_entry answer) n is next on

  pub taken : (new : PassValue) → Passed now new (One n) → Makes pass new (taken_entry answer) × Takes new answer
  taken new p = (
    made pass now w v (taken_entry answer) n is next on new p,
    takes now new w next v.follows answer p.same_board p.same_number (seen-then pass now w v (taken_entry answer) n is next on new p) answered,
  )

-- a reason to stop
pub stopped-on : (pass now : PassValue) (w next : World) (v : Visits pass now w) (reason : Reason)
    → ((depot : Shelves) (f : Forest) → StandsFor depot w f → StandsFor depot next (does paged_machines paged_talks (halted reason) f)) → told_of next ≡ told_of w
    → Follows now.board.opening (now.seen ++ (now.number, row (halted reason)) ∷ []) next
unfolding Allows
stopped-on pass now w next v reason stands told =
    follows-row now.board.opening now.seen now.number (halted reason) v.follows.world.forest w next v.follows v.follows.world.family tt
    (goes (depot_of now.board.opening) v.follows.world.forest v.follows.world.stands) told
  where
    goes : (depot : Shelves) (f : Forest) → StandsFor depot w f → Goes depot f (halted reason) next
    goes depot f h = record { allowed = tt; after = stands depot f h }

-- a reply is told
pub told-on : (pass now : PassValue) (w next : World) (v : Visits pass now w) (sent : Delivery) (r : Result (Unit {0}) AllocError)
    → OnOk r (told_of next ≡ told_of w ++ sent ∷ []) → OnErr r (told_of next ≡ told_of w)
    → ((depot : Shelves) (f : Forest) → StandsFor depot w f → StandsFor depot next f) → IsSentOf (depot_of now.board.opening) sent
    → Follows now.board.opening (now.seen ++ (now.number, told_entry (sent_image sent) (sent_page sent) r) ∷ []) next
told-on pass now w next v sent r more same stays is =
    follows-told now.board.opening now.seen now.number sent r w next v.follows more same stays is

-- a reply is heard
pub heard-on : (pass now : PassValue) (w : World) (v : Visits pass now w) (place : ℕ) (r : Result (Option Delivery) AllocError)
    → OnErr r (place < length (told_of w)) → Follows now.board.opening (now.seen ++ (now.number, heard_entry place r) ∷ []) w
heard-on pass now w v place r beyond = follows-heard now.board.opening now.seen now.number place r w v.follows beyond
