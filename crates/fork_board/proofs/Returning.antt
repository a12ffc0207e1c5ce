-- A lease that comes back in a turn of its pass.
use Rattle.std.proofs.Common.{◌≡◌, ℕ, [], ◌∷◌, ◌++◌, Some, sym, ap, ap₂, ◌∙◌, subst}
use Rattle.image_depot.specs.Key.{Shelves}
use Rattle.forest_tree.specs.Tree.{Path}
use Rattle.talking_history.specs.Rows.{How, spent}
use Rattle.talking_history.specs.Histories.{Holding, holding, Entry, row}
use Rattle.forest_model.specs.Machine.{Machine}
use Rattle.world_core.specs.declared.reason.Reason.{Reason}
use Rattle.world_core.specs.declared.world.World.{World}
use Rattle.world_core.specs.declared.world.Placed.{Placed}
use Rattle.world_core.specs.Answers.{Answers, HandedOutIn, IsLentOf}
use Rattle.world_core.specs.Answers.{IsOutSince}
use Rattle.world_core.specs.Arrived.{StillHandedOut}
use Rattle.world_core.specs.Lent.{IsSameLease, Lent}
use Rattle.world_core.specs.Told.{told_of}
use Rattle.world_core.specs.World.{Forest, StandsFor}
use Rattle.fork_board.specs.declared.note.Note.{Note}
use Rattle.fork_board.specs.declared.note.TurnNote.TheVariants.{One}
use Rattle.fork_board.specs.Answers.{Places}
use Rattle.fork_board.specs.Follows.{Follows, depot_of}
use Rattle.fork_board.specs.Notes.{entry_of, placed_entry}
use Rattle.fork_board.specs.Passes.{IsHeld, Makes, PassValue, seen_record}
use Rattle.fork_board.specs.Visits.{Passed, Visits}
use Rattle.fork_board.proofs.Worlds.{IsHeldAt, IsLentOut, follows-placed, lent-out, places}
use Rattle.fork_board.proofs.Passing.{held-now, noted, sees-now}

-- what `Lease::ran` says of a lease
abbrev pub HasLedThere : Lent → Type 0
HasLedThere lease = (depot : Shelves) (w : World) (f : Forest) → StandsFor depot w f → IsOutSince f lease → StillHandedOut depot w f lease

-- the lease has run, or pages have come to it
pub held-same : (pass : PassValue) (old new : Lent) → IsSameLease old new → IsHeld pass old → IsHeld pass new
held-same pass old new same held =
    ap (λ n. holding n (seen_record pass).holdings) same.name ∙ held
    ∙ ap₂ (λ n (m : Machine). let was : Holding Machine = record { name = n; seat = pass.number; found = m } in Some was) (sym same.name) (sym same.start)

-- a lease that comes back in a turn of the pass that holds it
pub record Comes (pass now : PassValue) (w : World) (lease : Lent) : Type 0 where
  pub visits : Visits pass now w
  pub held : IsHeldAt now.board.opening now.seen now.number lease
  pub out : IsLentOut now.board.opening now.seen w lease
  pub of_depot : IsLentOf (depot_of now.board.opening) lease

pub comes : (pass now : PassValue) (w : World) (lease : Lent) → Visits pass now w → IsHeld pass lease → HasLedThere lease
    → IsLentOf (depot_of now.board.opening) lease → Comes pass now w lease
comes pass now w lease v held led of_depot =
    let here = held-now pass now lease (sees-now pass now w v) held in
    record {
      visits = v;
      held = here;
      out = lent-out now.board.opening now.seen w lease now.number v.follows here led;
      of_depot = of_depot;
    }

module _ (pass now : PassValue) (w : World) (lease : Lent) (h : Comes pass now w lease) where
  pub handed-in : HandedOutIn (depot_of now.board.opening) w lease
  handed-in = (h.out.forest, h.out.stands, h.out.handed, h.of_depot)

  -- the note of the answer
  note-is : (how : How) (answer : Placed) (name : Path) (ran : ℕ) (done note : Entry Reason) → name ≡ lease.name → ran ≡ lease.ran
      → done ≡ row (spent how lease.name lease.ran)
      → ((kind : How) → done ≡ row (spent kind name ran) → note ≡ placed_entry kind name ran answer) → note ≡ placed_entry how lease.name lease.ran answer
  note-is how answer name ran done note same steps is chosen =
      chosen how (is ∙ sym (ap₂ (λ n k. row (spent how n k)) same steps)) ∙ ap₂ (λ n k. placed_entry how n k answer) same steps

  module _ (how : How) (answer : Placed) (next : World) (name : Path) (ran : ℕ) (done note : Note) (same : name ≡ lease.name) (steps : ran ≡ lease.ran)
      (is : entry_of done ≡ row (spent how lease.name lease.ran))
      (chosen : (kind : How) → entry_of done ≡ row (spent kind name ran) → entry_of note ≡ placed_entry kind name ran answer)
      (a : Answers (depot_of now.board.opening) h.out.forest how lease answer next) (told : told_of next ≡ told_of w) where
    noted_as : entry_of note ≡ placed_entry how lease.name lease.ran answer
    noted_as = note-is how answer name ran (entry_of done) (entry_of note) same steps is chosen

    pub follows-back : Follows now.board.opening (now.seen ++ (now.number, entry_of note) ∷ []) next
    follows-back =
        subst (λ e. Follows now.board.opening (now.seen ++ (now.number, e) ∷ []) next) (sym noted_as)
        (follows-placed now.board.opening now.seen w lease now.number h.visits.follows how h.out answer next h.held a told)

    pub returned : (new : PassValue) → Passed now new (One note)
        → Makes pass new (placed_entry how lease.name lease.ran answer) × Places how lease new answer
    returned new p = (
      noted pass now new note (placed_entry how lease.name lease.ran answer) (sees-now pass now w h.visits) p noted_as follows-back.legal,
      places how lease (depot_of now.board.opening) h.out.forest now new answer next h.held p.same_board p.same_number
          (p.seen ∙ ap (λ e. now.seen ++ (now.number, e) ∷ []) noted_as) a,
    )
