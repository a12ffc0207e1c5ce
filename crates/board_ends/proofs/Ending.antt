-- How a worker's work ends.
use Rattle.std.proofs.Common.{◌≡◌, inl, inr, [], ◌∷◌, ◌++◌, Some, None, refl, sym, true, ap, ap₂, ◌∙◌, subst}
use Rattle.forest_tree.specs.Step.{has_ended}
use Rattle.forest_tree.specs.Tree.{Path}
use Rattle.sibling_forest.specs.Finish.{rests}
use Rattle.talking_history.specs.Places.{bare, boxes}
use Rattle.talking_history.specs.World as history
use Rattle.talking_history.specs.World.{IsWhole}
use Rattle.talking_history.specs.Rows.{Row, over, stopped, stuck, took, Allows, NoneReady, does}
use Rattle.talking_history.specs.Histories.{Seat, Entry, row, History, IsLegal, Permits, Record, record_after}
use Rattle.talking_history.proofs.Histories.{legal-apart, replay-append}
use Rattle.talking_history.proofs.Stuck.{stuck-rests}
use Rattle.talking_history.proofs.Stays.{stuck-record}
use Rattle.forest_model.specs.Forest.{machines, talks}
use Rattle.forest_model.specs.Machine.{Machine}
use Rattle.world_core.specs.declared.reason.Reason.{Reason}
use Rattle.fork_board.specs.Follows.{opening_record, record_at}
use Rattle.fork_board.specs.declared.note.Opening.{Opening}
use Rattle.fork_board.specs.Passes.{BoardValue, Makes, PassValue, seen_record}
use Rattle.fork_board.proofs.Records.{record-more}
use Rattle.board_ends.specs.Finishes.{Finishes, HasStuck, IsAtEnd, IsStopped, WorkedAll, is_at_rest, stopped_for}
use Rattle.board_ends.specs.declared.finish.Finish.{Finish}
use Rattle.board_ends.specs.declared.finish.Finish.TheVariants.{Over, Stopped, Stuck}
use Rattle.board_ends.proofs.Stops.{going-unstopped}

abbrev Family : Type 0
Family = history.World Machine Reason

permits-last : (opening : Opening) (log : History Reason) (seat : Seat) (entry : Entry Reason)
    → IsLegal machines talks (log ++ (seat, entry) ∷ []) (opening_record opening) → Permits machines talks seat entry (record_at opening log)
unfolding IsLegal
permits-last opening log seat entry legal = (legal-apart machines talks log ((seat, entry) ∷ []) (opening_record opening) legal).1.0

row-world : (seat : Seat) (x : Row Reason) (r : Record Machine Reason) → (record_after machines talks seat (row x) r).world ≡ does machines talks x r.world
unfolding record_after
row-world seat x r = refl

row-allowed : (seat : Seat) (x : Row Reason) (r : Record Machine Reason) → Permits machines talks seat (row x) r → Allows machines talks x r.world
unfolding Permits
row-allowed seat x r h = h.0

-- the last entry is a row, which came where it may
module _ (old new : PassValue) (x : Row Reason) (m : Makes old new (row x)) where
  goes : (seen_record new).world ≡ does machines talks x (record_at old.board.opening (old.seen ++ m.between)).world
  goes =
      ap (λ (r : Record Machine Reason). r.world)
      (ap₂ (λ (b : BoardValue) (l : History Reason). record_at b.opening l) m.same_board m.seen ∙ record-more old.board.opening (old.seen ++ m.between) old.number (row x))
      ∙ row-world old.number x (record_at old.board.opening (old.seen ++ m.between))

  may : Allows machines talks x (record_at old.board.opening (old.seen ++ m.between)).world
  may =
      row-allowed old.number x (record_at old.board.opening (old.seen ++ m.between))
      (permits-last old.board.opening (old.seen ++ m.between) old.number (row x)
      (subst (λ l. IsLegal machines talks l (opening_record old.board.opening)) m.seen m.legal))

pub ends-over : (old new : PassValue) → Makes old new (row over) → Finishes new Over
unfolding Allows does
ends-over old new m = ap (λ (f : Family). has_ended (boxes machines talks) f.tree) (goes old new over m) ∙ may old new over m

pub ends-stopped : (old new : PassValue) (r : Reason) → Makes old new (row (stopped r)) → Finishes new (Stopped r)
unfolding Allows does
ends-stopped old new r m = (
  ap (λ (f : Family). has_ended (boxes machines talks) f.tree) (goes old new (stopped r) m) ∙ (may old new (stopped r) m).0,
  ap (λ (f : Family). f.halted) (goes old new (stopped r) m) ∙ (may old new (stopped r) m).1,
)

-- the pass's last entry tells that the world is stuck
pub ends-stuck : (old new : PassValue) → Makes old new (row stuck) → Finishes new Stuck
unfolding Allows does
ends-stuck old new m =
    let found : HasStuck new.seen = record { before = old.seen ++ m.between; seat = old.number; later = []; entry = m.seen } in
    record {
      lives = ap (λ (f : Family). has_ended (boxes machines talks) f.tree) (goes old new stuck m) ∙ (may old new stuck m).0.0;
      going = ap (λ (f : Family). f.halted) (goes old new stuck m) ∙ (may old new stuck m).0.1;
      found = found;
    }

-- after the history no machine makes a step any more: none is ready, and none on lease
pub record StuckThere (opening : Opening) (log : History Reason) : Type 0 where
  pub none : NoneReady machines talks (record_at opening log).world.tree
  pub whole : IsWhole (record_at opening log).world.tree
  pub resting : rests machines talks (bare (record_at opening log).world.tree) ≡ true

-- so it is where an entry tells that the world is stuck
pub stuck-there : (opening : Opening) (log : History Reason) → IsLegal machines talks log (opening_record opening) → HasStuck log → StuckThere opening log
unfolding IsLegal Permits Allows
stuck-there opening log legal s =
    let first = opening_record opening in
    let here : Record Machine Reason = record_at opening s.before in
    let more : History Reason = (s.seat, row stuck) ∷ s.later in
    let then : IsLegal machines talks more here = (legal-apart machines talks s.before more first (subst (λ l. IsLegal machines talks l first) s.entry legal)).1 in
    let may : Allows machines talks stuck here.world = then.0.0 in
    let same : (record_at opening log).world.tree ≡ here.world.tree =
    ap (λ l. (record_at opening l).world.tree) s.entry
    ∙ ap (λ (r : Record Machine Reason). r.world.tree) (replay-append machines talks s.before more first)
    ∙ stuck-record machines talks more here may then in
    record {
      none = subst (NoneReady machines talks) (sym same) may.1;
      whole = subst IsWhole (sym same) may.2;
      resting = ap (λ t. rests machines talks (bare t)) same ∙ stuck-rests machines talks here.world may;
    }

-- so has a pass that has seen one
pub stuck-at-rest : (old new : PassValue) → WorkedAll old new → Finishes new Stuck → is_at_rest new ≡ true
stuck-at-rest old new w is =
    (stuck-there new.board.opening new.seen
    (subst (λ (b : BoardValue). IsLegal machines talks new.seen (opening_record b.opening)) (sym w.same_board) w.legal) is.found).resting

-- an end for no reason is that of the family
pub at-its-end : (pass : PassValue) (finish : Finish) → Finishes pass finish → stopped_for finish ≡ None → IsAtEnd pass
at-its-end pass Over end none = inl end
at-its-end pass (Stopped r) end none = absurd (cc)
at-its-end pass Stuck end none = inr end

pub is-stopped : (finish : Finish) (r : Reason) → stopped_for finish ≡ Some r → finish ≡ Stopped r
is-stopped Over r e = absurd (cc)
is-stopped (Stopped s) r e = cc
is-stopped Stuck r e = absurd (cc)

-- no machine is taken out of a world that was stopped
pub taken-going : (old new : PassValue) (name : Path) → Makes old new (row (took name)) → IsStopped new → ⊥
unfolding Allows does
taken-going old new name m =
    going-unstopped new (ap (λ (f : Family). f.halted) (goes old new (took name) m) ∙ (may old new (took name) m).0.1)
