-- A root that has ended stays so, whatever comes after.
use Rattle.std.proofs.Common.{◌≡◌, true, true≢false, [], ◌∷◌, ◌++◌, List, replicate, Option, Some, None, is_some, refl, sym, ap, ap₂, ◌∙◌, subst}
use Rattle.forest_tree.specs.Operations.{Operations}
use Rattle.forest_tree.specs.Tree.{Tree, node, Path, at_path}
use Rattle.forest_tree.specs.Step.{has_ended, step, step_from}
use Rattle.sibling_forest.specs.Talk.{Talks, Box, boxed}
use Rattle.sibling_forest.specs.Settle.{settle, settle_all}
use Rattle.talking_history.specs.Places.{Place, Spot, spots, boxes, placed, spot_talks}
use Rattle.talking_history.specs.Histories.{Seat, Entry, row, told, heard, tell_failed, hear_failed, History, IsLegal, Permits, Record, record_after, replay}
use Rattle.talking_history.specs.World.{World}
use Rattle.talking_history.specs.Rows.{Row, over, stopped, stuck, idle, took, wake_failed, spent, dropped, kept, halted, Allows, back, does, made, run_at}
use Rattle.talking_history.proofs.Histories.{legal-apart, replay-append}
use Rattle.forest_model.specs.Forest.{machines, talks}
use Rattle.forest_model.specs.Machine.{Machine}
use Rattle.world_core.specs.declared.reason.Reason.{Reason}
use Rattle.fork_board.specs.Follows.{opening_record, record_at}
use Rattle.fork_board.specs.declared.note.Opening.{Opening}
use Rattle.fork_board.specs.Passes.{BoardValue, PassValue}
use Rattle.board_ends.specs.Finishes.{is_over}

-- a step of any machine leaves a root that has ended as it is
module _ {M E : Type 0} (o : Operations M E) (k : Talks M) where
  root-stays : (t : Tree (Box M)) → has_ended (boxed o k) t ≡ true → step (boxed o k) t ≡ t
  unfolding step
  root-stays (node b broods log) has = by ((boxed o k).ending b) has
    where
      by : (e : Option E) → is_some e ≡ true → step_from (boxed o k) e b broods log ≡ node b broods log
      by None h = absurd (cc)
      by (Some ending) h = refl

  ended-step : (path : Path) (t : Tree (Box M)) → has_ended (boxed o k) t ≡ true → has_ended (boxed o k) (settle o k path t) ≡ true
  unfolding settle
  ended-step [] t has = ap (has_ended (boxed o k)) (root-stays t has) ∙ has
  ended-step (b ∷ []) (node x broods log) has = has
  ended-step (b ∷ (c ∷ path)) (node x broods log) has = has

  ended-steps : (paths : List Path) (t : Tree (Box M)) → has_ended (boxed o k) t ≡ true → has_ended (boxed o k) (settle_all o k paths t) ≡ true
  unfolding settle_all
  ended-steps [] t has = has
  ended-steps (path ∷ rest) t has = ended-steps rest (settle o k path t) (ended-step path t has)

module _ {M E : Type 0} (o : Operations M E) (k : Talks M) where
  -- so does a change of places
  ended-placed : (place : Place) (name : Path) (t : Tree (Box (Spot M))) → has_ended (boxes o k) t ≡ true
      → has_ended (boxes o k) (at_path (placed place) name t) ≡ true
  unfolding at_path boxed spots
  ended-placed place [] (node b broods log) has = has
  ended-placed place (b ∷ path) (node x broods log) has = has

  ended-row : {R : Type 0} (x : Row R) (w : World M R) → Allows o k x w → has_ended (boxes o k) w.tree ≡ true
      → has_ended (boxes o k) (does o k x w).tree ≡ true
  unfolding Allows does
  ended-row over w may has = has
  ended-row (stopped r) w may has = has
  ended-row stuck w may has = has
  ended-row idle w may has = has
  ended-row (took name) w may has = absurd (true≢false (sym has ∙ may.0.0))
  ended-row wake_failed w may has = has
  ended-row (spent how name n) w may has =
      ended-placed (back how) name (run_at o k name (made how n) w.tree)
      (ended-steps (spots o) (spot_talks k) (replicate (made how n) name) w.tree has)
  ended-row (dropped name) w may has = has
  ended-row (kept name n) w may has = has
  ended-row (halted r) w may has = has

  ended-entry : {R : Type 0} (seat : Seat) (e : Entry R) (r : Record M R) → Permits o k seat e r → has_ended (boxes o k) r.world.tree ≡ true
      → has_ended (boxes o k) (record_after o k seat e r).world.tree ≡ true
  unfolding Permits record_after
  ended-entry seat (row x) r may has = ended-row x r.world may.0 has
  ended-entry seat (told image page) r may has = has
  ended-entry seat (heard place) r may has = has
  ended-entry seat tell_failed r may has = has
  ended-entry seat (hear_failed place) r may has = has

  pub ended-stays : {R : Type 0} (log : History R) (r : Record M R) → IsLegal o k log r → has_ended (boxes o k) r.world.tree ≡ true
      → has_ended (boxes o k) (replay o k log r).world.tree ≡ true
  unfolding IsLegal replay
  ended-stays [] r legal has = has
  ended-stays (e ∷ rest) r legal has = ended-stays rest (record_after o k e.0 e.1 r) legal.1 (ended-entry e.0 e.1 r legal.0 has)

over-more : (opening : Opening) (log more : History Reason) → IsLegal machines talks (log ++ more) (opening_record opening)
    → has_ended (boxes machines talks) (record_at opening log).world.tree ≡ true
    → has_ended (boxes machines talks) (record_at opening (log ++ more)).world.tree ≡ true
over-more opening log more legal has =
    ap (λ (r : Record Machine Reason). has_ended (boxes machines talks) r.world.tree) (replay-append machines talks log more (opening_record opening))
    ∙ ended-stays machines talks more (record_at opening log) (legal-apart machines talks log more (opening_record opening) legal).1 has

-- a pass that has seen more
pub over-later : (old new : PassValue) (more : History Reason) → new.board ≡ old.board → new.seen ≡ old.seen ++ more
    → IsLegal machines talks new.seen (opening_record old.board.opening) → is_over old ≡ true → is_over new ≡ true
over-later old new more board seen legal has =
    ap₂ (λ (b : BoardValue) (l : History Reason). has_ended (boxes machines talks) (record_at b.opening l).world.tree) board seen
    ∙ over-more old.board.opening old.seen more (subst (λ l. IsLegal machines talks l (opening_record old.board.opening)) seen legal) has

-- a pass that has seen as much
pub over-same : (old new : PassValue) → new.board ≡ old.board → new.seen ≡ old.seen → is_over new ≡ is_over old
over-same old new board seen =
    ap₂ (λ (b : BoardValue) (l : History Reason). has_ended (boxes machines talks) (record_at b.opening l).world.tree) board seen
