-- Once no machine is ready and none is out, no entry changes the tree any more.
use Rattle.std.proofs.Common.{◌≡◌, ℕ, Bool, true, false, refl, sym, ap, ◌∙◌, subst, [], ◌∷◌, Option, Some, None}
use Rattle.forest_tree.specs.Operations.{Operations}
use Rattle.forest_tree.specs.Tree.{Tree, Path, subtree}
use Rattle.sibling_forest.specs.Talk.{Talks, Box}
use Rattle.talking_history.specs.Places.{Spot}
use Rattle.talking_history.specs.World.{is_out_at, World, holds, place_of, IsWhole, is_resting}
use Rattle.talking_history.specs.Histories.{Seat, Entry, row, told, heard, tell_failed, hear_failed, History, Record, Permits, record_after, replay, IsLegal}
use Rattle.talking_history.specs.Rows.{How, Row, over, stopped, stuck, idle, took, wake_failed, spent, dropped, kept, halted, run_at, Spends, IfThere, NoneReady, Allows, does}

module _ {M E : Type 0} (o : Operations M E) (k : Talks M) where
  abbrev is_away : Tree (Box (Spot M)) → Bool
  is_away a = is_out_at (place_of a)

  -- nobody is out who could come back
  none-comes : (how : How) (name : Path) (n : ℕ) (t : Tree (Box (Spot M))) → IsWhole t → (c : Option (Tree (Box (Spot M)))) → subtree name t ≡ c
      → IfThere (Spends o k how n (is_resting o k name (run_at o k name n t))) c → ⊥
  none-comes how name n t whole None e h = h
  none-comes how name n t whole (Some a) e h =
      let no : false ≡ true = sym (whole name) ∙ ap (holds is_away) e ∙ ap is_out_at h.ran.is_out in cc

  stuck-row : {R : Type 0} (x : Row R) (w : World M R) → NoneReady o k w.tree → IsWhole w.tree → Allows o k x w → (does o k x w).tree ≡ w.tree
  unfolding Allows does
  stuck-row over w none whole h = refl
  stuck-row (stopped r) w none whole h = refl
  stuck-row stuck w none whole h = refl
  stuck-row idle w none whole h = refl
  stuck-row (took name) w none whole h = let no : false ≡ true = sym (none name) ∙ h.1 in absurd (cc)
  stuck-row wake_failed w none whole h = refl
  stuck-row (spent how name n) w none whole h = absurd (none-comes how name n w.tree whole (subtree name w.tree) refl h)
  stuck-row (dropped name) w none whole h = refl
  stuck-row (kept name n) w none whole h = refl
  stuck-row (halted r) w none whole h = refl

  stuck-entry : {R : Type 0} (seat : Seat) (entry : Entry R) (r : Record M R) → NoneReady o k r.world.tree → IsWhole r.world.tree
      → Permits o k seat entry r → (record_after o k seat entry r).world.tree ≡ r.world.tree
  unfolding Permits record_after
  stuck-entry seat (row x) r none whole may = stuck-row x r.world none whole may.0
  stuck-entry seat (told image page) r none whole may = refl
  stuck-entry seat (heard place) r none whole may = refl
  stuck-entry seat tell_failed r none whole may = refl
  stuck-entry seat (hear_failed place) r none whole may = refl

  pub stuck-stays : {R : Type 0} (history : History R) (r : Record M R) → NoneReady o k r.world.tree → IsWhole r.world.tree → IsLegal o k history r
      → (replay o k history r).world.tree ≡ r.world.tree
  unfolding replay IsLegal
  stuck-stays [] r none whole legal = refl
  stuck-stays (e ∷ rest) r none whole legal =
      let same : (record_after o k e.0 e.1 r).world.tree ≡ r.world.tree = stuck-entry e.0 e.1 r none whole legal.0 in
      stuck-stays rest (record_after o k e.0 e.1 r) (subst (NoneReady o k) (sym same) none) (subst IsWhole (sym same) whole) legal.1 ∙ same

  pub stuck-record : {R : Type 0} (history : History R) (r : Record M R) → Allows o k stuck r.world → IsLegal o k history r
      → (replay o k history r).world.tree ≡ r.world.tree
  unfolding Allows
  stuck-record history r h legal = stuck-stays history r h.1 h.2 legal
