-- A turn that was taken out, of a machine that was not ready or is due by another.
use Rattle.std.proofs.Common.{◌≡◌, ◌≢◌, true, false, refl, sym, ap, ◌∙◌, subst, inl, inr, List, ◌∷◌, Option, Some, None}
use Rattle.std.specs.Option.{IfSome}
use Rattle.std.specs.BTreeMap.{get}
use Rattle.image_depot.specs.Key.{Shelves}
use Rattle.forest_tree.specs.Tree.{Path, subtree}
use Rattle.machine_names.specs.NameOrder.{path_cmp}
use Rattle.world_core.specs.declared.cell.Cell.{Cell}
use Rattle.world_core.specs.Shows.{Shows}
use Rattle.world_core.specs.declared.world.World.{World}
use Rattle.ready_queue.specs.Ready.{Ready}
use Rattle.world_core.specs.Listed.{CoversBy, IsListed, IsCovered}
use Rattle.world_core.specs.World.{Forest, IsDue, ShowsLive, ShowsTree, StandsFor, is_ready_in, rests_in}
use Rattle.world_core.specs.Popped.{is_listed_in, with_turn}
use Rattle.world_core.proofs.Returns.{same-or-apart}

-- another machine's turn is not that of this one
listed-rest : (n name : Path) (turn : Ready) (turns : List Ready) → turn.name ≡ name → name ≢ n → IsListed n (turn ∷ turns) → IsListed n turns
unfolding IsListed
listed-rest n name turn turns of other (inl e) = absurd (other (sym of ∙ ap (λ (w : Ready). w.name) e))
listed-rest n name turn turns of other (inr h) = h

pub covered-rest : (n : Path) (turn : Ready) (turns : List Ready) → turn.children ≡ None → IsCovered n (turn ∷ turns) → IsCovered n turns
unfolding IsCovered
covered-rest n turn turns one (inl h) = absurd (subst (CoversBy n turn.name) one h)
covered-rest n turn turns one (inr h) = h

-- what the world showed with its turn
pub shown-with : (depot : Shelves) (turn : Ready) (w : World) (f : Forest) → StandsFor depot (with_turn turn w) f → w.outcome ≡ None
    → ShowsLive depot (with_turn turn w) f.tree
shown-with depot turn w f h going = subst (λ o. ShowsTree o depot (with_turn turn w) f.tree) going h.tree

-- a machine whose turn was taken out is not ready, or is due by another
module _ (depot : Shelves) (turn : Ready) (w v : World) (f : Forest) (one : turn.children ≡ None) (h : StandsFor depot (with_turn turn w) f)
    (going : w.outcome ≡ None) (going_on : v.outcome ≡ None) (halted : v.halted ≡ w.halted) (ready : v.ready ≡ w.ready)
    (others : (n : Path) → turn.name ≢ n → get path_cmp v.cells n ≡ get path_cmp w.cells n) where
  shows-before : ShowsLive depot (with_turn turn w) f.tree
  shows-before = shown-with depot turn w f h going

  pub due-apart : (n : Path) → turn.name ≢ n → IsDue (get path_cmp w.cells n) n (turn ∷ w.ready) → IsDue (get path_cmp v.cells n) n v.ready
  due-apart n other due = subst (λ c. IsDue c n v.ready) (sym (others n other)) (subst (IsDue (get path_cmp w.cells n) n) (sym ready) (by (get path_cmp w.cells n) due))
    where
      by : (c : Option Cell) → IsDue c n (turn ∷ w.ready) → IsDue c n w.ready
      by None due = covered-rest n turn w.ready one due
      by (Some c) due = listed-rest n turn.name turn w.ready refl other due

  pub listed-apart : (n : Path) → turn.name ≢ n → IfSome (get path_cmp v.cells n) (λ (c : Cell). c.is_listed ≡ true → IsListed n v.ready)
  listed-apart n other =
      subst (λ o. IfSome o (λ (c : Cell). c.is_listed ≡ true → IsListed n v.ready)) (sym (others n other))
      (subst (λ turns. IfSome (get path_cmp w.cells n) (λ (c : Cell). c.is_listed ≡ true → IsListed n turns)) (sym ready)
      (by (get path_cmp w.cells n) (shows-before.each.listed n)))
    where
      by : (o : Option Cell) → IfSome o (λ (c : Cell). c.is_listed ≡ true → IsListed n (turn ∷ w.ready)) → IfSome o (λ (c : Cell). c.is_listed ≡ true → IsListed n w.ready)
      by None listed = tt
      by (Some c) listed = λ is. listed-rest n turn.name turn w.ready refl other (listed is)

  pub unlisted : (n : Path) → is_listed_in (get path_cmp v.cells n) ≡ false → IfSome (get path_cmp v.cells n) (λ (c : Cell). c.is_listed ≡ true → IsListed n v.ready)
  unlisted n none = by (get path_cmp v.cells n) none
    where
      by : (o : Option Cell) → is_listed_in o ≡ false → IfSome o (λ (c : Cell). c.is_listed ≡ true → IsListed n v.ready)
      by None none = tt
      by (Some c) none = λ is. let no : true ≡ false = sym is ∙ none in absurd (cc)

  pub all-apart : {P : Path → Type 0} → P turn.name → ((n : Path) → turn.name ≢ n → P n) → (n : Path) → P n
  all-apart {P} at other n = elim (same-or-apart turn.name n) [
    | inl e ↦ subst P (sym e) at
    | inr apart_from ↦ other n apart_from
  ]

  -- none is taken
  pub popped : Shows depot turn.name (rests_in f.tree turn.name) (get path_cmp v.cells turn.name) (subtree turn.name f.tree)
      → (is_ready_in (rests_in f.tree) turn.name f.tree ≡ true → IsDue (get path_cmp v.cells turn.name) turn.name v.ready)
      → is_listed_in (get path_cmp v.cells turn.name) ≡ false → StandsFor depot v f
  popped at due none = record {
    whole = h.whole;
    halted = halted ∙ h.halted;
    tree = subst (λ o. ShowsTree o depot v f.tree) (sym going_on) (record {
      root = shows-before.root;
      each = record {
        cells = all-apart {P = λ n. Shows depot n (rests_in f.tree n) (get path_cmp v.cells n) (subtree n f.tree)} at
            (λ n other. subst (λ c. Shows depot n (rests_in f.tree n) c (subtree n f.tree)) (sym (others n other)) (shows-before.each.cells n));
        ready = all-apart {P = λ n. is_ready_in (rests_in f.tree) n f.tree ≡ true → IsDue (get path_cmp v.cells n) n v.ready} due
            (λ n other is. due-apart n other (shows-before.each.ready n is));
        listed = all-apart {P = λ n. IfSome (get path_cmp v.cells n) (λ (c : Cell). c.is_listed ≡ true → IsListed n v.ready)} (unlisted turn.name none) listed-apart;
      };
    });
  }
