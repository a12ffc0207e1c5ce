-- A machine that is handed out.
use Rattle.std.proofs.Common.{◌≡◌, ◌≢◌, ◌&&◌, not, Bool, true, false, refl, sym, ap, ◌∙◌, subst, ◌∷◌, ◌++◌, Some, None, option_and_then, []}
use Rattle.std.specs.Option.{IfSome}
use Rattle.std.specs.BTreeMap.{BTreeMap, get}
use Rattle.image_depot.specs.Key.{Shelves}
use Rattle.forest_tree.specs.Tree.{Tree, node, machine, Branch, Path, subtree, beyond, at_path}
use Rattle.forest_tree.specs.Step.{has_ended}
use Rattle.forest_tree.proofs.Places.{subtree-parts}
use Rattle.sibling_forest.specs.Talk.{boxed}
use Rattle.talking_history.specs.Places.{Place, asleep, home, out, parked, Spot, spots, placed}
use Rattle.talking_history.specs.World.{is_ready_at, lives_ready, holds}
use Rattle.talking_history.specs.Rows.{took, Allows, does}
use Rattle.talking_history.proofs.Spots.{machine-placed}
use Rattle.forest_model.specs.Paged.{Paged, paged_machines, paged_talks}
use Rattle.machine_names.specs.NameOrder.{path_cmp}
use Rattle.world_core.specs.declared.cell.Cell.{Cell}
use Rattle.world_core.specs.Shows.{Member, forest, IsAwake, Shows}
use Rattle.world_core.specs.declared.world.World.{World}
use Rattle.world_core.specs.Listed.{IsListed}
use Rattle.world_core.specs.World.{Forest, IsDue, ShowsTree, StandsFor, is_ready_in, rests_in}
use Rattle.world_core.specs.Popped.{ShowsCells}
use Rattle.world_core.proofs.Changes.{is_one, shows-changed, beyond-parent}
use Rattle.world_core.proofs.Ready.{ready-changed}
use Rattle.world_core.proofs.Resting.{put-forest, put-rests}
use Rattle.world_core.proofs.Returns.{apart-below, apart-outside, below-placed}

taken-root : (name : Path) (t : Tree Member) → IsAwake t → IsAwake (at_path (placed out) name t)
unfolding at_path boxed spots
taken-root [] (node s broods log) h = record { lives = h.lives; awake = refl }
taken-root (x ∷ rest) (node s broods log) h = record { lives = h.lives; awake = h.awake }

there-below : (name : Path) (x : Branch) (rest : Path) (t a : Tree Member) → subtree name t ≡ Some a → subtree (name ++ (x ∷ rest)) t ≡ subtree (x ∷ rest) a
there-below name x rest t a there = subtree-parts name (x ∷ rest) t ∙ ap (option_and_then (subtree (x ∷ rest))) there

module _ (depot : Shelves) (cells new : BTreeMap Path Cell) (t a : Tree Member) (name : Path) (there : subtree name t ≡ Some a) (h : ShowsCells depot cells t) where
  -- the machine, and maybe its parent, has another cell
  pub cells-taken : ((n : Path) → name ≢ n → is_one (beyond n name) ≡ false → get path_cmp new n ≡ get path_cmp cells n)
      → Shows depot name (rests_in t name) (get path_cmp new name) (Some (placed out a))
      → ((n : Path) (x : Branch) → beyond name n ≡ None → beyond n name ≡ Some (x ∷ [])
      → Shows depot n (rests_in t n) (get path_cmp new n) (subtree n (at_path (placed out) name t)))
      → ShowsCells depot new (at_path (placed out) name t)
  cells-taken others at above_it = record {
    whole = put-forest out name t h.whole;
    root = taken-root name t h.root;
    shows = λ n.
        subst (λ resting. Shows depot n resting (get path_cmp new n) (subtree n (at_path (placed out) name t))) (sym (put-rests out name n t))
        (shows-changed (placed out) depot (rests_in t) name t a (get path_cmp new) there at
        (λ x rest.
        let m : Path = name ++ (x ∷ rest) in
        subst (λ c. Shows depot m (rests_in t m) c (subtree (x ∷ rest) (placed out a)))
        (sym (others m (apart-below name x rest) (ap is_one (beyond-parent name x rest))))
        (subst (Shows depot m (rests_in t m) (get path_cmp cells m)) (there-below name x rest t a there ∙ sym (below-placed out a x rest)) (h.shows m)))
        (λ m none one. subst (λ c. Shows depot m (rests_in t m) c (subtree m t)) (sym (others m (apart-outside name m none) one)) (h.shows m))
        above_it n);
  }

pub never-ready : (resting : Bool) (a : Tree Member) → lives_ready paged_machines paged_talks resting (placed out a) ≡ true → ⊥
never-ready resting a ready =
    by (has_ended forest (placed out a)) (machine (placed out a)).machine.place resting (ap (λ (s : Spot Paged). s.place) (machine-placed out a)) ready
  where
    by : (ended : Bool) (place : Place) (waiting : Bool) → place ≡ out → not ended && is_ready_at place waiting ≡ true → ⊥
    by true place waiting is ready = cc
    by false asleep waiting is ready = cc
    by false home waiting is ready = cc
    by false out waiting is ready = cc
    by false parked waiting is ready = cc

-- each other machine that is ready was so
pub ready-taken : (P : Path → Type 0) (name : Path) (t a : Tree Member) → subtree name t ≡ Some a
    → ((n : Path) → name ≢ n → is_ready_in (rests_in t) n t ≡ true → P n)
    → (n : Path) → is_ready_in (rests_in (at_path (placed out) name t)) n (at_path (placed out) name t) ≡ true → P n
ready-taken P name t a there due n is =
    ready-changed (placed out) P (rests_in t) name t a there (λ ready. absurd (never-ready (rests_in t name) a ready))
    (λ x rest ready.
    due (name ++ (x ∷ rest)) (apart-below name x rest)
    (ap (holds (lives_ready paged_machines paged_talks (rests_in t (name ++ (x ∷ rest)))))
    (there-below name x rest t a there ∙ sym (below-placed out a x rest)) ∙ ready))
    (λ m none ready. due m (apart-outside name m none) ready) n
    (ap (λ resting. holds (lives_ready paged_machines paged_talks resting) (subtree n (at_path (placed out) name t))) (sym (put-rests out name n t)) ∙ is)

-- the world stands for the forest from which the machine was taken
pub taken : (depot : Shelves) (v : World) (f : Forest) (name : Path) (a : Tree Member) → subtree name f.tree ≡ Some a
    → ShowsCells depot v.cells (at_path (placed out) name f.tree) → v.halted ≡ f.halted → v.outcome ≡ None
    → ((n : Path) → name ≢ n → is_ready_in (rests_in f.tree) n f.tree ≡ true → IsDue (get path_cmp v.cells n) n v.ready)
    → ((n : Path) → IfSome (get path_cmp v.cells n) (λ (c : Cell). c.is_listed ≡ true → IsListed n v.ready))
    → StandsFor depot v (does paged_machines paged_talks (took name) f)
unfolding does
taken depot v f name a there cells halted going due listed = record {
  whole = cells.whole;
  halted = halted;
  tree = subst (λ o. ShowsTree o depot v (at_path (placed out) name f.tree)) (sym going) (record {
    root = cells.root;
    each = record {
      cells = cells.shows;
      ready = ready-taken (λ n. IsDue (get path_cmp v.cells n) n v.ready) name f.tree a there due;
      listed = listed;
    };
  });
}

pub allows-took : (f : Forest) (name : Path) → has_ended forest f.tree ≡ false → f.halted ≡ None → is_ready_in (rests_in f.tree) name f.tree ≡ true
    → Allows paged_machines paged_talks (took name) f
unfolding Allows
allows-took f name lives halted ready = ((lives, halted), ready)
