-- A page that comes changes nothing of a forest but what is known of the pages of its machine.
use Rattle.std.proofs.Common.{◌≡◌, ◌≢◌, ℕ, true, false, refl, sym, ap, ◌∙◌, [], ◌∷◌, ◌++◌, Option, Some, None, option_map, option_and_then}
use Rattle.cow_disk.specs.declared.arrived.Arrived.{Arrived}
use Rattle.cow_disk.specs.declared.arrived.Arrived.TheVariants.{Got, Had}
use Rattle.forest_tree.specs.Tree.{node, Branch, Path, machine, log_of, subtree, beyond, goes_on, is_below, at_path, at_beyond}
use Rattle.forest_tree.specs.Projection.{map_tree}
use Rattle.forest_tree.proofs.Places.{subtree-parts}
use Rattle.sibling_forest.specs.Talk.{Box, queue}
use Rattle.sibling_forest.specs.Laws.{box_of}
use Rattle.forest_tree.proofs.Changes.{at_path-elsewhere, at_path-leaves, at_path-log, at_path-machine, at_path-within}
use Rattle.forest_tree.proofs.Projected.{at_path-map}
use Rattle.forest_model.specs.Paged.{Paged}
use Rattle.machine_names.proofs.Below.{beyond-is}
use Rattle.drive_script.specs.Replies.{tree_with, with_arrival}
use Rattle.drive_script.specs.Steps.{Family}
use Rattle.drive_script.specs.Told.{whole}
use Rattle.drive_script.proofs.OneMachine.{beyond-itself}

whole-with : (page : ℕ) (t : Family) → whole (tree_with page t) ≡ whole t
unfolding map_tree
whole-with page (node b broods log) = refl

-- the machines with every page stay
pub whole-arrival : (path : Path) (arrived : Option Arrived) (t : Family) → whole (with_arrival path arrived t) ≡ whole t
whole-arrival path None t = refl
whole-arrival path (Some (Had page)) t = refl
whole-arrival path (Some (Got page)) t =
    at_path-map (box_of (λ (p : Paged). p.machine)) (tree_with page) (λ u. u) (λ u. whole-with page u) path t ∙ at_path-leaves (λ u. u) (λ u. refl) path (whole t)

-- ---- at another name

apart-by : (f : Family → Family) (rest : Option Path) (c : Option Family) → rest ≡ None → option_map (at_beyond f rest) c ≡ c
apart-by f None None h = refl
apart-by f None (Some t) h = refl
apart-by f (Some rest) c h = cc h

-- what a view shows that overlooks the children
view-by : {A : Type 0} (view : Family → A) → ((f : Family → Family) (b : Branch) (path : Path) (t : Family) → view (at_path f (b ∷ path) t) ≡ view t)
    → (f : Family → Family) (rest : Option Path) (c : Option Family) → rest ≢ Some [] → option_map view (option_map (at_beyond f rest) c) ≡ option_map view c
view-by view shallow f None None h = refl
view-by view shallow f None (Some t) h = refl
view-by view shallow f (Some []) c h = absurd (h refl)
view-by view shallow f (Some (b ∷ rest)) None h = refl
view-by view shallow f (Some (b ∷ rest)) (Some t) h = ap Some (shallow f b rest t)

view-arrival : {A : Type 0} (view : Family → A) → ((f : Family → Family) (b : Branch) (path : Path) (t : Family) → view (at_path f (b ∷ path) t) ≡ view t)
    → (path : Path) (arrived : Option Arrived) (at : Path) (t : Family) → at ≢ path → is_below path at ≡ false
    → option_map view (subtree at (with_arrival path arrived t)) ≡ option_map view (subtree at t)
view-arrival view shallow path None at t other apart = refl
view-arrival view shallow path (Some (Had page)) at t other apart = refl
view-arrival view shallow path (Some (Got page)) at t other apart =
    ap (option_map view) (at_path-elsewhere (tree_with page) path at t apart)
    ∙ view-by view shallow (tree_with page) (beyond at path) (subtree at t) (λ h. other (beyond-itself at path h))

pub others-arrival : (path : Path) (arrived : Option Arrived) (at : Path) (t : Family) → at ≢ path → is_below path at ≡ false
    → option_map (λ (a : Family). (machine a).machine) (subtree at (with_arrival path arrived t)) ≡ option_map (λ (a : Family). (machine a).machine) (subtree at t)
others-arrival path arrived at t other apart =
    view-arrival (λ (a : Family). (machine a).machine) (λ f b rest u. ap (λ (x : Box Paged). x.machine) (at_path-machine f b rest u)) path arrived at t other apart

pub words-arrival : (path : Path) (arrived : Option Arrived) (at : Path) (from : ℕ) (t : Family) → at ≢ path → is_below path at ≡ false
    → option_map (λ (a : Family). queue from (machine a).inbox) (subtree at (with_arrival path arrived t))
    ≡ option_map (λ (a : Family). queue from (machine a).inbox) (subtree at t)
words-arrival path arrived at from t other apart =
    view-arrival (λ (a : Family). queue from (machine a).inbox) (λ f b rest u. ap (λ (x : Box Paged). queue from x.inbox) (at_path-machine f b rest u)) path arrived at t other apart

pub logs-arrival : (path : Path) (arrived : Option Arrived) (at : Path) (t : Family) → at ≢ path → is_below path at ≡ false
    → option_map log_of (subtree at (with_arrival path arrived t)) ≡ option_map log_of (subtree at t)
logs-arrival path arrived at t other apart = view-arrival log_of (λ f b rest u. at_path-log f b rest u) path arrived at t other apart

pub apart-arrival : (path : Path) (arrived : Option Arrived) (at : Path) (t : Family) → is_below path at ≡ false → beyond at path ≡ None
    → subtree at (with_arrival path arrived t) ≡ subtree at t
apart-arrival path None at t below apart = refl
apart-arrival path (Some (Had page)) at t below apart = refl
apart-arrival path (Some (Got page)) at t below apart =
    at_path-elsewhere (tree_with page) path at t below ∙ apart-by (tree_with page) (beyond at path) (subtree at t) apart

below-with : (page : ℕ) (b : Branch) (rest : Path) (a : Family) → subtree (b ∷ rest) (tree_with page a) ≡ subtree (b ∷ rest) a
unfolding subtree
below-with page b rest (node box broods log) = refl

within-with : (page : ℕ) (b : Branch) (rest : Path) (c : Option (Family))
    → option_and_then (λ a. subtree (b ∷ rest) (tree_with page a)) c ≡ option_and_then (subtree (b ∷ rest)) c
within-with page b rest None = refl
within-with page b rest (Some a) = below-with page b rest a

below-got : (page : ℕ) (path : Path) (b : Branch) (rest : Path) (t : Family)
    → subtree (path ++ (b ∷ rest)) (at_path (tree_with page) path t) ≡ subtree (path ++ (b ∷ rest)) t
below-got page path b rest t =
    at_path-within (tree_with page) path (b ∷ rest) t ∙ within-with page b rest (subtree path t) ∙ sym (subtree-parts path (b ∷ rest) t)

pub below-arrival : (path : Path) (arrived : Option Arrived) (at : Path) (t : Family) → is_below path at ≡ true
    → subtree at (with_arrival path arrived t) ≡ subtree at t
below-arrival path None at t below = refl
below-arrival path (Some (Had page)) at t below = refl
below-arrival path (Some (Got page)) at t below = by (beyond path at) refl below
  where
    by : (left : Option Path) → beyond path at ≡ left → goes_on left ≡ true → subtree at (at_path (tree_with page) path t) ≡ subtree at t
    by None e h = absurd (cc)
    by (Some []) e h = absurd (cc)
    by (Some (b ∷ rest)) e h =
        let is : at ≡ path ++ (b ∷ rest) = beyond-is path at (b ∷ rest) e in
        ap (λ p. subtree p (at_path (tree_with page) path t)) is ∙ below-got page path b rest t ∙ sym (ap (λ p. subtree p t) is)
