-- Whether a machine waits, as its broods tell.
use Rattle.std.proofs.Common.{◌≡◌, ℕ, zero, suc, ◌+◌, ◌≤◌, not, Bool, true, false, cond, eqb, eqb-true, nat_lt, Option, Some, None, refl, sym, ap, ◌∙◌, subst, arith}
use Rattle.std.proofs.lemmas.Bool.{ne_eqb}
use Rattle.std.proofs.lemmas.Bool.Decides.{nat_tests}
use Rattle.std.specs.Ordering.{nat_cmp}
use Rattle.std.specs.BTreeMap.{get}
use Rattle.image_depot.specs.Key.{Shelves}
use Rattle.forest_tree.specs.Operations.{Call, clone, join, kill, is_cloned}
use Rattle.forest_tree.specs.Tree.{Tree, Trees, no_tree, tree, Broods, machine, broods_of, brood_of, child_at, at_child, at_brood, Path}
use Rattle.forest_tree.specs.Step.{has_ended, have_ended, waits_by}
use Rattle.forest_tree.proofs.Places.{some-same, brood_of-at, at_child-none}
use Rattle.forest_tree.specs.Children.{life, living}
use Rattle.forest_tree.proofs.Lives.{none-lives, one-child}
use Rattle.world_core.specs.declared.cell.Brood.{Brood}
use Rattle.world_core.specs.declared.cell.Cell.{Cell}
use Rattle.world_core.specs.Shows.{Member, forest, BroodShows, BroodAt, Holds}

-- where a ticket has no brood, it has no child
pub no-child : (depot : Shelves) (path : Path) (ticket : ℕ) (cloned : Bool) (trees : Trees Member) → BroodAt depot path ticket None cloned trees
    → trees ≡ no_tree
no-child depot path ticket true trees h = absurd h
no-child depot path ticket false trees h = h

pub brood-shows : (depot : Shelves) (path : Path) (ticket : ℕ) (b : Brood) (cloned : Bool) (trees : Trees Member)
    → BroodAt depot path ticket (Some b) cloned trees → BroodShows depot path ticket b trees
brood-shows depot path ticket b true trees h = h
brood-shows depot path ticket b false trees h = absurd h

module _ (depot : Shelves) (path : Path) (c : Cell) (t : Tree Member) (h : Holds depot path c t) (ticket : ℕ) where
  pub none-held : get nat_cmp c.broods ticket ≡ None → brood_of ticket (broods_of t) ≡ no_tree
  none-held none =
      no-child depot path ticket (is_cloned forest (machine t) ticket) (brood_of ticket (broods_of t))
      (subst (λ b. BroodAt depot path ticket b (is_cloned forest (machine t) ticket) (brood_of ticket (broods_of t))) none (h.broods ticket))

  pub one-held : (b : Brood) → get nat_cmp c.broods ticket ≡ Some b → BroodShows depot path ticket b (brood_of ticket (broods_of t))
  one-held b some =
      brood-shows depot path ticket b (is_cloned forest (machine t) ticket) (brood_of ticket (broods_of t))
      (subst (λ b. BroodAt depot path ticket b (is_cloned forest (machine t) ticket) (brood_of ticket (broods_of t))) some (h.broods ticket))

some-live : (n : ℕ) → nat_lt 0 n ≡ not (eqb n 0)
some-live n = grind (arith, nat_tests)

-- some child lives
pub waits-by-brood : (depot : Shelves) (path : Path) (c : Cell) (t : Tree Member) (ticket : ℕ) (b : Brood) → Holds depot path c t
    → get nat_cmp c.broods ticket ≡ Some b → nat_lt 0 b.live ≡ not (have_ended forest (brood_of ticket (broods_of t)))
waits-by-brood depot path c t ticket b h some =
    some-live b.live
    ∙ ap (λ n. not (eqb n 0)) (one-held depot path c t h ticket b some).live
    ∙ sym (ap not (none-lives forest (brood_of ticket (broods_of t))))

pub waits-for-none : (depot : Shelves) (path : Path) (c : Cell) (t : Tree Member) (ticket : ℕ) → Holds depot path c t
    → get nat_cmp c.broods ticket ≡ None → false ≡ not (have_ended forest (brood_of ticket (broods_of t)))
unfolding have_ended
waits-for-none depot path c t ticket h none = sym (ap (λ trees. not (have_ended forest trees)) (none-held depot path c t h ticket none))

-- a child that lives is one of those that do
pub has-life : (k : ℕ) (trees : Trees Member) (a : Tree Member) → child_at k trees ≡ Some a → life forest a ≤ living forest trees
unfolding living child_at
has-life k no_tree a found = absurd (cc)
has-life zero (tree t rest) a found = absurd (cc)
has-life (suc zero) (tree t rest) a found = subst (λ u. life forest u ≤ life forest t + living forest rest) (some-same t a found) (omega arith)
has-life (suc (suc k)) (tree t rest) a found = let later : life forest a ≤ living forest rest = has-life (suc k) rest a found in omega arith

-- a child is another, of which so many live then
module _ (ticket index : ℕ) (a b : Tree Member) (before : Broods Member) (found : child_at index (brood_of ticket before) ≡ Some a)
    (lives : has_ended forest a ≡ false) where
  abbrev after : Broods Member
  after = at_brood (at_child (λ a. b) index) ticket before

  abbrev left : ℕ
  left = living forest (at_child (λ a. b) index (brood_of ticket before))

  one-life : life forest a ≡ 1
  one-life = ap (λ ended. cond ended 0 1) lives

  -- some child lived
  lived : have_ended forest (brood_of ticket before) ≡ false
  lived =
      let some : 1 ≤ living forest (brood_of ticket before) =
      subst (λ n. n ≤ living forest (brood_of ticket before)) one-life (has-life index (brood_of ticket before) a found) in
      none-lives forest (brood_of ticket before) ∙ ne_eqb (living forest (brood_of ticket before)) 0 (λ e. absurd (omega arith))

  each : (u : ℕ) (same : Bool) → eqb ticket u ≡ same
      → have_ended forest (brood_of u after) ≡ cond same (eqb left 0) (have_ended forest (brood_of u before))
  each u same e =
      ap (have_ended forest) (brood_of-at (at_child (λ a. b) index) (at_child-none (λ a. b) index) ticket u before) ∙ by same e
    where
      by : (same : Bool) → eqb ticket u ≡ same
          → have_ended forest (cond (eqb ticket u) (at_child (λ a. b) index (brood_of u before)) (brood_of u before))
          ≡ cond same (eqb (living forest (at_child (λ a. b) index (brood_of ticket before))) 0) (have_ended forest (brood_of u before))
      by true e =
          ap (λ same. have_ended forest (cond same (at_child (λ a. b) index (brood_of u before)) (brood_of u before))) e
          ∙ none-lives forest (at_child (λ a. b) index (brood_of u before))
          ∙ ap (λ v. eqb (living forest (at_child (λ a. b) index (brood_of v before))) 0) (sym (eqb-true ticket u e))
      by false e = ap (λ same. have_ended forest (cond same (at_child (λ a. b) index (brood_of u before)) (brood_of u before))) e

  -- a machine that does not wait goes on not to
  over-by : (u : ℕ) (same : Bool) → eqb ticket u ≡ same → not (have_ended forest (brood_of u before)) ≡ false
      → not (have_ended forest (brood_of u after)) ≡ false
  over-by u true e goes =
      let still : have_ended forest (brood_of u before) ≡ false = subst (λ v. have_ended forest (brood_of v before) ≡ false) (eqb-true ticket u e) lived in
      let no : true ≡ false = sym (ap not still) ∙ goes in absurd (cc)
  over-by u false e goes = ap not (each u false e) ∙ goes

  pub goes-on : (next : Option Call) → waits_by forest next before ≡ false → waits_by forest next after ≡ false
  goes-on None goes = refl
  goes-on (Some (clone u)) goes = refl
  goes-on (Some (join u)) goes = over-by u (eqb ticket u) refl goes
  goes-on (Some (kill u)) goes = refl

  -- one that waits for another ticket goes on to
  pub waits-elsewhere : (next : Option Call) (u : ℕ) → next ≡ Some (join u) → eqb ticket u ≡ false → waits_by forest next after ≡ waits_by forest next before
  waits-elsewhere next u is other = ap (λ c. waits_by forest c after) is ∙ ap not (each u false other) ∙ sym (ap (λ c. waits_by forest c before) is)

  -- and one that waits for this one, while a child lives
  pub waits-here : (next : Option Call) (u : ℕ) → next ≡ Some (join u) → eqb ticket u ≡ true → waits_by forest next after ≡ not (eqb left 0)
  waits-here next u is here = ap (λ c. waits_by forest c after) is ∙ ap not (each u true here)

  -- a change that ends no child
  same-by : (u : ℕ) (same : Bool) → eqb ticket u ≡ same → has_ended forest b ≡ false
      → not (have_ended forest (brood_of u after)) ≡ not (have_ended forest (brood_of u before))
  same-by u true e still =
      let before_that : living forest (at_child (λ a. b) index (brood_of ticket before)) + life forest a ≡ living forest (brood_of ticket before) + life forest b =
      one-child forest (λ a. b) index (brood_of ticket before) a found in
      let one : life forest b ≡ 1 = ap (λ ended. cond ended 0 1) still in
      let as_many : left ≡ living forest (brood_of ticket before) = omega (arith, one-life) in
      ap not (each u true e) ∙ ap (λ n. not (eqb n 0)) as_many ∙ sym (ap not (none-lives forest (brood_of ticket before)))
      ∙ ap (λ v. not (have_ended forest (brood_of v before))) (eqb-true ticket u e)
  same-by u false e still = ap not (each u false e)

  pub waits-still : (next : Option Call) → has_ended forest b ≡ false → waits_by forest next after ≡ waits_by forest next before
  waits-still None still = refl
  waits-still (Some (clone u)) still = refl
  waits-still (Some (join u)) still = same-by u (eqb ticket u) refl still
  waits-still (Some (kill u)) still = refl
