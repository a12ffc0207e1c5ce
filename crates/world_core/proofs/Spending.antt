-- The rows of a machine that comes back with its own steps, or with a call too.
use Rattle.std.proofs.Common.{◌≡◌, ℕ, zero, suc, ◌+◌, ◌≤◌, eqb, Bool, true, false, cond, refl, sym, ap, ap₂, ◌∙◌, subst, arith, [], ◌∷◌, ◌||◌, Option, Some, None, option_and_then}
use Rattle.image_depot.specs.Key.{Shelves}
use Rattle.fork_port.specs.declared.ending.Ending.{Ending}
use Rattle.forest_tree.specs.Operations.{Operations}
use Rattle.forest_tree.specs.Tree.{Tree, node, Trees, no_tree, tree, Broods, no_brood, brood, Log, at_child, child_at, brood_of, at_brood, broods_with, Path, subtree, at_path}
use Rattle.forest_tree.specs.Step.{settled, settled_by, step, advanced, steps}
use Rattle.forest_tree.specs.Sound.{IsSound}
use Rattle.forest_tree.proofs.Broods.{one_if}
use Rattle.forest_tree.proofs.Places.{some-same, below-at}
use Rattle.forest_tree.proofs.Rests.{one-brood}
use Rattle.sibling_forest.specs.Talk.{Inbox, boxed}
use Rattle.talking_history.specs.Places.{home, spots, placed, may_run, spot_talks}
use Rattle.forest_tree.proofs.Changes.{at_path-leaves, at_path-twice}
use Rattle.talking_history.specs.Changes.{told}
use Rattle.talking_history.specs.World.{is_resting}
use Rattle.talking_history.specs.Rows.{How, forked, joined, sent, back, made, run_at, came_back, spent, kept, may_spend, RanOut, Spends, Keeps, IfThere, Allows, does}
use Rattle.talking_history.proofs.CameBack.{own-back, called-back}
use Rattle.talking_history.proofs.Ends.{does-whole}
use Rattle.talking_history.proofs.Turned.{run-is, steps-last}
use Rattle.forest_model.specs.Forest.{machines}
use Rattle.forest_model.specs.Paged.{Paged, paged_machines, paged_talks}
use Rattle.forest_model.proofs.Paged.{paged-rules, paged-talk}
use Rattle.world_core.specs.declared.reason.Reason.{Reason}
use Rattle.world_core.specs.declared.world.World.{World}
use Rattle.world_core.specs.Shows.{Member, forest}
use Rattle.world_core.specs.World.{Forest, IsForest, StandsFor, rests_in}
use Rattle.world_core.specs.Between.{with_tree}
use Rattle.world_core.specs.Answers.{Goes}
use Rattle.world_core.proofs.Steps.{HasRun, came_out, lent_out, lease-runs, lease-comes, lease-steps}

-- ---- a change at a name is one of the tree there

module _ {M : Type 0} where
  at_child-at : (f g : Tree M → Tree M) (k : ℕ) (trees : Trees M) → ((a : Tree M) → child_at k trees ≡ Some a → f a ≡ g a) → at_child f k trees ≡ at_child g k trees
  unfolding at_child child_at
  at_child-at f g k no_tree same = refl
  at_child-at f g zero (tree t rest) same = refl
  at_child-at f g (suc zero) (tree t rest) same = ap (λ u. tree u rest) (same t refl)
  at_child-at f g (suc (suc k)) (tree t rest) same = ap (tree t) (at_child-at f g (suc k) rest same)

  none-head : (f g : Trees M → Trees M) (u : ℕ) (trees : Trees M) (left right : Broods M) (n : ℕ) (same : Bool) → one_if same + n ≡ 0 → (n ≡ 0 → left ≡ right)
      → brood u (cond same (f trees) trees) left ≡ brood u (cond same (g trees) trees) right
  none-head f g u trees left right n true none h = absurd (omega arith)
  none-head f g u trees left right n false none h = ap (brood u trees) (h (omega arith))

  at_brood-none : (f g : Trees M → Trees M) (t : ℕ) (broods : Broods M) → broods_with t broods ≡ 0 → at_brood f t broods ≡ at_brood g t broods
  unfolding at_brood broods_with
  at_brood-none f g t no_brood none = refl
  at_brood-none f g t (brood u trees rest) none =
      none-head f g u trees (at_brood f t rest) (at_brood g t rest) (broods_with t rest) (eqb u t) none (at_brood-none f g t rest)

  one-head : (f g : Trees M → Trees M) (u : ℕ) (trees before : Trees M) (left right : Broods M) (n : ℕ) (same : Bool) → one_if same + n ≤ 1
      → f (cond same trees before) ≡ g (cond same trees before) → (n ≡ 0 → left ≡ right) → (n ≤ 1 → f before ≡ g before → left ≡ right)
      → brood u (cond same (f trees) trees) left ≡ brood u (cond same (g trees) trees) right
  one-head f g u trees before left right n true one agree none h = ap₂ (brood u) agree (none (omega arith))
  one-head f g u trees before left right n false one agree none h = ap (brood u trees) (h (omega arith) agree)

  at_brood-one : (f g : Trees M → Trees M) (t : ℕ) (broods : Broods M) → broods_with t broods ≤ 1 → f (brood_of t broods) ≡ g (brood_of t broods)
      → at_brood f t broods ≡ at_brood g t broods
  unfolding at_brood broods_with brood_of
  at_brood-one f g t no_brood one agree = refl
  at_brood-one f g t (brood u trees rest) one agree =
      one-head f g u trees (brood_of t rest) (at_brood f t rest) (at_brood g t rest) (broods_with t rest) (eqb u t) one agree
      (at_brood-none f g t rest) (at_brood-one f g t rest)

module _ {M E : Type 0} (o : Operations M E) where
  pub at_path-there : (f : Tree M → Tree M) (path : Path) (t a : Tree M) → IsSound o t → subtree path t ≡ Some a → at_path f path t ≡ at_path (λ b. f a) path t
  unfolding at_path subtree
  at_path-there f [] t a sound found = ap f (some-same t a found)
  at_path-there f (x ∷ path) (node m broods log) a sound found =
      ap (λ after. node m after log)
      (at_brood-one (at_child (at_path f path) x.child) (at_child (at_path (λ b. f a) path) x.child) x.ticket broods (one-brood o m broods log sound x.ticket)
      (at_child-at (at_path f path) (at_path (λ b. f a) path) x.child (brood_of x.ticket broods)
      (λ c is. at_path-there f path c a (below-at o m broods log x.ticket x.child c sound is) (sym (ap (option_and_then (subtree path)) is) ∙ found))))

  -- where no tree is at the path, nothing changes
  at_path-apart : (f g : Tree M → Tree M) (path : Path) (t : Tree M) → IsSound o t → subtree path t ≡ None → at_path f path t ≡ at_path g path t
  unfolding at_path subtree
  at_path-apart f g [] t sound none = absurd (cc)
  at_path-apart f g (x ∷ path) (node m broods log) sound none =
      ap (λ after. node m after log)
      (at_brood-one (at_child (at_path f path) x.child) (at_child (at_path g path) x.child) x.ticket broods (one-brood o m broods log sound x.ticket)
      (at_child-at (at_path f path) (at_path g path) x.child (brood_of x.ticket broods)
      (λ c is. at_path-apart f g path c (below-at o m broods log x.ticket x.child c sound is) (sym (ap (option_and_then (subtree path)) is) ∙ none))))

  pub at_path-gone : (f : Tree M → Tree M) (path : Path) (t : Tree M) → IsSound o t → subtree path t ≡ None → at_path f path t ≡ t
  at_path-gone f path t sound none = at_path-apart f (λ a. a) path t sound none ∙ at_path-leaves (λ (a : Tree M). a) (λ a. refl) path t

-- ---- a machine that was out

module _ (f : Forest) (name : Path) (start now : Paged) (ran : ℕ) (inbox : Inbox) (broods : Broods Member) (log : Log Member) (whole : IsForest f.tree)
    (there_is : subtree name f.tree ≡ Some (node (lent_out inbox start) broods log)) (lent : HasRun start ran now)
    (alive : forest.ending (lent_out inbox start) ≡ None) where
  abbrev before : Tree Member
  before = node (lent_out inbox start) broods log

  -- with its own steps
  abbrev pub later : Tree Member
  later = settled forest (came_out inbox now) broods log

  own : may_run paged_machines paged_talks ran start ≡ true
  own = lease-runs start now ran inbox lent

  steps-are : steps forest ran before ≡ later
  steps-are = lease-steps start now ran inbox lent broods log alive

  pub ran-out : RanOut paged_machines paged_talks ran before
  ran-out = record { is_out = refl; own = own }

  -- the forest with them, and whether it rests there
  abbrev pub then : Tree Member
  then = at_path (λ a. later) name f.tree

  run-tree : run_at paged_machines paged_talks name ran f.tree ≡ then
  run-tree =
      run-is paged_machines paged_talks paged-rules paged-talk name ran f.tree before whole.sound there_is own
      ∙ at_path-there forest (steps forest ran) name f.tree before whole.sound there_is
      ∙ ap (λ v. at_path (λ a. v) name f.tree) steps-are

  module _ (how : How) (may : may_spend paged_machines paged_talks how now (rests_in then name) ≡ true) where
    spends : Spends paged_machines paged_talks how ran (is_resting paged_machines paged_talks name (run_at paged_machines paged_talks name ran f.tree)) before
    spends = record {
      ran = ran-out;
      may = ap₂ (λ m t. may_spend paged_machines paged_talks how m (is_resting paged_machines paged_talks name t)) (lease-comes start now ran inbox lent) run-tree ∙ may;
    }

    -- with no call
    pub came-own : made how ran ≡ ran → came_back paged_machines paged_talks how name ran f.tree ≡ (with_tree name (placed (back how) later) f).tree
    came-own none =
        own-back paged_machines paged_talks paged-rules paged-talk how name ran f.tree before whole.sound there_is spends none
        ∙ at_path-there forest (λ u. placed (back how) (steps forest ran u)) name f.tree before whole.sound there_is
        ∙ ap (λ v. at_path (λ a. placed (back how) v) name f.tree) steps-are

    -- with a call, which is no talk
    pub came-call : made how ran ≡ suc ran → paged_talks.talk now ≡ None
        → came_back paged_machines paged_talks how name ran f.tree ≡ (with_tree name (placed home (step forest later)) f).tree
    came-call one quiet =
        let none : paged_talks.talk (advanced paged_machines ran start) ≡ None = ap paged_talks.talk (lease-comes start now ran inbox lent) ∙ quiet in
        called-back paged_machines paged_talks paged-rules paged-talk how name ran f.tree before whole.sound there_is spends one
        ∙ ap (λ what. at_path (placed home) name (told (spots paged_machines) (spot_talks paged_talks) what (paged_talks.word (advanced paged_machines ran start)) name
        (at_path (steps forest (suc ran)) name f.tree))) none
        ∙ at_path-twice (steps forest (suc ran)) (placed home) name f.tree
        ∙ at_path-there forest (λ u. placed home (steps forest (suc ran) u)) name f.tree before whole.sound there_is
        ∙ ap (λ v. at_path (λ a. placed home v) name f.tree) (sym (steps-last paged_machines paged_talks ran before) ∙ ap (step forest) steps-are)

    -- what the forest is then
    module _ (u : Tree Member) (came : came_back paged_machines paged_talks how name ran f.tree ≡ u) where
      pub came-whole : IsForest u
      unfolding does
      came-whole = subst IsForest came (does-whole paged_machines paged_talks paged-rules paged-talk {R = Reason} (spent how name ran) f whole)

      pub came-allowed : Allows paged_machines paged_talks (spent how name ran) f
      unfolding Allows
      came-allowed =
          subst (IfThere (Spends paged_machines paged_talks how ran (is_resting paged_machines paged_talks name (run_at paged_machines paged_talks name ran f.tree))))
          (sym there_is) spends

      pub came-is : does paged_machines paged_talks (spent how name ran) f ≡ record f { tree = u }
      unfolding does
      came-is = ap (λ t. record f { tree = t }) came

      pub came-goes : (depot : Shelves) (new : World) → StandsFor depot new (record f { tree = u }) → Goes depot f (spent how name ran) new
      came-goes depot new stands = record { allowed = came-allowed; after = subst (StandsFor depot new) (sym came-is) stands }

    module _ (b : Tree Member) (came : came_back paged_machines paged_talks how name ran f.tree ≡ (with_tree name b f).tree) where
      pub row-whole : IsForest (with_tree name b f).tree
      row-whole = came-whole (with_tree name b f).tree came

      pub row-goes : (depot : Shelves) (new : World) → StandsFor depot new (with_tree name b f) → Goes depot f (spent how name ran) new
      row-goes depot new stands = came-goes (with_tree name b f).tree came depot new stands

    -- with a talk
    pub came-told : made how ran ≡ suc ran → came_back paged_machines paged_talks how name ran f.tree
        ≡ at_path (placed home) name (told (spots paged_machines) (spot_talks paged_talks) (paged_talks.talk now) (paged_talks.word now) name (at_path (λ a. step forest later) name f.tree))
    came-told one =
        called-back paged_machines paged_talks paged-rules paged-talk how name ran f.tree before whole.sound there_is spends one
        ∙ ap₂ (λ (m : Paged) (t : Tree Member). at_path (placed home) name (told (spots paged_machines) (spot_talks paged_talks) (paged_talks.talk m) (paged_talks.word m) name t))
        (lease-comes start now ran inbox lent)
        (at_path-there forest (steps forest (suc ran)) name f.tree before whole.sound there_is
        ∙ ap (λ v. at_path (λ a. v) name f.tree) (sym (steps-last paged_machines paged_talks ran before) ∙ ap (step forest) steps-are))

  -- the lease is kept for want of memory
  pub row-keeps : may_spend paged_machines paged_talks forked now (rests_in then name)
      || (may_spend paged_machines paged_talks joined now (rests_in then name) || may_spend paged_machines paged_talks sent now (rests_in then name)) ≡ true
      → (depot : Shelves) (new : World) → StandsFor depot new f → Goes depot f (kept name ran) new
  unfolding Allows does
  row-keeps may depot new stands = record {
    allowed = subst (IfThere (Keeps paged_machines paged_talks ran (is_resting paged_machines paged_talks name (run_at paged_machines paged_talks name ran f.tree))))
        (sym there_is) (record {
          ran = ran-out;
          call = ap₂ (λ m t. may_spend paged_machines paged_talks forked m (is_resting paged_machines paged_talks name t)
              || (may_spend paged_machines paged_talks joined m (is_resting paged_machines paged_talks name t)
              || may_spend paged_machines paged_talks sent m (is_resting paged_machines paged_talks name t))) (lease-comes start now ran inbox lent) run-tree ∙ may;
        });
    after = stands;
  }

  -- it lives, or has ended
  pub settled-later : (e : Option Ending) → now.machine.ending ≡ e → later ≡ settled_by forest e (came_out inbox now) broods log
  unfolding boxed spots paged_machines machines
  settled-later e same = ap (λ o. settled_by forest o (came_out inbox now) broods log) same
