-- A forest of machines with more inside is, seen as machines with less, a forest of these.
use Rattle.std.proofs.Common.{◌≡◌, ℕ, zero, suc, ◌+◌, ◌*◌, ◌<◌, ◌≤◌, ◌&&◌, ◌||◌, not, eqb, Bool, true, false, cond, refl, sym, ap, ap₂, ◌∙◌, subst, List, [], ◌∷◌, Option, Some, None, option_map}
use Rattle.std.proofs.Common.{option_and_then, is_some}
use Rattle.forest_tree.specs.Operations.{Call, clone, join, kill, Grant, Operations, is_among, is_cloned, Makes, IsStep, IsChild, IsMachine}
use Rattle.forest_tree.specs.Tree.{Tree, node, Trees, no_tree, tree, Broods, no_brood, brood, Log, joined, killed, machine, broods_of, at_path, at_child, child_at, brood_of, without, at_brood, Path}
use Rattle.forest_tree.specs.Tree.{subtree}
use Rattle.forest_tree.specs.Step.{have_ended, with_ending, endings, alone, children_from, children, log_killed, settled_by, settled, join_by, step_by, step_from, step}
use Rattle.forest_tree.specs.Projection.{map_tree, map_trees, map_broods, map_log, Projects}

module _ {M N : Type 0} (f : M → N) where
  -- looks and changes go with the map
  if-trees : (same : Bool) (a b : Trees M) → map_trees f (cond same a b) ≡ cond same (map_trees f a) (map_trees f b)
  if-trees true a b = refl
  if-trees false a b = refl

  if-broods : (same : Bool) (a b : Broods M) → map_broods f (cond same a b) ≡ cond same (map_broods f a) (map_broods f b)
  if-broods true a b = refl
  if-broods false a b = refl

  pub brood_of-map : (t : ℕ) (broods : Broods M) → brood_of t (map_broods f broods) ≡ map_trees f (brood_of t broods)
  unfolding map_broods brood_of
  brood_of-map t no_brood = refl
  brood_of-map t (brood u trees rest) =
      ap (cond (eqb u t) (map_trees f trees)) (brood_of-map t rest) ∙ sym (if-trees (eqb u t) trees (brood_of t rest))

  without-map : (t : ℕ) (broods : Broods M) → without t (map_broods f broods) ≡ map_broods f (without t broods)
  unfolding map_broods without
  without-map t no_brood = refl
  without-map t (brood u trees rest) =
      ap (λ left. cond (eqb u t) left (brood u (map_trees f trees) left)) (without-map t rest)
      ∙ sym (if-broods (eqb u t) (without t rest) (brood u trees (without t rest)))

  pub child_at-map : (k : ℕ) (trees : Trees M) → child_at k (map_trees f trees) ≡ option_map (map_tree f) (child_at k trees)
  unfolding map_trees child_at
  child_at-map k no_tree = refl
  child_at-map zero (tree t rest) = refl
  child_at-map (suc zero) (tree t rest) = refl
  child_at-map (suc (suc k)) (tree t rest) = child_at-map (suc k) rest

  pub at_child-map : (g : Tree M → Tree M) (h : Tree N → Tree N) → ((t : Tree M) → h (map_tree f t) ≡ map_tree f (g t)) → (k : ℕ) (trees : Trees M)
      → at_child h k (map_trees f trees) ≡ map_trees f (at_child g k trees)
  unfolding map_trees at_child
  at_child-map g h same k no_tree = refl
  at_child-map g h same zero (tree t rest) = refl
  at_child-map g h same (suc zero) (tree t rest) = ap (λ u. tree u (map_trees f rest)) (same t)
  at_child-map g h same (suc (suc k)) (tree t rest) = ap (tree (map_tree f t)) (at_child-map g h same (suc k) rest)

  pub at_brood-map : (g : Trees M → Trees M) (h : Trees N → Trees N) → ((trees : Trees M) → h (map_trees f trees) ≡ map_trees f (g trees))
      → (t : ℕ) (broods : Broods M) → at_brood h t (map_broods f broods) ≡ map_broods f (at_brood g t broods)
  unfolding map_broods at_brood
  at_brood-map g h same t no_brood = refl
  at_brood-map g h same t (brood u trees rest) =
      ap₂ (brood u)
      (ap (λ changed. cond (eqb u t) changed (map_trees f trees)) (same trees) ∙ sym (if-trees (eqb u t) (g trees) trees))
      (at_brood-map g h same t rest)

  -- a change at a path
  pub at_path-map : (g : Tree M → Tree M) (h : Tree N → Tree N) → ((t : Tree M) → map_tree f (g t) ≡ h (map_tree f t)) → (path : Path) (t : Tree M)
      → map_tree f (at_path g path t) ≡ at_path h path (map_tree f t)
  unfolding map_tree at_path
  at_path-map g h same [] t = same t
  at_path-map g h same (b ∷ path) (node m broods log) =
      ap (λ after. node (f m) after (map_log f log))
      (sym (at_brood-map (at_child (at_path g path) b.child) (at_child (at_path h path) b.child)
      (λ trees. at_child-map (at_path g path) (at_path h path) (λ t. sym (at_path-map g h same path t)) b.child trees) b.ticket broods))

  pub machine-map : (t : Tree M) → machine (map_tree f t) ≡ f (machine t)
  unfolding map_tree
  machine-map (node m broods log) = refl

  pub broods-map : (t : Tree M) → broods_of (map_tree f t) ≡ map_broods f (broods_of t)
  unfolding map_tree
  broods-map (node m broods log) = refl

  -- the tree at a path
  pub subtree-map : (path : Path) (t : Tree M) → subtree path (map_tree f t) ≡ option_map (map_tree f) (subtree path t)
  unfolding subtree
  subtree-map [] t = refl
  subtree-map (b ∷ path) t =
      ap (λ broods. option_and_then (subtree path) (child_at b.child (brood_of b.ticket broods))) (broods-map t)
      ∙ ap (λ trees. option_and_then (subtree path) (child_at b.child trees)) (brood_of-map b.ticket (broods_of t))
      ∙ ap (option_and_then (subtree path)) (child_at-map b.child (brood_of b.ticket (broods_of t)))
      ∙ inside (child_at b.child (brood_of b.ticket (broods_of t))) (λ u. subtree-map path u)
    where
      inside : (c : Option (Tree M)) → ((u : Tree M) → subtree path (map_tree f u) ≡ option_map (map_tree f) (subtree path u))
          → option_and_then (subtree path) (option_map (map_tree f) c) ≡ option_map (map_tree f) (option_and_then (subtree path) c)
      inside None down = refl
      inside (Some u) down = down u

module _ {M N E : Type 0} (o : Operations M E) (p : Operations N E) (f : M → N) (is : Projects o p f) where
  pub have_ended-map : (trees : Trees M) → have_ended p (map_trees f trees) ≡ have_ended o trees
  unfolding map_trees have_ended
  have_ended-map no_tree = refl
  have_ended-map (tree t rest) =
      ap₂ (λ e all. is_some e && all) (ap p.ending (machine-map f t) ∙ is.ending (machine t)) (have_ended-map rest)

  endings-map : (trees : Trees M) → endings p (map_trees f trees) ≡ endings o trees
  unfolding map_trees endings
  endings-map no_tree = refl
  endings-map (tree t rest) = ap₂ (with_ending o) (ap p.ending (machine-map f t) ∙ is.ending (machine t)) (endings-map rest)

  children_from-map : (m : M) (k n : ℕ) → children_from p (f m) k n ≡ map_trees f (children_from o m k n)
  unfolding map_trees children_from
  children_from-map m k zero = refl
  children_from-map m k (suc n) = ap₂ (λ c rest. tree (alone p c) rest) (is.child m k) (children_from-map m (suc k) n)

  children-map : (m : M) (t : ℕ) → children p (f m) t ≡ map_trees f (children o m t)
  children-map m t = ap (λ (g : Grant). children_from p (f m) 1 g.children) (is.grant m t) ∙ children_from-map m 1 (o.grant m t).children

  log_killed-map : (m : M) (tickets : List ℕ) (log : Log M) → log_killed p (f m) tickets (map_log f log) ≡ map_log f (log_killed o m tickets log)
  unfolding map_log log_killed
  log_killed-map m [] log = refl
  log_killed-map m (t ∷ rest) log =
      ap (λ (g : Grant). log_killed p (f m) rest (killed (map_log f log) t g.children)) (is.grant m t)
      ∙ log_killed-map m rest (killed log t (o.grant m t).children)

  settled_by-map : (e : Option E) (m : M) (broods : Broods M) (log : Log M)
      → settled_by p e (f m) (map_broods f broods) (map_log f log) ≡ map_tree f (settled_by o e m broods log)
  unfolding map_tree
  settled_by-map None m broods log = refl
  settled_by-map (Some ending) m broods log =
      ap (λ log. node (f m) no_brood log)
      (ap (λ tickets. log_killed p (f m) tickets (map_log f log)) (is.cloned m) ∙ log_killed-map m (o.cloned m) log)

  settled-map : (n : N) (m : M) (broods : Broods M) (log : Log M) → n ≡ f m
      → settled p n (map_broods f broods) (map_log f log) ≡ map_tree f (settled o m broods log)
  settled-map n m broods log e =
      ap (λ k. settled p k (map_broods f broods) (map_log f log)) e
      ∙ ap (λ ending. settled_by p ending (f m) (map_broods f broods) (map_log f log)) (is.ending m)
      ∙ settled_by-map (o.ending m) m broods log

  join_by-map : (ready : Bool) (t : ℕ) (m : M) (broods : Broods M) (log : Log M)
      → join_by p ready t (f m) (map_broods f broods) (map_log f log) ≡ map_tree f (join_by o ready t m broods log)
  unfolding map_tree map_log
  join_by-map false t m broods log = refl
  join_by-map true t m broods log =
      ap (λ trees. settled p (p.after_join (f m) (endings p trees)) (without t (map_broods f broods)) (joined (map_log f log) t trees)) (brood_of-map f t broods)
      ∙ ap₂ (λ values left. settled p (p.after_join (f m) values) left (joined (map_log f log) t (map_trees f (brood_of t broods))))
      (endings-map (brood_of t broods)) (without-map f t broods)
      ∙ settled-map (p.after_join (f m) (endings o (brood_of t broods))) (o.after_join m (endings o (brood_of t broods)))
      (without t broods) (joined log t (brood_of t broods)) (is.after_join m (endings o (brood_of t broods)))

  step_by-map : (next : Option Call) (m : M) (broods : Broods M) (log : Log M)
      → step_by p next (f m) (map_broods f broods) (map_log f log) ≡ map_tree f (step_by o next m broods log)
  unfolding map_broods map_log
  step_by-map None m broods log = settled-map (p.advance (f m)) (o.advance m) broods log (is.advance m)
  step_by-map (Some (clone t)) m broods log =
      ap (λ kids. settled p (p.forked (f m)) (brood t kids (map_broods f broods)) (map_log f log)) (children-map m t)
      ∙ settled-map (p.forked (f m)) (o.forked m) (brood t (children o m t) broods) log (is.forked m)
  step_by-map (Some (join t)) m broods log =
      ap (λ ready. join_by p ready t (f m) (map_broods f broods) (map_log f log))
      (ap (have_ended p) (brood_of-map f t broods) ∙ have_ended-map (brood_of t broods))
      ∙ join_by-map (have_ended o (brood_of t broods)) t m broods log
  step_by-map (Some (kill t)) m broods log =
      ap₂ (λ left (g : Grant). settled p (p.after_kill (f m)) left (killed (map_log f log) t g.children)) (without-map f t broods) (is.grant m t)
      ∙ settled-map (p.after_kill (f m)) (o.after_kill m) (without t broods) (killed log t (o.grant m t).children) (is.after_kill m)

  step_from-map : (e : Option E) (m : M) (broods : Broods M) (log : Log M)
      → step_from p e (f m) (map_broods f broods) (map_log f log) ≡ map_tree f (step_from o e m broods log)
  unfolding map_tree
  step_from-map None m broods log =
      ap (λ next. step_by p next (f m) (map_broods f broods) (map_log f log)) (is.call m) ∙ step_by-map (o.call m) m broods log
  step_from-map (Some ending) m broods log = refl

  pub step-map : (t : Tree M) → step p (map_tree f t) ≡ map_tree f (step o t)
  unfolding map_tree step
  step-map (node m broods log) =
      ap (λ e. step_from p e (f m) (map_broods f broods) (map_log f log)) (is.ending m) ∙ step_from-map (o.ending m) m broods log

  -- what the machine with less keeps, the one with more does
  makes-map : (m : M) (next : Option Call) → Makes o m next → Makes p (f m) next
  makes-map m next makes = record {
    good = is.is_good m ∙ makes.good;
    lives = is.ending m ∙ makes.lives;
    call = is.call m ∙ makes.call;
  }

  cloned-map : (m : M) (t : ℕ) → is_cloned p (f m) t ≡ is_cloned o m t
  cloned-map m t = ap (is_among t) (is.cloned m)

  step-back : (m n : M) (k : N) (there here : ℕ → Bool) → k ≡ f n → ((t : ℕ) → there t ≡ here t) → IsStep p (f m) k there → IsStep o m n here
  step-back m n k there here e same s =
      let r : IsStep p (f m) (f n) there = subst (λ j. IsStep p (f m) j there) e s in
      record {
        good = sym (is.is_good n) ∙ r.good;
        counted = sym (is.left m) ∙ r.counted ∙ ap suc (is.left n);
        holding = sym (is.holding n) ∙ r.holding ∙ is.holding m;
        tickets = λ t. sym (cloned-map n t) ∙ r.tickets t ∙ same t;
        grants = λ t cloned. sym (is.grant n t) ∙ r.grants t (cloned-map n t ∙ cloned) ∙ is.grant m t;
        once = λ t may. sym (is.may_clone m t) ∙ r.once t (is.may_clone n t ∙ may);
      }

  child-back : (m n : M) (k : N) (t : ℕ) → k ≡ f n → IsChild p (f m) t k → IsChild o m t n
  child-back m n k t e c =
      let r : IsChild p (f m) t (f n) = subst (λ j. IsChild p (f m) t j) e c in
      record {
        good = sym (is.is_good n) ∙ r.good;
        counted = sym (is.left m) ∙ r.counted ∙ ap suc (is.left n);
        holding = sym (is.holding n) ∙ r.holding ∙ ap (λ (g : Grant). g.share) (is.grant m t);
        tickets = λ u. sym (cloned-map n u) ∙ r.tickets u;
      }

  pub IsMachine-projected : IsMachine p → IsMachine o
  IsMachine-projected rules = record {
    below_limit = λ m good lives. subst (λ n. 0 < n) (is.left m) (rules.below_limit (f m) (is.is_good m ∙ good) (is.ending m ∙ lives));
    advance = λ m makes.
        step-back m (o.advance m) (p.advance (f m)) (is_cloned p (f m)) (is_cloned o m) (is.advance m) (cloned-map m)
        (rules.advance (f m) (makes-map m None makes));
    cloned_once = λ m t good cloned. sym (is.may_clone m t) ∙ rules.cloned_once (f m) t (is.is_good m ∙ good) (cloned-map m t ∙ cloned);
    clone_affords = λ m t makes.
        subst (λ n. (o.grant m t).children * (1 + (o.grant m t).share) ≤ n) (is.holding m)
        (subst (λ (g : Grant). g.children * (1 + g.share) ≤ p.holding (f m)) (is.grant m t)
        (rules.clone_affords (f m) t (makes-map m (Some (clone t)) makes)));
    clone_may = λ m t makes. sym (is.may_clone m t) ∙ rules.clone_may (f m) t (makes-map m (Some (clone t)) makes);
    forked = λ m t makes.
        step-back m (o.forked m) (p.forked (f m)) (λ u. eqb t u || is_cloned p (f m) u) (λ u. eqb t u || is_cloned o m u) (is.forked m)
        (λ u. ap (λ b. eqb t u || b) (cloned-map m u)) (rules.forked (f m) t (makes-map m (Some (clone t)) makes));
    child = λ m t k makes first last.
        child-back m (o.child m k) (p.child (f m) k) t (is.child m k)
        (rules.child (f m) t k (makes-map m (Some (clone t)) makes) first (subst (λ (g : Grant). k ≤ g.children) (sym (is.grant m t)) last));
    join_is_cloned = λ m t makes. sym (cloned-map m t) ∙ rules.join_is_cloned (f m) t (makes-map m (Some (join t)) makes);
    after_join = λ m t values makes all.
        step-back m (o.after_join m values) (p.after_join (f m) values)
        (λ u. not (eqb t u) && is_cloned p (f m) u) (λ u. not (eqb t u) && is_cloned o m u) (is.after_join m values)
        (λ u. ap (λ b. not (eqb t u) && b) (cloned-map m u))
        (rules.after_join (f m) t values (makes-map m (Some (join t)) makes) (all ∙ ap (λ (g : Grant). g.children) (sym (is.grant m t))));
    kill_is_cloned = λ m t makes. sym (cloned-map m t) ∙ rules.kill_is_cloned (f m) t (makes-map m (Some (kill t)) makes);
    after_kill = λ m t makes.
        step-back m (o.after_kill m) (p.after_kill (f m))
        (λ u. not (eqb t u) && is_cloned p (f m) u) (λ u. not (eqb t u) && is_cloned o m u) (is.after_kill m)
        (λ u. ap (λ b. not (eqb t u) && b) (cloned-map m u))
        (rules.after_kill (f m) t (makes-map m (Some (kill t)) makes));
  }
