-- Machines with more inside, seen as machines with less: their steps and ends are those of what is seen.
use Rattle.std.proofs.Common.{◌≡◌, ℕ, zero, suc, ◌+◌, Bool, true, false, not, ◌&&◌, ◌||◌, refl, ap, ap₂, ◌∙◌, List, [], ◌∷◌, ◌++◌, map, replicate, Option, Some, None, is_some, option_map}
use Rattle.forest_tree.specs.Operations.{Call, clone, join, kill, Grant, Operations}
use Rattle.forest_tree.specs.Tree.{Tree, node, Trees, no_tree, tree, Broods, no_brood, brood, machine, broods_of, at_child, child_at, brood_of, at_brood, Path, with_broods}
use Rattle.forest_tree.specs.Step as own
use Rattle.forest_tree.specs.Step.{have_ended, step}
use Rattle.forest_tree.specs.Ahead.{most_ahead, own_weight, weigh, weigh_trees, weigh_broods, ahead}
use Rattle.forest_tree.specs.Projection.{map_tree, map_trees, map_broods, map_log, Projects}
use Rattle.forest_tree.proofs.Projected.{child_at-map, at_child-map, brood_of-map, at_brood-map, machine-map, broods-map, have_ended-map, step-map}
use Rattle.sibling_forest.specs.Talk.{Talk, send, receive, Talks, Inbox, queue, at_queue, first_taken, Box, kept_by, after, after_receive, advance_by, born_by, boxed}
use Rattle.sibling_forest.specs.Settle.{is_empty, box_at, lives_there, is_full_there, waits_by, sibling_rests, sibling_rests_by, heard_by, delivered, deliver_by, sibling_step, sibling_step_by, settle}
use Rattle.sibling_forest.specs.Settle.{rests_there, rests_at}
use Rattle.sibling_forest.specs.Finish.{paths, paths_of_broods, paths_of_trees, found_by, first_not, first_path, next_by, next_path, go_on, run, finish}
use Rattle.sibling_forest.specs.Laws.{TalksAlike, box_of}

module _ {M N : Type 0} (f : M → N) where
  with-map : (g : Broods M → Broods M) (h : Broods N → Broods N) → ((broods : Broods M) → h (map_broods f broods) ≡ map_broods f (g broods)) → (t : Tree M)
      → with_broods h (map_tree f t) ≡ map_tree f (with_broods g t)
  unfolding map_tree
  with-map g h same (node m broods log) = ap (λ b. node (f m) b (map_log f log)) (same broods)

  mutual
    unfolding paths map_tree

    paths-map : (t : Tree M) → paths (map_tree f t) ≡ paths t
    paths-map (node m broods log) = ap (λ (p : List Path). [] ∷ p) (paths_of_broods-map broods)

    paths_of_broods-map : (broods : Broods M) → paths_of_broods (map_broods f broods) ≡ paths_of_broods broods
    paths_of_broods-map no_brood = refl
    paths_of_broods-map (brood t trees rest) = ap₂ (λ (a b : List Path). a ++ b) (paths_of_broods-map rest) (paths_of_trees-map t 1 trees)

    paths_of_trees-map : (t i : ℕ) (trees : Trees M) → paths_of_trees t i (map_trees f trees) ≡ paths_of_trees t i trees
    paths_of_trees-map t i no_tree = refl
    paths_of_trees-map t i (tree c rest) =
        ap₂ (λ (a b : List Path). map (λ path. record { ticket = t; child = i } ∷ path) a ++ b) (paths-map c) (paths_of_trees-map t (suc i) rest)

first-same : (r s : Path → Bool) → ((p : Path) → r p ≡ s p) → (list : List Path) → first_not r list ≡ first_not s list
unfolding first_not
first-same r s same [] = refl
first-same r s same (p ∷ rest) = ap₂ (λ b later. found_by b p later) (same p) (first-same r s same rest)

module _ {M N E : Type 0} (o : Operations M E) (p : Operations N E) (k : Talks M) (l : Talks N) (f : M → N) (is : Projects o p f) (alike : TalksAlike k l f) where
  abbrev g : Box M → Box N
  g = box_of f

  after-map : (n : M) (inbox : Inbox) → after p l (f n) inbox ≡ g (after o k n inbox)
  after-map n inbox = ap (λ e. record { machine = f n; inbox = kept e }) (is.ending n) ∙ by (o.ending n)
    where
      kept : Option E → Inbox
      kept e = kept_by p l e inbox

      by : (e : Option E) → ◌≡◌ {A = Box N} (record { machine = f n; inbox = kept_by p l e inbox }) (record { machine = f n; inbox = kept_by o k e inbox })
      by None = refl
      by (Some ending) = refl

  receive-map : (q : List ℕ) (j : ℕ) (b : Box M) → after_receive p l q j (g b) ≡ g (after_receive o k q j b)
  receive-map [] j b = ap (λ n. after p l n b.inbox) (alike.received b.machine None) ∙ after-map (k.received b.machine None) b.inbox
  receive-map (w ∷ rest) j b =
      ap (λ n. after p l n (at_queue first_taken j b.inbox)) (alike.received b.machine (Some w))
      ∙ after-map (k.received b.machine (Some w)) (at_queue first_taken j b.inbox)

  advance-map : (what : Option Talk) (b : Box M) → advance_by p l what (g b) ≡ g (advance_by o k what b)
  advance-map None b = ap (λ n. after p l n b.inbox) (is.advance b.machine) ∙ after-map (o.advance b.machine) b.inbox
  advance-map (Some (send j)) b = ap (λ n. after p l n b.inbox) (is.advance b.machine) ∙ after-map (o.advance b.machine) b.inbox
  advance-map (Some (receive j)) b = receive-map (queue j b.inbox) j b

  born-map : (call : Option Call) (m : M) → born_by p l call (f m) ≡ born_by o k call m
  born-map None m = refl
  born-map (Some (clone t)) m = ap (λ (x : Grant). x.children) (is.grant m t)
  born-map (Some (join t)) m = refl
  born-map (Some (kill t)) m = refl

  pub boxes-project : Projects (boxed o k) (boxed p l) g
  unfolding boxed
  boxes-project = record {
    ending = λ b. is.ending b.machine;
    call = λ b. is.call b.machine;
    left = λ b. is.left b.machine;
    holding = λ b. is.holding b.machine;
    cloned = λ b. is.cloned b.machine;
    grant = λ b t. is.grant b.machine t;
    may_clone = λ b t. is.may_clone b.machine t;
    is_good = λ b. is.is_good b.machine;
    advance = λ b. ap (λ what. advance_by p l what (g b)) (alike.talk b.machine) ∙ advance-map (k.talk b.machine) b;
    forked = λ b. ap (λ n. after p l n b.inbox) (is.forked b.machine) ∙ after-map (o.forked b.machine) b.inbox;
    child = λ b i. ap₂ (λ (n : N) (count : ℕ). record { machine = n; inbox = replicate count [] }) (is.child b.machine i)
        (ap (λ call. born_by p l call (f b.machine)) (is.call b.machine) ∙ born-map (o.call b.machine) b.machine);
    after_join = λ b endings. ap (λ n. after p l n b.inbox) (is.after_join b.machine endings) ∙ after-map (o.after_join b.machine endings) b.inbox;
    after_kill = λ b. ap (λ n. after p l n b.inbox) (is.after_kill b.machine) ∙ after-map (o.after_kill b.machine) b.inbox;
  }

  waits-map : (call : Option Call) (broods : Broods (Box M)) → own.waits_by (boxed p l) call (map_broods g broods) ≡ own.waits_by (boxed o k) call broods
  waits-map None broods = refl
  waits-map (Some (clone t)) broods = refl
  waits-map (Some (join t)) broods = ap not (ap (have_ended (boxed p l)) (brood_of-map g t broods) ∙ have_ended-map (boxed o k) (boxed p l) g boxes-project (brood_of t broods))
  waits-map (Some (kill t)) broods = refl

  own-rests-map : (t : Tree (Box M)) → own.rests (boxed p l) (Some (map_tree g t)) ≡ own.rests (boxed o k) (Some t)
  unfolding map_tree boxed
  own-rests-map (node b broods log) =
      ap₂ (λ e w. is_some e || w) (is.ending b.machine)
      (ap (λ call. own.waits_by (boxed p l) call (map_broods g broods)) (is.call b.machine) ∙ waits-map (o.call b.machine) broods)

  box_at-map : (j : ℕ) (trees : Trees (Box M)) → box_at p l j (map_trees g trees) ≡ option_map g (box_at o k j trees)
  box_at-map j trees = ap (option_map machine) (child_at-map g j trees) ∙ by (child_at j trees)
    where
      by : (c : Option (Tree (Box M))) → option_map machine (option_map (map_tree g) c) ≡ option_map g (option_map machine c)
      by None = refl
      by (Some t) = ap Some (machine-map g t)

  lives-map : (c : Option (Box M)) → lives_there p l (option_map g c) ≡ lives_there o k c
  lives-map None = refl
  lives-map (Some b) = ap (λ e. not (is_some e)) (is.ending b.machine)

  full-map : (i : ℕ) (c : Option (Box M)) → is_full_there p l i (option_map g c) ≡ is_full_there o k i c
  full-map i None = refl
  full-map i (Some b) = refl

  talk-waits-map : (what : Option Talk) (i : ℕ) (b : Box M) (trees : Trees (Box M)) → waits_by p l what i (g b) (map_trees g trees) ≡ waits_by o k what i b trees
  talk-waits-map None i b trees = refl
  talk-waits-map (Some (send j)) i b trees =
      ap (λ c. lives_there p l c && is_full_there p l i c) (box_at-map j trees)
      ∙ ap₂ (λ a c. a && c) (lives-map (box_at o k j trees)) (full-map i (box_at o k j trees))
  talk-waits-map (Some (receive j)) i b trees =
      ap (λ c. lives_there p l c && is_empty (queue j b.inbox)) (box_at-map j trees)
      ∙ ap (λ a. a && is_empty (queue j b.inbox)) (lives-map (box_at o k j trees))

  rests_by-map : (c : Option (Tree (Box M))) (i : ℕ) (trees : Trees (Box M))
      → sibling_rests_by p l (option_map (map_tree g) c) i (map_trees g trees) ≡ sibling_rests_by o k c i trees
  rests_by-map None i trees = refl
  rests_by-map (Some t) i trees =
      ap₂ (λ a b. a || b) (own-rests-map t)
      (ap (λ (b : Box N). waits_by p l (l.talk b.machine) i b (map_trees g trees)) (machine-map g t)
      ∙ ap (λ what. waits_by p l what i (g (machine t)) (map_trees g trees)) (alike.talk (machine t).machine)
      ∙ talk-waits-map (k.talk (machine t).machine) i (machine t) trees)

  sibling-rests-map : (i : ℕ) (trees : Trees (Box M)) → sibling_rests p l i (map_trees g trees) ≡ sibling_rests o k i trees
  sibling-rests-map i trees = ap (λ c. sibling_rests_by p l c i (map_trees g trees)) (child_at-map g i trees) ∙ rests_by-map (child_at i trees) i trees

  heard-map : (e : Option E) (i word : ℕ) (b : Box M) → heard_by p l e i word (g b) ≡ g (heard_by o k e i word b)
  heard-map None i word b = refl
  heard-map (Some ending) i word b = refl

  delivered-map : (i word : ℕ) (t : Tree (Box M)) → delivered p l i word (map_tree g t) ≡ map_tree g (delivered o k i word t)
  unfolding map_tree
  delivered-map i word (node b broods log) =
      ap (λ c. node c (map_broods g broods) (map_log g log))
      (ap (λ e. heard_by p l e i word (g b)) (is.ending b.machine) ∙ heard-map (o.ending b.machine) i word b)

  deliver-map : (what : Option Talk) (i word : ℕ) (trees : Trees (Box M)) → deliver_by p l what i word (map_trees g trees) ≡ map_trees g (deliver_by o k what i word trees)
  deliver-map None i word trees = refl
  deliver-map (Some (send j)) i word trees = at_child-map g (delivered o k i word) (delivered p l i word) (delivered-map i word) j trees
  deliver-map (Some (receive j)) i word trees = refl

  own-step-map : (t : Tree (Box M)) → step (boxed p l) (map_tree g t) ≡ map_tree g (step (boxed o k) t)
  own-step-map t = step-map (boxed o k) (boxed p l) g boxes-project t

  step_by-map : (rest : Bool) (c : Option (Tree (Box M))) (i : ℕ) (trees : Trees (Box M))
      → sibling_step_by p l rest (option_map (map_tree g) c) i (map_trees g trees) ≡ map_trees g (sibling_step_by o k rest c i trees)
  step_by-map true c i trees = refl
  step_by-map false None i trees = refl
  step_by-map false (Some t) i trees =
      ap (λ (b : Box N). deliver_by p l (l.talk b.machine) i (l.word b.machine) (at_child (step (boxed p l)) i (map_trees g trees))) (machine-map g t)
      ∙ ap₂ (λ what word. deliver_by p l what i word (at_child (step (boxed p l)) i (map_trees g trees))) (alike.talk (machine t).machine) (alike.word (machine t).machine)
      ∙ ap (deliver_by p l (k.talk (machine t).machine) i (k.word (machine t).machine)) (at_child-map g (step (boxed o k)) (step (boxed p l)) own-step-map i trees)
      ∙ deliver-map (k.talk (machine t).machine) i (k.word (machine t).machine) (at_child (step (boxed o k)) i trees)

  sibling-step-map : (i : ℕ) (trees : Trees (Box M)) → sibling_step p l i (map_trees g trees) ≡ map_trees g (sibling_step o k i trees)
  sibling-step-map i trees =
      ap₂ (λ rest c. sibling_step_by p l rest c i (map_trees g trees)) (sibling-rests-map i trees) (child_at-map g i trees)
      ∙ step_by-map (sibling_rests o k i trees) (child_at i trees) i trees

  pub settle-map : (path : Path) (t : Tree (Box M)) → settle p l path (map_tree g t) ≡ map_tree g (settle o k path t)
  unfolding settle
  settle-map [] t = own-step-map t
  settle-map (b ∷ []) t =
      with-map g (at_brood (sibling_step o k b.child) b.ticket) (at_brood (sibling_step p l b.child) b.ticket)
      (at_brood-map g (sibling_step o k b.child) (sibling_step p l b.child) (sibling-step-map b.child) b.ticket) t
  settle-map (b ∷ (c ∷ path)) t =
      with-map g (at_brood (at_child (settle o k (c ∷ path)) b.child) b.ticket) (at_brood (at_child (settle p l (c ∷ path)) b.child) b.ticket)
      (at_brood-map g (at_child (settle o k (c ∷ path)) b.child) (at_child (settle p l (c ∷ path)) b.child)
      (at_child-map g (settle o k (c ∷ path)) (settle p l (c ∷ path)) (λ u. settle-map (c ∷ path) u) b.child) b.ticket) t

  there-map : (path : Path) (c : Option (Tree (Box M))) → ((t : Tree (Box M)) → rests_at p l path (map_tree g t) ≡ rests_at o k path t)
      → rests_there (rests_at p l path) (option_map (map_tree g) c) ≡ rests_there (rests_at o k path) c
  there-map path None same = refl
  there-map path (Some t) same = same t

  pub rests-map : (path : Path) (t : Tree (Box M)) → rests_at p l path (map_tree g t) ≡ rests_at o k path t
  unfolding rests_at
  rests-map [] t = own-rests-map t
  rests-map (b ∷ []) t =
      ap (λ broods. sibling_rests p l b.child (brood_of b.ticket broods)) (broods-map g t)
      ∙ ap (sibling_rests p l b.child) (brood_of-map g b.ticket (broods_of t))
      ∙ sibling-rests-map b.child (brood_of b.ticket (broods_of t))
  rests-map (b ∷ (c ∷ path)) t =
      ap (λ broods. rests_there (rests_at p l (c ∷ path)) (child_at b.child (brood_of b.ticket broods))) (broods-map g t)
      ∙ ap (λ trees. rests_there (rests_at p l (c ∷ path)) (child_at b.child trees)) (brood_of-map g b.ticket (broods_of t))
      ∙ ap (rests_there (rests_at p l (c ∷ path))) (child_at-map g b.child (brood_of b.ticket (broods_of t)))
      ∙ there-map (c ∷ path) (child_at b.child (brood_of b.ticket (broods_of t))) (λ u. rests-map (c ∷ path) u)

  own-weight-map : (e : Option E) (b : Box M) → own_weight (boxed p l) 0 (λ b. 0) e (g b) ≡ own_weight (boxed o k) 0 (λ b. 0) e b
  unfolding boxed
  own-weight-map None b = ap₂ (λ (x y : ℕ). most_ahead 0 x y + 0) (is.left b.machine) (is.holding b.machine)
  own-weight-map (Some ending) b = refl

  mutual
    unfolding weigh map_tree boxed

    ahead-map : (t : Tree (Box M)) → ahead (boxed p l) (map_tree g t) ≡ ahead (boxed o k) t
    ahead-map (node b broods log) =
        ap₂ (λ (x y : ℕ). x + y) (ap (λ e. own_weight (boxed p l) 0 (λ b. 0) e (g b)) (is.ending b.machine) ∙ own-weight-map (o.ending b.machine) b) (ahead-broods-map broods)

    ahead-trees-map : (trees : Trees (Box M)) → weigh_trees (boxed p l) 0 (λ b. 0) (map_trees g trees) ≡ weigh_trees (boxed o k) 0 (λ b. 0) trees
    ahead-trees-map no_tree = refl
    ahead-trees-map (tree t rest) = ap₂ (λ (x y : ℕ). x + y) (ahead-map t) (ahead-trees-map rest)

    ahead-broods-map : (broods : Broods (Box M)) → weigh_broods (boxed p l) 0 (λ b. 0) (map_broods g broods) ≡ weigh_broods (boxed o k) 0 (λ b. 0) broods
    ahead-broods-map no_brood = refl
    ahead-broods-map (brood t trees rest) = ap₂ (λ (x y : ℕ). x + y) (ahead-trees-map trees) (ahead-broods-map rest)

  next-map : (t : Tree (Box M)) → next_path p l (map_tree g t) ≡ next_path o k t
  unfolding boxed
  next-map t =
      ap₂ (λ e path. next_by p l (is_some e) path)
      (ap (λ (b : Box N). p.ending b.machine) (machine-map g t) ∙ is.ending (machine t).machine)
      (ap (first_not (λ path. rests_at p l path (map_tree g t))) (paths-map g t)
      ∙ first-same (λ path. rests_at p l path (map_tree g t)) (λ path. rests_at o k path t) (λ path. rests-map path t) (paths t))
      ∙ by (is_some (o.ending (machine t).machine)) (first_path o k t)
    where
      by : (ended : Bool) (path : Option Path) → next_by p l ended path ≡ next_by o k ended path
      by true path = refl
      by false path = refl

  run-map : (n : ℕ) (t : Tree (Box M)) → run p l n (map_tree g t) ≡ map_tree g (run o k n t)
  unfolding run
  run-map zero t = refl
  run-map (suc n) t =
      ap (λ next. go_on p l next (λ path. run p l n (settle p l path (map_tree g t))) (map_tree g t)) (next-map t)
      ∙ by (next_path o k t) (λ path. ap (run p l n) (settle-map path t) ∙ run-map n (settle o k path t))
    where
      by : (next : Option Path) → ((path : Path) → run p l n (settle p l path (map_tree g t)) ≡ map_tree g (run o k n (settle o k path t)))
          → go_on p l next (λ path. run p l n (settle p l path (map_tree g t))) (map_tree g t)
          ≡ map_tree g (go_on o k next (λ path. run o k n (settle o k path t)) t)
      by None down = refl
      by (Some path) down = down path

  pub finish-map : (t : Tree (Box M)) → finish p l (map_tree g t) ≡ map_tree g (finish o k t)
  unfolding finish
  finish-map t = ap (λ n. run p l n (map_tree g t)) (ahead-map t) ∙ run-map (ahead (boxed o k) t) t
