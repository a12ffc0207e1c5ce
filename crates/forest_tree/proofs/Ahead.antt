-- Each step lowers what is ahead by more than a place counts, and a tree whose root lives has a machine that
-- makes one.
use Rattle.std.proofs.Common.{◌≡◌, ℕ, zero, suc, ◌+◌, ◌*◌, ◌<◌, ◌≤◌, ◌&&◌, ◌||◌, not, eqb, Bool, true, false, cond, refl, pred, sym, ap, ◌∙◌, subst, arith, le_refl, [], ◌∷◌, Option, Some, None}
use Rattle.std.proofs.Common.{is_some, option_and_then}
use Rattle.std.proofs.lemmas.Bool.{not-true, or_parts}
use Rattle.forest_tree.specs.Operations.{Call, clone, join, kill, Operations, is_cloned, Makes, IsStep, IsChild, IsMachine}
use Rattle.forest_tree.specs.Tree.{Tree, node, Trees, no_tree, tree, Broods, no_brood, brood, Log, joined, killed, machine, at_path, at_child, child_at, brood_of, without, at_brood, broods_with}
use Rattle.forest_tree.specs.Tree.{Branch, Path, subtree}
use Rattle.forest_tree.specs.Step.{has_ended, have_ended, endings, alone, children_from, children, settled_by, settled, waits_by, join_by, step_by, step, rests, steps}
use Rattle.forest_tree.specs.Sound.{IsSound}
use Rattle.forest_tree.specs.Ahead.{most_ahead, own_weight, weigh, weigh_trees, weigh_broods, ahead}
use Rattle.forest_tree.proofs.All.{AllTrees, AllBroods, AllTrees-brood_of, tree-below}
use Rattle.forest_tree.proofs.Broods.{one_if}
use Rattle.forest_tree.proofs.Sound.{root-sound, join-step, step-keeps}
use Rattle.forest_tree.proofs.Steps.{step-lives}
use Rattle.forest_tree.proofs.Places.{some-same, below-at, is-within}
use Rattle.forest_tree.proofs.Rests.{lives-none, step-rests, one-brood, at_brood-absent}

module _ {M E : Type 0} (o : Operations M E) where
  -- a place where a machine makes a step
  abbrev pub Moves : Tree M → Type 0
  Moves t = (path : Path) × (rests o (subtree path t) ≡ false)

  -- of trees that have not all ended, one has not
  abbrev LivesMoves : Tree M → Type 0
  LivesMoves t = has_ended o t ≡ false → Moves t

  some-lives : (trees : Trees M) → AllTrees LivesMoves trees → have_ended o trees ≡ false
      → (k : ℕ) × (c : Tree M) × (child_at (suc k) trees ≡ Some c) × Moves c
  unfolding AllTrees have_ended child_at
  some-lives no_tree all h = absurd (cc)
  some-lives (tree t rest) all h = by (has_ended o t) refl h (λ later. some-lives rest all.1 later)
    where
      by : (ended : Bool) → has_ended o t ≡ ended → ended && have_ended o rest ≡ false
          → (have_ended o rest ≡ false → (k : ℕ) × (c : Tree M) × (child_at (suc k) rest ≡ Some c) × Moves c)
          → (k : ℕ) × (c : Tree M) × (child_at (suc k) (tree t rest) ≡ Some c) × Moves c
      by false e h later = (0, t, refl, all.0 e)
      by true e h later = let found = later h in (suc found.0, found.1, found.2, found.3)

  waits-child : (next : Option Call) (broods : Broods M) → AllBroods LivesMoves broods → waits_by o next broods ≡ true
      → (b : Branch) × (c : Tree M) × (child_at b.child (brood_of b.ticket broods) ≡ Some c) × Moves c
  waits-child None broods all h = absurd (cc)
  waits-child (Some (clone t)) broods all h = absurd (cc)
  waits-child (Some (join t)) broods all h =
      let found = some-lives (brood_of t broods) (AllTrees-brood_of LivesMoves t broods all) (not-true (have_ended o (brood_of t broods)) h) in
      (record { ticket = t; child = suc found.0 }, found.1, found.2, found.3)
  waits-child (Some (kill t)) broods all h = absurd (cc)

  moves-root : (m : M) (broods : Broods M) (log : Log M) → AllBroods LivesMoves broods → LivesMoves (node m broods log)
  unfolding subtree
  moves-root m broods log all lives = by (waits_by o (o.call m) broods) refl
    where
      by : (waiting : Bool) → waits_by o (o.call m) broods ≡ waiting → Moves (node m broods log)
      by false e = ([], ap (λ b. b || waits_by o (o.call m) broods) lives ∙ e)
      by true e =
          let found = waits-child (o.call m) broods all e in (
            found.0 ∷ found.3.0,
            ap (λ c. rests o (option_and_then (subtree found.3.0) c)) found.2 ∙ found.3.1,
          )

  pub live-moves : (t : Tree M) → has_ended o t ≡ false → Moves t
  live-moves t lives = tree-below LivesMoves moves-root t lives

product : (a b x y : ℕ) → a ≤ b → x ≤ y → a * x ≤ b * y
product a b x y h k = grind arith

pred-le : (a b : ℕ) → a ≤ b → pred a ≤ pred b
pred-le zero b h = omega arith
pred-le (suc a) zero h = absurd (omega arith)
pred-le (suc a) (suc b) h = omega arith

-- more to hold, more ahead
most-grows : (worth left less more : ℕ) → less ≤ more → most_ahead worth left less ≤ most_ahead worth left more
unfolding most_ahead
most-grows worth zero less more h = le_refl 0
most-grows worth (suc left) less more h =
    let same : most_ahead worth left less ≤ most_ahead worth left more = most-grows worth left less more h in
    let down : most_ahead worth left (pred less) ≤ most_ahead worth left (pred more) =
    most-grows worth left (pred less) (pred more) (pred-le less more h) in
    let below : less * (worth + most_ahead worth left (pred less)) ≤ more * (worth + most_ahead worth left (pred more)) =
    product less more (worth + most_ahead worth left (pred less)) (worth + most_ahead worth left (pred more)) h (omega (arith, down)) in
    omega (arith, same, below)

-- a step of a machine's own, and a clone
own-falls : (worth left h : ℕ) → most_ahead worth left h + worth < most_ahead worth (suc left) h
unfolding most_ahead
own-falls worth left h = omega arith

less-each : (n share held : ℕ) → suc n * (1 + share) ≤ held → (suc n ≤ held) × (share ≤ pred held)
less-each n share zero fits = absurd (omega arith)
less-each n share (suc held) fits = (omega arith, omega arith)

fewer-born : (worth n share h left : ℕ) → n * (1 + share) ≤ h
    → n * (most_ahead worth left share + worth) + (most_ahead worth left h + worth) < most_ahead worth (suc left) h
unfolding most_ahead
fewer-born worth zero share h left fits = omega arith
fewer-born worth (suc n) share h left fits =
    let each = less-each n share h fits in
    let down : most_ahead worth left share ≤ most_ahead worth left (pred h) = most-grows worth left share (pred h) each.1 in
    let below : suc n * (most_ahead worth left share + worth) ≤ h * (worth + most_ahead worth left (pred h)) =
    product (suc n) h (most_ahead worth left share + worth) (worth + most_ahead worth left (pred h)) each.0 (omega (arith, down)) in
    omega (arith, below)

one-more : (n y a b : ℕ) → a ≤ y → b ≤ n * y → a + b ≤ suc n * y
one-more n y a b first rest = omega arith

module _ {M E : Type 0} (o : Operations M E) (worth : ℕ) (at : M → ℕ) where
  -- the weight without the place of the machine at the root
  abbrev pub own_under : Option E → M → ℕ
  own_under None m = most_ahead worth (o.left m) (o.holding m)
  own_under (Some ending) m = 0

  abbrev pub under : Tree M → ℕ
  under (node m broods log) = own_under (o.ending m) m + weigh_broods o worth at broods

  weight-by : (e : Option E) (m : M) → own_weight o worth at e m ≤ own_under e m + at m
  weight-by None m = le_refl _
  weight-by (Some ending) m = omega arith

  pub weigh-within : (t : Tree M) → weigh o worth at t ≤ under t + at (machine t)
  unfolding weigh
  weigh-within (node m broods log) =
      let own : own_weight o worth at (o.ending m) m ≤ own_under (o.ending m) m + at m = weight-by (o.ending m) m in omega arith

  pub weigh-lives : (t : Tree M) → o.ending (machine t) ≡ None → weigh o worth at t ≡ under t + at (machine t)
  unfolding weigh
  weigh-lives (node m broods log) lives =
      let own : own_weight o worth at (o.ending m) m ≡ own_under (o.ending m) m + at m =
      subst (λ e. own_weight o worth at e m ≡ own_under e m + at m) (sym lives) refl in
      omega arith

  -- what a step leads to weighs no more than its machine and broods
  settled_by-under : (e : Option E) (n : M) (broods : Broods M) (log : Log M) → o.ending n ≡ e
      → under (settled_by o e n broods log) ≤ most_ahead worth (o.left n) (o.holding n) + weigh_broods o worth at broods
  unfolding weigh
  settled_by-under None n broods log e =
      subst (λ i. own_under i n + weigh_broods o worth at broods ≤ own_under None n + weigh_broods o worth at broods) (sym e) (le_refl _)
  settled_by-under (Some ending) n broods log e =
      let nothing : own_under (o.ending n) n ≡ 0 = ap (λ i. own_under i n) e in omega arith

  settled-under : (m n : M) (cloned : ℕ → Bool) (broods : Broods M) (log : Log M) (left : ℕ) → o.left m ≡ suc left → IsStep o m n cloned
      → under (settled o n broods log) ≤ most_ahead worth left (o.holding m) + weigh_broods o worth at broods
  settled-under m n cloned broods log left e s =
      let counted : o.left m ≡ suc (o.left n) = s.counted in
      let same : o.left n ≡ left = omega arith in
      subst (λ k. under (settled o n broods log) ≤ most_ahead worth k (o.holding m) + weigh_broods o worth at broods) same
      (subst (λ k. under (settled o n broods log) ≤ most_ahead worth (o.left n) k + weigh_broods o worth at broods) s.holding
      (settled_by-under (o.ending n) n broods log refl))

  without-head : (u : ℕ) (trees : Trees M) (rest left : Broods M) (same : Bool) → weigh_broods o worth at left ≤ weigh_broods o worth at rest
      → weigh_broods o worth at (cond same left (brood u trees left)) ≤ weigh_broods o worth at (brood u trees rest)
  unfolding weigh
  without-head u trees rest left true h = omega arith
  without-head u trees rest left false h = omega arith

  without-within : (t : ℕ) (broods : Broods M) → weigh_broods o worth at (without t broods) ≤ weigh_broods o worth at broods
  unfolding without
  without-within t no_brood = le_refl _
  without-within t (brood u trees rest) = without-head u trees rest (without t rest) (eqb u t) (without-within t rest)

  module _ (rules : IsMachine o) (low : (m : M) → at m ≤ worth) where
    -- the children of a clone
    alone-by : (e : Option E) (c : M) → own_weight o worth at e c ≤ most_ahead worth (o.left c) (o.holding c) + worth
    alone-by None c = let one : at c ≤ worth = low c in omega arith
    alone-by (Some ending) c = omega arith

    alone-within : (m : M) (t left : ℕ) (c : M) → o.left m ≡ suc left → IsChild o m t c
        → weigh o worth at (alone o c) ≤ most_ahead worth left (o.grant m t).share + worth
    unfolding weigh
    alone-within m t left c e born =
        let counted : o.left m ≡ suc (o.left c) = born.counted in
        let same : o.left c ≡ left = omega arith in
        let own : own_weight o worth at (o.ending c) c ≤ most_ahead worth left (o.grant m t).share + worth =
        subst (λ k. own_weight o worth at (o.ending c) c ≤ most_ahead worth k (o.grant m t).share + worth) same
        (subst (λ k. own_weight o worth at (o.ending c) c ≤ most_ahead worth (o.left c) k + worth) born.holding (alone-by (o.ending c) c)) in
        omega arith

    children_from-within : (m : M) (t left : ℕ) → o.left m ≡ suc left → Makes o m (Some (clone t)) → (n k : ℕ) → 1 ≤ k
        → k + n ≤ suc (o.grant m t).children → weigh_trees o worth at (children_from o m k n) ≤ n * (most_ahead worth left (o.grant m t).share + worth)
    unfolding weigh children_from
    children_from-within m t left e makes zero k first last = omega arith
    children_from-within m t left e makes (suc n) k first last =
        one-more n (most_ahead worth left (o.grant m t).share + worth) (weigh o worth at (alone o (o.child m k))) (weigh_trees o worth at (children_from o m (suc k) n))
        (alone-within m t left (o.child m k) e (rules.child m t k makes first (omega arith)))
        (children_from-within m t left e makes n (suc k) (omega arith) (omega arith))

    children-fall : (m : M) (t left : ℕ) → o.left m ≡ suc left → Makes o m (Some (clone t))
        → weigh_trees o worth at (children o m t) + most_ahead worth left (o.holding m) + worth < most_ahead worth (suc left) (o.holding m)
    children-fall m t left e makes =
        let n : ℕ = (o.grant m t).children in
        let share : ℕ = (o.grant m t).share in
        let kids : weigh_trees o worth at (children o m t) ≤ n * (most_ahead worth left share + worth) =
        children_from-within m t left e makes n 1 (omega arith) (omega arith) in
        let all : n * (most_ahead worth left share + worth) + (most_ahead worth left (o.holding m) + worth) < most_ahead worth (suc left) (o.holding m) =
        fewer-born worth n share (o.holding m) left (rules.clone_affords m t makes) in
        by (weigh_trees o worth at (children o m t)) (n * (most_ahead worth left share + worth)) (most_ahead worth left (o.holding m)) (most_ahead worth (suc left) (o.holding m)) kids all
      where
        by : (a b c d : ℕ) → a ≤ b → b + (c + worth) < d → a + c + worth < d
        by a b c d h k = omega arith

    -- by the kinds of the step
    join-falls : (ready : Bool) (t : ℕ) (m : M) (broods : Broods M) (log : Log M) (left : ℕ) → have_ended o (brood_of t broods) ≡ ready
        → o.left m ≡ suc left → Makes o m (Some (join t)) → IsSound o (node m broods log) → not ready ≡ false
        → under (join_by o ready t m broods log) ≤ most_ahead worth left (o.holding m) + weigh_broods o worth at broods
    join-falls false t m broods log left e counted makes h ready = absurd (cc)
    join-falls true t m broods log left e counted makes h ready =
        let s = join-step o rules t m broods log e makes h in
        let bound : under (join_by o true t m broods log) ≤ most_ahead worth left (o.holding m) + weigh_broods o worth at (without t broods) =
        settled-under m (o.after_join m (endings o (brood_of t broods))) (λ u. not (eqb t u) && is_cloned o m u)
        (without t broods) (joined log t (brood_of t broods)) left counted s in
        let fewer_broods : weigh_broods o worth at (without t broods) ≤ weigh_broods o worth at broods = without-within t broods in
        omega arith

    step_by-falls : (next : Option Call) (m : M) (broods : Broods M) (log : Log M) (left : ℕ) → o.left m ≡ suc left → Makes o m next
        → IsSound o (node m broods log) → waits_by o next broods ≡ false
        → under (step_by o next m broods log) + worth < most_ahead worth (suc left) (o.holding m) + weigh_broods o worth at broods
    unfolding weigh
    step_by-falls None m broods log left counted makes h ready =
        let bound : under (step_by o None m broods log) ≤ most_ahead worth left (o.holding m) + weigh_broods o worth at broods =
        settled-under m (o.advance m) (is_cloned o m) broods log left counted (rules.advance m makes) in
        let falls : most_ahead worth left (o.holding m) + worth < most_ahead worth (suc left) (o.holding m) = own-falls worth left (o.holding m) in
        omega arith
    step_by-falls (Some (clone t)) m broods log left counted makes h ready =
        let bound : under (step_by o (Some (clone t)) m broods log)
        ≤ most_ahead worth left (o.holding m) + (weigh_trees o worth at (children o m t) + weigh_broods o worth at broods) =
        settled-under m (o.forked m) (λ u. eqb t u || is_cloned o m u) (brood t (children o m t) broods) log left counted
        (rules.forked m t makes) in
        let falls : weigh_trees o worth at (children o m t) + most_ahead worth left (o.holding m) + worth < most_ahead worth (suc left) (o.holding m) =
        children-fall m t left counted makes in
        omega arith
    step_by-falls (Some (join t)) m broods log left counted makes h ready =
        let bound : under (step_by o (Some (join t)) m broods log) ≤ most_ahead worth left (o.holding m) + weigh_broods o worth at broods =
        join-falls (have_ended o (brood_of t broods)) t m broods log left refl counted makes h ready in
        let falls : most_ahead worth left (o.holding m) + worth < most_ahead worth (suc left) (o.holding m) = own-falls worth left (o.holding m) in
        omega arith
    step_by-falls (Some (kill t)) m broods log left counted makes h ready =
        let bound : under (step_by o (Some (kill t)) m broods log) ≤ most_ahead worth left (o.holding m) + weigh_broods o worth at (without t broods) =
        settled-under m (o.after_kill m) (λ u. not (eqb t u) && is_cloned o m u) (without t broods)
        (killed log t (o.grant m t).children) left counted (rules.after_kill m t makes) in
        let fewer_broods : weigh_broods o worth at (without t broods) ≤ weigh_broods o worth at broods = without-within t broods in
        let falls : most_ahead worth left (o.holding m) + worth < most_ahead worth (suc left) (o.holding m) = own-falls worth left (o.holding m) in
        omega arith

    pub step-falls : (t : Tree M) → IsSound o t → rests o (Some t) ≡ false → under (step o t) + worth < under t
    step-falls (node m broods log) h moves =
        let both = or_parts (is_some (o.ending m)) (waits_by o (o.call m) broods) moves in
        let lives : o.ending m ≡ None = lives-none (o.ending m) both.0 in
        let good : o.is_good m ≡ true = (root-sound o m broods log h).good in
        let some : 0 < o.left m = rules.below_limit m good lives in
        let same : own_under (o.ending m) m ≡ most_ahead worth (o.left m) (o.holding m) = ap (λ e. own_under e m) lives in
        let makes : Makes o m (o.call m) = record { good = good; lives = lives; call = refl } in
        let falls : under (step_by o (o.call m) m broods log) + worth < most_ahead worth (o.left m) (o.holding m) + weigh_broods o worth at broods =
        by (o.left m) some refl makes both.1 in
        let stepped : under (step o (node m broods log)) ≡ under (step_by o (o.call m) m broods log) =
        ap under (step-lives o m broods log (o.call m) lives refl) in
        omega arith
      where
        by : (left : ℕ) → 0 < left → o.left m ≡ left → Makes o m (o.call m) → waits_by o (o.call m) broods ≡ false
            → under (step_by o (o.call m) m broods log) + worth < most_ahead worth left (o.holding m) + weigh_broods o worth at broods
        by zero some e makes ready = absurd (omega arith)
        by (suc left) some e makes ready = step_by-falls (o.call m) m broods log left e makes h ready

    pub step-within : (t : Tree M) → IsSound o t → under (step o t) ≤ under t
    step-within t h = by (rests o (Some t)) refl
      where
        by : (resting : Bool) → rests o (Some t) ≡ resting → under (step o t) ≤ under t
        by true e = let same : under (step o t) ≡ under t = ap under (step-rests o t e) in omega arith
        by false e = let falls : under (step o t) + worth < under t = step-falls t h e in omega arith

    pub steps-within : (k : ℕ) (t : Tree M) → IsSound o t → under (steps o k t) ≤ under t
    unfolding steps
    steps-within zero t h = le_refl _
    steps-within (suc k) t h =
        let first : under (step o t) ≤ under t = step-within t h in
        let then : under (steps o k (step o t)) ≤ under (step o t) = steps-within k (step o t) (step-keeps o rules t h).sound in
        omega arith

    pub steps-fall : (k : ℕ) (t : Tree M) → IsSound o t → rests o (Some t) ≡ false → under (steps o (suc k) t) + worth < under t
    unfolding steps
    steps-fall k t h moves =
        let first : under (step o t) + worth < under t = step-falls t h moves in
        let then : under (steps o k (step o t)) ≤ under (step o t) = steps-within k (step o t) (step-keeps o rules t h).sound in
        omega arith

  -- a change that lowers the weight at a path lowers that of the whole
  pub child-falls : (f : Tree M → Tree M) (k : ℕ) (trees : Trees M) (c : Tree M) → child_at k trees ≡ Some c → weigh o worth at (f c) < weigh o worth at c
      → weigh_trees o worth at (at_child f k trees) < weigh_trees o worth at trees
  unfolding weigh at_child child_at
  child-falls f k no_tree c found falls = absurd (cc)
  child-falls f zero (tree t rest) c found falls = absurd (cc)
  child-falls f (suc zero) (tree t rest) c found falls =
      let first : weigh o worth at (f t) < weigh o worth at t = subst (λ u. weigh o worth at (f u) < weigh o worth at u) (sym (some-same t c found)) falls in omega arith
  child-falls f (suc (suc k)) (tree t rest) c found falls =
      let later : weigh_trees o worth at (at_child f (suc k) rest) < weigh_trees o worth at rest = child-falls f (suc k) rest c found falls in omega arith

  pub brood-falls : (g : Trees M → Trees M) (t : ℕ) (broods : Broods M) → broods_with t broods ≤ 1
      → weigh_trees o worth at (g (brood_of t broods)) < weigh_trees o worth at (brood_of t broods)
      → weigh_broods o worth at (at_brood g t broods) < weigh_broods o worth at broods
  unfolding weigh at_brood brood_of broods_with
  brood-falls g t no_brood one falls = absurd (omega arith)
  brood-falls g t (brood u trees rest) one falls =
      by (eqb u t) one falls (λ none. ap (weigh_broods o worth at) (at_brood-absent g t rest none)) (λ fits fell. brood-falls g t rest fits fell)
    where
      by : (same : Bool) → one_if same + broods_with t rest ≤ 1
          → weigh_trees o worth at (g (cond same trees (brood_of t rest))) < weigh_trees o worth at (cond same trees (brood_of t rest))
          → (broods_with t rest ≡ 0 → weigh_broods o worth at (at_brood g t rest) ≡ weigh_broods o worth at rest)
          → (broods_with t rest ≤ 1 → weigh_trees o worth at (g (brood_of t rest)) < weigh_trees o worth at (brood_of t rest)
          → weigh_broods o worth at (at_brood g t rest) < weigh_broods o worth at rest)
          → weigh_trees o worth at (cond same (g trees) trees) + weigh_broods o worth at (at_brood g t rest) < weigh_trees o worth at trees + weigh_broods o worth at rest
      by true fits here absent down =
          let same : weigh_broods o worth at (at_brood g t rest) ≡ weigh_broods o worth at rest = absent (omega arith) in omega arith
      by false fits here absent down =
          let fell : weigh_broods o worth at (at_brood g t rest) < weigh_broods o worth at rest = down (omega arith) here in omega arith

  pub at_path-falls : (f : Tree M → Tree M) (path : Path) (t a : Tree M) → IsSound o t → subtree path t ≡ Some a
      → (IsSound o a → weigh o worth at (f a) < weigh o worth at a) → weigh o worth at (at_path f path t) < weigh o worth at t
  unfolding weigh at_path subtree
  at_path-falls f [] t a h found falls =
      subst (λ u. weigh o worth at (f u) < weigh o worth at u) (sym (some-same t a found)) (falls (subst (IsSound o) (some-same t a found) h))
  at_path-falls f (b ∷ path) (node m broods log) a h found falls =
      let is = is-within o path (child_at b.child (brood_of b.ticket broods)) a found in
      let sound : IsSound o is.0 = below-at o m broods log b.ticket b.child is.0 h is.1 in
      let below : weigh_broods o worth at (at_brood (at_child (at_path f path) b.child) b.ticket broods) < weigh_broods o worth at broods =
      brood-falls (at_child (at_path f path) b.child) b.ticket broods (one-brood o m broods log h b.ticket)
      (child-falls (at_path f path) b.child (brood_of b.ticket broods) is.0 is.1 (at_path-falls f path is.0 a sound is.2 falls)) in
      omega arith

-- where no place counts
module _ {M E : Type 0} (o : Operations M E) (rules : IsMachine o) where
  none-low : (m : M) → 0 ≤ 0
  none-low m = le_refl 0

  pub step-ahead : (t : Tree M) → IsSound o t → rests o (Some t) ≡ false → ahead o (step o t) < ahead o t
  step-ahead (node m broods log) h moves =
      let t : Tree M = node m broods log in
      let lives : o.ending m ≡ None = lives-none (o.ending m) (or_parts (is_some (o.ending m)) (waits_by o (o.call m) broods) moves).0 in
      let after : ahead o (step o t) ≤ under o 0 (λ m. 0) (step o t) + 0 = weigh-within o 0 (λ m. 0) (step o t) in
      let falls : under o 0 (λ m. 0) (step o t) + 0 < under o 0 (λ m. 0) t = step-falls o 0 (λ m. 0) rules none-low t h moves in
      let before : ahead o t ≡ under o 0 (λ m. 0) t + 0 = weigh-lives o 0 (λ m. 0) t lives in
      omega (arith, after, falls, before)
