-- What one step leaves at each place of a tree.
use Rattle.std.proofs.Common.{◌≡◌, ◌≢◌, ℕ, zero, suc, ◌+◌, ◌&&◌, eqb, eqb-true, Bool, true, false, cond, refl, sym, ap, ap₂, ◌∙◌, subst, arith, inl, inr, [], ◌∷◌, ◌++◌, Option, Some, None}
use Rattle.std.proofs.Common.{option_and_then, option_map}
use Rattle.std.proofs.lemmas.Bool.{eqb-false}
use Rattle.forest_tree.specs.Operations.{Call, clone, join, kill, Grant, Operations, is_cloned, Makes, IsMachine}
use Rattle.forest_tree.specs.Tree.{Tree, node, Trees, no_tree, tree, Broods, no_brood, brood, Log, joined, killed, machine, broods_of, at_child, at_beyond, at_path, child_at, brood_of, without}
use Rattle.forest_tree.specs.Tree.{at_brood, broods_with, Branch, Path, subtree, beyond}
use Rattle.forest_tree.specs.Step.{have_ended, endings, children, settled_by, settled, join_by, step_by, step}
use Rattle.forest_tree.specs.Sound.{IsSound, AreSound, Hold}
use Rattle.forest_tree.proofs.Broods.{one_if, eqb-sym}
use Rattle.forest_tree.proofs.Sound.{clone-is-new, root-sound, below-sound, step-keeps}
use Rattle.forest_tree.proofs.Steps.{cases-ending, step-ended, step-lives}

pub branch-sym : (rest : Option Path) (t u k j : ℕ) → cond (eqb t u && eqb k j) rest None ≡ cond (eqb u t && eqb j k) rest None
branch-sym rest t u k j = ap₂ (λ a b. cond (a && b) rest None) (eqb-sym t u) (eqb-sym k j)

-- a value that is some
pub some-same : {A : Type 0} (a b : A) → Some a ≡ Some b → a ≡ b
some-same a b e = cc

module _ {M : Type 0} where
  -- a brood, where another goes or is changed
  brood_of-without-head : (v t u : ℕ) (trees rest left : Trees M) (same : Bool) → eqb v t ≡ same → left ≡ cond (eqb t u) no_tree rest
      → (other : Bool) → eqb v u ≡ other → (third : Bool) → eqb t u ≡ third
      → cond same left (cond other trees left) ≡ cond third no_tree (cond other trees rest)
  brood_of-without-head v t u trees rest left true e h true f true g = h ∙ ap (λ b. cond b no_tree rest) g
  brood_of-without-head v t u trees rest left true e h false f true g = h ∙ ap (λ b. cond b no_tree rest) g
  brood_of-without-head v t u trees rest left true e h true f false g =
      absurd (eqb-false t u g (sym (eqb-true v t e) ∙ eqb-true v u f))
  brood_of-without-head v t u trees rest left true e h false f false g = h ∙ ap (λ b. cond b no_tree rest) g
  brood_of-without-head v t u trees rest left false e h true f true g =
      absurd (eqb-false v t e (eqb-true v u f ∙ sym (eqb-true t u g)))
  brood_of-without-head v t u trees rest left false e h true f false g = refl
  brood_of-without-head v t u trees rest left false e h false f third g = h ∙ ap (λ b. cond b no_tree rest) g

  either-none : (b : Bool) → ◌≡◌ {A = Trees M} no_tree (cond b no_tree no_tree)
  either-none true = refl
  either-none false = refl

  without-brood : (u v : ℕ) (trees : Trees M) (rest : Broods M) (same : Bool)
      → brood_of u (cond same rest (brood v trees rest)) ≡ cond same (brood_of u rest) (cond (eqb v u) trees (brood_of u rest))
  unfolding brood_of
  without-brood u v trees rest true = refl
  without-brood u v trees rest false = refl

  pub brood_of-without : (t u : ℕ) (broods : Broods M) → brood_of u (without t broods) ≡ cond (eqb t u) no_tree (brood_of u broods)
  unfolding brood_of without
  brood_of-without t u no_brood = either-none (eqb t u)
  brood_of-without t u (brood v trees rest) =
      without-brood u v trees (without t rest) (eqb v t)
      ∙ brood_of-without-head v t u trees (brood_of u rest) (brood_of u (without t rest)) (eqb v t) refl (brood_of-without t u rest)
      (eqb v u) refl (eqb t u) refl

  brood_of-at-head : (f : Trees M → Trees M) (v t u : ℕ) (trees rest left : Trees M) (same : Bool) → eqb v t ≡ same
      → (other : Bool) → eqb v u ≡ other → (third : Bool) → eqb t u ≡ third
      → left ≡ cond third (f rest) rest
      → cond other (cond same (f trees) trees) left ≡ cond third (f (cond other trees rest)) (cond other trees rest)
  brood_of-at-head f v t u trees rest left true e true g true k h = refl
  brood_of-at-head f v t u trees rest left false e true g false k h = refl
  brood_of-at-head f v t u trees rest left true e true g false k h = absurd (eqb-false t u k (sym (eqb-true v t e) ∙ eqb-true v u g))
  brood_of-at-head f v t u trees rest left false e true g true k h = absurd (eqb-false v t e (eqb-true v u g ∙ sym (eqb-true t u k)))
  brood_of-at-head f v t u trees rest left same e false g third k h = h

  at-none : (f : Trees M → Trees M) (same : Bool) → f no_tree ≡ no_tree → no_tree ≡ cond same (f no_tree) no_tree
  at-none f true none = sym none
  at-none f false none = refl

  pub brood_of-at : (f : Trees M → Trees M) → f no_tree ≡ no_tree → (t u : ℕ) (broods : Broods M)
      → brood_of u (at_brood f t broods) ≡ cond (eqb t u) (f (brood_of u broods)) (brood_of u broods)
  unfolding brood_of at_brood
  brood_of-at f none t u no_brood = at-none f (eqb t u) none
  brood_of-at f none t u (brood v trees rest) =
      brood_of-at-head f v t u trees (brood_of u rest) (brood_of u (at_brood f t rest)) (eqb v t) refl (eqb v u) refl (eqb t u) refl
      (brood_of-at f none t u rest)

  pub at_child-none : (f : Tree M → Tree M) (k : ℕ) → at_child f k no_tree ≡ no_tree
  unfolding at_child
  at_child-none f k = refl

  pub child_at-same : (f : Tree M → Tree M) (k : ℕ) (trees : Trees M) → child_at k (at_child f k trees) ≡ option_map f (child_at k trees)
  unfolding child_at at_child
  child_at-same f k no_tree = refl
  child_at-same f zero (tree t rest) = refl
  child_at-same f (suc zero) (tree t rest) = refl
  child_at-same f (suc (suc k)) (tree t rest) = child_at-same f (suc k) rest

  pub child_at-other : (f : Tree M → Tree M) (k j : ℕ) (trees : Trees M) → k ≢ j → child_at j (at_child f k trees) ≡ child_at j trees
  unfolding child_at at_child
  child_at-other f k j no_tree other = refl
  child_at-other f zero j (tree t rest) other = refl
  child_at-other f (suc zero) zero (tree t rest) other = refl
  child_at-other f (suc zero) (suc zero) (tree t rest) other = absurd (other refl)
  child_at-other f (suc zero) (suc (suc j)) (tree t rest) other = refl
  child_at-other f (suc (suc k)) zero (tree t rest) other = refl
  child_at-other f (suc (suc k)) (suc zero) (tree t rest) other = refl
  child_at-other f (suc (suc k)) (suc (suc j)) (tree t rest) other = child_at-other f (suc k) (suc j) rest (λ e. other (ap suc e))

  -- no brood of a ticket is an empty one
  brood_of-none-head : (t u : ℕ) (trees rest : Trees M) (same : Bool) (n : ℕ) → one_if same + n ≡ 0 → (n ≡ 0 → rest ≡ no_tree)
      → cond same trees rest ≡ no_tree
  brood_of-none-head t u trees rest true n none h = absurd (omega arith)
  brood_of-none-head t u trees rest false n none h = h (omega arith)

  pub brood_of-none : (t : ℕ) (broods : Broods M) → broods_with t broods ≡ 0 → brood_of t broods ≡ no_tree
  unfolding broods_with brood_of
  brood_of-none t no_brood none = refl
  brood_of-none t (brood u trees rest) none =
      brood_of-none-head t u trees (brood_of t rest) (eqb u t) (broods_with t rest) none (brood_of-none t rest)

  -- a brood after a step: it stays, or goes, or is new
  pub data Kept (may : Bool) (before after : Trees M) : Type 0 where
    stays : after ≡ before → Kept may before after
    goes : after ≡ no_tree → Kept may before after
    is_new : may ≡ true → before ≡ no_tree → Kept may before after

  kept-cond : (may same : Bool) (trees : Trees M) → Kept may trees (cond same no_tree trees)
  kept-cond may true trees = goes refl
  kept-cond may false trees = stays refl

  kept-without : (may : Bool) (t u : ℕ) (broods : Broods M) → Kept may (brood_of u broods) (brood_of u (without t broods))
  kept-without may t u broods =
      subst (Kept may (brood_of u broods)) (sym (brood_of-without t u broods)) (kept-cond may (eqb t u) (brood_of u broods))

  kept-brood : (may : Bool) (trees before : Trees M) (same : Bool) → (same ≡ true → may ≡ true) → (same ≡ true → before ≡ no_tree)
      → Kept may before (cond same trees before)
  kept-brood may trees before true number fresh = is_new (number refl) (fresh refl)
  kept-brood may trees before false number fresh = stays refl

  -- a path in two parts
  pub subtree-parts : (way path : Path) (t : Tree M) → subtree (way ++ path) t ≡ option_and_then (subtree path) (subtree way t)
  unfolding subtree
  subtree-parts [] path t = refl
  subtree-parts (b ∷ way) path t = parts (child_at b.child (brood_of b.ticket (broods_of t))) (λ u. subtree-parts way path u)
    where
      parts : (c : Option (Tree M)) → ((u : Tree M) → subtree (way ++ path) u ≡ option_and_then (subtree path) (subtree way u))
          → option_and_then (subtree (way ++ path)) c ≡ option_and_then (subtree path) (option_and_then (subtree way) c)
      parts None h = refl
      parts (Some u) h = h u

  -- the child at a place, where one at another is changed
  moved-by : (f : Tree M → Tree M) (k j : ℕ) (trees : Trees M) (ticket child : Bool) → eqb k j ≡ child
      → child_at j (cond ticket (at_child f k trees) trees) ≡ cond (ticket && child) (option_map f (child_at j trees)) (child_at j trees)
  moved-by f k j trees false child e = refl
  moved-by f k j trees true false e = child_at-other f k j trees (eqb-false k j e)
  moved-by f k j trees true true e = ap (λ i. child_at j (at_child f i trees)) (eqb-true k j e) ∙ child_at-same f j trees

  pub child-moved : (f : Tree M → Tree M) (b y : Branch) (broods : Broods M)
      → child_at b.child (brood_of b.ticket (at_brood (at_child f y.child) y.ticket broods))
      ≡ cond (eqb y.ticket b.ticket && eqb y.child b.child) (option_map f (child_at b.child (brood_of b.ticket broods)))
      (child_at b.child (brood_of b.ticket broods))
  child-moved f b y broods =
      ap (child_at b.child) (brood_of-at (at_child f y.child) (at_child-none f y.child) y.ticket b.ticket broods)
      ∙ moved-by f y.child b.child (brood_of b.ticket broods) (eqb y.ticket b.ticket) (eqb y.child b.child) refl

module _ {M E : Type 0} (o : Operations M E) where
  kept-settled_by : (may : Bool) (e : Option E) (m : M) (before broods : Broods M) (log : Log M) (u : ℕ)
      → Kept may (brood_of u before) (brood_of u broods)
      → Kept may (brood_of u before) (brood_of u (broods_of (settled_by o e m broods log)))
  unfolding brood_of
  kept-settled_by may None m before broods log u h = h
  kept-settled_by may (Some ending) m before broods log u h = goes refl

  kept-settled : (may : Bool) (m : M) (before broods : Broods M) (log : Log M) (u : ℕ)
      → Kept may (brood_of u before) (brood_of u broods)
      → Kept may (brood_of u before) (brood_of u (broods_of (settled o m broods log)))
  kept-settled may m before broods log u h = kept-settled_by may (o.ending m) m before broods log u h

  kept-join : (may ready : Bool) (t : ℕ) (m : M) (broods : Broods M) (log : Log M) (u : ℕ)
      → Kept may (brood_of u broods) (brood_of u (broods_of (join_by o ready t m broods log)))
  kept-join may false t m broods log u = stays refl
  kept-join may true t m broods log u =
      kept-settled may (o.after_join m (endings o (brood_of t broods))) broods (without t broods) (joined log t (brood_of t broods)) u
      (kept-without may t u broods)

  -- the tree at a way into a brood
  abbrev within : Path → ℕ → Trees M → Option (Tree M)
  within way k trees = option_and_then (subtree way) (child_at k trees)

  kept-within : (way : Path) (k : ℕ) (may : Bool) (before after : Trees M) (a b : Tree M) → Kept may before after
      → within way k before ≡ Some a → within way k after ≡ Some b → b ≡ a
  unfolding child_at
  kept-within way k may before after a b (stays e) f g = some-same b a (sym g ∙ ap (within way k) e ∙ f)
  kept-within way k may before after a b (goes e) f g =
      let none : None ≡ Some b = sym (ap (within way k) e) ∙ g in cc
  kept-within way k may before after a b (is_new _ e) f g =
      let none : None ≡ Some a = sym (ap (within way k) e) ∙ f in cc

  -- trees below a sound one are sound
  child-sound : (share k : ℕ) (trees : Trees M) (c : Tree M) → Hold o share trees → child_at k trees ≡ Some c → IsSound o c
  unfolding IsSound child_at
  child-sound share k no_tree c h e = absurd (cc)
  child-sound share zero (tree t rest) c h e = absurd (cc)
  child-sound share (suc zero) (tree t rest) c h e = subst (IsSound o) (some-same t c e) h.1
  child-sound share (suc (suc k)) (tree t rest) c h e = child-sound share (suc k) rest c h.2 e

  brood-head : (share before : ℕ) (same : Bool) (trees rest : Trees M) → Hold o before trees → ((s : ℕ) × Hold o s rest)
      → (s : ℕ) × Hold o s (cond same trees rest)
  brood-head share before true trees rest h k = (before, h)
  brood-head share before false trees rest h k = k

  brood-sound : (grant : ℕ → Grant) (t : ℕ) (broods : Broods M) → AreSound o grant broods → (s : ℕ) × Hold o s (brood_of t broods)
  unfolding IsSound brood_of
  brood-sound grant t no_brood h = (0, tt)
  brood-sound grant t (brood u trees rest) h =
      brood-head 0 (grant u).share (eqb u t) trees (brood_of t rest) h.1 (brood-sound grant t rest h.2)

  pub below-at : (m : M) (broods : Broods M) (log : Log M) (t k : ℕ) (c : Tree M) → IsSound o (node m broods log)
      → child_at k (brood_of t broods) ≡ Some c → IsSound o c
  below-at m broods log t k c h e =
      let held = brood-sound (o.grant m) t broods (below-sound o m broods log h) in
      child-sound held.0 k (brood_of t broods) c held.1 e

  -- the tree at a way into a brood, by the child there
  pub is-within : (way : Path) (c : Option (Tree M)) (a : Tree M) → option_and_then (subtree way) c ≡ Some a
      → (t : Tree M) × (c ≡ Some t) × (subtree way t ≡ Some a)
  is-within way None a e = absurd (cc)
  is-within way (Some t) a e = (t, refl, e)

  pub subtree-sound : (at : Path) (t a : Tree M) → IsSound o t → subtree at t ≡ Some a → IsSound o a
  unfolding subtree
  subtree-sound [] t a h e = subst (IsSound o) (some-same t a e) h
  subtree-sound (x ∷ way) (node m broods log) a h e =
      let is = is-within way (child_at x.child (brood_of x.ticket broods)) a e in
      subtree-sound way is.0 a (below-at m broods log x.ticket x.child is.0 h is.1) is.2

  module _ (rules : IsMachine o) where
    new-brood : (m : M) (t : ℕ) (broods : Broods M) (log : Log M) → Makes o m (Some (clone t)) → IsSound o (node m broods log)
        → (u : ℕ) → eqb t u ≡ true → brood_of u broods ≡ no_tree
    new-brood m t broods log makes h u same =
        let counts : broods_with u broods ≡ one_if (is_cloned o m u) = (root-sound o m broods log h).one_each makes.lives u in
        let fresh : is_cloned o m u ≡ false = ap (is_cloned o m) (sym (eqb-true t u same)) ∙ clone-is-new o rules m t makes in
        brood_of-none u broods (counts ∙ ap one_if fresh)

    kept-step_by : (next : Option Call) (m : M) (broods : Broods M) (log : Log M) → Makes o m next → IsSound o (node m broods log) → (u : ℕ)
        → Kept (o.may_clone m u) (brood_of u broods) (brood_of u (broods_of (step_by o next m broods log)))
    unfolding brood_of
    kept-step_by None m broods log makes h u = kept-settled (o.may_clone m u) (o.advance m) broods broods log u (stays refl)
    kept-step_by (Some (clone t)) m broods log makes h u =
        kept-settled (o.may_clone m u) (o.forked m) broods (brood t (children o m t) broods) log u
        (kept-brood (o.may_clone m u) (children o m t) (brood_of u broods) (eqb t u)
        (λ same. ap (o.may_clone m) (sym (eqb-true t u same)) ∙ rules.clone_may m t makes) (new-brood m t broods log makes h u))
    kept-step_by (Some (join t)) m broods log makes h u = kept-join (o.may_clone m u) (have_ended o (brood_of t broods)) t m broods log u
    kept-step_by (Some (kill t)) m broods log makes h u =
        kept-settled (o.may_clone m u) (o.after_kill m) broods (without t broods) (killed log t (o.grant m t).children) u (kept-without (o.may_clone m u) t u broods)

    pub kept-step : (m : M) (broods : Broods M) (log : Log M) → IsSound o (node m broods log) → (u : ℕ)
        → Kept (o.may_clone m u) (brood_of u broods) (brood_of u (broods_of (step o (node m broods log))))
    kept-step m broods log h u = elim (cases-ending (o.ending m)) [
      | inl ended ↦ subst (λ t. Kept (o.may_clone m u) (brood_of u broods) (brood_of u (broods_of t))) (sym (step-ended o m broods log ended.0 ended.1)) (stays refl)
      | inr lives ↦
          subst (λ t. Kept (o.may_clone m u) (brood_of u broods) (brood_of u (broods_of t))) (sym (step-lives o m broods log (o.call m) lives refl))
          (kept-step_by (o.call m) m broods log (record { good = (root-sound o m broods log h).good; lives = lives; call = refl }) h u)
    ]

    -- what stands at a path after a step of one machine, where a machine is there still
    stepped-by : (way p : Path) (f : Tree M → Tree M) (same : Bool) (c : Option (Tree M))
        → ((u a b : Tree M) → c ≡ Some u → subtree way u ≡ Some a → subtree way (f u) ≡ Some b → b ≡ at_beyond (step o) (beyond way p) a)
        → (a b : Tree M) → option_and_then (subtree way) c ≡ Some a → option_and_then (subtree way) (cond same (option_map f c) c) ≡ Some b
        → b ≡ at_beyond (step o) (cond same (beyond way p) None) a
    stepped-by way p f same None down a b here there = absurd (cc)
    stepped-by way p f false (Some u) down a b here there = some-same b a (sym there ∙ here)
    stepped-by way p f true (Some u) down a b here there = down u a b refl here there

    pub stepped-at : (at path : Path) (t : Tree M) → IsSound o t → (a b : Tree M) → subtree at t ≡ Some a
        → subtree at (at_path (step o) path t) ≡ Some b → b ≡ at_beyond (step o) (beyond at path) a
    unfolding at_path subtree beyond
    stepped-at [] path t h a b here there = some-same b (at_path (step o) path t) (sym there) ∙ ap (at_path (step o) path) (some-same t a here)
    stepped-at (x ∷ way) [] (node m broods log) h a b here there =
        kept-within way x.child (o.may_clone m x.ticket) (brood_of x.ticket broods) (brood_of x.ticket (broods_of (step o (node m broods log)))) a b
        (kept-step m broods log h x.ticket) here there
    stepped-at (x ∷ way) (y ∷ p) (node m broods log) h a b here there =
        stepped-by way p (at_path (step o) p) (eqb y.ticket x.ticket && eqb y.child x.child) (child_at x.child (brood_of x.ticket broods))
        (λ u c d found. stepped-at way p u (below-at m broods log x.ticket x.child u h found) c d)
        a b here (sym (ap (option_and_then (subtree way)) (child-moved (at_path (step o) p) x y broods)) ∙ there)

    -- each machine that is there still holds what it did
    pub step-holding : (at : Path) (t : Tree M) → IsSound o t → (a b : Tree M) → subtree at t ≡ Some a → subtree at (step o t) ≡ Some b
        → o.holding (machine b) ≡ o.holding (machine a)
    unfolding at_path subtree beyond
    step-holding [] t h a b here there =
        ap (λ (u : Tree M). o.holding (machine u)) (some-same b (step o t) (sym there)) ∙ (step-keeps o rules t h).holding
        ∙ ap (λ (u : Tree M). o.holding (machine u)) (some-same t a here)
    step-holding (x ∷ way) t h a b here there = ap (λ (u : Tree M). o.holding (machine u)) (stepped-at (x ∷ way) [] t h a b here there)
