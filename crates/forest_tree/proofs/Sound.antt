-- A step keeps soundness and what each machine holds.
use Rattle.std.proofs.Common.{◌≡◌, ℕ, zero, suc, ◌+◌, ◌<◌, ◌≤◌, ◌&&◌, ◌||◌, not, Bool, true, false, cond, eqb, eqb-true, refl, sym, ap, ◌∙◌, subst, arith, List, [], ◌∷◌, length, Option, Some, None}
use Rattle.std.proofs.Common.{IsSome, is_some}
use Rattle.std.proofs.lemmas.Bool.{and_parts}
use Rattle.forest_tree.specs.Operations.{Call, clone, join, kill, Grant, Operations, is_among, is_cloned, Makes, IsStep, IsChild, IsMachine}
use Rattle.forest_tree.specs.Tree.{Tree, node, Trees, no_tree, tree, Broods, no_brood, brood, Log, joined, killed, machine, at_path, size, at_child, brood_of, without, at_brood, broods_with, Path}
use Rattle.forest_tree.specs.Step.{have_ended, with_ending, endings, alone, children_from, children, settled_by, settled, join_by, step_by, step_from, step, steps}
use Rattle.forest_tree.specs.Sound.{IsSoundMachine, IsSound, AreSound, Hold}
use Rattle.forest_tree.proofs.Broods.{one_if, broods_with-brood, broods_with-rest, broods_with-at_brood, broods_with-without, size-at_child}

-- how many broods of u there are after a clone of t, and without those of t
one-clone : (same cloned : Bool) (n : ℕ) → (same ≡ true → cloned ≡ false) → n ≡ one_if cloned → one_if same + n ≡ one_if (same || cloned)
one-clone true true n fresh h = let e : true ≡ false = fresh refl in cc
one-clone true false n fresh h = omega arith
one-clone false true n fresh h = omega arith
one-clone false false n fresh h = omega arith

one-without : (same cloned : Bool) (n : ℕ) → n ≡ one_if cloned → cond same 0 n ≡ one_if (not same && cloned)
one-without true cloned n h = refl
one-without false cloned n h = h

-- what is none is not some
pub some-none : {A : Type 0} (e : Option A) → e ≡ None → IsSome e → ⊥
some-none None e h = cc
some-none (Some a) e h = cc

is-one : (n : ℕ) (cloned : Bool) → n ≡ one_if cloned → 0 < n → cloned ≡ true
is-one n true h has = refl
is-one n false h has = absurd (omega arith)

module _ {M E : Type 0} (o : Operations M E) where
  -- the parts of soundness
  pub root-sound : (m : M) (broods : Broods M) (log : Log M) → IsSound o (node m broods log) → IsSoundMachine o m broods
  unfolding IsSound
  root-sound m broods log h = h.0

  pub below-sound : (m : M) (broods : Broods M) (log : Log M) → IsSound o (node m broods log) → AreSound o (o.grant m) broods
  unfolding IsSound
  below-sound m broods log h = h.1

  -- from t to u, soundness is kept and what the machine at the root holds
  pub record KeepsTo (t u : Tree M) : Type 0 where
    pub sound : IsSound o u
    pub holding : o.holding (machine u) ≡ o.holding (machine t)

  abbrev pub Keeps : (Tree M → Tree M) → Tree M → Type 0
  Keeps f t = KeepsTo t (f t)

  pub Hold-at_child : (f : Tree M → Tree M) → ((t : Tree M) → IsSound o t → Keeps f t) → (share k : ℕ) (trees : Trees M)
      → Hold o share trees → Hold o share (at_child f k trees)
  unfolding IsSound at_child
  Hold-at_child f keeps share k no_tree h = tt
  Hold-at_child f keeps share zero (tree t rest) h = h
  Hold-at_child f keeps share (suc zero) (tree t rest) h = let k : Keeps f t = keeps t h.1 in (k.holding ∙ h.0, k.sound, h.2)
  Hold-at_child f keeps share (suc (suc k)) (tree t rest) h = (h.0, h.1, Hold-at_child f keeps share (suc k) rest h.2)

  -- broods stay sound where the machine has the same grants for them
  pub AreSound-grants : (grant after : ℕ → Grant) (broods : Broods M) → ((t : ℕ) → 0 < broods_with t broods → after t ≡ grant t)
      → AreSound o grant broods → AreSound o after broods
  unfolding IsSound
  AreSound-grants grant after no_brood same h = tt
  AreSound-grants grant after (brood t trees rest) same h =
      let e : after t ≡ grant t = same t (omega (arith, broods_with-brood t trees rest)) in (
        h.0 ∙ ap (λ (g : Grant). g.children) (sym e),
        subst (λ (g : Grant). Hold o g.share trees) (sym e) h.1,
        AreSound-grants grant after rest (λ u has. same u (omega (arith, broods_with-rest u t trees rest))) h.2,
      )

  -- and where one of them is changed
  brood-sound : (f : Trees M → Trees M) (grant : Grant) (same : Bool) (trees : Trees M)
      → (size (f trees) ≡ size trees) → Hold o grant.share (f trees)
      → size trees ≡ grant.children → Hold o grant.share trees
      → (size (cond same (f trees) trees) ≡ grant.children) × Hold o grant.share (cond same (f trees) trees)
  brood-sound f grant true trees sized held n h = (sized ∙ n, held)
  brood-sound f grant false trees sized held n h = (n, h)

  pub AreSound-at_brood : (f : Trees M → Trees M) (grant : ℕ → Grant) (t : ℕ) → ((trees : Trees M) → size (f trees) ≡ size trees)
      → ((share : ℕ) (trees : Trees M) → Hold o share trees → Hold o share (f trees))
      → (broods : Broods M) → AreSound o grant broods → AreSound o grant (at_brood f t broods)
  unfolding IsSound at_brood
  AreSound-at_brood f grant t sized held no_brood h = tt
  AreSound-at_brood f grant t sized held (brood u trees rest) h =
      let b = brood-sound f (grant u) (eqb u t) trees (sized trees) (held (grant u).share trees h.1) h.0 h.1 in
      (b.0, b.1, AreSound-at_brood f grant t sized held rest h.2)

  without-sound : (grant : ℕ → Grant) (t : ℕ) (trees : Trees M) (rest : Broods M) (same : Bool)
      → size trees ≡ (grant t).children → Hold o (grant t).share trees → AreSound o grant rest
      → AreSound o grant (cond same rest (brood t trees rest))
  unfolding IsSound
  without-sound grant t trees rest true n h k = k
  without-sound grant t trees rest false n h k = (n, h, k)

  pub AreSound-without : (grant : ℕ → Grant) (t : ℕ) (broods : Broods M) → AreSound o grant broods → AreSound o grant (without t broods)
  unfolding IsSound without
  AreSound-without grant t no_brood h = tt
  AreSound-without grant t (brood u trees rest) h =
      without-sound grant u trees (without t rest) (eqb u t) h.0 h.1 (AreSound-without grant t rest h.2)

  -- what a step leads to holds what its machine does, and is sound
  machine-settled_by : (e : Option E) (m : M) (broods : Broods M) (log : Log M) → machine (settled_by o e m broods log) ≡ m
  machine-settled_by None m broods log = refl
  machine-settled_by (Some e) m broods log = refl

  pub machine-settled : (m : M) (broods : Broods M) (log : Log M) → machine (settled o m broods log) ≡ m
  machine-settled m broods log = machine-settled_by (o.ending m) m broods log

  settled_by-sound : (m n : M) (cloned : ℕ → Bool) (broods : Broods M) (log : Log M) (e : Option E) → o.ending n ≡ e
      → IsStep o m n cloned → ((t : ℕ) → broods_with t broods ≡ one_if (cloned t)) → AreSound o (o.grant m) broods
      → IsSound o (settled_by o e n broods log)
  unfolding IsSound
  settled_by-sound m n cloned broods log None e s counts h =
      let each_one : (t : ℕ) → broods_with t broods ≡ one_if (is_cloned o n t) = λ t. counts t ∙ ap one_if (sym (s.tickets t)) in (
        record { good = s.good; ended = λ ended. absurd (some-none (o.ending n) e ended); one_each = λ lives. each_one },
        AreSound-grants (o.grant m) (o.grant n) broods (λ t has. s.grants t (is-one (broods_with t broods) (is_cloned o n t) (each_one t) has)) h,
      )
  settled_by-sound m n cloned broods log (Some ending) e s counts h =
      (record { good = s.good; ended = λ ended. refl; one_each = λ lives. absurd (some-none (o.ending n) lives (subst IsSome (sym e) refl)) }, tt)

  settled-sound : (m n : M) (cloned : ℕ → Bool) (broods : Broods M) (log : Log M)
      → IsStep o m n cloned → ((t : ℕ) → broods_with t broods ≡ one_if (cloned t)) → AreSound o (o.grant m) broods
      → IsSound o (settled o n broods log)
  settled-sound m n cloned broods log s counts h = settled_by-sound m n cloned broods log (o.ending n) refl s counts h

  -- a machine that has cloned nothing is sound alone, as the children of a clone are
  pub good-alone : (m : M) → o.is_good m ≡ true → ((t : ℕ) → is_cloned o m t ≡ false) → IsSound o (alone o m)
  unfolding IsSound broods_with
  good-alone m good none = (record { good = good; ended = λ ended. refl; one_each = λ lives u. ap one_if (sym (none u)) }, tt)

  pub alone-sound : (m : M) (t : ℕ) (n : M) → IsChild o m t n → IsSound o (alone o n)
  alone-sound m t n c = good-alone n c.good c.tickets

  none-cloned : (m : M) → o.cloned m ≡ [] → (t : ℕ) → is_cloned o m t ≡ false
  unfolding is_among
  none-cloned m none t = ap (is_among t) none

  pub start-sound : (m : M) → o.is_good m ≡ true → o.cloned m ≡ [] → IsSound o (alone o m)
  start-sound m good none = good-alone m good (none-cloned m none)

  pub size-children_from : (m : M) (n k : ℕ) → size (children_from o m k n) ≡ n
  unfolding size children_from
  size-children_from m zero k = refl
  size-children_from m (suc n) k = ap suc (size-children_from m n (suc k))

  -- the endings of trees that have ended are as many as they
  length-with_ending : (e : Option E) (rest : List E) → is_some e ≡ true → length (with_ending o e rest) ≡ suc (length rest)
  length-with_ending None rest h = cc
  length-with_ending (Some ending) rest h = refl

  pub length-endings : (trees : Trees M) → have_ended o trees ≡ true → length (endings o trees) ≡ size trees
  unfolding have_ended endings size
  length-endings no_tree h = refl
  length-endings (tree t rest) h =
      let both = and_parts (is_some (o.ending (machine t))) (have_ended o rest) h in
      length-with_ending (o.ending (machine t)) (endings o rest) both.0 ∙ ap suc (length-endings rest both.1)

  module _ (rules : IsMachine o) where
    -- a clone is of a ticket that is not cloned
    new-by : (may cloned : Bool) → may ≡ true → (cloned ≡ true → may ≡ false) → cloned ≡ false
    new-by may false e h = refl
    new-by may true e h = let no : true ≡ false = sym e ∙ h refl in absurd (cc)

    pub clone-is-new : (m : M) (t : ℕ) → Makes o m (Some (clone t)) → is_cloned o m t ≡ false
    clone-is-new m t makes = new-by (o.may_clone m t) (is_cloned o m t) (rules.clone_may m t makes) (rules.cloned_once m t makes.good)

    children_from-sound : (m : M) (t : ℕ) → Makes o m (Some (clone t)) → (n k : ℕ) → 1 ≤ k → k + n ≤ suc (o.grant m t).children
        → Hold o (o.grant m t).share (children_from o m k n)
    unfolding IsSound children_from
    children_from-sound m t makes zero k first last = tt
    children_from-sound m t makes (suc n) k first last =
        let c : IsChild o m t (o.child m k) = rules.child m t k makes first (omega arith) in
        (c.holding, alone-sound m t (o.child m k) c, children_from-sound m t makes n (suc k) (omega arith) (omega arith))

    -- the brood of a ticket that has one is as large as was granted
    size-brood_by : (grant : ℕ → Grant) (t u : ℕ) (trees rest : Trees M) (same : Bool) → eqb u t ≡ same
        → size trees ≡ (grant u).children → (same ≡ false → size rest ≡ (grant t).children)
        → size (cond same trees rest) ≡ (grant t).children
    size-brood_by grant t u trees rest true e n h = n ∙ ap (λ v. (grant v).children) (eqb-true u t e)
    size-brood_by grant t u trees rest false e n h = h refl

    pub size-brood_of : (grant : ℕ → Grant) (t : ℕ) (broods : Broods M) → AreSound o grant broods → 0 < broods_with t broods
        → size (brood_of t broods) ≡ (grant t).children
    unfolding IsSound brood_of broods_with
    size-brood_of grant t no_brood h has = absurd (omega arith)
    size-brood_of grant t (brood u trees rest) h has =
        size-brood_by grant t u trees (brood_of t rest) (eqb u t) refl h.0
        (λ other.
        let below : 0 < one_if false + broods_with t rest = subst (λ same. 0 < one_if same + broods_with t rest) other has in
        size-brood_of grant t rest h.2 (omega arith))

    -- a step to a machine n
    settled-keeps : (m n : M) (cloned : ℕ → Bool) (before broods : Broods M) (log after : Log M)
        → IsStep o m n cloned → ((t : ℕ) → broods_with t broods ≡ one_if (cloned t)) → AreSound o (o.grant m) broods
        → KeepsTo (node m before log) (settled o n broods after)
    settled-keeps m n cloned before broods log after s counts h = record {
      sound = settled-sound m n cloned broods after s counts h;
      holding = ap o.holding (machine-settled n broods after) ∙ s.holding;
    }

    -- a ticket that is cloned has a brood
    has-brood : (n : ℕ) (cloned : Bool) → n ≡ one_if cloned → cloned ≡ true → 0 < n
    has-brood n true h e = omega arith
    has-brood n false h e = cc

    without-counts : (m : M) (broods : Broods M) (t u : ℕ) → broods_with u broods ≡ one_if (is_cloned o m u)
        → broods_with u (without t broods) ≡ one_if (not (eqb t u) && is_cloned o m u)
    without-counts m broods t u h =
        broods_with-without t u broods ∙ one-without (eqb t u) (is_cloned o m u) (broods_with u broods) h

    clone-counts : (m : M) (broods : Broods M) (t u : ℕ) (kids : Trees M) → is_cloned o m t ≡ false
        → broods_with u broods ≡ one_if (is_cloned o m u)
        → broods_with u (brood t kids broods) ≡ one_if ((eqb t u) || is_cloned o m u)
    unfolding broods_with
    clone-counts m broods t u kids fresh h =
        one-clone (eqb t u) (is_cloned o m u) (broods_with u broods)
        (λ same. ap (is_cloned o m) (sym (eqb-true t u same)) ∙ fresh) h

    clone-sound : (m : M) (t : ℕ) (broods : Broods M) → Makes o m (Some (clone t)) → AreSound o (o.grant m) broods
        → AreSound o (o.grant m) (brood t (children o m t) broods)
    unfolding IsSound
    clone-sound m t broods makes h = (
      size-children_from m (o.grant m t).children 1,
      children_from-sound m t makes (o.grant m t).children 1 (omega arith) (omega arith),
      h,
    )

    -- the brood of a cloned ticket has as many trees as were granted
    pub size-cloned : (t : ℕ) (m : M) (broods : Broods M) (log : Log M) → o.ending m ≡ None → is_cloned o m t ≡ true
        → IsSound o (node m broods log) → size (brood_of t broods) ≡ (o.grant m t).children
    size-cloned t m broods log lives cloned h =
        let counts : broods_with t broods ≡ one_if (is_cloned o m t) = (root-sound m broods log h).one_each lives t in
        size-brood_of (o.grant m) t broods (below-sound m broods log h) (has-brood (broods_with t broods) (is_cloned o m t) counts cloned)

    -- a join that need not wait is a step
    pub join-step : (t : ℕ) (m : M) (broods : Broods M) (log : Log M) → have_ended o (brood_of t broods) ≡ true
        → Makes o m (Some (join t)) → IsSound o (node m broods log)
        → IsStep o m (o.after_join m (endings o (brood_of t broods))) (λ u. not (eqb t u) && is_cloned o m u)
    join-step t m broods log e makes h =
        rules.after_join m t (endings o (brood_of t broods)) makes
        (length-endings (brood_of t broods) e ∙ size-cloned t m broods log makes.lives (rules.join_is_cloned m t makes) h)

    join_by-keeps : (ready : Bool) (t : ℕ) (m : M) (broods : Broods M) (log : Log M) → have_ended o (brood_of t broods) ≡ ready
        → Makes o m (Some (join t)) → IsSound o (node m broods log) → KeepsTo (node m broods log) (join_by o ready t m broods log)
    join_by-keeps false t m broods log e makes h = record { sound = h; holding = refl }
    join_by-keeps true t m broods log e makes h =
        settled-keeps m (o.after_join m (endings o (brood_of t broods))) (λ u. not (eqb t u) && is_cloned o m u)
        broods (without t broods) log (joined log t (brood_of t broods))
        (join-step t m broods log e makes h)
        (λ u. without-counts m broods t u ((root-sound m broods log h).one_each makes.lives u))
        (AreSound-without (o.grant m) t broods (below-sound m broods log h))

    step_by-keeps : (next : Option Call) (m : M) (broods : Broods M) (log : Log M) → Makes o m next → IsSound o (node m broods log)
        → KeepsTo (node m broods log) (step_by o next m broods log)
    step_by-keeps None m broods log makes h =
        settled-keeps m (o.advance m) (is_cloned o m) broods broods log log (rules.advance m makes)
        ((root-sound m broods log h).one_each makes.lives) (below-sound m broods log h)
    step_by-keeps (Some (clone t)) m broods log makes h =
        settled-keeps m (o.forked m) (λ u. eqb t u || is_cloned o m u) broods (brood t (children o m t) broods) log log
        (rules.forked m t makes)
        (λ u. clone-counts m broods t u (children o m t) (clone-is-new m t makes)
        ((root-sound m broods log h).one_each makes.lives u))
        (clone-sound m t broods makes (below-sound m broods log h))
    step_by-keeps (Some (join t)) m broods log makes h =
        join_by-keeps (have_ended o (brood_of t broods)) t m broods log refl makes h
    step_by-keeps (Some (kill t)) m broods log makes h =
        settled-keeps m (o.after_kill m) (λ u. not (eqb t u) && is_cloned o m u)
        broods (without t broods) log (killed log t (o.grant m t).children)
        (rules.after_kill m t makes)
        (λ u. without-counts m broods t u ((root-sound m broods log h).one_each makes.lives u))
        (AreSound-without (o.grant m) t broods (below-sound m broods log h))

    step_from-keeps : (e : Option E) (m : M) (broods : Broods M) (log : Log M) → o.ending m ≡ e → IsSound o (node m broods log)
        → KeepsTo (node m broods log) (step_from o e m broods log)
    step_from-keeps None m broods log e h =
        step_by-keeps (o.call m) m broods log (record { good = (root-sound m broods log h).good; lives = e; call = refl }) h
    step_from-keeps (Some ending) m broods log e h = record { sound = h; holding = refl }

    pub step-keeps : (t : Tree M) → IsSound o t → Keeps (step o) t
    unfolding step
    step-keeps (node m broods log) h = step_from-keeps (o.ending m) m broods log refl h

    -- a tree stays sound where its broods are changed
    pub broods-sound : (m : M) (broods after : Broods M) (log : Log M) → ((t : ℕ) → broods_with t after ≡ broods_with t broods)
        → (broods ≡ no_brood → after ≡ no_brood) → AreSound o (o.grant m) after
        → IsSound o (node m broods log) → IsSound o (node m after log)
    unfolding IsSound
    broods-sound m broods after log counts none sound h = (
      record {
        good = h.0.good;
        ended = λ ended. none (h.0.ended ended);
        one_each = λ lives t. counts t ∙ h.0.one_each lives t;
      },
      sound,
    )

    pub at_brood-none : (f : Trees M → Trees M) (t : ℕ) (broods : Broods M) → broods ≡ no_brood → at_brood f t broods ≡ no_brood
    unfolding at_brood
    at_brood-none f t no_brood e = refl
    at_brood-none f t (brood u trees rest) e = absurd (cc)

    -- a change that keeps each sound tree so
    pub at_path-keeps : (f : Tree M → Tree M) → ((t : Tree M) → IsSound o t → Keeps f t) → (path : Path) (t : Tree M) → IsSound o t
        → Keeps (at_path f path) t
    unfolding at_path
    at_path-keeps f keeps [] t h = keeps t h
    at_path-keeps f keeps (b ∷ path) (node m broods log) h = record {
      sound = broods-sound m broods (at_brood (at_child (at_path f path) b.child) b.ticket broods) log
          (λ t. broods_with-at_brood (at_child (at_path f path) b.child) b.ticket t broods)
          (at_brood-none (at_child (at_path f path) b.child) b.ticket broods)
          (AreSound-at_brood (at_child (at_path f path) b.child) (o.grant m) b.ticket
          (size-at_child (at_path f path) b.child)
          (λ share trees held. Hold-at_child (at_path f path) (λ u sound. at_path-keeps f keeps path u sound) share b.child trees held)
          broods (below-sound m broods log h))
          h;
      holding = refl;
    }

    pub steps-keeps : (k : ℕ) (t : Tree M) → IsSound o t → Keeps (steps o k) t
    unfolding steps
    steps-keeps zero t h = record { sound = h; holding = refl }
    steps-keeps (suc k) t h =
        let first : KeepsTo t (step o t) = step-keeps t h in
        let then : KeepsTo (step o t) (steps o k (step o t)) = steps-keeps k (step o t) first.sound in
        record { sound = then.sound; holding = then.holding ∙ first.holding }
