-- What steps of one machine leave at each place of a family.
use Rattle.std.proofs.Common.{◌≡◌, ◌≢◌, ℕ, zero, suc, ◌&&◌, eqb, eqb-true, eq-eqb, Bool, true, false, cond, refl, sym, ap, ap₂, ◌∙◌, subst, ◌⊎◌}
use Rattle.std.proofs.Common.{inl, inr, [], ◌∷◌, Option, Some, None, IsSome, option_and_then, option_map}
use Rattle.std.proofs.lemmas.Bool.{and_parts}
use Rattle.forest_tree.specs.Operations.{Call, clone, join, kill, Operations, is_cloned, Makes, IsMachine}
use Rattle.forest_tree.specs.Tree.{Tree, node, Trees, no_tree, Broods, brood, Log, joined, killed, machine, log_of, broods_of, child_at, brood_of, without, Branch}
use Rattle.forest_tree.specs.Tree.{Path, subtree, beyond, goes_on, is_below}
use Rattle.forest_tree.specs.Step.{have_ended, endings, children, settled_by, settled, join_by, step_by, step}
use Rattle.forest_tree.specs.Sound.{IsSound}
use Rattle.forest_tree.proofs.Broods.{one_if}
use Rattle.forest_tree.proofs.Sound.{clone-is-new, machine-settled, root-sound}
use Rattle.forest_tree.proofs.Steps.{cases-ending, step-ended, step-lives}
use Rattle.forest_tree.proofs.Places.{some-same, brood_of-none, brood_of-without}
use Rattle.sibling_forest.specs.Talk.{Talks, queue, Box}
use Rattle.sibling_forest.specs.Settle.{settle}
use Rattle.sibling_forest.specs.Laws.{child_number, is_sibling}
use Rattle.sibling_forest.proofs.Others as one
use Rattle.drive_script.specs.Steps.{after_steps, Drops, by_kill, by_join, by_end}
use Rattle.drive_script.proofs.Steps.{after-first, after-none}

-- ---- paths

same-branch : (a b : Branch) (ticket child : Bool) → eqb b.ticket a.ticket ≡ ticket → eqb b.child a.child ≡ child → (ticket && child) ≡ true → a ≡ b
same-branch a b ticket child e f h =
    let parts = and_parts ticket child h in
    let make : ℕ → ℕ → Branch = λ t k. record { ticket = t; child = k } in
    ap₂ make (sym (eqb-true b.ticket a.ticket (e ∙ parts.0))) (sym (eqb-true b.child a.child (f ∙ parts.1)))

if-some : (same : Bool) (rest : Option Path) (found : Path) → cond same rest None ≡ Some found → (same ≡ true) × (rest ≡ Some found)
if-some true rest found h = (refl, h)
if-some false rest found h = cc h

if-goes : (same : Bool) (rest : Option Path) → goes_on (cond same rest None) ≡ true → goes_on rest ≡ true
if-goes true rest h = h
if-goes false rest h = cc h

if-none : (same : Bool) (rest : Option Path) → rest ≡ None → cond same rest None ≡ None
if-none true rest h = h
if-none false rest h = refl

-- nothing is left of a path beyond itself alone
pub beyond-itself : (at path : Path) → beyond at path ≡ Some [] → at ≡ path
unfolding beyond
beyond-itself [] path h = sym (some-same path [] h)
beyond-itself (a ∷ way) [] h = cc h
beyond-itself (a ∷ way) (b ∷ path) h =
    let parts = if-some (eqb b.ticket a.ticket && eqb b.child a.child) (beyond way path) [] h in
    ap₂ ◌∷◌ (same-branch a b (eqb b.ticket a.ticket) (eqb b.child a.child) refl refl parts.0) (beyond-itself way path parts.1)

-- a path does not go through what is below it
pub below-apart : (path at : Path) → is_below path at ≡ true → beyond at path ≡ None
unfolding beyond
below-apart [] [] h = cc h
below-apart [] (b ∷ at) h = refl
below-apart (a ∷ path) [] h = cc h
below-apart (a ∷ path) (b ∷ at) h =
    if-none (eqb a.ticket b.ticket && eqb a.child b.child) (beyond at path)
    (below-apart path at (if-goes (eqb b.ticket a.ticket && eqb b.child a.child) (beyond path at) h))

-- ---- trees that are not below

module _ {M E : Type 0} (o : Operations M E) (k : Talks M) where
  -- a law of one step holds of all
  steps-stay : {A : Type 0} (seen : Tree (Box M) → A) (path at : Path) → ((t : Tree (Box M)) → option_map seen (subtree at (settle o k path t)) ≡ option_map seen (subtree at t))
      → (n : ℕ) (t : Tree (Box M)) → option_map seen (subtree at (after_steps o k n path t)) ≡ option_map seen (subtree at t)
  steps-stay seen path at same zero t = ap (λ u. option_map seen (subtree at u)) (after-none o k path t)
  steps-stay seen path at same (suc n) t =
      ap (λ u. option_map seen (subtree at u)) (after-first o k n path t) ∙ steps-stay seen path at same n (settle o k path t) ∙ same t

  pub others-stay : (n : ℕ) (path at : Path) (t : Tree (Box M)) → at ≢ path → is_below path at ≡ false
      → option_map (λ (a : Tree (Box M)). (machine a).machine) (subtree at (after_steps o k n path t)) ≡ option_map (λ (a : Tree (Box M)). (machine a).machine) (subtree at t)
  others-stay n path at t other below = steps-stay (λ a. (machine a).machine) path at (λ u. one.others-stay o k path at u other below) n t

  pub words-stay : (n : ℕ) (path at : Path) (from : ℕ) (t : Tree (Box M)) → at ≢ path → is_below path at ≡ false
      → (is_sibling path at ≡ true → from ≢ child_number path)
      → option_map (λ (a : Tree (Box M)). queue from (machine a).inbox) (subtree at (after_steps o k n path t))
      ≡ option_map (λ (a : Tree (Box M)). queue from (machine a).inbox) (subtree at t)
  words-stay n path at from t other below apart =
      steps-stay (λ a. queue from (machine a).inbox) path at (λ u. one.queues-stay o k path at from u other below apart) n t

  pub logs-stay : (n : ℕ) (path at : Path) (t : Tree (Box M)) → at ≢ path → is_below path at ≡ false
      → option_map log_of (subtree at (after_steps o k n path t)) ≡ option_map log_of (subtree at t)
  logs-stay n path at t other below = steps-stay log_of path at (λ u. one.logs-stay o k path at u other below) n t

  same-option : (c : Option (Tree (Box M))) → option_map (λ (a : Tree (Box M)). a) c ≡ c
  same-option None = refl
  same-option (Some a) = refl

  pub itself-on : (at : Path) → beyond at at ≡ Some []
  unfolding beyond
  itself-on [] = refl
  itself-on (y ∷ way) = ap₂ (λ s c. cond (s && c) (beyond way way) None) (eq-eqb y.ticket y.ticket refl) (eq-eqb y.child y.child refl) ∙ itself-on way

  pub off-other : (at path : Path) → beyond at path ≡ None → at ≢ path
  off-other at path off same = let no : Some [] ≡ None = sym (itself-on at) ∙ ap (beyond at) same ∙ off in absurd (cc)

  pub apart-stays : (n : ℕ) (path at : Path) (t : Tree (Box M)) → is_below path at ≡ false → beyond at path ≡ None → is_sibling path at ≡ false
      → subtree at (after_steps o k n path t) ≡ subtree at t
  apart-stays n path at t below off beside =
      sym (same-option (subtree at (after_steps o k n path t)))
      ∙ steps-stay (λ a. a) path at (λ u. one.view-stays o k (λ a. a) path at u (off-other at path off) below (λ on. absurd (on off))
      (λ is. absurd (yes-no (is_sibling path at) is beside))) n t
      ∙ same-option (subtree at t)
    where
      yes-no : (b : Bool) → b ≡ true → b ≡ false → ⊥
      yes-no b h n = cc

-- ---- what is dropped

module _ {M E : Type 0} (o : Operations M E) where
  broods-settled : (m : M) (broods : Broods M) (log : Log M) → o.ending (machine (settled o m broods log)) ≡ None → broods_of (settled o m broods log) ≡ broods
  broods-settled m broods log lives =
      ap (λ e. broods_of (settled_by o e m broods log)) (sym (ap o.ending (machine-settled o m broods log)) ∙ lives)

  -- a brood that goes without the end of its machine was killed or joined
  left-by : (ticket u : ℕ) (before : Trees M) (same : Bool) → eqb ticket u ≡ same → (P : ℕ → Type 0) → P ticket
      → (cond same no_tree before ≡ before) ⊎ P u
  left-by ticket u before false e P given = inl refl
  left-by ticket u before true e P given = inr (subst P (eqb-true ticket u e) given)

  new-by : (ticket u : ℕ) (before after : Trees M) (same : Bool) → eqb ticket u ≡ same → (ticket ≡ u → before ≡ no_tree) → (before ≡ no_tree → ⊥)
      → cond same after before ≡ before
  new-by ticket u before after false e none some = refl
  new-by ticket u before after true e none some = absurd (some (none (eqb-true ticket u e)))

  left-join : (ready : Bool) (m : M) (broods : Broods M) (log : Log M) (ticket u : ℕ) → have_ended o (brood_of ticket broods) ≡ ready → o.call m ≡ Some (join ticket)
      → o.ending (machine (join_by o ready ticket m broods log)) ≡ None
      → (brood_of u (broods_of (join_by o ready ticket m broods log)) ≡ brood_of u broods) ⊎ Drops o u (node m broods log)
  left-join false m broods log ticket u e call lives = inl refl
  left-join true m broods log ticket u e call lives =
      let now = ap (brood_of u) (broods-settled (o.after_join m (endings o (brood_of ticket broods))) (without ticket broods) (joined log ticket (brood_of ticket broods)) lives) in
      let Joins : ℕ → Type 0 = λ t. (o.call m ≡ Some (join t)) × (have_ended o (brood_of t broods) ≡ true) in
      elim (left-by ticket u (brood_of u broods) (eqb ticket u) refl Joins (call, e)) [
        | inl same ↦ inl (now ∙ brood_of-without ticket u broods ∙ same)
        | inr joins ↦ inr (by_join joins.0 joins.1)
      ]

  module _ (rules : IsMachine o) where
    left : (next : Option Call) (m : M) (broods : Broods M) (log : Log M) → Makes o m next → IsSound o (node m broods log)
        → o.ending (machine (step_by o next m broods log)) ≡ None → (u : ℕ) → (brood_of u broods ≡ no_tree → ⊥)
        → (brood_of u (broods_of (step_by o next m broods log)) ≡ brood_of u broods) ⊎ Drops o u (node m broods log)
    unfolding brood_of
    left None m broods log makes h lives u some = inl (ap (brood_of u) (broods-settled (o.advance m) broods log lives))
    left (Some (clone t)) m broods log makes h lives u some =
        let fresh : t ≡ u → brood_of u broods ≡ no_tree =
        λ e. brood_of-none u broods ((root-sound o m broods log h).one_each makes.lives u ∙ ap one_if (ap (is_cloned o m) (sym e) ∙ clone-is-new o rules m t makes)) in
        inl (ap (brood_of u) (broods-settled (o.forked m) (brood t (children o m t) broods) log lives)
        ∙ new-by t u (brood_of u broods) (children o m t) (eqb t u) refl fresh some)
    left (Some (join t)) m broods log makes h lives u some = left-join (have_ended o (brood_of t broods)) m broods log t u refl makes.call lives
    left (Some (kill t)) m broods log makes h lives u some =
        let now = ap (brood_of u) (broods-settled (o.after_kill m) (without t broods) (killed log t (o.grant m t).children) lives) in
        elim (left-by t u (brood_of u broods) (eqb t u) refl (λ v. o.call m ≡ Some (kill v)) makes.call) [
          | inl same ↦ inl (now ∙ brood_of-without t u broods ∙ same)
          | inr kills ↦ inr (by_kill kills)
        ]

    left-step : (t : Tree M) → IsSound o t → (u : ℕ) → (brood_of u (broods_of t) ≡ no_tree → ⊥)
        → (brood_of u (broods_of (step o t)) ≡ brood_of u (broods_of t)) ⊎ Drops o u t
    left-step (node m broods log) h u some = elim (cases-ending (o.ending m)) [
      | inl ended ↦ inl (ap (λ x. brood_of u (broods_of x)) (step-ended o m broods log ended.0 ended.1))
      | inr lives ↦ elim (cases-ending (o.ending (machine (step o (node m broods log))))) [
        | inl end ↦ inr (by_end (subst IsSome (sym end.1) refl))
        | inr goes ↦
            let made = step-lives o m broods log (o.call m) lives refl in
            elim (left (o.call m) m broods log (record { good = (root-sound o m broods log h).good; lives = lives; call = refl }) h
            (sym (ap (λ x. o.ending (machine x)) made) ∙ goes) u some) [
              | inl same ↦ inl (ap (λ x. brood_of u (broods_of x)) made ∙ same)
              | inr drops ↦ inr drops
            ]
      ]
    ]

    pub gone-by : (b : Branch) (rest : Path) (x a : Tree M) → IsSound o x → subtree (b ∷ rest) x ≡ Some a → subtree (b ∷ rest) (step o x) ≡ None → Drops o b.ticket x
    unfolding subtree child_at
    gone-by b rest x a h here there =
        let within : Trees M → Option (Tree M) = λ trees. option_and_then (subtree rest) (child_at b.child trees) in
        let some : brood_of b.ticket (broods_of x) ≡ no_tree → ⊥ = λ none. (let no : None ≡ Some a = sym (ap within none) ∙ here in cc) in
        elim (left-step x h b.ticket some) [
          | inl same ↦ (let no : None ≡ Some a = sym there ∙ ap within same ∙ here in absurd (cc))
          | inr drops ↦ drops
        ]
