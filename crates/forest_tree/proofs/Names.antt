-- A place that is gone does not come back.
use Rattle.std.proofs.Common.{◌≡◌, ℕ, ◌&&◌, not, eqb, ◌⊎◌, Bool, true, false, cond, refl, sym, ap, ◌∙◌, subst, inl, inr, [], ◌∷◌, Option, Some, None, IsSome, option_and_then, option_map}
use Rattle.forest_tree.specs.Operations.{Call, clone, join, kill, Operations, is_cloned, Makes, IsStep, IsMachine}
use Rattle.forest_tree.specs.Tree.{Tree, node, Trees, Broods, Log, brood, joined, killed, machine, broods_of, child_at, brood_of, without, broods_with, Branch, Path, subtree, at_path}
use Rattle.forest_tree.specs.Step.{have_ended, endings, children, settled, join_by, step_by, step}
use Rattle.forest_tree.specs.Sound.{IsSound}
use Rattle.forest_tree.proofs.Broods.{one_if}
use Rattle.forest_tree.proofs.Sound.{root-sound, machine-settled, join-step}
use Rattle.forest_tree.proofs.Steps.{cases-ending, step-ended, step-lives}
use Rattle.forest_tree.proofs.Places.{Kept, stays, goes, is_new, brood_of-none, kept-step, below-at, is-within, child-moved}

module _ {M E : Type 0} (o : Operations M E) (rules : IsMachine o) where
  -- no number comes back in a step
  settled-once : (m n : M) (cloned : ℕ → Bool) (broods : Broods M) (log : Log M) → IsStep o m n cloned → (u : ℕ)
      → o.may_clone (machine (settled o n broods log)) u ≡ true → o.may_clone m u ≡ true
  settled-once m n cloned broods log s u h = s.once u (ap (λ k. o.may_clone k u) (sym (machine-settled o n broods log)) ∙ h)

  join-once : (ready : Bool) (t : ℕ) (m : M) (broods : Broods M) (log : Log M) → have_ended o (brood_of t broods) ≡ ready
      → Makes o m (Some (join t)) → IsSound o (node m broods log) → (u : ℕ)
      → o.may_clone (machine (join_by o ready t m broods log)) u ≡ true → o.may_clone m u ≡ true
  join-once false t m broods log e makes h u may = may
  join-once true t m broods log e makes h u may =
      settled-once m (o.after_join m (endings o (brood_of t broods))) (λ k. not (eqb t k) && is_cloned o m k)
      (without t broods) (joined log t (brood_of t broods)) (join-step o rules t m broods log e makes h) u may

  step_by-once : (next : Option Call) (m : M) (broods : Broods M) (log : Log M) → Makes o m next → IsSound o (node m broods log) → (u : ℕ)
      → o.may_clone (machine (step_by o next m broods log)) u ≡ true → o.may_clone m u ≡ true
  step_by-once None m broods log makes h u may =
      settled-once m (o.advance m) (is_cloned o m) broods log (rules.advance m makes) u may
  step_by-once (Some (clone t)) m broods log makes h u may =
      settled-once m (o.forked m) _ (brood t (children o m t) broods) log (rules.forked m t makes) u may
  step_by-once (Some (join t)) m broods log makes h u may =
      join-once (have_ended o (brood_of t broods)) t m broods log refl makes h u may
  step_by-once (Some (kill t)) m broods log makes h u may =
      settled-once m (o.after_kill m) _ (without t broods) (killed log t (o.grant m t).children) (rules.after_kill m t makes) u may

  -- a ticket is past where it is not to be cloned, or the machine has ended
  abbrev pub IsPast : M → ℕ → Type 0
  IsPast m t = (o.may_clone m t ≡ false) ⊎ IsSome (o.ending m)

  false-before : (before after : Bool) → (after ≡ true → before ≡ true) → before ≡ false → after ≡ false
  false-before before false h e = refl
  false-before before true h e = let no : true ≡ false = sym (h refl) ∙ e in absurd (cc)

  step-past : (m : M) (broods : Broods M) (log : Log M) (u : ℕ) → IsSound o (node m broods log) → IsPast m u
      → IsPast (machine (step o (node m broods log))) u
  step-past m broods log u h past = elim (cases-ending (o.ending m)) [
    | inl ended ↦ subst (λ t. IsPast (machine t) u) (sym (step-ended o m broods log ended.0 ended.1)) past
    | inr lives ↦
        let makes : Makes o m (o.call m) = record { good = (root-sound o m broods log h).good; lives = lives; call = refl } in
        subst (λ t. IsPast (machine t) u) (sym (step-lives o m broods log (o.call m) lives refl))
        (live past lives (step_by-once (o.call m) m broods log makes h u))
  ]
    where
      live : {n : M} → IsPast m u → o.ending m ≡ None → (o.may_clone n u ≡ true → o.may_clone m u ≡ true) → IsPast n u
      live {n} (inl never) lives once = inl (false-before (o.may_clone m u) (o.may_clone n u) once never)
      live {n} (inr ended) lives once = let no : IsSome {T = E} None = subst IsSome lives ended in absurd (cc)

  -- a cloned ticket is past
  cloned-past : (m : M) (broods : Broods M) (log : Log M) (t k : ℕ) (c : Tree M) → IsSound o (node m broods log)
      → child_at k (brood_of t broods) ≡ Some c → IsPast m t
  unfolding child_at
  cloned-past m broods log t k c h found = elim (cases-ending (o.ending m)) [
    | inl ended ↦ inr (subst IsSome (sym ended.1) refl)
    | inr lives ↦ inl (rules.cloned_once m t (root-sound o m broods log h).good (is-one (is_cloned o m t) ((root-sound o m broods log h).one_each lives t)))
  ]
    where
      is-one : (b : Bool) → broods_with t broods ≡ one_if b → b ≡ true
      is-one true e = refl
      is-one false e = let none : None ≡ Some c = ap (child_at k) (sym (brood_of-none t broods e)) ∙ found in absurd (cc)

  -- a place that is gone: on the way there no child is, and its ticket is past
  unfoldable pub GoneIn : (Tree M → Type 0) → Option (Tree M) → M → ℕ → Type 0
  GoneIn gone None m t = IsPast m t
  GoneIn gone (Some c) m t = gone c

  unfoldable pub IsGone : Path → Tree M → Type 0
  IsGone [] t = ⊥
  IsGone (b ∷ way) t = GoneIn (IsGone way) (child_at b.child (brood_of b.ticket (broods_of t))) (machine t) b.ticket

  pub gone-none : (at : Path) (t : Tree M) → IsGone at t → subtree at t ≡ None
  unfolding IsGone GoneIn subtree
  gone-none [] t gone = absurd gone
  gone-none (b ∷ way) t gone = by (child_at b.child (brood_of b.ticket (broods_of t))) gone (λ c. gone-none way c)
    where
      by : (c : Option (Tree M)) → GoneIn (IsGone way) c (machine t) b.ticket → ((u : Tree M) → IsGone way u → subtree way u ≡ None)
          → option_and_then (subtree way) c ≡ None
      by None past down = refl
      by (Some c) inside down = down c inside

  -- after a step of the machine above
  gone-above : (gone : Tree M → Type 0) (m n : M) (t k : ℕ) (before after : Trees M) → Kept (o.may_clone m t) before after
      → o.may_clone m t ≡ false → GoneIn gone (child_at k before) m t → IsPast n t → GoneIn gone (child_at k after) n t
  unfolding GoneIn child_at
  gone-above gone m n t k before after (stays e) never h past = by (child_at k before) h (ap (child_at k) e)
    where
      by : (c : Option (Tree M)) → GoneIn gone c m t → child_at k after ≡ c → GoneIn gone (child_at k after) n t
      by None h e = subst (λ c. GoneIn gone c n t) (sym e) past
      by (Some c) h e = subst (λ c. GoneIn gone c n t) (sym e) h
  gone-above gone m n t k before after (goes e) never h past = subst (λ (trees : Trees M). GoneIn gone (child_at k trees) n t) (sym e) past
  gone-above gone m n t k before after (is_new may e) never h past = let no : true ≡ false = sym may ∙ never in absurd (cc)

  never-alive : (m : M) (t : ℕ) → IsPast m t → o.ending m ≡ None → o.may_clone m t ≡ false
  never-alive m t (inl never) lives = never
  never-alive m t (inr ended) lives = let no : IsSome {T = E} None = subst IsSome lives ended in absurd (cc)

  past-in : (gone : Tree M → Type 0) (m : M) (broods : Broods M) (log : Log M) (t k : ℕ) → IsSound o (node m broods log)
      → GoneIn gone (child_at k (brood_of t broods)) m t → IsPast m t
  unfolding GoneIn
  past-in gone m broods log t k h inside = by (child_at k (brood_of t broods)) refl inside
    where
      by : (c : Option (Tree M)) → child_at k (brood_of t broods) ≡ c → GoneIn gone c m t → IsPast m t
      by None e past = past
      by (Some c) e past = cloned-past m broods log t k c h e

  gone-root : (b : Branch) (way : Path) (m : M) (broods : Broods M) (log : Log M) → IsSound o (node m broods log)
      → IsGone (b ∷ way) (node m broods log) → IsGone (b ∷ way) (step o (node m broods log))
  unfolding IsGone
  gone-root b way m broods log h gone = elim (cases-ending (o.ending m)) [
    | inl ended ↦ subst (IsGone (b ∷ way)) (sym (step-ended o m broods log ended.0 ended.1)) gone
    | inr lives ↦
        let past : IsPast m b.ticket = past-in (IsGone way) m broods log b.ticket b.child h gone in
        gone-above (IsGone way) m (machine (step o (node m broods log))) b.ticket b.child (brood_of b.ticket broods)
        (brood_of b.ticket (broods_of (step o (node m broods log))))
        (kept-step o rules m broods log h b.ticket) (never-alive m b.ticket past lives) gone (step-past m broods log b.ticket h past)
  ]

  -- after a step below
  pub gone-below : (gone : Tree M → Type 0) (f : Tree M → Tree M) (m : M) (t : ℕ) (same : Bool) (c : Option (Tree M))
      → GoneIn gone c m t → ((u : Tree M) → c ≡ Some u → gone u → gone (f u)) → GoneIn gone (cond same (option_map f c) c) m t
  unfolding GoneIn
  gone-below gone f m t true None h down = h
  gone-below gone f m t false None h down = h
  gone-below gone f m t true (Some u) h down = down u refl h
  gone-below gone f m t false (Some u) h down = h

  pub gone-stepped : (at path : Path) (t : Tree M) → IsSound o t → IsGone at t → IsGone at (at_path (step o) path t)
  unfolding IsGone at_path
  gone-stepped [] path t h gone = gone
  gone-stepped (b ∷ way) [] (node m broods log) h gone = gone-root b way m broods log h gone
  gone-stepped (b ∷ way) (y ∷ path) (node m broods log) h gone =
      subst (λ c. GoneIn (IsGone way) c m b.ticket) (sym (child-moved (at_path (step o) path) b y broods))
      (gone-below (IsGone way) (at_path (step o) path) m b.ticket (eqb y.ticket b.ticket && eqb y.child b.child)
      (child_at b.child (brood_of b.ticket broods)) gone
      (λ u found inside. gone-stepped way path u (below-at o m broods log b.ticket b.child u h found) inside))

  -- what was there and is not after a step is gone
  lost-root : (gone : Tree M → Type 0) (b : Branch) (way : Path) (m n : M) (before after : Trees M) (a : Tree M)
      → Kept (o.may_clone m b.ticket) before after → o.may_clone m b.ticket ≡ false → IsPast n b.ticket
      → option_and_then (subtree way) (child_at b.child before) ≡ Some a → option_and_then (subtree way) (child_at b.child after) ≡ None
      → GoneIn gone (child_at b.child after) n b.ticket
  unfolding GoneIn child_at
  lost-root gone b way m n before after a (stays e) never past here there =
      let no : None ≡ Some a = sym there ∙ ap (λ trees. option_and_then (subtree way) (child_at b.child trees)) e ∙ here in absurd (cc)
  lost-root gone b way m n before after a (goes e) never past here there =
      subst (λ (trees : Trees M). GoneIn gone (child_at b.child trees) n b.ticket) (sym e) past
  lost-root gone b way m n before after a (is_new may e) never past here there = let no : true ≡ false = sym may ∙ never in absurd (cc)

  lost-step : (b : Branch) (way : Path) (m : M) (broods : Broods M) (log : Log M) (a : Tree M) → IsSound o (node m broods log)
      → subtree (b ∷ way) (node m broods log) ≡ Some a → subtree (b ∷ way) (step o (node m broods log)) ≡ None
      → IsGone (b ∷ way) (step o (node m broods log))
  unfolding IsGone subtree
  lost-step b way m broods log a h here there = elim (cases-ending (o.ending m)) [
    | inl ended ↦
        let same = step-ended o m broods log ended.0 ended.1 in
        let no : None ≡ Some a = sym there ∙ ap (subtree (b ∷ way)) same ∙ here in absurd (cc)
    | inr lives ↦
        let is = is-within o way (child_at b.child (brood_of b.ticket broods)) a here in
        let past : IsPast m b.ticket = cloned-past m broods log b.ticket b.child is.0 h is.1 in
        lost-root (IsGone way) b way m (machine (step o (node m broods log))) (brood_of b.ticket broods)
        (brood_of b.ticket (broods_of (step o (node m broods log)))) a
        (kept-step o rules m broods log h b.ticket) (never-alive m b.ticket past lives) (step-past m broods log b.ticket h past) here there
  ]

  lost-below : (gone : Tree M → Type 0) (f : Tree M → Tree M) (way : Path) (m : M) (t : ℕ) (same : Bool) (c : Option (Tree M)) (a : Tree M)
      → option_and_then (subtree way) c ≡ Some a → option_and_then (subtree way) (cond same (option_map f c) c) ≡ None
      → ((u : Tree M) → c ≡ Some u → subtree way u ≡ Some a → subtree way (f u) ≡ None → gone (f u))
      → GoneIn gone (cond same (option_map f c) c) m t
  unfolding GoneIn
  lost-below gone f way m t same None a here there down = absurd (cc)
  lost-below gone f way m t true (Some u) a here there down = down u refl here there
  lost-below gone f way m t false (Some u) a here there down = let no : None ≡ Some a = sym there ∙ here in absurd (cc)

  pub lost-stepped : (at path : Path) (t a : Tree M) → IsSound o t → subtree at t ≡ Some a → subtree at (at_path (step o) path t) ≡ None
      → IsGone at (at_path (step o) path t)
  unfolding IsGone at_path subtree
  lost-stepped [] path t a h here there = absurd (cc)
  lost-stepped (b ∷ way) [] (node m broods log) a h here there = lost-step b way m broods log a h here there
  lost-stepped (b ∷ way) (y ∷ path) (node m broods log) a h here there =
      let moved = child-moved (at_path (step o) path) b y broods in
      subst (λ c. GoneIn (IsGone way) c m b.ticket) (sym moved)
      (lost-below (IsGone way) (at_path (step o) path) way m b.ticket (eqb y.ticket b.ticket && eqb y.child b.child)
      (child_at b.child (brood_of b.ticket broods)) a here (ap (option_and_then (subtree way)) (sym moved) ∙ there)
      (λ u found inside outside. lost-stepped way path u a (below-at o m broods log b.ticket b.child u h found) inside outside))
