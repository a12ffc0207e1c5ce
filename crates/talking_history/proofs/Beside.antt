-- Who rests after a change of the tree of one machine: those beside it that read the same of it as before, and those above it.
use Rattle.std.proofs.Common.{◌≡◌, ◌⊎◌, inl, inr, ℕ, eqb, eqb-true, ◌&&◌, ◌||◌, not, Bool, true, false, cond, refl, sym, ap, ap₂, ◌∙◌, subst, [], ◌∷◌, ◌++◌}
use Rattle.std.proofs.Common.{Option, Some, None, IsSome, is_some, option_map, option_and_then}
use Rattle.std.proofs.Math.Bool.{or-false}
use Rattle.std.proofs.lemmas.Bool.{and_parts}
use Rattle.forest_tree.proofs.Broods.{eqb-same}
use Rattle.forest_tree.specs.Operations.{Operations}
use Rattle.forest_tree.specs.Tree.{Tree, node, Trees, machine, broods_of, at_child, child_at, brood_of, Branch, Path, subtree, beyond, goes_on, at_path, at_beyond}
use Rattle.forest_tree.specs.Step.{rests}
use Rattle.forest_tree.proofs.Places.{some-same, at_child-none, child_at-same, is-within}
use Rattle.sibling_forest.specs.Talk.{Talks, Box, boxed}
use Rattle.sibling_forest.specs.Settle.{box_at, waits_by, sibling_rests_by, rests_there, rests_at}
use Rattle.sibling_forest.specs.Laws.{child_number, is_sibling, queue_from, read_of}
use Rattle.sibling_forest.proofs.Crossing.{changed-brood}
use Rattle.sibling_forest.proofs.Inner.{boxes-stay, waits-stay}
use Rattle.sibling_forest.proofs.WhatIsRead.{read-rests}
use Rattle.forest_tree.proofs.Changes.{at_path-elsewhere, at_path-here, at_path-machine}

module _ {M E : Type 0} (o : Operations M E) (k : Talks M) where
  -- child i waits with its talk for a sibling, if it is there
  abbrev pub talk_by : Option (Tree (Box M)) → ℕ → Trees (Box M) → Bool
  talk_by None i trees = false
  talk_by (Some t) i trees = waits_by o k (k.talk (machine t).machine) i (machine t) trees

  abbrev pub there_by : (Tree (Box M) → Bool) → Option (Tree (Box M)) → Bool
  there_by r None = false
  there_by r (Some t) = r t

  -- so does the machine at a path
  unfoldable pub talk_waits : Path → Tree (Box M) → Bool
  talk_waits [] t = false
  talk_waits (b ∷ []) t = talk_by (child_at b.child (brood_of b.ticket (broods_of t))) b.child (brood_of b.ticket (broods_of t))
  talk_waits (b ∷ (c ∷ path)) t = there_by (talk_waits (c ∷ path)) (child_at b.child (brood_of b.ticket (broods_of t)))

  -- a machine rests by itself, or by its talk
  pub rests-parts : (n : Path) (t a : Tree (Box M)) → subtree n t ≡ Some a → rests_at o k n t ≡ rests (boxed o k) (Some a) || talk_waits n t
  unfolding rests_at talk_waits subtree
  rests-parts [] t a here = ap (λ (u : Tree (Box M)). rests (boxed o k) (Some u)) (some-same t a here) ∙ sym (or-false (rests (boxed o k) (Some a)))
  rests-parts (b ∷ []) t a here =
      let trees : Trees (Box M) = brood_of b.ticket (broods_of t) in
      let is = is-within (boxed o k) [] (child_at b.child trees) a here in
      let found : child_at b.child trees ≡ Some a = is.1 ∙ is.2 in
      ap (λ c. sibling_rests_by o k c b.child trees) found ∙ sym (ap (λ c. rests (boxed o k) (Some a) || talk_by c b.child trees) found)
  rests-parts (b ∷ (c ∷ path)) t a here =
      let is = is-within (boxed o k) (c ∷ path) (child_at b.child (brood_of b.ticket (broods_of t))) a here in
      ap (rests_there (rests_at o k (c ∷ path))) is.1
      ∙ rests-parts (c ∷ path) is.0 a is.2
      ∙ sym (ap (λ d. rests (boxed o k) (Some a) || there_by (talk_waits (c ∷ path)) d) is.1)

  -- a machine that is to make no talk does not wait with one
  pub silent-waits : (n : Path) (t a : Tree (Box M)) → subtree n t ≡ Some a → k.talk (machine a).machine ≡ None → talk_waits n t ≡ false
  unfolding talk_waits subtree
  silent-waits [] t a here quiet = refl
  silent-waits (b ∷ []) t a here quiet =
      let trees : Trees (Box M) = brood_of b.ticket (broods_of t) in
      let is = is-within (boxed o k) [] (child_at b.child trees) a here in
      ap (λ c. talk_by c b.child trees) (is.1 ∙ is.2) ∙ ap (λ what. waits_by o k what b.child (machine a) trees) quiet
  silent-waits (b ∷ (c ∷ path)) t a here quiet =
      let is = is-within (boxed o k) (c ∷ path) (child_at b.child (brood_of b.ticket (broods_of t))) a here in
      ap (there_by (talk_waits (c ∷ path))) is.1 ∙ silent-waits (c ∷ path) is.0 a is.2 quiet

  -- who is below a machine is known of its tree alone
  pub rests-within : (name : Path) (x : Branch) (rest : Path) (t : Tree (Box M))
      → rests_at o k (name ++ (x ∷ rest)) t ≡ rests_there (rests_at o k (x ∷ rest)) (subtree name t)
  unfolding rests_at subtree
  rests-within [] x rest t = refl
  rests-within (b ∷ []) x rest t = by (child_at b.child (brood_of b.ticket (broods_of t)))
    where
      by : (c : Option (Tree (Box M))) → rests_there (rests_at o k (x ∷ rest)) c ≡ rests_there (rests_at o k (x ∷ rest)) (option_and_then (subtree []) c)
      by None = refl
      by (Some u) = refl
  rests-within (b ∷ (c ∷ way)) x rest t = by (child_at b.child (brood_of b.ticket (broods_of t))) (λ u. rests-within (c ∷ way) x rest u)
    where
      by : (d : Option (Tree (Box M)))
          → ((u : Tree (Box M)) → rests_at o k ((c ∷ way) ++ (x ∷ rest)) u ≡ rests_there (rests_at o k (x ∷ rest)) (subtree (c ∷ way) u))
          → rests_there (rests_at o k ((c ∷ way) ++ (x ∷ rest))) d ≡ rests_there (rests_at o k (x ∷ rest)) (option_and_then (subtree (c ∷ way)) d)
      by None down = refl
      by (Some u) down = down u

  -- the talk of a machine above a change
  module _ (f : Tree (Box M) → Tree (Box M)) where
    above-one : (b x : Branch) (rest : Path) (c : Option (Tree (Box M))) (trees after : Trees (Box M))
        → ((j : ℕ) → box_at o k j after ≡ box_at o k j trees)
        → talk_by (option_map (at_path f (x ∷ rest)) c) b.child after ≡ talk_by c b.child trees
    above-one b x rest None trees after same = refl
    above-one b x rest (Some u) trees after same =
        ap (λ (m : Box M). waits_by o k (k.talk m.machine) b.child m after) (at_path-machine f x rest u)
        ∙ waits-stay o k (k.talk (machine u).machine) b.child (machine u) trees after same

    pub talk-above : (n : Path) (x : Branch) (rest : Path) (t : Tree (Box M)) → talk_waits n (at_path f (n ++ (x ∷ rest)) t) ≡ talk_waits n t
    unfolding talk_waits at_path
    talk-above [] x rest t = refl
    talk-above (b ∷ []) x rest (node m broods log) =
        let g : Tree (Box M) → Tree (Box M) = at_path f (x ∷ rest) in
        let trees : Trees (Box M) = brood_of b.ticket broods in
        let after : Trees (Box M) = at_child g b.child trees in
        ap (λ left. talk_by (child_at b.child left) b.child left)
        (changed-brood (at_child g b.child) (at_child-none g b.child) b.ticket broods)
        ∙ ap (λ c. talk_by c b.child after) (child_at-same g b.child trees)
        ∙ above-one b x rest (child_at b.child trees) trees after (λ j. boxes-stay o k g (λ u. at_path-machine f x rest u) b.child j trees)
    talk-above (b ∷ (c ∷ way)) x rest (node m broods log) =
        let g : Tree (Box M) → Tree (Box M) = at_path f ((c ∷ way) ++ (x ∷ rest)) in
        ap (λ left. there_by (talk_waits (c ∷ way)) (child_at b.child left))
        (changed-brood (at_child g b.child) (at_child-none g b.child) b.ticket broods)
        ∙ ap (there_by (talk_waits (c ∷ way))) (child_at-same g b.child (brood_of b.ticket broods))
        ∙ by (child_at b.child (brood_of b.ticket broods)) (λ u. talk-above (c ∷ way) x rest u)
      where
        by : (d : Option (Tree (Box M)))
            → ((u : Tree (Box M)) → talk_waits (c ∷ way) (at_path f ((c ∷ way) ++ (x ∷ rest)) u) ≡ talk_waits (c ∷ way) u)
            → there_by (talk_waits (c ∷ way)) (option_map (at_path f ((c ∷ way) ++ (x ∷ rest))) d) ≡ there_by (talk_waits (c ∷ way)) d
        by None down = refl
        by (Some u) down = down u

  -- ---- beside a change

  beyond-self : (at : Path) → beyond at at ≡ Some []
  unfolding beyond
  beyond-self [] = refl
  beyond-self (b ∷ at) = ap₂ (λ (t c : Bool). cond (t && c) (beyond at at) None) (eqb-same b.ticket) (eqb-same b.child) ∙ beyond-self at

  beyond-same : (at name : Path) → beyond at name ≡ Some [] → name ≡ at
  unfolding beyond
  beyond-same [] name e = some-same name [] e
  beyond-same (b ∷ at) [] e = absurd (cc)
  beyond-same (b ∷ at) (x ∷ name) e = by (eqb x.ticket b.ticket) (eqb x.child b.child) refl refl e (λ down. beyond-same at name down)
    where
      by : (ticket child : Bool) → eqb x.ticket b.ticket ≡ ticket → eqb x.child b.child ≡ child → cond (ticket && child) (beyond at name) None ≡ Some []
          → (beyond at name ≡ Some [] → name ≡ at) → x ∷ name ≡ b ∷ at
      by false child d g left down = absurd (cc)
      by true false d g left down = absurd (cc)
      by true true d g left down =
          ap₂ (λ (y : Branch) (rest : Path). y ∷ rest)
          (ap₂ (λ (t v : ℕ). record { ticket = t; child = v }) (eqb-true x.ticket b.ticket d) (eqb-true x.child b.child g)) (down left)

  -- a sibling of a machine that is not at a name, nor below it, is not below it
  pub sibling-apart : (name n at : Path) → is_sibling n at ≡ true → beyond name n ≡ None → (at ≡ name) ⊎ (beyond name at ≡ None)
  unfolding is_sibling beyond
  sibling-apart [] n at beside none = absurd (cc)
  sibling-apart (x ∷ name) [] at beside none = absurd (cc)
  sibling-apart (x ∷ name) (b ∷ []) [] beside none = absurd (cc)
  sibling-apart (x ∷ name) (b ∷ []) (y ∷ []) beside none = by name (eqb y.ticket x.ticket) (eqb y.child x.child) refl refl
    where
      by : (way : Path) (ticket child : Bool) → eqb y.ticket x.ticket ≡ ticket → eqb y.child x.child ≡ child
          → (y ∷ [] ≡ x ∷ way) ⊎ (cond (ticket && child) (beyond way []) None ≡ None)
      by way false child e d = inr refl
      by way true false e d = inr refl
      by [] true true e d =
          inl (ap₂ (λ (t c : ℕ). record { ticket = t; child = c } ∷ []) (eqb-true y.ticket x.ticket e) (eqb-true y.child x.child d))
      by (z ∷ way) true true e d = inr refl
  sibling-apart (x ∷ name) (b ∷ []) (y ∷ (z ∷ at)) beside none = absurd (cc)
  sibling-apart (x ∷ name) (b ∷ (c ∷ path)) [] beside none = absurd (cc)
  sibling-apart (x ∷ name) (b ∷ (c ∷ path)) (y ∷ at) beside none =
      let first = and_parts (eqb b.ticket y.ticket && eqb b.child y.child) (is_sibling (c ∷ path) at) beside in
      let then = and_parts (eqb b.ticket y.ticket) (eqb b.child y.child) first.0 in
      let ticket : b.ticket ≡ y.ticket = eqb-true b.ticket y.ticket then.0 in
      let child : b.child ≡ y.child = eqb-true b.child y.child then.1 in
      by (eqb y.ticket x.ticket) (eqb y.child x.child) refl refl
      (ap₂ (λ (u v : ℕ). cond (eqb u x.ticket && eqb v x.child) (beyond name (c ∷ path)) None) (sym ticket) (sym child) ∙ none)
      (λ down. sibling-apart name (c ∷ path) at first.1 down)
    where
      by : (ticket child : Bool) → eqb y.ticket x.ticket ≡ ticket → eqb y.child x.child ≡ child
          → cond (ticket && child) (beyond name (c ∷ path)) None ≡ None
          → (beyond name (c ∷ path) ≡ None → (at ≡ name) ⊎ (beyond name at ≡ None))
          → (y ∷ at ≡ x ∷ name) ⊎ (cond (ticket && child) (beyond name at) None ≡ None)
      by false child e d left down = inr refl
      by true false e d left down = inr refl
      by true true e d left down = elim (down left) [
        | inl same ↦ inl (ap₂ (λ (b : Branch) (rest : Path). b ∷ rest)
            (ap₂ (λ (t v : ℕ). record { ticket = t; child = v }) (eqb-true y.ticket x.ticket e) (eqb-true y.child x.child d)) same)
        | inr away ↦ inr away
      ]

  -- ---- a machine that is at no name of a change, nor above it or below it
  module _ (f : Tree (Box M) → Tree (Box M)) (name n : Path) (t a c : Tree (Box M)) (outside : beyond name n ≡ None) (apart : beyond n name ≡ None)
      (at_name : subtree name t ≡ Some a) (here : subtree n t ≡ Some c)
      (reads : is_sibling n name ≡ true → read_of o (child_number n) (Some (f a)) ≡ read_of o (child_number n) (Some a)) where
    own-stays : subtree n (at_path f name t) ≡ subtree n t
    own-stays =
        at_path-elsewhere f name n t (ap goes_on outside) ∙ ap (λ way. option_map (at_beyond f way) (subtree n t)) apart ∙ none (subtree n t)
      where
        none : (d : Option (Tree (Box M))) → option_map (at_beyond f None) d ≡ d
        none None = refl
        none (Some u) = refl

    -- a read of a tree is one of its machine
    read-machine : (u v : Tree (Box M)) → machine u ≡ machine v → read_of o (child_number n) (Some u) ≡ read_of o (child_number n) (Some v)
    read-machine u v same =
        ap (λ (m : Box M). Some (not (is_some (o.ending m.machine)), queue_from (child_number n) m.inbox)) same

    above-reads : (at : Path) (way : Option Path) → beyond at name ≡ way → beyond name at ≡ None → (d : Option (Tree (Box M)))
        → read_of o (child_number n) (option_map (at_beyond f way) d) ≡ read_of o (child_number n) d
    above-reads at None e away None = refl
    above-reads at None e away (Some u) = refl
    above-reads at (Some []) e away d =
        let same : name ≡ at = beyond-same at name e in
        let no : Some [] ≡ None = sym (beyond-self at) ∙ ap (λ m. beyond m at) (sym same) ∙ away in
        absurd (cc)
    above-reads at (Some (x ∷ rest)) e away None = refl
    above-reads at (Some (x ∷ rest)) e away (Some u) = read-machine (at_path f (x ∷ rest) u) u (at_path-machine f x rest u)

    sibling-reads : (at : Path) → is_sibling n at ≡ true
        → read_of o (child_number n) (subtree at (at_path f name t)) ≡ read_of o (child_number n) (subtree at t)
    sibling-reads at beside = elim (sibling-apart name n at beside outside) [
      | inl same ↦
          ap (λ m. read_of o (child_number n) (subtree m (at_path f name t))) same
          ∙ ap (read_of o (child_number n)) (at_path-here f name t ∙ ap (option_map f) at_name)
          ∙ reads (ap (is_sibling n) (sym same) ∙ beside)
          ∙ ap (read_of o (child_number n)) (sym at_name)
          ∙ ap (λ m. read_of o (child_number n) (subtree m t)) (sym same)
      | inr away ↦
          ap (read_of o (child_number n)) (at_path-elsewhere f name at t (ap goes_on away))
          ∙ above-reads at (beyond at name) refl away (subtree at t)
    ]

    pub rests-beside : rests_at o k n (at_path f name t) ≡ rests_at o k n t
    rests-beside =
        read-rests o k n t (at_path f name t) (record { there = subst IsSome (sym here) refl; own = own-stays; siblings = sibling-reads })
