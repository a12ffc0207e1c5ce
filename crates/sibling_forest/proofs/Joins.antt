-- A silent tree comes to the end to which the joins of its root bring it.
use Rattle.std.proofs.Common.{◌≡◌, ℕ, zero, suc, ◌+◌, ◌<◌, ◌≤◌, ◌||◌, ◌&&◌, not, eqb, inl, inr, Bool, true, false, cond, refl, sym, ap, ap₂, ◌∙◌, subst, arith, le_refl}
use Rattle.std.proofs.Common.{List, [], ◌∷◌, map, Option, Some, None, IsSome, is_some, option_map, option_and_then}
use Rattle.std.proofs.lemmas.Bool.{or_left, or_from}
use Rattle.forest_tree.specs.Operations.{Call, clone, join, kill, Operations, IsMachine}
use Rattle.forest_tree.specs.Tree.{Tree, node, Trees, no_tree, tree, Broods, no_brood, brood, Log, machine, broods_of, size, at_child, child_at, brood_of, at_brood, with_broods, Branch, Path, subtree}
use Rattle.forest_tree.specs.Step.{has_ended, have_ended, waits_by, step}
use Rattle.forest_tree.specs.Step as own
use Rattle.forest_tree.specs.Sound.{IsSound}
use Rattle.forest_tree.specs.Ahead.{most_ahead, own_weight, weigh, weigh_trees, weigh_broods, ahead}
use Rattle.forest_tree.proofs.Places.{below-at, at_child-none, child_at-same}
use Rattle.forest_tree.proofs.Rests.{one-brood, step-rests}
use Rattle.forest_tree.proofs.Sound.{root-sound}
use Rattle.forest_tree.proofs.Steps.{cases-ending}
use Rattle.sibling_forest.specs.Talk.{Talks, Box, boxed, IsTalking}
use Rattle.sibling_forest.specs.Settle as sibling
use Rattle.sibling_forest.specs.Settle.{sibling_rests_by, deliver_by, sibling_step_by, sibling_step, settle, settle_all, rests_at}
use Rattle.sibling_forest.specs.Finish.{next_path, finish}
use Rattle.sibling_forest.specs.Laws.{IsSilent}
use Rattle.sibling_forest.specs.Joins.{each, with_brood, before_call, go_on_by, run_by_joins, finish_by_joins}
use Rattle.sibling_forest.proofs.Boxes.{boxed-machine}
use Rattle.sibling_forest.proofs.Crossing.{changed-brood}
use Rattle.sibling_forest.proofs.Families.{at_child-twice, at_child-agree, at_child-leaves, at_brood-agree, at_brood-twice}
use Rattle.sibling_forest.proofs.Falls.{settle-falls}
use Rattle.sibling_forest.proofs.Finish.{IsOver, finish-none, finish-over, finish-stays}
use Rattle.sibling_forest.proofs.Resting.{at_brood-leaves, settle-rests, next-moves}
use Rattle.sibling_forest.proofs.Silent.{finish-steps, silent-ends}
use Rattle.sibling_forest.proofs.Sound.{settle-keeps}

-- ---- each of some trees

module _ {M : Type 0} where
  pub each-agree : (f g : Tree M → Tree M) (trees : Trees M) → ((i : ℕ) (c : Tree M) → child_at (suc i) trees ≡ Some c → f c ≡ g c)
      → each f trees ≡ each g trees
  unfolding each child_at
  each-agree f g no_tree same = refl
  each-agree f g (tree t rest) same = ap₂ tree (same 0 t refl) (each-agree f g rest (λ i c found. same (suc i) c found))

  -- f of the first n
  unfoldable first_by : (Tree M → Tree M) → ℕ → Trees M → Trees M
  first_by f zero trees = trees
  first_by f (suc n) trees = at_child f (suc n) (first_by f n trees)

  first-more : (f : Tree M → Tree M) (n : ℕ) (t : Tree M) (rest : Trees M) → first_by f (suc n) (tree t rest) ≡ tree (f t) (first_by f n rest)
  unfolding first_by at_child
  first-more f zero t rest = refl
  first-more f (suc n) t rest = ap (at_child f (suc (suc n))) (first-more f n t rest)

  first-all : (f : Tree M → Tree M) (trees : Trees M) → first_by f (size trees) trees ≡ each f trees
  unfolding first_by each size
  first-all f no_tree = refl
  first-all f (tree t rest) = first-more f (size rest) t rest ∙ ap (tree (f t)) (first-all f rest)

  first-none : (f : Tree M → Tree M) (n : ℕ) → first_by f n no_tree ≡ no_tree
  unfolding first_by at_child
  first-none f zero = refl
  first-none f (suc n) = ap (at_child f (suc n)) (first-none f n)

module _ {M E : Type 0} (o : Operations M E) where
  all-ended : (f : Tree M → Tree M) (trees : Trees M) → ((i : ℕ) (c : Tree M) → child_at (suc i) trees ≡ Some c → has_ended o (f c) ≡ true)
      → have_ended o (each f trees) ≡ true
  unfolding each child_at have_ended
  all-ended f no_tree ended = refl
  all-ended f (tree t rest) ended = ap₂ (λ a b. a && b) (ended 0 t refl) (all-ended f rest (λ i c found. ended (suc i) c found))

  -- what is ahead of a child is less than what is ahead of its tree, where the root lives
  child-within : (i : ℕ) (trees : Trees M) (c : Tree M) → child_at (suc i) trees ≡ Some c → ahead o c ≤ weigh_trees o 0 (λ m. 0) trees
  unfolding child_at weigh
  child-within i no_tree c found = absurd (cc)
  child-within zero (tree t rest) c found =
      let same : ahead o t ≡ ahead o c = ap (ahead o) (some-child t c found) in omega arith
    where
      some-child : (a b : Tree M) → Some a ≡ Some b → a ≡ b
      some-child a b e = cc
  child-within (suc i) (tree t rest) c found =
      let later : ahead o c ≤ weigh_trees o 0 (λ m. 0) rest = child-within i rest c found in omega arith

  brood-within : (t : ℕ) (broods : Broods M) → weigh_trees o 0 (λ m. 0) (brood_of t broods) ≤ weigh_broods o 0 (λ m. 0) broods
  unfolding weigh brood_of
  brood-within t no_brood = le_refl 0
  brood-within t (brood u trees rest) = by (eqb u t) (brood-within t rest)
    where
      by : (same : Bool) → weigh_trees o 0 (λ m. 0) (brood_of t rest) ≤ weigh_broods o 0 (λ m. 0) rest
          → weigh_trees o 0 (λ m. 0) (cond same trees (brood_of t rest)) ≤ weigh_trees o 0 (λ m. 0) trees + weigh_broods o 0 (λ m. 0) rest
      by true later = omega arith
      by false later = omega arith

  some-ahead : (left held : ℕ) → 0 < left → 0 < most_ahead 0 left held
  unfolding most_ahead
  some-ahead zero held some = absurd (omega arith)
  some-ahead (suc left) held some = omega arith

  child-less : IsMachine o → (m : M) (broods : Broods M) (log : Log M) (ticket i : ℕ) (c : Tree M) → IsSound o (node m broods log) → o.ending m ≡ None
      → child_at (suc i) (brood_of ticket broods) ≡ Some c → ahead o c < ahead o (node m broods log)
  unfolding weigh
  child-less rules m broods log ticket i c h lives found =
      let here : ahead o c ≤ weigh_trees o 0 (λ m. 0) (brood_of ticket broods) = child-within i (brood_of ticket broods) c found in
      let under : weigh_trees o 0 (λ m. 0) (brood_of ticket broods) ≤ weigh_broods o 0 (λ m. 0) broods = brood-within ticket broods in
      let some : 0 < most_ahead 0 (o.left m) (o.holding m) =
      some-ahead (o.left m) (o.holding m) (rules.below_limit m (root-sound o m broods log h).good lives) in
      let root : own_weight o 0 (λ m. 0) (o.ending m) m ≡ most_ahead 0 (o.left m) (o.holding m) + 0 = ap (λ e. own_weight o 0 (λ m. 0) e m) lives in
      omega arith

-- ---- silent trees

module _ {M E : Type 0} (o : Operations M E) (k : Talks M) (rules : IsMachine o) (talking : IsTalking o k) where
  abbrev B : Operations (Box M) E
  B = boxed o k

  all : IsMachine B
  all = boxed-machine o k rules talking

  -- sound and silent
  record IsQuiet (t : Tree (Box M)) : Type 0 where
    sound : IsSound B t
    silent : IsSilent o k t

  quiet-settle : (path : Path) (t : Tree (Box M)) → IsQuiet t → IsQuiet (settle o k path t)
  unfolding settle_all
  quiet-settle path t h = record {
    sound = (settle-keeps o k rules talking path t h.sound).sound;
    silent = λ paths at a here lives. h.silent (path ∷ paths) at a here lives;
  }

  -- steps lead from t to u
  record Leads (t u : Tree (Box M)) : Type 0 where
    quiet : IsQuiet u
    same : finish o k u ≡ finish o k t
    no_more : ahead B u ≤ ahead B t

  stays-there : (t : Tree (Box M)) → IsQuiet t → Leads t t
  stays-there t h = record { quiet = h; same = refl; no_more = le_refl (ahead B t) }

  leads-on : (t u v : Tree (Box M)) → Leads t u → Leads u v → Leads t v
  leads-on t u v one more =
      let less : ahead B u ≤ ahead B t = one.no_more in
      let fewer : ahead B v ≤ ahead B u = more.no_more in
      record { quiet = more.quiet; same = more.same ∙ one.same; no_more = omega arith }

  settle-leads : (path : Path) (t : Tree (Box M)) → IsQuiet t → Leads t (settle o k path t)
  settle-leads path t h = record { quiet = quiet-settle path t h; same = finish-stays o k rules talking path t h.sound; no_more = by (rests_at o k path t) refl }
    where
      by : (rest : Bool) → rests_at o k path t ≡ rest → ahead B (settle o k path t) ≤ ahead B t
      by true e = let same : ahead B (settle o k path t) ≡ ahead B t = ap (ahead B) (settle-rests o k path t h.sound e) in omega arith
      by false e = let falls : ahead B (settle o k path t) < ahead B t = settle-falls o k rules talking path t h.sound e in omega arith

  settle_all-leads : (paths : List Path) (t : Tree (Box M)) → IsQuiet t → Leads t (settle_all o k paths t)
  unfolding settle_all
  settle_all-leads [] t h = stays-there t h
  settle_all-leads (path ∷ rest) t h =
      let one = settle-leads path t h in
      leads-on t (settle o k path t) (settle_all o k rest (settle o k path t)) one (settle_all-leads rest (settle o k path t) one.quiet)

  -- ---- a child by itself

  abbrev at_place : (Tree (Box M) → Tree (Box M)) → Branch → Tree (Box M) → Tree (Box M)
  at_place f b t = with_broods (at_brood (at_child f b.child) b.ticket) t

  abbrev child_there : Branch → Tree (Box M) → Option (Tree (Box M))
  child_there b t = child_at b.child (brood_of b.ticket (broods_of t))

  -- where a child does not talk, its step in the brood is its step by itself
  or-false : (a b : Bool) → b ≡ false → a || b ≡ true → a ≡ true
  or-false true b none h = refl
  or-false false b none h = let no : true ≡ false = sym h ∙ none in absurd (cc)

  abbrev NoTalk : Tree (Box M) → Type 0
  NoTalk c = o.ending (machine c).machine ≡ None → k.talk (machine c).machine ≡ None

  rests-alone : (c : Tree (Box M)) (i : ℕ) (trees : Trees (Box M)) → NoTalk c → sibling_rests_by o k (Some c) i trees ≡ true → own.rests B (Some c) ≡ true
  unfolding boxed
  rests-alone c i trees quiet rest = elim (cases-ending (o.ending (machine c).machine)) [
    | inl ended ↦ or_left (has_ended B c) (own.waits B c) (ap is_some ended.1)
    | inr lives ↦ or-false (own.rests B (Some c)) _ (ap (λ what. sibling.waits_by o k what i (machine c) trees) (quiet lives)) rest
  ]

  lives-there : (c : Tree (Box M)) (i : ℕ) (trees : Trees (Box M)) → sibling_rests_by o k (Some c) i trees ≡ false → o.ending (machine c).machine ≡ None
  unfolding boxed
  lives-there c i trees moves = elim (cases-ending (o.ending (machine c).machine)) [
    | inl ended ↦ (let no : true ≡ false = sym (or_left _ _ (or_left (has_ended B c) (own.waits B c) (ap is_some ended.1))) ∙ moves in absurd (cc))
    | inr lives ↦ lives
  ]

  step-alone : (i : ℕ) (trees : Trees (Box M)) → ((c : Tree (Box M)) → child_at i trees ≡ Some c → NoTalk c)
      → sibling_step o k i trees ≡ at_child (step B) i trees
  step-alone i trees quiet = by (child_at i trees) refl
    where
      made : (c : Tree (Box M)) (rest : Bool) → child_at i trees ≡ Some c → sibling_rests_by o k (Some c) i trees ≡ rest
          → sibling_step_by o k rest (Some c) i trees ≡ at_child (step B) i trees
      made c true found e =
          sym (at_child-leaves (step B) i trees (λ u is. step-rests B u
          (ap (own.rests B) (sym is ∙ found) ∙ rests-alone c i trees (quiet c found) e)))
      made c false found e =
          ap (λ what. deliver_by o k what i (k.word (machine c).machine) (at_child (step B) i trees)) (quiet c found (lives-there c i trees e))

      by : (c : Option (Tree (Box M))) → child_at i trees ≡ c
          → sibling_step_by o k (sibling_rests_by o k (child_at i trees) i trees) (child_at i trees) i trees ≡ at_child (step B) i trees
      by None found =
          ap (λ c. sibling_step_by o k (sibling_rests_by o k c i trees) c i trees) found
          ∙ sym (at_child-leaves (step B) i trees (λ c is. let no : None ≡ Some c = sym found ∙ is in absurd (cc)))
      by (Some c) found =
          ap (λ c. sibling_step_by o k (sibling_rests_by o k c i trees) c i trees) found ∙ made c (sibling_rests_by o k (Some c) i trees) found refl

  settle-place : (b : Branch) (path : Path) (t : Tree (Box M)) → IsQuiet t → settle o k (b ∷ path) t ≡ at_place (settle o k path) b t
  unfolding settle subtree settle_all
  settle-place b [] (node x broods log) h =
      ap (λ left. node x left log)
      (at_brood-agree (sibling_step o k b.child) (at_child (settle o k []) b.child) b.ticket broods (one-brood B x broods log h.sound b.ticket)
      (step-alone b.child (brood_of b.ticket broods) (λ c found lives. h.silent [] (b ∷ []) c (ap (option_and_then (subtree [])) found) lives)))
  settle-place b (c ∷ path) t h = refl

  settle_all-place : (b : Branch) (paths : List Path) (t : Tree (Box M)) → IsQuiet t
      → settle_all o k (map (λ path. b ∷ path) paths) t ≡ at_place (settle_all o k paths) b t
  unfolding settle_all
  settle_all-place b [] (node x broods log) h =
      ap (λ left. node x left log)
      (sym (at_brood-leaves (at_child (settle_all o k []) b.child) b.ticket broods (one-brood B x broods log h.sound b.ticket)
      (at_child-leaves (settle_all o k []) b.child (brood_of b.ticket broods) (λ c found. refl))))
  settle_all-place b (path ∷ rest) (node x broods log) h =
      let t : Tree (Box M) = node x broods log in
      settle_all-place b rest (settle o k (b ∷ path) t) (quiet-settle (b ∷ path) t h)
      ∙ ap (at_place (settle_all o k rest) b) (settle-place b path t h)
      ∙ ap (λ left. node x left log)
      (at_brood-twice (at_child (settle_all o k rest) b.child) (at_child (settle o k path) b.child) b.ticket broods
      ∙ at_brood-agree (λ trees. at_child (settle_all o k rest) b.child (at_child (settle o k path) b.child trees))
      (at_child (settle_all o k (path ∷ rest)) b.child) b.ticket broods (one-brood B x broods log h.sound b.ticket)
      (at_child-twice (settle_all o k rest) (settle o k path) b.child (brood_of b.ticket broods)))

  -- so a child of a quiet tree is one
  quiet-child : (b : Branch) (t c : Tree (Box M)) → IsQuiet t → child_there b t ≡ Some c → IsQuiet c
  unfolding subtree
  quiet-child b (node x broods log) c h found = record {
    sound = below-at B x broods log b.ticket b.child c h.sound found;
    silent = λ paths at a here lives. h.silent (map (λ path. b ∷ path) paths) (b ∷ at) a (there paths at ∙ here) lives;
  }
    where
      there : (paths : List Path) (at : Path) → subtree (b ∷ at) (settle_all o k (map (λ path. b ∷ path) paths) (node x broods log)) ≡ subtree at (settle_all o k paths c)
      there paths at =
          ap (subtree (b ∷ at)) (settle_all-place b paths (node x broods log) h)
          ∙ ap (λ trees. option_and_then (subtree at) (child_at b.child trees)) (changed-brood (at_child (settle_all o k paths) b.child) (at_child-none (settle_all o k paths) b.child) b.ticket broods)
          ∙ ap (option_and_then (subtree at)) (child_at-same (settle_all o k paths) b.child (brood_of b.ticket broods) ∙ ap (option_map (settle_all o k paths)) found)

  -- ---- children run to their ends

  abbrev first_finished : ℕ → ℕ → Tree (Box M) → Tree (Box M)
  first_finished ticket n t = with_broods (at_brood (first_by (finish o k) n) ticket) t

  place-leads : (b : Branch) (t : Tree (Box M)) → IsQuiet t → Leads t (at_place (finish o k) b t)
  place-leads b (node x broods log) h = by (child_at b.child (brood_of b.ticket broods)) refl
    where
      t : Tree (Box M)
      t = node x broods log

      at-agree : (f : Tree (Box M) → Tree (Box M)) → ((c : Tree (Box M)) → child_at b.child (brood_of b.ticket broods) ≡ Some c → f c ≡ finish o k c)
          → at_place f b t ≡ at_place (finish o k) b t
      at-agree f same =
          ap (λ left. node x left log)
          (at_brood-agree (at_child f b.child) (at_child (finish o k) b.child) b.ticket broods (one-brood B x broods log h.sound b.ticket)
          (at_child-agree f (finish o k) b.child (brood_of b.ticket broods) same))

      by : (c : Option (Tree (Box M))) → child_at b.child (brood_of b.ticket broods) ≡ c → Leads t (at_place (finish o k) b t)
      by None none =
          subst (Leads t) (sym (ap (λ left. node x left log)
          (at_brood-leaves (at_child (finish o k) b.child) b.ticket broods (one-brood B x broods log h.sound b.ticket)
          (at_child-leaves (finish o k) b.child (brood_of b.ticket broods) (λ c found. let no : None ≡ Some c = sym none ∙ found in absurd (cc))))))
          (stays-there t h)
      by (Some c) found =
          let ran = finish-steps o k c in
          subst (Leads t)
          (settle_all-place b ran.0 t h ∙ at-agree (settle_all o k ran.0) (λ u is. by-same ran.0 c u (some-tree c u (sym found ∙ is)) (sym ran.1)))
          (settle_all-leads (map (λ path. b ∷ path) ran.0) t h)
        where
          some-tree : (a d : Tree (Box M)) → Some a ≡ Some d → a ≡ d
          some-tree a d e = cc

          by-same : (paths : List Path) (a u : Tree (Box M)) → a ≡ u → settle_all o k paths a ≡ finish o k a → settle_all o k paths u ≡ finish o k u
          by-same paths a u same e = subst (λ v. settle_all o k paths v ≡ finish o k v) same e

  first-leads : (ticket n : ℕ) (t : Tree (Box M)) → IsQuiet t → Leads t (first_finished ticket n t)
  unfolding first_by
  first-leads ticket zero (node x broods log) h =
      subst (Leads (node x broods log))
      (sym (ap (λ left. node x left log) (at_brood-leaves (first_by (finish o k) 0) ticket broods (one-brood B x broods log h.sound ticket) refl)))
      (stays-there (node x broods log) h)
  first-leads ticket (suc n) (node x broods log) h =
      let t : Tree (Box M) = node x broods log in
      let b : Branch = record { ticket = ticket; child = suc n } in
      let u : Tree (Box M) = first_finished ticket n t in
      let one = first-leads ticket n t h in
      leads-on t u (first_finished ticket (suc n) t) one
      (subst (Leads u) (ap (λ left. node x left log)
      (at_brood-twice (at_child (finish o k) (suc n)) (first_by (finish o k) n) ticket broods
      ∙ at_brood-agree (λ trees. at_child (finish o k) (suc n) (first_by (finish o k) n trees)) (first_by (finish o k) (suc n)) ticket broods
      (one-brood B x broods log h.sound ticket) refl))
      (place-leads b u one.quiet))

  brood-agree : (f g : Tree (Box M) → Tree (Box M)) (ticket : ℕ) (t : Tree (Box M)) → IsQuiet t
      → ((i : ℕ) (c : Tree (Box M)) → child_at (suc i) (brood_of ticket (broods_of t)) ≡ Some c → f c ≡ g c)
      → with_brood f ticket t ≡ with_brood g ticket t
  brood-agree f g ticket (node x broods log) h same =
      ap (λ left. node x left log)
      (at_brood-agree (each f) (each g) ticket broods (one-brood B x broods log h.sound ticket) (each-agree f g (brood_of ticket broods) same))

  brood-leads : (ticket : ℕ) (t : Tree (Box M)) → IsQuiet t → Leads t (with_brood (finish o k) ticket t)
  brood-leads ticket (node x broods log) h =
      let t : Tree (Box M) = node x broods log in
      let n : ℕ = size (brood_of ticket broods) in
      subst (Leads t) (ap (λ left. node x left log)
      (at_brood-agree (first_by (finish o k) n) (each (finish o k)) ticket broods (one-brood B x broods log h.sound ticket)
      (first-all (finish o k) (brood_of ticket broods))))
      (first-leads ticket n t h)

  -- ---- the root

  ended-true : (e : Option E) → IsSome e → is_some e ≡ true
  ended-true None h = absurd (cc)
  ended-true (Some ending) h = refl

  child-ends : (ticket : ℕ) (t : Tree (Box M)) → IsQuiet t → have_ended B (each (finish o k) (brood_of ticket (broods_of t))) ≡ true
  unfolding boxed
  child-ends ticket t h = all-ended B (finish o k) (brood_of ticket (broods_of t)) ends
    where
      ends : (i : ℕ) (c : Tree (Box M)) → child_at (suc i) (brood_of ticket (broods_of t)) ≡ Some c → has_ended B (finish o k c) ≡ true
      ends i c found =
          let quiet = quiet-child (record { ticket = ticket; child = suc i }) t c h found in
          ended-true (o.ending (machine (finish o k c)).machine) (silent-ends o k rules talking c quiet.sound quiet.silent)

  -- once its children have ended, a join does not wait
  join-moves : (ticket : ℕ) (t : Tree (Box M)) → IsQuiet t → o.ending (machine t).machine ≡ None → o.call (machine t).machine ≡ Some (join ticket)
      → own.rests B (Some (with_brood (finish o k) ticket t)) ≡ false
  unfolding boxed each
  join-moves ticket (node x broods log) h lives calls =
      let after : Broods (Box M) = at_brood (each (finish o k)) ticket broods in
      or_from _ _ (ap is_some lives)
      (ap (λ next. waits_by B next after) calls
      ∙ ap (λ trees. not (have_ended B trees)) (changed-brood (each (finish o k)) refl ticket broods)
      ∙ ap not (child-ends ticket (node x broods log) h))

  own-moves : (t : Tree (Box M)) (next : Option Call) → o.ending (machine t).machine ≡ None → o.call (machine t).machine ≡ next
      → waits_by B next (broods_of t) ≡ false → own.rests B (Some t) ≡ false
  unfolding boxed
  own-moves (node x broods log) next lives calls ready = or_from _ _ (ap is_some lives) (ap (λ c. waits_by B c broods) calls ∙ ready)

  -- the run by joins comes to the finish, where there are steps enough
  abbrev RunIs : ℕ → Type 0
  RunIs n = (t : Tree (Box M)) → IsQuiet t → ahead B t ≤ n → run_by_joins B n t ≡ finish o k t

  step-is : (n : ℕ) → RunIs n → (t : Tree (Box M)) → IsQuiet t → ahead B t ≤ suc n → own.rests B (Some t) ≡ false
      → run_by_joins B n (step B t) ≡ finish o k t
  unfolding settle rests_at
  step-is n down t h fits moves =
      let falls : ahead B (step B t) < ahead B t = settle-falls o k rules talking [] t h.sound moves in
      down (step B t) (quiet-settle [] t h) (omega arith) ∙ finish-stays o k rules talking [] t h.sound

  child-fits : (n ticket i : ℕ) (t c : Tree (Box M)) → IsQuiet t → ahead B t ≤ suc n → o.ending (machine t).machine ≡ None
      → child_at (suc i) (brood_of ticket (broods_of t)) ≡ Some c → ahead B c ≤ n
  unfolding boxed
  child-fits n ticket i (node x broods log) c h fits lives found =
      let less : ahead B c < ahead B (node x broods log) = child-less B all x broods log ticket i c h.sound lives found in omega arith

  call-is : (n : ℕ) → RunIs n → (t : Tree (Box M)) → IsQuiet t → ahead B t ≤ suc n → o.ending (machine t).machine ≡ None
      → (next : Option Call) → o.call (machine t).machine ≡ next → run_by_joins B n (step B (before_call B next (run_by_joins B n) t)) ≡ finish o k t
  call-is n down t h fits lives None calls = step-is n down t h fits (own-moves t None lives calls refl)
  call-is n down t h fits lives (Some (clone ticket)) calls = step-is n down t h fits (own-moves t (Some (clone ticket)) lives calls refl)
  call-is n down t h fits lives (Some (join ticket)) calls =
      let led = brood-leads ticket t h in
      let no_more : ahead B (with_brood (finish o k) ticket t) ≤ ahead B t = led.no_more in
      ap (λ u. run_by_joins B n (step B u)) (brood-agree (run_by_joins B n) (finish o k) ticket t h (λ i c found. down c
      (quiet-child (record { ticket = ticket; child = suc i }) t c h found) (child-fits n ticket i t c h fits lives found)))
      ∙ step-is n down (with_brood (finish o k) ticket t) led.quiet (omega arith) (join-moves ticket t h lives calls) ∙ led.same
  call-is n down t h fits lives (Some (kill ticket)) calls = step-is n down t h fits (own-moves t (Some (kill ticket)) lives calls refl)

  run-ended : (n : ℕ) (t : Tree (Box M)) → IsSome (o.ending (machine t).machine) → run_by_joins B n t ≡ t
  unfolding run_by_joins boxed
  run-ended zero t ended = refl
  run-ended (suc n) t ended = by (o.ending (machine t).machine) ended
    where
      by : (e : Option E) → IsSome e → go_on_by B e (run_by_joins B n) t ≡ t
      by None h = absurd (cc)
      by (Some ending) h = refl

  run-is : (n : ℕ) → RunIs n
  unfolding run_by_joins boxed IsOver
  run-is zero t h fits = by (next_path o k t) refl
    where
      by : (next : Option Path) → next_path o k t ≡ next → t ≡ finish o k t
      by None e = sym (finish-none o k rules talking t e)
      by (Some path) e =
          let falls : ahead B (settle o k path t) < ahead B t = settle-falls o k rules talking path t h.sound (next-moves o k t path e) in absurd (omega arith)
  run-is (suc n) t h fits = by (run-is n) (o.ending (machine t).machine) refl
    where
      by : RunIs n → (e : Option E) → o.ending (machine t).machine ≡ e → run_by_joins B (suc n) t ≡ finish o k t
      by down None e = ap (λ f. go_on_by B f (run_by_joins B n) t) e ∙ call-is n down t h fits e (o.call (machine t).machine) refl
      by down (Some ending) e =
          let ended : IsSome (o.ending (machine t).machine) = subst IsSome (sym e) refl in
          run-ended (suc n) t ended ∙ sym (finish-over o k rules talking t (inl ended))

  -- ---- the laws

  abbrev by_joins : Tree (Box M) → Tree (Box M)
  by_joins t = finish_by_joins B t

  quiet : (t : Tree (Box M)) → IsSound B t → IsSilent o k t → IsQuiet t
  quiet t h silent = record { sound = h; silent = silent }

  quiet-joins : (t : Tree (Box M)) → IsQuiet t → finish o k t ≡ by_joins t
  unfolding finish_by_joins
  quiet-joins t h = sym (run-is (ahead B t) t h (le_refl (ahead B t)))

  pub finish-joins : (t : Tree (Box M)) → IsSound B t → IsSilent o k t → finish o k t ≡ by_joins t
  finish-joins t h silent = quiet-joins t (quiet t h silent)

  pub joins-ended : (t : Tree (Box M)) → IsSome (o.ending (machine t).machine) → by_joins t ≡ t
  unfolding finish_by_joins
  joins-ended t ended = run-ended (ahead B t) t ended

  joins-step : (t : Tree (Box M)) → IsQuiet t → by_joins t ≡ by_joins (step B t)
  unfolding settle
  joins-step t h = sym (quiet-joins t h) ∙ sym (finish-stays o k rules talking [] t h.sound) ∙ quiet-joins (step B t) (quiet-settle [] t h)

  pub joins-steps : (t : Tree (Box M)) → IsSound B t → IsSilent o k t → by_joins t ≡ by_joins (step B t)
  joins-steps t h silent = joins-step t (quiet t h silent)

  pub joins-brood : (ticket : ℕ) (t : Tree (Box M)) → IsSound B t → IsSilent o k t → by_joins t ≡ by_joins (step B (with_brood by_joins ticket t))
  joins-brood ticket t h silent =
      let led = brood-leads ticket t (quiet t h silent) in
      sym (quiet-joins t (quiet t h silent)) ∙ sym led.same ∙ quiet-joins (with_brood (finish o k) ticket t) led.quiet ∙ joins-step (with_brood (finish o k) ticket t) led.quiet
      ∙ ap (λ u. by_joins (step B u)) (brood-agree (finish o k) by_joins ticket t (quiet t h silent) (λ i c found.
      quiet-joins c (quiet-child (record { ticket = ticket; child = suc i }) t c (quiet t h silent) found)))
