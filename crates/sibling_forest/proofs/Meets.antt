-- Two steps that can be made, of any two machines of a tree: they commute, or the one drops the machine of the other.
use Rattle.std.proofs.Common.{◌≡◌, ◌≢◌, ℕ, eqb, eqb-true, Bool, true, false, refl, sym, ap, ap₂, ◌∙◌, subst, [], ◌∷◌, Option, Some, None, option_map, option_and_then}
use Rattle.std.proofs.lemmas.Bool.{eqb-false, or_from}
use Rattle.forest_tree.specs.Operations.{Operations, IsMachine}
use Rattle.forest_tree.specs.Tree.{Tree, node, Trees, no_tree, Broods, Log, machine, broods_of, at_child, child_at, brood_of, at_brood, Branch, Path, subtree, with_broods}
use Rattle.forest_tree.specs.Step.{step}
use Rattle.forest_tree.specs.Sound.{IsSound}
use Rattle.forest_tree.proofs.Places.{some-same, child_at-same, child_at-other, below-at}
use Rattle.forest_tree.proofs.Rests.{one-brood}
use Rattle.sibling_forest.specs.Talk.{Talks, Box, boxed, IsTalking}
use Rattle.sibling_forest.specs.Settle.{sibling_rests, sibling_rests_by, sibling_step, settle, rests_there, rests_at}
use Rattle.sibling_forest.specs.Settle as told
use Rattle.sibling_forest.specs.Laws.{Meet, commute, drops, dropped}
use Rattle.sibling_forest.proofs.Boxes.{boxed-machine}
use Rattle.sibling_forest.proofs.Families.{at_child-swap, at_child-twice, at_child-agree}
use Rattle.sibling_forest.proofs.Below.{Leads, apart, gone, IsBusy, step-leads, still-ready}
use Rattle.sibling_forest.proofs.Siblings.{child_at-by, brings, target, brings-broods, IsReady, is-ready, ready-rests, Moves, moves-of, sibling-moves, after-one, still-moves, siblings-commute}
use Rattle.sibling_forest.proofs.Inner.{inner, inner_rests, settle-is, rests-is, inner-none, inner_rests-none, ended-rest, below-machine, boxes-stay, waits-stay, brings-inner, brings-subtree}
use Rattle.sibling_forest.proofs.Crossing.{Cross, both, first, second, flip, IsGoneIn, IsGone, cross-child, in_brood, IsGoneAt, cross-brood, cross-broods}

module _ {M E : Type 0} (o : Operations M E) (k : Talks M) where
  pub below-stays : (d : Branch) (q : Path) (t : Tree (Box M)) → machine (settle o k (d ∷ q) t) ≡ machine t
  below-stays d q t = ap machine (settle-is o k d q t) ∙ below-machine o k (at_brood (inner o k q d.child) d.ticket) t

  -- in the words of one brood: steps there, whether they rest, and what is gone
  abbrev Crosses : Path → Path → ℕ → ℕ → Trees (Box M) → Type 0
  Crosses p q i j trees = Cross (inner o k p i) (inner o k q j) (inner_rests o k p i) (inner_rests o k q j) (IsGoneIn p i) (IsGoneIn q j) trees

  abbrev AreSoundAt : Trees (Box M) → Type 0
  AreSoundAt trees = (x : ℕ) (c : Tree (Box M)) → child_at x trees ≡ Some c → IsSound (boxed o k) c

  module _ (rules : IsMachine o) (talking : IsTalking o k) (d : Branch) (q : Path) where
    abbrev h : Tree (Box M) → Tree (Box M)
    h = settle o k (d ∷ q)

    abbrev LeadsTo : Tree (Box M) → Type 0
    LeadsTo t = Leads (boxed o k) (inner o k q d.child) d.ticket (brood_of d.ticket (broods_of t)) (step (boxed o k) t) (step (boxed o k) (h t))

    busy : (x : Box M) (broods : Broods (Box M)) (log : Log (Box M)) → IsSound (boxed o k) (node x broods log) → rests_at o k (d ∷ q) (node x broods log) ≡ false
        → IsBusy (boxed o k) (inner o k q d.child) d.ticket (inner_rests o k q d.child) broods
    busy x broods log sound moves = record {
      leaves_none = inner-none o k q d.child;
      none_rests = inner_rests-none o k q d.child;
      ended_rest = ended-rest o k q d.child (brood_of d.ticket broods) (λ c found. below-at (boxed o k) x broods log d.ticket d.child c sound found);
      moves = sym (rests-is o k d q (node x broods log)) ∙ moves;
    }

    -- a machine's own step, and one below it
    own-leads : (t : Tree (Box M)) → IsSound (boxed o k) t → IsReady o k t → rests_at o k (d ∷ q) t ≡ false → LeadsTo t
    unfolding boxed
    own-leads (node x broods log) sound ready moves =
        subst (λ u. Leads (boxed o k) (inner o k q d.child) d.ticket (brood_of d.ticket broods) (step (boxed o k) (node x broods log)) (step (boxed o k) u))
        (sym (settle-is o k d q (node x broods log)))
        (step-leads (boxed o k) (inner o k q d.child) d.ticket (boxed-machine o k rules talking) (inner_rests o k q d.child) x broods log sound ready.lives ready.ready
        (busy x broods log sound moves))

    below-ready : (t : Tree (Box M)) → IsSound (boxed o k) t → IsReady o k t → rests_at o k (d ∷ q) t ≡ false → IsReady o k (h t)
    unfolding boxed
    below-ready (node x broods log) sound ready moves =
        subst (IsReady o k) (sym (settle-is o k d q (node x broods log)))
        (record {
          lives = ready.lives;
          ready = still-ready (boxed o k) (inner o k q d.child) d.ticket (boxed-machine o k rules talking) (inner_rests o k q d.child) x broods ready.ready (busy x broods log sound moves);
        })

    moves-on : (t u : Tree (Box M)) → brood_of d.ticket (broods_of u) ≡ brood_of d.ticket (broods_of t) → rests_at o k (d ∷ q) t ≡ false
        → rests_at o k (d ∷ q) u ≡ false
    moves-on t u same moves = rests-is o k d q u ∙ ap (inner_rests o k q d.child) same ∙ sym (rests-is o k d q t) ∙ moves

    gone-on : (u : Tree (Box M)) → brood_of d.ticket (broods_of u) ≡ no_tree → subtree (d ∷ q) u ≡ None
    unfolding subtree child_at
    gone-on u none = ap (λ trees. option_and_then (subtree q) (child_at d.child trees)) none

    below-brings : (i word : ℕ) (t u : Tree (Box M)) → brings o k (k.talk (machine t).machine) i word (h u) ≡ h (brings o k (k.talk (machine t).machine) i word u)
    below-brings i word t u =
        ap (brings o k (k.talk (machine t).machine) i word) (settle-is o k d q u)
        ∙ brings-broods o k (k.talk (machine t).machine) i word (at_brood (inner o k q d.child) d.ticket) u
        ∙ sym (settle-is o k d q (brings o k (k.talk (machine t).machine) i word u))

    module _ (i : ℕ) (trees : Trees (Box M)) (t : Tree (Box M)) (a : Moves o k i trees t) where
      abbrev hear : Tree (Box M) → Tree (Box M)
      hear = brings o k (k.talk (machine t).machine) i (k.word (machine t).machine)

      abbrev where_to : ℕ
      where_to = target o k (k.talk (machine t).machine)

      moves-with : (j : ℕ) (u : Tree (Box M)) → child_at i (at_child h j trees) ≡ Some u → IsReady o k u → machine u ≡ machine t
          → Moves o k i (at_child h j trees) u
      moves-with j u found ready same =
          let speaks : told.waits_by o k (k.talk (machine u).machine) i (machine u) (at_child h j trees) ≡ false =
          ap (λ (b : Box M). told.waits_by o k (k.talk b.machine) i b (at_child h j trees)) same
          ∙ waits-stay o k (k.talk (machine t).machine) i (machine t) trees (at_child h j trees) (λ x. boxes-stay o k h (below-stays d q) j x trees)
          ∙ a.speaks in
          moves-of o k i (at_child h j trees) u found ready
          (ap (λ c. sibling_rests_by o k c i (at_child h j trees)) found ∙ or_from _ _ (ready-rests o k u ready) speaks) speaks

      still-rests : (j : ℕ) (u : Tree (Box M)) → child_at i (at_child h j trees) ≡ Some u → IsReady o k u → machine u ≡ machine t
          → sibling_rests o k i (at_child h j trees) ≡ false
      still-rests j u found ready same =
          ap (λ c. sibling_rests_by o k c i (at_child h j trees)) found
          ∙ or_from _ _ (ready-rests o k u ready) ((moves-with j u found ready same).speaks)

      steps-with : (j : ℕ) (u : Tree (Box M)) → child_at i (at_child h j trees) ≡ Some u → IsReady o k u → machine u ≡ machine t
          → sibling_step o k i (at_child h j trees) ≡ at_child hear where_to (at_child (step (boxed o k)) i (at_child h j trees))
      steps-with j u found ready same =
          (moves-with j u found ready same).steps ∙ ap (λ b. later-by b (at_child h j trees)) same
        where
          later-by : Box M → Trees (Box M) → Trees (Box M)
          later-by b left =
              at_child (brings o k (k.talk b.machine) i (k.word b.machine)) (target o k (k.talk b.machine)) (at_child (step (boxed o k)) i left)

      -- a step below comes after it as well
      passes : (j : ℕ) → at_child hear where_to (at_child h j (at_child (step (boxed o k)) i trees)) ≡ at_child h j (sibling_step o k i trees)
      passes j =
          at_child-swap hear h where_to j (at_child (step (boxed o k)) i trees) (λ c here found. below-brings i (k.word (machine t).machine) t c)
          ∙ ap (at_child h j) (sym a.steps)

      hear-rests : (c : Tree (Box M)) → rests_at o k (d ∷ q) c ≡ false → rests_at o k (d ∷ q) (hear c) ≡ false
      hear-rests c moves = brings-inner o k (k.talk (machine t).machine) i (k.word (machine t).machine) d q c ∙ moves

      goes-on : (j : ℕ) → rests_there (rests_at o k (d ∷ q)) (child_at j trees) ≡ false
          → (i ≡ j → rests_at o k (d ∷ q) t ≡ false → rests_at o k (d ∷ q) (step (boxed o k) t) ≡ false)
          → rests_there (rests_at o k (d ∷ q)) (child_at j (sibling_step o k i trees)) ≡ false
      goes-on j moves stepped =
          ap (λ left. rests_there (rests_at o k (d ∷ q)) (child_at j left)) a.steps
          ∙ after-one o k i trees t a (λ c. rests_there (rests_at o k (d ∷ q)) c ≡ false) j moves stepped (λ c was. hear-rests c was)

      with-own : IsSound (boxed o k) t → rests_at o k (d ∷ q) t ≡ false → Crosses [] (d ∷ q) i i trees
      with-own sound moves = by (own-leads t sound a.ready moves)
        where
          found : child_at i (at_child h i trees) ≡ Some (h t)
          found = child_at-same h i trees ∙ ap (option_map h) a.found

          there : rests_there (rests_at o k (d ∷ q)) (child_at i trees) ≡ false
          there = ap (rests_there (rests_at o k (d ∷ q))) a.found ∙ moves

          ready : IsReady o k (h t)
          ready = below-ready t sound a.ready moves

          twice : sibling_step o k i (at_child h i trees) ≡ at_child hear where_to (at_child (λ c. step (boxed o k) (h c)) i trees)
          twice = steps-with i (h t) found ready (below-stays d q t) ∙ ap (at_child hear where_to) (at_child-twice (step (boxed o k)) h i trees)

          this : (c : Tree (Box M)) → child_at i trees ≡ Some c → c ≡ t
          this c is = some-same c t (sym is ∙ a.found)

          by : LeadsTo t → Crosses [] (d ∷ q) i i trees
          by (apart e same) =
              both
              (twice
              ∙ ap (at_child hear where_to)
              (at_child-agree (λ c. step (boxed o k) (h c)) (λ c. h (step (boxed o k) c)) i trees
              (λ c is. subst (λ v. step (boxed o k) (h v) ≡ h (step (boxed o k) v)) (sym (this c is)) (e ∙ sym (settle-is o k d q (step (boxed o k) t))))
              ∙ sym (at_child-twice h (step (boxed o k)) i trees))
              ∙ passes i)
              (still-rests i (h t) found ready (below-stays d q t))
              (goes-on i there (λ here was. moves-on t (step (boxed o k) t) same was))
          by (gone e none) =
              first
              (twice
              ∙ ap (at_child hear where_to)
              (at_child-agree (λ c. step (boxed o k) (h c)) (step (boxed o k)) i trees
              (λ c is. subst (λ v. step (boxed o k) (h v) ≡ step (boxed o k) v) (sym (this c is)) e))
              ∙ sym a.steps)
              (still-rests i (h t) found ready (below-stays d q t))
              (ap (λ left. option_and_then (subtree (d ∷ q)) (child_at i left)) a.steps
              ∙ child_at-by (λ c. option_and_then (subtree (d ∷ q)) c ≡ None) hear where_to i (at_child (step (boxed o k)) i trees)
              (ap (option_and_then (subtree (d ∷ q))) (child_at-same (step (boxed o k)) i trees ∙ ap (option_map (step (boxed o k))) a.found)
              ∙ gone-on (step (boxed o k) t) none)
              (λ c here found was. brings-subtree o k (k.talk (machine t).machine) i (k.word (machine t).machine) d q c ∙ was))

      with-other : (j : ℕ) → i ≢ j → rests_there (rests_at o k (d ∷ q)) (child_at j trees) ≡ false → Crosses [] (d ∷ q) i j trees
      with-other j other moves =
          let found : child_at i (at_child h j trees) ≡ Some t = child_at-other h j i trees (λ e. other (sym e)) ∙ a.found in
          both
          (steps-with j t found a.ready refl
          ∙ ap (at_child hear where_to) (at_child-swap (step (boxed o k)) h i j trees (λ c here. absurd (other here)))
          ∙ passes j)
          (still-rests j t found a.ready refl)
          (goes-on j moves (λ here. absurd (other here)))

    sibling-deeper : (i j : ℕ) (trees : Trees (Box M)) → AreSoundAt trees → sibling_rests o k i trees ≡ false
        → rests_there (rests_at o k (d ∷ q)) (child_at j trees) ≡ false → (same : Bool) → eqb i j ≡ same → Crosses [] (d ∷ q) i j trees
    sibling-deeper i j trees sound one other true e =
        let a = sibling-moves o k i trees one in
        let here : i ≡ j = eqb-true i j e in
        subst (λ x. Crosses [] (d ∷ q) i x trees) here
        (with-own i trees a.0 a.1 (sound i a.0 (a.1).found)
        (ap (rests_there (rests_at o k (d ∷ q))) (sym (a.1).found ∙ ap (λ x. child_at x trees) here) ∙ other))
    sibling-deeper i j trees sound one other false e =
        let a = sibling-moves o k i trees one in
        with-other i trees a.0 a.1 j (eqb-false i j e) other

    root-deeper : (t : Tree (Box M)) → IsSound (boxed o k) t → rests_at o k [] t ≡ false → rests_at o k (d ∷ q) t ≡ false → Meet o k [] (d ∷ q) t
    unfolding settle rests_at
    root-deeper t sound one other = by (own-leads t sound ready other)
      where
        ready : IsReady o k t
        ready = is-ready o k t one

        by : LeadsTo t → Meet o k [] (d ∷ q) t
        by (apart e same) =
            commute (e ∙ sym (settle-is o k d q (step (boxed o k) t))) (ready-rests o k (h t) (below-ready t sound ready other))
            (moves-on t (step (boxed o k) t) same other)
        by (gone e none) =
            drops e (ready-rests o k (h t) (below-ready t sound ready other)) (gone-on (step (boxed o k) t) none)

  module _ (rules : IsMachine o) (talking : IsTalking o k) where
    -- two in one brood
    inner-cross : (p q : Path) (i j : ℕ) (trees : Trees (Box M)) → AreSoundAt trees
        → ((c : Tree (Box M)) → IsSound (boxed o k) c → p ≢ q → rests_at o k p c ≡ false → rests_at o k q c ≡ false → Meet o k p q c)
        → (i ≡ j → p ≢ q) → inner_rests o k p i trees ≡ false → inner_rests o k q j trees ≡ false → Crosses p q i j trees
    inner-cross [] [] i j trees sound down differ one other =
        let a = sibling-moves o k i trees one in
        let b = sibling-moves o k j trees other in
        let ij : i ≢ j = λ e. differ e refl in
        both (siblings-commute o k i j ij trees a.0 b.0 a.1 b.1)
        (still-moves o k j i (λ e. ij (sym e)) trees b.0 a.0 b.1 a.1)
        (still-moves o k i j ij trees a.0 b.0 a.1 b.1)
    inner-cross [] (d ∷ q) i j trees sound down differ one other = sibling-deeper rules talking d q i j trees sound one other (eqb i j) refl
    inner-cross (c ∷ p) [] i j trees sound down differ one other =
        flip (inner o k [] j) (inner o k (c ∷ p) i) (inner_rests o k [] j) (inner_rests o k (c ∷ p) i) (IsGoneIn [] j) (IsGoneIn (c ∷ p) i) trees
        (sibling-deeper rules talking c p j i trees sound other one (eqb j i) refl)
    inner-cross (c ∷ p) (d ∷ q) i j trees sound down differ one other = by (eqb i j) refl (child_at i trees) refl
      where
        met : (t : Tree (Box M)) → Meet o k (c ∷ p) (d ∷ q) t
            → Cross (settle o k (c ∷ p)) (settle o k (d ∷ q)) (rests_at o k (c ∷ p)) (rests_at o k (d ∷ q)) (IsGone (c ∷ p)) (IsGone (d ∷ q)) t
        met t (commute e x y) = both e x y
        met t (drops e x y) = first e x y
        met t (dropped e x y) = second e x y

        by : (same : Bool) → eqb i j ≡ same → (t : Option (Tree (Box M))) → child_at i trees ≡ t → Crosses (c ∷ p) (d ∷ q) i j trees
        by true e None found = let no : true ≡ false = ap (rests_there (rests_at o k (c ∷ p))) (sym found) ∙ one in absurd (cc)
        by true e (Some t) found =
            let here : i ≡ j = eqb-true i j e in
            subst (λ x. Crosses (c ∷ p) (d ∷ q) i x trees) here
            (cross-child (settle o k (c ∷ p)) (settle o k (d ∷ q)) (rests_at o k (c ∷ p)) (rests_at o k (d ∷ q)) (c ∷ p) (d ∷ q) i trees t found
            (met t (down t (sound i t found) (differ here)
            (ap (rests_there (rests_at o k (c ∷ p))) (sym found) ∙ one)
            (ap (rests_there (rests_at o k (d ∷ q))) (sym found ∙ ap (λ x. child_at x trees) here) ∙ other))))
        by false e t found =
            let ij : i ≢ j = eqb-false i j e in
            both
            (at_child-swap (settle o k (c ∷ p)) (settle o k (d ∷ q)) i j trees (λ u here. absurd (ij here)))
            (ap (rests_there (rests_at o k (c ∷ p))) (child_at-other (settle o k (d ∷ q)) j i trees (λ x. ij (sym x))) ∙ one)
            (ap (rests_there (rests_at o k (d ∷ q))) (child_at-other (settle o k (c ∷ p)) i j trees ij) ∙ other)

    -- in the words of the whole tree
    to-meet : (b d : Branch) (p q : Path) (u : ℕ) → d.ticket ≡ u → (t : Tree (Box M))
        → Cross (with_broods (at_brood (inner o k p b.child) b.ticket)) (with_broods (at_brood (inner o k q d.child) u))
        (in_brood (inner_rests o k p b.child) b.ticket) (in_brood (inner_rests o k q d.child) u)
        (IsGoneAt (IsGoneIn p b.child) b.ticket) (IsGoneAt (IsGoneIn q d.child) u) t
        → Meet o k (b ∷ p) (d ∷ q) t
    unfolding subtree
    to-meet b d p q u same t cross = by cross
      where
        ps : (n : Tree (Box M)) → settle o k (b ∷ p) n ≡ with_broods (at_brood (inner o k p b.child) b.ticket) n
        ps n = settle-is o k b p n

        qs : (n : Tree (Box M)) → settle o k (d ∷ q) n ≡ with_broods (at_brood (inner o k q d.child) u) n
        qs n = settle-is o k d q n ∙ ap (λ v. with_broods (at_brood (inner o k q d.child) v) n) same

        pr : (n : Tree (Box M)) → rests_at o k (b ∷ p) n ≡ in_brood (inner_rests o k p b.child) b.ticket n
        pr n = rests-is o k b p n

        qr : (n : Tree (Box M)) → rests_at o k (d ∷ q) n ≡ in_brood (inner_rests o k q d.child) u n
        qr n = rests-is o k d q n ∙ ap (λ v. in_brood (inner_rests o k q d.child) v n) same

        q_gone : (n : Tree (Box M)) → subtree (d ∷ q) n ≡ option_and_then (subtree q) (child_at d.child (brood_of u (broods_of n)))
        q_gone n = ap (λ v. option_and_then (subtree q) (child_at d.child (brood_of v (broods_of n)))) same

        by : Cross (with_broods (at_brood (inner o k p b.child) b.ticket)) (with_broods (at_brood (inner o k q d.child) u))
            (in_brood (inner_rests o k p b.child) b.ticket) (in_brood (inner_rests o k q d.child) u)
            (IsGoneAt (IsGoneIn p b.child) b.ticket) (IsGoneAt (IsGoneIn q d.child) u) t → Meet o k (b ∷ p) (d ∷ q) t
        by (both e x y) =
            commute
            (ap (settle o k (b ∷ p)) (qs t) ∙ ps (with_broods (at_brood (inner o k q d.child) u) t) ∙ e
            ∙ sym (ap (settle o k (d ∷ q)) (ps t) ∙ qs (with_broods (at_brood (inner o k p b.child) b.ticket) t)))
            (ap (rests_at o k (b ∷ p)) (qs t) ∙ pr (with_broods (at_brood (inner o k q d.child) u) t) ∙ x)
            (ap (rests_at o k (d ∷ q)) (ps t) ∙ qr (with_broods (at_brood (inner o k p b.child) b.ticket) t) ∙ y)
        by (first e x y) =
            drops
            (ap (settle o k (b ∷ p)) (qs t) ∙ ps (with_broods (at_brood (inner o k q d.child) u) t) ∙ e ∙ sym (ps t))
            (ap (rests_at o k (b ∷ p)) (qs t) ∙ pr (with_broods (at_brood (inner o k q d.child) u) t) ∙ x)
            (ap (subtree (d ∷ q)) (ps t) ∙ q_gone (with_broods (at_brood (inner o k p b.child) b.ticket) t) ∙ y)
        by (second e x y) =
            dropped
            (ap (settle o k (d ∷ q)) (ps t) ∙ qs (with_broods (at_brood (inner o k p b.child) b.ticket) t) ∙ e ∙ sym (qs t))
            (ap (rests_at o k (d ∷ q)) (ps t) ∙ qr (with_broods (at_brood (inner o k p b.child) b.ticket) t) ∙ x)
            (ap (subtree (b ∷ p)) (qs t) ∙ y)

    meet-flip : (p q : Path) (t : Tree (Box M)) → Meet o k p q t → Meet o k q p t
    meet-flip p q t (commute e x y) = commute (sym e) y x
    meet-flip p q t (drops e x y) = dropped e x y
    meet-flip p q t (dropped e x y) = drops e x y

    branch-same : (b d : Branch) → b.ticket ≡ d.ticket → b.child ≡ d.child → b ≡ d
    branch-same b d ticket child = ap₂ (λ (t c : ℕ). record { ticket = t; child = c }) ticket child

    pub meets : (p q : Path) (t : Tree (Box M)) → IsSound (boxed o k) t → p ≢ q → rests_at o k p t ≡ false → rests_at o k q t ≡ false → Meet o k p q t
    meets [] [] t sound differ one other = absurd (differ refl)
    meets [] (d ∷ q) t sound differ one other = root-deeper rules talking d q t sound one other
    meets (b ∷ p) [] t sound differ one other = meet-flip [] (b ∷ p) t (root-deeper rules talking b p t sound other one)
    meets (b ∷ p) (d ∷ q) (node x broods log) sound differ one other = by (λ c. meets p q c) (eqb b.ticket d.ticket) refl
      where
        by : ((c : Tree (Box M)) → IsSound (boxed o k) c → p ≢ q → rests_at o k p c ≡ false → rests_at o k q c ≡ false → Meet o k p q c)
            → (same : Bool) → eqb b.ticket d.ticket ≡ same → Meet o k (b ∷ p) (d ∷ q) (node x broods log)
        by down true e =
            let ticket : b.ticket ≡ d.ticket = eqb-true b.ticket d.ticket e in
            to-meet b d p q b.ticket (sym ticket) (node x broods log)
            (cross-brood (inner o k p b.child) (inner o k q d.child) (inner_rests o k p b.child) (inner_rests o k q d.child) (IsGoneIn p b.child) (IsGoneIn q d.child)
            b.ticket x broods log (inner-none o k p b.child) (inner-none o k q d.child) (one-brood (boxed o k) x broods log sound b.ticket)
            (inner-cross p q b.child d.child (brood_of b.ticket broods)
            (λ i c found. below-at (boxed o k) x broods log b.ticket i c sound found)
            down
            (λ child e2. differ (ap₂ (λ (v : Branch) (w : Path). v ∷ w) (branch-same b d ticket child) e2))
            (sym (rests-is o k b p (node x broods log)) ∙ one)
            (ap (λ v. inner_rests o k q d.child (brood_of v broods)) ticket ∙ sym (rests-is o k d q (node x broods log)) ∙ other)))
        by down false e =
            to-meet b d p q d.ticket refl (node x broods log)
            (cross-broods (inner o k p b.child) (inner o k q d.child) (inner_rests o k p b.child) (inner_rests o k q d.child) (IsGoneIn p b.child) (IsGoneIn q d.child)
            b.ticket d.ticket x broods log (inner-none o k p b.child) (inner-none o k q d.child) e
            (sym (rests-is o k b p (node x broods log)) ∙ one)
            (sym (rests-is o k d q (node x broods log)) ∙ other))
