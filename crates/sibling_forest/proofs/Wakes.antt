-- Who waits goes on waiting after a step of another, but for a child that it joins and the sibling that its talk names.
use Rattle.std.proofs.Common.{◌≡◌, ◌≢◌, ℕ, zero, suc, eqb, eqb-true, eq-eqb, Bool, true, false, cond, not, ◌&&◌, ◌||◌, ◌⊎◌, inl, inr, refl, sym, ap, ap₂, ◌∙◌, [], ◌∷◌, ◌++◌, Option, Some, None}
use Rattle.std.proofs.Common.{is_some, option_map, option_and_then}
use Rattle.std.proofs.lemmas.Bool.{eqb-false, or_cases, or_left, or_right}
use Rattle.forest_tree.specs.Operations.{Call, clone, join, kill, Operations, IsMachine}
use Rattle.forest_tree.specs.Tree.{Tree, node, Trees, no_tree, tree, Broods, Log, machine, broods_of, at_child, child_at, brood_of, at_brood, Branch, Path, subtree}
use Rattle.forest_tree.specs.Step.{has_ended, have_ended, step, rests}
use Rattle.forest_tree.specs.Step as own
use Rattle.forest_tree.specs.Sound.{IsSound}
use Rattle.forest_tree.proofs.Places.{some-same, brood_of-at, child_at-same, child_at-other, below-at, Kept, stays, goes, is_new, kept-step}
use Rattle.sibling_forest.specs.Talk.{Talk, send, receive, peer, Talks, queue, Box, boxed, IsTalking}
use Rattle.sibling_forest.specs.Settle.{with_word, is_empty, is_full, box_at, lives_there, is_full_there, waits_by, heard_by, sibling_rests, sibling_rests_by, sibling_step, sibling_step_by, settle}
use Rattle.sibling_forest.specs.Settle.{rests_there, rests_at}
use Rattle.sibling_forest.specs.Laws.{child_number, is_sibling}
use Rattle.sibling_forest.proofs.Boxes.{boxed-machine}
use Rattle.sibling_forest.proofs.Queues.{queue-other}
use Rattle.sibling_forest.proofs.Siblings.{brings, brings-machine, brings-rests, Moves, sibling-moves, later, after-one}
use Rattle.sibling_forest.proofs.Inner.{inner, inner_rests, settle-is, rests-is, inner-none, inner_rests-none, boxes-stay, waits-stay, brings-inner}
use Rattle.sibling_forest.proofs.Meets.{below-stays}

module _ {M E : Type 0} (o : Operations M E) (k : Talks M) where
  -- machines that stay have ended as before
  ended-stay : (f : Tree (Box M) → Tree (Box M)) → ((t : Tree (Box M)) → machine (f t) ≡ machine t) → (i : ℕ) (trees : Trees (Box M))
      → have_ended (boxed o k) (at_child f i trees) ≡ have_ended (boxed o k) trees
  unfolding have_ended at_child
  ended-stay f same i no_tree = refl
  ended-stay f same zero (tree t rest) = refl
  ended-stay f same (suc zero) (tree t rest) = ap (λ b. is_some ((boxed o k).ending b) && have_ended (boxed o k) rest) (same t)
  ended-stay f same (suc (suc i)) (tree t rest) = ap (λ b. has_ended (boxed o k) t && b) (ended-stay f same (suc i) rest)

  -- a machine that waits for its own children, after a step below
  joined-stays : (d : Branch) (p : Path) (u : ℕ) (broods : Broods (Box M)) → (p ≡ [] → d.ticket ≢ u) → (same : Bool) → eqb d.ticket u ≡ same
      → have_ended (boxed o k) (cond same (inner o k p d.child (brood_of u broods)) (brood_of u broods)) ≡ have_ended (boxed o k) (brood_of u broods)
  joined-stays d p u broods other false e = refl
  joined-stays d [] u broods other true e = absurd (other refl (eqb-true d.ticket u e))
  joined-stays d (c ∷ p) u broods other true e = ended-stay (settle o k (c ∷ p)) (below-stays o k c p) d.child (brood_of u broods)

  call-waits : (call : Option Call) (d : Branch) (p : Path) (broods : Broods (Box M)) → (p ≡ [] → call ≢ Some (join d.ticket))
      → own.waits_by (boxed o k) call broods ≡ true → own.waits_by (boxed o k) call (at_brood (inner o k p d.child) d.ticket broods) ≡ true
  call-waits None d p broods other h = absurd (cc)
  call-waits (Some (clone u)) d p broods other h = absurd (cc)
  call-waits (Some (kill u)) d p broods other h = absurd (cc)
  call-waits (Some (join u)) d p broods other h =
      ap not (ap (have_ended (boxed o k)) (brood_of-at (inner o k p d.child) (inner-none o k p d.child) d.ticket u broods)
      ∙ joined-stays d p u broods (λ none same. other none (ap (λ v. Some (join v)) (sym same))) (eqb d.ticket u) refl) ∙ h

  own-waits : (d : Branch) (p : Path) (t : Tree (Box M)) → (p ≡ [] → o.call (machine t).machine ≢ Some (join d.ticket))
      → rests (boxed o k) (Some t) ≡ true → rests (boxed o k) (Some (settle o k (d ∷ p) t)) ≡ true
  unfolding boxed
  own-waits d p (node x broods log) other h =
      ap (λ u. rests (boxed o k) (Some u)) (settle-is o k d p (node x broods log)) ∙ by (or_cases (is_some (o.ending x.machine)) (own.waits_by (boxed o k) (o.call x.machine) broods) h)
    where
      by : (is_some (o.ending x.machine) ≡ true) ⊎ (own.waits_by (boxed o k) (o.call x.machine) broods ≡ true)
          → is_some (o.ending x.machine) || own.waits_by (boxed o k) (o.call x.machine) (at_brood (inner o k p d.child) d.ticket broods) ≡ true
      by (inl ended) = or_left _ _ ended
      by (inr waiting) = or_right _ _ (call-waits (o.call x.machine) d p broods other waiting)

  -- siblings
  heard-full : (e : Option E) (i j word : ℕ) (b : Box M) → i ≢ j → is_full (queue i (heard_by o k e j word b).inbox) ≡ is_full (queue i b.inbox)
  heard-full None i j word b other = ap is_full (queue-other (with_word word) j i b.inbox (λ e. other (sym e)))
  heard-full (Some ending) i j word b other = refl

  pub brings-full : (what : Option Talk) (i j word : ℕ) (t : Tree (Box M)) → i ≢ j
      → is_full (queue i (machine (brings o k what j word t)).inbox) ≡ is_full (queue i (machine t).inbox)
  brings-full None i j word t other = refl
  brings-full (Some (send x)) i j word (node b broods log) other = heard-full (o.ending b.machine) i j word b other
  brings-full (Some (receive x)) i j word t other = refl

  heard-empty : (e : Option E) (x j word : ℕ) (b : Box M) → x ≢ j → is_empty (queue x (heard_by o k e j word b).inbox) ≡ is_empty (queue x b.inbox)
  heard-empty None x j word b other = ap is_empty (queue-other (with_word word) j x b.inbox (λ e. other (sym e)))
  heard-empty (Some ending) x j word b other = refl

  brings-empty : (what : Option Talk) (x j word : ℕ) (t : Tree (Box M)) → x ≢ j
      → is_empty (queue x (machine (brings o k what j word t)).inbox) ≡ is_empty (queue x (machine t).inbox)
  brings-empty None x j word t other = refl
  brings-empty (Some (send y)) x j word (node b broods log) other = heard-empty (o.ending b.machine) x j word b other
  brings-empty (Some (receive y)) x j word t other = refl

  module _ (i j : ℕ) (other : i ≢ j) (trees : Trees (Box M)) (one : Tree (Box M)) (m : Moves o k j trees one) where
    lives-same : (x : ℕ) → x ≢ j → lives_there o k (box_at o k x (later o k j one trees)) ≡ lives_there o k (box_at o k x trees)
    lives-same x apart =
        after-one o k j trees one m (λ c. lives_there o k (option_map machine c) ≡ lives_there o k (box_at o k x trees)) x refl
        (λ here. absurd (apart (sym here)))
        (λ t was. ap (λ n. not (is_some (o.ending n))) (brings-machine o k (k.talk (machine one).machine) j (k.word (machine one).machine) t) ∙ was)

    full-same : (x : ℕ) → x ≢ j → is_full_there o k i (box_at o k x (later o k j one trees)) ≡ is_full_there o k i (box_at o k x trees)
    full-same x apart =
        after-one o k j trees one m (λ c. is_full_there o k i (option_map machine c) ≡ is_full_there o k i (box_at o k x trees)) x refl
        (λ here. absurd (apart (sym here)))
        (λ t was. brings-full (k.talk (machine one).machine) i j (k.word (machine one).machine) t other ∙ was)

    -- it waits with a talk that does not name child j
    waits-same : (what : Option Talk) → ((said : Talk) → what ≡ Some said → peer said ≢ j) → (b c : Box M)
        → ((x : ℕ) → x ≢ j → is_empty (queue x c.inbox) ≡ is_empty (queue x b.inbox))
        → waits_by o k what i c (later o k j one trees) ≡ waits_by o k what i b trees
    waits-same None names b c words = refl
    waits-same (Some (send x)) names b c words =
        ap₂ (λ p q. p && q) (lives-same x (names (send x) refl)) (full-same x (names (send x) refl))
    waits-same (Some (receive x)) names b c words =
        ap₂ (λ p q. p && q) (lives-same x (names (receive x) refl)) (words x (names (receive x) refl))

    -- what became of child i by the step of child j
    record Becomes (a : Tree (Box M)) (c : Option (Tree (Box M))) : Type 0 where
      to : Tree (Box M)
      is_it : c ≡ Some to
      rest : rests (boxed o k) (Some to) ≡ rests (boxed o k) (Some a)
      alike : (machine to).machine ≡ (machine a).machine
      words : (x : ℕ) → x ≢ j → is_empty (queue x (machine to).inbox) ≡ is_empty (queue x (machine a).inbox)

    becomes : (a : Tree (Box M)) → child_at i trees ≡ Some a → Becomes a (child_at i (later o k j one trees))
    becomes a found =
        after-one o k j trees one m (Becomes a) i (record { to = a; is_it = found; rest = refl; alike = refl; words = λ x apart. refl })
        (λ here. absurd (other (sym here)))
        (λ t was. heard t was)
      where
        heard : (t : Tree (Box M)) → Becomes a (Some t) → Becomes a (Some (brings o k (k.talk (machine one).machine) j (k.word (machine one).machine) t))
        heard t h =
            let same : t ≡ h.to = some-same t h.to h.is_it in
            record {
              to = brings o k (k.talk (machine one).machine) j (k.word (machine one).machine) t;
              is_it = refl;
              rest = brings-rests o k (k.talk (machine one).machine) j (k.word (machine one).machine) t ∙ ap (λ u. rests (boxed o k) (Some u)) same ∙ h.rest;
              alike = brings-machine o k (k.talk (machine one).machine) j (k.word (machine one).machine) t ∙ ap (λ (u : Tree (Box M)). (machine u).machine) same ∙ h.alike;
              words = λ x apart. brings-empty (k.talk (machine one).machine) x j (k.word (machine one).machine) t apart
                  ∙ ap (λ (u : Tree (Box M)). is_empty (queue x (machine u).inbox)) same ∙ h.words x apart;
            }

    sibling-waits : (a : Tree (Box M)) → child_at i trees ≡ Some a → ((said : Talk) → k.talk (machine a).machine ≡ Some said → peer said ≢ j)
        → sibling_rests o k i trees ≡ true → sibling_rests o k i (sibling_step o k j trees) ≡ true
    sibling-waits a found names h =
        let b = becomes a found in
        let same : rests (boxed o k) (Some b.to) || waits_by o k (k.talk (machine b.to).machine) i (machine b.to) (later o k j one trees)
        ≡ rests (boxed o k) (Some a) || waits_by o k (k.talk (machine a).machine) i (machine a) trees =
        ap₂ (λ p q. p || q) b.rest
        (ap (λ n. waits_by o k (k.talk n) i (machine b.to) (later o k j one trees)) b.alike
        ∙ waits-same (k.talk (machine a).machine) names (machine a) (machine b.to) b.words) in
        ap (sibling_rests o k i) m.steps
        ∙ ap (λ c. sibling_rests_by o k c i (later o k j one trees)) b.is_it
        ∙ same ∙ ap (λ c. sibling_rests_by o k c i trees) (sym found) ∙ h

  -- a step below a sibling, or below the machine itself
  deeper-waits : (d : Branch) (p : Path) (i j : ℕ) (trees : Trees (Box M)) (a : Tree (Box M)) → child_at i trees ≡ Some a
      → (i ≡ j → p ≡ [] → o.call (machine a).machine ≢ Some (join d.ticket)) → sibling_rests o k i trees ≡ true
      → (same : Bool) → eqb j i ≡ same → sibling_rests o k i (at_child (settle o k (d ∷ p)) j trees) ≡ true
  deeper-waits d p i j trees a found other h false e =
      ap (λ c. sibling_rests_by o k c i (at_child (settle o k (d ∷ p)) j trees)) (child_at-other (settle o k (d ∷ p)) j i trees (eqb-false j i e) ∙ found)
      ∙ ap (λ w. rests (boxed o k) (Some a) || w)
      (waits-stay o k (k.talk (machine a).machine) i (machine a) trees (at_child (settle o k (d ∷ p)) j trees) (λ x. boxes-stay o k (settle o k (d ∷ p)) (below-stays o k d p) j x trees))
      ∙ ap (λ c. sibling_rests_by o k c i trees) (sym found) ∙ h
  deeper-waits d p i j trees a found other h true e =
      let here : j ≡ i = eqb-true j i e in
      ap (λ c. sibling_rests_by o k c i (at_child (settle o k (d ∷ p)) j trees))
      (ap (λ n. child_at i (at_child (settle o k (d ∷ p)) n trees)) here ∙ child_at-same (settle o k (d ∷ p)) i trees ∙ ap (option_map (settle o k (d ∷ p))) found)
      ∙ by here (or_cases (rests (boxed o k) (Some a)) (waits_by o k (k.talk (machine a).machine) i (machine a) trees) (ap (λ c. sibling_rests_by o k c i trees) (sym found) ∙ h))
    where
      by : j ≡ i → (rests (boxed o k) (Some a) ≡ true) ⊎ (waits_by o k (k.talk (machine a).machine) i (machine a) trees ≡ true)
          → rests (boxed o k) (Some (settle o k (d ∷ p) a))
          || waits_by o k (k.talk (machine (settle o k (d ∷ p) a)).machine) i (machine (settle o k (d ∷ p) a)) (at_child (settle o k (d ∷ p)) j trees) ≡ true
      by here (inl rest) = or_left _ _ (own-waits d p a (other (sym here)) rest)
      by here (inr waiting) =
          or_right _ _
          (ap (λ (b : Box M). waits_by o k (k.talk b.machine) i b (at_child (settle o k (d ∷ p)) j trees)) (below-stays o k d p a)
          ∙ waits-stay o k (k.talk (machine a).machine) i (machine a) trees (at_child (settle o k (d ∷ p)) j trees) (λ x. boxes-stay o k (settle o k (d ∷ p)) (below-stays o k d p) j x trees)
          ∙ waiting)

  is-child : (path : Path) (c : Option (Tree (Box M))) (a : Tree (Box M)) → option_and_then (subtree path) c ≡ Some a
      → (u : Tree (Box M)) × (c ≡ Some u) × (subtree path u ≡ Some a)
  is-child path None a e = absurd (cc)
  is-child path (Some u) a e = (u, refl, e)

  module _ (rules : IsMachine o) (talking : IsTalking o k) where
    -- a step above it
    root-waits : (b : Branch) (q : Path) (t a : Tree (Box M)) → IsSound (boxed o k) t → subtree (b ∷ q) t ≡ Some a
        → rests_at o k (b ∷ q) t ≡ true → rests_at o k (b ∷ q) (step (boxed o k) t) ≡ true
    unfolding subtree child_at
    root-waits b q (node x broods log) a sound here h =
        by (kept-step (boxed o k) (boxed-machine o k rules talking) x broods log sound b.ticket)
      where
        by : {may : Bool} → Kept may (brood_of b.ticket broods) (brood_of b.ticket (broods_of (step (boxed o k) (node x broods log))))
            → rests_at o k (b ∷ q) (step (boxed o k) (node x broods log)) ≡ true
        by (stays e) =
            rests-is o k b q (step (boxed o k) (node x broods log)) ∙ ap (inner_rests o k q b.child) e ∙ sym (rests-is o k b q (node x broods log)) ∙ h
        by (goes e) =
            rests-is o k b q (step (boxed o k) (node x broods log)) ∙ ap (inner_rests o k q b.child) e ∙ inner_rests-none o k q b.child
        by (is_new may e) =
            let no : None ≡ Some a = ap (λ trees. option_and_then (subtree q) (child_at b.child trees)) (sym e) ∙ here in absurd (cc)

    abbrev Joins : Path → Path → Tree (Box M) → Type 0
    Joins q p a = (b : Branch) → p ≡ q ++ (b ∷ []) → o.call (machine a).machine ≢ Some (join b.ticket)

    abbrev Names : Path → Path → Tree (Box M) → Type 0
    Names q p a = is_sibling q p ≡ true → (said : Talk) → k.talk (machine a).machine ≡ Some said → peer said ≢ child_number p

    abbrev Down : Path → Path → Tree (Box M) → Type 0
    Down q p a = (u : Tree (Box M)) → IsSound (boxed o k) u → subtree q u ≡ Some a → p ≢ q → Joins q p a → Names q p a
        → rests_at o k q u ≡ true → rests_at o k q (settle o k p u) ≡ true

    -- in one family
    family-waits : (q p : Path) (b d : Branch) (trees : Trees (Box M)) (a : Tree (Box M)) → b.ticket ≡ d.ticket
        → ((c : Tree (Box M)) → child_at b.child trees ≡ Some c → IsSound (boxed o k) c)
        → option_and_then (subtree q) (child_at b.child trees) ≡ Some a → (d ∷ p) ≢ (b ∷ q) → Joins (b ∷ q) (d ∷ p) a → Names (b ∷ q) (d ∷ p) a → Down q p a
        → inner_rests o k q b.child trees ≡ true → inner_rests o k q b.child (inner o k p d.child trees) ≡ true
    unfolding is_sibling child_number subtree
    family-waits [] [] b d trees a ticket sound here other joins names down h = by (sibling_rests o k d.child trees) refl
      where
        found : child_at b.child trees ≡ Some a
        found = let is = is-child [] (child_at b.child trees) a here in is.1 ∙ is.2

        apart : b.child ≢ d.child
        apart e = other (ap₂ (λ (t c : ℕ). record { ticket = t; child = c } ∷ []) (sym ticket) (sym e))

        by : (rest : Bool) → sibling_rests o k d.child trees ≡ rest → sibling_rests o k b.child (sibling_step o k d.child trees) ≡ true
        by true e =
            ap (sibling_rests o k b.child) (ap (λ rest. sibling_step_by o k rest (child_at d.child trees) d.child trees) e) ∙ h
        by false e =
            let m = sibling-moves o k d.child trees e in
            sibling-waits b.child d.child apart trees m.0 m.1 a found (names (eq-eqb b.ticket d.ticket ticket)) h
    family-waits [] (c ∷ p) b d trees a ticket sound here other joins names down h =
        let is = is-child [] (child_at b.child trees) a here in
        deeper-waits c p b.child d.child trees a (is.1 ∙ is.2)
        (λ same none. joins c
        (ap₂ (λ (v : Branch) (w : Path). v ∷ (c ∷ w)) (ap₂ (λ (t i : ℕ). record { ticket = t; child = i }) (sym ticket) (sym same)) none)) h (eqb d.child b.child) refl
    family-waits (c ∷ q) [] b d trees a ticket sound here other joins names down h = by (sibling_rests o k d.child trees) refl
      where
        by : (rest : Bool) → sibling_rests o k d.child trees ≡ rest
            → rests_there (rests_at o k (c ∷ q)) (child_at b.child (sibling_step o k d.child trees)) ≡ true
        by true e =
            ap (λ left. rests_there (rests_at o k (c ∷ q)) (child_at b.child left))
            (ap (λ rest. sibling_step_by o k rest (child_at d.child trees) d.child trees) e) ∙ h
        by false e =
            let m = sibling-moves o k d.child trees e in
            ap (λ left. rests_there (rests_at o k (c ∷ q)) (child_at b.child left)) (m.1).steps
            ∙ after-one o k d.child trees m.0 m.1 (λ t. rests_there (rests_at o k (c ∷ q)) t ≡ true) b.child h
            (λ same was.
            let at_one : child_at b.child trees ≡ Some m.0 = ap (λ n. child_at n trees) (sym same) ∙ (m.1).found in
            root-waits c q m.0 a (sound m.0 at_one) (ap (option_and_then (subtree (c ∷ q))) (sym at_one) ∙ here) was)
            (λ t was. brings-inner o k (k.talk (machine m.0).machine) d.child (k.word (machine m.0).machine) c q t ∙ was)
    family-waits (c ∷ q) (e ∷ p) b d trees a ticket sound here other joins names down h = by (eqb d.child b.child) refl
      where
        by : (same : Bool) → eqb d.child b.child ≡ same
            → rests_there (rests_at o k (c ∷ q)) (child_at b.child (at_child (settle o k (e ∷ p)) d.child trees)) ≡ true
        by false f = ap (rests_there (rests_at o k (c ∷ q))) (child_at-other (settle o k (e ∷ p)) d.child b.child trees (eqb-false d.child b.child f)) ∙ h
        by true f =
            let same : d.child ≡ b.child = eqb-true d.child b.child f in
            let branch : d ≡ b = ap₂ (λ (t i : ℕ). record { ticket = t; child = i }) (sym ticket) same in
            let is = is-child (c ∷ q) (child_at b.child trees) a here in
            ap (rests_there (rests_at o k (c ∷ q)))
            (ap (λ n. child_at b.child (at_child (settle o k (e ∷ p)) n trees)) same ∙ child_at-same (settle o k (e ∷ p)) b.child trees ∙ ap (option_map (settle o k (e ∷ p))) is.1)
            ∙ down is.0 (sound is.0 is.1) is.2
            (λ eq. other (ap₂ (λ (v : Branch) (w : Path). v ∷ w) branch eq))
            (λ y eq. joins y (ap₂ (λ (v : Branch) (w : Path). v ∷ w) branch eq))
            (λ sib. names (ap₂ (λ s t. s && t && is_sibling (c ∷ q) (e ∷ p)) (eq-eqb b.ticket d.ticket ticket) (eq-eqb b.child d.child (sym same)) ∙ sib))
            (ap (rests_there (rests_at o k (c ∷ q))) (sym is.1) ∙ h)

    root-settle : (b : Branch) (q : Path) (t a : Tree (Box M)) → IsSound (boxed o k) t → subtree (b ∷ q) t ≡ Some a
        → rests_at o k (b ∷ q) t ≡ true → rests_at o k (b ∷ q) (settle o k [] t) ≡ true
    unfolding settle
    root-settle b q t a sound here h = root-waits b q t a sound here h

    in-tree : (b d : Branch) (q p : Path) (x : Box M) (broods : Broods (Box M)) (log : Log (Box M)) (a : Tree (Box M))
        → IsSound (boxed o k) (node x broods log) → subtree (b ∷ q) (node x broods log) ≡ Some a → (d ∷ p) ≢ (b ∷ q)
        → Joins (b ∷ q) (d ∷ p) a → Names (b ∷ q) (d ∷ p) a → rests_at o k (b ∷ q) (node x broods log) ≡ true → Down q p a
        → rests_at o k (b ∷ q) (settle o k (d ∷ p) (node x broods log)) ≡ true
    unfolding subtree
    in-tree b d q p x broods log a sound here other joins names h down =
        ap (rests_at o k (b ∷ q)) (settle-is o k d p (node x broods log))
        ∙ rests-is o k b q (node x (at_brood (inner o k p d.child) d.ticket broods) log)
        ∙ ap (inner_rests o k q b.child) (brood_of-at (inner o k p d.child) (inner-none o k p d.child) d.ticket b.ticket broods)
        ∙ by (eqb d.ticket b.ticket) refl (sym (rests-is o k b q (node x broods log)) ∙ h)
      where
        by : (same : Bool) → eqb d.ticket b.ticket ≡ same → inner_rests o k q b.child (brood_of b.ticket broods) ≡ true
            → inner_rests o k q b.child (cond same (inner o k p d.child (brood_of b.ticket broods)) (brood_of b.ticket broods)) ≡ true
        by false e h = h
        by true e h =
            family-waits q p b d (brood_of b.ticket broods) a (sym (eqb-true d.ticket b.ticket e))
            (λ c found. below-at (boxed o k) x broods log b.ticket b.child c sound found) here other joins names down h

    pub waits-on : (q p : Path) (t a : Tree (Box M)) → IsSound (boxed o k) t → subtree q t ≡ Some a → p ≢ q → Joins q p a → Names q p a
        → rests_at o k q t ≡ true → rests_at o k q (settle o k p t) ≡ true
    unfolding subtree rests_at
    waits-on [] [] t a sound here other joins names h = absurd (other refl)
    waits-on [] (d ∷ p) t a sound here other joins names h =
        own-waits d p t (λ none call. joins d (ap (λ (w : Path). d ∷ w) none) (ap (λ (u : Tree (Box M)). o.call (machine u).machine) (sym (some-same t a here)) ∙ call)) h
    waits-on (b ∷ q) [] t a sound here other joins names h = root-settle b q t a sound here h
    waits-on (b ∷ q) (d ∷ p) (node x broods log) a sound here other joins names h =
        in-tree b d q p x broods log a sound here other joins names h (λ u. waits-on q p u a)
