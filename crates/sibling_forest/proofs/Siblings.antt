-- Steps of two siblings: each can be made after the other, and their order makes no difference.
use Rattle.std.proofs.Common.{◌≡◌, ◌≢◌, ℕ, eqb, eqb-true, ◌⊎◌, inl, inr, Bool, true, false, not, ◌&&◌, refl, sym, ap, ap₂, ◌∙◌, subst, length, Option, Some, None, is_some, option_map}
use Rattle.std.proofs.lemmas.Bool.{eqb-false, and_cases, and_left, and_right, or_parts, or_from}
use Rattle.forest_tree.specs.Operations.{Operations}
use Rattle.forest_tree.specs.Tree.{Tree, node, Trees, Broods, Log, machine, broods_of, at_child, child_at, with_broods}
use Rattle.forest_tree.specs.Step.{waits, step, rests}
use Rattle.forest_tree.proofs.Places.{some-same, child_at-same, child_at-other}
use Rattle.forest_tree.proofs.Rests.{lives-none}
use Rattle.sibling_forest.specs.Talk.{Talk, send, receive, Talks, queue, Box, kept_by, boxed}
use Rattle.sibling_forest.specs.Settle.{with_word, is_empty, is_full, box_at, lives_there, is_full_there, sibling_rests, sibling_rests_by, heard_by, delivered, deliver_by, sibling_step_by}
use Rattle.sibling_forest.specs.Settle.{sibling_step}
use Rattle.sibling_forest.specs.Settle as told
use Rattle.sibling_forest.proofs.Families.{at_child-swap, at_child-id}
use Rattle.sibling_forest.proofs.Queues.{queue-other, words-stay}
use Rattle.sibling_forest.proofs.Words.{Finds, delivered-machine, delivered-broods, delivered-below, delivered-swap, delivered-rests, step-word, Shorter, step-shorter, full-less}

module _ {M : Type 0} where
  child-inside : (P : Option (Tree M) → Type 0) (f : Tree M → Tree M) (c there : Option (Tree M)) → there ≡ c → P there
      → ((t : Tree M) → there ≡ Some t → P (Some t) → P (Some (f t))) → P (option_map f c)
  child-inside P f None there e h changed = subst P e h
  child-inside P f (Some t) there e h changed = changed t e (subst P e h)

  -- what holds of a child holds of it after a change of a child
  pub child_at-by : (P : Option (Tree M) → Type 0) (f : Tree M → Tree M) (y x : ℕ) (trees : Trees M) → P (child_at x trees)
      → ((t : Tree M) → y ≡ x → child_at x trees ≡ Some t → P (Some t) → P (Some (f t))) → P (child_at x (at_child f y trees))
  child_at-by P f y x trees h changed = by (eqb y x) refl
    where
      by : (same : Bool) → eqb y x ≡ same → P (child_at x (at_child f y trees))
      by true e =
          subst P (sym (ap (λ n. child_at x (at_child f n trees)) (eqb-true y x e) ∙ child_at-same f x trees))
          (child-inside P f (child_at x trees) (child_at x trees) refl h (λ t found. changed t (eqb-true y x e) found))
      by false e = subst P (sym (child_at-other f y x trees (eqb-false y x e))) h

module _ {M E : Type 0} (o : Operations M E) (k : Talks M) where
  -- what a talk of child i makes of its sibling
  abbrev pub brings : Option Talk → ℕ → ℕ → Tree (Box M) → Tree (Box M)
  brings None i word t = t
  brings (Some (send j)) i word t = delivered o k i word t
  brings (Some (receive j)) i word t = t

  abbrev pub target : Option Talk → ℕ
  target None = 0
  target (Some (send j)) = j
  target (Some (receive j)) = 0

  pub deliver-is : (what : Option Talk) (i word : ℕ) (trees : Trees (Box M))
      → deliver_by o k what i word trees ≡ at_child (brings what i word) (target what) trees
  deliver-is None i word trees = sym (at_child-id 0 trees)
  deliver-is (Some (send j)) i word trees = refl
  deliver-is (Some (receive j)) i word trees = sym (at_child-id 0 trees)

  pub brings-machine : (what : Option Talk) (i word : ℕ) (t : Tree (Box M)) → (machine (brings what i word t)).machine ≡ (machine t).machine
  brings-machine None i word t = refl
  brings-machine (Some (send j)) i word t = delivered-machine o k i word t
  brings-machine (Some (receive j)) i word t = refl

  pub brings-broods : (what : Option Talk) (i word : ℕ) (f : Broods (Box M) → Broods (Box M)) (t : Tree (Box M))
      → brings what i word (with_broods f t) ≡ with_broods f (brings what i word t)
  brings-broods None i word f t = refl
  brings-broods (Some (send j)) i word f t = delivered-broods o k i word f t
  brings-broods (Some (receive j)) i word f t = refl

  pub brings-below : (what : Option Talk) (i word : ℕ) (t : Tree (Box M)) → broods_of (brings what i word t) ≡ broods_of t
  brings-below None i word t = refl
  brings-below (Some (send j)) i word t = delivered-below o k i word t
  brings-below (Some (receive j)) i word t = refl

  pub brings-rests : (what : Option Talk) (i word : ℕ) (t : Tree (Box M))
      → rests (boxed o k) (Some (brings what i word t)) ≡ rests (boxed o k) (Some t)
  brings-rests None i word t = refl
  brings-rests (Some (send j)) i word t = delivered-rests o k i word t
  brings-rests (Some (receive j)) i word t = refl

  brings-swap : (one other : Option Talk) (i j v w : ℕ) (t : Tree (Box M)) → i ≢ j
      → brings one i v (brings other j w t) ≡ brings other j w (brings one i v t)
  brings-swap None other i j v w t apart = refl
  brings-swap (Some (send x)) None i j v w t apart = refl
  brings-swap (Some (send x)) (Some (send y)) i j v w t apart = delivered-swap o k i j v w t apart
  brings-swap (Some (send x)) (Some (receive y)) i j v w t apart = refl
  brings-swap (Some (receive x)) other i j v w t apart = refl

  brings-step : (what : Option Talk) (i word : ℕ) (b : Box M) (broods : Broods (Box M)) (log : Log (Box M)) → Finds o k i word b
      → o.ending b.machine ≡ None
      → step (boxed o k) (brings what i word (node b broods log)) ≡ brings what i word (step (boxed o k) (node b broods log))
  brings-step None i word b broods log finds lives = refl
  brings-step (Some (send j)) i word b broods log finds lives = step-word o k i word b broods log finds lives
  brings-step (Some (receive j)) i word b broods log finds lives = refl

  -- a queue to it is full, and it lives
  abbrev stalls : ℕ → Option (Box M) → Bool
  stalls j b = lives_there o k b && is_full_there o k j b

  heard-stalls : (e : Option E) (i word j : ℕ) (b : Box M) → i ≢ j → stalls j (Some b) ≡ false → stalls j (Some (heard_by o k e i word b)) ≡ false
  heard-stalls None i word j b apart h =
      ap (λ q. not (is_some (o.ending b.machine)) && is_full q) (queue-other (with_word word) i j b.inbox apart) ∙ h
  heard-stalls (Some ending) i word j b apart h = h

  brings-stalls : (what : Option Talk) (i word j : ℕ) (t : Tree (Box M)) → i ≢ j → stalls j (Some (machine t)) ≡ false
      → stalls j (Some (machine (brings what i word t))) ≡ false
  brings-stalls None i word j t apart h = h
  brings-stalls (Some (send x)) i word j (node b broods log) apart h = heard-stalls (o.ending b.machine) i word j b apart h
  brings-stalls (Some (receive x)) i word j t apart h = h

  shorter-stalls : (b c : Box M) (j : ℕ) → Shorter o k b c → o.ending b.machine ≡ None → stalls j (Some b) ≡ false → stalls j (Some c) ≡ false
  shorter-stalls b c j s lives h =
      subst (λ (d : Box M). stalls j (Some d) ≡ false) (sym s.is_after) (by (o.ending s.to))
    where
      by : (e : Option E) → not (is_some e) && is_full (queue j (kept_by o k e s.words)) ≡ false
      by None =
          full-less o k (length (queue j b.inbox)) (length (queue j s.words)) (s.within j)
          (ap (λ e. not (is_some e) && is_full (queue j b.inbox)) (sym lives) ∙ h)
      by (Some ending) = refl

  -- a child that makes a step
  pub record IsReady (t : Tree (Box M)) : Type 0 where
    pub lives : o.ending (machine t).machine ≡ None
    pub ready : waits (boxed o k) t ≡ false

  pub is-ready : (t : Tree (Box M)) → rests (boxed o k) (Some t) ≡ false → IsReady t
  unfolding boxed
  is-ready t h =
      let both = or_parts (is_some (o.ending (machine t).machine)) (waits (boxed o k) t) h in
      record { lives = lives-none (o.ending (machine t).machine) both.0; ready = both.1 }

  ready-shorter : (t : Tree (Box M)) → IsReady t → Shorter o k (machine t) (machine (step (boxed o k) t))
  unfolding boxed
  ready-shorter (node b broods log) h = step-shorter o k b broods log h.lives h.ready

  pub record Moves (i : ℕ) (trees : Trees (Box M)) (t : Tree (Box M)) : Type 0 where
    pub found : child_at i trees ≡ Some t
    pub ready : IsReady t
    pub speaks : told.waits_by o k (k.talk (machine t).machine) i (machine t) trees ≡ false
    pub steps : sibling_step o k i trees
        ≡ at_child (brings (k.talk (machine t).machine) i (k.word (machine t).machine)) (target (k.talk (machine t).machine))
        (at_child (step (boxed o k)) i trees)

  pub moves-of : (i : ℕ) (trees : Trees (Box M)) (t : Tree (Box M)) → child_at i trees ≡ Some t → IsReady t → sibling_rests o k i trees ≡ false
      → told.waits_by o k (k.talk (machine t).machine) i (machine t) trees ≡ false → Moves i trees t
  moves-of i trees t found ready moves speaks = record {
    found = found;
    ready = ready;
    speaks = speaks;
    steps = ap₂ (λ rest c. sibling_step_by o k rest c i trees) moves found
        ∙ deliver-is (k.talk (machine t).machine) i (k.word (machine t).machine) (at_child (step (boxed o k)) i trees);
  }

  pub moves-by : (c : Option (Tree (Box M))) (i : ℕ) (trees : Trees (Box M)) → child_at i trees ≡ c → sibling_rests_by o k c i trees ≡ false
      → (t : Tree (Box M)) × Moves i trees t
  moves-by None i trees found moves = absurd (cc)
  moves-by (Some t) i trees found moves =
      let both = or_parts (rests (boxed o k) (Some t)) (told.waits_by o k (k.talk (machine t).machine) i (machine t) trees) moves in (
        t,
        moves-of i trees t found (is-ready t both.0) (ap (λ c. sibling_rests_by o k c i trees) found ∙ moves) both.1,
      )

  pub sibling-moves : (i : ℕ) (trees : Trees (Box M)) → sibling_rests o k i trees ≡ false → (t : Tree (Box M)) × Moves i trees t
  sibling-moves i trees moves = moves-by (child_at i trees) i trees refl moves

  pub ready-rests : (t : Tree (Box M)) → IsReady t → rests (boxed o k) (Some t) ≡ false
  unfolding boxed
  ready-rests t h = or_from _ _ (ap is_some h.lives) h.ready

  -- the children after the step of child i, which is `one`
  abbrev pub later : ℕ → Tree (Box M) → Trees (Box M) → Trees (Box M)
  later i one trees =
      at_child (brings (k.talk (machine one).machine) i (k.word (machine one).machine)) (target (k.talk (machine one).machine))
      (at_child (step (boxed o k)) i trees)

  -- what holds of a child after that step
  pub after-one : (i : ℕ) (trees : Trees (Box M)) (one : Tree (Box M)) → Moves i trees one
      → (P : Option (Tree (Box M)) → Type 0) (x : ℕ) → P (child_at x trees)
      → (i ≡ x → P (Some one) → P (Some (step (boxed o k) one)))
      → ((t : Tree (Box M)) → P (Some t) → P (Some (brings (k.talk (machine one).machine) i (k.word (machine one).machine) t)))
      → P (child_at x (later i one trees))
  after-one i trees one a P x h stepped heard =
      child_at-by P (brings (k.talk (machine one).machine) i (k.word (machine one).machine)) (target (k.talk (machine one).machine)) x
      (at_child (step (boxed o k)) i trees)
      (child_at-by P (step (boxed o k)) i x trees h (λ t here found was. own t here found was))
      (λ t here found was. heard t was)
    where
      own : (t : Tree (Box M)) → i ≡ x → child_at x trees ≡ Some t → P (Some t) → P (Some (step (boxed o k) t))
      own t here found was =
          let same : t ≡ one = some-same t one (sym found ∙ ap (λ n. child_at n trees) (sym here) ∙ a.found) in
          subst (λ u. P (Some (step (boxed o k) u))) (sym same) (stepped here (subst (λ u. P (Some u)) same was))

  module _ (i j : ℕ) (apart : i ≢ j) (trees : Trees (Box M)) (one other : Tree (Box M)) (a : Moves i trees one) (b : Moves j trees other) where
    abbrev says : Option Talk
    says = k.talk (machine one).machine

    abbrev said : ℕ
    said = k.word (machine one).machine

    -- child j has heard a word of child i, or nothing
    record Hears (c : Option (Tree (Box M))) : Type 0 where
      to : Tree (Box M)
      is_it : c ≡ Some to
      rest : rests (boxed o k) (Some to) ≡ rests (boxed o k) (Some other)
      alike : (machine to).machine ≡ (machine other).machine
      words : (x : ℕ) → is_empty (queue x (machine other).inbox) ≡ false → is_empty (queue x (machine to).inbox) ≡ false

    brings-words : (what : Option Talk) (x word : ℕ) (t : Tree (Box M)) → is_empty (queue x (machine t).inbox) ≡ false
        → is_empty (queue x (machine (brings what i word t)).inbox) ≡ false
    brings-words None x word t some = some
    brings-words (Some (send y)) x word (node c broods log) some = by (o.ending c.machine)
      where
        by : (e : Option E) → is_empty (queue x (heard_by o k e i word c).inbox) ≡ false
        by None = words-stay word i x c.inbox some
        by (Some ending) = some
    brings-words (Some (receive y)) x word t some = some

    hears : Hears (child_at j (later i one trees))
    hears =
        after-one i trees one a Hears j (record { to = other; is_it = b.found; rest = refl; alike = refl; words = λ x some. some })
        (λ here. absurd (apart here))
        (λ t h. heard t h)
      where
        heard : (t : Tree (Box M)) → Hears (Some t) → Hears (Some (brings says i said t))
        heard t h =
            let same : t ≡ h.to = some-same t h.to h.is_it in
            record {
              to = brings says i said t;
              is_it = refl;
              rest = brings-rests says i said t ∙ ap (λ u. rests (boxed o k) (Some u)) same ∙ h.rest;
              alike = brings-machine says i said t ∙ ap (λ (u : Tree (Box M)). (machine u).machine) same ∙ h.alike;
              words = λ x some. brings-words says x said t (subst (λ (u : Tree (Box M)). is_empty (queue x (machine u).inbox) ≡ false) (sym same) (h.words x some));
            }

    alive : (t : Tree (Box M)) → o.ending (machine t).machine ≡ None → lives_there o k (Some (machine t)) ≡ true
    alive t lives = ap (λ e. not (is_some e)) lives

    dead-later : (x : ℕ) → lives_there o k (box_at o k x trees) ≡ false → lives_there o k (box_at o k x (later i one trees)) ≡ false
    dead-later x dead =
        after-one i trees one a (λ c. lives_there o k (option_map machine c) ≡ false) x dead
        (λ here was. let no : true ≡ false = sym (alive one a.ready.lives) ∙ was in absurd (cc))
        (λ t was. ap (λ m. not (is_some (o.ending m))) (brings-machine says i said t) ∙ was)

    room-later : (x : ℕ) → stalls j (box_at o k x trees) ≡ false → stalls j (box_at o k x (later i one trees)) ≡ false
    room-later x room =
        after-one i trees one a (λ c. stalls j (option_map machine c) ≡ false) x room
        (λ here was. shorter-stalls (machine one) (machine (step (boxed o k) one)) j (ready-shorter one a.ready) a.ready.lives was)
        (λ t was. brings-stalls says i said j t apart was)

    waits-later : (what : Option Talk) → told.waits_by o k what j (machine other) trees ≡ false → told.waits_by o k what j (machine (hears.to)) (later i one trees) ≡ false
    waits-later None h = refl
    waits-later (Some (send x)) h = room-later x h
    waits-later (Some (receive x)) h = by (and_cases (lives_there o k (box_at o k x trees)) (is_empty (queue x (machine other).inbox)) h)
      where
        by : (lives_there o k (box_at o k x trees) ≡ false) ⊎ (is_empty (queue x (machine other).inbox) ≡ false)
            → lives_there o k (box_at o k x (later i one trees)) && is_empty (queue x (machine (hears.to)).inbox) ≡ false
        by (inl dead) = and_left _ _ (dead-later x dead)
        by (inr some) = and_right _ _ (hears.words x some)

    later-moves : sibling_rests_by o k (Some (hears.to)) j (later i one trees) ≡ false
    later-moves =
        or_from _ _ (hears.rest ∙ ready-rests other b.ready)
        (ap (λ m. told.waits_by o k (k.talk m) j (machine (hears.to)) (later i one trees)) hears.alike
        ∙ waits-later (k.talk (machine other).machine) b.speaks)

    -- child j can make its step after that of child i
    pub still-moves : sibling_rests o k j (sibling_step o k i trees) ≡ false
    still-moves =
        ap (sibling_rests o k j) a.steps ∙ ap (λ c. sibling_rests_by o k c j (later i one trees)) hears.is_it ∙ later-moves

    finds-word : Finds o k i said (machine other)
    finds-word x talks here = by (and_cases (lives_there o k (box_at o k x trees)) (is_empty (queue x (machine other).inbox)) waits)
      where
        waits : lives_there o k (box_at o k x trees) && is_empty (queue x (machine other).inbox) ≡ false
        waits = ap (λ what. told.waits_by o k what j (machine other) trees) (sym talks) ∙ b.speaks

        by : (lives_there o k (box_at o k x trees) ≡ false) ⊎ (is_empty (queue x (machine other).inbox) ≡ false)
            → is_empty (queue x (machine other).inbox) ≡ false
        by (inl dead) =
            let no : true ≡ false =
            sym (alive one a.ready.lives) ∙ ap (λ c. lives_there o k (option_map machine c)) (sym a.found ∙ ap (λ n. child_at n trees) here) ∙ dead in
            absurd (cc)
        by (inr some) = some

    word-then-step : (t : Tree (Box M)) → t ≡ other → step (boxed o k) (brings says i said t) ≡ brings says i said (step (boxed o k) t)
    word-then-step (node c broods log) same =
        brings-step says i said c broods log
        (λ x talks here. ap (λ (u : Tree (Box M)). is_empty (queue x (machine u).inbox)) same
        ∙ finds-word x (ap (λ (u : Tree (Box M)). k.talk (machine u).machine) (sym same) ∙ talks) here)
        (ap (λ (u : Tree (Box M)). o.ending (machine u).machine) same ∙ b.ready.lives)

    -- the step of child j passes the word of child i
    pub step-passes : at_child (step (boxed o k)) j (at_child (brings says i said) (target says) (at_child (step (boxed o k)) i trees))
        ≡ at_child (brings says i said) (target says) (at_child (step (boxed o k)) j (at_child (step (boxed o k)) i trees))
    step-passes =
        at_child-swap (step (boxed o k)) (brings says i said) j (target says) (at_child (step (boxed o k)) i trees)
        (λ t here found. word-then-step t (some-same t other (sym found ∙ child_at-other (step (boxed o k)) i j trees apart ∙ b.found)))

    -- the step of child j after that of child i
    pub then-other : sibling_step o k j (sibling_step o k i trees)
        ≡ at_child (brings (k.talk (machine other).machine) j (k.word (machine other).machine)) (target (k.talk (machine other).machine)) (at_child (step (boxed o k)) j (later i one trees))
    then-other =
        ap (sibling_step o k j) a.steps
        ∙ ap₂ (λ rest c. sibling_step_by o k rest c j (later i one trees)) (ap (λ c. sibling_rests_by o k c j (later i one trees)) hears.is_it ∙ later-moves) hears.is_it
        ∙ ap (λ m. deliver_by o k (k.talk m) j (k.word m) (at_child (step (boxed o k)) j (later i one trees))) hears.alike
        ∙ deliver-is (k.talk (machine other).machine) j (k.word (machine other).machine) (at_child (step (boxed o k)) j (later i one trees))

  pub siblings-commute : (i j : ℕ) (apart : i ≢ j) (trees : Trees (Box M)) (one other : Tree (Box M)) → Moves i trees one → Moves j trees other
      → sibling_step o k i (sibling_step o k j trees) ≡ sibling_step o k j (sibling_step o k i trees)
  siblings-commute i j apart trees one other a b =
      let f : Tree (Box M) → Tree (Box M) = brings (k.talk (machine one).machine) i (k.word (machine one).machine) in
      let g : Tree (Box M) → Tree (Box M) = brings (k.talk (machine other).machine) j (k.word (machine other).machine) in
      let x : ℕ = target (k.talk (machine one).machine) in
      let y : ℕ = target (k.talk (machine other).machine) in
      let s : Tree (Box M) → Tree (Box M) = step (boxed o k) in
      then-other j i (λ e. apart (sym e)) trees other one b a
      ∙ ap (at_child f x) (step-passes j i (λ e. apart (sym e)) trees other one b a)
      ∙ at_child-swap f g x y (at_child s i (at_child s j trees))
      (λ t here found. brings-swap (k.talk (machine one).machine) (k.talk (machine other).machine) i j (k.word (machine one).machine) (k.word (machine other).machine) t apart)
      ∙ ap (λ (u : Trees (Box M)). at_child g y (at_child f x u)) (at_child-swap s s i j trees (λ t here. absurd (apart here)))
      ∙ ap (at_child g y) (sym (step-passes i j apart trees one other a b))
      ∙ sym (then-other i j apart trees one other a b)
