-- A step of a machine that lives after it leaves waiting each sibling that its talk does not name.
use Rattle.std.proofs.Common.{◌≡◌, ◌≢◌, ℕ, eqb, eqb-true, not, ◌&&◌, ◌||◌, ◌⊎◌, inl, inr, Bool, true, false, refl, sym, ap, ap₂, ◌∙◌, subst, List, [], ◌∷◌, Option, Some, None, is_some, option_map}
use Rattle.std.proofs.Common.{option_and_then}
use Rattle.std.proofs.lemmas.Bool.{and_parts, or_cases, or_left, or_right}
use Rattle.forest_tree.specs.Operations.{Call, clone, join, kill, Operations}
use Rattle.forest_tree.specs.Tree.{Tree, node, Trees, Broods, brood, Log, joined, killed, machine, at_child, child_at, brood_of, without, at_brood, Branch, Path, subtree}
use Rattle.forest_tree.specs.Step.{have_ended, endings, children, settled, join_by, step_by, step, rests}
use Rattle.forest_tree.specs.Step as own
use Rattle.forest_tree.proofs.Sound.{machine-settled}
use Rattle.forest_tree.proofs.Steps.{step-lives}
use Rattle.forest_tree.proofs.Places.{some-same, child_at-same, child_at-other, is-within}
use Rattle.sibling_forest.specs.Talk.{Talk, send, receive, peer, Talks, Inbox, queue, at_queue, first_taken, Box, kept_by, after, after_receive, advance_by, boxed}
use Rattle.sibling_forest.specs.Settle.{is_empty, is_full, box_at, lives_there, is_full_there, waits_by, sibling_rests, sibling_rests_by, sibling_step, sibling_step_by, settle, rests_there, rests_at}
use Rattle.sibling_forest.specs.Laws.{child_number, is_sibling}
use Rattle.sibling_forest.proofs.Families.{at_child-id}
use Rattle.sibling_forest.proofs.Queues.{queue-other}
use Rattle.sibling_forest.proofs.Crossing.{changed-brood}
use Rattle.sibling_forest.proofs.Siblings.{brings, target, brings-machine, IsReady, Moves, sibling-moves, later, after-one}
use Rattle.sibling_forest.proofs.Inner.{inner-none}
use Rattle.sibling_forest.proofs.Wakes.{brings-full}

module _ {M E : Type 0} (o : Operations M E) (k : Talks M) where
  -- after a step a box has the queue from child i that it had, but for the end of its machine
  record SameQueue (i : ℕ) (b c : Box M) : Type 0 where
    to : M
    words : Inbox
    is_after : c ≡ after o k to words
    same : queue i words ≡ queue i b.inbox

  settled-queue : (i : ℕ) (b : Box M) (n : M) (broods : Broods (Box M)) (log : Log (Box M))
      → SameQueue i b (machine (settled (boxed o k) (after o k n b.inbox) broods log))
  settled-queue i b n broods log =
      record { to = n; words = b.inbox; is_after = machine-settled (boxed o k) (after o k n b.inbox) broods log; same = refl }

  receive-queue : (i : ℕ) (b : Box M) (j : ℕ) (q : List ℕ) → j ≢ i → SameQueue i b (after_receive o k q j b)
  receive-queue i b j [] apart = record { to = k.received b.machine None; words = b.inbox; is_after = refl; same = refl }
  receive-queue i b j (first ∷ rest) apart = record {
    to = k.received b.machine (Some first);
    words = at_queue first_taken j b.inbox;
    is_after = refl;
    same = queue-other first_taken j i b.inbox apart;
  }

  abbrev NotNamed : ℕ → Option Talk → Type 0
  NotNamed i what = (said : Talk) → what ≡ Some said → peer said ≢ i

  advance-queue : (i : ℕ) (b : Box M) (what : Option Talk) → NotNamed i what → SameQueue i b (advance_by o k what b)
  advance-queue i b None names = record { to = o.advance b.machine; words = b.inbox; is_after = refl; same = refl }
  advance-queue i b (Some (send j)) names = record { to = o.advance b.machine; words = b.inbox; is_after = refl; same = refl }
  advance-queue i b (Some (receive j)) names = receive-queue i b j (queue j b.inbox) (names (receive j) refl)

  step_by-queue : (i : ℕ) (next : Option Call) (b : Box M) (broods : Broods (Box M)) (log : Log (Box M)) → NotNamed i (k.talk b.machine)
      → own.waits_by (boxed o k) next broods ≡ false → SameQueue i b (machine (step_by (boxed o k) next b broods log))
  unfolding boxed
  step_by-queue i None b broods log names ready =
      let s = advance-queue i b (k.talk b.machine) names in
      record {
        to = s.to;
        words = s.words;
        is_after = machine-settled (boxed o k) (advance_by o k (k.talk b.machine) b) broods log ∙ s.is_after;
        same = s.same;
      }
  step_by-queue i (Some (clone t)) b broods log names ready =
      settled-queue i b (o.forked b.machine) (brood t (children (boxed o k) b t) broods) log
  step_by-queue i (Some (join t)) b broods log names ready = by (have_ended (boxed o k) (brood_of t broods)) ready
    where
      by : (over : Bool) → not over ≡ false → SameQueue i b (machine (join_by (boxed o k) over t b broods log))
      by false h = absurd (cc)
      by true h =
          settled-queue i b (o.after_join b.machine (endings (boxed o k) (brood_of t broods))) (without t broods) (joined log t (brood_of t broods))
  step_by-queue i (Some (kill t)) b broods log names ready =
      settled-queue i b (o.after_kill b.machine) (without t broods) (killed log t (o.grant b.machine t).children)

  step-queue : (i : ℕ) (c : Tree (Box M)) → IsReady o k c → NotNamed i (k.talk (machine c).machine) → SameQueue i (machine c) (machine (step (boxed o k) c))
  unfolding boxed
  step-queue i (node b broods log) ready names =
      subst (λ t. SameQueue i b (machine t)) (sym (step-lives (boxed o k) b broods log (o.call b.machine) ready.lives refl))
      (step_by-queue i (o.call b.machine) b broods log names ready.ready)

  queue-stays : (i : ℕ) (c : Tree (Box M)) → IsReady o k c → NotNamed i (k.talk (machine c).machine)
      → o.ending (machine (step (boxed o k) c)).machine ≡ None → queue i (machine (step (boxed o k) c)).inbox ≡ queue i (machine c).inbox
  queue-stays i c ready names lives =
      let s = step-queue i c ready names in
      ap (λ (b : Box M). queue i b.inbox) s.is_after
      ∙ ap (λ e. queue i (kept_by o k e s.words)) (ap (λ (b : Box M). o.ending b.machine) (sym s.is_after) ∙ lives)
      ∙ s.same

  -- the siblings after the step of child j
  module _ (i j : ℕ) (other : i ≢ j) (trees : Trees (Box M)) (one : Tree (Box M)) (m : Moves o k j trees one)
      (lives : o.ending (machine (step (boxed o k) one)).machine ≡ None) (names : NotNamed i (k.talk (machine one).machine)) where
    abbrev then : Trees (Box M)
    then = later o k j one trees

    lives-on : (x : ℕ) → lives_there o k (box_at o k x trees) ≡ true → lives_there o k (box_at o k x then) ≡ true
    lives-on x h =
        after-one o k j trees one m (λ c. lives_there o k (option_map machine c) ≡ true) x h
        (λ here was. ap (λ e. not (is_some e)) lives)
        (λ t was. ap (λ n. not (is_some (o.ending n))) (brings-machine o k (k.talk (machine one).machine) j (k.word (machine one).machine) t) ∙ was)

    full-on : (x : ℕ) → is_full_there o k i (box_at o k x trees) ≡ true → is_full_there o k i (box_at o k x then) ≡ true
    full-on x h =
        after-one o k j trees one m (λ c. is_full_there o k i (option_map machine c) ≡ true) x h
        (λ here was. ap is_full (queue-stays i one m.ready names lives) ∙ was)
        (λ t was. brings-full o k (k.talk (machine one).machine) i j (k.word (machine one).machine) t other ∙ was)

    to-other : (what : Option Talk) → NotNamed i what → (word : ℕ) (left : Trees (Box M))
        → child_at i (at_child (brings o k what j word) (target o k what) left) ≡ child_at i left
    to-other None apart word left = ap (child_at i) (at_child-id 0 left)
    to-other (Some (send x)) apart word left = child_at-other (brings o k (Some (send x)) j word) x i left (apart (send x) refl)
    to-other (Some (receive x)) apart word left = ap (child_at i) (at_child-id 0 left)

    stays-there : child_at i then ≡ child_at i trees
    stays-there =
        to-other (k.talk (machine one).machine) names (k.word (machine one).machine) (at_child (step (boxed o k)) j trees)
        ∙ child_at-other (step (boxed o k)) j i trees (λ e. other (sym e))

    waits-still : (what : Option Talk) (b : Box M) → waits_by o k what i b trees ≡ true → waits_by o k what i b then ≡ true
    waits-still None b h = absurd (cc)
    waits-still (Some (send x)) b h =
        let both = and_parts (lives_there o k (box_at o k x trees)) (is_full_there o k i (box_at o k x trees)) h in
        ap₂ (λ p q. p && q) (lives-on x both.0) (full-on x both.1)
    waits-still (Some (receive x)) b h =
        let both = and_parts (lives_there o k (box_at o k x trees)) (is_empty (queue x b.inbox)) h in
        ap₂ (λ p q. p && q) (lives-on x both.0) both.1

    sibling-still : (a : Tree (Box M)) → child_at i trees ≡ Some a → sibling_rests o k i trees ≡ true → sibling_rests o k i then ≡ true
    sibling-still a found h =
        ap (λ c. sibling_rests_by o k c i then) (stays-there ∙ found)
        ∙ by (or_cases (rests (boxed o k) (Some a)) (waits_by o k (k.talk (machine a).machine) i (machine a) trees)
        (ap (λ c. sibling_rests_by o k c i trees) (sym found) ∙ h))
      where
        by : (rests (boxed o k) (Some a) ≡ true) ⊎ (waits_by o k (k.talk (machine a).machine) i (machine a) trees ≡ true)
            → rests (boxed o k) (Some a) || waits_by o k (k.talk (machine a).machine) i (machine a) then ≡ true
        by (inl rest) = or_left _ _ rest
        by (inr waiting) = or_right _ _ (waits-still (k.talk (machine a).machine) (machine a) waiting)

  -- the same of a step that may be made or not
  family-still : (i j : ℕ) → i ≢ j → (trees : Trees (Box M)) (a c : Tree (Box M)) → child_at i trees ≡ Some a → child_at j trees ≡ Some c
      → o.ending (machine (step (boxed o k) c)).machine ≡ None → NotNamed i (k.talk (machine c).machine)
      → sibling_rests o k i trees ≡ true → sibling_rests o k i (sibling_step o k j trees) ≡ true
  family-still i j other trees a c here there lives names h = by (sibling_rests o k j trees) refl
    where
      by : (rest : Bool) → sibling_rests o k j trees ≡ rest → sibling_rests o k i (sibling_step o k j trees) ≡ true
      by true e = ap (sibling_rests o k i) (ap (λ rest. sibling_step_by o k rest (child_at j trees) j trees) e) ∙ h
      by false e =
          let m = sibling-moves o k j trees e in
          let same : c ≡ m.0 = some-same c m.0 (sym there ∙ (m.1).found) in
          ap (sibling_rests o k i) (m.1).steps
          ∙ sibling-still i j other trees m.0 m.1 (subst (λ (u : Tree (Box M)). o.ending (machine (step (boxed o k) u)).machine ≡ None) same lives)
          (subst (λ (u : Tree (Box M)). NotNamed i (k.talk (machine u).machine)) same names) a here h

  -- in a tree
  abbrev Still : Path → Path → Tree (Box M) → Type 0
  Still q p t = (a c : Tree (Box M)) → subtree q t ≡ Some a → subtree p t ≡ Some c → o.ending (machine (step (boxed o k) c)).machine ≡ None
      → NotNamed (child_number q) (k.talk (machine c).machine) → rests_at o k q t ≡ true → rests_at o k q (settle o k p t) ≡ true

  one-family : (b y : Branch) (x : Box M) (broods : Broods (Box M)) (log : Log (Box M)) → b.ticket ≡ y.ticket → b.child ≢ y.child
      → Still (b ∷ []) (y ∷ []) (node x broods log)
  unfolding subtree rests_at settle child_number
  one-family b y x broods log ticket apart a c here there lives names h =
      let left = is-within (boxed o k) [] (child_at b.child (brood_of b.ticket broods)) a here in
      let right = is-within (boxed o k) [] (child_at y.child (brood_of y.ticket broods)) c there in
      ap (λ n. sibling_rests o k b.child (brood_of b.ticket (at_brood (sibling_step o k y.child) n broods))) (sym ticket)
      ∙ ap (sibling_rests o k b.child) (changed-brood (sibling_step o k y.child) (inner-none o k [] y.child) b.ticket broods)
      ∙ family-still b.child y.child apart (brood_of b.ticket broods) a c (left.1 ∙ left.2)
      (ap (λ n. child_at y.child (brood_of n broods)) ticket ∙ right.1 ∙ right.2) lives names h

  one-child : (b y d z : Branch) (q p : Path) (x : Box M) (broods : Broods (Box M)) (log : Log (Box M)) → y ≡ b
      → ((u : Tree (Box M)) → Still (d ∷ q) (z ∷ p) u) → Still (b ∷ (d ∷ q)) (y ∷ (z ∷ p)) (node x broods log)
  unfolding subtree rests_at settle child_number
  one-child b y d z q p x broods log same down a c here there lives names h =
      let left = is-within (boxed o k) (d ∷ q) (child_at b.child (brood_of b.ticket broods)) a here in
      let right : option_and_then (subtree (z ∷ p)) (child_at b.child (brood_of b.ticket broods)) ≡ Some c =
      ap (λ (v : Branch). option_and_then (subtree (z ∷ p)) (child_at v.child (brood_of v.ticket broods))) (sym same) ∙ there in
      ap (λ (v : Branch). rests_there (rests_at o k (d ∷ q))
      (child_at b.child (brood_of b.ticket (at_brood (at_child (settle o k (z ∷ p)) v.child) v.ticket broods)))) same
      ∙ ap (λ (trees : Trees (Box M)). rests_there (rests_at o k (d ∷ q)) (child_at b.child trees))
      (changed-brood (at_child (settle o k (z ∷ p)) b.child) (inner-none o k (z ∷ p) b.child) b.ticket broods)
      ∙ ap (rests_there (rests_at o k (d ∷ q)))
      (child_at-same (settle o k (z ∷ p)) b.child (brood_of b.ticket broods) ∙ ap (option_map (settle o k (z ∷ p))) left.1)
      ∙ down left.0 a c left.2 (ap (option_and_then (subtree (z ∷ p))) (sym left.1) ∙ right) lives names
      (ap (rests_there (rests_at o k (d ∷ q))) (sym left.1) ∙ h)

  branch-is : (b y : Branch) → eqb b.ticket y.ticket ≡ true → eqb b.child y.child ≡ true → y ≡ b
  branch-is b y ticket child =
      ap₂ (λ (t c : ℕ). record { ticket = t; child = c }) (sym (eqb-true b.ticket y.ticket ticket)) (sym (eqb-true b.child y.child child))

  none-above : (d : Branch) (q : Path) → is_sibling (d ∷ q) [] ≡ true → ⊥
  unfolding is_sibling
  none-above d [] h = absurd (cc)
  none-above d (e ∷ q) h = absurd (cc)

  pub still-waits : (q p : Path) (t a c : Tree (Box M)) → is_sibling q p ≡ true → p ≢ q → subtree q t ≡ Some a → subtree p t ≡ Some c
      → o.ending (machine (step (boxed o k) c)).machine ≡ None
      → ((said : Talk) → k.talk (machine c).machine ≡ Some said → peer said ≢ child_number q)
      → rests_at o k q t ≡ true → rests_at o k q (settle o k p t) ≡ true
  unfolding is_sibling
  still-waits [] p t a c sibling apart = absurd (cc)
  still-waits (b ∷ []) [] t a c sibling apart = absurd (cc)
  still-waits (b ∷ []) (y ∷ []) (node x broods log) a c sibling apart =
      let ticket : b.ticket ≡ y.ticket = eqb-true b.ticket y.ticket sibling in
      one-family b y x broods log ticket
      (λ e. apart (ap₂ (λ (t i : ℕ). record { ticket = t; child = i } ∷ []) (sym ticket) (sym e))) a c
  still-waits (b ∷ []) (y ∷ (z ∷ p)) t a c sibling apart = absurd (cc)
  still-waits (b ∷ (d ∷ q)) [] t a c sibling apart = absurd (cc)
  still-waits (b ∷ (d ∷ q)) (y ∷ []) (node x broods log) a c sibling apart = absurd (no (eqb b.ticket y.ticket) (eqb b.child y.child) sibling)
    where
      no : (ticket child : Bool) → ticket && child && is_sibling (d ∷ q) [] ≡ true → ⊥
      no true true h = none-above d q h
      no true false h = absurd (cc)
      no false child h = absurd (cc)
  still-waits (b ∷ (d ∷ q)) (y ∷ (z ∷ p)) (node x broods log) a c sibling apart =
      by (eqb b.ticket y.ticket) refl (eqb b.child y.child) refl sibling
      (λ u below other v w. still-waits (d ∷ q) (z ∷ p) u v w below other)
    where
      by : (ticket : Bool) → eqb b.ticket y.ticket ≡ ticket → (child : Bool) → eqb b.child y.child ≡ child
          → ticket && child && is_sibling (d ∷ q) (z ∷ p) ≡ true
          → ((u : Tree (Box M)) → is_sibling (d ∷ q) (z ∷ p) ≡ true → (z ∷ p) ≢ (d ∷ q) → Still (d ∷ q) (z ∷ p) u)
          → subtree (b ∷ (d ∷ q)) (node x broods log) ≡ Some a → subtree (y ∷ (z ∷ p)) (node x broods log) ≡ Some c
          → o.ending (machine (step (boxed o k) c)).machine ≡ None
          → NotNamed (child_number (b ∷ (d ∷ q))) (k.talk (machine c).machine)
          → rests_at o k (b ∷ (d ∷ q)) (node x broods log) ≡ true → rests_at o k (b ∷ (d ∷ q)) (settle o k (y ∷ (z ∷ p)) (node x broods log)) ≡ true
      by true ticket true child below down =
          one-child b y d z q p x broods log (branch-is b y ticket child)
          (λ u. down u below (λ e. apart (ap₂ (λ (v : Branch) (w : Path). v ∷ w) (branch-is b y ticket child) e))) a c
      by true ticket false child below down = absurd (cc)
      by false ticket child other below down = absurd (cc)
