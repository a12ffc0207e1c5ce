-- A step reads its own machine, what is below it, and of each sibling whether it lives and the queue to it.
use Rattle.std.proofs.Common.{◌≡◌, ℕ, zero, suc, eqb, eqb-true, not, ◌&&◌, ◌||◌, Bool, true, false, cond, refl, sym, ap, ap₂, ◌∙◌, subst, List, [], ◌∷◌, Option, Some, None, IsSome, is_some}
use Rattle.std.proofs.Common.{option_map, option_and_then}
use Rattle.std.proofs.lemmas.Bool.{eqb-false}
use Rattle.forest_tree.specs.Operations.{Operations}
use Rattle.forest_tree.specs.Tree.{Tree, node, Trees, no_tree, Broods, Log, machine, at_child, child_at, brood_of, at_brood, Branch, Path, subtree}
use Rattle.forest_tree.specs.Step.{step, rests}
use Rattle.forest_tree.proofs.Broods.{eqb-same}
use Rattle.forest_tree.proofs.Places.{child_at-same, child_at-other, is-within}
use Rattle.sibling_forest.specs.Talk.{Talk, send, receive, Talks, Inbox, queue, at_queue, Box, boxed}
use Rattle.sibling_forest.specs.Settle.{with_word, is_empty, is_full, box_at, lives_there, is_full_there, waits_by, sibling_rests, sibling_rests_by, heard_by, sibling_step, sibling_step_by, settle}
use Rattle.sibling_forest.specs.Settle.{rests_there, rests_at}
use Rattle.sibling_forest.specs.Laws.{child_number, is_sibling, queue_from, read_of, ReadAlike}
use Rattle.sibling_forest.proofs.Words.{heard-machine}
use Rattle.sibling_forest.proofs.Crossing.{changed-brood}
use Rattle.sibling_forest.proofs.Siblings.{brings, target, deliver-is}
use Rattle.sibling_forest.proofs.Inner.{inner-none}

-- ---- queues

words_of : Option (List ℕ) → List ℕ
words_of None = []
words_of (Some q) = q

queue-is : (k : ℕ) (inbox : Inbox) → queue k inbox ≡ words_of (queue_from k inbox)
unfolding queue queue_from words_of
queue-is k [] = refl
queue-is zero (q ∷ rest) = refl
queue-is (suc zero) (q ∷ rest) = refl
queue-is (suc (suc k)) (q ∷ rest) = queue-is (suc k) rest

queue-at : (f : List ℕ → List ℕ) (k : ℕ) (inbox : Inbox) → queue_from k (at_queue f k inbox) ≡ option_map f (queue_from k inbox)
unfolding queue_from at_queue
queue-at f k [] = refl
queue-at f zero (q ∷ rest) = refl
queue-at f (suc zero) (q ∷ rest) = refl
queue-at f (suc (suc k)) (q ∷ rest) = queue-at f (suc k) rest

abbrev Read : Type 0
Read = Bool × Option (List ℕ)

lives_of : Option Read → Bool
lives_of None = false
lives_of (Some r) = r.0

full_of : Option Read → Bool
full_of None = false
full_of (Some r) = is_full (words_of r.1)

-- what is read of a sibling after a word
hear : Option Talk → ℕ → Read → Read
hear None word r = r
hear (Some (send j)) word r = (r.0, cond r.0 (option_map (with_word word) r.1) r.1)
hear (Some (receive j)) word r = r

same-branch : (b y : Branch) → b.ticket ≡ y.ticket → b.child ≡ y.child → y ≡ b
same-branch b y ticket child = ap₂ (λ (t c : ℕ). record { ticket = t; child = c }) (sym ticket) (sym child)

-- ---- families

module _ {M : Type 0} where
  child-is : (f : Tree M → Tree M) (y x : ℕ) (trees : Trees M)
      → child_at x (at_child f y trees) ≡ cond (eqb y x) (option_map f (child_at x trees)) (child_at x trees)
  child-is f y x trees = by (eqb y x) refl
    where
      by : (same : Bool) → eqb y x ≡ same → child_at x (at_child f y trees) ≡ cond same (option_map f (child_at x trees)) (child_at x trees)
      by true e = ap (λ n. child_at x (at_child f n trees)) (eqb-true y x e) ∙ child_at-same f x trees
      by false e = child_at-other f y x trees (eqb-false y x e)

  root-is : (c : Option (Tree M)) → option_and_then (subtree []) c ≡ c
  unfolding subtree
  root-is None = refl
  root-is (Some u) = refl

  some-cond : (f : Tree M → Tree M) (same : Bool) (a : Tree M) → cond same (option_map f (Some a)) (Some a) ≡ Some (cond same (f a) a)
  some-cond f true a = refl
  some-cond f false a = refl

module _ {M E : Type 0} (o : Operations M E) (k : Talks M) where
  lives-read : (i : ℕ) (c : Option (Tree (Box M))) → lives_there o k (option_map machine c) ≡ lives_of (read_of o i c)
  unfolding lives_of
  lives-read i None = refl
  lives-read i (Some t) = refl

  full-read : (i : ℕ) (c : Option (Tree (Box M))) → is_full_there o k i (option_map machine c) ≡ full_of (read_of o i c)
  unfolding full_of
  full-read i None = refl
  full-read i (Some t) = ap is_full (queue-is i (machine t).inbox)

  heard-read : (e : Option E) (i word : ℕ) (b : Box M)
      → queue_from i (heard_by o k e i word b).inbox
      ≡ cond (not (is_some e)) (option_map (with_word word) (queue_from i b.inbox)) (queue_from i b.inbox)
  heard-read None i word b = queue-at (with_word word) i b.inbox
  heard-read (Some ending) i word b = refl

  brings-read : (what : Option Talk) (i word : ℕ) (t : Tree (Box M)) → read_of o i (Some (brings o k what i word t)) ≡ option_map (hear what word) (read_of o i (Some t))
  unfolding hear
  brings-read None i word t = refl
  brings-read (Some (send j)) i word (node b broods log) =
      ap₂ (λ (lives : Bool) (q : Option (List ℕ)). Some (lives, q)) (ap (λ m. not (is_some (o.ending m))) (heard-machine o k (o.ending b.machine) i word b))
      (heard-read (o.ending b.machine) i word b)
  brings-read (Some (receive j)) i word t = refl

  read-heard : (what : Option Talk) (i word : ℕ) (c : Option (Tree (Box M)))
      → read_of o i (option_map (brings o k what i word) c) ≡ option_map (hear what word) (read_of o i c)
  read-heard what i word None = refl
  read-heard what i word (Some t) = brings-read what i word t

  -- two families are alike in what child i reads
  record Family (i : ℕ) (xs ys : Trees (Box M)) : Type 0 where
    a : Tree (Box M)
    here : child_at i xs ≡ Some a
    there : child_at i ys ≡ Some a
    reads : (j : ℕ) → read_of o i (child_at j ys) ≡ read_of o i (child_at j xs)

  module _ (i : ℕ) (xs ys : Trees (Box M)) (f : Family i xs ys) where
    abbrev what : Option Talk
    what = k.talk (machine f.a).machine

    abbrev word : ℕ
    word = k.word (machine f.a).machine

    lives-alike : (j : ℕ) → lives_there o k (box_at o k j ys) ≡ lives_there o k (box_at o k j xs)
    lives-alike j = lives-read i (child_at j ys) ∙ ap lives_of (f.reads j) ∙ sym (lives-read i (child_at j xs))

    full-alike : (j : ℕ) → is_full_there o k i (box_at o k j ys) ≡ is_full_there o k i (box_at o k j xs)
    full-alike j = full-read i (child_at j ys) ∙ ap full_of (f.reads j) ∙ sym (full-read i (child_at j xs))

    waits-alike : (said : Option Talk) → waits_by o k said i (machine f.a) ys ≡ waits_by o k said i (machine f.a) xs
    waits-alike None = refl
    waits-alike (Some (send j)) = ap₂ (λ p q. p && q) (lives-alike j) (full-alike j)
    waits-alike (Some (receive j)) = ap (λ p. p && is_empty (queue j (machine f.a).inbox)) (lives-alike j)

    family-rests : sibling_rests o k i ys ≡ sibling_rests o k i xs
    family-rests =
        ap (λ c. sibling_rests_by o k c i ys) f.there
        ∙ ap (λ b. rests (boxed o k) (Some f.a) || b) (waits-alike what)
        ∙ sym (ap (λ c. sibling_rests_by o k c i xs) f.here)

    abbrev later : Trees (Box M) → Trees (Box M)
    later trees = at_child (brings o k what i word) (target o k what) (at_child (step (boxed o k)) i trees)

    -- child i after its step
    own-later : (trees : Trees (Box M)) → child_at i trees ≡ Some f.a
        → child_at i (later trees) ≡ Some (cond (eqb (target o k what) i) (brings o k what i word (step (boxed o k) f.a)) (step (boxed o k) f.a))
    own-later trees found =
        child-is (brings o k what i word) (target o k what) i (at_child (step (boxed o k)) i trees)
        ∙ ap (λ c. cond (eqb (target o k what) i) (option_map (brings o k what i word) c) c)
        (child_at-same (step (boxed o k)) i trees ∙ ap (option_map (step (boxed o k))) found)
        ∙ some-cond (brings o k what i word) (eqb (target o k what) i) (step (boxed o k) f.a)

    -- and another
    other-later : (j : ℕ) (trees : Trees (Box M)) → eqb i j ≡ false
        → child_at j (later trees) ≡ cond (eqb (target o k what) j) (option_map (brings o k what i word) (child_at j trees)) (child_at j trees)
    other-later j trees other =
        child-is (brings o k what i word) (target o k what) j (at_child (step (boxed o k)) i trees)
        ∙ ap (λ c. cond (eqb (target o k what) j) (option_map (brings o k what i word) c) c)
        (child_at-other (step (boxed o k)) i j trees (eqb-false i j other))

    heard-alike : (same : Bool) (c d : Option (Tree (Box M))) → read_of o i d ≡ read_of o i c
        → read_of o i (cond same (option_map (brings o k what i word) d) d) ≡ read_of o i (cond same (option_map (brings o k what i word) c) c)
    heard-alike true c d h = read-heard what i word d ∙ ap (option_map (hear what word)) h ∙ sym (read-heard what i word c)
    heard-alike false c d h = h

    later-reads : (j : ℕ) → read_of o i (child_at j (later ys)) ≡ read_of o i (child_at j (later xs))
    later-reads j = by (eqb i j) refl
      where
        by : (same : Bool) → eqb i j ≡ same → read_of o i (child_at j (later ys)) ≡ read_of o i (child_at j (later xs))
        by true e =
            subst (λ n. read_of o i (child_at n (later ys)) ≡ read_of o i (child_at n (later xs))) (eqb-true i j e)
            (ap (read_of o i) (own-later ys f.there ∙ sym (own-later xs f.here)))
        by false e =
            ap (read_of o i) (other-later j ys e)
            ∙ heard-alike (eqb (target o k what) j) (child_at j xs) (child_at j ys) (f.reads j)
            ∙ sym (ap (read_of o i) (other-later j xs e))

    later-is : (trees : Trees (Box M)) → child_at i trees ≡ Some f.a → sibling_rests o k i trees ≡ false → sibling_step o k i trees ≡ later trees
    later-is trees found moves =
        ap₂ (λ rest c. sibling_step_by o k rest c i trees) moves found ∙ deliver-is o k what i word (at_child (step (boxed o k)) i trees)

    stays-is : (trees : Trees (Box M)) → sibling_rests o k i trees ≡ true → sibling_step o k i trees ≡ trees
    stays-is trees rest = ap (λ r. sibling_step_by o k r (child_at i trees) i trees) rest

    family-step : Family i (sibling_step o k i xs) (sibling_step o k i ys)
    family-step = by (sibling_rests o k i xs) refl
      where
        by : (rest : Bool) → sibling_rests o k i xs ≡ rest → Family i (sibling_step o k i xs) (sibling_step o k i ys)
        by true e =
            let x : sibling_step o k i xs ≡ xs = stays-is xs e in
            let y : sibling_step o k i ys ≡ ys = stays-is ys (family-rests ∙ e) in
            record {
              a = f.a;
              here = ap (child_at i) x ∙ f.here;
              there = ap (child_at i) y ∙ f.there;
              reads = λ j. ap (λ trees. read_of o i (child_at j trees)) y ∙ f.reads j ∙ sym (ap (λ trees. read_of o i (child_at j trees)) x);
            }
        by false e =
            let x : sibling_step o k i xs ≡ later xs = later-is xs f.here e in
            let y : sibling_step o k i ys ≡ later ys = later-is ys f.there (family-rests ∙ e) in
            record {
              a = cond (eqb (target o k what) i) (brings o k what i word (step (boxed o k) f.a)) (step (boxed o k) f.a);
              here = ap (child_at i) x ∙ own-later xs f.here;
              there = ap (child_at i) y ∙ own-later ys f.there;
              reads = λ j. ap (λ trees. read_of o i (child_at j trees)) y ∙ later-reads j ∙ sym (ap (λ trees. read_of o i (child_at j trees)) x);
            }

  -- ---- trees

  record Alike (path : Path) (t u : Tree (Box M)) : Type 0 where
    a : Tree (Box M)
    here : subtree path t ≡ Some a
    there : subtree path u ≡ Some a
    siblings : (at : Path) → is_sibling path at ≡ true
        → read_of o (child_number path) (subtree at u) ≡ read_of o (child_number path) (subtree at t)

  family-of : (b : Branch) (x y : Box M) (bs cs : Broods (Box M)) (l m : Log (Box M)) → Alike (b ∷ []) (node x bs l) (node y cs m)
      → Family b.child (brood_of b.ticket bs) (brood_of b.ticket cs)
  unfolding subtree is_sibling child_number
  family-of b x y bs cs l m f = record {
    a = f.a;
    here = sym (root-is (child_at b.child (brood_of b.ticket bs))) ∙ f.here;
    there = sym (root-is (child_at b.child (brood_of b.ticket cs))) ∙ f.there;
    reads = λ j. ap (read_of o b.child) (sym (root-is (child_at j (brood_of b.ticket cs))))
        ∙ f.siblings (record { ticket = b.ticket; child = j } ∷ []) (eqb-same b.ticket)
        ∙ ap (read_of o b.child) (root-is (child_at j (brood_of b.ticket bs)));
  }

  -- the same below a child
  below : (b c : Branch) (path : Path) (x y : Box M) (bs cs : Broods (Box M)) (l m : Log (Box M)) (t u : Tree (Box M))
      → (f : Alike (b ∷ (c ∷ path)) (node x bs l) (node y cs m))
      → child_at b.child (brood_of b.ticket bs) ≡ Some t → subtree (c ∷ path) t ≡ Some f.a
      → child_at b.child (brood_of b.ticket cs) ≡ Some u → subtree (c ∷ path) u ≡ Some f.a → Alike (c ∷ path) t u
  unfolding subtree is_sibling child_number
  below b c path x y bs cs l m t u f left here right there = record {
    a = f.a;
    here = here;
    there = there;
    siblings = λ at sibling.
        ap (λ d. read_of o (child_number (c ∷ path)) (option_and_then (subtree at) d)) (sym right)
        ∙ f.siblings (b ∷ at) (ap₂ (λ s d. s && d && is_sibling (c ∷ path) at) (eqb-same b.ticket) (eqb-same b.child) ∙ sibling)
        ∙ ap (λ d. read_of o (child_number (c ∷ path)) (option_and_then (subtree at) d)) left;
  }

  -- and above one
  above : (b c : Branch) (path : Path) (x y : Box M) (bs cs : Broods (Box M)) (l m : Log (Box M)) {v w : Tree (Box M)}
      → child_at b.child (brood_of b.ticket bs) ≡ Some v → child_at b.child (brood_of b.ticket cs) ≡ Some w → Alike (c ∷ path) v w
      → Alike (b ∷ (c ∷ path)) (node x bs l) (node y cs m)
  unfolding subtree is_sibling child_number
  above b c path x y bs cs l m {v} {w} left right g = record {
    a = g.a;
    here = ap (option_and_then (subtree (c ∷ path))) left ∙ g.here;
    there = ap (option_and_then (subtree (c ∷ path))) right ∙ g.there;
    siblings = λ at sibling. by at sibling;
  }
    where
      inside : (z : Branch) (at : Path) (ticket child : Bool) → eqb b.ticket z.ticket ≡ ticket → eqb b.child z.child ≡ child
          → ticket && child && is_sibling (c ∷ path) at ≡ true
          → read_of o (child_number (c ∷ path)) (subtree (z ∷ at) (node y cs m)) ≡ read_of o (child_number (c ∷ path)) (subtree (z ∷ at) (node x bs l))
      inside z at true true ticket child sibling =
          let same : z ≡ b = same-branch b z (eqb-true b.ticket z.ticket ticket) (eqb-true b.child z.child child) in
          ap (λ (d : Branch). read_of o (child_number (c ∷ path)) (subtree (d ∷ at) (node y cs m))) same
          ∙ ap (λ d. read_of o (child_number (c ∷ path)) (option_and_then (subtree at) d)) right
          ∙ g.siblings at sibling
          ∙ sym (ap (λ d. read_of o (child_number (c ∷ path)) (option_and_then (subtree at) d)) left)
          ∙ sym (ap (λ (d : Branch). read_of o (child_number (c ∷ path)) (subtree (d ∷ at) (node x bs l))) same)
      inside z at true false ticket child sibling = absurd (cc)
      inside z at false child ticket other sibling = absurd (cc)

      by : (at : Path) → is_sibling (b ∷ (c ∷ path)) at ≡ true
          → read_of o (child_number (b ∷ (c ∷ path))) (subtree at (node y cs m)) ≡ read_of o (child_number (b ∷ (c ∷ path))) (subtree at (node x bs l))
      by [] sibling = absurd (cc)
      by (z ∷ at) sibling = inside z at (eqb b.ticket z.ticket) (eqb b.child z.child) refl refl sibling

  alike-rests : (path : Path) (t u : Tree (Box M)) → Alike path t u → rests_at o k path u ≡ rests_at o k path t
  unfolding rests_at subtree
  alike-rests [] t u f = ap (rests (boxed o k)) (f.there ∙ sym f.here)
  alike-rests (b ∷ []) (node x bs l) (node y cs m) f = family-rests b.child (brood_of b.ticket bs) (brood_of b.ticket cs) (family-of b x y bs cs l m f)
  alike-rests (b ∷ (c ∷ path)) (node x bs l) (node y cs m) f =
      let t = is-within (boxed o k) (c ∷ path) (child_at b.child (brood_of b.ticket bs)) f.a f.here in
      let u = is-within (boxed o k) (c ∷ path) (child_at b.child (brood_of b.ticket cs)) f.a f.there in
      ap (rests_there (rests_at o k (c ∷ path))) u.1
      ∙ alike-rests (c ∷ path) t.0 u.0 (below b c path x y bs cs l m t.0 u.0 f t.1 t.2 u.1 u.2)
      ∙ sym (ap (rests_there (rests_at o k (c ∷ path))) t.1)

  -- a child of the ticket after a change of it
  child-after : (g : Trees (Box M) → Trees (Box M)) → g no_tree ≡ no_tree → (b y : Branch) (bs : Broods (Box M)) → b.ticket ≡ y.ticket
      → option_and_then (subtree []) (child_at y.child (brood_of y.ticket (at_brood g b.ticket bs))) ≡ child_at y.child (g (brood_of b.ticket bs))
  child-after g none b y bs ticket =
      root-is (child_at y.child (brood_of y.ticket (at_brood g b.ticket bs)))
      ∙ ap (λ n. child_at y.child (brood_of n (at_brood g b.ticket bs))) (sym ticket)
      ∙ ap (child_at y.child) (changed-brood g none b.ticket bs)

  inner-after : (g : Tree (Box M) → Tree (Box M)) (b : Branch) (bs : Broods (Box M)) (t : Tree (Box M)) → at_child g b.child no_tree ≡ no_tree
      → child_at b.child (brood_of b.ticket bs) ≡ Some t → child_at b.child (brood_of b.ticket (at_brood (at_child g b.child) b.ticket bs)) ≡ Some (g t)
  inner-after g b bs t none found =
      ap (child_at b.child) (changed-brood (at_child g b.child) none b.ticket bs)
      ∙ child_at-same g b.child (brood_of b.ticket bs) ∙ ap (option_map g) found

  alike-settle : (path : Path) (t u : Tree (Box M)) → Alike path t u → Alike path (settle o k path t) (settle o k path u)
  unfolding settle subtree is_sibling child_number
  alike-settle [] t u f = record {
    a = step (boxed o k) f.a;
    here = ap (option_map (step (boxed o k))) f.here;
    there = ap (option_map (step (boxed o k))) f.there;
    siblings = λ at sibling. absurd (cc);
  }
  alike-settle (b ∷ []) (node x bs l) (node y cs m) f =
      let g = family-step b.child (brood_of b.ticket bs) (brood_of b.ticket cs) (family-of b x y bs cs l m f) in
      record {
        a = g.a;
        here = child-after (sibling_step o k b.child) (inner-none o k [] b.child) b b bs refl ∙ g.here;
        there = child-after (sibling_step o k b.child) (inner-none o k [] b.child) b b cs refl ∙ g.there;
        siblings = λ at sibling. by g at sibling;
      }
    where
      by : Family b.child (sibling_step o k b.child (brood_of b.ticket bs)) (sibling_step o k b.child (brood_of b.ticket cs))
          → (at : Path) → is_sibling (b ∷ []) at ≡ true
          → read_of o b.child (subtree at (node y (at_brood (sibling_step o k b.child) b.ticket cs) m))
          ≡ read_of o b.child (subtree at (node x (at_brood (sibling_step o k b.child) b.ticket bs) l))
      by g [] sibling = absurd (cc)
      by g (z ∷ []) sibling =
          let ticket : b.ticket ≡ z.ticket = eqb-true b.ticket z.ticket sibling in
          ap (read_of o b.child) (child-after (sibling_step o k b.child) (inner-none o k [] b.child) b z cs ticket)
          ∙ g.reads z.child
          ∙ sym (ap (read_of o b.child) (child-after (sibling_step o k b.child) (inner-none o k [] b.child) b z bs ticket))
      by g (z ∷ (w ∷ at)) sibling = absurd (cc)
  alike-settle (b ∷ (c ∷ path)) (node x bs l) (node y cs m) f =
      let t = is-within (boxed o k) (c ∷ path) (child_at b.child (brood_of b.ticket bs)) f.a f.here in
      let u = is-within (boxed o k) (c ∷ path) (child_at b.child (brood_of b.ticket cs)) f.a f.there in
      above b c path x y (at_brood (at_child (settle o k (c ∷ path)) b.child) b.ticket bs)
      (at_brood (at_child (settle o k (c ∷ path)) b.child) b.ticket cs) l m
      (inner-after (settle o k (c ∷ path)) b bs t.0 (inner-none o k (c ∷ path) b.child) t.1)
      (inner-after (settle o k (c ∷ path)) b cs u.0 (inner-none o k (c ∷ path) b.child) u.1)
      (alike-settle (c ∷ path) t.0 u.0 (below b c path x y bs cs l m t.0 u.0 f t.1 t.2 u.1 u.2))

  -- as the law says it
  to-alike : (path : Path) (t u : Tree (Box M)) → ReadAlike o path t u → Alike path t u
  to-alike path t u h = by (subtree path t) refl
    where
      by : (c : Option (Tree (Box M))) → subtree path t ≡ c → Alike path t u
      by None e = let no : IsSome {T = Tree (Box M)} None = subst IsSome e h.there in absurd (cc)
      by (Some a) e = record { a = a; here = e; there = h.own ∙ e; siblings = h.siblings }

  from-alike : (path : Path) (t u : Tree (Box M)) → Alike path t u → ReadAlike o path t u
  from-alike path t u f = record { there = subst IsSome (sym f.here) refl; own = f.there ∙ sym f.here; siblings = f.siblings }

  pub read-rests : (path : Path) (t u : Tree (Box M)) → ReadAlike o path t u → rests_at o k path u ≡ rests_at o k path t
  read-rests path t u h = alike-rests path t u (to-alike path t u h)

  pub read-settle : (path : Path) (t u : Tree (Box M)) → ReadAlike o path t u → ReadAlike o path (settle o k path t) (settle o k path u)
  read-settle path t u h = from-alike path (settle o k path t) (settle o k path u) (alike-settle path t u (to-alike path t u h))
