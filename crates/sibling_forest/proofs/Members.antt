-- A step keeps the queues of each brood: one for each ordered pair of its members, of at most 8 words, and none to one that has ended.
use Rattle.std.proofs.Common.{◌≡◌, ◌≢◌, ℕ, zero, suc, ◌+◌, ◌<◌, ◌≤◌, Bool, true, false, cond, eqb, not, ◌&&◌, refl, sym, ap, ◌∙◌, subst, arith, List, [], ◌∷◌, length, length-append, replicate, Option}
use Rattle.std.proofs.Common.{Some, None, IsSome, is_some, option_map, inl, inr}
use Rattle.std.proofs.lemmas.Bool.{leb-false}
use Rattle.forest_tree.specs.Operations.{Call, clone, join, kill, Grant, Operations, Makes, IsMachine}
use Rattle.forest_tree.specs.Tree.{Tree, node, Trees, no_tree, tree, Broods, no_brood, brood, Log, joined, killed, machine, size, at_child, child_at, brood_of, without, at_brood, Path}
use Rattle.forest_tree.specs.Step.{have_ended, endings, alone, children_from, children, settled_by, settled, join_by, step_by, step}
use Rattle.forest_tree.specs.Sound.{IsSound, AreSound, Hold}
use Rattle.forest_tree.proofs.Broods.{size-at_child}
use Rattle.forest_tree.proofs.Sound.{root-sound, below-sound, machine-settled, size-children_from, start-sound}
use Rattle.forest_tree.proofs.Steps.{cases-ending, step-ended, step-lives}
use Rattle.forest_tree.proofs.Places.{some-same, child_at-other}
use Rattle.sibling_forest.specs.Talk.{Talk, send, receive, Talks, Inbox, queue, at_queue, emptied, first_taken, Box, kept_by, after, after_receive, advance_by, born_by, boxed, HasNumberOf, IsTalking}
use Rattle.sibling_forest.specs.Settle.{with_word, is_full, lives_there, is_full_there, waits_by, heard_by, delivered, sibling_rests, sibling_rests_by, sibling_step_by, sibling_step, settle}
use Rattle.sibling_forest.specs.Members.{IsMember, HaveMembers, BroodsHave, AreMembers, IsWholeForest}
use Rattle.sibling_forest.proofs.Queues.{queue-other}
use Rattle.sibling_forest.proofs.Siblings.{brings, target, Moves, moves-by}
use Rattle.sibling_forest.proofs.Sound.{sibling_step-size, settle-keeps}
use Rattle.sibling_forest.proofs.Meets.{below-stays}
use Rattle.sibling_forest.proofs.MemberAt.{member-found}

-- lists of queues
length-emptied : (inbox : Inbox) → length (emptied inbox) ≡ length inbox
unfolding emptied
length-emptied [] = refl
length-emptied (q ∷ rest) = ap suc (length-emptied rest)

emptied-twice : (inbox : Inbox) → emptied inbox ≡ emptied (emptied inbox)
unfolding emptied
emptied-twice [] = refl
emptied-twice (q ∷ rest) = ap (λ (r : Inbox). [] ∷ r) (emptied-twice rest)

emptied-queue : (i : ℕ) (inbox : Inbox) → queue i (emptied inbox) ≡ []
unfolding emptied queue
emptied-queue i [] = refl
emptied-queue zero (q ∷ rest) = refl
emptied-queue (suc zero) (q ∷ rest) = refl
emptied-queue (suc (suc i)) (q ∷ rest) = emptied-queue (suc i) rest

length-at : (f : List ℕ → List ℕ) (i : ℕ) (inbox : Inbox) → length (at_queue f i inbox) ≡ length inbox
unfolding at_queue
length-at f i [] = refl
length-at f zero (q ∷ rest) = refl
length-at f (suc zero) (q ∷ rest) = refl
length-at f (suc (suc i)) (q ∷ rest) = ap suc (length-at f (suc i) rest)

within-at : (f : List ℕ → List ℕ) (i j : ℕ) (inbox : Inbox) → length (f (queue i inbox)) ≤ 8 → length (queue j inbox) ≤ 8
    → length (queue j (at_queue f i inbox)) ≤ 8
unfolding at_queue queue
within-at f i j [] fits h = h
within-at f zero j (q ∷ rest) fits h = h
within-at f (suc zero) zero (q ∷ rest) fits h = h
within-at f (suc zero) (suc zero) (q ∷ rest) fits h = fits
within-at f (suc zero) (suc (suc j)) (q ∷ rest) fits h = h
within-at f (suc (suc i)) zero (q ∷ rest) fits h = h
within-at f (suc (suc i)) (suc zero) (q ∷ rest) fits h = h
within-at f (suc (suc i)) (suc (suc j)) (q ∷ rest) fits h = within-at f (suc i) (suc j) rest fits h

shorter : (q : List ℕ) → length q ≤ 8 → length (first_taken q) ≤ 8
shorter [] h = h
shorter (word ∷ rest) h = omega arith

no-words : (q : List ℕ) → q ≡ [] → length q ≤ 8
no-words [] e = omega arith
no-words (word ∷ rest) e = absurd (cc)

taken-own : (i j : ℕ) (inbox : Inbox) → queue i inbox ≡ [] → queue i (at_queue first_taken j inbox) ≡ []
unfolding at_queue queue
taken-own i j [] h = h
taken-own i zero (q ∷ rest) h = h
taken-own zero (suc zero) (q ∷ rest) h = refl
taken-own (suc zero) (suc zero) (q ∷ rest) h = ap first_taken h
taken-own (suc (suc i)) (suc zero) (q ∷ rest) h = h
taken-own zero (suc (suc j)) (q ∷ rest) h = refl
taken-own (suc zero) (suc (suc j)) (q ∷ rest) h = h
taken-own (suc (suc i)) (suc (suc j)) (q ∷ rest) h = taken-own (suc i) (suc j) rest h

none-queue : (n i : ℕ) → queue i (replicate n []) ≡ []
unfolding queue
none-queue zero i = refl
none-queue (suc n) zero = refl
none-queue (suc n) (suc zero) = refl
none-queue (suc n) (suc (suc i)) = none-queue n (suc i)

none-emptied : (n : ℕ) → replicate n [] ≡ emptied (replicate n [])
unfolding emptied
none-emptied zero = refl
none-emptied (suc n) = ap (λ (r : Inbox). [] ∷ r) (none-emptied n)

none-length : (n : ℕ) → length {A = List ℕ} (replicate n []) ≡ n
none-length zero = refl
none-length (suc n) = ap suc (none-length n)

module _ {M E : Type 0} (o : Operations M E) (k : Talks M) where
  -- what holds of the words to a member
  record Fits (count i : ℕ) (words : Inbox) : Type 0 where
    one_each : length words ≡ count
    within : (j : ℕ) → length (queue j words) ≤ 8
    own : queue i words ≡ []

  fits : (count i : ℕ) (b : Box M) → IsMember o k count i b → Fits count i b.inbox
  fits count i b m = record { one_each = m.one_each; within = m.within; own = m.own }

  fits-taken : (count i j : ℕ) (words : Inbox) → Fits count i words → Fits count i (at_queue first_taken j words)
  fits-taken count i j words m = record {
    one_each = length-at first_taken j words ∙ m.one_each;
    within = λ x. within-at first_taken j x words (shorter (queue j words) (m.within j)) (m.within x);
    own = taken-own i j words m.own;
  }

  member-by : (e : Option E) (count i : ℕ) (n : M) (words : Inbox) → o.ending n ≡ e → k.number n ≡ i → k.siblings n ≡ count → Fits count i words
      → IsMember o k count i (record { machine = n; inbox = kept_by o k e words })
  member-by None count i n words e number siblings m = record {
    number = number;
    siblings = siblings;
    one_each = m.one_each;
    within = m.within;
    own = m.own;
    ended = λ ended. let no : IsSome {T = E} None = subst IsSome e ended in absurd (cc);
  }
  member-by (Some ending) count i n words e number siblings m = record {
    number = number;
    siblings = siblings;
    one_each = length-emptied words ∙ m.one_each;
    within = λ j. no-words (queue j (emptied words)) (emptied-queue j words);
    own = emptied-queue i words;
    ended = λ ended. emptied-twice words;
  }

  -- a member after a step of its own
  member-after : (count i : ℕ) (b : Box M) (n : M) (words : Inbox) → IsMember o k count i b → HasNumberOf o k b.machine n → Fits count i words
      → IsMember o k count i (after o k n words)
  member-after count i b n words m same f =
      member-by (o.ending n) count i n words refl (same.number ∙ m.number) (same.siblings ∙ m.siblings) f

  -- a child that is born
  member-born : (count i : ℕ) (n : M) → k.number n ≡ i → k.siblings n ≡ count
      → IsMember o k count i (record { machine = n; inbox = replicate count [] })
  member-born count i n number siblings = record {
    number = number;
    siblings = siblings;
    one_each = none-length count;
    within = λ j. no-words (queue j (replicate count [])) (none-queue count j);
    own = none-queue count i;
    ended = λ ended. none-emptied count;
  }

  -- a member that hears of another
  heard-member : (e : Option E) (count i j word : ℕ) (b : Box M) → o.ending b.machine ≡ e → i ≢ j
      → (e ≡ None → length (queue i b.inbox) < 8) → IsMember o k count j b → IsMember o k count j (heard_by o k e i word b)
  heard-member None count i j word b e other room m =
      let more : length (with_word word (queue i b.inbox)) ≡ length (queue i b.inbox) + 1 = length-append (queue i b.inbox) (word ∷ []) in
      let space : length (queue i b.inbox) < 8 = room refl in
      record {
        number = m.number;
        siblings = m.siblings;
        one_each = length-at (with_word word) i b.inbox ∙ m.one_each;
        within = λ x. within-at (with_word word) i x b.inbox (omega arith) (m.within x);
        own = queue-other (with_word word) i j b.inbox other ∙ m.own;
        ended = λ ended. let no : IsSome {T = E} None = subst IsSome e ended in absurd (cc);
      }
  heard-member (Some ending) count i j word b e other room m = m

  BroodsHave-without-by : (t u : ℕ) (trees : Trees (Box M)) (rest : Broods (Box M)) (same : Bool) → AreMembers o k (size trees) 1 trees → BroodsHave o k rest
      → BroodsHave o k (cond same rest (brood u trees rest))
  unfolding HaveMembers
  BroodsHave-without-by t u trees rest true h left = left
  BroodsHave-without-by t u trees rest false h left = (h, left)

  BroodsHave-without : (t : ℕ) (broods : Broods (Box M)) → BroodsHave o k broods → BroodsHave o k (without t broods)
  unfolding HaveMembers without
  BroodsHave-without t no_brood h = tt
  BroodsHave-without t (brood u trees rest) h = BroodsHave-without-by t u trees (without t rest) (eqb u t) h.0 (BroodsHave-without t rest h.1)

  settled-have : (e : Option E) (b : Box M) (broods : Broods (Box M)) (log : Log (Box M)) → BroodsHave o k broods
      → HaveMembers o k (settled_by (boxed o k) e b broods log)
  unfolding HaveMembers
  settled-have None b broods log h = h
  settled-have (Some ending) b broods log h = tt

  -- a machine's own step: it stays a member, and its broods have theirs
  record Stays (b : Box M) (t : Tree (Box M)) : Type 0 where
    member : (count i : ℕ) → IsMember o k count i b → IsMember o k count i (machine t)
    below : HaveMembers o k t
    root : k.siblings (machine t).machine ≡ k.siblings b.machine

  module _ (rules : IsMachine o) (talking : IsTalking o k) where
    settled-stays : (b c : Box M) (broods : Broods (Box M)) (log : Log (Box M)) → ((count i : ℕ) → IsMember o k count i b → IsMember o k count i c)
        → k.siblings c.machine ≡ k.siblings b.machine
        → BroodsHave o k broods → Stays b (settled (boxed o k) c broods log)
    settled-stays b c broods log member same h = record {
      member = λ count i m. subst (IsMember o k count i) (sym (machine-settled (boxed o k) c broods log)) (member count i m);
      below = settled-have ((boxed o k).ending c) c broods log h;
      root = ap (λ (d : Box M). k.siblings d.machine) (machine-settled (boxed o k) c broods log) ∙ same;
    }

    plain : (b : Box M) (n : M) → HasNumberOf o k b.machine n → (count i : ℕ) → IsMember o k count i b → IsMember o k count i (after o k n b.inbox)
    plain b n same count i m = member-after count i b n b.inbox m same (fits count i b m)

    receive-member : (b : Box M) (j : ℕ) (q : List ℕ) (count i : ℕ) → IsMember o k count i b → IsMember o k count i (after_receive o k q j b)
    receive-member b j [] count i m = plain b (k.received b.machine None) (talking.received_numbers b.machine None) count i m
    receive-member b j (word ∷ rest) count i m =
        member-after count i b (k.received b.machine (Some word)) (at_queue first_taken j b.inbox) m (talking.received_numbers b.machine (Some word))
        (fits-taken count i j b.inbox (fits count i b m))

    advance-member : (b : Box M) (what : Option Talk) (count i : ℕ) → IsMember o k count i b → IsMember o k count i (advance_by o k what b)
    advance-member b None = plain b (o.advance b.machine) (talking.advance_numbers b.machine)
    advance-member b (Some (send j)) = plain b (o.advance b.machine) (talking.advance_numbers b.machine)
    advance-member b (Some (receive j)) = receive-member b j (queue j b.inbox)

    receive-root : (b : Box M) (j : ℕ) (q : List ℕ) → k.siblings (after_receive o k q j b).machine ≡ k.siblings b.machine
    receive-root b j [] = (talking.received_numbers b.machine None).siblings
    receive-root b j (word ∷ rest) = (talking.received_numbers b.machine (Some word)).siblings

    advance-root : (b : Box M) (what : Option Talk) → k.siblings (advance_by o k what b).machine ≡ k.siblings b.machine
    advance-root b None = (talking.advance_numbers b.machine).siblings
    advance-root b (Some (send j)) = (talking.advance_numbers b.machine).siblings
    advance-root b (Some (receive j)) = receive-root b j (queue j b.inbox)

    born-members : (b : Box M) (t : ℕ) → Makes o b.machine (Some (clone t)) → (n from : ℕ) → 1 ≤ from → from + n ≤ suc (o.grant b.machine t).children
        → AreMembers o k (o.grant b.machine t).children from (children_from (boxed o k) b from n)
    unfolding HaveMembers children_from boxed
    born-members b t makes zero from first last = tt
    born-members b t makes (suc n) from first last = (
      subst (λ count. IsMember o k (o.grant b.machine t).children from (record { machine = o.child b.machine from; inbox = replicate count [] })) (sym (born-count b t makes))
          (member-born (o.grant b.machine t).children from (o.child b.machine from)
          (talking.child_number b.machine t from makes first (omega arith)) (talking.child_siblings b.machine t from makes first (omega arith))),
      tt,
      born-members b t makes n (suc from) (omega arith) (omega arith),
    )
      where
        born-count : (b : Box M) (t : ℕ) → Makes o b.machine (Some (clone t)) → born_by o k (o.call b.machine) b.machine ≡ (o.grant b.machine t).children
        born-count b t makes = ap (λ call. born_by o k call b.machine) makes.call

    step_by-stays : (next : Option Call) (b : Box M) (broods : Broods (Box M)) (log : Log (Box M)) → Makes o b.machine next → BroodsHave o k broods
        → Stays b (step_by (boxed o k) next b broods log)
    unfolding boxed HaveMembers
    step_by-stays None b broods log makes h = settled-stays b (advance_by o k (k.talk b.machine) b) broods log (advance-member b (k.talk b.machine)) (advance-root b (k.talk b.machine)) h
    step_by-stays (Some (clone t)) b broods log makes h =
        settled-stays b (after o k (o.forked b.machine) b.inbox) (brood t (children (boxed o k) b t) broods) log
        (plain b (o.forked b.machine) (talking.forked_numbers b.machine)) ((talking.forked_numbers b.machine).siblings) (
          subst (λ count. AreMembers o k count 1 (children (boxed o k) b t)) (sym (size-children_from (boxed o k) b (o.grant b.machine t).children 1))
              (born-members b t makes (o.grant b.machine t).children 1 (omega arith) (omega arith)),
          h,
        )
    step_by-stays (Some (join t)) b broods log makes h = by (have_ended (boxed o k) (brood_of t broods))
      where
        by : (ready : Bool) → Stays b (join_by (boxed o k) ready t b broods log)
        by false = record { member = λ count i m. m; below = h; root = refl }
        by true =
            settled-stays b (after o k (o.after_join b.machine (endings (boxed o k) (brood_of t broods))) b.inbox) (without t broods) (joined log t (brood_of t broods))
            (plain b (o.after_join b.machine (endings (boxed o k) (brood_of t broods))) (talking.join_numbers b.machine (endings (boxed o k) (brood_of t broods))))
            ((talking.join_numbers b.machine (endings (boxed o k) (brood_of t broods))).siblings)
            (BroodsHave-without t broods h)
    step_by-stays (Some (kill t)) b broods log makes h =
        settled-stays b (after o k (o.after_kill b.machine) b.inbox) (without t broods) (killed log t (o.grant b.machine t).children)
        (plain b (o.after_kill b.machine) (talking.kill_numbers b.machine)) ((talking.kill_numbers b.machine).siblings) (BroodsHave-without t broods h)

    step-stays : (t : Tree (Box M)) → IsSound (boxed o k) t → HaveMembers o k t → Stays (machine t) (step (boxed o k) t)
    unfolding boxed HaveMembers
    step-stays (node b broods log) sound h = elim (cases-ending (o.ending b.machine)) [
      | inl ended ↦
          subst (Stays b) (sym (step-ended (boxed o k) b broods log ended.0 ended.1)) (record { member = λ count i m. m; below = h; root = refl })
      | inr lives ↦
          subst (Stays b) (sym (step-lives (boxed o k) b broods log (o.call b.machine) lives refl))
          (step_by-stays (o.call b.machine) b broods log
          (record { good = (root-sound (boxed o k) b broods log sound).good; lives = lives; call = refl }) h)
    ]

    -- a change of one member
    abbrev Keeps : (Tree (Box M) → Tree (Box M)) → ℕ → ℕ → Tree (Box M) → Type 0
    Keeps f count i t = IsMember o k count i (machine t) → HaveMembers o k t → IsMember o k count i (machine (f t)) × HaveMembers o k (f t)

    members-at : (f : Tree (Box M) → Tree (Box M)) (count from j : ℕ) (trees : Trees (Box M))
        → ((t : Tree (Box M)) → child_at (suc j) trees ≡ Some t → Keeps f count (from + j) t)
        → AreMembers o k count from trees → AreMembers o k count from (at_child f (suc j) trees)
    unfolding HaveMembers at_child child_at
    members-at f count from j no_tree keeps h = tt
    members-at f count from zero (tree t rest) keeps h =
        let same : from + 0 ≡ from = omega arith in
        let one = subst (λ n. Keeps f count n t) same (keeps t refl) h.0 h.1 in
        (one.0, one.1, h.2)
    members-at f count from (suc j) (tree t rest) keeps h =
        let same : from + suc j ≡ suc from + j = omega arith in
        (h.0, h.1, members-at f count (suc from) j rest (λ u found. subst (λ n. Keeps f count n u) same (keeps u found)) h.2)

    family-at : (f : Tree (Box M) → Tree (Box M)) (count i : ℕ) (trees : Trees (Box M))
        → ((t : Tree (Box M)) → child_at i trees ≡ Some t → Keeps f count i t)
        → AreMembers o k count 1 trees → AreMembers o k count 1 (at_child f i trees)
    unfolding at_child HaveMembers
    family-at f count zero no_tree keeps h = h
    family-at f count zero (tree t rest) keeps h = h
    family-at f count (suc j) trees keeps h =
        let same : suc j ≡ 1 + j = omega arith in
        members-at f count 1 j trees (λ t found. subst (λ n. Keeps f count n t) same (keeps t found)) h

    and-second : (a b : Bool) → a && b ≡ false → a ≡ true → b ≡ false
    and-second true b h e = h
    and-second false b h e = absurd (cc)

    -- a word that a member sends
    brings-members : (what : Option Talk) (count i : ℕ) (trees : Trees (Box M)) (t : Tree (Box M)) (word : ℕ) → child_at i trees ≡ Some t
        → k.talk (machine t).machine ≡ what → IsMember o k count i (machine t) → waits_by o k what i (machine t) trees ≡ false
        → AreMembers o k count 1 (at_child (step (boxed o k)) i trees)
        → AreMembers o k count 1 (at_child (brings o k what i word) (target o k what) (at_child (step (boxed o k)) i trees))
    unfolding HaveMembers
    brings-members None count i trees t word found talks m speaks h =
        family-at (brings o k None i word) count 0 (at_child (step (boxed o k)) i trees) (λ u there member below. (member, below)) h
    brings-members (Some (receive j)) count i trees t word found talks m speaks h =
        family-at (brings o k (Some (receive j)) i word) count 0 (at_child (step (boxed o k)) i trees) (λ u there member below. (member, below)) h
    brings-members (Some (send j)) count i trees t word found talks m speaks h =
        family-at (delivered o k i word) count j (at_child (step (boxed o k)) i trees) hears h
      where
        other : i ≢ j
        other e = talking.other (machine t).machine (send j) talks (sym e ∙ sym m.number)

        hears : (u : Tree (Box M)) → child_at j (at_child (step (boxed o k)) i trees) ≡ Some u → Keeps (delivered o k i word) count j u
        hears (node b broods log) there member below =
            let here : child_at j trees ≡ Some (node b broods log) = sym (child_at-other (step (boxed o k)) i j trees other) ∙ there in (
              heard-member (o.ending b.machine) count i j word b refl other
                  (λ lives. leb-false 8 (length (queue i b.inbox))
                  (and-second (lives_there o k (Some b)) (is_full (queue i b.inbox))
                  (ap (λ c. lives_there o k (option_map machine c) && is_full_there o k i (option_map machine c)) (sym here) ∙ speaks)
                  (ap (λ e. not (is_some e)) lives)))
                  member,
              below,
            )

    sibling-members : (i : ℕ) (trees : Trees (Box M)) → ((c : Tree (Box M)) → child_at i trees ≡ Some c → IsSound (boxed o k) c)
        → AreMembers o k (size trees) 1 trees → AreMembers o k (size trees) 1 (sibling_step o k i trees)
    sibling-members i trees sound h = by (child_at i trees) refl (sibling_rests o k i trees) refl
      where
        moved : (c : Option (Tree (Box M))) → child_at i trees ≡ c → sibling_rests_by o k c i trees ≡ false
            → AreMembers o k (size trees) 1 (sibling_step o k i trees)
        moved c found moves =
            let a = moves-by o k c i trees found moves in
            let t : Tree (Box M) = a.0 in
            let m : Moves o k i trees t = a.1 in
            let member : IsMember o k (size trees) i (machine t) = member-found o k (size trees) i trees t m.found h in
            subst (AreMembers o k (size trees) 1) (sym m.steps)
            (brings-members (k.talk (machine t).machine) (size trees) i trees t (k.word (machine t).machine) m.found refl member m.speaks
            (family-at (step (boxed o k)) (size trees) i trees
            (λ u there one below. ((step-stays u (sound u there) below).member (size trees) i one, (step-stays u (sound u there) below).below)) h))

        by : (c : Option (Tree (Box M))) → child_at i trees ≡ c → (rest : Bool) → sibling_rests o k i trees ≡ rest
            → AreMembers o k (size trees) 1 (sibling_step o k i trees)
        by c found true e =
            subst (AreMembers o k (size trees) 1) (sym (ap (λ rest. sibling_step_by o k rest (child_at i trees) i trees) e)) h
        by c found false e = moved c found (ap (λ d. sibling_rests_by o k d i trees) (sym found) ∙ e)

    hold-at : (share i : ℕ) (trees : Trees (Box M)) (c : Tree (Box M)) → Hold (boxed o k) share trees → child_at i trees ≡ Some c → IsSound (boxed o k) c
    unfolding IsSound child_at
    hold-at share i no_tree c h found = absurd (cc)
    hold-at share zero (tree t rest) c h found = absurd (cc)
    hold-at share (suc zero) (tree t rest) c h found = subst (IsSound (boxed o k)) (some-same t c found) h.1
    hold-at share (suc (suc i)) (tree t rest) c h found = hold-at share (suc i) rest c h.2 found

    broods-at : (f : Trees (Box M) → Trees (Box M)) → ((trees : Trees (Box M)) → size (f trees) ≡ size trees)
        → ((share : ℕ) (trees : Trees (Box M)) → Hold (boxed o k) share trees → AreMembers o k (size trees) 1 trees → AreMembers o k (size trees) 1 (f trees))
        → (grant : ℕ → Grant) (t : ℕ) (broods : Broods (Box M)) → AreSound (boxed o k) grant broods → BroodsHave o k broods → BroodsHave o k (at_brood f t broods)
    unfolding HaveMembers IsSound at_brood
    broods-at f sized keeps grant t no_brood sound h = tt
    broods-at f sized keeps grant t (brood u trees rest) sound h =
        (by (eqb u t), broods-at f sized keeps grant t rest sound.2 h.1)
      where
        by : (same : Bool) → AreMembers o k (size (cond same (f trees) trees)) 1 (cond same (f trees) trees)
        by true = subst (λ count. AreMembers o k count 1 (f trees)) (sym (sized trees)) (keeps (grant u).share trees sound.1 h.0)
        by false = h.0

    -- a step below keeps the members of a brood
    below-keeps : (path : Path) (i : ℕ) (count : ℕ) (trees : Trees (Box M))
        → ((t : Tree (Box M)) → child_at i trees ≡ Some t → HaveMembers o k (settle o k path t))
        → ((t : Tree (Box M)) → machine (settle o k path t) ≡ machine t)
        → AreMembers o k count 1 trees → AreMembers o k count 1 (at_child (settle o k path) i trees)
    below-keeps path i count trees below same h =
        family-at (settle o k path) count i trees
        (λ t found member under. (subst (IsMember o k count i) (sym (same t)) member, below t found)) h

    have-at : (count from i : ℕ) (trees : Trees (Box M)) (t : Tree (Box M)) → child_at i trees ≡ Some t → AreMembers o k count from trees → HaveMembers o k t
    unfolding HaveMembers child_at
    have-at count from i no_tree t found h = absurd (cc)
    have-at count from zero (tree u rest) t found h = absurd (cc)
    have-at count from (suc zero) (tree u rest) t found h = subst (HaveMembers o k) (some-same u t found) h.1
    have-at count from (suc (suc i)) (tree u rest) t found h = have-at count (suc from) (suc i) rest t found h.2

    pub settle-members : (path : Path) (t : Tree (Box M)) → IsSound (boxed o k) t → HaveMembers o k t → HaveMembers o k (settle o k path t)
    unfolding settle HaveMembers
    settle-members [] t sound h = (step-stays t sound h).below
    settle-members (b ∷ []) (node x broods log) sound h =
        broods-at (sibling_step o k b.child)
        (λ trees. sibling_step-size o k (sibling_rests o k b.child trees) (child_at b.child trees) b.child trees)
        (λ share trees held members. sibling-members b.child trees (λ c found. hold-at share b.child trees c held found) members)
        ((boxed o k).grant x) b.ticket broods (below-sound (boxed o k) x broods log sound) h
    settle-members (b ∷ (c ∷ path)) (node x broods log) sound h =
        broods-at (at_child (settle o k (c ∷ path)) b.child) (size-at_child (settle o k (c ∷ path)) b.child)
        (λ share trees held members. below-keeps (c ∷ path) b.child (size trees) trees
        (λ t found. settle-members (c ∷ path) t (hold-at share b.child trees t held found) (have-at (size trees) 1 b.child trees t found members))
        (below-stays o k c path) members)
        ((boxed o k).grant x) b.ticket broods (below-sound (boxed o k) x broods log sound) h

    -- the root has no siblings then either
    root-siblings : (path : Path) (t : Tree (Box M)) → IsSound (boxed o k) t → HaveMembers o k t
        → k.siblings (machine (settle o k path t)).machine ≡ k.siblings (machine t).machine
    unfolding settle
    root-siblings [] t sound h = (step-stays t sound h).root
    root-siblings (b ∷ path) t sound h = ap (λ (c : Box M). k.siblings c.machine) (below-stays o k b path t)

    pub settle-whole : (path : Path) (t : Tree (Box M)) → IsWholeForest o k t → IsWholeForest o k (settle o k path t)
    settle-whole path t h = record {
      sound = (settle-keeps o k rules talking path t h.sound).sound;
      members = settle-members path t h.sound h.members;
      root = root-siblings path t h.sound h.members ∙ h.root;
    }

    -- a machine that starts alone
    pub alone-whole : (m : M) (inbox : Inbox) → o.is_good m ≡ true → o.cloned m ≡ [] → k.siblings m ≡ 0
        → IsWholeForest o k (alone (boxed o k) (record { machine = m; inbox = inbox }))
    unfolding boxed HaveMembers
    alone-whole m inbox good none root = record {
      sound = start-sound (boxed o k) (record { machine = m; inbox = inbox }) good none;
      members = tt;
      root = root;
    }
