-- A word that comes to a machine, before its step or after it.
use Rattle.std.proofs.Common.{◌≡◌, ◌≢◌, ℕ, zero, suc, ◌≤◌, nat_le, eqb, eqb-true, Bool, true, false, not, ◌||◌, refl, sym, ap, ◌∙◌, subst, arith, le_refl, List, [], ◌∷◌, length, Option, Some, None}
use Rattle.std.proofs.Common.{is_some}
use Rattle.std.proofs.lemmas.Bool.{eqb-false, leb-false, lt-leb}
use Rattle.forest_tree.specs.Operations.{Call, clone, join, kill, Operations}
use Rattle.forest_tree.specs.Tree.{Tree, node, tree, Broods, no_brood, brood, Log, joined, killed, machine, broods_of, brood_of, without, with_broods}
use Rattle.forest_tree.specs.Step.{have_ended, endings, alone, children_from, children, log_killed, settled_by, settled, waits_by, join_by, step_by, step, rests}
use Rattle.forest_tree.proofs.Sound.{machine-settled}
use Rattle.forest_tree.proofs.Steps.{step-lives}
use Rattle.sibling_forest.specs.Talk.{Talk, send, receive, Talks, Inbox, queue, at_queue, emptied, first_taken, Box, kept_by, after, after_receive, advance_by, boxed}
use Rattle.sibling_forest.specs.Settle.{with_word, is_empty, heard_by, delivered}
use Rattle.sibling_forest.proofs.Queues.{at_queue-swap, queue-other, queue-same, emptied-at, taken-within, comes-and-goes}

module _ {M E : Type 0} (o : Operations M E) (k : Talks M) where
  -- the box with a word more
  abbrev pub put : ℕ → ℕ → Box M → Box M
  put i word b = record { machine = b.machine; inbox = at_queue (with_word word) i b.inbox }

  pub delivered-lives : (i word : ℕ) (b : Box M) (broods : Broods (Box M)) (log : Log (Box M)) → o.ending b.machine ≡ None
      → delivered o k i word (node b broods log) ≡ node (put i word b) broods log
  delivered-lives i word b broods log lives = ap (λ e. node (heard_by o k e i word b) broods log) lives

  pub delivered-ended : (i word : ℕ) (b : Box M) (broods : Broods (Box M)) (log : Log (Box M)) (ending : E) → o.ending b.machine ≡ Some ending
      → delivered o k i word (node b broods log) ≡ node b broods log
  delivered-ended i word b broods log ending ended = ap (λ e. node (heard_by o k e i word b) broods log) ended

  -- what a machine that hears is
  pub heard-machine : (e : Option E) (i word : ℕ) (b : Box M) → (heard_by o k e i word b).machine ≡ b.machine
  heard-machine None i word b = refl
  heard-machine (Some ending) i word b = refl

  pub delivered-machine : (i word : ℕ) (t : Tree (Box M)) → (machine (delivered o k i word t)).machine ≡ (machine t).machine
  delivered-machine i word (node b broods log) = heard-machine (o.ending b.machine) i word b

  pub delivered-broods : (i word : ℕ) (f : Broods (Box M) → Broods (Box M)) (t : Tree (Box M))
      → delivered o k i word (with_broods f t) ≡ with_broods f (delivered o k i word t)
  delivered-broods i word f (node b broods log) = refl

  pub delivered-below : (i word : ℕ) (t : Tree (Box M)) → broods_of (delivered o k i word t) ≡ broods_of t
  delivered-below i word (node b broods log) = refl

  -- words of two siblings
  pub delivered-swap : (i j one other : ℕ) (t : Tree (Box M)) → i ≢ j
      → delivered o k i one (delivered o k j other t) ≡ delivered o k j other (delivered o k i one t)
  delivered-swap i j one other (node b broods log) apart = by (o.ending b.machine) refl
    where
      by : (e : Option E) → o.ending b.machine ≡ e → delivered o k i one (delivered o k j other (node b broods log))
          ≡ delivered o k j other (delivered o k i one (node b broods log))
      by None lives =
          ap (delivered o k i one) (delivered-lives j other b broods log lives)
          ∙ delivered-lives i one (put j other b) broods log lives
          ∙ ap (λ (inbox : Inbox). node (record { machine = b.machine; inbox = inbox }) broods log)
          (at_queue-swap (with_word one) (with_word other) i j b.inbox (λ e. absurd (apart e)))
          ∙ sym (delivered-lives j other (put i one b) broods log lives)
          ∙ sym (ap (delivered o k j other) (delivered-lives i one b broods log lives))
      by (Some ending) ended =
          ap (delivered o k i one) (delivered-ended j other b broods log ending ended)
          ∙ delivered-ended i one b broods log ending ended
          ∙ sym (delivered-ended j other b broods log ending ended)
          ∙ sym (ap (delivered o k j other) (delivered-ended i one b broods log ending ended))

  -- whether it rests
  rests-boxes : (b c : Box M) (broods : Broods (Box M)) (log : Log (Box M)) → b.machine ≡ c.machine
      → rests (boxed o k) (Some (node b broods log)) ≡ rests (boxed o k) (Some (node c broods log))
  unfolding boxed
  rests-boxes b c broods log same = ap (λ m. is_some (o.ending m) || waits_by (boxed o k) (o.call m) broods) same

  pub delivered-rests : (i word : ℕ) (t : Tree (Box M)) → rests (boxed o k) (Some (delivered o k i word t)) ≡ rests (boxed o k) (Some t)
  delivered-rests i word (node b broods log) =
      rests-boxes (heard_by o k (o.ending b.machine) i word b) b broods log (heard-machine (o.ending b.machine) i word b)

  module _ (i word : ℕ) where
    -- what a step leads to
    settled_by-word : (n : M) (inbox : Inbox) (broods : Broods (Box M)) (log : Log (Box M)) (e : Option E) → o.ending n ≡ e
        → settled_by (boxed o k) e (record { machine = n; inbox = kept_by o k e (at_queue (with_word word) i inbox) }) broods log
        ≡ delivered o k i word (settled_by (boxed o k) e (record { machine = n; inbox = kept_by o k e inbox }) broods log)
    settled_by-word n inbox broods log None lives = sym (delivered-lives i word (record { machine = n; inbox = inbox }) broods log lives)
    settled_by-word n inbox broods log (Some ending) ended =
        ap (λ (words : Inbox). settled_by (boxed o k) (Some ending) (record { machine = n; inbox = words }) broods log) (emptied-at (with_word word) i inbox)
        ∙ sym (delivered-ended i word (record { machine = n; inbox = emptied inbox }) no_brood
        (log_killed (boxed o k) (record { machine = n; inbox = emptied inbox }) ((boxed o k).cloned (record { machine = n; inbox = emptied inbox })) log) ending ended)

    settled-word : (n : M) (inbox : Inbox) (broods : Broods (Box M)) (log : Log (Box M))
        → settled (boxed o k) (after o k n (at_queue (with_word word) i inbox)) broods log
        ≡ delivered o k i word (settled (boxed o k) (after o k n inbox) broods log)
    unfolding boxed
    settled-word n inbox broods log = settled_by-word n inbox broods log (o.ending n) refl

    -- the machine is not about to find no word of i
    abbrev pub Finds : Box M → Type 0
    Finds b = (j : ℕ) → k.talk b.machine ≡ Some (receive j) → i ≡ j → is_empty (queue j b.inbox) ≡ false

    -- a step of its own leads to the same machine and to words taken, before the word comes and after
    record Takes (before later : Box M) (inbox : Inbox) : Type 0 where
      to : M
      words : Inbox
      is_before : before ≡ after o k to words
      is_later : later ≡ after o k to (at_queue (with_word word) i words)

    found-first : (b : Box M) (j first : ℕ) (rest : List ℕ) → queue j b.inbox ≡ first ∷ rest → (same : Bool) → eqb i j ≡ same
        → (left : List ℕ) × (queue j (at_queue (with_word word) i b.inbox) ≡ first ∷ left)
    found-first b j first rest q true e =
        let here : i ≡ j = eqb-true i j e in (
          with_word word rest,
          subst (λ n. queue j (at_queue (with_word word) n b.inbox) ≡ first ∷ with_word word rest) (sym here)
              (queue-same (with_word word) j b.inbox (ap is_empty q) ∙ ap (with_word word) q),
        )
    found-first b j first rest q false e = (rest, queue-other (with_word word) i j b.inbox (eqb-false i j e) ∙ q)

    none-found : (b : Box M) (j : ℕ) → queue j b.inbox ≡ [] → (i ≡ j → is_empty (queue j b.inbox) ≡ false) → (same : Bool) → eqb i j ≡ same
        → queue j (at_queue (with_word word) i b.inbox) ≡ []
    none-found b j q finds true e = let no : true ≡ false = sym (ap is_empty q) ∙ finds (eqb-true i j e) in absurd (cc)
    none-found b j q finds false e = queue-other (with_word word) i j b.inbox (eqb-false i j e) ∙ q

    receive-takes : (b : Box M) (j : ℕ) (q : List ℕ) → queue j b.inbox ≡ q → (i ≡ j → is_empty (queue j b.inbox) ≡ false)
        → Takes (after_receive o k q j b) (after_receive o k (queue j (at_queue (with_word word) i b.inbox)) j (put i word b)) b.inbox
    receive-takes b j [] q finds = record {
      to = k.received b.machine None;
      words = b.inbox;
      is_before = refl;
      is_later = ap (λ p. after_receive o k p j (put i word b)) (none-found b j q finds (eqb i j) refl);
    }
    receive-takes b j (first ∷ rest) q finds =
        let found = found-first b j first rest q (eqb i j) refl in
        record {
          to = k.received b.machine (Some first);
          words = at_queue first_taken j b.inbox;
          is_before = refl;
          is_later = ap (λ p. after_receive o k p j (put i word b)) found.1
              ∙ ap (after o k (k.received b.machine (Some first)))
              (sym (at_queue-swap (with_word word) first_taken i j b.inbox (λ e. subst (λ n. with_word word (first_taken (queue n b.inbox)) ≡ first_taken (with_word word (queue n b.inbox)))
              (sym e) (comes-and-goes word (queue j b.inbox) (ap is_empty q)))));
        }

    advance-takes : (b : Box M) (what : Option Talk) → k.talk b.machine ≡ what → Finds b
        → Takes (advance_by o k what b) (advance_by o k what (put i word b)) b.inbox
    advance-takes b None talks finds = record { to = o.advance b.machine; words = b.inbox; is_before = refl; is_later = refl }
    advance-takes b (Some (send j)) talks finds = record { to = o.advance b.machine; words = b.inbox; is_before = refl; is_later = refl }
    advance-takes b (Some (receive j)) talks finds = receive-takes b j (queue j b.inbox) refl (finds j talks)

    children-same : (b : Box M) (n from : ℕ) → children_from (boxed o k) (put i word b) from n ≡ children_from (boxed o k) b from n
    unfolding children_from boxed
    children-same b zero from = refl
    children-same b (suc n) from = ap (tree (alone (boxed o k) ((boxed o k).child b from))) (children-same b n (suc from))

    step_by-word : (next : Option Call) (b : Box M) (broods : Broods (Box M)) (log : Log (Box M)) → Finds b → o.ending b.machine ≡ None
        → step_by (boxed o k) next (put i word b) broods log ≡ delivered o k i word (step_by (boxed o k) next b broods log)
    unfolding boxed
    step_by-word None b broods log finds lives =
        let t = advance-takes b (k.talk b.machine) refl finds in
        ap (λ (c : Box M). settled (boxed o k) c broods log) t.is_later
        ∙ settled-word t.to t.words broods log
        ∙ ap (λ (c : Box M). delivered o k i word (settled (boxed o k) c broods log)) (sym t.is_before)
    step_by-word (Some (clone t)) b broods log finds lives =
        ap (λ kids. settled (boxed o k) (after o k (o.forked b.machine) (at_queue (with_word word) i b.inbox)) (brood t kids broods) log)
        (children-same b (o.grant b.machine t).children 1)
        ∙ settled-word (o.forked b.machine) b.inbox (brood t (children (boxed o k) b t) broods) log
    step_by-word (Some (join t)) b broods log finds lives = by (have_ended (boxed o k) (brood_of t broods))
      where
        by : (ready : Bool) → join_by (boxed o k) ready t (put i word b) broods log ≡ delivered o k i word (join_by (boxed o k) ready t b broods log)
        by false = sym (delivered-lives i word b broods log lives)
        by true = settled-word (o.after_join b.machine (endings (boxed o k) (brood_of t broods))) b.inbox (without t broods) (joined log t (brood_of t broods))
    step_by-word (Some (kill t)) b broods log finds lives =
        settled-word (o.after_kill b.machine) b.inbox (without t broods) (killed log t (o.grant b.machine t).children)

    -- the step of a live machine
    pub step-word : (b : Box M) (broods : Broods (Box M)) (log : Log (Box M)) → Finds b → o.ending b.machine ≡ None
        → step (boxed o k) (delivered o k i word (node b broods log)) ≡ delivered o k i word (step (boxed o k) (node b broods log))
    unfolding boxed
    step-word b broods log finds lives =
        ap (step (boxed o k)) (delivered-lives i word b broods log lives)
        ∙ step-lives (boxed o k) (put i word b) broods log (o.call b.machine) lives refl
        ∙ step_by-word (o.call b.machine) b broods log finds lives
        ∙ ap (delivered o k i word) (sym (step-lives (boxed o k) b broods log (o.call b.machine) lives refl))

  -- the machine after a step: its queues grow no longer
  pub record Shorter (b c : Box M) : Type 0 where
    pub to : M
    pub words : Inbox
    pub is_after : c ≡ after o k to words
    pub within : (j : ℕ) → length (queue j words) ≤ length (queue j b.inbox)

  pub shorter-settled : (b : Box M) (n : M) (words : Inbox) (broods : Broods (Box M)) (log : Log (Box M))
      → ((j : ℕ) → length (queue j words) ≤ length (queue j b.inbox))
      → Shorter b (machine (settled (boxed o k) (after o k n words) broods log))
  shorter-settled b n words broods log within =
      record { to = n; words = words; is_after = machine-settled (boxed o k) (after o k n words) broods log; within = within }

  receive-shorter : (b : Box M) (j : ℕ) (q : List ℕ) → Shorter b (after_receive o k q j b)
  receive-shorter b j [] = record { to = k.received b.machine None; words = b.inbox; is_after = refl; within = λ i. le_refl _ }
  receive-shorter b j (first ∷ rest) =
      record { to = k.received b.machine (Some first); words = at_queue first_taken j b.inbox; is_after = refl; within = λ i. taken-within j i b.inbox }

  advance-shorter : (b : Box M) (what : Option Talk) → Shorter b (advance_by o k what b)
  advance-shorter b None = record { to = o.advance b.machine; words = b.inbox; is_after = refl; within = λ i. le_refl _ }
  advance-shorter b (Some (send j)) = record { to = o.advance b.machine; words = b.inbox; is_after = refl; within = λ i. le_refl _ }
  advance-shorter b (Some (receive j)) = receive-shorter b j (queue j b.inbox)

  settled-shorter : (b c : Box M) (broods : Broods (Box M)) (log : Log (Box M)) → Shorter b c → Shorter b (machine (settled (boxed o k) c broods log))
  settled-shorter b c broods log s =
      record { to = s.to; words = s.words; is_after = machine-settled (boxed o k) c broods log ∙ s.is_after; within = s.within }

  step_by-shorter : (next : Option Call) (b : Box M) (broods : Broods (Box M)) (log : Log (Box M)) → waits_by (boxed o k) next broods ≡ false
      → Shorter b (machine (step_by (boxed o k) next b broods log))
  unfolding boxed
  step_by-shorter None b broods log ready = settled-shorter b (advance_by o k (k.talk b.machine) b) broods log (advance-shorter b (k.talk b.machine))
  step_by-shorter (Some (clone t)) b broods log ready =
      shorter-settled b (o.forked b.machine) b.inbox (brood t (children (boxed o k) b t) broods) log (λ j. le_refl _)
  step_by-shorter (Some (join t)) b broods log ready = by (have_ended (boxed o k) (brood_of t broods)) ready
    where
      by : (over : Bool) → not over ≡ false → Shorter b (machine (join_by (boxed o k) over t b broods log))
      by false h = absurd (cc)
      by true h = shorter-settled b (o.after_join b.machine (endings (boxed o k) (brood_of t broods))) b.inbox (without t broods) (joined log t (brood_of t broods)) (λ j. le_refl _)
  step_by-shorter (Some (kill t)) b broods log ready =
      shorter-settled b (o.after_kill b.machine) b.inbox (without t broods) (killed log t (o.grant b.machine t).children) (λ j. le_refl _)

  pub step-shorter : (b : Box M) (broods : Broods (Box M)) (log : Log (Box M)) → o.ending b.machine ≡ None
      → waits_by (boxed o k) (o.call b.machine) broods ≡ false → Shorter b (machine (step (boxed o k) (node b broods log)))
  unfolding boxed
  step-shorter b broods log lives ready =
      subst (λ t. Shorter b (machine t)) (sym (step-lives (boxed o k) b broods log (o.call b.machine) lives refl))
      (step_by-shorter (o.call b.machine) b broods log ready)

  pub full-less : (x y : ℕ) → y ≤ x → nat_le 8 x ≡ false → nat_le 8 y ≡ false
  full-less x y less h = lt-leb 8 y (omega (arith, leb-false 8 x h))
