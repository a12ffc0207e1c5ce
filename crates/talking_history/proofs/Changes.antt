-- A step of a machine as a change at its path, and one at the path of the sibling to which it sends.
use Rattle.std.proofs.Common.{◌≡◌, ℕ, zero, suc, ◌&&◌, not, true, false, refl, sym, ap, ◌∙◌, subst, List, [], ◌∷◌, replicate, Option, Some, None, is_some, option_map}
use Rattle.std.proofs.lemmas.Bool.{and_parts, not-true, or_from}
use Rattle.forest_tree.specs.Operations.{Operations, IsMachine}
use Rattle.forest_tree.specs.Tree.{Tree, node, Trees, Broods, Log, machine, at_child, child_at, brood_of, at_brood, Branch, Path, subtree, at_path}
use Rattle.forest_tree.specs.Step as own
use Rattle.forest_tree.specs.Step.{settled_by, settled, step, rests, advanced, steps}
use Rattle.forest_tree.specs.Sound.{IsSound}
use Rattle.forest_tree.proofs.Sound.{machine-settled}
use Rattle.forest_tree.proofs.Places.{some-same, below-at, is-within}
use Rattle.forest_tree.proofs.Rests.{lives-none, one-brood}
use Rattle.forest_tree.proofs.Calls.{step-own}
use Rattle.sibling_forest.specs.Talk.{Talk, send, receive, Talks, Inbox, at_queue, Box, kept_by, after, advance_by, boxed, IsTalking}
use Rattle.sibling_forest.specs.Settle.{with_word, heard_by, delivered, sibling_step, settle, settle_all, rests_there, rests_at}
use Rattle.sibling_forest.specs.Laws.{child_number}
use Rattle.sibling_forest.proofs.Families.{at_child-id, at_child-agree, at_child-twice, at_brood-agree, at_brood-twice}
use Rattle.sibling_forest.proofs.Siblings.{brings, target, sibling-moves}
use Rattle.sibling_forest.proofs.Sound.{settle-keeps}
use Rattle.sibling_forest.proofs.Silent.{moves-here}
use Rattle.forest_tree.proofs.Changes.{at_brood-leaves, at_path-agree, at_path-leaves, at_path-twice, at_path-here}
use Rattle.talking_history.specs.Places.{may_run}
use Rattle.talking_history.specs.Changes.{to_sibling, told}

at_queue-none : (f : List ℕ → List ℕ) (inbox : Inbox) → at_queue f 0 inbox ≡ inbox
unfolding at_queue
at_queue-none f [] = refl
at_queue-none f (q ∷ rest) = refl

module _ {M E : Type 0} (o : Operations M E) (k : Talks M) where
  -- a word to no sibling
  heard-none : (e : Option E) (word : ℕ) (b : Box M) → heard_by o k e 0 word b ≡ b
  heard-none None word b = ap (λ (q : Inbox). record { machine = b.machine; inbox = q }) (at_queue-none (with_word word) b.inbox)
  heard-none (Some ending) word b = refl

  delivered-none : (word : ℕ) (t : Tree (Box M)) → delivered o k 0 word t ≡ t
  delivered-none word (node b broods log) = ap (λ c. node c broods log) (heard-none (o.ending b.machine) word b)

  told-root : (what : Option Talk) (word : ℕ) (t : Tree (Box M)) → told o k what word [] t ≡ t
  unfolding child_number to_sibling at_path
  told-root None word t = refl
  told-root (Some (send j)) word t = delivered-none word t
  told-root (Some (receive j)) word t = refl

  -- what is said to a sibling, in its brood
  brood-none : (b : Branch) (x : Box M) (broods : Broods (Box M)) (log : Log (Box M))
      → node x broods log ≡ node x (at_brood (at_child (λ u. u) 0) b.ticket broods) log
  brood-none b x broods log = ap (λ left. node x left log) (sym (at_brood-leaves (at_child (λ u. u) 0) (λ trees. at_child-id 0 trees) b.ticket broods))

  told-child : (what : Option Talk) (word : ℕ) (b : Branch) (x : Box M) (broods : Broods (Box M)) (log : Log (Box M))
      → told o k what word (b ∷ []) (node x broods log)
      ≡ node x (at_brood (at_child (brings o k what b.child word) (target o k what)) b.ticket broods) log
  unfolding child_number to_sibling at_path
  told-child None word b x broods log = brood-none b x broods log
  told-child (Some (send j)) word b x broods log = refl
  told-child (Some (receive j)) word b x broods log = brood-none b x broods log

  told-quiet : (b : Branch) (x : Box M) (broods : Broods (Box M)) (log : Log (Box M))
      → node x broods log ≡ node x (at_brood (at_child (λ u. u) b.child) b.ticket broods) log
  told-quiet b x broods log =
      ap (λ left. node x left log) (sym (at_brood-leaves (at_child (λ u. u) b.child) (λ trees. at_child-id b.child trees) b.ticket broods))

  told-below : (what : Option Talk) (word : ℕ) (b c : Branch) (path : Path) (x : Box M) (broods : Broods (Box M)) (log : Log (Box M))
      → told o k what word (b ∷ (c ∷ path)) (node x broods log)
      ≡ node x (at_brood (at_child (told o k what word (c ∷ path)) b.child) b.ticket broods) log
  unfolding child_number to_sibling at_path
  told-below None word b c path x broods log = told-quiet b x broods log
  told-below (Some (send j)) word b c path x broods log = refl
  told-below (Some (receive j)) word b c path x broods log = told-quiet b x broods log

  -- a step that is made
  abbrev says : Path → Tree (Box M) → Tree (Box M) → Tree (Box M)
  says path a t = told o k (k.talk (machine a).machine) (k.word (machine a).machine) path t

  pub step-changes : (path : Path) (t a : Tree (Box M)) → IsSound (boxed o k) t → subtree path t ≡ Some a → rests_at o k path t ≡ false
      → settle o k path t ≡ told o k (k.talk (machine a).machine) (k.word (machine a).machine) path (at_path (step (boxed o k)) path t)
  unfolding settle subtree rests_at at_path
  step-changes [] t a h here moves = sym (told-root (k.talk (machine a).machine) (k.word (machine a).machine) (step (boxed o k) t))
  step-changes (b ∷ []) (node x broods log) a h here moves =
      let is = is-within (boxed o k) [] (child_at b.child (brood_of b.ticket broods)) a here in
      let m = sibling-moves o k b.child (brood_of b.ticket broods) moves in
      let u : Tree (Box M) = m.0 in
      let same : u ≡ a = some-same u a (sym (m.1).found ∙ is.1 ∙ is.2) in
      let what : Option Talk = k.talk (machine u).machine in
      let word : ℕ = k.word (machine u).machine in
      let stepped : Broods (Box M) = at_brood (at_child (step (boxed o k)) b.child) b.ticket broods in
      ap (λ left. node x left log)
      (at_brood-agree (sibling_step o k b.child)
      (λ trees. at_child (brings o k what b.child word) (target o k what) (at_child (step (boxed o k)) b.child trees)) b.ticket broods
      (one-brood (boxed o k) x broods log h b.ticket) (m.1).steps
      ∙ sym (at_brood-twice (at_child (brings o k what b.child word) (target o k what)) (at_child (step (boxed o k)) b.child) b.ticket broods))
      ∙ sym (told-child what word b x stepped log)
      ∙ ap (λ (v : Tree (Box M)). says (b ∷ []) v (node x stepped log)) same
  step-changes (b ∷ (c ∷ path)) (node x broods log) a h here moves =
      let is = is-within (boxed o k) (c ∷ path) (child_at b.child (brood_of b.ticket broods)) a here in
      let trees : Trees (Box M) = brood_of b.ticket broods in
      let what : Option Talk = k.talk (machine a).machine in
      let word : ℕ = k.word (machine a).machine in
      let down : settle o k (c ∷ path) is.0 ≡ told o k what word (c ∷ path) (at_path (step (boxed o k)) (c ∷ path) is.0) =
      step-changes (c ∷ path) is.0 a (below-at (boxed o k) x broods log b.ticket b.child is.0 h is.1) is.2
      (ap (rests_there (rests_at o k (c ∷ path))) (sym is.1) ∙ moves) in
      ap (λ left. node x left log)
      (at_brood-agree (at_child (settle o k (c ∷ path)) b.child)
      (λ left. at_child (told o k what word (c ∷ path)) b.child (at_child (at_path (step (boxed o k)) (c ∷ path)) b.child left)) b.ticket broods
      (one-brood (boxed o k) x broods log h b.ticket)
      (at_child-agree (settle o k (c ∷ path)) (λ u. told o k what word (c ∷ path) (at_path (step (boxed o k)) (c ∷ path) u)) b.child trees
      (λ u found. subst (λ (v : Tree (Box M)). settle o k (c ∷ path) v ≡ told o k what word (c ∷ path) (at_path (step (boxed o k)) (c ∷ path) v))
      (some-same is.0 u (sym is.1 ∙ found)) down)
      ∙ sym (at_child-twice (told o k what word (c ∷ path)) (at_path (step (boxed o k)) (c ∷ path)) b.child trees))
      ∙ sym (at_brood-twice (at_child (told o k what word (c ∷ path)) b.child) (at_child (at_path (step (boxed o k)) (c ∷ path)) b.child) b.ticket broods))
      ∙ sym (told-below what word b c path x (at_brood (at_child (at_path (step (boxed o k)) (c ∷ path)) b.child) b.ticket broods) log)

  own-moves : (a : Tree (Box M)) → o.ending (machine a).machine ≡ None → o.call (machine a).machine ≡ None → rests (boxed o k) (Some a) ≡ false
  unfolding boxed
  own-moves (node b broods log) lives call = or_from _ _ (ap is_some lives) (ap (λ next. own.waits_by (boxed o k) next broods) call)

  own-after : (a : Tree (Box M)) → o.ending (machine a).machine ≡ None → o.call (machine a).machine ≡ None → k.talk (machine a).machine ≡ None
      → (machine (step (boxed o k) a)).machine ≡ o.advance (machine a).machine
  unfolding boxed
  own-after (node b broods log) lives call quiet =
      ap (λ (u : Tree (Box M)). (machine u).machine) (step-own (boxed o k) b broods log lives call)
      ∙ ap (λ (c : Box M). c.machine) (machine-settled (boxed o k) ((boxed o k).advance b) broods log)
      ∙ ap (λ what. (advance_by o k what b).machine) quiet

  -- the first of its own steps
  record IsOwn (n : ℕ) (m : M) : Type 0 where
    lives : o.ending m ≡ None
    call : o.call m ≡ None
    quiet : k.talk m ≡ None
    rest : may_run o k n (o.advance m) ≡ true

  own-first : (n : ℕ) (m : M) → may_run o k (suc n) m ≡ true → IsOwn n m
  unfolding may_run
  own-first n m own =
      let first = and_parts (not (is_some (o.ending m))) (not (is_some (o.call m)) && (not (is_some (k.talk m)) && may_run o k n (o.advance m))) own in
      let then = and_parts (not (is_some (o.call m))) (not (is_some (k.talk m)) && may_run o k n (o.advance m)) first.1 in
      let last = and_parts (not (is_some (k.talk m))) (may_run o k n (o.advance m)) then.1 in
      record {
        lives = lives-none (o.ending m) (not-true (is_some (o.ending m)) first.0);
        call = lives-none (o.call m) (not-true (is_some (o.call m)) then.0);
        quiet = lives-none (k.talk m) (not-true (is_some (k.talk m)) last.0);
        rest = last.1;
      }

  pub runs-on : (n : ℕ) (a : Tree (Box M)) → may_run o k (suc n) (machine a).machine ≡ true → rests (boxed o k) (Some a) ≡ false
  runs-on n a own = let first = own-first n (machine a).machine own in own-moves a first.lives first.call

  -- the machine after its own steps
  pub machine-after : (n : ℕ) (a : Tree (Box M)) → may_run o k n (machine a).machine ≡ true
      → (machine (steps (boxed o k) n a)).machine ≡ advanced o n (machine a).machine
  unfolding steps advanced
  machine-after zero a own = refl
  machine-after (suc n) a own =
      let first = own-first n (machine a).machine own in
      let next : (machine (step (boxed o k) a)).machine ≡ o.advance (machine a).machine = own-after a first.lives first.call first.quiet in
      machine-after n (step (boxed o k) a) (ap (may_run o k n) next ∙ first.rest) ∙ ap (advanced o n) next

  module _ (rules : IsMachine o) (talking : IsTalking o k) where
    pub own-changes : (n : ℕ) (path : Path) (t a : Tree (Box M)) → IsSound (boxed o k) t → subtree path t ≡ Some a
        → may_run o k n (machine a).machine ≡ true → settle_all o k (replicate n path) t ≡ at_path (steps (boxed o k) n) path t
    unfolding settle_all steps
    own-changes zero path t a h here own = sym (at_path-leaves (steps (boxed o k) 0) (λ u. refl) path t)
    own-changes (suc n) path t a h here own =
        let first = own-first n (machine a).machine own in
        let one : settle o k path t ≡ at_path (step (boxed o k)) path t =
        step-changes path t a h here (moves-here o k path t a here (own-moves a first.lives first.call) first.quiet)
        ∙ ap (λ what. told o k what (k.word (machine a).machine) path (at_path (step (boxed o k)) path t)) first.quiet in
        own-changes n path (settle o k path t) (step (boxed o k) a) (settle-keeps o k rules talking path t h).sound
        (ap (subtree path) one ∙ at_path-here (step (boxed o k)) path t ∙ ap (option_map (step (boxed o k))) here)
        (ap (may_run o k n) (own-after a first.lives first.call first.quiet) ∙ first.rest)
        ∙ ap (at_path (steps (boxed o k) n) path) one
        ∙ at_path-twice (step (boxed o k)) (steps (boxed o k) n) path t
        ∙ at_path-agree (λ u. steps (boxed o k) n (step (boxed o k) u)) (steps (boxed o k) (suc n)) (λ u. refl) path t

  -- own steps of the machine alone
  alive : (m : M) (inbox : Inbox) (broods : Broods (Box M)) (log : Log (Box M)) → o.ending m ≡ None
      → settled (boxed o k) (after o k m inbox) broods log ≡ node (record { machine = m; inbox = inbox }) broods log
  unfolding boxed
  alive m inbox broods log lives =
      ap (λ e. settled_by (boxed o k) e (after o k m inbox) broods log) lives
      ∙ ap (λ e. node (record { machine = m; inbox = kept_by o k e inbox }) broods log) lives

  settled-steps : (n : ℕ) (m : M) (inbox : Inbox) (broods : Broods (Box M)) (log : Log (Box M)) → may_run o k n m ≡ true
      → steps (boxed o k) n (settled (boxed o k) (after o k m inbox) broods log) ≡ settled (boxed o k) (after o k (advanced o n m) inbox) broods log
  unfolding steps advanced boxed
  settled-steps zero m inbox broods log own = refl
  settled-steps (suc n) m inbox broods log own =
      let first = own-first n m own in
      let b : Box M = record { machine = m; inbox = inbox } in
      ap (λ t. steps (boxed o k) n (step (boxed o k) t)) (alive m inbox broods log first.lives)
      ∙ ap (steps (boxed o k) n) (step-own (boxed o k) b broods log first.lives first.call
      ∙ ap (λ what. settled (boxed o k) (advance_by o k what b) broods log) first.quiet)
      ∙ settled-steps n (o.advance m) inbox broods log first.rest

  pub steps-own : (n : ℕ) (b : Box M) (broods : Broods (Box M)) (log : Log (Box M)) → o.ending b.machine ≡ None → may_run o k n b.machine ≡ true
      → steps (boxed o k) n (node b broods log) ≡ settled (boxed o k) (after o k (advanced o n b.machine) b.inbox) broods log
  steps-own n b broods log lives own =
      ap (steps (boxed o k) n) (sym (alive b.machine b.inbox broods log lives)) ∙ settled-steps n b.machine b.inbox broods log own
