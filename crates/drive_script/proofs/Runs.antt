-- What rows of a world make of the family of whole machines, and how many steps of a machine they are.
use Rattle.std.proofs.Common.{◌≡◌, ◌≢◌, ℕ, zero, suc, ◌+◌, ◌<◌, ◌&&◌, ◌||◌, not, Bool, true, false, refl, sym, ap, ap₂, ◌∙◌, subst, arith, inl, inr}
use Rattle.std.proofs.Common.{List, [], ◌∷◌, replicate, Option, Some, None, IsSome, is_some, option_map}
use Rattle.std.proofs.lemmas.Bool.{and_parts, not-true, or_from}
use Rattle.forest_tree.specs.Operations.{Operations, IsMachine}
use Rattle.forest_tree.specs.Tree.{Tree, node, Broods, Log, Path, machine, subtree, beyond, is_below, at_path, at_beyond}
use Rattle.forest_tree.specs.Step.{settled_by, settled, step, advanced, steps}
use Rattle.forest_tree.specs.Projection.{map_tree}
use Rattle.forest_tree.proofs.Projected.{step-map, subtree-map, at_path-map}
use Rattle.forest_tree.proofs.Rests.{lives-none}
use Rattle.sibling_forest.specs.Talk.{Talk, peer, Talks, Inbox, Box, kept_by, after, boxed, IsTalking}
use Rattle.sibling_forest.specs.Settle.{settle, settle_all, rests_at}
use Rattle.sibling_forest.specs.Laws.{box_of, child_number, is_sibling, read_of}
use Rattle.sibling_forest.specs.Members.{IsWholeForest}
use Rattle.sibling_forest.proofs.Finish.{same-path}
use Rattle.sibling_forest.proofs.MemberAt.{names-other}
use Rattle.sibling_forest.proofs.Members.{settle-whole}
use Rattle.sibling_forest.proofs.Others.{own-step}
use Rattle.sibling_forest.proofs.Projected.{boxes-project, settle-map}
use Rattle.sibling_forest.proofs.WhatIsRead.{read-rests}
use Rattle.talking_history.specs.Places.{out, Spot, spots, placed, bare, spot_talks, boxes, may_run}
use Rattle.forest_tree.proofs.Changes.{at_path-elsewhere, at_path-here}
use Rattle.talking_history.proofs.Spots.{machine-spots, projects, talking-spots, talks-alike}
use Rattle.talking_history.specs.Rows.{How, back, made, run_at, came_back}
use Rattle.talking_history.proofs.Beside.{rests-parts, silent-waits}
use Rattle.talking_history.proofs.Changes.{machine-after, runs-on, steps-own}
use Rattle.talking_history.proofs.Ends.{bare-put}
use Rattle.talking_history.proofs.Turned.{run-is}
use Rattle.drive_script.specs.Steps.{steps_made, stops, after_steps, with_machine}
use Rattle.drive_script.proofs.Steps.{after-both, after-first, after-none, made-both, made-more, made-zero}
use Rattle.drive_script.proofs.Ways.{beyond-beside, no-sibling, sibling-is}

module _ {M E : Type 0} (o : Operations M E) (k : Talks M) where
  -- ---- the family of whole machines

  pub bare-run : (n : ℕ) (name : Path) (t : Tree (Box (Spot M))) → bare (run_at o k name n t) ≡ after_steps o k n name (bare t)
  unfolding settle_all
  bare-run zero name t = refl
  bare-run (suc n) name t =
      bare-run n name (settle (spots o) (spot_talks k) name t)
      ∙ ap (after_steps o k n name) (sym (settle-map (spots o) o (spot_talks k) k (λ (s : Spot M). s.machine) (projects o) (talks-alike k) name t))

  -- a machine that is taken and comes back has made its own steps, and its call or its talk
  pub bare-turned : (how : How) (name : Path) (n : ℕ) (t : Tree (Box (Spot M)))
      → bare (came_back o k how name n (at_path (placed out) name t)) ≡ after_steps o k (made how n) name (bare t)
  bare-turned how name n t =
      bare-put o k (back how) name (run_at o k name (made how n) (at_path (placed out) name t))
      ∙ bare-run (made how n) name (at_path (placed out) name t)
      ∙ ap (after_steps o k (made how n) name) (bare-put o k out name t)

  pub bare-machine : (u : Tree (Box (Spot M))) → (machine (bare u)).machine ≡ (machine u).machine.machine
  unfolding map_tree
  bare-machine (node b broods log) = refl

  -- ---- own steps

  -- a machine whose next steps are its own makes the first
  record OwnStep (n : ℕ) (path : Path) (t a : Tree (Box M)) : Type 0 where
    goes : rests_at o k path t ≡ false
    moved : subtree path (settle o k path t) ≡ Some (step (boxed o k) a)
    is : (machine (step (boxed o k) a)).machine ≡ o.advance (machine a).machine
    later : may_run o k n (o.advance (machine a).machine) ≡ true

  none-said : (what : Option Talk) (said : Talk) → what ≡ None → what ≡ Some said → ⊥
  none-said what said none some = cc

  own-one : (n : ℕ) (path : Path) (t a : Tree (Box M)) → subtree path t ≡ Some a → may_run o k (suc n) (machine a).machine ≡ true → OwnStep n path t a
  unfolding may_run steps advanced
  own-one n path t a here own =
      let m : M = (machine a).machine in
      let first = and_parts (not (is_some (o.ending m))) (not (is_some (o.call m)) && (not (is_some (k.talk m)) && may_run o k n (o.advance m))) own in
      let then = and_parts (not (is_some (o.call m))) (not (is_some (k.talk m)) && may_run o k n (o.advance m)) first.1 in
      let last = and_parts (not (is_some (k.talk m))) (may_run o k n (o.advance m)) then.1 in
      let quiet : k.talk m ≡ None = lives-none (k.talk m) (not-true (is_some (k.talk m)) last.0) in
      let one : may_run o k 1 m ≡ true = ap₂ (λ x y. x && (y && (not (is_some (k.talk m)) && true))) first.0 then.0 ∙ ap (λ z. z && true) last.0 in
      let moves : rests_at o k path t ≡ false = rests-parts o k path t a here ∙ or_from _ _ (runs-on o k n a own) (silent-waits o k path t a here quiet) in
      record {
        goes = moves;
        moved = own-step o k path t a here moves (λ said talks. absurd (none-said (k.talk m) said quiet talks));
        is = machine-after o k 1 a one;
        later = last.1;
      }

  -- ---- whether a machine rests

  unchanged : (f : Tree (Box M) → Tree (Box M)) (left : Option Path) (c : Option (Tree (Box M))) → left ≡ None → option_map (at_beyond f left) c ≡ c
  unchanged f None None h = refl
  unchanged f None (Some t) h = refl
  unchanged f (Some rest) c h = cc h

  beside-stays : (f : Tree (Box M) → Tree (Box M)) (name at : Path) (t : Tree (Box M)) → is_sibling name at ≡ true → at ≢ name
      → subtree at (at_path f name t) ≡ subtree at t
  unfolding is_sibling
  beside-stays f [] at t beside other = absurd (cc)
  beside-stays f (b ∷ path) at t beside other =
      let is : at ≡ _ = sibling-is (b ∷ path) at beside in
      at_path-elsewhere f (b ∷ path) at t (not-below (is_below (b ∷ path) at) refl)
      ∙ elim (beyond-beside (child_number at) b path) [
        | inl off ↦ unchanged f (beyond at (b ∷ path)) (subtree at t) (ap (λ p. beyond p (b ∷ path)) is ∙ off)
        | inr same ↦ absurd (other (is ∙ same))
      ]
    where
      not-below : (under : Bool) → is_below (b ∷ path) at ≡ under → is_below (b ∷ path) at ≡ false
      not-below false e = e
      not-below true e = let no : true ≡ false = sym beside ∙ no-sibling (b ∷ path) at e in absurd (cc)

  -- it is told of its own tree, and of those beside it
  pub rests-same : (f g : Tree (Box M) → Tree (Box M)) (name : Path) (t a : Tree (Box M)) → subtree name t ≡ Some a → f a ≡ g a
      → rests_at o k name (at_path f name t) ≡ rests_at o k name (at_path g name t)
  rests-same f g name t a here same =
      read-rests o k name (at_path g name t) (at_path f name t) (record {
        there = subst IsSome (sym (at-name g)) refl;
        own = own;
        siblings = λ at beside. ap (read_of o (child_number name)) (elim (same-path at name) [
          | inl is ↦ ap (λ p. subtree p (at_path f name t)) is ∙ own ∙ sym (ap (λ p. subtree p (at_path g name t)) is)
          | inr other ↦ beside-stays f name at t beside other ∙ sym (beside-stays g name at t beside other)
        ]);
      })
    where
      at-name : (h : Tree (Box M) → Tree (Box M)) → subtree name (at_path h name t) ≡ Some (h a)
      at-name h = at_path-here h name t ∙ ap (option_map h) here

      own : subtree name (at_path f name t) ≡ subtree name (at_path g name t)
      own = at-name f ∙ ap Some same ∙ sym (at-name g)

  alive : (m : M) (inbox : Inbox) (broods : Broods (Box M)) (log : Log (Box M)) → o.ending m ≡ None
      → settled (boxed o k) (after o k m inbox) broods log ≡ node (record { machine = m; inbox = inbox }) broods log
  unfolding boxed
  alive m inbox broods log lives =
      ap (λ e. settled_by (boxed o k) e (after o k m inbox) broods log) lives
      ∙ ap (λ e. node (record { machine = m; inbox = kept_by o k e inbox }) broods log) lives

  ran-live : (n : ℕ) (a : Tree (Box M)) → o.ending (machine a).machine ≡ None → may_run o k n (machine a).machine ≡ true
      → o.ending (advanced o n (machine a).machine) ≡ None → steps (boxed o k) n a ≡ with_machine (advanced o n (machine a).machine) a
  ran-live n (node b broods log) begins own lives =
      steps-own o k n b broods log begins own ∙ alive (advanced o n b.machine) b.inbox broods log lives

  one-machine : (m : M) (a : Tree (Box M)) → (machine (with_machine m a)).machine ≡ m
  one-machine m (node b broods log) = refl

  pub ended-rests : (name : Path) (t a : Tree (Box M)) → subtree name t ≡ Some a → is_some (o.ending (machine a).machine) ≡ true → rests_at o k name t ≡ true
  unfolding boxed
  ended-rests name t a here over = rests-parts o k name t a here ∙ by (is_some (o.ending (machine a).machine)) _ _ over
    where
      by : (x y z : Bool) → x ≡ true → (x || y) || z ≡ true
      by true y z h = refl
      by false y z h = absurd (cc)

  -- after its own steps a machine rests where it rests as it stands then
  module _ (n : ℕ) (name : Path) (t a : Tree (Box M)) (here : subtree name t ≡ Some a) (begins : o.ending (machine a).machine ≡ None)
      (own : may_run o k n (machine a).machine ≡ true) where
    abbrev pub now : M
    now = advanced o n (machine a).machine

    abbrev pub ran : Tree (Box M)
    ran = at_path (steps (boxed o k) n) name t

    abbrev pub stands : Tree (Box M)
    stands = at_path (with_machine now) name t

    pub ran-there : subtree name ran ≡ Some (steps (boxed o k) n a)
    ran-there = at_path-here (steps (boxed o k) n) name t ∙ ap (option_map (steps (boxed o k) n)) here

    pub stands-there : subtree name stands ≡ Some (with_machine now a)
    stands-there = at_path-here (with_machine now) name t ∙ ap (option_map (with_machine now)) here

    pub ran-machine : (machine (steps (boxed o k) n a)).machine ≡ now
    ran-machine = machine-after o k n a own

    pub stands-machine : (machine (with_machine now a)).machine ≡ now
    stands-machine = one-machine now a

    pub ran-rests : rests_at o k name ran ≡ rests_at o k name stands
    ran-rests = by (o.ending now) refl
      where
        by : (e : Option E) → o.ending now ≡ e → rests_at o k name ran ≡ rests_at o k name stands
        by None e = rests-same (steps (boxed o k) n) (with_machine now) name t a here (ran-live n a begins own e)
        by (Some ending) e =
            ended-rests name ran (steps (boxed o k) n a) ran-there (ap (λ m. is_some (o.ending m)) ran-machine ∙ ap is_some e)
            ∙ sym (ended-rests name stands (with_machine now a) stands-there (ap (λ m. is_some (o.ending m)) stands-machine ∙ ap is_some e))

module _ {M E : Type 0} (o : Operations M E) (k : Talks M) (stall : M → Option ℕ) where
  -- a machine that does not rest and waits for no page goes on
  pub goes-on : (path : Path) (t a : Tree (Box M)) → subtree path t ≡ Some a → rests_at o k path t ≡ false → stall (machine a).machine ≡ None
      → stops o k stall path t ≡ false
  goes-on path t a there goes here =
      ap₂ (λ rest stalled. rest || stalled) goes
      (ap (λ c. stalls-in c) there ∙ ap (λ page. is_some page) here)
    where
      stalls-in : Option (Tree (Box M)) → Bool
      stalls-in None = false
      stalls-in (Some b) = is_some (stall (machine b).machine)

  -- its own steps are made, where it waits for a page at none of them
  pub run-made : (n : ℕ) (name : Path) (t a : Tree (Box M)) → subtree name t ≡ Some a → may_run o k n (machine a).machine ≡ true
      → ((j : ℕ) → j < n → stall (advanced o j (machine a).machine) ≡ None) → steps_made o k stall n name t ≡ n
  unfolding advanced
  run-made zero name t a there own here = made-zero o k stall name t
  run-made (suc n) name t a there own here =
      let one = own-one o k n name t a there own in
      made-more o k stall n name t (goes-on name t a there one.goes (here 0 (omega arith)))
      ∙ ap suc (run-made n name (settle o k name t) (step (boxed o k) a) one.moved (ap (may_run o k n) one.is ∙ one.later)
      (λ j below. ap (λ m. stall (advanced o j m)) one.is ∙ here (suc j) (omega (arith, below))))

  -- one more is made where it does not stop
  pub more-made : (n : ℕ) (name : Path) (t : Tree (Box M)) → steps_made o k stall n name t ≡ n → stops o k stall name (after_steps o k n name t) ≡ false
      → steps_made o k stall (n + 1) name t ≡ n + 1
  more-made n name t made goes =
      let is : after_steps o k (steps_made o k stall n name t) name t ≡ after_steps o k n name t = ap (λ x. after_steps o k x name t) made in
      made-both o k stall n 1 name t
      ∙ ap₂ (λ x u. x + steps_made o k stall 1 name u) made is
      ∙ ap (λ x. n + x) (made-more o k stall 0 name (after_steps o k n name t) goes ∙ ap suc (made-zero o k stall name (settle o k name (after_steps o k n name t))))

  -- it stops where it does as it stands
  pub ran-stops : (n : ℕ) (name : Path) (t a : Tree (Box M)) (here : subtree name t ≡ Some a) (begins : o.ending (machine a).machine ≡ None)
      (own : may_run o k n (machine a).machine ≡ true)
      → stops o k stall name (ran o k n name t a here begins own) ≡ stops o k stall name (stands o k n name t a here begins own)
  ran-stops n name t a here begins own =
      ap₂ (λ rest stalled. rest || stalled) (ran-rests o k n name t a here begins own)
      (ap (λ c. stalls-in c) (ran-there o k n name t a here begins own)
      ∙ ap (λ m. is_some (stall m)) (ran-machine o k n name t a here begins own ∙ sym (stands-machine o k n name t a here begins own))
      ∙ sym (ap (λ c. stalls-in c) (stands-there o k n name t a here begins own)))
    where
      stalls-in : Option (Tree (Box M)) → Bool
      stalls-in None = false
      stalls-in (Some b) = is_some (stall (machine b).machine)

-- ---- steps keep the queues

module _ {M E : Type 0} (o : Operations M E) (k : Talks M) (rules : IsMachine o) (talking : IsTalking o k) where
  pub all-whole : (paths : List Path) (t : Tree (Box M)) → IsWholeForest o k t → IsWholeForest o k (settle_all o k paths t)
  unfolding settle_all
  all-whole [] t h = h
  all-whole (path ∷ rest) t h = all-whole rest (settle o k path t) (settle-whole o k rules talking path t h)

-- ---- of machines at their places

module _ {M E : Type 0} (o : Operations M E) (k : Talks M) (rules : IsMachine o) (talking : IsTalking o k) where
  bare-step : (u : Tree (Box (Spot M))) → bare (step (boxes o k) u) ≡ step (boxed o k) (bare u)
  bare-step u =
      sym (step-map (boxes o k) (boxed o k) (box_of (λ (s : Spot M). s.machine))
      (boxes-project (spots o) o (spot_talks k) k (λ (s : Spot M). s.machine) (projects o) (talks-alike k)) u)

  bare-steps : (n : ℕ) (u : Tree (Box (Spot M))) → bare (steps (boxes o k) n u) ≡ steps (boxed o k) n (bare u)
  unfolding steps
  bare-steps zero u = refl
  bare-steps (suc n) u = bare-steps n (step (boxes o k) u) ∙ ap (steps (boxed o k) n) (bare-step u)

  module _ (n : ℕ) (name : Path) (t a : Tree (Box (Spot M))) (h : IsWholeForest (spots o) (spot_talks k) t) (here : subtree name t ≡ Some a)
      (own : may_run o k n (machine a).machine.machine ≡ true) where
    -- its own steps are a change at its path
    pub ran-is : after_steps o k n name (bare t) ≡ at_path (steps (boxed o k) n) name (bare t)
    ran-is =
        sym (bare-run o k n name t) ∙ ap bare (run-is o k rules talking name n t a h.sound here own)
        ∙ at_path-map (box_of (λ (s : Spot M). s.machine)) (steps (boxes o k) n) (steps (boxed o k) n) (λ u. bare-steps n u) name t

    pub bare-here : subtree name (bare t) ≡ Some (bare a)
    bare-here = subtree-map (box_of (λ (s : Spot M). s.machine)) name t ∙ ap (option_map bare) here

    ran-here : subtree name (after_steps o k n name (bare t)) ≡ Some (steps (boxed o k) n (bare a))
    ran-here = ap (subtree name) ran-is ∙ at_path-here (steps (boxed o k) n) name (bare t) ∙ ap (option_map (steps (boxed o k) n)) bare-here

    -- as it stands then its talk names another
    spot-here : subtree name (run_at o k name n t) ≡ Some (steps (boxes o k) n a)
    spot-here =
        ap (subtree name) (run-is o k rules talking name n t a h.sound here own)
        ∙ at_path-here (steps (boxes o k) n) name t ∙ ap (option_map (steps (boxes o k) n)) here

    same-talk : k.talk (machine (steps (boxes o k) n a)).machine.machine ≡ k.talk (machine (steps (boxed o k) n (bare a))).machine
    same-talk = ap k.talk (sym (bare-machine o k (steps (boxes o k) n a)) ∙ ap (λ (u : Tree (Box M)). (machine u).machine) (bare-steps n a))

    then-other : (what : Talk) → k.talk (machine (steps (boxed o k) n (bare a))).machine ≡ Some what → peer what ≢ child_number name
    unfolding spot_talks
    then-other what talks =
        names-other (spots o) (spot_talks k) (talking-spots o k talking) name (run_at o k name n t) (steps (boxes o k) n a)
        (all-whole (spots o) (spot_talks k) (machine-spots o rules) (talking-spots o k talking) (replicate n name) t h) spot-here what (same-talk ∙ talks)

    -- and then it makes its call or its talk
    pub called-here : rests_at o k name (after_steps o k n name (bare t)) ≡ false
        → subtree name (after_steps o k (n + 1) name (bare t)) ≡ Some (step (boxed o k) (steps (boxed o k) n (bare a)))
    called-here moves =
        let before : Tree (Box M) = after_steps o k n name (bare t) in
        ap (subtree name) (after-both o k n 1 name (bare t) ∙ after-first o k 0 name before ∙ after-none o k name (settle o k name before))
        ∙ own-step o k name before (steps (boxed o k) n (bare a)) ran-here moves then-other
