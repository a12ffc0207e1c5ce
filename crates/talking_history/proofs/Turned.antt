-- A machine that is taken and comes back: of the machines and their places this is a change at its path, which leaves no
-- machine on lease.
use Rattle.std.proofs.Common.{◌≡◌, ℕ, zero, suc, ◌&&◌, not, eqb, Bool, true, false, cond, refl, sym, ap, ◌∙◌, subst, [], ◌∷◌, Option, Some, None, is_some, option_and_then, option_map}
use Rattle.std.proofs.lemmas.Bool.{and_parts, not-true}
use Rattle.forest_tree.specs.Operations.{Call, clone, join, kill, Operations, IsMachine}
use Rattle.forest_tree.specs.Tree.{Tree, node, Trees, no_tree, Broods, no_brood, brood, Log, no_entry, joined, killed, at_path, machine, broods_of, at_child, child_at, brood_of, without, at_brood}
use Rattle.forest_tree.specs.Tree.{Path, subtree}
use Rattle.forest_tree.specs.Step.{have_ended, endings, alone, children_from, children, settled_by, settled, join_by, step_by, step_from, step, steps}
use Rattle.forest_tree.specs.Sound.{IsSound}
use Rattle.forest_tree.specs.Projection.{map_tree, map_broods, map_log}
use Rattle.forest_tree.proofs.Places.{brood_of-without, child-moved}
use Rattle.forest_tree.proofs.Projected.{subtree-map, at_path-map}
use Rattle.sibling_forest.specs.Talk.{Talk, send, receive, Talks, Box, boxed, IsTalking}
use Rattle.sibling_forest.specs.Settle.{delivered, settle, settle_all}
use Rattle.sibling_forest.specs.Laws.{child_number}
use Rattle.sibling_forest.proofs.Words.{heard-machine}
use Rattle.talking_history.specs.Places.{Place, home, out, parked, Spot, put, spots, placed, spot_talks, boxes, may_run}
use Rattle.talking_history.specs.World.{is_out_at, World, holds, place_of, is_out, IsWhole, is_resting, world_of}
use Rattle.talking_history.proofs.Spots.{machine-spots, talking-spots}
use Rattle.forest_tree.proofs.Changes.{at_path-agree, at_path-leaves, at_path-twice}
use Rattle.talking_history.specs.Rows.{How, gave, ended, forked, joined, killed, sent, received, waited, took, spent, back, made, run_at, came_back, Spends, IfThere, Allows, does}
use Rattle.talking_history.specs.Changes.{to_sibling, told}
use Rattle.talking_history.proofs.Changes.{step-changes, own-changes}
use Rattle.talking_history.proofs.Ends.{put-sound, run-sound}
use Rattle.talking_history.proofs.Leases.{moves-there}

-- what rests does not, where a call is made
pub ready-end : (a resting : Bool) → a && not resting ≡ true → resting ≡ false
ready-end a resting h = not-true resting (and_parts a (not resting) h).1

module _ {M E : Type 0} (o : Operations M E) (k : Talks M) where
  pub may_run-spots : (n : ℕ) (s : Spot M) → may_run (spots o) (spot_talks k) n s ≡ may_run o k n s.machine
  unfolding spots spot_talks may_run
  may_run-spots zero s = refl
  may_run-spots (suc n) s =
      ap (λ b. not (is_some (o.ending s.machine)) && (not (is_some (o.call s.machine)) && (not (is_some (k.talk s.machine)) && b)))
      (may_run-spots n ((spots o).advance s))

  -- the tree without its words
  abbrev strip : Tree (Box (Spot M)) → Tree (Spot M)
  strip t = map_tree (λ b. b.machine) t

  abbrev spot_placed : Place → Tree (Spot M) → Tree (Spot M)
  spot_placed place (node s broods log) = node (put place s) broods log

  strip-placed : (place : Place) (t : Tree (Box (Spot M))) → strip (placed place t) ≡ spot_placed place (strip t)
  unfolding map_tree
  strip-placed place (node b broods log) = refl

  strip-delivered : (i word : ℕ) (t : Tree (Box (Spot M))) → strip (delivered (spots o) (spot_talks k) i word t) ≡ strip t
  unfolding map_tree
  strip-delivered i word (node b broods log) =
      ap (λ s. node s (map_broods (λ (c : Box (Spot M)). c.machine) broods) (map_log (λ (c : Box (Spot M)). c.machine) log))
      (heard-machine (spots o) (spot_talks k) ((spots o).ending b.machine) i word b)

  strip-told : (what : Option Talk) (word : ℕ) (path : Path) (t : Tree (Box (Spot M))) → strip (told (spots o) (spot_talks k) what word path t) ≡ strip t
  strip-told None word path t = refl
  strip-told (Some (send j)) word path t =
      at_path-map (λ (b : Box (Spot M)). b.machine) (delivered (spots o) (spot_talks k) (child_number path) word) (λ u. u)
      (λ u. strip-delivered (child_number path) word u) (to_sibling j path) t
      ∙ at_path-leaves (λ u. u) (λ u. refl) (to_sibling j path) (strip t)
  strip-told (Some (receive j)) word path t = refl

  strip-put : (place : Place) (name : Path) (t : Tree (Box (Spot M))) → strip (at_path (placed place) name t) ≡ at_path (spot_placed place) name (strip t)
  strip-put place name t =
      at_path-map (λ (b : Box (Spot M)). b.machine) (placed place) (spot_placed place) (λ u. strip-placed place u) name t

  strip-said : (place : Place) (name : Path) (what : Option Talk) (word : ℕ) (t : Tree (Box (Spot M)))
      → strip (at_path (placed place) name (told (spots o) (spot_talks k) what word name t)) ≡ strip (at_path (placed place) name t)
  strip-said place name what word t =
      strip-put place name (told (spots o) (spot_talks k) what word name t)
      ∙ ap (at_path (spot_placed place) name) (strip-told what word name t) ∙ sym (strip-put place name t)

  -- the machine that comes back, with its steps
  abbrev pub turned : How → ℕ → Tree (Box (Spot M)) → Tree (Box (Spot M))
  turned how n a = placed (back how) (steps (boxes o k) (made how n) (placed out a))

  pub steps-last : (n : ℕ) (t : Tree (Box (Spot M))) → step (boxes o k) (steps (boxes o k) n t) ≡ steps (boxes o k) (suc n) t
  unfolding steps
  steps-last zero t = refl
  steps-last (suc n) t = steps-last n (step (boxes o k) t)

  pub run-last : (name : Path) (n : ℕ) (t : Tree (Box (Spot M))) → run_at o k name (suc n) t ≡ settle (spots o) (spot_talks k) name (run_at o k name n t)
  unfolding settle_all
  run-last name zero t = refl
  run-last name (suc n) t = run-last name n (settle (spots o) (spot_talks k) name t)

  module _ (rules : IsMachine o) (talking : IsTalking o k) where
    -- own steps
    abbrev ran : Path → ℕ → Tree (Box (Spot M)) → Tree (Box (Spot M))
    ran name n t = at_path (steps (boxes o k) n) name t

    pub run-is : (name : Path) (n : ℕ) (t a : Tree (Box (Spot M))) → IsSound (boxes o k) t → subtree name t ≡ Some a → may_run o k n (machine a).machine.machine ≡ true
        → run_at o k name n t ≡ ran name n t
    run-is name n t a h here own =
        own-changes (spots o) (spot_talks k) (machine-spots o rules) (talking-spots o k talking) n name t a h here (may_run-spots n (machine a).machine ∙ own)

    -- of its own steps alone, and with a call or a talk
    quiet-turn : (place : Place) (name : Path) (n : ℕ) (t a : Tree (Box (Spot M))) → IsSound (boxes o k) t → subtree name t ≡ Some a
        → may_run o k n (machine a).machine.machine ≡ true
        → strip (at_path (placed place) name (run_at o k name n t)) ≡ strip (at_path (λ u. placed place (steps (boxes o k) n u)) name t)
    quiet-turn place name n t a h here own =
        ap (λ u. strip (at_path (placed place) name u)) (run-is name n t a h here own) ∙ ap strip (at_path-twice (steps (boxes o k) n) (placed place) name t)

    call-turn : (place : Place) (name : Path) (n : ℕ) (t a : Tree (Box (Spot M))) → IsSound (boxes o k) t → subtree name t ≡ Some a
        → may_run o k n (machine a).machine.machine ≡ true → is_resting o k name (run_at o k name n t) ≡ false
        → strip (at_path (placed place) name (run_at o k name (suc n) t)) ≡ strip (at_path (λ u. placed place (steps (boxes o k) (suc n) u)) name t)
    call-turn place name n t a h here own moves =
        let u : Tree (Box (Spot M)) = run_at o k name n t in
        let m = moves-there (spots o) (spot_talks k) name u moves in
        let what : Option Talk = (spot_talks k).talk (machine m.0).machine in
        let word : ℕ = (spot_talks k).word (machine m.0).machine in
        ap (λ v. strip (at_path (placed place) name v))
        (run-last name n t ∙ step-changes (spots o) (spot_talks k) name u m.0 (run-sound o k rules talking name n t h) m.1 moves)
        ∙ strip-said place name what word (at_path (step (boxes o k)) name u)
        ∙ ap strip (ap (at_path (placed place) name) (ap (at_path (step (boxes o k)) name) (run-is name n t a h here own)
        ∙ at_path-twice (steps (boxes o k) n) (step (boxes o k)) name t
        ∙ at_path-agree (λ v. step (boxes o k) (steps (boxes o k) n v)) (steps (boxes o k) (suc n)) (λ v. steps-last n v) name t)
        ∙ at_path-twice (steps (boxes o k) (suc n)) (placed place) name t)

    turn-here : (how : How) (name : Path) (n : ℕ) (t a : Tree (Box (Spot M))) → IsSound (boxes o k) t → subtree name t ≡ Some a
        → Spends o k how n (is_resting o k name (run_at o k name n t)) a
        → strip (came_back o k how name n t) ≡ strip (at_path (λ u. placed (back how) (steps (boxes o k) (made how n) u)) name t)
    turn-here gave name n t a h here s = quiet-turn home name n t a h here s.ran.own
    turn-here ended name n t a h here s = quiet-turn home name n t a h here s.ran.own
    turn-here waited name n t a h here s = quiet-turn parked name n t a h here s.ran.own
    turn-here forked name n t a h here s = call-turn home name n t a h here s.ran.own (ready-end _ _ s.may)
    turn-here joined name n t a h here s = call-turn home name n t a h here s.ran.own (ready-end _ _ s.may)
    turn-here killed name n t a h here s = call-turn home name n t a h here s.ran.own (ready-end _ _ s.may)
    turn-here sent name n t a h here s = call-turn home name n t a h here s.ran.own (ready-end _ _ s.may)
    turn-here received name n t a h here s = call-turn home name n t a h here s.ran.own (ready-end _ _ s.may)

    -- a machine that is taken and comes back
    turn-there : (how : How) (name : Path) (n : ℕ) (t : Tree (Box (Spot M))) (c : Option (Tree (Box (Spot M)))) → IsSound (boxes o k) t → subtree name t ≡ c
        → IfThere (Spends o k how n (is_resting o k name (run_at o k name n t))) c
        → strip (came_back o k how name n t) ≡ strip (at_path (λ u. placed (back how) (steps (boxes o k) (made how n) u)) name t)
    turn-there how name n t None h here s = absurd s
    turn-there how name n t (Some a) h here s = turn-here how name n t a h here s

    pub turn-is : {R : Type 0} (how : How) (name : Path) (n : ℕ) (w : World M R) → IsSound (boxes o k) w.tree
        → Allows o k (spent how name n) (does o k (took name) w)
        → map_tree (λ (b : Box (Spot M)). b.machine) (does o k (spent how name n) (does o k (took name) w)).tree
        ≡ map_tree (λ (b : Box (Spot M)). b.machine) (at_path (turned how n) name w.tree)
    unfolding Allows does
    turn-is how name n w h allowed =
        let t : Tree (Box (Spot M)) = at_path (placed out) name w.tree in
        turn-there how name n t (subtree name t) (put-sound o k rules talking out name w.tree h) refl allowed
        ∙ ap strip (at_path-twice (placed out) (λ u. placed (back how) (steps (boxes o k) (made how n) u)) name w.tree)

module _ {M E : Type 0} (o : Operations M E) (k : Talks M) where
  abbrev is_away : Tree (Box (Spot M)) → Bool
  is_away t = is_out_at (place_of t)

  -- no machine of the trees, or of the broods, is out
  abbrev AtHome : Trees (Box (Spot M)) → Type 0
  AtHome trees = (j : ℕ) (way : Path) → holds is_away (option_and_then (subtree way) (child_at j trees)) ≡ false

  abbrev AreHome : Broods (Box (Spot M)) → Type 0
  AreHome broods = (t : ℕ) → AtHome (brood_of t broods)

  whole-node : (s : Box (Spot M)) (broods : Broods (Box (Spot M))) (log : Log (Box (Spot M))) → is_out_at s.machine.place ≡ false → AreHome broods
      → IsWhole (node s broods log)
  unfolding subtree
  whole-node s broods log here below [] = here
  whole-node s broods log here below (b ∷ way) = below b.ticket b.child way

  root-home : (s : Box (Spot M)) (broods : Broods (Box (Spot M))) (log : Log (Box (Spot M))) → IsWhole (node s broods log) → is_out_at s.machine.place ≡ false
  unfolding subtree
  root-home s broods log whole = whole []

  below-home : (s : Box (Spot M)) (broods : Broods (Box (Spot M))) (log : Log (Box (Spot M))) → IsWhole (node s broods log) → AreHome broods
  unfolding subtree
  below-home s broods log whole t j way = whole (record { ticket = t; child = j } ∷ way)

  none-home : AtHome no_tree
  unfolding child_at
  none-home j way = refl

  no-brood-home : AreHome no_brood
  unfolding brood_of
  no-brood-home t j way = none-home j way

  cond-home : (same : Bool) (a b : Trees (Box (Spot M))) → AtHome a → AtHome b → AtHome (cond same a b)
  cond-home true a b h g = h
  cond-home false a b h g = g

  pub start-home : (R : Type 0) (m : M) → IsWhole (world_of o k {R = R} m).tree
  start-home R m = whole-node (record { machine = record { machine = m; place = home }; inbox = [] }) no_brood no_entry refl no-brood-home

  -- a step lets no machine out
  born-home : (s : Box (Spot M)) (j : ℕ) → IsWhole (alone (boxes o k) ((boxes o k).child s j))
  unfolding boxed spots
  born-home s j = whole-node ((boxes o k).child s j) no_brood no_entry refl no-brood-home

  children_from-home : (s : Box (Spot M)) (n j : ℕ) → AtHome (children_from (boxes o k) s j n)
  unfolding children_from child_at
  children_from-home s zero j i way = refl
  children_from-home s (suc n) j zero way = refl
  children_from-home s (suc n) j (suc zero) way = born-home s j way
  children_from-home s (suc n) j (suc (suc i)) way = children_from-home s n (suc j) (suc i) way

  settled_by-home : (e : Option E) (s : Box (Spot M)) (broods : Broods (Box (Spot M))) (log : Log (Box (Spot M))) → AreHome broods
      → AreHome (broods_of (settled_by (boxes o k) e s broods log))
  settled_by-home None s broods log h = h
  settled_by-home (Some ending) s broods log h = no-brood-home

  settled-home : (s : Box (Spot M)) (broods : Broods (Box (Spot M))) (log : Log (Box (Spot M))) → AreHome broods → AreHome (broods_of (settled (boxes o k) s broods log))
  settled-home s broods log h = settled_by-home ((boxes o k).ending s) s broods log h

  brood-home : (t : ℕ) (trees : Trees (Box (Spot M))) (broods : Broods (Box (Spot M))) → AtHome trees → AreHome broods → AreHome (brood t trees broods)
  unfolding brood_of
  brood-home t trees broods h rest u = cond-home (eqb t u) trees (brood_of u broods) h (rest u)

  without-home : (t : ℕ) (broods : Broods (Box (Spot M))) → AreHome broods → AreHome (without t broods)
  without-home t broods h u =
      subst AtHome (sym (brood_of-without t u broods)) (cond-home (eqb t u) no_tree (brood_of u broods) none-home (h u))

  join_by-home : (ready : Bool) (t : ℕ) (s : Box (Spot M)) (broods : Broods (Box (Spot M))) (log : Log (Box (Spot M))) → AreHome broods
      → AreHome (broods_of (join_by (boxes o k) ready t s broods log))
  join_by-home false t s broods log h = h
  join_by-home true t s broods log h =
      settled-home ((boxes o k).after_join s (endings (boxes o k) (brood_of t broods))) (without t broods) (joined log t (brood_of t broods))
      (without-home t broods h)

  step_by-home : (next : Option Call) (s : Box (Spot M)) (broods : Broods (Box (Spot M))) (log : Log (Box (Spot M))) → AreHome broods
      → AreHome (broods_of (step_by (boxes o k) next s broods log))
  step_by-home None s broods log h = settled-home ((boxes o k).advance s) broods log h
  step_by-home (Some (clone t)) s broods log h =
      settled-home ((boxes o k).forked s) (brood t (children (boxes o k) s t) broods) log
      (brood-home t (children (boxes o k) s t) broods (children_from-home s ((boxes o k).grant s t).children 1) h)
  step_by-home (Some (join t)) s broods log h = join_by-home (have_ended (boxes o k) (brood_of t broods)) t s broods log h
  step_by-home (Some (kill t)) s broods log h =
      settled-home ((boxes o k).after_kill s) (without t broods) (killed log t ((boxes o k).grant s t).children) (without-home t broods h)

  step_from-home : (e : Option E) (s : Box (Spot M)) (broods : Broods (Box (Spot M))) (log : Log (Box (Spot M))) → AreHome broods
      → AreHome (broods_of (step_from (boxes o k) e s broods log))
  step_from-home None s broods log h = step_by-home ((boxes o k).call s) s broods log h
  step_from-home (Some ending) s broods log h = h

  step-home : (t : Tree (Box (Spot M))) → AreHome (broods_of t) → AreHome (broods_of (step (boxes o k) t))
  unfolding step
  step-home (node s broods log) h = step_from-home ((boxes o k).ending s) s broods log h

  steps-home : (n : ℕ) (t : Tree (Box (Spot M))) → AreHome (broods_of t) → AreHome (broods_of (steps (boxes o k) n t))
  unfolding steps
  steps-home zero t h = h
  steps-home (suc n) t h = steps-home n (step (boxes o k) t) (step-home t h)

  put-home : (place : Place) → is_out_at place ≡ false → (t : Tree (Box (Spot M))) → AreHome (broods_of t) → IsWhole (placed place t)
  put-home place inside (node b broods log) h = whole-node (record b { machine = put place b.machine }) broods log inside h

  -- a change that lets no machine out
  changed-home : (f : Tree (Box (Spot M)) → Tree (Box (Spot M))) (same : Bool) (c : Option (Tree (Box (Spot M))))
      → ((t : Tree (Box (Spot M))) → IsWhole t → IsWhole (f t))
      → ((way : Path) → holds is_away (option_and_then (subtree way) c) ≡ false)
      → (way : Path) → holds is_away (option_and_then (subtree way) (cond same (option_map f c) c)) ≡ false
  changed-home f false c down h way = h way
  changed-home f true None down h way = refl
  changed-home f true (Some t) down h way = down t h way

  at_path-home : (f : Tree (Box (Spot M)) → Tree (Box (Spot M))) → ((t : Tree (Box (Spot M))) → IsWhole t → IsWhole (f t)) → (path : Path) (t : Tree (Box (Spot M)))
      → IsWhole t → IsWhole (at_path f path t)
  unfolding at_path
  at_path-home f keeps [] t whole = keeps t whole
  at_path-home f keeps (b ∷ path) (node s broods log) whole =
      whole-node s (at_brood (at_child (at_path f path) b.child) b.ticket broods) log (root-home s broods log whole)
      (λ t j way.
      subst (λ c. holds is_away (option_and_then (subtree way) c) ≡ false)
      (sym (child-moved (at_path f path) (record { ticket = t; child = j }) b broods))
      (changed-home (at_path f path) (eqb b.ticket t && eqb b.child j) (child_at j (brood_of t broods))
      (λ u inside. at_path-home f keeps path u inside) (λ v. below-home s broods log whole t j v) way))

  -- a turn, of which the words are not seen
  turned-home : (how : How) (n : ℕ) (t : Tree (Box (Spot M))) → IsWhole t → IsWhole (turned o k how n t)
  turned-home how n (node b broods log) whole =
      put-home (back how) (inside how) (steps (boxes o k) (made how n) (placed out (node b broods log)))
      (steps-home (made how n) (placed out (node b broods log)) (below-home b broods log whole))
    where
      inside : (way : How) → is_out_at (back way) ≡ false
      inside gave = refl
      inside ended = refl
      inside forked = refl
      inside joined = refl
      inside killed = refl
      inside sent = refl
      inside received = refl
      inside waited = refl

  machine-strip : (u : Tree (Box (Spot M))) → is_out_at (place_of u) ≡ is_out_at (machine (map_tree (λ (b : Box (Spot M)). b.machine) u)).place
  unfolding map_tree
  machine-strip (node b broods log) = refl

  -- the places are told of the tree without its words
  out-strip : (name : Path) (t : Tree (Box (Spot M)))
      → is_out name t ≡ holds (λ (u : Tree (Spot M)). is_out_at (machine u).place) (subtree name (map_tree (λ (b : Box (Spot M)). b.machine) t))
  out-strip name t = by (subtree name t) ∙ ap (holds (λ (u : Tree (Spot M)). is_out_at (machine u).place)) (sym (subtree-map (λ (b : Box (Spot M)). b.machine) name t))
    where
      by : (c : Option (Tree (Box (Spot M)))) → holds is_away c
          ≡ holds (λ (u : Tree (Spot M)). is_out_at (machine u).place) (option_map (map_tree (λ (b : Box (Spot M)). b.machine)) c)
      by None = refl
      by (Some u) = machine-strip u

  pub turn-home : {R : Type 0} → IsMachine o → IsTalking o k → (how : How) (name : Path) (n : ℕ) (w : World M R) → IsSound (boxes o k) w.tree → IsWhole w.tree
      → Allows o k (spent how name n) (does o k (took name) w) → IsWhole (does o k (spent how name n) (does o k (took name) w)).tree
  turn-home rules talking how name n w h whole allowed at =
      out-strip at (does o k (spent how name n) (does o k (took name) w)).tree
      ∙ ap (λ t. holds (λ (u : Tree (Spot M)). is_out_at (machine u).place) (subtree at t)) (turn-is o k rules talking how name n w h allowed)
      ∙ sym (out-strip at (at_path (turned o k how n) name w.tree))
      ∙ at_path-home (turned o k how n) (λ t inside. turned-home how n t inside) name w.tree whole at
