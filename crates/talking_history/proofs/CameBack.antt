-- A machine that comes back, as changes of the tree: its steps at its name, a word at its sibling's, and its place.
use Rattle.std.proofs.Common.{◌≡◌, ℕ, zero, suc, true, false, refl, ap, ◌∙◌, arith, Some, option_map}
use Rattle.forest_tree.specs.Operations.{Operations, IsMachine}
use Rattle.forest_tree.specs.Tree.{Tree, machine, Path, subtree, at_path}
use Rattle.forest_tree.specs.Step.{step, advanced, steps}
use Rattle.forest_tree.specs.Sound.{IsSound}
use Rattle.sibling_forest.specs.Talk.{Talks, Box, IsTalking}
use Rattle.talking_history.specs.Places.{Place, home, parked, Spot, spots, placed, spot_talks, boxes, may_run}
use Rattle.forest_tree.proofs.Changes.{at_path-agree, at_path-twice, at_path-here}
use Rattle.talking_history.specs.World.{is_resting}
use Rattle.talking_history.specs.Rows.{How, gave, ended, forked, joined, killed, sent, received, waited, back, made, run_at, came_back, Spends}
use Rattle.talking_history.specs.Changes.{told}
use Rattle.talking_history.proofs.Changes.{step-changes, machine-after}
use Rattle.talking_history.proofs.Ends.{run-sound}
use Rattle.talking_history.proofs.Turned.{ready-end, may_run-spots, steps-last, run-last, run-is}

module _ {M E : Type 0} (o : Operations M E) (k : Talks M) where
  advanced-spots : (n : ℕ) (s : Spot M) → (advanced (spots o) n s).machine ≡ advanced o n s.machine
  unfolding spots advanced
  advanced-spots zero s = refl
  advanced-spots (suc n) s = advanced-spots n ((spots o).advance s)

  abbrev mind : Tree (Box (Spot M)) → M
  mind a = (machine a).machine.machine

  mind-after : (n : ℕ) (a : Tree (Box (Spot M))) → may_run o k n (mind a) ≡ true → mind (steps (boxes o k) n a) ≡ advanced o n (mind a)
  mind-after n a own =
      ap (λ (s : Spot M). s.machine) (machine-after (spots o) (spot_talks k) n a (may_run-spots o k n (machine a).machine ∙ own))
      ∙ advanced-spots n (machine a).machine

  -- what it says is told of the machine alone
  said-by : (path : Path) (a : Tree (Box (Spot M))) (m : M) → mind a ≡ m → (t : Tree (Box (Spot M)))
      → told (spots o) (spot_talks k) ((spot_talks k).talk (machine a).machine) ((spot_talks k).word (machine a).machine) path t
      ≡ told (spots o) (spot_talks k) (k.talk m) (k.word m) path t
  unfolding spot_talks
  said-by path a m e t = ap (λ (n : M). told (spots o) (spot_talks k) (k.talk n) (k.word n) path t) e

  module _ (rules : IsMachine o) (talking : IsTalking o k) where
    quiet-back : (place : Place) (name : Path) (n : ℕ) (t a : Tree (Box (Spot M))) → IsSound (boxes o k) t → subtree name t ≡ Some a
        → may_run o k n (mind a) ≡ true
        → at_path (placed place) name (run_at o k name n t) ≡ at_path (λ u. placed place (steps (boxes o k) n u)) name t
    quiet-back place name n t a h here own =
        ap (at_path (placed place) name) (run-is o k rules talking name n t a h here own) ∙ at_path-twice (steps (boxes o k) n) (placed place) name t

    call-back : (name : Path) (n : ℕ) (t a : Tree (Box (Spot M))) → IsSound (boxes o k) t → subtree name t ≡ Some a → may_run o k n (mind a) ≡ true
        → is_resting o k name (run_at o k name n t) ≡ false
        → at_path (placed home) name (run_at o k name (suc n) t)
        ≡ at_path (placed home) name (told (spots o) (spot_talks k) (k.talk (advanced o n (mind a))) (k.word (advanced o n (mind a))) name
        (at_path (steps (boxes o k) (suc n)) name t))
    call-back name n t a h here own moves =
        let u : Tree (Box (Spot M)) = run_at o k name n t in
        let ran : u ≡ at_path (steps (boxes o k) n) name t = run-is o k rules talking name n t a h here own in
        let b : Tree (Box (Spot M)) = steps (boxes o k) n a in
        let there : subtree name u ≡ Some b = ap (subtree name) ran ∙ at_path-here (steps (boxes o k) n) name t ∙ ap (option_map (steps (boxes o k) n)) here in
        ap (at_path (placed home) name)
        (run-last o k name n t
        ∙ step-changes (spots o) (spot_talks k) name u b (run-sound o k rules talking name n t h) there moves
        ∙ said-by name b (advanced o n (mind a)) (mind-after n a own) (at_path (step (boxes o k)) name u)
        ∙ ap (told (spots o) (spot_talks k) (k.talk (advanced o n (mind a))) (k.word (advanced o n (mind a))) name)
        (ap (at_path (step (boxes o k)) name) ran
        ∙ at_path-twice (steps (boxes o k) n) (step (boxes o k)) name t
        ∙ at_path-agree (λ v. step (boxes o k) (steps (boxes o k) n v)) (steps (boxes o k) (suc n)) (λ v. steps-last o k n v) name t))

    -- with its own steps alone
    pub own-back : (how : How) (name : Path) (n : ℕ) (t a : Tree (Box (Spot M))) → IsSound (boxes o k) t → subtree name t ≡ Some a
        → Spends o k how n (is_resting o k name (run_at o k name n t)) a → made how n ≡ n
        → came_back o k how name n t ≡ at_path (λ u. placed (back how) (steps (boxes o k) n u)) name t
    own-back gave name n t a h here s own = quiet-back home name n t a h here s.ran.own
    own-back ended name n t a h here s own = quiet-back home name n t a h here s.ran.own
    own-back waited name n t a h here s own = quiet-back parked name n t a h here s.ran.own
    own-back forked name n t a h here s own = absurd (omega arith)
    own-back joined name n t a h here s own = absurd (omega arith)
    own-back killed name n t a h here s own = absurd (omega arith)
    own-back sent name n t a h here s own = absurd (omega arith)
    own-back received name n t a h here s own = absurd (omega arith)

    -- with a call or a talk
    pub called-back : (how : How) (name : Path) (n : ℕ) (t a : Tree (Box (Spot M))) → IsSound (boxes o k) t → subtree name t ≡ Some a
        → Spends o k how n (is_resting o k name (run_at o k name n t)) a → made how n ≡ suc n
        → came_back o k how name n t
        ≡ at_path (placed home) name (told (spots o) (spot_talks k) (k.talk (advanced o n (machine a).machine.machine)) (k.word (advanced o n (machine a).machine.machine)) name
        (at_path (steps (boxes o k) (suc n)) name t))
    called-back gave name n t a h here s call = absurd (omega arith)
    called-back ended name n t a h here s call = absurd (omega arith)
    called-back waited name n t a h here s call = absurd (omega arith)
    called-back forked name n t a h here s call = call-back name n t a h here s.ran.own (ready-end _ _ s.may)
    called-back joined name n t a h here s call = call-back name n t a h here s.ran.own (ready-end _ _ s.may)
    called-back killed name n t a h here s call = call-back name n t a h here s.ran.own (ready-end _ _ s.may)
    called-back sent name n t a h here s call = call-back name n t a h here s.ran.own (ready-end _ _ s.may)
    called-back received name n t a h here s call = call-back name n t a h here s.ran.own (ready-end _ _ s.may)
