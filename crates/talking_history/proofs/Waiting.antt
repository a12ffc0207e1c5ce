-- Who waits goes on waiting while another machine makes steps, but for a child that it joins and the sibling that its talk names.
use Rattle.std.proofs.Common.{◌≡◌, ◌≢◌, ℕ, zero, suc, Bool, true, false, refl, sym, ap, ◌∙◌, subst, [], ◌∷◌, ◌++◌, Option, Some, None}
use Rattle.forest_tree.specs.Operations.{join, Operations, IsMachine}
use Rattle.forest_tree.specs.Tree.{Tree, machine, Branch, Path, subtree}
use Rattle.forest_tree.specs.Sound.{IsSound}
use Rattle.sibling_forest.specs.Talk.{Talk, peer, Talks, Box, IsTalking}
use Rattle.sibling_forest.specs.Settle.{settle_all}
use Rattle.sibling_forest.specs.Laws.{child_number, is_sibling}
use Rattle.sibling_forest.proofs.Wakes.{waits-on}
use Rattle.talking_history.specs.Places.{Spot, spots, spot_talks, boxes}
use Rattle.talking_history.specs.Histories.{is_same_path}
use Rattle.talking_history.proofs.Held.{same-is}
use Rattle.talking_history.proofs.Spots.{machine-spots, talking-spots}
use Rattle.talking_history.specs.World.{is_resting}
use Rattle.talking_history.specs.Rows.{run_at}
use Rattle.forest_tree.proofs.Names.{gone-none}
use Rattle.talking_history.proofs.Leases.{moves-there, lost-goes, other-stays, all, step_of, step-sound}
use Rattle.talking_history.proofs.Names.{run-gone}

module _ {M E : Type 0} (o : Operations M E) (k : Talks M) (rules : IsMachine o) (talking : IsTalking o k) (name other : Path) where
  -- the other machine is no child that this one joins, and no sibling that its talk names
  abbrev Joins : M → Type 0
  Joins m = (b : Branch) → other ≡ name ++ (b ∷ []) → o.call m ≢ Some (join b.ticket)

  abbrev Names : M → Type 0
  Names m = is_sibling name other ≡ true → (said : Talk) → k.talk m ≡ Some said → peer said ≢ child_number other

  abbrev after : Tree (Box (Spot M)) → Tree (Box (Spot M))
  after t = step_of o k rules talking other t

  one-waits : (t a : Tree (Box (Spot M))) → IsSound (boxes o k) t → subtree name t ≡ Some a → other ≢ name → Joins (machine a).machine.machine
      → Names (machine a).machine.machine → is_resting o k name t ≡ true → is_resting o k name (after t) ≡ true
  unfolding spots spot_talks
  one-waits t a h here apart joins names rest =
      waits-on (spots o) (spot_talks k) (machine-spots o rules) (talking-spots o k talking) name other t a h here apart joins names rest

  other-path : other ≢ name → is_same_path name other ≡ false
  other-path apart = by (is_same_path name other) refl
    where
      by : (same : Bool) → is_same_path name other ≡ same → same ≡ false
      by false e = refl
      by true e = absurd (apart (sym (same-is name other e)))

  -- where it is no more, it rests
  gone-rests : (n : ℕ) (t a : Tree (Box (Spot M))) → IsSound (boxes o k) t → subtree name t ≡ Some a → subtree name (after t) ≡ None
      → is_resting o k name (run_at o k other n (after t)) ≡ true
  gone-rests n t a h here there = by (is_resting o k name (run_at o k other n (after t))) refl
    where
      none : subtree name (run_at o k other n (after t)) ≡ None
      none =
          gone-none (boxes o k) (all o k rules talking) name (run_at o k other n (after t))
          (run-gone o k rules talking name other n (after t) (step-sound o k rules talking other t h)
          (lost-goes (spots o) (spot_talks k) (machine-spots o rules) (talking-spots o k talking) (all o k rules talking) name other t a h here there))

      by : (resting : Bool) → is_resting o k name (run_at o k other n (after t)) ≡ resting → resting ≡ true
      by true e = refl
      by false e =
          let there = moves-there (spots o) (spot_talks k) name (run_at o k other n (after t)) e in
          let no : None ≡ Some there.0 = sym none ∙ there.1 in
          absurd (cc)

  pub waits-on-run : (n : ℕ) (t a : Tree (Box (Spot M))) → IsSound (boxes o k) t → subtree name t ≡ Some a → other ≢ name
      → Joins (machine a).machine.machine → Names (machine a).machine.machine → is_resting o k name t ≡ true
      → is_resting o k name (run_at o k other n t) ≡ true
  unfolding settle_all
  waits-on-run zero t a h here apart joins names rest = rest
  waits-on-run (suc n) t a h here apart joins names rest =
      by (subtree name (after t)) refl
      (λ b found. waits-on-run n (after t) b (step-sound o k rules talking other t h) found apart
      (subst Joins (ap (λ (s : Spot M). s.machine) (sym (same b found))) joins)
      (subst Names (ap (λ (s : Spot M). s.machine) (sym (same b found))) names)
      (one-waits t a h here apart joins names rest))
    where
      same : (b : Tree (Box (Spot M))) → subtree name (after t) ≡ Some b → (machine b).machine ≡ (machine a).machine
      same b found =
          other-stays (spots o) (spot_talks k) (machine-spots o rules) (talking-spots o k talking) (all o k rules talking) name other t a b h
          (other-path apart) here found

      by : (c : Option (Tree (Box (Spot M)))) → subtree name (after t) ≡ c
          → ((b : Tree (Box (Spot M))) → subtree name (after t) ≡ Some b → is_resting o k name (run_at o k other n (after t)) ≡ true)
          → is_resting o k name (run_at o k other n (after t)) ≡ true
      by None e down = gone-rests n t a h here e
      by (Some b) e down = down b e
