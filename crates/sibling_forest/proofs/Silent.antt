-- Only a machine that talks can keep a tree at rest whose root lives, so a silent tree comes to the end of its root.
use Rattle.std.proofs.Common.{◌≡◌, ℕ, zero, suc, inl, inr, true, false, refl, sym, ap, ◌∙◌, subst, List, [], ◌∷◌, Option, Some, None, IsSome, is_some}
use Rattle.std.proofs.lemmas.Bool.{or_from, or_parts}
use Rattle.forest_tree.specs.Operations.{Operations, IsMachine}
use Rattle.forest_tree.specs.Tree.{Tree, node, machine, child_at, brood_of, Path, subtree}
use Rattle.forest_tree.specs.Step as own
use Rattle.forest_tree.specs.Sound.{IsSound}
use Rattle.forest_tree.proofs.Ahead.{live-moves}
use Rattle.forest_tree.proofs.Places.{some-same, is-within}
use Rattle.forest_tree.proofs.Rests.{lives-none}
use Rattle.sibling_forest.specs.Talk.{Talk, Talks, Box, boxed, IsTalking}
use Rattle.sibling_forest.specs.Settle.{waits_by, sibling_rests_by, settle, settle_all, rests_there, rests_at}
use Rattle.sibling_forest.specs.Finish.{rests, next_path, go_on, run, finish}
use Rattle.sibling_forest.specs.Laws.{IsSilent}
use Rattle.sibling_forest.proofs.Resting.{rests-all}
use Rattle.sibling_forest.proofs.Finish.{IsOver, finish-ends}

module _ {M E : Type 0} (o : Operations M E) (k : Talks M) where
  -- a live machine that waits for no children and does not talk makes a step
  pub moves-here : (path : Path) (t a : Tree (Box M)) → subtree path t ≡ Some a → own.rests (boxed o k) (Some a) ≡ false
      → k.talk (machine a).machine ≡ None → rests_at o k path t ≡ false
  unfolding rests_at subtree
  moves-here [] t a here moves quiet = ap (λ (u : Tree (Box M)). own.rests (boxed o k) (Some u)) (some-same t a here) ∙ moves
  moves-here (b ∷ []) (node x broods log) a here moves quiet =
      let is = is-within (boxed o k) [] (child_at b.child (brood_of b.ticket broods)) a here in
      ap (λ c. sibling_rests_by o k c b.child (brood_of b.ticket broods)) (is.1 ∙ is.2)
      ∙ or_from _ _ moves (ap (λ what. waits_by o k what b.child (machine a) (brood_of b.ticket broods)) quiet)
  moves-here (b ∷ (c ∷ path)) (node x broods log) a here moves quiet =
      let is = is-within (boxed o k) (c ∷ path) (child_at b.child (brood_of b.ticket broods)) a here in
      ap (rests_there (rests_at o k (c ∷ path))) is.1 ∙ moves-here (c ∷ path) is.0 a is.2 moves quiet

  -- a live machine at a talk
  abbrev pub SomeTalks : Tree (Box M) → Type 0
  SomeTalks t =
      (path : Path) × (a : Tree (Box M)) × (subtree path t ≡ Some a) × (o.ending (machine a).machine ≡ None) × IsSome (k.talk (machine a).machine)

  lives : (a : Tree (Box M)) → own.rests (boxed o k) (Some a) ≡ false → o.ending (machine a).machine ≡ None
  unfolding boxed
  lives a moves = lives-none (o.ending (machine a).machine) (or_parts (is_some (o.ending (machine a).machine)) (own.waits (boxed o k) a) moves).0

  talks-there : (path : Path) (t : Tree (Box M)) → rests_at o k path t ≡ true → (c : Option (Tree (Box M))) → subtree path t ≡ c
      → own.rests (boxed o k) c ≡ false → SomeTalks t
  talks-there path t rest None here moves = absurd (cc)
  talks-there path t rest (Some a) here moves = by (k.talk (machine a).machine) refl
    where
      by : (what : Option Talk) → k.talk (machine a).machine ≡ what → SomeTalks t
      by None quiet = let no : true ≡ false = sym rest ∙ moves-here path t a here moves quiet in absurd (cc)
      by (Some what) is = (path, a, here, lives a moves, subst IsSome (sym is) refl)

  pub some-talks : (t : Tree (Box M)) → rests o k t ≡ true → o.ending (machine t).machine ≡ None → SomeTalks t
  unfolding boxed
  some-talks t rest alive =
      let moves = live-moves (boxed o k) t (ap is_some alive) in
      talks-there moves.0 t (rests-all o k t rest moves.0) (subtree moves.0 t) refl moves.1

  -- a finish is steps
  run-steps : (n : ℕ) (t : Tree (Box M)) → (paths : List Path) × (run o k n t ≡ settle_all o k paths t)
  unfolding run settle_all
  run-steps zero t = ([], refl)
  run-steps (suc n) t = by (next_path o k t) (λ path. run-steps n (settle o k path t))
    where
      by : (next : Option Path) → ((path : Path) → (paths : List Path) × (run o k n (settle o k path t) ≡ settle_all o k paths (settle o k path t)))
          → (paths : List Path) × (go_on o k next (λ path. run o k n (settle o k path t)) t ≡ settle_all o k paths t)
      by None down = ([], refl)
      by (Some path) down = (path ∷ (down path).0, (down path).1)

  pub finish-steps : (t : Tree (Box M)) → (paths : List Path) × (finish o k t ≡ settle_all o k paths t)
  unfolding finish
  finish-steps t = run-steps _ t

  pub silent-ends : (rules : IsMachine o) (talking : IsTalking o k) (t : Tree (Box M)) → IsSound (boxed o k) t → IsSilent o k t
      → IsSome (o.ending (machine (finish o k t)).machine)
  unfolding IsOver
  silent-ends rules talking t h silent = by (finish-ends o k rules talking t h).over
    where
      stuck : rests o k (finish o k t) ≡ true → (e : Option E) → o.ending (machine (finish o k t)).machine ≡ e → IsSome e
      stuck rest (Some ending) is = refl
      stuck rest None is =
          let stood = some-talks (finish o k t) rest is in
          let ran = finish-steps t in
          let none : k.talk (machine stood.1).machine ≡ None =
          silent ran.0 stood.0 stood.1 (ap (subtree stood.0) (sym ran.1) ∙ stood.2) stood.3 in
          let no : IsSome {T = Talk} None = subst IsSome none stood.4 in
          absurd (cc)

      by : IsOver o k rules talking (finish o k t) → IsSome (o.ending (machine (finish o k t)).machine)
      by (inl ended) = ended
      by (inr rest) = stuck rest (o.ending (machine (finish o k t)).machine) refl
