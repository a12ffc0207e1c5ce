-- A machine that has left the tree does not come back, over steps in any order and over histories.
use Rattle.std.proofs.Common.{◌≡◌, ℕ, refl, sym, ap, ◌∙◌, List, [], ◌∷◌, ◌++◌, replicate, inl, inr, Option, Some, None, IsSome}
use Rattle.forest_tree.specs.Operations.{Operations, IsMachine}
use Rattle.forest_tree.specs.Tree.{Tree, machine, Path, subtree, at_path}
use Rattle.forest_tree.specs.Sound.{IsSound}
use Rattle.forest_tree.proofs.Steps.{cases-ending}
use Rattle.sibling_forest.specs.Talk.{Talks, Box, boxed, IsTalking}
use Rattle.sibling_forest.specs.Settle.{settle, settle_all}
use Rattle.sibling_forest.proofs.Boxes.{boxed-machine}
use Rattle.sibling_forest.proofs.Sound.{settle-keeps, settle_all-keeps}
use Rattle.talking_history.specs.Places.{Place, out, Spot, spots, placed, spot_talks, boxes}
use Rattle.talking_history.specs.Histories.{Seat, Entry, row, told, heard, tell_failed, hear_failed, History, Record, record_of, record_after, replay}
use Rattle.talking_history.proofs.Spots.{machine-spots, machine-placed, talking-spots}
use Rattle.talking_history.specs.World.{World}
use Rattle.talking_history.specs.Rows.{Row, over, stopped, stuck, idle, took, wake_failed, spent, dropped, kept, halted, back, made, run_at, does}
use Rattle.talking_history.proofs.Histories.{after-sound, replay-append, replay-sound}
use Rattle.forest_tree.proofs.Names.{IsGone, gone-none}
use Rattle.talking_history.proofs.Gone.{path-seen}
use Rattle.talking_history.proofs.Leases.{none-seen, gone-stays, lost-goes, all, Gone, placed-below, put-gone}

-- steps in any order
module _ {M E : Type 0} (o : Operations M E) (k : Talks M) (rules : IsMachine o) (talking : IsTalking o k) (boxes_rules : IsMachine (boxed o k)) where
  pub steps-gone : (at : Path) (paths : List Path) (t : Tree (Box M)) → IsSound (boxed o k) t → IsGone (boxed o k) boxes_rules at t
      → IsGone (boxed o k) boxes_rules at (settle_all o k paths t)
  unfolding settle_all
  steps-gone at [] t h gone = gone
  steps-gone at (path ∷ rest) t h gone =
      steps-gone at rest (settle o k path t) (settle-keeps o k rules talking path t h).sound (gone-stays o k rules talking boxes_rules at path t h gone)

  pub steps-lost : (at : Path) (paths : List Path) (t a : Tree (Box M)) → IsSound (boxed o k) t → subtree at t ≡ Some a
      → subtree at (settle_all o k paths t) ≡ None → IsGone (boxed o k) boxes_rules at (settle_all o k paths t)
  unfolding settle_all
  steps-lost at [] t a h here there = let no : None ≡ Some a = sym there ∙ here in absurd (cc)
  steps-lost at (path ∷ rest) t a h here there =
      let sound : IsSound (boxed o k) (settle o k path t) = (settle-keeps o k rules talking path t h).sound in
      elim (cases-ending (subtree at (settle o k path t))) [
        | inl found ↦ steps-lost at rest (settle o k path t) found.0 sound found.1 there
        | inr lost ↦ steps-gone at rest (settle o k path t) sound (lost-goes o k rules talking boxes_rules at path t a h here lost)
      ]

  left-by : (at : Path) (paths more : List Path) (t : Tree (Box M)) → IsSound (boxed o k) t → (c : Option (Tree (Box M))) → subtree at t ≡ c → IsSome c
      → subtree at (settle_all o k paths t) ≡ None → subtree at (settle_all o k more (settle_all o k paths t)) ≡ None
  left-by at paths more t h None here there lost = absurd (cc)
  left-by at paths more t h (Some a) here there lost =
      gone-none (boxed o k) boxes_rules at (settle_all o k more (settle_all o k paths t))
      (steps-gone at more (settle_all o k paths t) (settle_all-keeps o k rules talking paths t h).sound (steps-lost at paths t a h here lost))

module _ {M E : Type 0} (o : Operations M E) (k : Talks M) (rules : IsMachine o) (talking : IsTalking o k) where
  pub left-by-steps : (at : Path) (paths more : List Path) (t : Tree (Box M)) → IsSound (boxed o k) t → IsSome (subtree at t)
      → subtree at (settle_all o k paths t) ≡ None → subtree at (settle_all o k more (settle_all o k paths t)) ≡ None
  left-by-steps at paths more t h there lost =
      left-by o k rules talking (boxed-machine o k rules talking) at paths more t h (subtree at t) refl there lost

module _ {M E : Type 0} (o : Operations M E) (k : Talks M) (rules : IsMachine o) (talking : IsTalking o k) where
  abbrev IsLost : Path → Tree (Box (Spot M)) → Type 0
  IsLost name t = Gone o k rules talking name t

  pub run-gone : (name other : Path) (n : ℕ) (t : Tree (Box (Spot M))) → IsSound (boxes o k) t → IsLost name t → IsLost name (run_at o k other n t)
  run-gone name other n t h gone =
      steps-gone (spots o) (spot_talks k) (machine-spots o rules) (talking-spots o k talking) (all o k rules talking) name (replicate n other) t h gone

  run-lost : (name other : Path) (n : ℕ) (t a : Tree (Box (Spot M))) → IsSound (boxes o k) t → subtree name t ≡ Some a
      → subtree name (run_at o k other n t) ≡ None → IsLost name (run_at o k other n t)
  run-lost name other n t a h here there =
      steps-lost (spots o) (spot_talks k) (machine-spots o rules) (talking-spots o k talking) (all o k rules talking) name (replicate n other) t a h here there

  put-none : (place : Place) (name other : Path) (t : Tree (Box (Spot M))) → subtree name (at_path (placed place) other t) ≡ None → subtree name t ≡ None
  put-none place name other t none =
      none-seen o k (λ (u : Tree (Box (Spot M))). (machine u).machine.machine) (subtree name (at_path (placed place) other t)) (subtree name t)
      (path-seen (λ (b : Box (Spot M)). b.machine.machine) (placed place) (λ u. placed-below o k rules talking place u) other name t
      (λ same u. ap (λ (s : Spot M). s.machine) (machine-placed place u))) none

  -- the rows
  row-gone : {R : Type 0} (name : Path) (x : Row R) (w : World M R) → IsSound (boxes o k) w.tree → IsLost name w.tree → IsLost name (does o k x w).tree
  unfolding does
  row-gone name over w h gone = gone
  row-gone name (stopped r) w h gone = gone
  row-gone name stuck w h gone = gone
  row-gone name idle w h gone = gone
  row-gone name (took other) w h gone = put-gone o k rules talking out name other w.tree gone
  row-gone name wake_failed w h gone = gone
  row-gone name (spent how other n) w h gone =
      put-gone o k rules talking (back how) name other (run_at o k other (made how n) w.tree) (run-gone name other (made how n) w.tree h gone)
  row-gone name (dropped other) w h gone = gone
  row-gone name (kept other n) w h gone = gone
  row-gone name (halted r) w h gone = gone

  still-there : {A : Type 0} (c : Option A) (a : A) → c ≡ Some a → c ≡ None → ⊥
  still-there c a here none = let no : None ≡ Some a = sym none ∙ here in cc

  row-lost : {R : Type 0} (name : Path) (x : Row R) (w : World M R) (a : Tree (Box (Spot M))) → IsSound (boxes o k) w.tree → subtree name w.tree ≡ Some a
      → subtree name (does o k x w).tree ≡ None → IsLost name (does o k x w).tree
  unfolding does
  row-lost name over w a h here there = absurd (still-there (subtree name w.tree) a here there)
  row-lost name (stopped r) w a h here there = absurd (still-there (subtree name w.tree) a here there)
  row-lost name stuck w a h here there = absurd (still-there (subtree name w.tree) a here there)
  row-lost name idle w a h here there = absurd (still-there (subtree name w.tree) a here there)
  row-lost name (took other) w a h here there = absurd (still-there (subtree name w.tree) a here (put-none out name other w.tree there))
  row-lost name wake_failed w a h here there = absurd (still-there (subtree name w.tree) a here there)
  row-lost name (spent how other n) w a h here there =
      let u : Tree (Box (Spot M)) = run_at o k other (made how n) w.tree in
      put-gone o k rules talking (back how) name other u (run-lost name other (made how n) w.tree a h here (put-none (back how) name other u there))
  row-lost name (dropped other) w a h here there = absurd (still-there (subtree name w.tree) a here there)
  row-lost name (kept other n) w a h here there = absurd (still-there (subtree name w.tree) a here there)
  row-lost name (halted r) w a h here there = absurd (still-there (subtree name w.tree) a here there)

  after-gone : {R : Type 0} (name : Path) (seat : Seat) (entry : Entry R) (r : Record M R) → IsSound (boxes o k) r.world.tree → IsLost name r.world.tree
      → IsLost name (record_after o k seat entry r).world.tree
  unfolding record_after
  after-gone name seat (row x) r h gone = row-gone name x r.world h gone
  after-gone name seat (told image page) r h gone = gone
  after-gone name seat (heard place) r h gone = gone
  after-gone name seat tell_failed r h gone = gone
  after-gone name seat (hear_failed place) r h gone = gone

  after-lost : {R : Type 0} (name : Path) (seat : Seat) (entry : Entry R) (r : Record M R) (a : Tree (Box (Spot M))) → IsSound (boxes o k) r.world.tree
      → subtree name r.world.tree ≡ Some a → subtree name (record_after o k seat entry r).world.tree ≡ None
      → IsLost name (record_after o k seat entry r).world.tree
  unfolding record_after
  after-lost name seat (row x) r a h here there = row-lost name x r.world a h here there
  after-lost name seat (told image page) r a h here there = absurd (still-there (subtree name r.world.tree) a here there)
  after-lost name seat (heard place) r a h here there = absurd (still-there (subtree name r.world.tree) a here there)
  after-lost name seat tell_failed r a h here there = absurd (still-there (subtree name r.world.tree) a here there)
  after-lost name seat (hear_failed place) r a h here there = absurd (still-there (subtree name r.world.tree) a here there)

  -- and histories
  replay-gone : {R : Type 0} (name : Path) (history : History R) (r : Record M R) → IsSound (boxes o k) r.world.tree → IsLost name r.world.tree
      → IsLost name (replay o k history r).world.tree
  unfolding replay
  replay-gone name [] r h gone = gone
  replay-gone name (e ∷ rest) r h gone =
      replay-gone name rest (record_after o k e.0 e.1 r) (after-sound o k rules talking e.0 e.1 r h) (after-gone name e.0 e.1 r h gone)

  replay-lost : {R : Type 0} (name : Path) (history : History R) (r : Record M R) (a : Tree (Box (Spot M))) → IsSound (boxes o k) r.world.tree
      → subtree name r.world.tree ≡ Some a → subtree name (replay o k history r).world.tree ≡ None → IsLost name (replay o k history r).world.tree
  unfolding replay
  replay-lost name [] r a h here there = absurd (still-there (subtree name r.world.tree) a here there)
  replay-lost {R} name (e ∷ rest) r a h here there =
      by (subtree name (record_after o k e.0 e.1 r).world.tree) refl
      (λ b found. replay-lost name rest (record_after o k e.0 e.1 r) b (after-sound o k rules talking e.0 e.1 r h) found there)
    where
      by : (c : Option (Tree (Box (Spot M)))) → subtree name (record_after o k e.0 e.1 r).world.tree ≡ c
          → ((b : Tree (Box (Spot M))) → subtree name (record_after o k e.0 e.1 r).world.tree ≡ Some b
          → IsLost name (replay o k rest (record_after o k e.0 e.1 r)).world.tree)
          → IsLost name (replay o k rest (record_after o k e.0 e.1 r)).world.tree
      by None none down =
          replay-gone name rest (record_after o k e.0 e.1 r) (after-sound o k rules talking e.0 e.1 r h) (after-lost name e.0 e.1 r a h here none)
      by (Some b) found down = down b found

  left-for-good : {R : Type 0} (name : Path) (between more : History R) (r : Record M R) → IsSound (boxes o k) r.world.tree
      → (c : Option (Tree (Box (Spot M)))) → subtree name r.world.tree ≡ c → IsSome c → subtree name (replay o k between r).world.tree ≡ None
      → subtree name (replay o k more (replay o k between r)).world.tree ≡ None
  left-for-good name between more r h None here there gone = absurd (cc)
  left-for-good name between more r h (Some a) here there gone =
      gone-none (boxes o k) (all o k rules talking) name (replay o k more (replay o k between r)).world.tree
      (replay-gone name more (replay o k between r) (replay-sound o k rules talking between r h) (replay-lost name between r a h here gone))

  pub gone-for-good : {R : Type 0} (name : Path) (before between more : History R) (w : World M R) → IsSound (boxes o k) w.tree
      → IsSome (subtree name (replay o k before (record_of w)).world.tree)
      → subtree name (replay o k (before ++ between) (record_of w)).world.tree ≡ None
      → subtree name (replay o k (before ++ (between ++ more)) (record_of w)).world.tree ≡ None
  gone-for-good {R} name before between more w h there gone =
      let r : Record M R = replay o k before (record_of w) in
      let mid : replay o k (before ++ between) (record_of w) ≡ replay o k between r = replay-append o k before between (record_of w) in
      let later : replay o k (before ++ (between ++ more)) (record_of w) ≡ replay o k more (replay o k between r) =
      replay-append o k before (between ++ more) (record_of w) ∙ replay-append o k between more r in
      ap (λ (s : Record M R). subtree name s.world.tree) later
      ∙ left-for-good name between more r (replay-sound o k rules talking before (record_of w) h) (subtree name r.world.tree) refl there
      (ap (λ (s : Record M R). subtree name s.world.tree) (sym mid) ∙ gone)
