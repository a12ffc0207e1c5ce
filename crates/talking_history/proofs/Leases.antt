-- A machine that a seat holds stands as it was taken, or has left the tree for good.
use Rattle.std.proofs.Common.{◌≡◌, ◌≢◌, ℕ, zero, suc, not, Bool, true, false, cond, refl, sym, ap, ◌∙◌, subst, List, [], ◌∷◌, ◌++◌, Option, Some, None, IfSome, All, option_map, option_and_then}
use Rattle.std.proofs.lemmas.Bool.{and_parts}
use Rattle.std.proofs.lemmas.List.Elements.{All-head, All-tail}
use Rattle.forest_tree.specs.Operations.{Operations, IsMachine}
use Rattle.forest_tree.specs.Tree.{Tree, node, machine, broods_of, child_at, brood_of, Path, subtree, beyond, at_path, at_beyond}
use Rattle.forest_tree.specs.Step.{has_ended, step}
use Rattle.forest_tree.specs.Sound.{IsSound}
use Rattle.forest_tree.proofs.Places.{some-same, stepped-at}
use Rattle.sibling_forest.specs.Talk.{Talk, send, receive, Talks, Box, boxed, IsTalking}
use Rattle.sibling_forest.specs.Settle.{delivered, settle, settle_all, rests_there, rests_at}
use Rattle.sibling_forest.specs.Laws.{child_number}
use Rattle.sibling_forest.proofs.Words.{delivered-machine, delivered-below}
use Rattle.sibling_forest.proofs.Siblings.{sibling-moves}
use Rattle.sibling_forest.proofs.Sound.{settle-keeps}
use Rattle.sibling_forest.proofs.Resting.{settle-rests}
use Rattle.talking_history.specs.Places.{Place, out, Spot, spots, placed, spot_talks, boxes}
use Rattle.talking_history.specs.World.{is_ready_at, World, is_resting, lives_ready, holds}
use Rattle.talking_history.specs.Histories.{Seat, Holding, is_nothing_left, is_same_path, holding, without_name, Entry, row, heard, tell_failed, hear_failed, History, Record, HandsBack, with_taken}
use Rattle.talking_history.specs.Histories.{holdings_after, record_of, Permits, record_after, replay, IsLegal}
use Rattle.forest_tree.proofs.Changes.{at_path-here}
use Rattle.talking_history.proofs.Held.{same-is, apart-sym, left-held, left-holds}
use Rattle.talking_history.proofs.Spots.{machine-spots, machine-placed, talking-spots, machine-boxes}
use Rattle.talking_history.specs.Rows.{Row, over, stopped, stuck, idle, took, wake_failed, spent, dropped, kept, halted, back, made, run_at, came_back, Allows, does}
use Rattle.talking_history.specs.Changes.{to_sibling, told}
use Rattle.talking_history.specs.Histories as history
use Rattle.talking_history.proofs.Changes.{step-changes}
use Rattle.talking_history.proofs.Histories.{after-sound, legal-apart, replay-append, replay-sound}
use Rattle.forest_tree.proofs.Names.{IsGone, gone-none, gone-stepped, lost-stepped}
use Rattle.talking_history.proofs.Gone.{path-seen, IsBeside, gone-changed}

-- ---- one step of a tree whose machines talk

module _ {M E : Type 0} (o : Operations M E) (k : Talks M) where
  there-by : (c : Option (Tree (Box M))) (path : Path) → rests_there (rests_at o k path) c ≡ false → (u : Tree (Box M)) × (c ≡ Some u) × (rests_at o k path u ≡ false)
  there-by None path moves = absurd (cc)
  there-by (Some u) path moves = (u, refl, moves)

  -- where a step is made a machine is
  pub moves-there : (path : Path) (t : Tree (Box M)) → rests_at o k path t ≡ false → (a : Tree (Box M)) × (subtree path t ≡ Some a)
  unfolding rests_at subtree
  moves-there [] t moves = (t, refl)
  moves-there (b ∷ []) (node x broods log) moves =
      let m = sibling-moves o k b.child (brood_of b.ticket broods) moves in
      (m.0, ap (option_and_then (subtree [])) (m.1).found)
  moves-there (b ∷ (c ∷ path)) (node x broods log) moves =
      let is = there-by (child_at b.child (brood_of b.ticket broods)) (c ∷ path) moves in
      let down = moves-there (c ∷ path) is.0 is.2 in
      (down.0, ap (option_and_then (subtree (c ∷ path))) is.1 ∙ down.1)

  pub word-machine : (what : Option Talk) (word : ℕ) (path at : Path) (t : Tree (Box M))
      → option_map (λ (u : Tree (Box M)). (machine u).machine) (subtree at (told o k what word path t)) ≡ option_map (λ (u : Tree (Box M)). (machine u).machine) (subtree at t)
  word-machine None word path at t = refl
  word-machine (Some (send j)) word path at t =
      path-seen (λ (b : Box M). b.machine) (delivered o k (child_number path) word) (λ u. delivered-below o k (child_number path) word u) (to_sibling j path) at t
      (λ e u. delivered-machine o k (child_number path) word u)
  word-machine (Some (receive j)) word path at t = refl

  delivered-beside : (i word : ℕ) → (rules : IsMachine (boxed o k)) → IsBeside (boxed o k) rules (delivered o k i word)
  unfolding boxed
  delivered-beside i word rules = record {
    below = λ t. delivered-below o k i word t;
    ending = λ t. ap o.ending (delivered-machine o k i word t);
    may = λ t u. ap (λ m. o.may_clone m u) (delivered-machine o k i word t);
  }

  pub none-seen : {A B : Type 0} (f : A → B) (c d : Option A) → option_map f c ≡ option_map f d → c ≡ None → d ≡ None
  none-seen f c None same none = refl
  none-seen f c (Some x) same none = let no : None ≡ Some (f x) = sym (ap (option_map f) none) ∙ same in absurd (cc)

  module _ (rules : IsMachine o) (talking : IsTalking o k) (all : IsMachine (boxed o k)) where
    word-gone : (what : Option Talk) (word : ℕ) (path at : Path) (t : Tree (Box M)) → IsGone (boxed o k) all at t
        → IsGone (boxed o k) all at (told o k what word path t)
    word-gone None word path at t gone = gone
    word-gone (Some (send j)) word path at t gone =
        gone-changed (boxed o k) all (delivered o k (child_number path) word) (delivered-beside (child_number path) word all) at (to_sibling j path) t gone
    word-gone (Some (receive j)) word path at t gone = gone

    pub gone-stays : (at path : Path) (t : Tree (Box M)) → IsSound (boxed o k) t → IsGone (boxed o k) all at t → IsGone (boxed o k) all at (settle o k path t)
    gone-stays at path t h gone = by (rests_at o k path t) refl
      where
        by : (rest : Bool) → rests_at o k path t ≡ rest → IsGone (boxed o k) all at (settle o k path t)
        by true e = subst (IsGone (boxed o k) all at) (sym (settle-rests o k path t h e)) gone
        by false e =
            let a = moves-there path t e in
            subst (IsGone (boxed o k) all at) (sym (step-changes o k path t a.0 h a.1 e))
            (word-gone (k.talk (machine a.0).machine) (k.word (machine a.0).machine) path at (at_path (step (boxed o k)) path t)
            (gone-stepped (boxed o k) all at path t h gone))

    pub lost-goes : (at path : Path) (t a : Tree (Box M)) → IsSound (boxed o k) t → subtree at t ≡ Some a → subtree at (settle o k path t) ≡ None
        → IsGone (boxed o k) all at (settle o k path t)
    lost-goes at path t a h here there = by (rests_at o k path t) refl
      where
        by : (rest : Bool) → rests_at o k path t ≡ rest → IsGone (boxed o k) all at (settle o k path t)
        by true e = let no : None ≡ Some a = sym there ∙ ap (subtree at) (settle-rests o k path t h e) ∙ here in absurd (cc)
        by false e =
            let m = moves-there path t e in
            let what : Option Talk = k.talk (machine m.0).machine in
            let word : ℕ = k.word (machine m.0).machine in
            let u : Tree (Box M) = at_path (step (boxed o k)) path t in
            let is : settle o k path t ≡ told o k what word path u = step-changes o k path t m.0 h m.1 e in
            subst (IsGone (boxed o k) all at) (sym is)
            (word-gone what word path at u (lost-stepped (boxed o k) all at path t a h here
            (none-seen (λ (v : Tree (Box M)). (machine v).machine) (subtree at (told o k what word path u)) (subtree at u) (word-machine what word path at u)
            (sym (ap (subtree at) is) ∙ there))))

    -- the machine of another name makes a step
    root-stays : (left : Option Path) (a : Tree (Box M)) → is_nothing_left left ≡ false → machine (at_beyond (step (boxed o k)) left a) ≡ machine a
    unfolding at_path
    root-stays None a apart = refl
    root-stays (Some []) a apart = absurd (cc)
    root-stays (Some (b ∷ path)) (node x broods log) apart = refl

    pub other-stays : (at path : Path) (t a b : Tree (Box M)) → IsSound (boxed o k) t → is_same_path at path ≡ false → subtree at t ≡ Some a
        → subtree at (settle o k path t) ≡ Some b → (machine b).machine ≡ (machine a).machine
    other-stays at path t a b h apart here there = by (rests_at o k path t) refl
      where
        stepped : (c : Option (Tree (Box M))) → subtree at (at_path (step (boxed o k)) path t) ≡ c
            → option_map (λ (u : Tree (Box M)). (machine u).machine) c ≡ Some (machine b).machine → (machine b).machine ≡ (machine a).machine
        stepped None is said = absurd (cc)
        stepped (Some c) is said =
            some-same (machine b).machine (machine c).machine (sym said)
            ∙ ap (λ (u : Tree (Box M)). (machine u).machine)
            (stepped-at (boxed o k) all at path t h a c here is)
            ∙ ap (λ (x : Box M). x.machine) (root-stays (beyond at path) a apart)

        by : (rest : Bool) → rests_at o k path t ≡ rest → (machine b).machine ≡ (machine a).machine
        by true e =
            ap (λ (u : Tree (Box M)). (machine u).machine) (some-same b a (sym there ∙ ap (subtree at) (settle-rests o k path t h e) ∙ here))
        by false e =
            let m = moves-there path t e in
            let what : Option Talk = k.talk (machine m.0).machine in
            let word : ℕ = k.word (machine m.0).machine in
            let u : Tree (Box M) = at_path (step (boxed o k)) path t in
            stepped (subtree at u) refl
            (sym (word-machine what word path at u)
            ∙ ap (option_map (λ (v : Tree (Box M)). (machine v).machine)) (sym (ap (subtree at) (step-changes o k path t m.0 h m.1 e)) ∙ there))

-- ---- what is held

module _ {M E : Type 0} (o : Operations M E) (k : Talks M) (rules : IsMachine o) (talking : IsTalking o k) where
  abbrev pub all : IsMachine (boxes o k)
  all = machine-boxes o k rules talking

  abbrev pub Gone : Path → Tree (Box (Spot M)) → Type 0
  Gone name t = IsGone (boxes o k) all name t

  abbrev spot_at : Path → Tree (Box (Spot M)) → Option (Spot M)
  spot_at name t = option_map (λ (u : Tree (Box (Spot M))). (machine u).machine) (subtree name t)

  abbrev kept_out : M → Spot M
  kept_out found = record { machine = found; place = out }

  -- the machine of this name is out as it was found, or it is gone
  data Stands (name : Path) (found : M) (t : Tree (Box (Spot M))) : Type 0 where
    is_out : spot_at name t ≡ Some (kept_out found) → Stands name found t
    is_gone : Gone name t → Stands name found t

  pub placed-below : (place : Place) (t : Tree (Box (Spot M))) → broods_of (placed place t) ≡ broods_of t
  placed-below place (node b broods log) = refl

  placed-beside : (place : Place) → IsBeside (boxes o k) all (placed place)
  unfolding boxed spots
  placed-beside place = record {
    below = λ t. placed-below place t;
    ending = λ t. ap (λ (s : Spot M). o.ending s.machine) (machine-placed place t);
    may = λ t u. ap (λ (s : Spot M). o.may_clone s.machine u) (machine-placed place t);
  }

  pub put-gone : (place : Place) (name other : Path) (t : Tree (Box (Spot M))) → Gone name t → Gone name (at_path (placed place) other t)
  put-gone place name other t gone = gone-changed (boxes o k) all (placed place) (placed-beside place) name other t gone

  -- a machine of another name is put at another place
  put-apart : (place : Place) (name other : Path) (t : Tree (Box (Spot M))) → is_same_path other name ≡ false
      → spot_at name (at_path (placed place) other t) ≡ spot_at name t
  put-apart place name other t apart =
      path-seen (λ (b : Box (Spot M)). b.machine) (placed place) (λ u. placed-below place u) other name t
      (λ same. let no : true ≡ false = sym same ∙ apart in absurd (cc))

  put-stands : (place : Place) (name other : Path) (found : M) (t : Tree (Box (Spot M))) → is_same_path other name ≡ false
      → Stands name found t → Stands name found (at_path (placed place) other t)
  put-stands place name other found t apart (is_out is) = is_out (put-apart place name other t apart ∙ is)
  put-stands place name other found t apart (is_gone gone) = is_gone (put-gone place name other t gone)

  -- the machine of another name makes steps
  abbrev pub step_of : Path → Tree (Box (Spot M)) → Tree (Box (Spot M))
  step_of path t = settle (spots o) (spot_talks k) path t

  step-out : (name other : Path) (found : M) (t a : Tree (Box (Spot M))) → IsSound (boxes o k) t → is_same_path other name ≡ false
      → subtree name t ≡ Some a → (machine a).machine ≡ kept_out found → (c : Option (Tree (Box (Spot M)))) → subtree name (step_of other t) ≡ c
      → Stands name found (step_of other t)
  step-out name other found t a h apart here is None there =
      is_gone (lost-goes (spots o) (spot_talks k) (machine-spots o rules) (talking-spots o k talking) all name other t a h here there)
  step-out name other found t a h apart here is (Some b) there =
      is_out (ap (option_map (λ (u : Tree (Box (Spot M))). (machine u).machine)) there
      ∙ ap Some (other-stays (spots o) (spot_talks k) (machine-spots o rules) (talking-spots o k talking) all name other t a b h
      (apart-sym other name apart) here there ∙ is))

  step-stands : (name other : Path) (found : M) (t : Tree (Box (Spot M))) → IsSound (boxes o k) t → is_same_path other name ≡ false
      → Stands name found t → Stands name found (step_of other t)
  step-stands name other found t h apart (is_out is) = by (subtree name t) refl is
    where
      by : (c : Option (Tree (Box (Spot M)))) → subtree name t ≡ c
          → option_map (λ (u : Tree (Box (Spot M))). (machine u).machine) c ≡ Some (kept_out found) → Stands name found (step_of other t)
      by None here said = absurd (cc)
      by (Some a) here said =
          step-out name other found t a h apart here (some-same (machine a).machine (kept_out found) said) (subtree name (step_of other t)) refl
  step-stands name other found t h apart (is_gone gone) =
      is_gone (gone-stays (spots o) (spot_talks k) (machine-spots o rules) (talking-spots o k talking) all name other t h gone)

  pub step-sound : (path : Path) (t : Tree (Box (Spot M))) → IsSound (boxes o k) t → IsSound (boxes o k) (step_of path t)
  step-sound path t h = (settle-keeps (spots o) (spot_talks k) (machine-spots o rules) (talking-spots o k talking) path t h).sound

  run-stands : (name other : Path) (n : ℕ) (found : M) (t : Tree (Box (Spot M))) → IsSound (boxes o k) t → is_same_path other name ≡ false
      → Stands name found t → Stands name found (run_at o k other n t)
  unfolding settle_all
  run-stands name other zero found t h apart stands = stands
  run-stands name other (suc n) found t h apart stands =
      run-stands name other n found (step_of other t) (step-sound other t h) apart (step-stands name other found t h apart stands)

  -- each machine that is held stands
  abbrev AllStand : Tree (Box (Spot M)) → List (Holding M) → Type 0
  AllStand t held = (name : Path) (x : Holding M) → holding name held ≡ Some x → Stands name x.found t

  taken-stands : (seat : Seat) (other name : Path) (t : Tree (Box (Spot M))) (held : List (Holding M)) (x : Holding M) → AllStand t held
      → (c : Option (Tree (Box (Spot M)))) → subtree other t ≡ c → holds (lives_ready o k (is_resting o k other t)) c ≡ true
      → (same : Bool) → is_same_path other name ≡ same → holding name (with_taken seat other c held) ≡ Some x
      → Stands name x.found (at_path (placed out) other t)
  unfolding holding
  taken-stands seat other name t held x inv None here ready same e found = absurd (cc)
  taken-stands seat other name t held x inv (Some a) here ready true e found =
      let mine : Holding M = record { name = other; seat = seat; found = (machine a).machine.machine } in
      let is : mine ≡ x = some-same mine x (sym (ap (λ b. cond b (Some mine) (holding name held)) e) ∙ found) in
      subst (λ (y : Holding M). Stands name y.found (at_path (placed out) other t)) is
      (subst (λ n. Stands n (machine a).machine.machine (at_path (placed out) other t)) (same-is other name e)
      (is_out (ap (option_map (λ (u : Tree (Box (Spot M))). (machine u).machine)) (at_path-here (placed out) other t ∙ ap (option_map (placed out)) here)
      ∙ ap Some (machine-placed out a))))
  taken-stands seat other name t held x inv (Some a) here ready false e found =
      let mine : Holding M = record { name = other; seat = seat; found = (machine a).machine.machine } in
      put-stands out name other x.found t e (inv name x (sym (ap (λ b. cond b (Some mine) (holding name held)) e) ∙ found))

  -- a name that was handed back is not held
  left-stands : (other name : Path) (t after : Tree (Box (Spot M))) (held : List (Holding M)) (x : Holding M) → AllStand t held
      → holding name (without_name other held) ≡ Some x → (is_same_path other name ≡ false → Stands name x.found t → Stands name x.found after)
      → Stands name x.found after
  left-stands other name t after held x inv found goes = let left = left-held other name held x found in goes left.0 (inv name x left.1)

  row-stands : {R : Type 0} (seat : Seat) (x : Row R) (w : World M R) (held : List (Holding M)) → IsSound (boxes o k) w.tree → Allows o k x w
      → AllStand w.tree held → AllStand (does o k x w).tree (holdings_after seat x w held)
  unfolding Allows does
  row-stands seat over w held h allowed inv = inv
  row-stands seat (stopped r) w held h allowed inv = inv
  row-stands seat stuck w held h allowed inv = inv
  row-stands seat idle w held h allowed inv = inv
  row-stands seat (took other) w held h allowed inv =
      λ name x found. taken-stands seat other name w.tree held x inv (subtree other w.tree) refl allowed.1 (is_same_path other name) refl found
  row-stands seat wake_failed w held h allowed inv = inv
  row-stands seat (spent how other n) w held h allowed inv =
      λ name x found. left-stands other name w.tree (came_back o k how other n w.tree) held x inv found
      (λ apart stands. put-stands (back how) name other x.found (run_at o k other (made how n) w.tree) apart
      (run-stands name other (made how n) x.found w.tree h apart stands))
  row-stands seat (dropped other) w held h allowed inv =
      λ name x found. left-stands other name w.tree w.tree held x inv found (λ apart stands. stands)
  row-stands seat (kept name n) w held h allowed inv = inv
  row-stands seat (halted r) w held h allowed inv = inv

  after-stands : {R : Type 0} (seat : Seat) (entry : Entry R) (r : Record M R) → IsSound (boxes o k) r.world.tree → Permits o k seat entry r
      → AllStand r.world.tree r.holdings → AllStand (record_after o k seat entry r).world.tree (record_after o k seat entry r).holdings
  unfolding Permits record_after
  after-stands seat (row x) r h may inv = row-stands seat x r.world r.holdings h may.0 inv
  after-stands seat (history.told image page) r h may inv = inv
  after-stands seat (heard place) r h may inv = inv
  after-stands seat tell_failed r h may inv = inv
  after-stands seat (hear_failed place) r h may inv = inv

  replay-stands : {R : Type 0} (history : History R) (r : Record M R) → IsSound (boxes o k) r.world.tree → IsLegal o k history r
      → AllStand r.world.tree r.holdings → AllStand (replay o k history r).world.tree (replay o k history r).holdings
  unfolding replay IsLegal
  replay-stands [] r h legal inv = inv
  replay-stands (e ∷ rest) r h legal inv =
      replay-stands rest (record_after o k e.0 e.1 r) (after-sound o k rules talking e.0 e.1 r h) legal.1 (after-stands e.0 e.1 r h legal.0 inv)

  none-held : {R : Type 0} (w : World M R) → AllStand w.tree (record_of w).holdings
  unfolding holding
  none-held w name x found = absurd (cc)

  -- what the law says of a tree
  abbrev IsAsFound : M → Tree (Box (Spot M)) → Type 0
  IsAsFound found u = ((machine u).machine.place ≡ out) × ((machine u).machine.machine ≡ found)

  out-found : (found : M) (c : Option (Tree (Box (Spot M)))) → option_map (λ (u : Tree (Box (Spot M))). (machine u).machine) c ≡ Some (kept_out found)
      → IfSome c (IsAsFound found)
  out-found found None e = tt
  out-found found (Some u) e =
      let is : (machine u).machine ≡ kept_out found = some-same (machine u).machine (kept_out found) e in
      (ap (λ (s : Spot M). s.place) is, ap (λ (s : Spot M). s.machine) is)

  stands-there : (name : Path) (found : M) (t : Tree (Box (Spot M))) → Stands name found t → IfSome (subtree name t) (IsAsFound found)
  stands-there name found t (is_out is) = out-found found (subtree name t) is
  stands-there name found t (is_gone gone) =
      subst (λ c. IfSome c (IsAsFound found)) (sym (gone-none (boxes o k) all name t gone)) tt

  -- the machine that is held is there as its seat found it, or it is gone
  pub held-stays : {R : Type 0} (history : History R) (w : World M R) → IsSound (boxes o k) w.tree → IsLegal o k history (record_of w)
      → (name : Path) (x : Holding M) → holding name (replay o k history (record_of w)).holdings ≡ Some x
      → IfSome (subtree name (replay o k history (record_of w)).world.tree)
      (λ t. ((machine t).machine.place ≡ out) × ((machine t).machine.machine ≡ x.found))
  held-stays history w h legal name x found =
      stands-there name x.found (replay o k history (record_of w)).world.tree
      (replay-stands history (record_of w) h legal (none-held w) name x found)

  -- ---- what entries of other seats leave

  not-ready : (resting : Bool) (found : M) (a : Tree (Box (Spot M))) → (machine a).machine ≡ kept_out found → lives_ready o k resting a ≡ true → ⊥
  not-ready resting found a is ready =
      let both = and_parts (not (has_ended (boxes o k) a)) (is_ready_at (machine a).machine.place resting) ready in
      let no : false ≡ true = ap (λ (s : Spot M). is_ready_at s.place resting) (sym is) ∙ both.1 in
      cc

  held-unready : (resting : Bool) (name : Path) (found : M) (t a : Tree (Box (Spot M))) → Stands name found t → subtree name t ≡ Some a
      → lives_ready o k resting a ≡ true → ⊥
  held-unready resting name found t a (is_out is) here ready =
      not-ready resting found a
      (some-same (machine a).machine (kept_out found) (sym (ap (option_map (λ (u : Tree (Box (Spot M))). (machine u).machine)) here) ∙ is)) ready
  held-unready resting name found t a (is_gone gone) here ready =
      let no : None ≡ Some a = sym (gone-none (boxes o k) all name t gone) ∙ here in cc

  -- what is held is not taken again
  taken-leaves : (by : Seat) (other name : Path) (t : Tree (Box (Spot M))) (held : List (Holding M)) (x : Holding M) → AllStand t held
      → holding name held ≡ Some x → (resting : Bool) (c : Option (Tree (Box (Spot M)))) → subtree other t ≡ c → holds (lives_ready o k resting) c ≡ true
      → (same : Bool) → is_same_path other name ≡ same → holding name (with_taken by other c held) ≡ Some x
  unfolding holding
  taken-leaves by other name t held x inv found resting None here ready same e = found
  taken-leaves by other name t held x inv found resting (Some a) here ready true e =
      absurd (held-unready resting name x.found t a (inv name x found) (ap (λ n. subtree n t) (sym (same-is other name e)) ∙ here) ready)
  taken-leaves by other name t held x inv found resting (Some a) here ready false e =
      let new : Holding M = record { name = other; seat = by; found = (machine a).machine.machine } in
      ap (λ b. cond b (Some new) (holding name held)) e ∙ found

  row-holds : {R : Type 0} (seat by : Seat) (y : Row R) (w : World M R) (held : List (Holding M)) → Allows o k y w → HandsBack by y held
      → AllStand w.tree held → by ≢ seat → (name : Path) (x : Holding M) → holding name held ≡ Some x → x.seat ≡ seat
      → holding name (holdings_after by y w held) ≡ Some x
  unfolding Allows
  row-holds seat by over w held allowed back inv unlike name x found mine = found
  row-holds seat by (stopped r) w held allowed back inv unlike name x found mine = found
  row-holds seat by stuck w held allowed back inv unlike name x found mine = found
  row-holds seat by idle w held allowed back inv unlike name x found mine = found
  row-holds seat by (took other) w held allowed back inv unlike name x found mine =
      taken-leaves by other name w.tree held x inv found (is_resting o k other w.tree) (subtree other w.tree) refl allowed.1 (is_same_path other name) refl
  row-holds seat by wake_failed w held allowed back inv unlike name x found mine = found
  row-holds seat by (spent how other n) w held allowed back inv unlike name x found mine =
      left-holds seat by other name held x unlike back found mine
  row-holds seat by (dropped other) w held allowed back inv unlike name x found mine =
      left-holds seat by other name held x unlike back found mine
  row-holds seat by (kept name n) w held allowed back inv unlike other x found mine = found
  row-holds seat by (halted r) w held allowed back inv unlike name x found mine = found

  after-holds : {R : Type 0} (seat by : Seat) (entry : Entry R) (r : Record M R) → Permits o k by entry r → AllStand r.world.tree r.holdings
      → by ≢ seat → (name : Path) (x : Holding M) → holding name r.holdings ≡ Some x → x.seat ≡ seat
      → holding name (record_after o k by entry r).holdings ≡ Some x
  unfolding Permits record_after
  after-holds seat by (row y) r may inv unlike name x found mine =
      row-holds seat by y r.world r.holdings may.0 may.1 inv unlike name x found mine
  after-holds seat by (history.told image page) r may inv unlike name x found mine = found
  after-holds seat by (heard place) r may inv unlike name x found mine = found
  after-holds seat by tell_failed r may inv unlike name x found mine = found
  after-holds seat by (hear_failed place) r may inv unlike name x found mine = found

  replay-holds : {R : Type 0} (seat : Seat) (between : History R) (r : Record M R) → IsSound (boxes o k) r.world.tree → IsLegal o k between r
      → AllStand r.world.tree r.holdings → All (λ (e : Seat × Entry R). e.0 ≢ seat) between
      → (name : Path) (x : Holding M) → holding name r.holdings ≡ Some x → x.seat ≡ seat
      → holding name (replay o k between r).holdings ≡ Some x
  unfolding replay IsLegal
  replay-holds seat [] r h legal inv others name x found mine = found
  replay-holds {R} seat (e ∷ rest) r h legal inv others name x found mine =
      replay-holds seat rest (record_after o k e.0 e.1 r) (after-sound o k rules talking e.0 e.1 r h) legal.1 (after-stands e.0 e.1 r h legal.0 inv)
      (All-tail (λ (y : Seat × Entry R). y.0 ≢ seat) e rest others) name x
      (after-holds seat e.0 e.1 r legal.0 inv (All-head (λ (y : Seat × Entry R). y.0 ≢ seat) e rest others) name x found mine) mine

  pub others-keep : {R : Type 0} (seat : Seat) (before between : History R) (w : World M R) → IsSound (boxes o k) w.tree
      → IsLegal o k (before ++ between) (record_of w) → All (λ (e : Seat × Entry R). e.0 ≢ seat) between
      → (name : Path) (x : Holding M) → holding name (replay o k before (record_of w)).holdings ≡ Some x → x.seat ≡ seat
      → holding name (replay o k (before ++ between) (record_of w)).holdings ≡ Some x
  others-keep {R} seat before between w h legal others name x found mine =
      let parts = legal-apart o k before between (record_of w) legal in
      subst (λ (r : Record M R). holding name r.holdings ≡ Some x) (sym (replay-append o k before between (record_of w)))
      (replay-holds seat between (replay o k before (record_of w)) (replay-sound o k rules talking before (record_of w) h) parts.1
      (replay-stands before (record_of w) h parts.0 (none-held w)) others name x found mine)
