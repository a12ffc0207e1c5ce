-- What becomes of one machine of a family is what happened to it.
use Rattle.std.proofs.Common.{◌≡◌, ◌≢◌, ◌⊎◌, inl, inr, ℕ, zero, suc, ◌+◌, ◌<◌, ◌&&◌, ◌||◌, ◌==◌, eqb-true, eq-eqb, Bool, true, false, cond, refl, sym, ap, ap₂, ◌∙◌, subst, arith}
use Rattle.std.proofs.Common.{List, [], ◌∷◌, ◌++◌, replicate, Option, Some, None, option_and_then, option_map}
use Rattle.std.proofs.lemmas.Bool.{and_parts}
use Rattle.forest_tree.specs.Operations.{Operations, IsMachine}
use Rattle.forest_tree.specs.Tree.{Tree, node, Trees, machine, at_child, child_at, brood_of, Branch, Path, subtree, beyond, goes_on, is_below}
use Rattle.forest_tree.specs.Tree.{at_path, at_beyond}
use Rattle.forest_tree.specs.Step.{rests, step}
use Rattle.forest_tree.specs.Sound.{IsSound}
use Rattle.forest_tree.proofs.Names.{IsGone, gone-none}
use Rattle.forest_tree.proofs.Places.{some-same, child_at-same, stepped-at, subtree-parts, subtree-sound}
use Rattle.forest_tree.proofs.Rests.{step-one}
use Rattle.forest_tree.proofs.Steps.{cases-ending}
use Rattle.sibling_forest.specs.Talk.{Talk, send, receive, Talks, Box, boxed, IsTalking}
use Rattle.sibling_forest.specs.Settle.{delivered, settle, settle_all, rests_at}
use Rattle.sibling_forest.specs.Laws.{child_number, is_sibling}
use Rattle.sibling_forest.specs.Members.{IsWholeForest}
use Rattle.sibling_forest.proofs.Boxes.{boxed-machine}
use Rattle.sibling_forest.proofs.Crossing.{changed-brood}
use Rattle.sibling_forest.proofs.Finish.{same-path}
use Rattle.sibling_forest.proofs.Inner.{inner, settle-is, inner-none}
use Rattle.sibling_forest.proofs.Meets as meets
use Rattle.sibling_forest.proofs.MemberAt.{names-other}
use Rattle.sibling_forest.proofs.Members.{settle-whole}
use Rattle.sibling_forest.proofs.Others.{own-step}
use Rattle.sibling_forest.proofs.Resting.{settle-rests}
use Rattle.sibling_forest.proofs.Sound.{settle-keeps}
use Rattle.sibling_forest.proofs.Words.{delivered-machine}
use Rattle.forest_tree.proofs.Changes.{at_path-here, at_path-elsewhere, at_path-within}
use Rattle.machine_names.proofs.Below.{beyond-is, beyond-append}
use Rattle.talking_history.specs.Changes.{to_sibling, told}
use Rattle.talking_history.proofs.Beside.{rests-parts, sibling-apart}
use Rattle.talking_history.proofs.Changes.{step-changes}
use Rattle.talking_history.proofs.Leases.{moves-there, word-machine, gone-stays, lost-goes}
use Rattle.drive_script.specs.Story.{Event, makes, hears, own_steps, after_event, story, heard_of, event_by, event_of, event_at, events}
use Rattle.drive_script.specs.Steps.{after_steps, Drops}
use Rattle.drive_script.proofs.OneMachine.{below-apart, beyond-itself, gone-by}
use Rattle.drive_script.proofs.Steps.{after-first, after-none}
use Rattle.drive_script.proofs.Ways.{number-beside, is-beside, no-sibling, sibling-is}

-- ---- events, one after another

own-append : (before rest : List Event) → own_steps (before ++ rest) ≡ own_steps before + own_steps rest
unfolding own_steps
own-append [] rest = omega arith
own-append (makes [] ∷ before) rest = ap suc (own-append before rest) ∙ omega arith
own-append (makes (b ∷ path) ∷ before) rest = own-append before rest
own-append (hears i word ∷ before) rest = own-append before rest

module _ {M E : Type 0} (o : Operations M E) (k : Talks M) where
  story-append : (before rest : List Event) (t : Tree (Box M)) → story o k (before ++ rest) t ≡ story o k rest (story o k before t)
  unfolding story
  story-append [] rest t = refl
  story-append (e ∷ before) rest t = story-append before rest (after_event o k e t)

  -- ---- a step within a machine's tree

  inner-below : (way : Path) (b : Branch) (rest : Path) (i : ℕ) (trees : Trees (Box M))
      → inner o k (way ++ (b ∷ rest)) i trees ≡ at_child (settle o k (way ++ (b ∷ rest))) i trees
  inner-below [] b rest i trees = refl
  inner-below (z ∷ way) b rest i trees = refl

  pub settle-within : (at : Path) (b : Branch) (rest : Path) (t : Tree (Box M))
      → subtree at (settle o k (at ++ (b ∷ rest)) t) ≡ option_map (settle o k (b ∷ rest)) (subtree at t)
  unfolding subtree
  settle-within [] b rest t = refl
  settle-within (y ∷ way) b rest (node x broods log) =
      let path : Path = way ++ (b ∷ rest) in
      ap (subtree (y ∷ way)) (settle-is o k y path (node x broods log))
      ∙ ap (λ trees. option_and_then (subtree way) (child_at y.child trees))
      (changed-brood (inner o k path y.child) (inner-none o k path y.child) y.ticket broods ∙ inner-below way b rest y.child (brood_of y.ticket broods))
      ∙ ap (option_and_then (subtree way)) (child_at-same (settle o k path) y.child (brood_of y.ticket broods))
      ∙ by (child_at y.child (brood_of y.ticket broods)) (λ u. settle-within way b rest u)
    where
      by : (c : Option (Tree (Box M))) → ((u : Tree (Box M)) → subtree way (settle o k (way ++ (b ∷ rest)) u) ≡ option_map (settle o k (b ∷ rest)) (subtree way u))
          → option_and_then (subtree way) (option_map (settle o k (way ++ (b ∷ rest))) c) ≡ option_map (settle o k (b ∷ rest)) (option_and_then (subtree way) c)
      by None down = refl
      by (Some u) down = down u

  -- ---- a word to another

  unchanged : (f : Tree (Box M) → Tree (Box M)) (left : Option Path) (c : Option (Tree (Box M))) → left ≡ None → option_map (at_beyond f left) c ≡ c
  unchanged f None None h = refl
  unchanged f None (Some t) h = refl
  unchanged f (Some rest) c h = cc h

  below-same : (i word : ℕ) (z : Branch) (way : Path) (c : Option (Tree (Box M)))
      → option_and_then (λ a. subtree (z ∷ way) (delivered o k i word a)) c ≡ option_and_then (subtree (z ∷ way)) c
  unfolding subtree
  below-same i word z way None = refl
  below-same i word z way (Some (node b broods log)) = refl

  delivered-off : (i word : ℕ) (to at : Path) (u : Tree (Box M)) → at ≢ to → beyond at to ≡ None
      → subtree at (at_path (delivered o k i word) to u) ≡ subtree at u
  delivered-off i word to at u other off = by (beyond to at) refl
    where
      by : (left : Option Path) → beyond to at ≡ left → subtree at (at_path (delivered o k i word) to u) ≡ subtree at u
      by None e =
          at_path-elsewhere (delivered o k i word) to at u (ap goes_on e) ∙ unchanged (delivered o k i word) (beyond at to) (subtree at u) off
      by (Some []) e = absurd (other (sym (beyond-itself to at e)))
      by (Some (z ∷ way)) e =
          let is : at ≡ to ++ (z ∷ way) = beyond-is to at (z ∷ way) e in
          ap (λ p. subtree p (at_path (delivered o k i word) to u)) is
          ∙ at_path-within (delivered o k i word) to (z ∷ way) u ∙ below-same i word z way (subtree to u)
          ∙ sym (subtree-parts to (z ∷ way) u) ∙ sym (ap (λ p. subtree p u) is)

  story-none : (c : Option (Tree (Box M))) → option_map (story o k []) c ≡ c
  unfolding story
  story-none None = refl
  story-none (Some a) = refl

  -- a word that the machine at a path says to a sibling
  module _ (at : Path) (b : Branch) (path : Path) (u : Tree (Box M)) (off : beyond at (b ∷ path) ≡ None) where
    abbrev from : Path
    from = b ∷ path

    abbrev heard_if : Bool → ℕ → List Event
    heard_if heard word = cond heard (hears (child_number from) word ∷ []) []

    said-one : (j word : ℕ) → (at ≡ to_sibling j from) ⊎ (at ≢ to_sibling j from)
        → subtree at (at_path (delivered o k (child_number from) word) (to_sibling j from) u)
        ≡ option_map (story o k (heard_if (is_sibling from at && j == child_number at) word)) (subtree at u)
    unfolding story
    said-one j word (inl same) =
        let is : is_sibling from at && j == child_number at ≡ true =
        ap₂ (λ x y. x && y) (ap (is_sibling from) same ∙ is-beside j b path)
        (eq-eqb j (child_number at) (sym (ap child_number same ∙ number-beside j b path))) in
        ap (λ p. subtree at (at_path (delivered o k (child_number from) word) p u)) (sym same)
        ∙ at_path-here (delivered o k (child_number from) word) at u
        ∙ ap (λ c. option_map (story o k (heard_if c word)) (subtree at u)) (sym is)
    said-one j word (inr other) = by (is_sibling from at && j == child_number at) refl
      where
        stays : subtree at (at_path (delivered o k (child_number from) word) (to_sibling j from) u) ≡ subtree at u
        stays = elim (sibling-apart o k at from (to_sibling j from) (is-beside j b path) off) [
          | inl same ↦ absurd (other (sym same))
          | inr apart ↦ delivered-off (child_number from) word (to_sibling j from) at u other apart
        ]

        by : (heard : Bool) → is_sibling from at && j == child_number at ≡ heard
            → subtree at (at_path (delivered o k (child_number from) word) (to_sibling j from) u)
            ≡ option_map (story o k (heard_if heard word)) (subtree at u)
        by true e =
            let parts = and_parts (is_sibling from at) (j == child_number at) e in
            absurd (other (sibling-is from at parts.0 ∙ ap (λ n. to_sibling n from) (sym (eqb-true j (child_number at) parts.1))))
        by false e = stays ∙ sym (story-none (subtree at u))

    said : (what : Option Talk) (word : ℕ)
        → subtree at (told o k what word from u) ≡ option_map (story o k (heard_of o k what word at from)) (subtree at u)
    said None word = sym (story-none (subtree at u))
    said (Some (send j)) word = said-one j word (same-path at (to_sibling j from))
    said (Some (receive j)) word = sym (story-none (subtree at u))

  -- the root says nothing to who is below it
  root-said : (y : Branch) (way : Path) (what : Option Talk) (word : ℕ) (u : Tree (Box M))
      → subtree (y ∷ way) (told o k what word [] u) ≡ option_map (story o k (heard_of o k what word (y ∷ way) [])) (subtree (y ∷ way) u)
  unfolding is_sibling to_sibling subtree at_path
  root-said y way None word u = sym (story-none (subtree (y ∷ way) u))
  root-said y way (Some (send j)) word (node b broods log) = sym (story-none (subtree (y ∷ way) (node b broods log)))
  root-said y way (Some (receive j)) word u = sym (story-none (subtree (y ∷ way) u))

  -- what is off its way hears of what the machine at a path says, and of nothing else
  off-said : (at path : Path) (what : Option Talk) (word : ℕ) (u : Tree (Box M)) → beyond at path ≡ None
      → subtree at (told o k what word path u) ≡ option_map (story o k (heard_of o k what word at path)) (subtree at u)
  unfolding beyond
  off-said at (b ∷ path) what word u off = said at b path u off what word
  off-said [] [] what word u off = absurd (cc)
  off-said (y ∷ way) [] what word u off = root-said y way what word u

  -- ---- of the machine

  heard-own : (what : Option Talk) (word : ℕ) (at path : Path) → own_steps (heard_of o k what word at path) ≡ 0
  unfolding own_steps
  heard-own None word at path = refl
  heard-own (Some (send j)) word at path = by (is_sibling path at && j == child_number at)
    where
      by : (heard : Bool) → own_steps (cond heard (hears (child_number path) word ∷ []) []) ≡ 0
      by true = refl
      by false = refl
  heard-own (Some (receive j)) word at path = refl

  heard-machine : (what : Option Talk) (word : ℕ) (at path : Path) (a : Tree (Box M))
      → (machine (story o k (heard_of o k what word at path) a)).machine ≡ (machine a).machine
  unfolding story
  heard-machine None word at path a = refl
  heard-machine (Some (send j)) word at path a = by (is_sibling path at && j == child_number at)
    where
      by : (heard : Bool) → (machine (story o k (cond heard (hears (child_number path) word ∷ []) []) a)).machine ≡ (machine a).machine
      by true = delivered-machine o k (child_number path) word a
      by false = refl
  heard-machine (Some (receive j)) word at path a = refl

  quiet : (happened : List Event) (a b : Tree (Box M)) → happened ≡ [] → b ≡ story o k happened a → b ≡ a
  unfolding story
  quiet happened a b none is = is ∙ ap (λ events. story o k events a) none

  none-of : (f : Tree (Box M) → Tree (Box M)) (c : Option (Tree (Box M))) → None ≡ option_map f c → c ≡ None
  none-of f None e = refl
  none-of f (Some a) e = absurd (cc)

  some-of : (f : Tree (Box M) → Tree (Box M)) (c : Option (Tree (Box M))) (b : Tree (Box M)) → Some b ≡ option_map f c
      → (a : Tree (Box M)) × (c ≡ Some a) × (b ≡ f a)
  some-of f None b e = absurd (cc)
  some-of f (Some a) b e = (a, refl, some-same b (f a) e)

-- ---- one step

-- a machine's tree, after these events, and the steps that it has counted among them
pub record IsAfter {M E : Type 0} (o : Operations M E) (k : Talks M) (happened : List Event) (a b : Tree (Box M)) : Type 0 where
  pub story_is : b ≡ story o k happened a
  pub counted : o.left (machine a).machine ≡ own_steps happened + o.left (machine b).machine

module _ {M E : Type 0} (o : Operations M E) (k : Talks M) (rules : IsMachine o) (talking : IsTalking o k) where
  abbrev all : IsMachine (boxed o k)
  all = boxed-machine o k rules talking

  as-before : (a b : Tree (Box M)) → b ≡ a → IsAfter o k [] a b
  unfolding story own_steps
  as-before a b same = record {
    story_is = same;
    counted = (let kept : o.left (machine a).machine ≡ o.left (machine b).machine = ap (λ (t : Tree (Box M)). o.left (machine t).machine) (sym same) in omega (arith, kept));
  }

  -- off its way
  off-story : (at path : Path) (t a b m : Tree (Box M)) → IsSound (boxed o k) t → subtree at t ≡ Some a → subtree at (settle o k path t) ≡ Some b
      → rests_at o k path t ≡ false → subtree path t ≡ Some m → beyond at path ≡ None
      → IsAfter o k (heard_of o k (k.talk (machine m).machine) (k.word (machine m).machine) at path) a b
  off-story at path t a b m h here there moves is off =
      let what : Option Talk = k.talk (machine m).machine in
      let word : ℕ = k.word (machine m).machine in
      let u : Tree (Box M) = at_path (step (boxed o k)) path t in
      let found = some-of o k (story o k (heard_of o k what word at path)) (subtree at u) b
      (sym there ∙ ap (subtree at) (step-changes o k path t m h is moves) ∙ off-said o k at path what word u off) in
      let same : found.0 ≡ a =
      stepped-at (boxed o k) all at path t h a found.0 here found.1 ∙ ap (λ left. at_beyond (step (boxed o k)) left a) off in
      let after : b ≡ story o k (heard_of o k what word at path) a = found.2 ∙ ap (story o k (heard_of o k what word at path)) same in
      let none = heard-own o k what word at path in
      let kept : o.left (machine b).machine ≡ o.left (machine a).machine =
      ap (λ (t : Tree (Box M)). o.left (machine t).machine) after ∙ ap o.left (heard-machine o k what word at path a) in
      record { story_is = after; counted = omega (arith, none, kept) }

  -- the machine that makes a step, after it
  pub settled-machine : (path : Path) (t a : Tree (Box M)) → IsSound (boxed o k) t → subtree path t ≡ Some a → rests_at o k path t ≡ false
      → option_map (λ (u : Tree (Box M)). (machine u).machine) (subtree path (settle o k path t)) ≡ Some (machine (step (boxed o k) a)).machine
  settled-machine path t a h here moves =
      ap (λ u. option_map (λ (v : Tree (Box M)). (machine v).machine) (subtree path u)) (step-changes o k path t a h here moves)
      ∙ word-machine o k (k.talk (machine a).machine) (k.word (machine a).machine) path path (at_path (step (boxed o k)) path t)
      ∙ ap (option_map (λ (v : Tree (Box M)). (machine v).machine)) (at_path-here (step (boxed o k)) path t ∙ ap (option_map (step (boxed o k))) here)

  -- its own step
  pub own-counts : (a : Tree (Box M)) → IsSound (boxed o k) a → rests (boxed o k) (Some a) ≡ false
      → o.left (machine a).machine ≡ 1 + o.left (machine (step (boxed o k) a)).machine
  unfolding boxed
  own-counts a h moves =
      let counts : o.left (machine a).machine ≡ suc (o.left (machine (step (boxed o k) a)).machine) = step-one (boxed o k) all a h moves in
      omega arith

  own-story : (at : Path) (t a b : Tree (Box M)) → IsWholeForest o k t → subtree at t ≡ Some a → subtree at (settle o k at t) ≡ Some b
      → rests_at o k at t ≡ false → IsAfter o k (makes [] ∷ []) a b
  unfolding story own_steps settle subtree
  own-story at t a b h here there moves =
      let same : b ≡ step (boxed o k) a =
      some-same b (step (boxed o k) a) (sym there ∙ own-step o k at t a here moves (names-other o k talking at t a h here)) in
      let counts = own-counts a (subtree-sound (boxed o k) at t a h.sound here) (parts-goes (rests (boxed o k) (Some a)) _ (sym (rests-parts o k at t a here) ∙ moves)) in
      record { story_is = same; counted = counts ∙ ap (λ (t : Tree (Box M)). 1 + o.left (machine t).machine) (sym same) }
    where
      parts-goes : (x y : Bool) → x || y ≡ false → x ≡ false
      parts-goes true y e = e
      parts-goes false y e = refl

  -- a step of one below it
  within-story : (at : Path) (b : Branch) (rest : Path) (t a c : Tree (Box M)) → subtree at t ≡ Some a → subtree at (settle o k (at ++ (b ∷ rest)) t) ≡ Some c
      → IsAfter o k (makes (b ∷ rest) ∷ []) a c
  unfolding story own_steps
  within-story at b rest t a c here there =
      let same : c ≡ settle o k (b ∷ rest) a =
      some-same c (settle o k (b ∷ rest) a) (sym there ∙ settle-within o k at b rest t ∙ ap (option_map (settle o k (b ∷ rest))) here) in
      let kept : o.left (machine c).machine ≡ o.left (machine a).machine =
      ap (λ (u : Tree (Box M)). o.left (machine u).machine) same ∙ ap (λ (x : Box M). o.left x.machine) (meets.below-stays o k b rest a) in
      record { story_is = same; counted = omega (arith, kept) }

  pub step-story : (at path : Path) (t a b : Tree (Box M)) → IsWholeForest o k t → subtree at t ≡ Some a → subtree at (settle o k path t) ≡ Some b
      → IsAfter o k (event_at o k at path t) a b
  step-story at path t a b h here there = by (rests_at o k path t) refl
    where
      moved : (m : Tree (Box M)) → rests_at o k path t ≡ false → subtree path t ≡ Some m → (left : Option Path) → beyond at path ≡ left
          → IsAfter o k (event_by o k left (machine m) at path) a b
      moved m moves is None e = off-story at path t a b m h.sound here there moves is e
      moved m moves is (Some []) e =
          let same : at ≡ path = beyond-itself at path e in
          own-story at t a b h here (ap (λ p. subtree at (settle o k p t)) same ∙ there) (ap (λ p. rests_at o k p t) same ∙ moves)
      moved m moves is (Some (c ∷ rest)) e =
          within-story at c rest t a b here (ap (λ p. subtree at (settle o k p t)) (sym (beyond-is at path (c ∷ rest) e)) ∙ there)

      by : (rest : Bool) → rests_at o k path t ≡ rest → IsAfter o k (event_of o k rest (subtree path t) at path) a b
      by true e = as-before a b (some-same b a (sym there ∙ ap (subtree at) (settle-rests o k path t h.sound e) ∙ here))
      by false e =
          let m = moves-there o k path t e in
          subst (λ c. IsAfter o k (event_of o k false c at path) a b) (sym m.1) (moved m.0 e m.1 (beyond at path) refl)

  -- ---- steps, one after another

  then-after : (first later : List Event) (a b c : Tree (Box M)) → IsAfter o k first a b → IsAfter o k later b c → IsAfter o k (first ++ later) a c
  then-after first later a b c one other =
      let counts = own-append first later in
      let here = one.counted in
      let there = other.counted in
      record {
        story_is = other.story_is ∙ ap (story o k later) one.story_is ∙ sym (story-append o k first later a);
        counted = omega (arith, counts, here, there);
      }

  -- what is gone stays so
  pub gone-on : (at : Path) (paths : List Path) (t : Tree (Box M)) → IsSound (boxed o k) t → IsGone (boxed o k) all at t
      → subtree at (settle_all o k paths t) ≡ None
  unfolding settle_all
  gone-on at [] t h gone = gone-none (boxed o k) all at t gone
  gone-on at (path ∷ rest) t h gone =
      gone-on at rest (settle o k path t) (settle-keeps o k rules talking path t h).sound (gone-stays o k rules talking all at path t h gone)

  pub steps-story : (at : Path) (paths : List Path) (t a b : Tree (Box M)) → IsWholeForest o k t → subtree at t ≡ Some a
      → subtree at (settle_all o k paths t) ≡ Some b → IsAfter o k (events o k at paths t) a b
  unfolding settle_all events
  steps-story at [] t a b h here there = as-before a b (some-same b a (sym there ∙ here))
  steps-story at (path ∷ rest) t a b h here there =
      let next : Tree (Box M) = settle o k path t in
      elim (cases-ending (subtree at next)) [
        | inl found ↦ then-after (event_at o k at path t) (events o k at rest next) a found.0 b (step-story at path t a found.0 h here found.1)
            (steps-story at rest next found.0 b (settle-whole o k rules talking path t h) found.1 there)
        | inr lost ↦
            let gone = gone-on at rest next (settle-keeps o k rules talking path t h.sound).sound (lost-goes o k rules talking all at path t a h.sound here lost) in
            let no : None ≡ Some b = sym gone ∙ there in
            absurd (cc)
      ]

  -- ---- what is below a machine

  below-one : (at path : Path) (t a b : Tree (Box M)) → IsSound (boxed o k) t → is_below path at ≡ true → subtree at t ≡ Some a
      → subtree at (settle o k path t) ≡ Some b → b ≡ a
  below-one at path t a b h under here there = by (rests_at o k path t) refl
    where
      -- it is no sibling, and hears nothing
      silent : (what : Option Talk) (word : ℕ) → heard_of o k what word at path ≡ []
      silent None word = refl
      silent (Some (send j)) word = ap (λ beside. cond (beside && j == child_number at) (hears (child_number path) word ∷ []) []) (no-sibling path at under)
      silent (Some (receive j)) word = refl

      by : (rest : Bool) → rests_at o k path t ≡ rest → b ≡ a
      by true e = some-same b a (sym there ∙ ap (subtree at) (settle-rests o k path t h e) ∙ here)
      by false e =
          let m = moves-there o k path t e in
          let after = off-story at path t a b m.0 h here there e m.1 (below-apart path at under) in
          quiet o k (heard_of o k (k.talk (machine m.0).machine) (k.word (machine m.0).machine) at path) a b
          (silent (k.talk (machine m.0).machine) (k.word (machine m.0).machine)) after.story_is

  pub below-stays : (n : ℕ) (path at : Path) (t a b : Tree (Box M)) → IsSound (boxed o k) t → is_below path at ≡ true
      → subtree at t ≡ Some a → subtree at (after_steps o k n path t) ≡ Some b → b ≡ a
  below-stays zero path at t a b h under here there = some-same b a (sym there ∙ ap (subtree at) (after-none o k path t) ∙ here)
  below-stays (suc n) path at t a b h under here there =
      let next : Tree (Box M) = settle o k path t in
      let sound = (settle-keeps o k rules talking path t h).sound in
      let first = after-first o k n path t in
      elim (cases-ending (subtree at next)) [
        | inl found ↦
            below-stays n path at next found.0 b sound under found.1 (sym (ap (subtree at) first) ∙ there) ∙ below-one at path t a found.0 h under here found.1
        | inr lost ↦
            let gone = gone-on at (replicate n path) next sound (lost-goes o k rules talking all at path t a h here lost) in
            let no : None ≡ Some b = sym gone ∙ sym (ap (subtree at) first) ∙ there in
            absurd (cc)
      ]

  -- ---- what is dropped

  goes-below : (path : Path) (b : Branch) (rest : Path) → is_below path (path ++ (b ∷ rest)) ≡ true
  goes-below path b rest = ap goes_on (beyond-append path (b ∷ rest))

  gone-step : (path : Path) (b : Branch) (rest : Path) (t a : Tree (Box M)) → IsSound (boxed o k) t → subtree (path ++ (b ∷ rest)) t ≡ Some a
      → subtree (path ++ (b ∷ rest)) (settle o k path t) ≡ None → (x : Tree (Box M)) × (subtree path t ≡ Some x) × Drops (boxed o k) b.ticket x
  gone-step path b rest t a h here there = by (rests_at o k path t) refl
    where
      at : Path
      at = path ++ (b ∷ rest)

      by : (still : Bool) → rests_at o k path t ≡ still → (x : Tree (Box M)) × (subtree path t ≡ Some x) × Drops (boxed o k) b.ticket x
      by true e = let no : None ≡ Some a = sym there ∙ ap (subtree at) (settle-rests o k path t h e) ∙ here in absurd (cc)
      by false e =
          let m = moves-there o k path t e in
          let u : Tree (Box M) = at_path (step (boxed o k)) path t in
          let what : Option Talk = k.talk (machine m.0).machine in
          let word : ℕ = k.word (machine m.0).machine in
          let lost : subtree at u ≡ None =
          none-of o k (story o k (heard_of o k what word at path)) (subtree at u)
          (sym there ∙ ap (subtree at) (step-changes o k path t m.0 h m.1 e) ∙ off-said o k at path what word u (below-apart path at (goes-below path b rest))) in
          let was : subtree (b ∷ rest) m.0 ≡ Some a =
          sym (ap (option_and_then (subtree (b ∷ rest))) m.1) ∙ sym (subtree-parts path (b ∷ rest) t) ∙ here in
          let now : subtree (b ∷ rest) (step (boxed o k) m.0) ≡ None =
          sym (ap (option_and_then (λ (x : Tree (Box M)). subtree (b ∷ rest) (step (boxed o k) x))) m.1)
          ∙ sym (at_path-within (step (boxed o k)) path (b ∷ rest) t) ∙ lost in
          (m.0, m.1, gone-by (boxed o k) all b rest m.0 a (subtree-sound (boxed o k) path t m.0 h m.1) was now)

  -- what is below and gone was dropped by one of the steps
  pub gone-steps : (n : ℕ) (path : Path) (b : Branch) (rest : Path) (t a : Tree (Box M)) → IsSound (boxed o k) t → subtree (path ++ (b ∷ rest)) t ≡ Some a
      → subtree (path ++ (b ∷ rest)) (after_steps o k n path t) ≡ None
      → (i : ℕ) × (i < n) × (x : Tree (Box M)) × (subtree path (after_steps o k i path t) ≡ Some x) × Drops (boxed o k) b.ticket x
  gone-steps zero path b rest t a h here there =
      let no : None ≡ Some a = sym there ∙ ap (subtree (path ++ (b ∷ rest))) (after-none o k path t) ∙ here in absurd (cc)
  gone-steps (suc n) path b rest t a h here there =
      let first = after-first o k n path t in
      elim (cases-ending (subtree (path ++ (b ∷ rest)) (settle o k path t))) [
        | inl found ↦
            let later = gone-steps n path b rest (settle o k path t) found.0 (settle-keeps o k rules talking path t h).sound found.1
            (sym (ap (subtree (path ++ (b ∷ rest))) first) ∙ there) in
            (suc later.0, omega arith, later.2, ap (subtree path) (after-first o k later.0 path t) ∙ later.3, later.4)
        | inr lost ↦
            let now = gone-step path b rest t a h here lost in
            (0, omega arith, now.0, ap (subtree path) (after-none o k path t) ∙ now.1, now.2)
      ]
