-- A step changes its own machine and what is below it, and of its siblings the queues from it. It leaves all other logs.
use Rattle.std.proofs.Common.{◌≡◌, ◌≢◌, ℕ, eqb, eqb-true, eq-eqb, Bool, true, false, cond, ◌&&◌, refl, sym, ap, ap₂, ◌∙◌, [], ◌∷◌, Option, Some, None, option_map, option_and_then}
use Rattle.std.proofs.lemmas.Bool.{eqb-false}
use Rattle.forest_tree.specs.Operations.{Operations}
use Rattle.forest_tree.specs.Tree.{Tree, node, Trees, Broods, machine, log_of, at_child, child_at, brood_of, with_broods, at_brood, Branch, Path, subtree, beyond, goes_on, is_below}
use Rattle.forest_tree.specs.Step.{step}
use Rattle.forest_tree.proofs.Places.{some-same, brood_of-at, child_at-same, child_at-other}
use Rattle.sibling_forest.specs.Talk.{Talk, send, receive, peer, Talks, queue, Box, boxed}
use Rattle.sibling_forest.specs.Settle.{with_word, sibling_rests, sibling_step, sibling_step_by, settle, heard_by, rests_there, rests_at}
use Rattle.sibling_forest.specs.Laws.{child_number, is_sibling}
use Rattle.sibling_forest.proofs.Families.{at_child-id}
use Rattle.sibling_forest.proofs.Queues.{queue-other}
use Rattle.sibling_forest.proofs.Crossing.{changed-brood}
use Rattle.sibling_forest.proofs.Siblings.{brings, target, brings-machine, sibling-moves, after-one}
use Rattle.sibling_forest.proofs.Inner.{inner, settle-is, inner-none, below-machine, brings-subtree}

-- what a view of a tree shows of it, where it overlooks what may change there
module _ {M E : Type 0} (o : Operations M E) (k : Talks M) {A : Type 0} (view : Tree (Box M) → A) where
  abbrev seen : Option (Tree (Box M)) → Option A
  seen c = option_map view c

  -- it overlooks the children
  abbrev pub Shallow : Type 0
  Shallow = (f : Broods (Box M) → Broods (Box M)) (t : Tree (Box M)) → view (with_broods f t) ≡ view t

  -- and what child i of the same ticket says
  abbrev pub Deaf : ℕ → Type 0
  Deaf i = (what : Option Talk) (word : ℕ) (t : Tree (Box M)) → view (brings o k what i word t) ≡ view t

  -- another child of the ticket, and below it
  sibling-seen : (way : Path) (i j : ℕ) (trees : Trees (Box M)) → i ≢ j → (way ≡ [] → Deaf i) → (rest : Bool) → sibling_rests o k i trees ≡ rest
      → seen (option_and_then (subtree way) (child_at j (sibling_step o k i trees))) ≡ seen (option_and_then (subtree way) (child_at j trees))
  unfolding subtree
  sibling-seen way i j trees other deaf true e =
      ap (λ left. seen (option_and_then (subtree way) (child_at j left))) (ap (λ rest. sibling_step_by o k rest (child_at i trees) i trees) e)
  sibling-seen way i j trees other deaf false e =
      let a = sibling-moves o k i trees e in
      ap (λ left. seen (option_and_then (subtree way) (child_at j left))) (a.1).steps
      ∙ after-one o k i trees a.0 a.1 (λ c. seen (option_and_then (subtree way) c) ≡ seen (option_and_then (subtree way) (child_at j trees))) j refl
      (λ here. absurd (other here))
      (λ t was. hears way deaf (k.talk (machine a.0).machine) (k.word (machine a.0).machine) t ∙ was)
    where
      hears : (way : Path) → (way ≡ [] → Deaf i) → (what : Option Talk) (word : ℕ) (t : Tree (Box M))
          → seen (subtree way (brings o k what i word t)) ≡ seen (subtree way t)
      hears [] deaf what word t = ap Some (deaf refl what word t)
      hears (z ∷ way) deaf what word t = ap seen (brings-subtree o k what i word z way t)

  inside-seen : (c : Branch) (p way : Path) (there : Option (Tree (Box M)))
      → ((u : Tree (Box M)) → seen (subtree way (settle o k (c ∷ p) u)) ≡ seen (subtree way u))
      → seen (option_and_then (subtree way) (option_map (settle o k (c ∷ p)) there)) ≡ seen (option_and_then (subtree way) there)
  inside-seen c p way None down = refl
  inside-seen c p way (Some u) down = down u

  -- how the ways go on
  abbrev OnWay : Path → Path → Type 0
  OnWay at path = (beyond at path ≡ None → ⊥) → Shallow

  abbrev Beside : Path → Path → Type 0
  Beside at path = is_sibling path at ≡ true → Deaf (child_number path)

  -- of two ways that begin alike
  goes-alike : (b y : Branch) (p way : Path) → b.ticket ≡ y.ticket → b.child ≡ y.child → beyond (y ∷ way) (b ∷ p) ≡ beyond way p
  unfolding beyond
  goes-alike b y p way ticket child =
      ap₂ (λ s c. cond (s && c) (beyond way p) None) (eq-eqb b.ticket y.ticket ticket) (eq-eqb b.child y.child child)

  below-alike : (b y : Branch) (p way : Path) → b.ticket ≡ y.ticket → b.child ≡ y.child → is_below (b ∷ p) (y ∷ way) ≡ false → is_below p way ≡ false
  unfolding beyond
  below-alike b y p way ticket child h =
      sym (ap₂ (λ s c. goes_on (cond (s && c) (beyond p way) None))
      (eq-eqb y.ticket b.ticket (sym ticket)) (eq-eqb y.child b.child (sym child))) ∙ h

  on-way : (b y : Branch) (p way : Path) → b.ticket ≡ y.ticket → b.child ≡ y.child → OnWay (y ∷ way) (b ∷ p) → OnWay way p
  on-way b y p way ticket child h there = h (λ none. there (sym (goes-alike b y p way ticket child) ∙ none))

  not-below : (way : Path) → is_below [] way ≡ false → way ≡ []
  unfolding beyond
  not-below [] h = refl
  not-below (z ∷ way) h = absurd (cc)

  branch-is : (b y : Branch) → b.ticket ≡ y.ticket → b.child ≡ y.child → y ≡ b
  branch-is b y ticket child = ap₂ (λ (t c : ℕ). record { ticket = t; child = c }) (sym ticket) (sym child)

  -- what goes on below a branch
  abbrev Down : Path → Path → Type 0
  Down p way = (u : Tree (Box M)) → way ≢ p → is_below p way ≡ false → OnWay way p → Beside way p
      → seen (subtree way (settle o k p u)) ≡ seen (subtree way u)

  branch-seen : (p way : Path) (b y : Branch) (trees : Trees (Box M)) (child : Bool) → eqb b.child y.child ≡ child → b.ticket ≡ y.ticket
      → (y ∷ way) ≢ (b ∷ p) → is_below (b ∷ p) (y ∷ way) ≡ false → OnWay (y ∷ way) (b ∷ p) → Beside (y ∷ way) (b ∷ p) → Down p way
      → seen (option_and_then (subtree way) (child_at y.child (inner o k p b.child trees))) ≡ seen (option_and_then (subtree way) (child_at y.child trees))
  unfolding is_sibling child_number
  branch-seen [] way b y trees true e ticket other below on deaf down =
      let child : b.child ≡ y.child = eqb-true b.child y.child e in
      absurd (other (ap₂ (λ (v : Branch) (w : Path). v ∷ w) (branch-is b y ticket child) (not-below way (below-alike b y [] way ticket child below))))
  branch-seen [] way b y trees false e ticket other below on deaf down =
      sibling-seen way b.child y.child trees (eqb-false b.child y.child e)
      (λ none. deaf (ap (λ w. is_sibling (b ∷ []) (y ∷ w)) none ∙ eq-eqb b.ticket y.ticket ticket)) (sibling_rests o k b.child trees) refl
  branch-seen (c ∷ p) way b y trees false e ticket other below on deaf down =
      ap (λ d. seen (option_and_then (subtree way) d)) (child_at-other (settle o k (c ∷ p)) b.child y.child trees (eqb-false b.child y.child e))
  branch-seen (c ∷ p) way b y trees true e ticket other below on deaf down =
      let child : b.child ≡ y.child = eqb-true b.child y.child e in
      ap (λ n. seen (option_and_then (subtree way) (child_at y.child (at_child (settle o k (c ∷ p)) n trees)))) child
      ∙ ap (λ d. seen (option_and_then (subtree way) d)) (child_at-same (settle o k (c ∷ p)) y.child trees)
      ∙ inside-seen c p way (child_at y.child trees) (λ u. down u
      (λ same. other (ap₂ (λ (v : Branch) (w : Path). v ∷ w) (branch-is b y ticket child) same))
      (below-alike b y (c ∷ p) way ticket child below)
      (on-way b y (c ∷ p) way ticket child on)
      (λ is. deaf (ap₂ (λ s d. s && d && is_sibling (c ∷ p) way) (eq-eqb b.ticket y.ticket ticket) e ∙ is)))

  in-root : (y : Branch) (way : Path) → is_below [] (y ∷ way) ≡ false → ⊥
  unfolding beyond
  in-root y way h = absurd (cc)

  -- where nothing is left of a way the view is shallow
  on-first : (b : Branch) (p : Path) → OnWay [] (b ∷ p) → Shallow
  unfolding beyond
  on-first b p on = on (λ none. absurd (cc none))

  pub view-stays : (path at : Path) (t : Tree (Box M)) → at ≢ path → is_below path at ≡ false → OnWay at path → Beside at path
      → seen (subtree at (settle o k path t)) ≡ seen (subtree at t)
  unfolding subtree
  view-stays [] [] t other below on deaf = absurd (other refl)
  view-stays [] (y ∷ way) t other below on deaf = absurd (in-root y way below)
  view-stays (b ∷ p) [] t other below on deaf =
      ap (λ u. Some (view u)) (settle-is o k b p t)
      ∙ ap Some (on-first b p on (at_brood (inner o k p b.child) b.ticket) t)
  view-stays (b ∷ p) (y ∷ way) (node x broods log) other below on deaf =
      ap (λ u. seen (subtree (y ∷ way) u)) (settle-is o k b p (node x broods log))
      ∙ ap (λ trees. seen (option_and_then (subtree way) (child_at y.child trees))) (brood_of-at (inner o k p b.child) (inner-none o k p b.child) b.ticket y.ticket broods)
      ∙ by (eqb b.ticket y.ticket) refl (λ u. view-stays p way u)
    where
      by : (ticket : Bool) → eqb b.ticket y.ticket ≡ ticket → Down p way
          → seen (option_and_then (subtree way) (child_at y.child (cond ticket (inner o k p b.child (brood_of y.ticket broods)) (brood_of y.ticket broods))))
          ≡ seen (option_and_then (subtree way) (child_at y.child (brood_of y.ticket broods)))
      by false e down = refl
      by true e down =
          branch-seen p way b y (brood_of y.ticket broods) (eqb b.child y.child) refl (eqb-true b.ticket y.ticket e) other below on deaf down

module _ {M E : Type 0} (o : Operations M E) (k : Talks M) where
  -- no other machine changes
  pub others-stay : (path at : Path) (t : Tree (Box M)) → at ≢ path → is_below path at ≡ false
      → option_map (λ (u : Tree (Box M)). (machine u).machine) (subtree at (settle o k path t)) ≡ option_map (λ (u : Tree (Box M)). (machine u).machine) (subtree at t)
  others-stay path at t other below =
      view-stays o k (λ u. (machine u).machine) path at t other below (λ on f u. ap (λ (b : Box M). b.machine) (below-machine o k f u))
      (λ is what word u. brings-machine o k what (child_number path) word u)

  -- nor does the log of one
  below-log : (f : Broods (Box M) → Broods (Box M)) (t : Tree (Box M)) → log_of (with_broods f t) ≡ log_of t
  below-log f (node b broods log) = refl

  brings-log : (what : Option Talk) (i word : ℕ) (t : Tree (Box M)) → log_of (brings o k what i word t) ≡ log_of t
  brings-log None i word t = refl
  brings-log (Some (send j)) i word (node b broods log) = refl
  brings-log (Some (receive j)) i word t = refl

  pub logs-stay : (path at : Path) (t : Tree (Box M)) → at ≢ path → is_below path at ≡ false
      → option_map log_of (subtree at (settle o k path t)) ≡ option_map log_of (subtree at t)
  logs-stay path at t other below =
      view-stays o k log_of path at t other below (λ on f u. below-log f u) (λ is what word u. brings-log what (child_number path) word u)

  heard-queue : (e : Option E) (i word s : ℕ) (b : Box M) → s ≢ i → queue s (heard_by o k e i word b).inbox ≡ queue s b.inbox
  heard-queue None i word s b other = queue-other (with_word word) i s b.inbox (λ e. other (sym e))
  heard-queue (Some ending) i word s b other = refl

  brings-queue : (what : Option Talk) (i word s : ℕ) (t : Tree (Box M)) → s ≢ i → queue s (machine (brings o k what i word t)).inbox ≡ queue s (machine t).inbox
  brings-queue None i word s t other = refl
  brings-queue (Some (send j)) i word s (node b broods log) other = heard-queue (o.ending b.machine) i word s b other
  brings-queue (Some (receive j)) i word s t other = refl

  -- nor does a queue to one, but that of a sibling from the machine that made the step
  pub queues-stay : (path at : Path) (s : ℕ) (t : Tree (Box M)) → at ≢ path → is_below path at ≡ false
      → (is_sibling path at ≡ true → s ≢ child_number path)
      → option_map (λ (u : Tree (Box M)). queue s (machine u).inbox) (subtree at (settle o k path t)) ≡ option_map (λ (u : Tree (Box M)). queue s (machine u).inbox) (subtree at t)
  queues-stay path at s t other below apart =
      view-stays o k (λ u. queue s (machine u).inbox) path at t other below (λ on f u. ap (λ (b : Box M). queue s b.inbox) (below-machine o k f u))
      (λ is what word u. brings-queue what (child_number path) word s u (apart is))

  -- the machine itself makes its own step
  own-after : (what : Option Talk) (i word : ℕ) (trees : Trees (Box M)) → ((said : Talk) → what ≡ Some said → peer said ≢ i)
      → child_at i (at_child (brings o k what i word) (target o k what) trees) ≡ child_at i trees
  own-after None i word trees other = ap (child_at i) (at_child-id 0 trees)
  own-after (Some (send j)) i word trees other = child_at-other (brings o k (Some (send j)) i word) j i trees (other (send j) refl)
  own-after (Some (receive j)) i word trees other = ap (child_at i) (at_child-id 0 trees)

  own-sibling : (i : ℕ) (trees : Trees (Box M)) (a : Tree (Box M)) → child_at i trees ≡ Some a → sibling_rests o k i trees ≡ false
      → ((said : Talk) → k.talk (machine a).machine ≡ Some said → peer said ≢ i)
      → child_at i (sibling_step o k i trees) ≡ Some (step (boxed o k) a)
  own-sibling i trees a here moves other =
      let m = sibling-moves o k i trees moves in
      let same : m.0 ≡ a = some-same m.0 a (sym (m.1).found ∙ here) in
      ap (child_at i) (m.1).steps
      ∙ own-after (k.talk (machine m.0).machine) i (k.word (machine m.0).machine) (at_child (step (boxed o k)) i trees)
      (λ said talks. other said (ap (λ (u : Tree (Box M)). k.talk (machine u).machine) (sym same) ∙ talks))
      ∙ child_at-same (step (boxed o k)) i trees ∙ ap (option_map (step (boxed o k))) here

  is-child : (path : Path) (c : Option (Tree (Box M))) (a : Tree (Box M)) → option_and_then (subtree path) c ≡ Some a
      → (u : Tree (Box M)) × (c ≡ Some u) × (subtree path u ≡ Some a)
  is-child path None a e = absurd (cc)
  is-child path (Some u) a e = (u, refl, e)

  pub own-step : (path : Path) (t a : Tree (Box M)) → subtree path t ≡ Some a → rests_at o k path t ≡ false
      → ((said : Talk) → k.talk (machine a).machine ≡ Some said → peer said ≢ child_number path)
      → subtree path (settle o k path t) ≡ Some (step (boxed o k) a)
  unfolding settle subtree rests_at child_number
  own-step [] t a here moves other = ap (λ u. Some (step (boxed o k) u)) (some-same t a here)
  own-step (b ∷ []) (node x broods log) a here moves other =
      let is = is-child [] (child_at b.child (brood_of b.ticket broods)) a here in
      let found : child_at b.child (brood_of b.ticket broods) ≡ Some a = is.1 ∙ is.2 in
      ap (λ trees. option_and_then (subtree []) (child_at b.child trees)) (changed-brood (sibling_step o k b.child) (inner-none o k [] b.child) b.ticket broods)
      ∙ ap (option_and_then (subtree [])) (own-sibling b.child (brood_of b.ticket broods) a found moves other)
  own-step (b ∷ (c ∷ path)) (node x broods log) a here moves other =
      let is = is-child (c ∷ path) (child_at b.child (brood_of b.ticket broods)) a here in
      ap (λ trees. option_and_then (subtree (c ∷ path)) (child_at b.child trees))
      (changed-brood (at_child (settle o k (c ∷ path)) b.child) (inner-none o k (c ∷ path) b.child) b.ticket broods)
      ∙ ap (option_and_then (subtree (c ∷ path)))
      (child_at-same (settle o k (c ∷ path)) b.child (brood_of b.ticket broods) ∙ ap (option_map (settle o k (c ∷ path))) is.1)
      ∙ own-step (c ∷ path) is.0 a is.2 (ap (rests_there (rests_at o k (c ∷ path))) (sym is.1) ∙ moves) other
