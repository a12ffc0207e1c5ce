-- Whether a machine waits that is to make a call or a talk.
use Rattle.std.proofs.Common.{◌≡◌, ℕ, zero, suc, ◌-◌, ◌≤◌, ◌&&◌, ◌||◌, not, Bool, true, false, refl, sym, ap, ap₂, ◌∙◌, List, [], ◌∷◌, ◌++◌}
use Rattle.std.proofs.Common.{Option, Some, None, is_some, option_and_then, option_map, slice_get, length, arith}
use Rattle.std.specs.Prelude.{nat_le}
use Rattle.std.proofs.Math.Bool.{or-false}
use Rattle.image_depot.specs.Key.{Shelves}
use Rattle.fork_port.specs.declared.commands.Call.{Call}
use Rattle.fork_port.specs.declared.commands.Call.TheVariants.{Clone, Join, Kill}
use Rattle.fork_port.specs.declared.ending.Ending.{Ending}
use Rattle.sibling_port.specs.declared.talk.Talk.{Talk}
use Rattle.sibling_port.specs.declared.talk.Talk.TheVariants.{Send, Receive}
use Rattle.forest_tree.specs.Operations as calls
use Rattle.forest_tree.specs.Tree.{Tree, node, Trees, no_tree, tree, machine, broods_of, brood_of, at_child, child_at, Branch, Path, subtree, at_path}
use Rattle.forest_tree.specs.Step as settle
use Rattle.forest_tree.specs.Step.{has_ended, have_ended, waits}
use Rattle.forest_tree.proofs.Places.{child_at-same, at_child-none}
use Rattle.sibling_forest.specs.Talk as siblings
use Rattle.sibling_forest.specs.Talk.{Box, Talks, boxed}
use Rattle.sibling_forest.specs.Settle.{box_at, is_empty, is_full_there, lives_there, waits_by}
use Rattle.sibling_forest.proofs.Crossing.{changed-brood}
use Rattle.forest_tree.specs.Operations.{Operations}
use Rattle.talking_history.specs.Places.{spots, spot_talks}
use Rattle.forest_tree.proofs.Changes.{at_path-here}
use Rattle.talking_history.specs.World.{holds}
use Rattle.talking_history.proofs.Beside.{silent-waits, talk_by, there_by, talk_waits}
use Rattle.forest_model.specs.Machine.{Next, exception, timer_interrupt, plain, call, talk, next}
use Rattle.forest_model.specs.Forest.{call_of, machines, talk_of, talks, tree_talk}
use Rattle.forest_model.specs.Paged.{Paged, paged_machines, paged_talks, stalled_at}
use Rattle.vm_cell.specs.Keyed.{KeyedMachine, paged}
use Rattle.vm_cell.specs.Standing as standings
use Rattle.vm_cell.specs.Standing.{standing_by, standing_from, standing_call, standing_talk, talk_from}
use Rattle.world_core.specs.Answers.{join_ticket, stands_waiting, stands_waiting_of, with_machine}
use Rattle.world_core.specs.Shows.{Member, paged_of, next_talk, forest, slot_at, BornShows, BroodShows, SlotShows, SlotsShow}
use Rattle.world_core.specs.Talking.{lives_in, peer_of, waits_in}
use Rattle.world_core.specs.World.{rests_in}
use Rattle.world_core.specs.declared.cell.Brood.{Brood}
use Rattle.world_core.specs.declared.cell.ChildSlot.{ChildSlot}
use Rattle.world_core.specs.declared.cell.ChildSlot.TheVariants.{Asleep, Awake, Ended}
use Rattle.vm_cell.specs.declared.vm.fork.ForkImage.{ForkImage}
use Rattle.vm_descriptor.specs.declared.descriptor.Descriptor.{Descriptor}
use Rattle.vm_descriptor.specs.Descriptor.{numbered}
use Rattle.image_depot.specs.Key.{Key}
use Rattle.machine_names.specs.Name.{child_path}
use Rattle.machine_names.proofs.Below.{beyond-append}
use Rattle.sibling_words.specs.Words as words
use Rattle.sibling_words.specs.Words.{words_of}
use Rattle.sibling_words.specs.declared.words.TheConstants.{MAX_WORDS}
use Rattle.world_core.proofs.Awake.{slot-ended}
use Rattle.world_core.proofs.Changes.{beyond-parent, outside}
use Rattle.world_core.proofs.Resting.{alive-rests, talk_rests}
use Rattle.world_core.proofs.Steps.{call-quiet, paged-quiet, standing, talking}

-- ---- a machine that waits for a page is at no call and at no talk

no-stall : (waited : Option ℕ) (ending : Option Ending) (step : Next) (c : Call) → standing_by waited ending step ≡ Some c → waited ≡ None
no-stall None ending step c e = refl
no-stall (Some page) ending step c e = absurd (cc)

call-here : (v : KeyedMachine) (c : Call) → standing_call v ≡ Some c → stalled_at (paged v) ≡ None
unfolding standing_call
call-here v c e = no-stall (stalled_at (paged v)) v.machine.ending (next v.machine) c e

no-stall-talk : (waited : Option ℕ) (ending : Option Ending) (step : Next) (t : Talk) → standings.talk_by waited ending step ≡ Some t → waited ≡ None
no-stall-talk None ending step t e = refl
no-stall-talk (Some page) ending step t e = absurd (cc)

pub talk-here : (v : KeyedMachine) (t : Talk) → standing_talk v ≡ Some t → stalled_at (paged v) ≡ None
unfolding standing_talk
talk-here v t e = no-stall-talk (stalled_at (paged v)) v.machine.ending (next v.machine) t e

-- ---- the forest with this machine in its place

pub with-machine-is : (p : Paged) (u : Tree Member) → paged_of (machine (with_machine p u)) ≡ p
with-machine-is p (node b broods log) = refl

with-machine-broods : (p : Paged) (u : Tree Member) → broods_of (with_machine p u) ≡ broods_of u
with-machine-broods p (node b broods log) = refl

pub with-machine-inbox : (p : Paged) (u : Tree Member) → (machine (with_machine p u)).inbox ≡ (machine u).inbox
with-machine-inbox p (node b broods log) = refl

with-machine-ends : (p : Paged) (u : Tree Member) → has_ended forest (with_machine p u) ≡ is_some p.machine.ending
unfolding boxed spots paged_machines machines
with-machine-ends p (node b broods log) = refl

with-machine-waits : (p : Paged) (u : Tree Member) → waits forest (with_machine p u) ≡ settle.waits_by forest (paged_machines.call p) (broods_of u)
unfolding boxed spots
with-machine-waits p (node b broods log) = refl

module _ (v : KeyedMachine) (name : Path) (t u : Tree Member) (there : subtree name t ≡ Some u) where
  abbrev now : Tree Member
  now = with_machine (paged v) u

  abbrev then : Tree Member
  then = at_path (with_machine (paged v)) name t

  there-then : subtree name then ≡ Some now
  there-then = at_path-here (with_machine (paged v)) name t ∙ ap (option_map (with_machine (paged v))) there

  lives-then : (alive : Bool) → has_ended forest now ≡ alive → holds (λ a. not (has_ended forest a)) (subtree name then) ≡ not alive
  lives-then alive e = ap (holds (λ a. not (has_ended forest a))) there-then ∙ ap not e

  -- one that lives
  waiting-is : stalled_at (paged v) ≡ None → v.machine.ending ≡ None
      → stands_waiting_of v name t ≡ (settle.waits_by forest (paged_machines.call (paged v)) (broods_of u) || talk_rests name then)
  waiting-is here lives =
      let alive : has_ended forest now ≡ false = with-machine-ends (paged v) u ∙ ap is_some lives in
      ap₂ (λ stalled rest. not (is_some stalled) && rest) here
      (ap₂ (λ there_so resting. there_so && resting) (lives-then false alive) (alive-rests name then now there-then alive))
      ∙ ap (λ own. own || talk_rests name then) (with-machine-waits (paged v) u)

  pub waiting-rests : stalled_at (paged v) ≡ None → v.machine.ending ≡ None → stands_waiting_of v name t ≡ rests_in then name
  waiting-rests here lives =
      ap (λ stalled. not (is_some stalled) && stands_waiting name then) here
      ∙ ap (λ there_so. there_so && rests_in then name) (lives-then false (with-machine-ends (paged v) u ∙ ap is_some lives))

  -- one that has ended
  ended-waits : (ending : Ending) → v.machine.ending ≡ Some ending → stands_waiting name then ≡ false
  ended-waits ending over =
      ap (λ alive. alive && rests_in then name) (lives-then true (with-machine-ends (paged v) u ∙ ap is_some over))

  quiet-then : paged_talks.talk (paged v) ≡ None → talk_rests name then ≡ false
  unfolding spot_talks
  quiet-then quiet =
      silent-waits (spots paged_machines) (spot_talks paged_talks) name then now there-then
      (ap paged_talks.talk (with-machine-is (paged v) u) ∙ quiet)

  -- one that stands at the JOIN of a ticket waits where a child of it lives
  pub waits-join : (ticket : ℕ) → Some ticket ≡ join_ticket (standing_call v) → not (have_ended forest (brood_of ticket (broods_of u))) ≡ stands_waiting_of v name t
  waits-join ticket e =
      let at : standing_call v ≡ Some (Join ticket) = by (standing_call v) e in
      let is = standing v (Join ticket) at in
      sym (waiting-is (call-here v (Join ticket) at) is.0
      ∙ ap₂ (λ c by_talk. settle.waits_by forest c (broods_of u) || by_talk) is.1 (quiet-then (call-quiet (paged v) (calls.join ticket) is.1))
      ∙ or-false (not (have_ended forest (brood_of ticket (broods_of u)))))
    where
      by : (c : Option Call) → Some ticket ≡ join_ticket c → c ≡ Some (Join ticket)
      by None e = absurd (cc)
      by (Some (Clone t)) e = absurd (cc)
      by (Some (Join t)) e = let same : ticket ≡ t = cc in ap (λ u. let c : Call = Join u in Some c) (sym same)
      by (Some (Kill t)) e = absurd (cc)

  -- and one that stands at no JOIN and at no talk waits for nothing
  quiet-step : (step : Next) → None ≡ join_ticket (standing_from None step) → talk_from None step ≡ None
      → (settle.waits_by forest (call_of step) (broods_of u) ≡ false) × (talk_of step ≡ None)
  quiet-step (exception cause value) e quiet = (refl, refl)
  quiet-step timer_interrupt e quiet = (refl, refl)
  quiet-step plain e quiet = (refl, refl)
  quiet-step (call (Clone t)) e quiet = (refl, refl)
  quiet-step (call (Join t)) e quiet = absurd (cc)
  quiet-step (call (Kill t)) e quiet = (refl, refl)
  quiet-step (talk what) e quiet = absurd (cc)

  pub waits-none : None ≡ join_ticket (standing_call v) → standing_talk v ≡ None → false ≡ stands_waiting_of v name t
  unfolding standing_call standing_talk paged_machines machines paged_talks talks
  waits-none e quiet = by (stalled_at (paged v)) refl v.machine.ending refl
    where
      by : (waited : Option ℕ) → stalled_at (paged v) ≡ waited → (ending : Option Ending) → v.machine.ending ≡ ending → false ≡ stands_waiting_of v name t
      by (Some page) at ending over = ap (λ stalled. not (is_some stalled) && stands_waiting name then) (sym at)
      by None here (Some ending) over =
          sym (ap₂ (λ stalled rest. not (is_some stalled) && rest) here (ended-waits ending over))
      by None here None lives =
          let is = quiet-step (next v.machine)
          (e ∙ ap₂ (λ waited ending. join_ticket (standing_by waited ending (next v.machine))) here lives)
          (sym (ap₂ (λ waited ending. standings.talk_by waited ending (next v.machine)) here lives) ∙ quiet) in
          sym (waiting-is here lives ∙ ap₂ (λ own by_talk. own || by_talk) is.0 (quiet-then is.1))

  -- one that stands at a talk waits with it
  pub waits-talk : (what : Talk) → standing_talk v ≡ Some what → stands_waiting_of v name t ≡ talk_rests name then
  waits-talk what e =
      let is = talking v what e in
      waiting-is (talk-here v what e) is.0
      ∙ ap (λ c. settle.waits_by forest c (broods_of u) || talk_rests name then) (paged-quiet (paged v) (tree_talk what) is.1)

-- ---- the talk of a child is told of the children of its ticket

module _ {M E : Type 0} (o : Operations M E) (k : Talks M) where
  abbrev talk_among : Branch → Tree (Box M) → Bool
  talk_among x p = talk_by o k (child_at x.child (brood_of x.ticket (broods_of p))) x.child (brood_of x.ticket (broods_of p))

  talk-child : (parent : Path) (x : Branch) (t : Tree (Box M)) → talk_waits o k (parent ++ (x ∷ [])) t ≡ there_by o k (talk_among x) (subtree parent t)
  unfolding talk_waits subtree
  talk-child [] x t = refl
  talk-child (b ∷ []) x t = by (child_at b.child (brood_of b.ticket (broods_of t)))
    where
      by : (c : Option (Tree (Box M))) → there_by o k (talk_waits o k (x ∷ [])) c ≡ there_by o k (talk_among x) (option_and_then (subtree []) c)
      by None = refl
      by (Some u) = refl
  talk-child (b ∷ (c ∷ way)) x t = by (child_at b.child (brood_of b.ticket (broods_of t))) (λ u. talk-child (c ∷ way) x u)
    where
      by : (d : Option (Tree (Box M)))
          → ((u : Tree (Box M)) → talk_waits o k ((c ∷ way) ++ (x ∷ [])) u ≡ there_by o k (talk_among x) (subtree (c ∷ way) u))
          → there_by o k (talk_waits o k ((c ∷ way) ++ (x ∷ []))) d ≡ there_by o k (talk_among x) (option_and_then (subtree (c ∷ way)) d)
      by None down = refl
      by (Some u) down = down u

abbrev pub rests-among : ℕ → ℕ → Trees Member → Option siblings.Talk → Member → Bool
rests-among ticket i trees what b = waits_by (spots paged_machines) (spot_talks paged_talks) what i b trees

-- as it stands
pub talk-at : (parent : Path) (y : Branch) (t p u : Tree Member) → subtree parent t ≡ Some p → child_at y.child (brood_of y.ticket (broods_of p)) ≡ Some u
    → talk_rests (parent ++ (y ∷ [])) t ≡ rests-among y.ticket y.child (brood_of y.ticket (broods_of p)) (next_talk (machine u)) (machine u)
talk-at parent y t p u at found =
    talk-child (spots paged_machines) (spot_talks paged_talks) parent y t
    ∙ ap (there_by (spots paged_machines) (spot_talks paged_talks) (talk_among (spots paged_machines) (spot_talks paged_talks) y)) at
    ∙ ap (λ c. talk_by (spots paged_machines) (spot_talks paged_talks) c y.child (brood_of y.ticket (broods_of p))) found

-- with another machine in its place
pub talk-now : (f : Tree Member → Tree Member) (parent : Path) (x : Branch) (t p u : Tree Member) → subtree parent t ≡ Some p
    → child_at x.child (brood_of x.ticket (broods_of p)) ≡ Some u
    → talk_rests (parent ++ (x ∷ [])) (at_path f (parent ++ (x ∷ [])) t)
    ≡ rests-among x.ticket x.child (at_child f x.child (brood_of x.ticket (broods_of p))) (next_talk (machine (f u))) (machine (f u))
unfolding at_path
talk-now f parent x t (node m broods log) u at found =
    let trees : Trees Member = brood_of x.ticket broods in
    let after : Trees Member = at_child f x.child trees in
    talk-child (spots paged_machines) (spot_talks paged_talks) parent x (at_path f (parent ++ (x ∷ [])) t)
    ∙ ap (there_by (spots paged_machines) (spot_talks paged_talks) (talk_among (spots paged_machines) (spot_talks paged_talks) x))
    (outside f (parent ++ (x ∷ [])) parent t (Some (x ∷ [])) (beyond-parent parent x []) (beyond-append parent (x ∷ []))
    ∙ ap (option_map (at_path f (x ∷ []))) at)
    ∙ ap (λ left. talk_by (spots paged_machines) (spot_talks paged_talks) (child_at x.child left) x.child left)
    (changed-brood (at_child f x.child) (at_child-none f x.child) x.ticket broods)
    ∙ ap (λ c. talk_by (spots paged_machines) (spot_talks paged_talks) c x.child after)
    (child_at-same f x.child trees ∙ ap (option_map f) found)

-- ---- and a brood tells it of its slots and its words

slot-life : (path : Path) (key : Key) (seed : Descriptor) (slot : ChildSlot) (t : Tree Member) → SlotShows path key seed slot t
    → lives_in (Some slot) ≡ not (has_ended forest t)
slot-life path key seed Asleep t h = sym (ap not h.lives)
slot-life path key seed (Awake name) t h = sym (ap not h.0.lives)
slot-life path key seed (Ended outcome) t h = sym (ap not (slot-ended outcome.ending t h.0))

slot-lives : (path : Path) (ticket : ℕ) (key : Key) (k : ℕ) (seed : Descriptor) (slots : List ChildSlot) (trees : Trees Member) (j : ℕ)
    → SlotsShow path ticket key k seed slots trees
    → lives_in (slice_get slots j) ≡ lives_there (spots paged_machines) (spot_talks paged_talks) (box_at (spots paged_machines) (spot_talks paged_talks) (suc j) trees)
unfolding SlotsShow child_at boxed
slot-lives path ticket key k seed [] no_tree zero h = refl
slot-lives path ticket key k seed [] no_tree (suc j) h = refl
slot-lives path ticket key k seed [] (tree t rest) j h = absurd h
slot-lives path ticket key k seed (slot ∷ slots) no_tree j h = absurd h
slot-lives path ticket key k seed (slot ∷ slots) (tree t rest) zero h = slot-life (child_path path ticket k) key (numbered k seed) slot t h.0
slot-lives path ticket key k seed (slot ∷ slots) (tree t rest) (suc j) h = slot-lives path ticket key (suc k) seed slots rest j h.1

born-lives : (depot : Shelves) (path : Path) (ticket : ℕ) (image : Option ForkImage) (slots : List ChildSlot) (trees : Trees Member) (j : ℕ)
    → BornShows depot path ticket image slots trees
    → lives_in (slice_get slots j) ≡ lives_there (spots paged_machines) (spot_talks paged_talks) (box_at (spots paged_machines) (spot_talks paged_talks) (suc j) trees)
born-lives depot path ticket None slots trees j h = slot-lives path ticket h.0 1 h.1 slots trees j h.3
born-lives depot path ticket (Some image) slots trees j h = slot-lives path ticket image.key 1 image.seed slots trees j h.1

module _ (depot : Shelves) (path : Path) (ticket : ℕ) (b : Brood) (trees : Trees Member) (shows : BroodShows depot path ticket b trees) where
  pub sibling-lives : (j : ℕ) → 1 ≤ j
      → lives_in (slot_at j b.slots.items) ≡ lives_there (spots paged_machines) (spot_talks paged_talks) (box_at (spots paged_machines) (spot_talks paged_talks) j trees)
  sibling-lives zero first = absurd (omega (arith, first))
  sibling-lives (suc j) first =
      let same : suc j - 1 ≡ j = omega arith in
      ap (λ n. lives_in (slice_get b.slots.items n)) same ∙ born-lives depot path ticket b.image b.slots.items trees j shows.born

  -- a queue is full as its words are
  full-by : (j i : ℕ) (c : Option (Tree Member)) → child_at j trees ≡ c
      → lives_there (spots paged_machines) (spot_talks paged_talks) (option_map machine c) && nat_le MAX_WORDS (length (words_of b.words j i))
      ≡ lives_there (spots paged_machines) (spot_talks paged_talks) (option_map machine c) && is_full_there (spots paged_machines) (spot_talks paged_talks) i (option_map machine c)
  full-by j i None e = refl
  full-by j i (Some t) e =
      ap (λ q. lives_there (spots paged_machines) (spot_talks paged_talks) (Some (machine t)) && nat_le MAX_WORDS (length q)) (sym (shows.heard.words j t e i))

  empty-same : (q : List ℕ) → words.is_empty q ≡ is_empty q
  empty-same [] = refl
  empty-same (word ∷ rest) = refl

  pub waits-in : (i : ℕ) (what : Talk) (u : Tree Member) → child_at i trees ≡ Some u → 1 ≤ peer_of what
      → waits_in b i what ≡ rests-among ticket i trees (Some (tree_talk what)) (machine u)
  waits-in i (Send j) u found first =
      ap (λ lives. lives && nat_le MAX_WORDS (length (words_of b.words j i))) (sibling-lives j first) ∙ full-by j i (child_at j trees) refl
  waits-in i (Receive j) u found first =
      ap₂ (λ lives none. lives && none) (sibling-lives j first) (empty-same (words_of b.words i j) ∙ ap is_empty (sym (shows.heard.words i u found j)))
