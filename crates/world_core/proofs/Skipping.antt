-- Machines that a change of a sibling wakes, and those that it does not.
use Rattle.std.proofs.Common.{◌≡◌, ◌≢◌, ◌⊎◌, ◌||◌, inl, inr, ℕ, ◌&&◌, not, eqb, eqb-true, Bool, true, false, cond, refl, sym, ap, ◌∙◌, subst, Option, Some, None, option_map}
use Rattle.std.specs.Option.{IfSome}
use Rattle.std.proofs.lemmas.Bool.{eqb-false, ne_eqb}
use Rattle.image_depot.specs.Key.{Shelves}
use Rattle.forest_tree.specs.Tree.{Tree, node, Trees, machine, broods_of, brood_of, at_child, child_at, Path, subtree}
use Rattle.forest_tree.specs.Step.{has_ended, waits, waits_by as call_waits}
use Rattle.forest_tree.proofs.Places.{at_child-none, child_at-same, child_at-other}
use Rattle.forest_tree.specs.Operations.{join}
use Rattle.sibling_forest.proofs.Crossing.{changed-brood}
use Rattle.sibling_forest.specs.Talk.{Talk, send, receive, peer, boxed, queue}
use Rattle.sibling_forest.specs.Settle.{box_at, is_empty, is_full_there, lives_there, waits_by}
use Rattle.talking_history.specs.Places.{Place, asleep, home, out, parked, spots, spot_talks}
use Rattle.talking_history.specs.World.{is_ready_at, holds, lives_ready}
use Rattle.forest_model.specs.Paged.{paged_machines, paged_talks}
use Rattle.std.specs.BTreeMap.{get}
use Rattle.machine_names.specs.Name.{child_path}
use Rattle.machine_names.specs.NameOrder.{path_cmp}
use Rattle.forest_model.specs.Forest.{tree_talk}
use Rattle.sibling_port.specs.declared.talk.Talk as port
use Rattle.sibling_port.specs.declared.talk.Talk.TheVariants.{Send, Receive}
use Rattle.sibling_words.specs.declared.notes.SiblingNotes.{SiblingNotes}
use Rattle.sibling_words.specs.Notes.{noted}
use Rattle.world_core.specs.declared.world.World.{World}
use Rattle.world_core.specs.declared.cell.Awaited.{Awaited}
use Rattle.world_core.specs.declared.cell.Awaited.TheVariants.{Children, Sibling}
use Rattle.world_core.specs.declared.cell.Cell.{Cell}
use Rattle.world_core.specs.declared.cell.Change.{Change}
use Rattle.world_core.specs.declared.cell.Change.TheVariants.{AllEnded, Word, Room, Ended}
use Rattle.world_core.specs.declared.cell.State.{State}
use Rattle.world_core.specs.declared.cell.State.TheVariants.{Home, Parked, Out}
use Rattle.world_core.specs.Shows.{Member, Awaits, CellShows, IsKinIn, IsNoted, IsStateOf, Shows, StateShows, child_of, forest, next_talk, paged_of, with_child}
use Rattle.world_core.specs.World.{Rests, ShowsEach}
use Rattle.world_core.proofs.Resting.{alive-rests, talk_rests}
use Rattle.world_core.specs.World.{rests_in}
use Rattle.world_core.proofs.Steps.{call-quiet, talk-quiet}
use Rattle.world_core.proofs.Waiting.{rests-among, talk-at}
use Rattle.world_core.specs.Stirring.{IsWokenBy, RestsAsBefore}
use Rattle.world_core.specs.Unparked.{ends_wait, is_parked_for, unparked}
use Rattle.world_core.proofs.SlotEnds.{holds-same, unparked-kin, unparked-of}
use Rattle.world_core.proofs.SlotPlaces.{both, ready-home}

-- ---- a machine that rests as before where it is parked

pub rests-same : (before after : Bool) (u : Option (Tree Member)) → ((t : Tree Member) → u ≡ Some t → after ≡ before) → IfSome u (RestsAsBefore before after)
rests-same before after None same = tt
rests-same before after (Some t) same = record { same = λ lives at. same t refl }

module _ (path : Path) (before after : Bool) (t : Tree Member) (kept : RestsAsBefore before after t) (lives : has_ended forest t ≡ false) where
  state-as : (state : State) → StateShows path state (machine t) before → StateShows path state (machine t) after
  state-as (Home vm) h = (h.0, by h.1)
    where
      by : ((machine t).machine.place ≡ home) ⊎ (((machine t).machine.place ≡ parked) × (before ≡ false))
          → ((machine t).machine.place ≡ home) ⊎ (((machine t).machine.place ≡ parked) × (after ≡ false))
      by (inl at_home) = inl at_home
      by (inr at_rest) = inr (at_rest.0, kept.same lives at_rest.0 ∙ at_rest.1)
  state-as (Parked awaited vm turn) h = (h.0, h.1, kept.same lives h.1 ∙ h.2, h.3, h.4)
  state-as Out h = h

cell-as : (depot : Shelves) (path : Path) (before after : Bool) (c : Cell) (t : Tree Member) → RestsAsBefore before after t
    → CellShows depot path before c t → CellShows depot path after c t
cell-as depot path before after c t kept h = record {
  awake = h.awake;
  kin = h.kin;
  state = state-as path before after t kept h.awake.lives c.state h.state;
  of_depot = h.of_depot;
  holds = h.holds;
}

pub shows-as : (depot : Shelves) (path : Path) (before after : Bool) (c : Option Cell) (u : Option (Tree Member)) → IfSome u (RestsAsBefore before after)
    → Shows depot path before c u → Shows depot path after c u
shows-as depot path before after None None kept h = tt
shows-as depot path before after None (Some t) kept h = h
shows-as depot path before after (Some c) None kept h = absurd h
shows-as depot path before after (Some c) (Some t) kept h = cell-as depot path before after c t kept h

-- what is ready then, was
ready-as : (ended before after : Bool) (place : Place) → (ended ≡ false → place ≡ parked → after ≡ before)
    → (not ended && is_ready_at place after) ≡ (not ended && is_ready_at place before)
ready-as true before after place kept = refl
ready-as false before after asleep kept = refl
ready-as false before after home kept = refl
ready-as false before after out kept = refl
ready-as false before after parked kept = ap not (kept refl refl)

pub holds-as : (before after : Bool) (u : Option (Tree Member)) → IfSome u (RestsAsBefore before after)
    → holds (lives_ready paged_machines paged_talks after) u ≡ true → holds (lives_ready paged_machines paged_talks before) u ≡ true
holds-as before after None kept ready = ready
holds-as before after (Some t) kept ready =
    sym (ready-as (has_ended forest t) before after (machine t).machine.place (λ lives at. kept.same lives at)) ∙ ready

pub each-as : (depot : Shelves) (w : World) (t : Tree Member) (before after : Rests) → ShowsEach depot before w t
    → ((n : Path) → IfSome (subtree n t) (RestsAsBefore (before n) (after n))) → ShowsEach depot after w t
each-as depot w t before after h kept = record {
  cells = λ n. shows-as depot n (before n) (after n) (get path_cmp w.cells n) (subtree n t) (kept n) (h.cells n);
  ready = λ n ready. h.ready n (holds-as (before n) (after n) (subtree n t) (kept n) ready);
  listed = h.listed;
}

never-ready : (ended : Bool) (place : Place) (resting : Bool) → is_ready_at place resting ≡ false → not ended && is_ready_at place resting ≡ true → ⊥
never-ready true place resting away ready = cc
never-ready false place resting away ready = let no : false ≡ true = sym away ∙ ready in cc

-- ---- a machine that a change may wake

module _ (change : Change) (path : Path) (before after : Bool) (b : Member) (woken : IsWokenBy change before after b) where
  state-woken : (state : State) → StateShows path state b before → StateShows path (unparked change state) b after
  state-woken (Home vm) h = (h.0, by h.1)
    where
      by : (b.machine.place ≡ home) ⊎ ((b.machine.place ≡ parked) × (before ≡ false)) → (b.machine.place ≡ home) ⊎ ((b.machine.place ≡ parked) × (after ≡ false))
      by (inl at_home) = inl at_home
      by (inr at_rest) = inr (at_rest.0, woken.goes_on at_rest.1)
  state-woken (Parked awaited vm turn) h = by (ends_wait change awaited) (woken.waits awaited h.3 h.2)
    where
      by : (same : Bool) → after ≡ not same → StateShows path (cond same (Home vm) (Parked awaited vm turn)) b after
      by true e = (h.0, inr (h.1, e))
      by false e = (h.0, h.1, e, h.3, h.4)
  state-woken Out h = h

  ready-woken : (state : State) (ended : Bool) → ended ≡ false → StateShows path state b before → not ended && is_ready_at b.machine.place after ≡ true
      → (not ended && is_ready_at b.machine.place before ≡ true) ⊎ (is_parked_for change state ≡ true)
  ready-woken (Home vm) ended lives h ready = inl (both ended (is_ready_at b.machine.place before) lives (ready-home b.machine.place before h.1))
  ready-woken (Parked awaited vm turn) ended lives h ready = by (ends_wait change awaited) (woken.waits awaited h.3 h.2)
    where
      by : (same : Bool) → after ≡ not same → (not ended && is_ready_at b.machine.place before ≡ true) ⊎ (same ≡ true)
      by true e = inr refl
      by false e = absurd (never-ready ended b.machine.place after (ap (λ place. is_ready_at place after) h.1 ∙ ap not e) ready)
  ready-woken Out ended lives h ready =
      absurd (never-ready ended b.machine.place after (ap (λ place. is_ready_at place after) h) ready)

-- its cell, of which the state is changed
pub cell-woken : (change : Change) (depot : Shelves) (path : Path) (before after : Bool) (c d : Cell) (t : Tree Member) → IsWokenBy change before after (machine t)
    → d.state ≡ unparked change c.state → d.kin ≡ c.kin → d.broods ≡ c.broods → d.log ≡ c.log → CellShows depot path before c t → CellShows depot path after d t
cell-woken change depot path before after c d t woken state same_kin same_broods same_log h = record {
  awake = h.awake;
  kin = subst (λ st. IsKinIn st d.kin path) (sym state)
      (subst (λ k. IsKinIn (unparked change c.state) k path) (sym same_kin) (unparked-kin change c.state c.kin path h.kin));
  state = subst (λ st. StateShows path st (machine t) after) (sym state) (state-woken change path before after (machine t) woken c.state h.state);
  of_depot = subst (IsStateOf depot) (sym state) (unparked-of depot change c.state h.of_depot);
  holds = holds-same depot path c d t same_broods same_log h.holds;
}

pub woken-ready : (change : Change) (depot : Shelves) (path : Path) (before after : Bool) (c d : Cell) (t : Tree Member) → IsWokenBy change before after (machine t)
    → (is_parked_for change c.state ≡ true → d.is_listed ≡ true) → CellShows depot path before c t
    → lives_ready paged_machines paged_talks after t ≡ true → (lives_ready paged_machines paged_talks before t ≡ true) ⊎ (d.is_listed ≡ true)
woken-ready change depot path before after c d t woken listed h ready =
    elim (ready-woken change path before after (machine t) woken c.state (has_ended forest t) h.awake.lives h.state ready) [
      | inl was ↦ inl was
      | inr waited ↦ inr (listed waited)
    ]

-- ---- which talks a change ends the wait of

-- the change is what the talk may wait for
abbrev pub heeds : Change → Option Talk → Bool
heeds (AllEnded ticket) what = false
heeds (Word from) None = false
heeds (Word from) (Some (send j)) = false
heeds (Word from) (Some (receive j)) = eqb from j
heeds (Room to) None = false
heeds (Room to) (Some (send j)) = eqb to j
heeds (Room to) (Some (receive j)) = false
heeds (Ended sibling) None = false
heeds (Ended sibling) (Some (send j)) = eqb sibling j
heeds (Ended sibling) (Some (receive j)) = eqb sibling j

heeds-none : (change : Change) → heeds change None ≡ false
heeds-none (AllEnded ticket) = refl
heeds-none (Word from) = refl
heeds-none (Room to) = refl
heeds-none (Ended sibling) = refl

heeds-is : (change : Change) (what : port.Talk) → heeds change (Some (tree_talk what)) ≡ ends_wait change (Sibling what)
heeds-is (AllEnded ticket) what = refl
heeds-is (Word from) (Send j) = refl
heeds-is (Word from) (Receive j) = refl
heeds-is (Room to) (Send j) = refl
heeds-is (Room to) (Receive j) = refl
heeds-is (Ended sibling) (Send j) = refl
heeds-is (Ended sibling) (Receive j) = refl

-- a machine that waits for its children is to make no talk
quiet-at : (b : Member) (ticket : ℕ) → Awaits (Children ticket) b → next_talk b ≡ None
unfolding spot_talks
quiet-at b ticket awaits = call-quiet (paged_of b) (join ticket) awaits

-- and one that is to make a talk waits for no child
pub talk-alone : (t : Tree Member) (what : Talk) → next_talk (machine t) ≡ Some what → waits forest t ≡ false
talk-alone (node b broods log) what speaks = ap (λ c. call_waits forest c broods) (talk-quiet b what speaks)

no-more : (heeded own by_talk : Bool) → own || by_talk ≡ false → own || (not heeded && by_talk) ≡ false
no-more heeded true by_talk e = absurd (cc)
no-more true false by_talk e = refl
no-more false false by_talk e = e

-- one that rests with its talk, as before but where the change ends its wait
pub woken-by : (change : Change) (t : Tree Member) (by_talk before after : Bool) → ((ticket : ℕ) → ends_wait change (Children ticket) ≡ false)
    → before ≡ (waits forest t || by_talk) → after ≡ (waits forest t || (not (heeds change (next_talk (machine t))) && by_talk))
    → IsWokenBy change before after (machine t)
woken-by change t by_talk before after no_join was is = record {
  waits = by;
  goes_on = λ goes. is ∙ no-more (heeds change (next_talk (machine t))) (waits forest t) by_talk (sym was ∙ goes);
}
  where
    last : (own heeded : Bool) → own ≡ false → own || by_talk ≡ true → (own || (not heeded && by_talk)) ≡ not heeded
    last true heeded quiet rests = absurd (cc)
    last false true quiet rests = refl
    last false false quiet rests = rests

    by : (awaited : Awaited) → Awaits awaited (machine t) → before ≡ true → after ≡ not (ends_wait change awaited)
    by (Children ticket) awaits rests =
        is
        ∙ ap (λ heeded. waits forest t || (not heeded && by_talk)) (ap (heeds change) (quiet-at (machine t) ticket awaits) ∙ heeds-none change)
        ∙ sym was ∙ rests ∙ sym (ap not (no_join ticket))
    by (Sibling what) awaits rests =
        is
        ∙ last (waits forest t) (heeds change (next_talk (machine t))) (talk-alone t (tree_talk what) awaits) (sym was ∙ rests)
        ∙ ap not (ap (heeds change) awaits ∙ heeds-is change what)

-- ---- the talk of a sibling once one has ended

module _ (k : ℕ) (b : Tree Member) (trees : Trees Member) (over : has_ended forest b ≡ true) where
  abbrev after : Trees Member
  after = at_child (λ t. b) k trees

  ended-lives : (c : Option (Tree Member)) → lives_there (spots paged_machines) (spot_talks paged_talks) (option_map machine (option_map (λ (t : Tree Member). b) c)) ≡ false
  unfolding boxed
  ended-lives None = refl
  ended-lives (Some a) = ap not over

  box-other : (j : ℕ) → eqb k j ≡ false → box_at (spots paged_machines) (spot_talks paged_talks) j after ≡ box_at (spots paged_machines) (spot_talks paged_talks) j trees
  box-other j other = ap (option_map machine) (child_at-other (λ t. b) k j trees (eqb-false k j other))

  none-lives : lives_there (spots paged_machines) (spot_talks paged_talks) (box_at (spots paged_machines) (spot_talks paged_talks) k after) ≡ false
  none-lives =
      ap (λ c. lives_there (spots paged_machines) (spot_talks paged_talks) (option_map machine c)) (child_at-same (λ t. b) k trees) ∙ ended-lives (child_at k trees)

  -- none waits for it, and for the others they wait as before
  pub waits-ended : (what : Option Talk) (i : ℕ) (m : Member)
      → waits_by (spots paged_machines) (spot_talks paged_talks) what i m after
      ≡ (not (heeds (Ended k) what) && waits_by (spots paged_machines) (spot_talks paged_talks) what i m trees)
  waits-ended None i m = refl
  waits-ended (Some (send j)) i m = by (eqb k j) refl
    where
      by : (same : Bool) → eqb k j ≡ same
          → (lives_there (spots paged_machines) (spot_talks paged_talks) (box_at (spots paged_machines) (spot_talks paged_talks) j after)
          && is_full_there (spots paged_machines) (spot_talks paged_talks) i (box_at (spots paged_machines) (spot_talks paged_talks) j after))
          ≡ (not same && (lives_there (spots paged_machines) (spot_talks paged_talks) (box_at (spots paged_machines) (spot_talks paged_talks) j trees)
          && is_full_there (spots paged_machines) (spot_talks paged_talks) i (box_at (spots paged_machines) (spot_talks paged_talks) j trees)))
      by true e =
          ap (λ lives. lives && is_full_there (spots paged_machines) (spot_talks paged_talks) i (box_at (spots paged_machines) (spot_talks paged_talks) j after))
          (ap (λ n. lives_there (spots paged_machines) (spot_talks paged_talks) (box_at (spots paged_machines) (spot_talks paged_talks) n after)) (sym (eqb-true k j e))
          ∙ none-lives)
      by false e =
          ap (λ box. lives_there (spots paged_machines) (spot_talks paged_talks) box && is_full_there (spots paged_machines) (spot_talks paged_talks) i box) (box-other j e)
  waits-ended (Some (receive j)) i m = by (eqb k j) refl
    where
      by : (same : Bool) → eqb k j ≡ same
          → (lives_there (spots paged_machines) (spot_talks paged_talks) (box_at (spots paged_machines) (spot_talks paged_talks) j after) && is_empty (queue j m.inbox))
          ≡ (not same && (lives_there (spots paged_machines) (spot_talks paged_talks) (box_at (spots paged_machines) (spot_talks paged_talks) j trees) && is_empty (queue j m.inbox)))
      by true e =
          ap (λ lives. lives && is_empty (queue j m.inbox))
          (ap (λ n. lives_there (spots paged_machines) (spot_talks paged_talks) (box_at (spots paged_machines) (spot_talks paged_talks) n after)) (sym (eqb-true k j e))
          ∙ none-lives)
      by false e =
          ap (λ box. lives_there (spots paged_machines) (spot_talks paged_talks) box && is_empty (queue j m.inbox)) (box-other j e)

-- ---- a sibling of one that has ended

not-heeded : (k : ℕ) (what : Talk) → peer what ≢ k → heeds (Ended k) (Some what) ≡ false
not-heeded k (send j) other = ne_eqb k j (λ e. other (sym e))
not-heeded k (receive j) other = ne_eqb k j (λ e. other (sym e))

pub ended-brood : (ticket k : ℕ) (b p : Tree Member) → brood_of ticket (broods_of (with_child ticket k b p)) ≡ at_child (λ t. b) k (brood_of ticket (broods_of p))
ended-brood ticket k b (node m broods log) = changed-brood (at_child (λ t. b) k) (at_child-none (λ t. b) k) ticket broods

module _ (before after : Tree Member) (parent : Path) (ticket k j : ℕ) (p b u : Tree Member) (at : subtree parent before ≡ Some p)
    (then : subtree parent after ≡ Some (with_child ticket k b p)) (over : has_ended forest b ≡ true)
    (sibling : child_of ticket j p ≡ Some u) (apart : eqb k j ≡ false) where
  abbrev name : Path
  name = child_path parent ticket j

  abbrev trees : Trees Member
  trees = brood_of ticket (broods_of p)

  pub still-there : child_of ticket j (with_child ticket k b p) ≡ Some u
  still-there =
      ap (child_at j) (ended-brood ticket k b p) ∙ child_at-other (λ t. b) k j trees (eqb-false k j apart) ∙ sibling

  talk-before : talk_rests name before ≡ rests-among ticket j trees (next_talk (machine u)) (machine u)
  talk-before = talk-at parent (record { ticket = ticket; child = j }) before p u at sibling

  talk-after : talk_rests name after ≡ (not (heeds (Ended k) (next_talk (machine u))) && rests-among ticket j trees (next_talk (machine u)) (machine u))
  talk-after =
      talk-at parent (record { ticket = ticket; child = j }) after (with_child ticket k b p) u then still-there
      ∙ ap (λ left. rests-among ticket j left (next_talk (machine u)) (machine u)) (ended-brood ticket k b p)
      ∙ waits-ended k b trees over (next_talk (machine u)) j (machine u)

  -- who is there in both
  module _ (here : subtree name before ≡ Some u) (here_then : subtree name after ≡ Some u) where
    abbrev talks : Bool
    talks = rests-among ticket j trees (next_talk (machine u)) (machine u)

    is-before : has_ended forest u ≡ false → rests_in before name ≡ (waits forest u || talks)
    is-before lives = alive-rests name before u here lives ∙ ap (λ by_talk. waits forest u || by_talk) talk-before

    is-after : has_ended forest u ≡ false → rests_in after name ≡ (waits forest u || (not (heeds (Ended k) (next_talk (machine u))) && talks))
    is-after lives = alive-rests name after u here_then lives ∙ ap (λ by_talk. waits forest u || by_talk) talk-after

    -- it may have waited for that
    pub sibling-woken : has_ended forest u ≡ false → IsWokenBy (Ended k) (rests_in before name) (rests_in after name) (machine u)
    sibling-woken lives =
        woken-by (Ended k) u talks (rests_in before name) (rests_in after name) (λ ticket. refl) (is-before lives) (is-after lives)

    -- but did not, where it never came to wait for it
    pub sibling-as : (notes : SiblingNotes) → IsNoted notes j u → noted notes j ≢ k → RestsAsBefore (rests_in before name) (rests_in after name) u
    sibling-as notes is_noted other = record { same = λ lives is_parked. unnamed lives is_parked (next_talk (machine u)) refl }
      where
        as-before : has_ended forest u ≡ false → heeds (Ended k) (next_talk (machine u)) ≡ false → rests_in after name ≡ rests_in before name
        as-before lives unheeded = is-after lives ∙ ap (λ heeded. waits forest u || (not heeded && talks)) unheeded ∙ sym (is-before lives)

        unnamed : has_ended forest u ≡ false → (machine u).machine.place ≡ parked → (what : Option Talk) → next_talk (machine u) ≡ what
            → rests_in after name ≡ rests_in before name
        unnamed lives is_parked None quiet = as-before lives (ap (heeds (Ended k)) quiet)
        unnamed lives is_parked (Some what) speaks =
            as-before lives (ap (heeds (Ended k)) speaks ∙ not-heeded k what (λ same. other (is_noted what is_parked speaks ∙ same)))
