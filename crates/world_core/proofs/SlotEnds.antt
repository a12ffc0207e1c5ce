-- A cell once a child of its machine has woken or ended.
use Rattle.std.proofs.Common.{◌≡◌, ℕ, ◌+◌, ◌-◌, ◌≤◌, ◌⊎◌, inl, inr, ◌&&◌, ◌||◌, not, Bool, true, false, cond, eqb, [], Option, Some, None, IsSome}
use Rattle.std.proofs.Common.{is_some, refl, sym, ap, ◌∙◌, subst, slice_set, arith}
use Rattle.std.proofs.lemmas.Bool.{ne_eqb, or_from, or_parts}
use Rattle.std.specs.Ordering.{nat_cmp}
use Rattle.std.specs.BTreeMap.{BTreeMap, get, WritesThrough}
use Rattle.image_depot.specs.Key.{Shelves}
use Rattle.fork_port.specs.declared.ending.Ending.{Ending}
use Rattle.forest_tree.specs.Operations.{join}
use Rattle.forest_tree.specs.Tree.{Tree, node, Broods, machine, broods_of, brood_of, child_at, at_child, at_brood, Path}
use Rattle.forest_tree.specs.Step.{has_ended, waits_by}
use Rattle.forest_tree.proofs.Broods.{eqb-same}
use Rattle.sibling_forest.specs.Talk as siblings
use Rattle.sibling_forest.specs.Talk.{boxed}
use Rattle.talking_history.specs.Places.{home, out, parked, spots, placed}
use Rattle.talking_history.specs.World.{is_ready_at, lives_ready}
use Rattle.forest_tree.specs.Children.{life, living}
use Rattle.forest_tree.proofs.Lives.{one-child}
use Rattle.forest_model.specs.Forest.{machines, tree_talk}
use Rattle.forest_model.specs.Paged.{paged_machines, paged_talks}
use Rattle.machine_names.specs.Name.{child_path}
use Rattle.run_report.specs.Report.{Ended as Line}
use Rattle.sibling_words.specs.declared.words.SiblingWords.{SiblingWords}
use Rattle.sibling_words.specs.Words.{words_of}
use Rattle.vm_cell.specs.declared.vm.fork.ForkImage.{ForkImage}
use Rattle.world_core.specs.declared.cell.Awaited.TheVariants.{Children, Sibling}
use Rattle.world_core.specs.declared.cell.Brood.{Brood}
use Rattle.world_core.specs.declared.cell.Cell.{Cell}
use Rattle.world_core.specs.declared.cell.Change.{Change}
use Rattle.world_core.specs.declared.cell.Change.TheVariants.{AllEnded}
use Rattle.world_core.specs.declared.cell.State.{State}
use Rattle.world_core.specs.declared.cell.State.TheVariants.{Home, Parked, Out}
use Rattle.world_core.specs.declared.cell.ChildSlot.TheVariants.{Awake, Ended}
use Rattle.world_core.specs.Between.{HasLeft}
use Rattle.world_core.specs.Shows.{Member, forest, next_talk, told_member, HasEndedAs, AreHeard, IsAwake, IsKinIn, IsLeft, StateShows, IsStateOf, Holds, CellShows, child_of, with_child}
use Rattle.world_core.specs.Unparked.{JoinsAlone, ends_wait, is_parked_for, rests_with, unparked}
use Rattle.world_core.proofs.Changes.{notes-away}
use Rattle.world_core.proofs.SlotPlaces.{awake-placed, both, inbox-placed, not-parked, out-not-parked, ready-home}
use Rattle.world_core.proofs.SlotWaits.{one-held, has-life, goes-on, waits-elsewhere, waits-here}
use Rattle.world_core.proofs.SlotSteps.{IsHeard, brood_with, written, holds-with}
use Rattle.world_core.proofs.AtPlaces.{lives-placed}
use Rattle.world_core.proofs.Steps.{talk-quiet}

-- a child has a cell of its own from now on
pub wakes-shows : (depot : Shelves) (path : Path) (ticket index : ℕ) (resting : Bool) (c : Cell) (broods : BTreeMap ℕ Brood) (old : Brood) (image : Option ForkImage)
    (name : Path) (t a : Tree Member) → CellShows depot path resting c t → child_of ticket index t ≡ Some a → has_ended forest a ≡ false
    → name ≡ child_path path ticket index → get nat_cmp c.broods ticket ≡ Some old
    → WritesThrough nat_cmp (nat_cmp ticket) c.broods (brood_with old image old.words index (Awake name) old.live) broods
    → IsLeft old.image (slice_set old.slots.items (index - 1) (Awake name)) image
    → CellShows depot path resting (record c { broods = broods }) (with_child ticket index (placed out a) t)
wakes-shows depot path ticket index resting c broods old image name (node s trees log) a h found lives named some w left =
    let told = (one-held depot path c (node s trees log) h.holds ticket old some).heard in
    record {
      awake = record { lives = h.awake.lives; awake = h.awake.awake };
      kin = h.kin;
      state = h.state;
      of_depot = h.of_depot;
      holds = holds-with depot path ticket index a (placed out a) (Awake name) tt (λ key seed. (awake-placed out refl a lives, named)) old.words c broods old image
          old.live (node s trees log) h.holds found some
          (written c.broods broods ticket (brood_with old image old.words index (Awake name) old.live) w (subst IsSome (sym some) refl))
          (record {
            others = λ k other j. refl;
            own = subst (AreHeard old.words index) (sym (inbox-placed out a)) (told.words index a found);
            noted = notes-away (λ u. placed out u) a (out-not-parked a) old.notes index;
          })
          (ap (λ ended. old.live + cond ended 0 1) (sym (lives-placed out a))) left;
    }

-- the broods and the log are the same
pub holds-same : (depot : Shelves) (path : Path) (c d : Cell) (t : Tree Member) → d.broods ≡ c.broods → d.log ≡ c.log → Holds depot path c t
    → Holds depot path d t
holds-same depot path c d t same_broods same_log h =
    let held : Holds depot path (record d { broods = c.broods; log = c.log }) t = record {
      tallies = record { log = h.tallies.log; room = h.tallies.room; broods = h.tallies.broods };
      broods = h.broods;
    } in
    subst (λ l. Holds depot path (record d { log = l }) t) (sym same_log)
    (subst (λ b. Holds depot path (record d { broods = b; log = c.log }) t) (sym same_broods) held)

never : (n : ℕ) → 1 ≤ n → not (eqb n 0) ≡ true
never n some = ap not (ne_eqb n 0 (λ e. absurd (omega arith)))

module _ (path : Path) (ticket index : ℕ) (s : Member) (before : Broods Member) (a b : Tree Member)
    (found : child_at index (brood_of ticket before) ≡ Some a) (lives : has_ended forest a ≡ false) (by_talk : Bool)
    (alone : (u : ℕ) → forest.call s ≡ Some (join u) → by_talk ≡ false) where
  abbrev then : Broods Member
  then = at_brood (at_child (λ a. b) index) ticket before

  abbrev waited : Bool
  waited = waits_by forest (forest.call s) before || by_talk

  abbrev waiting : Bool
  waiting = waits_by forest (forest.call s) then || by_talk

  abbrev left : ℕ
  left = living forest (at_child (λ a. b) index (brood_of ticket before))

  abbrev IsHome : Bool → Type 0
  IsHome resting = (s.machine.place ≡ home) ⊎ ((s.machine.place ≡ parked) × (resting ≡ false))

  home-kept : IsHome waited → IsHome waiting
  home-kept (inl at_home) = inl at_home
  home-kept (inr is_parked) =
      let parts = or_parts (waits_by forest (forest.call s) before) by_talk is_parked.1 in
      inr (is_parked.0, or_from (waits_by forest (forest.call s) then) by_talk (goes-on ticket index a b before found lives (forest.call s) parts.0) parts.1)

  elsewhere : (u : ℕ) → eqb ticket u ≡ false → forest.call s ≡ Some (join u) → waiting ≡ waited
  elsewhere u e call = ap (λ w. w || by_talk) (waits-elsewhere ticket index a b before found lives (forest.call s) u call e)

  -- a machine that is to talk waits for no child
  talks-on : (what : siblings.Talk) → next_talk s ≡ Some what → waiting ≡ waited
  talks-on what speaks =
      let none : forest.call s ≡ None = talk-quiet s what speaks in
      ap (λ c. waits_by forest c then || by_talk) none ∙ sym (ap (λ c. waits_by forest c before || by_talk) none)

  still-by : (u : ℕ) (same : Bool) → eqb ticket u ≡ same → 1 ≤ left → forest.call s ≡ Some (join u) → waited ≡ true → waiting ≡ true
  still-by u true e some call is =
      ap (λ w. w || by_talk) (waits-here ticket index a b before found lives (forest.call s) u call e ∙ never left some)
  still-by u false e some call is = elsewhere u e call ∙ is

  -- some child lives
  state-kept : (state : State) → 1 ≤ left → StateShows path state s waited → StateShows path state s waiting
  unfolding boxed spots
  state-kept (Home vm) some h = (h.0, home-kept h.1)
  state-kept (Parked (Children u) vm turn) some h = (h.0, h.1, still-by u (eqb ticket u) refl some h.3 h.2, h.3, h.4)
  state-kept (Parked (Sibling what) vm turn) some h = (h.0, h.1, talks-on (tree_talk what) h.3 ∙ h.2, h.3, h.4)
  state-kept Out some h = h

  none-waits : (u : ℕ) → eqb ticket u ≡ true → left ≡ 0 → forest.call s ≡ Some (join u) → waiting ≡ false
  none-waits u e none call =
      or_from (waits_by forest (forest.call s) then) by_talk
      (waits-here ticket index a b before found lives (forest.call s) u call e ∙ ap (λ n. not (eqb n 0)) none) (alone u call)

  -- no child lives
  state-unparked : (state : State) → left ≡ 0 → StateShows path state s waited → StateShows path (unparked (AllEnded ticket) state) s waiting
  unfolding boxed spots
  state-unparked (Home vm) none h = (h.0, home-kept h.1)
  state-unparked (Parked (Children u) vm turn) none h =
      by (eqb ticket u) refl (λ e. none-waits u e none h.3) (λ e. elsewhere u e h.3 ∙ h.2)
    where
      by : {after : Bool} (same : Bool) → eqb ticket u ≡ same → (eqb ticket u ≡ true → after ≡ false) → (eqb ticket u ≡ false → after ≡ true)
          → StateShows path (cond same (Home vm) (Parked (Children u) vm turn)) s after
      by true e over on = (h.0, inr (h.1, over e))
      by false e over on = (h.0, h.1, on e, h.3, h.4)
  state-unparked (Parked (Sibling what) vm turn) none h = (h.0, h.1, talks-on (tree_talk what) h.3 ∙ h.2, h.3, h.4)
  state-unparked Out none h = h

  -- what is ready then was ready, or waited for this ticket
  not-ready : (resting ended : Bool) → is_ready_at s.machine.place resting ≡ false → not ended && is_ready_at s.machine.place resting ≡ true → ⊥
  not-ready resting true apart here = cc
  not-ready resting false apart here = let both_ways : false ≡ true = sym apart ∙ here in cc

  parked-ready : (resting ended : Bool) → s.machine.place ≡ parked → resting ≡ true → not ended && is_ready_at s.machine.place resting ≡ true → ⊥
  parked-ready resting ended at_rest rests is = not-ready resting ended (ap (λ p. is_ready_at p resting) at_rest ∙ ap not rests) is

  ready-kept : (state : State) (ended : Bool) → 1 ≤ left → ended ≡ false → StateShows path state s waited → not ended && is_ready_at s.machine.place waiting ≡ true
      → not ended && is_ready_at s.machine.place waited ≡ true
  unfolding boxed spots
  ready-kept (Home vm) ended some on h is = both ended (is_ready_at s.machine.place waited) on (ready-home s.machine.place waited h.1)
  ready-kept (Parked (Children u) vm turn) ended some on h is =
      absurd (parked-ready waiting ended h.1 (still-by u (eqb ticket u) refl some h.3 h.2) is)
  ready-kept (Parked (Sibling what) vm turn) ended some on h is = absurd (parked-ready waiting ended h.1 (talks-on (tree_talk what) h.3 ∙ h.2) is)
  ready-kept Out ended some on h is = absurd (not-ready waiting ended (ap (λ p. is_ready_at p waiting) h) is)

  ready-unparked : (state : State) (ended : Bool) → ended ≡ false → StateShows path state s waited → not ended && is_ready_at s.machine.place waiting ≡ true
      → (not ended && is_ready_at s.machine.place waited ≡ true) ⊎ (is_parked_for (AllEnded ticket) state ≡ true)
  unfolding boxed spots
  ready-unparked (Home vm) ended on h is = inl (both ended (is_ready_at s.machine.place waited) on (ready-home s.machine.place waited h.1))
  ready-unparked (Parked (Children u) vm turn) ended on h is =
      by (eqb ticket u) refl (λ e. absurd (parked-ready waiting ended h.1 (elsewhere u e h.3 ∙ h.2) is))
    where
      by : {P : Type 0} (same : Bool) → eqb ticket u ≡ same → (eqb ticket u ≡ false → P) → P ⊎ (same ≡ true)
      by true e other = inr refl
      by false e other = inl (other e)
  ready-unparked (Parked (Sibling what) vm turn) ended on h is = absurd (parked-ready waiting ended h.1 (talks-on (tree_talk what) h.3 ∙ h.2) is)
  ready-unparked Out ended on h is = absurd (not-ready waiting ended (ap (λ p. is_ready_at p waiting) h) is)

ended-told : (b : Tree Member) (ending : Option Ending) → HasEndedAs ending (told_member.ending (machine b)) → has_ended forest b ≡ true
unfolding boxed spots paged_machines machines
ended-told b None told = absurd told
ended-told b (Some ending) told = ap is_some told

-- a child that lives is one of those that do
pub some-live : (depot : Shelves) (path : Path) (ticket index : ℕ) (c : Cell) (old : Brood) (t a : Tree Member) → Holds depot path c t
    → child_of ticket index t ≡ Some a → IsAwake a → get nat_cmp c.broods ticket ≡ Some old → 1 ≤ old.live
some-live depot path ticket index c old t a h found is some =
    let one : life forest a ≡ 1 = ap (λ ended. cond ended 0 1) is.lives in
    let most : life forest a ≤ living forest (brood_of ticket (broods_of t)) = has-life index (brood_of ticket (broods_of t)) a found in
    omega (arith, one, most, (one-held depot path c t h ticket old some).live)

-- a child has ended
module _ (depot : Shelves) (path : Path) (ticket index : ℕ) (c : Cell) (old : Brood) (outcome : Line) (t a b : Tree Member)
    (held : Holds depot path c t) (found : child_of ticket index t ≡ Some a) (is : IsAwake a) (left : HasLeft (child_path path ticket index) b outcome)
    (some : get nat_cmp c.broods ticket ≡ Some old) (words : SiblingWords)
    (cleared : (k j : ℕ) → words_of words k j ≡ cond (eqb k index) [] (words_of old.words k j)) where
  one-before : life forest a ≡ 1
  one-before = ap (λ ended. cond ended 0 1) is.lives

  none-after : life forest b ≡ 0
  none-after = ap (λ ended. cond ended 0 1) (ended-told b outcome.ending left.ending)

  -- so many live then
  left-live : old.live - 1 ≡ living forest (at_child (λ a. b) index (brood_of ticket (broods_of t)))
  left-live =
      let one : living forest (at_child (λ a. b) index (brood_of ticket (broods_of t))) + life forest a ≡ living forest (brood_of ticket (broods_of t)) + life forest b =
      one-child forest (λ a. b) index (brood_of ticket (broods_of t)) a found in
      omega (arith, one-before, none-after, (one-held depot path c t held ticket old some).live)

  heard-ended : IsHeard old words index b
  heard-ended = record {
    others = λ k other j. cleared k j ∙ ap (λ (same : Bool). cond same [] (words_of old.words k j)) (ne_eqb k index other);
    own = λ j. left.silent j ∙ sym (cleared index j ∙ ap (λ (same : Bool). cond same [] (words_of old.words index j)) (eqb-same index));
    noted = λ what is_parked speaks. absurd (not-parked (machine b).machine.place left.home is_parked);
  }

  holds-ended : (broods : BTreeMap ℕ Brood) → WritesThrough nat_cmp (nat_cmp ticket) c.broods (brood_with old old.image words index (Ended outcome) (old.live - 1)) broods
      → Holds depot path (record c { broods = broods }) (with_child ticket index b t)
  holds-ended broods w =
      holds-with depot path ticket index a b (Ended outcome) tt (λ key seed. (left.ending, left.lines, left.alone)) words c broods old old.image (old.live - 1) t held found some
      (written c.broods broods ticket (brood_with old old.image words index (Ended outcome) (old.live - 1)) w (subst IsSome (sym some) refl)) heard-ended
      (omega (arith, one-before, none-after, some-live depot path ticket index c old t a held found is some)) (inl refl)

abbrev live_then : ℕ → ℕ → Tree Member → Tree Member → ℕ
live_then ticket index b t = living forest (at_child (λ a. b) index (brood_of ticket (broods_of t)))

awake-with : (ticket index : ℕ) (b t : Tree Member) → IsAwake t → IsAwake (with_child ticket index b t)
awake-with ticket index b (node s trees log) h = record { lives = h.lives; awake = h.awake }

module _ (path : Path) (ticket index : ℕ) (state : State) (by_talk : Bool) where
  state-kept-at : (t a b : Tree Member) → JoinsAlone by_talk t → child_of ticket index t ≡ Some a → has_ended forest a ≡ false
      → 1 ≤ live_then ticket index b t → StateShows path state (machine t) (rests_with by_talk t)
      → StateShows path state (machine (with_child ticket index b t)) (rests_with by_talk (with_child ticket index b t))
  state-kept-at (node s trees log) a b alone found lives some h = state-kept path ticket index s trees a b found lives by_talk alone state some h

  state-unparked-at : (t a b : Tree Member) → JoinsAlone by_talk t → child_of ticket index t ≡ Some a → has_ended forest a ≡ false
      → live_then ticket index b t ≡ 0 → StateShows path state (machine t) (rests_with by_talk t)
      → StateShows path (unparked (AllEnded ticket) state) (machine (with_child ticket index b t)) (rests_with by_talk (with_child ticket index b t))
  state-unparked-at (node s trees log) a b alone found lives none h = state-unparked path ticket index s trees a b found lives by_talk alone state none h

  ready-kept-at : (t a b : Tree Member) → JoinsAlone by_talk t → child_of ticket index t ≡ Some a → has_ended forest a ≡ false
      → has_ended forest t ≡ false → 1 ≤ live_then ticket index b t → StateShows path state (machine t) (rests_with by_talk t)
      → lives_ready paged_machines paged_talks (rests_with by_talk (with_child ticket index b t)) (with_child ticket index b t) ≡ true
      → lives_ready paged_machines paged_talks (rests_with by_talk t) t ≡ true
  ready-kept-at (node s trees log) a b alone found lives on some h ready =
      ready-kept path ticket index s trees a b found lives by_talk alone state (is_some (forest.ending s)) some on h ready

  ready-unparked-at : (t a b : Tree Member) → JoinsAlone by_talk t → child_of ticket index t ≡ Some a
      → has_ended forest a ≡ false → has_ended forest t ≡ false → StateShows path state (machine t) (rests_with by_talk t)
      → lives_ready paged_machines paged_talks (rests_with by_talk (with_child ticket index b t)) (with_child ticket index b t) ≡ true
      → (lives_ready paged_machines paged_talks (rests_with by_talk t) t ≡ true) ⊎ (is_parked_for (AllEnded ticket) state ≡ true)
  ready-unparked-at (node s trees log) a b alone found lives on h ready =
      ready-unparked path ticket index s trees a b found lives by_talk alone state (is_some (forest.ending s)) on h ready

-- a machine that waits no more has its pages where it had them, and its parent's name
pub unparked-of : (depot : Shelves) (change : Change) (state : State) → IsStateOf depot state → IsStateOf depot (unparked change state)
unparked-of depot change (Home vm) h = h
unparked-of depot change (Parked awaited vm turn) h = by (ends_wait change awaited)
  where
    by : (same : Bool) → IsStateOf depot (cond same (Home vm) (Parked awaited vm turn))
    by true = h
    by false = h
unparked-of depot change Out h = h

pub unparked-kin : (change : Change) (state : State) (kin : Option Path) (path : Path) → IsKinIn state kin path → IsKinIn (unparked change state) kin path
unparked-kin change (Home vm) kin path h = h
unparked-kin change (Parked awaited vm turn) kin path h = by (ends_wait change awaited)
  where
    by : (same : Bool) → IsKinIn (cond same (Home vm) (Parked awaited vm turn)) kin path
    by true = h
    by false = h
unparked-kin change Out kin path h = h

module _ (depot : Shelves) (path : Path) (ticket index : ℕ) (by_talk : Bool) (c : Cell) (old : Brood) (outcome : Line) (t a b : Tree Member)
    (alone : JoinsAlone by_talk t) (h : CellShows depot path (rests_with by_talk t) c t) (found : child_of ticket index t ≡ Some a) (is : IsAwake a)
    (left : HasLeft (child_path path ticket index) b outcome) (some : get nat_cmp c.broods ticket ≡ Some old) (words : SiblingWords)
    (cleared : (k j : ℕ) → words_of words k j ≡ cond (eqb k index) [] (words_of old.words k j)) where
  -- while some child of the ticket lives, the machine is where it was
  pub ended-shows : (broods : BTreeMap ℕ Brood)
      → WritesThrough nat_cmp (nat_cmp ticket) c.broods (brood_with old old.image words index (Ended outcome) (old.live - 1)) broods → 1 ≤ old.live - 1
      → CellShows depot path (rests_with by_talk (with_child ticket index b t)) (record c { broods = broods }) (with_child ticket index b t)
  ended-shows broods w more = record {
    awake = awake-with ticket index b t h.awake;
    kin = h.kin;
    state = state-kept-at path ticket index c.state by_talk t a b alone found is.lives
        (subst (λ n. 1 ≤ n) (left-live depot path ticket index c old outcome t a b h.holds found is left some words cleared) more) h.state;
    of_depot = h.of_depot;
    holds = holds-ended depot path ticket index c old outcome t a b h.holds found is left some words cleared broods w;
  }

  -- and where none does, it waits no more
  pub ended-unparks : (d : Cell) (broods : BTreeMap ℕ Brood)
      → WritesThrough nat_cmp (nat_cmp ticket) c.broods (brood_with old old.image words index (Ended outcome) (old.live - 1)) broods → old.live - 1 ≡ 0
      → d.state ≡ unparked (AllEnded ticket) c.state → d.broods ≡ broods → d.log ≡ c.log → d.kin ≡ c.kin
      → CellShows depot path (rests_with by_talk (with_child ticket index b t)) d (with_child ticket index b t)
  ended-unparks d broods w none state same_broods same_log same_kin = record {
    awake = awake-with ticket index b t h.awake;
    kin = subst (λ st. IsKinIn st d.kin path) (sym state)
        (subst (λ k. IsKinIn (unparked (AllEnded ticket) c.state) k path) (sym same_kin) (unparked-kin (AllEnded ticket) c.state c.kin path h.kin));
    state = subst (λ st. StateShows path st (machine (with_child ticket index b t)) (rests_with by_talk (with_child ticket index b t))) (sym state)
        (state-unparked-at path ticket index c.state by_talk t a b alone found is.lives
        (sym (left-live depot path ticket index c old outcome t a b h.holds found is left some words cleared) ∙ none) h.state);
    of_depot = subst (IsStateOf depot) (sym state) (unparked-of depot (AllEnded ticket) c.state h.of_depot);
    holds = holds-same depot path (record c { broods = broods }) d (with_child ticket index b t) same_broods same_log
        (holds-ended depot path ticket index c old outcome t a b h.holds found is left some words cleared broods w);
  }

  -- what is ready then was, while some child lives
  pub ended-ready : 1 ≤ old.live - 1
      → lives_ready paged_machines paged_talks (rests_with by_talk (with_child ticket index b t)) (with_child ticket index b t) ≡ true
      → lives_ready paged_machines paged_talks (rests_with by_talk t) t ≡ true
  ended-ready more ready =
      ready-kept-at path ticket index c.state by_talk t a b alone found is.lives h.awake.lives
      (subst (λ n. 1 ≤ n) (left-live depot path ticket index c old outcome t a b h.holds found is left some words cleared) more) h.state ready

-- and else what is ready then was, or is listed now
pub unparked-ready : (depot : Shelves) (path : Path) (ticket index : ℕ) (by_talk : Bool) (c d : Cell) (t a b : Tree Member) → JoinsAlone by_talk t
    → CellShows depot path (rests_with by_talk t) c t
    → child_of ticket index t ≡ Some a → IsAwake a → (is_parked_for (AllEnded ticket) c.state ≡ true → d.is_listed ≡ true)
    → lives_ready paged_machines paged_talks (rests_with by_talk (with_child ticket index b t)) (with_child ticket index b t) ≡ true
    → (lives_ready paged_machines paged_talks (rests_with by_talk t) t ≡ true) ⊎ (d.is_listed ≡ true)
unparked-ready depot path ticket index by_talk c d t a b alone h found is listed ready =
    elim (ready-unparked-at path ticket index c.state by_talk t a b alone found is.lives h.awake.lives h.state ready) [
      | inl was ↦ inl was
      | inr waited ↦ inr (listed waited)
    ]
