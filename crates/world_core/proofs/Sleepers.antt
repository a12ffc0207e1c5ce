-- Which children of a machine are still descriptors, and the first of a ticket that is.
use Rattle.std.proofs.Common.{◌≡◌, ℕ, zero, suc, ◌-◌, ◌≤◌, ◌<◌, ◌&&◌, not, Bool, true, false, ltb, lt-ltb, max, refl, sym, ap, ◌∙◌, subst, arith, inl}
use Rattle.std.proofs.Common.{inr, List, ◌∷◌, Option, Some, None, MatchOption, slice_get, []}
use Rattle.std.specs.BTreeMap.{BTreeMap, get}
use Rattle.std.specs.Ordering.{nat_cmp}
use Rattle.image_depot.specs.Key.{Shelves}
use Rattle.forest_tree.specs.Tree.{Tree, Trees, no_tree, tree, no_brood, machine, broods_of, brood_of, child_at, Path, subtree}
use Rattle.forest_tree.specs.Step.{has_ended}
use Rattle.forest_tree.proofs.Places.{some-same}
use Rattle.talking_history.specs.Places.{Place, asleep, home, out, parked}
use Rattle.talking_history.specs.World.{is_asleep_at, is_ready_at, lives_ready, holds, is_resting}
use Rattle.forest_model.specs.Paged.{paged_machines, paged_talks}
use Rattle.image_depot.specs.Key.{Key}
use Rattle.machine_names.specs.Name.{child_path}
use Rattle.machine_names.specs.NameOrder.{path_cmp}
use Rattle.vm_descriptor.specs.declared.descriptor.Descriptor.{Descriptor}
use Rattle.vm_descriptor.specs.Descriptor.{numbered}
use Rattle.vm_cell.specs.declared.vm.fork.ForkImage.{ForkImage}
use Rattle.world_core.specs.declared.cell.Brood.{Brood}
use Rattle.world_core.specs.declared.cell.Cell.{Cell}
use Rattle.world_core.specs.declared.cell.ChildSlot.{ChildSlot}
use Rattle.world_core.specs.declared.cell.ChildSlot.TheVariants.{Asleep, Awake, Ended}
use Rattle.world_core.specs.Shows.{Member, forest, SlotShows, SlotsShow, BornShows, CellShows, IsNoCell, Shows, is_asleep_slot, IsNotAsleep, child_of, slot_at}
use Rattle.world_core.specs.Popped.{ShowsCells, sleeps, IsFirstAsleep}
use Rattle.world_core.specs.World.{rests_in}
use Rattle.world_core.proofs.Awake.{child-below, slot-ended, never-both, awake-there}
use Rattle.world_core.proofs.SlotWaits.{none-held, one-held}

-- ready, and still a descriptor
abbrev pub wakes : Option (Tree Member) → Bool
wakes u = holds (lives_ready paged_machines paged_talks false) u && holds (λ (a : Tree Member). is_asleep_at (machine a).machine.place) u

-- one that rests is ready all the same
any-rest : (ended resting : Bool) (place : Place)
    → (not ended && is_ready_at place resting) && is_asleep_at place ≡ (not ended && is_ready_at place false) && is_asleep_at place
any-rest true resting place = refl
any-rest false resting asleep = refl
any-rest false resting home = refl
any-rest false resting out = refl
any-rest false true parked = refl
any-rest false false parked = refl

pub wakes-any : (resting : Bool) (u : Option (Tree Member))
    → holds (lives_ready paged_machines paged_talks resting) u && holds (λ (a : Tree Member). is_asleep_at (machine a).machine.place) u ≡ wakes u
wakes-any resting None = refl
wakes-any resting (Some a) = any-rest (has_ended forest a) resting (machine a).machine.place

pub sleeps-by : (parent : Path) (ticket k : ℕ) (t p : Tree Member) → subtree parent t ≡ Some p → sleeps parent ticket k t ≡ wakes (child_of ticket k p)
sleeps-by parent ticket k t p there =
    wakes-any (is_resting paged_machines paged_talks (child_path parent ticket k) t) (subtree (child_path parent ticket k) t)
    ∙ ap wakes (child-below parent ticket k t (Some p) there)

-- what has ended is nothing else
pub dead-not : (ended is : Bool) → ended ≡ true → not ended && is ≡ false
dead-not true is e = refl
dead-not false is e = absurd (cc)

-- by whether it has ended, waits, and where it is
wakes-yes : (ended waiting : Bool) (place : Place) → ended ≡ false → is_asleep_at place ≡ true → (not ended && is_ready_at place waiting) && is_asleep_at place ≡ true
wakes-yes true waiting place lives there = absurd (cc)
wakes-yes false waiting asleep lives there = refl
wakes-yes false waiting home lives there = absurd (cc)
wakes-yes false waiting out lives there = absurd (cc)
wakes-yes false waiting parked lives there = absurd (cc)

wakes-parts : (ended waiting : Bool) (place : Place) → (not ended && is_ready_at place waiting) && is_asleep_at place ≡ true → (ended ≡ false) × (is_asleep_at place ≡ true)
wakes-parts true waiting place h = absurd (cc)
wakes-parts false waiting asleep h = (refl, refl)
wakes-parts false waiting home h = absurd (cc)
wakes-parts false waiting out h = absurd (cc)
wakes-parts false true parked h = absurd (cc)
wakes-parts false false parked h = absurd (cc)

wakes-ended : (ended ready there : Bool) → ended ≡ true → (not ended && ready) && there ≡ false
wakes-ended true ready there h = refl
wakes-ended false ready there h = absurd (cc)

wakes-awake : (ready there : Bool) → there ≡ false → ready && there ≡ false
wakes-awake true there h = h
wakes-awake false there h = refl

pub wakes-is : (a : Tree Member) → wakes (Some a) ≡ true → (has_ended forest a ≡ false) × (is_asleep_at (machine a).machine.place ≡ true)
wakes-is a h = wakes-parts (has_ended forest a) false (machine a).machine.place h

pub wakes-there : (u : Option (Tree Member)) → wakes u ≡ true → (a : Tree Member) × (u ≡ Some a)
wakes-there None wake = absurd (cc)
wakes-there (Some a) wake = (a, refl)

-- a tree by its slot
pub wakes-slot : (path : Path) (key : Key) (seed : Descriptor) (slot : ChildSlot) (a : Tree Member) → SlotShows path key seed slot a
    → wakes (Some a) ≡ is_asleep_slot (Some slot)
wakes-slot path key seed Asleep a h =
    wakes-yes (has_ended forest a) false (machine a).machine.place h.lives (ap (λ (u : Tree Member). is_asleep_at (machine u).machine.place) h.born)
wakes-slot path key seed (Awake name) a h = wakes-awake (lives_ready paged_machines paged_talks false a) (is_asleep_at (machine a).machine.place) h.0.awake
wakes-slot path key seed (Ended outcome) a h =
    wakes-ended (has_ended forest a) (is_ready_at (machine a).machine.place false) (is_asleep_at (machine a).machine.place) (slot-ended outcome.ending a h.0)

childless : (ticket k : ℕ) (p : Tree Member) → broods_of p ≡ no_brood → wakes (child_of ticket k p) ≡ false
unfolding brood_of child_at
childless ticket k p empty = ap (λ broods. wakes (child_at k (brood_of ticket broods))) empty

module _ (depot : Shelves) (cells : BTreeMap Path Cell) (t : Tree Member) (h : ShowsCells depot cells t) where
  pub none-sleeps : (parent : Path) (ticket k : ℕ) → get path_cmp cells parent ≡ None → sleeps parent ticket k t ≡ false
  unfolding subtree
  none-sleeps parent ticket k none = by (subtree parent t) refl
    where
      by : (u : Option (Tree Member)) → subtree parent t ≡ u → sleeps parent ticket k t ≡ false
      by None e = wakes-any (is_resting paged_machines paged_talks (child_path parent ticket k) t) (subtree (child_path parent ticket k) t)
          ∙ ap wakes (child-below parent ticket k t None e)
      by (Some p) e =
          let no_cell : IsNoCell p = subst (λ c. Shows depot parent (rests_in t parent) c (Some p)) none
          (subst (Shows depot parent (rests_in t parent) (get path_cmp cells parent)) e (h.shows parent)) in
          elim (awake-there depot cells t h.whole.sound parent (rests_in t) (λ way b rest is. h.shows way) p h.root e) [
            | inl awake ↦ absurd (never-both p awake no_cell)
            | inr empty ↦ sleeps-by parent ticket k t p e ∙ childless ticket k p empty
          ]

-- what a slot that is asleep or not is of
slot-sleeps : (path : Path) (ticket : ℕ) (key : Key) (k : ℕ) (seed : Descriptor) (slots : List ChildSlot) (trees : Trees Member) (j : ℕ)
    → SlotsShow path ticket key k seed slots trees → slice_get slots j ≡ Some Asleep → wakes (child_at (suc j) trees) ≡ true
unfolding SlotsShow child_at
slot-sleeps path ticket key k seed [] no_tree j h there = absurd (cc)
slot-sleeps path ticket key k seed [] (tree t rest) j h there = absurd h
slot-sleeps path ticket key k seed (slot ∷ slots) no_tree j h there = absurd h
slot-sleeps path ticket key k seed (slot ∷ slots) (tree t rest) zero h there =
    wakes-slot (child_path path ticket k) key (numbered k seed) slot t h.0 ∙ ap (λ s. is_asleep_slot (Some s)) (some-same slot Asleep there)
slot-sleeps path ticket key k seed (slot ∷ slots) (tree t rest) (suc j) h there =
    slot-sleeps path ticket key (suc k) seed slots rest j h.1 there

slot-wakes : (path : Path) (ticket : ℕ) (key : Key) (k : ℕ) (seed : Descriptor) (slots : List ChildSlot) (trees : Trees Member) (j : ℕ)
    → SlotsShow path ticket key k seed slots trees → IsNotAsleep (slice_get slots j) → wakes (child_at (suc j) trees) ≡ false
unfolding SlotsShow child_at
slot-wakes path ticket key k seed [] no_tree j h there = refl
slot-wakes path ticket key k seed [] (tree t rest) j h there = absurd h
slot-wakes path ticket key k seed (slot ∷ slots) no_tree j h there = absurd h
slot-wakes path ticket key k seed (slot ∷ slots) (tree t rest) zero h there =
    wakes-slot (child_path path ticket k) key (numbered k seed) slot t h.0 ∙ by slot there
  where
    by : (slot : ChildSlot) → IsNotAsleep (Some slot) → is_asleep_slot (Some slot) ≡ false
    by Asleep there = absurd there
    by (Awake name) there = refl
    by (Ended outcome) there = refl
slot-wakes path ticket key k seed (slot ∷ slots) (tree t rest) (suc j) h there =
    slot-wakes path ticket key (suc k) seed slots rest j h.1 there

not-zero : (trees : Trees Member) → wakes (child_at 0 trees) ≡ false
unfolding child_at
not-zero no_tree = refl
not-zero (tree t rest) = refl

born-sleeps : (depot : Shelves) (path : Path) (ticket k : ℕ) (image : Option ForkImage) (slots : List ChildSlot) (trees : Trees Member)
    → BornShows depot path ticket image slots trees → 1 ≤ k → slot_at k slots ≡ Some Asleep → wakes (child_at k trees) ≡ true
born-sleeps depot path ticket k None slots trees h one there = absurd (subst IsNotAsleep there (h.2 (k - 1)))
born-sleeps depot path ticket zero (Some image) slots trees h one there = absurd (omega arith)
born-sleeps depot path ticket (suc j) (Some image) slots trees h one there =
    let same : suc j - 1 ≡ j = omega arith in
    slot-sleeps path ticket image.key 1 image.seed slots trees j h.1 (ap (slice_get slots) (sym same) ∙ there)

shown-wakes : (path : Path) (ticket k : ℕ) (key : Key) (seed : Descriptor) (slots : List ChildSlot) (trees : Trees Member)
    → SlotsShow path ticket key 1 seed slots trees → (1 ≤ k → IsNotAsleep (slot_at k slots)) → wakes (child_at k trees) ≡ false
shown-wakes path ticket zero key seed slots trees h there = not-zero trees
shown-wakes path ticket (suc j) key seed slots trees h there =
    let same : suc j - 1 ≡ j = omega arith in
    slot-wakes path ticket key 1 seed slots trees j h (subst (λ i. IsNotAsleep (slice_get slots i)) same (there (omega arith)))

born-wakes : (depot : Shelves) (path : Path) (ticket k : ℕ) (image : Option ForkImage) (slots : List ChildSlot) (trees : Trees Member)
    → BornShows depot path ticket image slots trees → (1 ≤ k → IsNotAsleep (slot_at k slots)) → wakes (child_at k trees) ≡ false
born-wakes depot path ticket k None slots trees h there = shown-wakes path ticket k h.0 h.1 slots trees h.3 there
born-wakes depot path ticket k (Some image) slots trees h there = shown-wakes path ticket k image.key image.seed slots trees h.1 there

-- a child's slot tells whether it is still a descriptor
born-slot : (depot : Shelves) (path : Path) (ticket k : ℕ) (image : Option ForkImage) (slots : List ChildSlot) (trees : Trees Member)
    → BornShows depot path ticket image slots trees → ltb 0 k && is_asleep_slot (slot_at k slots) ≡ wakes (child_at k trees)
born-slot depot path ticket zero image slots trees h = sym (not-zero trees)
born-slot depot path ticket (suc j) image slots trees h =
    ap (λ first. first && is_asleep_slot (slot_at (suc j) slots)) (lt-ltb 0 (suc j) (omega arith)) ∙ by (slot_at (suc j) slots) refl
  where
    by : (o : Option ChildSlot) → slot_at (suc j) slots ≡ o → is_asleep_slot (slot_at (suc j) slots) ≡ wakes (child_at (suc j) trees)
    by None e = ap is_asleep_slot e ∙ sym (born-wakes depot path ticket (suc j) image slots trees h (λ one. subst IsNotAsleep (sym e) tt))
    by (Some Asleep) e = ap is_asleep_slot e ∙ sym (born-sleeps depot path ticket (suc j) image slots trees h (omega arith) e)
    by (Some (Awake name)) e = ap is_asleep_slot e ∙ sym (born-wakes depot path ticket (suc j) image slots trees h (λ one. subst IsNotAsleep (sym e) tt))
    by (Some (Ended outcome)) e = ap is_asleep_slot e ∙ sym (born-wakes depot path ticket (suc j) image slots trees h (λ one. subst IsNotAsleep (sym e) tt))

-- the cell, where there is one, shows the machine of its name
pub cell-shows : (depot : Shelves) (path : Path) (resting : Bool) (c : Option Cell) (cell : Cell) (u : Option (Tree Member)) → c ≡ Some cell
    → Shows depot path resting c u → (t : Tree Member) × (u ≡ Some t) × CellShows depot path resting cell t
cell-shows depot path resting None cell u e h = absurd (cc)
cell-shows depot path resting (Some c) cell None e h = absurd h
cell-shows depot path resting (Some c) cell (Some t) e h = (t, refl, subst (λ d. CellShows depot path resting d t) (some-same c cell e) h)

module _ (depot : Shelves) (cells : BTreeMap Path Cell) (t : Tree Member) (h : ShowsCells depot cells t) (parent : Path) (ticket first : ℕ) where
  pub first-no_cell : get path_cmp cells parent ≡ None → IsFirstAsleep parent ticket first t None
  first-no_cell none = λ k le. none-sleeps depot cells t h parent ticket k none

  pub first-no_brood : (c : Cell) → get path_cmp cells parent ≡ Some c → get nat_cmp c.broods ticket ≡ None → IsFirstAsleep parent ticket first t None
  unfolding child_at
  first-no_brood c some none =
      let shown = cell-shows depot parent (rests_in t parent) (get path_cmp cells parent) c (subtree parent t) some (h.shows parent) in
      λ k le.
      sleeps-by parent ticket k t shown.0 shown.1
      ∙ ap (λ trees. wakes (child_at k trees)) (none-held depot parent c shown.0 shown.2.holds ticket none)

  pub sleeps-slot : (c : Cell) (b : Brood) → get path_cmp cells parent ≡ Some c → get nat_cmp c.broods ticket ≡ Some b
      → ltb 0 first && is_asleep_slot (slot_at first b.slots.items) ≡ sleeps parent ticket first t
  sleeps-slot c b some held =
      let shown = cell-shows depot parent (rests_in t parent) (get path_cmp cells parent) c (subtree parent t) some (h.shows parent) in
      born-slot depot parent ticket first b.image b.slots.items (brood_of ticket (broods_of shown.0))
      (one-held depot parent c shown.0 shown.2.holds ticket b held).born
      ∙ sym (sleeps-by parent ticket first t shown.0 shown.1)

  pub first-in : (c : Cell) (b : Brood) (from : ℕ) (r : Option ℕ) → get path_cmp cells parent ≡ Some c → get nat_cmp c.broods ticket ≡ Some b → from ≡ max first 1
      → MatchOption r ((k : ℕ) → from ≤ k → IsNotAsleep (slot_at k b.slots.items))
      (λ index. (from ≤ index) × (slot_at index b.slots.items ≡ Some Asleep) × ((k : ℕ) → from ≤ k → k < index → IsNotAsleep (slot_at k b.slots.items)))
      → IsFirstAsleep parent ticket first t r
  first-in c b from r some held start found =
      let shown = cell-shows depot parent (rests_in t parent) (get path_cmp cells parent) c (subtree parent t) some (h.shows parent) in
      let trees : Trees Member = brood_of ticket (broods_of shown.0) in
      let born = (one-held depot parent c shown.0 shown.2.holds ticket b held).born in
      by r found
      (λ k. sleeps-by parent ticket k t shown.0 shown.1)
      (λ k one there. born-sleeps depot parent ticket k b.image b.slots.items trees born one there)
      (λ k there. born-wakes depot parent ticket k b.image b.slots.items trees born there)
    where
      by : {W : ℕ → Bool} (r : Option ℕ)
          → MatchOption r ((k : ℕ) → from ≤ k → IsNotAsleep (slot_at k b.slots.items))
          (λ index. (from ≤ index) × (slot_at index b.slots.items ≡ Some Asleep) × ((k : ℕ) → from ≤ k → k < index → IsNotAsleep (slot_at k b.slots.items)))
          → ((k : ℕ) → sleeps parent ticket k t ≡ W k)
          → ((k : ℕ) → 1 ≤ k → slot_at k b.slots.items ≡ Some Asleep → W k ≡ true)
          → ((k : ℕ) → (1 ≤ k → IsNotAsleep (slot_at k b.slots.items)) → W k ≡ false)
          → IsFirstAsleep parent ticket first t r
      by None found is some none = λ k le. is k ∙ none k (λ one. found k (omega arith))
      by (Some index) found is some none = (
        omega (arith, found.0),
        is index ∙ some index (omega (arith, found.0)) found.1,
        λ k le below. is k ∙ none k (λ one. found.2 k (omega arith) below),
      )
