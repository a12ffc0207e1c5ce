-- A world after a machine was told of a change.
use Rattle.std.proofs.Common.{◌≡◌, ◌≢◌, ◌⊎◌, inl, inr, ℕ, zero, suc, ◌+◌, ◌-◌, ◌≤◌, Bool, true, false, refl, sym, ap, ◌∙◌, subst}
use Rattle.std.proofs.Common.{arith, List, [], ◌∷◌, Option, Some, None, IsSome, slice_get, slice_set, eqb, eqb-true, vec_len, vec_capacity}
use Rattle.std.specs.Option.{IfSome, IsSomeAnd}
use Rattle.std.specs.Prelude.{MatchOption}
use Rattle.std.specs.Ordering.{nat_cmp}
use Rattle.std.specs.BTreeMap.{BTreeMap, WritesThrough, btree_map_len, get}
use Rattle.std.specs.Global.{Vec}
use Rattle.std.proofs.lemmas.Bool.{eqb-false}
use Rattle.image_depot.specs.Key.{Key, Shelves}
use Rattle.image_depot.specs.Key.{number_of as key_number}
use Rattle.forest_tree.specs.Operations.{is_cloned}
use Rattle.forest_tree.specs.Tree.{Tree, Trees, no_tree, tree, machine, broods_of, brood_of, child_at, Branch, Path, subtree}
use Rattle.forest_tree.specs.Step.{has_ended}
use Rattle.talking_history.specs.Places.{parked}
use Rattle.talking_history.specs.World.{is_asleep_at, holds, lives_ready}
use Rattle.forest_model.specs.Paged.{paged_machines, paged_talks}
use Rattle.vm_descriptor.specs.declared.descriptor.Descriptor.{Descriptor}
use Rattle.vm_descriptor.specs.Descriptor.{numbered}
use Rattle.vm_cell.specs.declared.vm.fork.ForkImage.{ForkImage}
use Rattle.machine_names.specs.Name.{child_path}
use Rattle.machine_names.specs.NameOrder.{path_cmp}
use Rattle.ready_queue.specs.Ready.{Ready}
use Rattle.run_report.specs.Lines.{Line}
use Rattle.sibling_words.specs.declared.words.SiblingWords.{SiblingWords}
use Rattle.sibling_words.specs.declared.notes.SiblingNotes.{SiblingNotes}
use Rattle.world_core.specs.declared.cell.Brood.{Brood}
use Rattle.world_core.specs.declared.cell.Cell.{Cell}
use Rattle.world_core.specs.declared.cell.Change.{Change}
use Rattle.world_core.specs.declared.cell.ChildSlot.{ChildSlot}
use Rattle.world_core.specs.declared.cell.ChildSlot.TheVariants.{Asleep, Awake, Ended}
use Rattle.world_core.specs.declared.cell.State.{State}
use Rattle.world_core.specs.declared.cell.State.TheVariants.{Home, Parked, Out}
use Rattle.world_core.specs.declared.world.World.{World}
use Rattle.world_core.specs.Images.{AreBroodsAt, HasImages, Images, IsBroodAt, IsStateAt}
use Rattle.world_core.specs.Listed.{IsListed, IsCovered}
use Rattle.world_core.specs.Shows.{Member, forest, AreTold, BornShows, BroodAt, CellShows, Holds, IsAwake, Shows, SlotShows, SlotsShow, StateShows, TallyAt, child_of, slot_at}
use Rattle.world_core.specs.Stirring.{IsWokenBy, RestsAsBefore, WakesOne}
use Rattle.world_core.specs.Talking.{HasSlot, IsAwakeSlot, IsNotAwake, IsSameBut, IsSameCell, IsStirred, MayList, Rouses, SetsIn, SetsSlot, slot_in}
use Rattle.world_core.specs.Unparked.{is_parked_for, kept_turn, unparked}
use Rattle.world_core.specs.World.{IsDue, IsForest, Rests, ShowsEach}
use Rattle.world_core.proofs.Awake.{awake-cell, child-below, slot-ended}
use Rattle.world_core.proofs.Heard.{AreSlotsAlike, brood-alike, cell-but, tally-alike}
use Rattle.world_core.proofs.Images.{unparked-at}
use Rattle.world_core.proofs.Ready.{IsListed-first, IsListed-more, IsCovered-more}
use Rattle.world_core.proofs.Returns.{apart-below, same-or-apart, some-is, written-apart, written-here}
use Rattle.world_core.proofs.Siblings.{beside}
use Rattle.world_core.proofs.Skipping.{cell-woken, each-as, holds-as, shows-as, woken-ready}
use Rattle.world_core.proofs.Slots.{not-first, slot-of}
use Rattle.world_core.proofs.SlotWaits.{one-held}

-- ---- cells that are alike

pub record IsSameBrood (old new : Brood) : Type 0 where
  pub slots : AreSlotsAlike old new
  pub words : new.words ≡ old.words
  pub notes : new.notes ≡ old.notes

abbrev pub AreBroodsAlike : Option Brood → Option Brood → Type 0
AreBroodsAlike None None = Unit {0}
AreBroodsAlike None (Some new) = ⊥
AreBroodsAlike (Some old) None = ⊥
AreBroodsAlike (Some old) (Some new) = IsSameBrood old new

pub record AreCellsAlike (c d : Cell) : Type 0 where
  pub but : IsSameBut c d
  pub broods : (u : ℕ) → AreBroodsAlike (get nat_cmp c.broods u) (get nat_cmp d.broods u)

same-brood : (b : Brood) → IsSameBrood b b
same-brood b = record { slots = record { name = refl; image = refl; items = refl; live = refl }; words = refl; notes = refl }

brood-itself : (o p : Option Brood) → p ≡ o → AreBroodsAlike o p
brood-itself o p same = subst (AreBroodsAlike o) (sym same) (by o)
  where
    by : (o : Option Brood) → AreBroodsAlike o o
    by None = tt
    by (Some b) = same-brood b

pub same-cell : (c d : Cell) → IsSameCell c d → AreCellsAlike c d
same-cell c d same =
    record { but = same.rest; broods = λ u. brood-itself (get nat_cmp c.broods u) (get nat_cmp d.broods u) (same.broods u) }

alike-tally : (path : Path) (count : ℕ) (o p : Option Brood) (is : Bool) → AreBroodsAlike o p → TallyAt path count o is → TallyAt path count p is
alike-tally path count None None is same h = h
alike-tally path count None (Some new) is same h = absurd same
alike-tally path count (Some old) None is same h = absurd same
alike-tally path count (Some old) (Some new) is same h = tally-alike path count old new is same.slots h

alike-told : (old new : Brood) (trees : Trees Member) → IsSameBrood old new → AreTold old.words old.notes trees → AreTold new.words new.notes trees
alike-told old new trees same h =
    subst (λ (w : SiblingWords). AreTold w new.notes trees) (sym same.words)
    (subst (λ (n : SiblingNotes). AreTold old.words n trees) (sym same.notes) h)

alike-brood : (depot : Shelves) (path : Path) (ticket : ℕ) (o p : Option Brood) (is : Bool) (trees : Trees Member) → AreBroodsAlike o p
    → BroodAt depot path ticket o is trees → BroodAt depot path ticket p is trees
alike-brood depot path ticket None None is trees same h = h
alike-brood depot path ticket None (Some new) is trees same h = absurd same
alike-brood depot path ticket (Some old) None is trees same h = absurd same
alike-brood depot path ticket (Some old) (Some new) false trees same h = absurd h
alike-brood depot path ticket (Some old) (Some new) true trees same h =
    brood-alike depot path ticket old new trees same.slots (alike-told old new trees same h.heard) h

pub alike-shows : (depot : Shelves) (path : Path) (resting : Bool) (c d : Cell) (t : Tree Member) → AreCellsAlike c d → CellShows depot path resting c t
    → CellShows depot path resting d t
alike-shows depot path resting c d t same h = cell-but depot path resting c d t t same.but refl h (record {
  tallies = record {
    log = ap (λ (l : Vec Line). l.items) same.but.log ∙ h.holds.tallies.log;
    room = subst (λ (l : Vec Line). vec_len l + btree_map_len d.broods ≤ vec_capacity l) (sym same.but.log)
        (subst (λ n. vec_len c.log + n ≤ vec_capacity c.log) (sym same.but.count) h.holds.tallies.room);
    broods = λ u.
        alike-tally path (forest.grant (machine t) u).children (get nat_cmp c.broods u) (get nat_cmp d.broods u) (is_cloned forest (machine t) u)
        (same.broods u) (h.holds.tallies.broods u);
  };
  broods = λ u.
      alike-brood depot path u (get nat_cmp c.broods u) (get nat_cmp d.broods u) (is_cloned forest (machine t) u) (brood_of u (broods_of t)) (same.broods u)
      (h.holds.broods u);
})

-- what a name shows is the same, and it is due where it was
pub record AreAlike (depot : Shelves) (n : Path) (old new : Option Cell) : Type 0 where
  pub shows : (resting : Bool) (u : Option (Tree Member)) → Shows depot n resting old u → Shows depot n resting new u
  pub due : (list : List Ready) → IsDue old n list → IsDue new n list
  pub listed : (list : List Ready) → IfSome old (λ (c : Cell). c.is_listed ≡ true → IsListed n list) → IfSome new (λ (c : Cell). c.is_listed ≡ true → IsListed n list)

pub alike-itself : (depot : Shelves) (n : Path) (old new : Option Cell) → new ≡ old → AreAlike depot n old new
alike-itself depot n old new same = record {
  shows = λ resting u h. subst (λ o. Shows depot n resting o u) (sym same) h;
  due = λ list h. subst (λ o. IsDue o n list) (sym same) h;
  listed = λ list h. subst (λ o. IfSome o (λ (c : Cell). c.is_listed ≡ true → IsListed n list)) (sym same) h;
}

pub alike-cells : (depot : Shelves) (n : Path) (c d : Cell) → AreCellsAlike c d → AreAlike depot n (Some c) (Some d)
alike-cells depot n c d same = record {
  shows = by;
  due = λ list h. h;
  listed = λ list h so_is. h (sym same.but.is_listed ∙ so_is);
}
  where
    by : (resting : Bool) (u : Option (Tree Member)) → Shows depot n resting (Some c) u → Shows depot n resting (Some d) u
    by resting None h = h
    by resting (Some t) h = alike-shows depot n resting c d t same h

-- where all are alike, and no turn is another
pub each-alike : (depot : Shelves) (rests : Rests) (w v : World) (t : Tree Member) → ((n : Path) → AreAlike depot n (get path_cmp w.cells n) (get path_cmp v.cells n))
    → v.ready ≡ w.ready → ShowsEach depot rests w t → ShowsEach depot rests v t
each-alike depot rests w v t alike ready h = record {
  cells = λ n. (alike n).shows (rests n) (subtree n t) (h.cells n);
  ready = λ n so_is. subst (IsDue (get path_cmp v.cells n) n) (sym ready) ((alike n).due w.ready (h.ready n so_is));
  listed = λ n.
      subst (λ list. IfSome (get path_cmp v.cells n) (λ (c : Cell). c.is_listed ≡ true → IsListed n list)) (sym ready) ((alike n).listed w.ready (h.listed n));
}

-- ---- the cell of one name is another

module _ (depot : Shelves) (w v : World) (t u : Tree Member) (before after : Rests) (name : Path) (c d : Cell) (each : ShowsEach depot before w t)
    (there : subtree name t ≡ Some u) (was : get path_cmp w.cells name ≡ Some c) (is : get path_cmp v.cells name ≡ Some d)
    (others : (n : Path) → name ≢ n → AreAlike depot n (get path_cmp w.cells n) (get path_cmp v.cells n))
    (more : (n : Path) → IsListed n w.ready → IsListed n v.ready) (covers : (n : Path) → IsCovered n w.ready → IsCovered n v.ready)
    (rests : (n : Path) → n ≢ name → IfSome (subtree n t) (RestsAsBefore (before n) (after n)))
    (shows : CellShows depot name (after name) d u)
    (turns : lives_ready paged_machines paged_talks (after name) u ≡ true
    → (lives_ready paged_machines paged_talks (before name) u ≡ true) ⊎ (d.is_listed ≡ true))
    (listed : d.is_listed ≡ true → IsListed name v.ready) where
  apart : (n : Path) → name ≢ n → IfSome (subtree n t) (RestsAsBefore (before n) (after n))
  apart n other = rests n (λ e. other (sym e))

  due-lists : (n : Path) (o : Option Cell) → IsDue o n w.ready → IsDue o n v.ready
  due-lists n None h = covers n h
  due-lists n (Some e) h = more n h

  listed-lists : (n : Path) (o : Option Cell) → IfSome o (λ (e : Cell). e.is_listed ≡ true → IsListed n w.ready)
      → IfSome o (λ (e : Cell). e.is_listed ≡ true → IsListed n v.ready)
  listed-lists n None h = tt
  listed-lists n (Some e) h = λ so_is. more n (h so_is)

  here-due : lives_ready paged_machines paged_talks (after name) u ≡ true → IsListed name v.ready
  here-due so_is = elim (turns so_is) [
    | inl ready ↦
        more name (subst (λ o. IsDue o name w.ready) was
        (each.ready name (ap (holds (lives_ready paged_machines paged_talks (before name))) there ∙ ready)))
    | inr now ↦ listed now
  ]

  pub each-woken : ShowsEach depot after v t
  each-woken = record {
    cells = λ n. cells n (same-or-apart name n);
    ready = λ n so_is. ready n so_is (same-or-apart name n);
    listed = λ n. turns_of n (same-or-apart name n);
  }
    where
      cells : (n : Path) → (n ≡ name) ⊎ (name ≢ n) → Shows depot n (after n) (get path_cmp v.cells n) (subtree n t)
      cells n (inl e) =
          subst (λ m. Shows depot m (after m) (get path_cmp v.cells m) (subtree m t)) (sym e)
          (subst (λ o. Shows depot name (after name) o (subtree name t)) (sym is)
          (subst (Shows depot name (after name) (Some d)) (sym there) shows))
      cells n (inr other) =
          (others n other).shows (after n) (subtree n t)
          (shows-as depot n (before n) (after n) (get path_cmp w.cells n) (subtree n t) (apart n other) (each.cells n))

      ready : (n : Path) → holds (lives_ready paged_machines paged_talks (after n)) (subtree n t) ≡ true → (n ≡ name) ⊎ (name ≢ n)
          → IsDue (get path_cmp v.cells n) n v.ready
      ready n so_is (inl e) =
          subst (λ m. IsDue (get path_cmp v.cells m) m v.ready) (sym e)
          (subst (λ o. IsDue o name v.ready) (sym is)
          (here-due (sym (ap (holds (lives_ready paged_machines paged_talks (after name))) there)
          ∙ ap (λ m. holds (lives_ready paged_machines paged_talks (after m)) (subtree m t)) (sym e) ∙ so_is)))
      ready n so_is (inr other) =
          (others n other).due v.ready
          (due-lists n (get path_cmp w.cells n) (each.ready n (holds-as (before n) (after n) (subtree n t) (apart n other) so_is)))

      turns_of : (n : Path) → (n ≡ name) ⊎ (name ≢ n) → IfSome (get path_cmp v.cells n) (λ (e : Cell). e.is_listed ≡ true → IsListed n v.ready)
      turns_of n (inl e) =
          subst (λ m. IfSome (get path_cmp v.cells m) (λ (cell : Cell). cell.is_listed ≡ true → IsListed m v.ready)) (sym e)
          (subst (λ o. IfSome o (λ (cell : Cell). cell.is_listed ≡ true → IsListed name v.ready)) (sym is) listed)
      turns_of n (inr other) = (others n other).listed v.ready (listed-lists n (get path_cmp w.cells n) (each.listed n))

-- ---- a child that has a cell

slot-child : (path : Path) (ticket : ℕ) (key : Key) (k : ℕ) (seed : Descriptor) (slots : List ChildSlot) (trees : Trees Member) (j : ℕ) (slot : ChildSlot)
    → SlotsShow path ticket key k seed slots trees → slice_get slots j ≡ Some slot
    → (a : Tree Member) × (child_at (suc j) trees ≡ Some a) × SlotShows (child_path path ticket (k + j)) key (numbered (k + j) seed) slot a
unfolding SlotsShow child_at
slot-child path ticket key k seed [] trees j slot h found = absurd (cc)
slot-child path ticket key k seed (first ∷ slots) no_tree j slot h found = absurd h
slot-child path ticket key k seed (first ∷ slots) (tree t rest) zero slot h found =
    let same : first ≡ slot = cc in
    let at : k ≡ k + 0 = omega arith in (
      t,
      refl,
      subst (λ n. SlotShows (child_path path ticket n) key (numbered n seed) slot t) at
          (subst (λ s. SlotShows (child_path path ticket k) key (numbered k seed) s t) same h.0),
    )
slot-child path ticket key k seed (first ∷ slots) (tree t rest) (suc j) slot h found =
    let later = slot-child path ticket key (suc k) seed slots rest j slot h.1 found in
    let at : suc k + j ≡ k + suc j = omega arith in
    (later.0, later.1, subst (λ n. SlotShows (child_path path ticket n) key (numbered n seed) slot later.0) at later.2)

born-child : (depot : Shelves) (path : Path) (ticket : ℕ) (image : Option ForkImage) (slots : List ChildSlot) (trees : Trees Member) (j : ℕ) (name : Path)
    → BornShows depot path ticket image slots trees → slice_get slots j ≡ Some (Awake name)
    → (a : Tree Member) × (child_at (suc j) trees ≡ Some a) × IsAwake a × (name ≡ child_path path ticket (1 + j))
born-child depot path ticket None slots trees j name h found =
    let is = slot-child path ticket h.0 1 h.1 slots trees j (Awake name) h.3 found in (is.0, is.1, is.2.0, is.2.1)
born-child depot path ticket (Some image) slots trees j name h found =
    let is = slot-child path ticket image.key 1 image.seed slots trees j (Awake name) h.1 found in (is.0, is.1, is.2.0, is.2.1)

-- the child whose slot has its name
pub record IsNamed (path : Path) (ticket k : ℕ) (name : Path) (t : Tree Member) : Type 0 where
  pub child : Tree Member
  pub is_child : child_of ticket k t ≡ Some child
  pub awake : IsAwake child
  pub named : name ≡ child_path path ticket k

named-by : (depot : Shelves) (path : Path) (ticket k : ℕ) (c : Cell) (t : Tree Member) (name : Path) → Holds depot path c t → 1 ≤ k
    → (b : Option Brood) → get nat_cmp c.broods ticket ≡ b → slot_in k b ≡ Some (Awake name) → IsNamed path ticket k name t
named-by depot path ticket k c t name h first None e slot = absurd (cc)
named-by depot path ticket zero c t name h first (Some b) e slot = absurd (omega (arith, first))
named-by depot path ticket (suc j) c t name h first (Some b) e slot =
    let at : suc j - 1 ≡ j = omega arith in
    let next : 1 + j ≡ suc j = omega arith in
    let is = born-child depot path ticket b.image b.slots.items (brood_of ticket (broods_of t)) j name (one-held depot path c t h ticket b e).born
    (ap (slice_get b.slots.items) (sym at) ∙ slot) in
    record { child = is.0; is_child = is.1; awake = is.2; named = is.3 ∙ ap (child_path path ticket) next }

pub named : (depot : Shelves) (path : Path) (ticket k : ℕ) (c : Cell) (t : Tree Member) (name : Path) → Holds depot path c t → 1 ≤ k
    → HasSlot (Some (Awake name)) ticket k c → IsNamed path ticket k name t
named depot path ticket k c t name h first slot = named-by depot path ticket k c t name h first (get nat_cmp c.broods ticket) refl slot

-- a child that is awake has its name in its slot
awake-slot : (path : Path) (key : Key) (seed : Descriptor) (slot : ChildSlot) (a : Tree Member) → IsAwake a → SlotShows path key seed slot a → IsAwakeSlot (Some slot)
awake-slot path key seed Asleep a awake h =
    let no : true ≡ false = sym (ap (λ (t : Tree Member). is_asleep_at (machine t).machine.place) h.born) ∙ awake.awake in absurd (cc)
awake-slot path key seed (Awake name) a awake h = tt
awake-slot path key seed (Ended outcome) a awake h =
    let no : true ≡ false = sym (slot-ended outcome.ending a h.0) ∙ awake.lives in absurd (cc)

slot-awake : (path : Path) (ticket : ℕ) (key : Key) (seed : Descriptor) (slots : List ChildSlot) (trees : Trees Member) (k : ℕ) (a : Tree Member)
    → SlotsShow path ticket key 1 seed slots trees → child_at k trees ≡ Some a → IsAwake a → IsAwakeSlot (slot_at k slots)
slot-awake path ticket key seed slots trees zero a h found awake = absurd (not-first trees a found)
slot-awake path ticket key seed slots trees (suc j) a h found awake =
    let has = slot-of path ticket key 1 seed slots trees j a h found in
    let at : suc j - 1 ≡ j = omega arith in
    subst IsAwakeSlot (sym (ap (slice_get slots) at ∙ has.slot_at)) (awake-slot (child_path path ticket (1 + j)) key (numbered (1 + j) seed) has.slot a awake has.shows)

pub born-awake : (depot : Shelves) (path : Path) (ticket : ℕ) (image : Option ForkImage) (slots : List ChildSlot) (trees : Trees Member) (k : ℕ) (a : Tree Member)
    → BornShows depot path ticket image slots trees → child_at k trees ≡ Some a → IsAwake a → IsAwakeSlot (slot_at k slots)
born-awake depot path ticket None slots trees k a h found awake = slot-awake path ticket h.0 h.1 slots trees k a h.3 found awake
born-awake depot path ticket (Some image) slots trees k a h found awake = slot-awake path ticket image.key image.seed slots trees k a h.1 found awake

-- ---- what a change makes of two cells

-- that of the parent is as it was, and that of the child may wait no more
pub record IsTurned (change : Change) (w v : World) (parent slot : Path) (c e : Cell) : Type 0 where
  pub above : Cell
  pub new : Cell
  pub is : get path_cmp v.cells parent ≡ Some above
  pub alike : AreCellsAlike c above
  pub was : get path_cmp w.cells slot ≡ Some e
  pub now : get path_cmp v.cells slot ≡ Some new
  pub others : (n : Path) → parent ≢ n → slot ≢ n → get path_cmp v.cells n ≡ get path_cmp w.cells n
  pub told : IsStirred change e new w.ready v.ready

-- a name is taken out of a slot and put back
set-back : (slots : List ChildSlot) (j : ℕ) (slot other : ChildSlot) → slice_get slots j ≡ Some slot → slice_set (slice_set slots j other) j slot ≡ slots
set-back [] j slot other found = refl
set-back (first ∷ slots) zero slot other found = let same : first ≡ slot = cc in ap (λ s. s ∷ slots) (sym same)
set-back (first ∷ slots) (suc j) slot other found = ap (λ rest. first ∷ rest) (set-back slots j slot other found)

slot-set : (slots : List ChildSlot) (j : ℕ) (slot other : ChildSlot) → slice_get slots j ≡ Some slot → slice_get (slice_set slots j other) j ≡ Some other
slot-set [] j slot other found = absurd (cc)
slot-set (first ∷ slots) zero slot other found = refl
slot-set (first ∷ slots) (suc j) slot other found = slot-set slots j slot other found

module _ (ticket k : ℕ) (slot other : ChildSlot) (c d : Cell) (has : HasSlot (Some slot) ticket k c) (out : SetsSlot other ticket k c d) where
  -- the slot then
  pub then-slot : HasSlot (Some other) ticket k d
  then-slot = by (get nat_cmp c.broods ticket) (get nat_cmp d.broods ticket) has out.brood
    where
      by : (o p : Option Brood) → slot_in k o ≡ Some slot → IsSomeAnd o (λ b. IsSomeAnd p (SetsIn other k b)) → slot_in k p ≡ Some other
      by None p at sets = absurd sets
      by (Some b) None at sets = absurd sets
      by (Some b) (Some n) at sets = ap (λ (items : List ChildSlot). slot_at k items) sets.slots ∙ slot-set b.slots.items (k - 1) slot other at

  -- and where it is put back in a cell with the same broods
  pub put-back : (m e : Cell) → IsSameBut d m → m.broods ≡ d.broods → SetsSlot slot ticket k m e → AreCellsAlike c e
  put-back m e middle same back = record {
    but = record {
      kin = back.rest.kin ∙ middle.kin ∙ out.rest.kin;
      state = back.rest.state ∙ middle.state ∙ out.rest.state;
      is_listed = back.rest.is_listed ∙ middle.is_listed ∙ out.rest.is_listed;
      log = back.rest.log ∙ middle.log ∙ out.rest.log;
      count = back.rest.count ∙ middle.count ∙ out.rest.count;
    };
    broods = λ u. by u (eqb ticket u) refl;
  }
    where
      back-in : (o p q : Option Brood) → slot_in k o ≡ Some slot → IsSomeAnd o (λ b. IsSomeAnd p (SetsIn other k b)) → IsSomeAnd p (λ b. IsSomeAnd q (SetsIn slot k b))
          → AreBroodsAlike o q
      back-in None p q at first then = absurd first
      back-in (Some b) None q at first then = absurd first
      back-in (Some b) (Some n) None at first then = absurd then
      back-in (Some b) (Some n) (Some r) at first then = record {
        slots = record {
          name = then.name ∙ first.name;
          image = then.image ∙ first.image;
          items = then.slots ∙ ap (λ (items : List ChildSlot). slice_set items (k - 1) slot) first.slots ∙ set-back b.slots.items (k - 1) slot other at;
          live = then.live ∙ first.live;
        };
        words = then.words ∙ first.words;
        notes = then.notes ∙ first.notes;
      }

      by : (u : ℕ) (at : Bool) → eqb ticket u ≡ at → AreBroodsAlike (get nat_cmp c.broods u) (get nat_cmp e.broods u)
      by u true e_is =
          subst (λ n. AreBroodsAlike (get nat_cmp c.broods n) (get nat_cmp e.broods n)) (eqb-true ticket u e_is)
          (back-in (get nat_cmp c.broods ticket) (get nat_cmp d.broods ticket) (get nat_cmp e.broods ticket) has out.brood
          (subst (λ (broods : BTreeMap ℕ Brood). IsSomeAnd (get nat_cmp broods ticket) (λ b. IsSomeAnd (get nat_cmp e.broods ticket) (SetsIn slot k b))) same back.brood))
      by u false e_is =
          let apart : u ≢ ticket = λ at. eqb-false ticket u e_is (sym at) in
          brood-itself (get nat_cmp c.broods u) (get nat_cmp e.broods u)
          (back.others u apart ∙ ap (λ (broods : BTreeMap ℕ Brood). get nat_cmp broods u) same ∙ out.others u apart)

-- the keys of the cell are to the same images
pub set-images : (images : Images) (path : Path) (slot : ChildSlot) (ticket k : ℕ) (c d : Cell) → SetsSlot slot ticket k c d → HasImages images path c
    → HasImages images path d
set-images images path slot ticket k c d sets h = record {
  state = subst (IsStateAt images path) (sym sets.rest.state) h.state;
  broods = λ u. by u (eqb ticket u) refl;
}
  where
    set-in : (o p : Option Brood) → IsSomeAnd o (λ b. IsSomeAnd p (SetsIn slot k b)) → IfSome o (IsBroodAt images path ticket) → IfSome p (IsBroodAt images path ticket)
    set-in None p is at = absurd is
    set-in (Some b) None is at = absurd is
    set-in (Some b) (Some n) is at = subst (λ (image : Option ForkImage). IfSome image (λ y. images path ticket ≡ key_number y.key)) (sym is.image) at

    by : (u : ℕ) (at : Bool) → eqb ticket u ≡ at → IfSome (get nat_cmp d.broods u) (IsBroodAt images path u)
    by u true e =
        subst (λ n. IfSome (get nat_cmp d.broods n) (IsBroodAt images path n)) (eqb-true ticket u e)
        (set-in (get nat_cmp c.broods ticket) (get nat_cmp d.broods ticket) sets.brood (h.broods ticket))
    by u false e =
        subst (λ o. IfSome o (IsBroodAt images path u)) (sym (sets.others u (λ at. eqb-false ticket u e (sym at)))) (h.broods u)

pub same-images : (images : Images) (path : Path) (c d : Cell) → IsSameCell c d → HasImages images path c → HasImages images path d
same-images images path c d same h = record {
  state = subst (IsStateAt images path) (sym same.rest.state) h.state;
  broods = λ u. subst (λ o. IfSome o (IsBroodAt images path u)) (sym (same.broods u)) (h.broods u);
}

-- ---- nobody wakes

module _ (depot : Shelves) (w : World) (t : Tree Member) (before after : Rests) (change : Change) (parent : Path) (ticket k : ℕ) (whole : IsForest t) (root : IsAwake t)
    (each : ShowsEach depot before w t) (wakes : WakesOne change (child_path parent ticket k) before after t) where
  abbrev name : Path
  name = child_path parent ticket k

  abbrev x : Branch
  x = record { ticket = ticket; child = k }

  awake-parked : (a : Tree Member) → has_ended forest a ≡ false → (machine a).machine.place ≡ parked → IsAwake a
  awake-parked a lives at = record { lives = lives; awake = ap is_asleep_at at }

  none-wakes : ((a : Tree Member) → subtree name t ≡ Some a → IsAwake a → ⊥) → ShowsEach depot after w t
  none-wakes never_awake = each-as depot w t before after each (λ n. by n (same-or-apart name n))
    where
      never : (u : Option (Tree Member)) → subtree name t ≡ u → IfSome u (RestsAsBefore (before name) (after name))
      never None e = tt
      never (Some a) e = record { same = λ lives at. absurd (never_awake a e (awake-parked a lives at)) }

      by : (n : Path) → (n ≡ name) ⊎ (name ≢ n) → IfSome (subtree n t) (RestsAsBefore (before n) (after n))
      by n (inl e) = subst (λ m. IfSome (subtree m t) (RestsAsBefore (before m) (after m))) (sym e) (never (subtree name t) refl)
      by n (inr other) = wakes.others n (λ e. other (sym e))

  -- the parent has no cell
  pub none-above : get path_cmp w.cells parent ≡ None → ShowsEach depot after w t
  none-above none = none-wakes (λ a there awake.
      let b = beside depot before w t parent x a whole root each there in
      let no : None ≡ Some b.cell = sym none ∙ b.found in cc)

  -- the child is not awake
  pub none-awake : (c : Cell) → get path_cmp w.cells parent ≡ Some c → IsNotAwake (get nat_cmp c.broods ticket) k → ShowsEach depot after w t
  none-awake c found asleep = none-wakes (λ a there awake.
      let b = beside depot before w t parent x a whole root each there in
      let one : Some b.cell ≡ Some c = sym b.found ∙ found in
      let same : b.cell ≡ c = cc in
      let has : get nat_cmp c.broods ticket ≡ Some b.brood = ap (λ (cell : Cell). get nat_cmp cell.broods ticket) (sym same) ∙ b.has in
      asleep (subst (λ o. IsAwakeSlot (slot_in k o)) (sym has)
      (born-awake depot parent ticket b.brood.image b.brood.slots.items (brood_of ticket (broods_of b.above)) k a b.held.born b.is_child awake)))

  -- ---- one may wake

  -- what the parent's cell tells of the child
  child-named : (c : Cell) (slot : Path) → get path_cmp w.cells parent ≡ Some c → 1 ≤ k → HasSlot (Some (Awake slot)) ticket k c
      → (p : Tree Member) × (subtree parent t ≡ Some p) × IsNamed parent ticket k slot p
  child-named c slot found first has = by (subtree parent t) refl (subst (λ o. Shows depot parent (before parent) o (subtree parent t)) found (each.cells parent))
    where
      by : (u : Option (Tree Member)) → subtree parent t ≡ u → Shows depot parent (before parent) (Some c) u
          → (p : Tree Member) × (subtree parent t ≡ Some p) × IsNamed parent ticket k slot p
      by None e h = absurd h
      by (Some p) e h = (p, e, named depot parent ticket k c p slot h.holds first has)

  -- it has a cell, at its own name
  record IsFound (c : Cell) (slot : Path) : Type 0 where
    child : Tree Member
    there : subtree name t ≡ Some child
    awake : IsAwake child
    named_so : slot ≡ name
    apart : parent ≢ slot

  found-child : (c : Cell) (slot : Path) → get path_cmp w.cells parent ≡ Some c → 1 ≤ k → HasSlot (Some (Awake slot)) ticket k c → IsFound c slot
  found-child c slot found first has =
      let is = child-named c slot found first has in
      let n = is.2 in
      record {
        child = n.child;
        there = child-below parent ticket k t (Some is.0) is.1 ∙ n.is_child;
        awake = n.awake;
        named_so = n.named;
        apart = λ e. apart-below parent x [] (e ∙ n.named);
      }

  pub has-cell : (c : Cell) (slot : Path) → get path_cmp w.cells parent ≡ Some c → 1 ≤ k → HasSlot (Some (Awake slot)) ticket k c
      → (parent ≢ slot) × (get path_cmp w.cells slot ≡ None → ⊥)
  has-cell c slot found first has =
      let f = found-child c slot found first has in (
        f.apart,
        λ none.
            let cell = awake-cell depot name (before name) (get path_cmp w.cells name) f.child f.awake
            (subst (Shows depot name (before name) (get path_cmp w.cells name)) f.there (each.cells name)) in
            let no : None ≡ Some cell.0 = sym none ∙ ap (get path_cmp w.cells) f.named_so ∙ cell.1 in cc,
      )

  -- its cell has changed, and its parent's is as it was
  pub stirred : (v : World) (c e : Cell) (slot : Path) → get path_cmp w.cells parent ≡ Some c → 1 ≤ k → HasSlot (Some (Awake slot)) ticket k c
      → (parent ≢ slot → IsTurned change w v parent slot c e) → ShowsEach depot after v t
  stirred v c e slot found first has turned =
      let f = found-child c slot found first has in
      let r = turned f.apart in
      let a : Tree Member = f.child in
      let was : get path_cmp w.cells name ≡ Some e = ap (get path_cmp w.cells) (sym f.named_so) ∙ r.was in
      let woken : IsWokenBy change (before name) (after name) (machine a) =
      subst (λ o. IfSome o (λ (u : Tree Member). IsAwake u → IsWokenBy change (before name) (after name) (machine u))) f.there wakes.one f.awake in
      let shown : CellShows depot name (before name) e a =
      subst (λ o. Shows depot name (before name) o (Some a)) was (subst (Shows depot name (before name) (get path_cmp w.cells name)) f.there (each.cells name)) in
      each-woken depot w v t a before after name e r.new each f.there was (ap (get path_cmp v.cells) (sym f.named_so) ∙ r.now)
      (λ n other. others n r f.named_so other (same-or-apart parent n))
      (λ n h. pushed-more n r.new (kept_turn e.state) r.told.listed h) (λ n h. pushed-covers n r.new (kept_turn e.state) r.told.listed h) wakes.others
      (cell-woken change depot name (before name) (after name) e r.new a woken r.told.state r.told.kin r.told.broods r.told.log shown)
      (woken-ready change depot name (before name) (after name) e r.new a woken r.told.ready shown)
      (λ so_is. by r.new (machine a) shown.state (subst (λ o. IfSome o (λ (cell : Cell). cell.is_listed ≡ true → IsListed name w.ready)) was (each.listed name))
      (kept_turn e.state) refl r.told.listed so_is)
    where
      others : (n : Path) → IsTurned change w v parent slot c e → slot ≡ name → name ≢ n → (n ≡ parent) ⊎ (parent ≢ n)
          → AreAlike depot n (get path_cmp w.cells n) (get path_cmp v.cells n)
      others n r is other (inl same) =
          subst (λ m. AreAlike depot m (get path_cmp w.cells m) (get path_cmp v.cells m)) (sym same)
          (subst (λ o. AreAlike depot parent o (get path_cmp v.cells parent)) (sym found)
          (subst (AreAlike depot parent (Some c)) (sym r.is) (alike-cells depot parent c r.above r.alike)))
      others n r is other (inr apart) =
          alike-itself depot n (get path_cmp w.cells n) (get path_cmp v.cells n) (r.others n apart (λ same. other (sym is ∙ same)))

      pushed-more : (n : Path) (d : Cell) (turn : Option Ready) → MayList e d w.ready v.ready turn → IsListed n w.ready → IsListed n v.ready
      pushed-more n d None same h = subst (IsListed n) (sym same.1) h
      pushed-more n d (Some one) (inl same) h = subst (IsListed n) (sym same.1) h
      pushed-more n d (Some one) (inr more) h = subst (IsListed n) (sym more.1) (IsListed-more n one w.ready h)

      pushed-covers : (n : Path) (d : Cell) (turn : Option Ready) → MayList e d w.ready v.ready turn → IsCovered n w.ready → IsCovered n v.ready
      pushed-covers n d None same h = subst (IsCovered n) (sym same.1) h
      pushed-covers n d (Some one) (inl same) h = subst (IsCovered n) (sym same.1) h
      pushed-covers n d (Some one) (inr more) h = subst (IsCovered n) (sym more.1) (IsCovered-more n one w.ready h)

      own : (state : State) (one : Ready) (b : Member) (resting : Bool) → StateShows name state b resting → kept_turn state ≡ Some one → one ≡ record { name = name; children = None }
      own (Home vm) one b resting h e = absurd (cc)
      own (Parked awaited vm turn) one b resting h e = let same : turn ≡ one = cc in sym same ∙ h.4
      own Out one b resting h e = absurd (cc)

      by : (d : Cell) (b : Member) → StateShows name e.state b (before name) → (e.is_listed ≡ true → IsListed name w.ready) → (turn : Option Ready)
          → kept_turn e.state ≡ turn → MayList e d w.ready v.ready turn → d.is_listed ≡ true → IsListed name v.ready
      by d b shown old None kept same so_is = subst (IsListed name) (sym same.1) (old (sym same.0 ∙ so_is))
      by d b shown old (Some one) kept (inl same) so_is = subst (IsListed name) (sym same.1) (old (sym same.0 ∙ so_is))
      by d b shown old (Some one) kept (inr more) so_is =
          subst (IsListed name) (sym more.1) (IsListed-first name one w.ready (own e.state one b (before name) shown kept))

-- ---- the cells on the way

-- the parent's cell without a name, the child's cell as it is told, and the parent's cell with the name again
module _ (change : Change) (w first told : World) (parent slot : Path) (ticket k : ℕ) (c d m e : Cell) (found : get path_cmp w.cells parent ≡ Some c)
    (has : HasSlot (Some (Awake slot)) ticket k c) (out : SetsSlot Asleep ticket k c d)
    (here : get path_cmp first.cells parent ≡ Some d) (others : (n : Path) → parent ≢ n → get path_cmp first.cells n ≡ get path_cmp w.cells n)
    (rouses : Rouses change slot first told) (there : get path_cmp told.cells parent ≡ Some m) where
  -- the parent's cell has the same broods, whatever name was in the slot
  pub middle-broods : m.broods ≡ d.broods
  middle-broods = by (same-or-apart slot parent)
    where
      stirred_in : (o p : Option Cell) → o ≡ Some d → p ≡ Some m → MatchOption o ((p ≡ None) × (told.ready ≡ first.ready)) (λ f. IsSomeAnd p (λ g. IsStirred change f g first.ready told.ready))
          → m.broods ≡ d.broods
      stirred_in None p was is h = absurd (cc)
      stirred_in (Some f) None was is h = absurd (cc)
      stirred_in (Some f) (Some g) was is h =
          let one : f ≡ d = cc in
          let two : g ≡ m = cc in
          ap (λ (cell : Cell). cell.broods) (sym two) ∙ h.broods ∙ ap (λ (cell : Cell). cell.broods) one

      by : (parent ≡ slot) ⊎ (slot ≢ parent) → m.broods ≡ d.broods
      by (inl e) =
          stirred_in (get path_cmp first.cells slot) (get path_cmp told.cells slot) (ap (get path_cmp first.cells) (sym e) ∙ here)
          (ap (get path_cmp told.cells) (sym e) ∙ there) rouses.cell
      by (inr apart) =
          let same : Some m ≡ Some d = sym there ∙ rouses.others parent (λ e. apart (sym e)) ∙ here in
          let one : m ≡ d = cc in ap (λ (cell : Cell). cell.broods) one

  pub middle-slot : HasSlot (Some Asleep) ticket k m
  middle-slot =
      subst (λ (broods : BTreeMap ℕ Brood). slot_in k (get nat_cmp broods ticket) ≡ Some Asleep) (sym middle-broods)
      (then-slot ticket k (Awake slot) Asleep c d has out)

  pub turned : (last : World) → (back : SetsSlot (Awake slot) ticket k m e) → get path_cmp last.cells parent ≡ Some e
      → ((n : Path) → parent ≢ n → get path_cmp last.cells n ≡ get path_cmp told.cells n) → last.ready ≡ told.ready → first.ready ≡ w.ready
      → parent ≢ slot → (f : Cell) → get path_cmp w.cells slot ≡ Some f → IsTurned change w last parent slot c f
  turned last back now then ready same apart f was =
      let before : get path_cmp first.cells slot ≡ Some f = others slot apart ∙ was in
      let told_so = told-cell (get path_cmp first.cells slot) (get path_cmp told.cells slot) before refl rouses.cell in
      let is_same : Some m ≡ Some d = sym there ∙ rouses.others parent apart ∙ here in
      let one : m ≡ d = cc in
      record {
        above = e;
        new = told_so.0;
        is = now;
        alike = put-back ticket k (Awake slot) Asleep c d has out m e (subst (IsSameBut d) (sym one) same-but) (ap (λ (cell : Cell). cell.broods) one) back;
        was = was;
        now = then slot apart ∙ told_so.1;
        others = λ n other beside. then n other ∙ rouses.others n (λ e. beside (sym e)) ∙ others n other;
        told = subst (λ list. IsStirred change f told_so.0 list last.ready) same (subst (IsStirred change f told_so.0 first.ready) (sym ready) told_so.2);
      }
    where
      same-but : IsSameBut d d
      same-but = record { kin = refl; state = refl; is_listed = refl; log = refl; count = refl }

      told-cell : (o p : Option Cell) → o ≡ Some f → get path_cmp told.cells slot ≡ p
          → MatchOption o ((p ≡ None) × (told.ready ≡ first.ready)) (λ b. IsSomeAnd p (λ g. IsStirred change b g first.ready told.ready))
          → (g : Cell) × (get path_cmp told.cells slot ≡ Some g) × IsStirred change f g first.ready told.ready
      told-cell None p at is h = absurd (cc)
      told-cell (Some b) None at is h = absurd h
      told-cell (Some b) (Some g) at is h =
          let same : b ≡ f = cc in (g, is, subst (λ (cell : Cell). IsStirred change cell g first.ready told.ready) same h)

-- all of it
pub stir-each : (depot : Shelves) (w : World) (t : Tree Member) (before after : Rests) (change : Change) (parent : Path) (ticket k : ℕ) → IsForest t → IsAwake t
    → ShowsEach depot before w t → WakesOne change (child_path parent ticket k) before after t → (first told last : World) (slot : Path) (c d m e : Cell)
    → get path_cmp w.cells parent ≡ Some c → 1 ≤ k → HasSlot (Some (Awake slot)) ticket k c → SetsSlot Asleep ticket k c d
    → get path_cmp first.cells parent ≡ Some d → ((n : Path) → parent ≢ n → get path_cmp first.cells n ≡ get path_cmp w.cells n) → first.ready ≡ w.ready
    → Rouses change slot first told → get path_cmp told.cells parent ≡ Some m → SetsSlot (Awake slot) ticket k m e → get path_cmp last.cells parent ≡ Some e
    → ((n : Path) → parent ≢ n → get path_cmp last.cells n ≡ get path_cmp told.cells n) → last.ready ≡ told.ready → ShowsEach depot after last t
stir-each depot w t before after change parent ticket k whole root each wakes first told last slot c d m e found low has out here others ready rouses there back now then same =
    by (get path_cmp w.cells slot) refl
  where
    by : (o : Option Cell) → get path_cmp w.cells slot ≡ o → ShowsEach depot after last t
    by None none = absurd ((has-cell depot w t before after change parent ticket k whole root each wakes c slot found low has).1 none)
    by (Some f) was =
        stirred depot w t before after change parent ticket k whole root each wakes last c f slot found low has
        (λ apart. turned change w first told parent slot ticket k c d m e found has out here others rouses there last back now then same ready apart f was)

-- ---- one machine is told

pub rouses-some : (change : Change) (name : Path) (w : World) (cells : BTreeMap Path Cell) (ready : List Ready) (c d : Cell) (turn : Option Ready)
    → Some c ≡ get path_cmp w.cells name → WritesThrough path_cmp (path_cmp name) w.cells d cells → d.state ≡ unparked change c.state
    → (d.broods ≡ c.broods) × (d.log ≡ c.log) × (d.kin ≡ c.kin) → IfSome turn (λ one. kept_turn c.state ≡ Some one)
    → MatchOption turn (d.is_listed ≡ c.is_listed) (λ one. d.is_listed ≡ true) → (is_parked_for change c.state ≡ true → d.is_listed ≡ true)
    → MatchOption turn (ready ≡ w.ready) (λ one. ready ≡ one ∷ w.ready) → Rouses change name w (record w { cells = cells; ready = ready })
rouses-some change name w cells ready c d turn found written state rest kept lists listed pushed =
    let some = some-is c (get path_cmp w.cells name) found in
    record {
      cell = subst (λ o. MatchOption o ((get path_cmp cells name ≡ None) × (ready ≡ w.ready)) (λ e. IsSomeAnd (get path_cmp cells name) (λ g. IsStirred change e g w.ready ready))) found
          (subst (λ o. IsSomeAnd o (λ g. IsStirred change c g w.ready ready)) (sym (written-here w.cells cells name d written some)) (record {
            state = state;
            kin = rest.2;
            broods = rest.0;
            log = rest.1;
            ready = listed;
            listed = by turn kept lists pushed;
          }));
      others = λ n other. written-apart w.cells cells name d written some n (λ e. other (sym e));
      halted = refl;
      outcome = refl;
      told = refl;
    }
  where
    kept-by : (o : Option Ready) → (d.is_listed ≡ c.is_listed) × (ready ≡ w.ready) → MayList c d w.ready ready o
    kept-by None same = same
    kept-by (Some one) same = inl same

    by : (turn : Option Ready) → IfSome turn (λ one. kept_turn c.state ≡ Some one) → MatchOption turn (d.is_listed ≡ c.is_listed) (λ one. d.is_listed ≡ true)
        → MatchOption turn (ready ≡ w.ready) (λ one. ready ≡ one ∷ w.ready) → MayList c d w.ready ready (kept_turn c.state)
    by None kept lists pushed = kept-by (kept_turn c.state) (lists, pushed)
    by (Some one) kept lists pushed = subst (MayList c d w.ready ready) (sym kept) (inr (lists, pushed))

-- the keys are to the same images
pub unparked-images : (images : Images) (path : Path) (change : Change) (c d : Cell) → d.state ≡ unparked change c.state → d.broods ≡ c.broods → HasImages images path c
    → HasImages images path d
unparked-images images path change c d state broods h = record {
  state = subst (IsStateAt images path) (sym state) (unparked-at images path change c.state h.state);
  broods = subst (AreBroodsAt images path) (sym broods) h.broods;
}

-- the parent's cell has the same in it
pub same-cells : (depot : Shelves) (w : World) (cells : BTreeMap Path Cell) (parent : Path) (c d : Cell) (rests : Rests) (t : Tree Member) → Some c ≡ get path_cmp w.cells parent
    → WritesThrough path_cmp (path_cmp parent) w.cells d cells → IsSameCell c d → ShowsEach depot rests w t → ShowsEach depot rests (record w { cells = cells }) t
same-cells depot w cells parent c d rests t found written same each = each-alike depot rests w (record w { cells = cells }) t (λ n. by n (same-or-apart parent n)) refl each
  where
    some : IsSome (get path_cmp w.cells parent)
    some = some-is c (get path_cmp w.cells parent) found

    by : (n : Path) → (n ≡ parent) ⊎ (parent ≢ n) → AreAlike depot n (get path_cmp w.cells n) (get path_cmp cells n)
    by n (inl e) =
        subst (λ m. AreAlike depot m (get path_cmp w.cells m) (get path_cmp cells m)) (sym e)
        (subst (λ o. AreAlike depot parent o (get path_cmp cells parent)) found
        (subst (AreAlike depot parent (Some c)) (sym (written-here w.cells cells parent d written some)) (alike-cells depot parent c d (same-cell c d same))))
    by n (inr other) = alike-itself depot n (get path_cmp w.cells n) (get path_cmp cells n) (written-apart w.cells cells parent d written some n other)
