-- A child of a cell's machine, and the cell once that child has changed.
use Rattle.sibling_forest.specs.Talk.{boxed}
use Rattle.std.proofs.Common.{◌≡◌, ℕ, zero, suc, ◌+◌, ◌-◌, ◌<◌, ◌≤◌, Bool, true, false, length, List, [], ◌∷◌, Option}
use Rattle.std.proofs.Common.{Some, None, is_some, MatchOption, slice_get, vec_len, refl, sym, ap, ap₂, ◌∙◌, subst, arith}
use Rattle.std.proofs.lemmas.Option.{slice_get_within}
use Rattle.std.specs.Ordering.{nat_cmp}
use Rattle.std.specs.BTreeMap.{get}
use Rattle.forest_tree.specs.Operations.{is_cloned}
use Rattle.forest_tree.specs.Tree.{Tree, Trees, no_tree, tree, machine, broods_of, brood_of, child_at, size, Path}
use Rattle.forest_tree.specs.Step.{has_ended}
use Rattle.forest_tree.proofs.Places.{some-same}
use Rattle.talking_history.specs.Places.{spots}
use Rattle.talking_history.specs.World.{is_asleep_at}
use Rattle.forest_model.specs.Forest.{machines}
use Rattle.forest_model.specs.Paged.{paged_machines}
use Rattle.image_depot.specs.Key.{Shelves, Key, IsKeyOf}
use Rattle.vm_descriptor.specs.declared.descriptor.Descriptor.{Descriptor}
use Rattle.vm_descriptor.specs.declared.descriptor.TheConstants.{MAX_CLONES}
use Rattle.vm_descriptor.specs.Descriptor.{numbered}
use Rattle.std.specs.Result.{IfOk}
use Rattle.std.specs.Prelude.{Result, Ok, Err}
use Rattle.std.specs.declared.alloc.AllocError.{AllocError}
use Rattle.vm_cell.specs.Keyed.{KeyedMachine, IsOfDepot, paged}
use Rattle.vm_cell.specs.Woken.{woken}
use Rattle.vm_cell.specs.declared.vm.fork.ForkImage.{ForkImage}
use Rattle.machine_names.specs.Name.{child_path}
use Rattle.world_core.specs.declared.cell.Brood.{Brood}
use Rattle.world_core.specs.declared.cell.Cell.{Cell}
use Rattle.world_core.specs.declared.cell.ChildSlot.{ChildSlot}
use Rattle.world_core.specs.declared.cell.ChildSlot.TheVariants.{Asleep, Awake, Ended}
use Rattle.world_core.specs.Shows.{Member, paged_of, forest, Sleeps, SlotShows, SlotsShow, IsNotAsleep, AreAwake, BornShows, IsTallied, TallyAt, Holds, child_of, siblings_of, slot_at}
use Rattle.world_core.proofs.Awake.{slot-ended}
use Rattle.world_core.proofs.Slots.{HasSlot, slot-of, not-first}
use Rattle.world_core.proofs.SlotWaits.{none-held, one-held}

-- where a ticket has a child, its cell has a brood
pub no-brood-no-child : (depot : Shelves) (path : Path) (c : Cell) (t a : Tree Member) (ticket index : ℕ) → Holds depot path c t
    → child_of ticket index t ≡ Some a → get nat_cmp c.broods ticket ≡ None → ⊥
unfolding child_at
no-brood-no-child depot path c t a ticket index h found none =
    let gone : child_of ticket index t ≡ None = ap (child_at index) (none-held depot path c t h ticket none) in cc

-- the slot of child `index`
pub record IsChildSlot (depot : Shelves) (path : Path) (ticket index : ℕ) (image : ForkImage) (slots : List ChildSlot) (a : Tree Member) : Type 0 where
  pub first : 1 ≤ index
  pub key : IsKeyOf depot image.key
  pub has : HasSlot path ticket image.key 1 (index - 1) image.seed slots a

slot-at : (path : Path) (ticket index : ℕ) (key : Key) (seed : Descriptor) (slots : List ChildSlot) (trees : Trees Member) (a : Tree Member)
    → SlotsShow path ticket key 1 seed slots trees → child_at index trees ≡ Some a
    → (1 ≤ index) × HasSlot path ticket key 1 (index - 1) seed slots a
slot-at path ticket zero key seed slots trees a h found = absurd (not-first trees a found)
slot-at path ticket (suc j) key seed slots trees a h found =
    (omega arith, subst (λ i. HasSlot path ticket key 1 i seed slots a) (omega arith) (slot-of path ticket key 1 seed slots trees j a h found))

child-slot-by : (depot : Shelves) (path : Path) (ticket index : ℕ) (born : Option ForkImage) (image : ForkImage) (slots : List ChildSlot) (trees : Trees Member)
    (a : Tree Member) → BornShows depot path ticket born slots trees → born ≡ Some image → child_at index trees ≡ Some a
    → IsChildSlot depot path ticket index image slots a
child-slot-by depot path ticket index born image slots trees a h is found =
    let shown : BornShows depot path ticket (Some image) slots trees = subst (λ y. BornShows depot path ticket y slots trees) is h in
    let at = slot-at path ticket index image.key image.seed slots trees a shown.1 found in
    record { first = at.0; key = shown.0; has = at.1 }

pub child-slot : (depot : Shelves) (path : Path) (c : Cell) (t a : Tree Member) (ticket index : ℕ) (b : Brood) (image : ForkImage) → Holds depot path c t
    → child_of ticket index t ≡ Some a → get nat_cmp c.broods ticket ≡ Some b → b.image ≡ Some image
    → IsChildSlot depot path ticket index image b.slots.items a
child-slot depot path c t a ticket index b image h found some is =
    child-slot-by depot path ticket index b.image image b.slots.items (brood_of ticket (broods_of t)) a (one-held depot path c t h ticket b some).born is found

-- the place of a child among the slots
place-shown : (path : Path) (ticket index : ℕ) (key : Key) (seed : Descriptor) (slots : List ChildSlot) (trees : Trees Member) (a : Tree Member)
    → SlotsShow path ticket key 1 seed slots trees → child_at index trees ≡ Some a → (1 ≤ index) × (index - 1 < length slots)
place-shown path ticket index key seed slots trees a h found =
    let at = slot-at path ticket index key seed slots trees a h found in
    (at.0, slice_get_within slots (index - 1) at.1.slot at.1.slot_at)

place-by : (depot : Shelves) (path : Path) (ticket index : ℕ) (born : Option ForkImage) (slots : List ChildSlot) (trees : Trees Member) (a : Tree Member)
    → BornShows depot path ticket born slots trees → child_at index trees ≡ Some a → (1 ≤ index) × (index - 1 < length slots)
place-by depot path ticket index None slots trees a h found = place-shown path ticket index h.0 h.1 slots trees a h.3 found
place-by depot path ticket index (Some image) slots trees a h found = place-shown path ticket index image.key image.seed slots trees a h.1 found

pub child-place : (depot : Shelves) (path : Path) (c : Cell) (t a : Tree Member) (ticket index : ℕ) (b : Brood) → Holds depot path c t
    → child_of ticket index t ≡ Some a → get nat_cmp c.broods ticket ≡ Some b → (1 ≤ index) × (index - 1 < vec_len b.slots)
child-place depot path c t a ticket index b h found some =
    let at = place-by depot path ticket index b.image b.slots.items (brood_of ticket (broods_of t)) a (one-held depot path c t h ticket b some).born found in
    (at.0, subst (λ n. index - 1 < n) (sym b.slots.ok.0) at.1)

-- a brood has no more slots than a ticket may have children
tallied : (path : Path) (count : ℕ) (b : Brood) (cloned : Bool) → TallyAt path count (Some b) cloned → IsTallied path count b
tallied path count b true h = h
tallied path count b false h = absurd h

pub few-slots : (depot : Shelves) (path : Path) (c : Cell) (t : Tree Member) (ticket : ℕ) (b : Brood) → Holds depot path c t
    → get nat_cmp c.broods ticket ≡ Some b → vec_len b.slots ≤ MAX_CLONES
few-slots depot path c t ticket b h some =
    let count = (forest.grant (machine t) ticket).children in
    (tallied path count b (is_cloned forest (machine t) ticket)
    (subst (λ o. TallyAt path count o (is_cloned forest (machine t) ticket)) some (h.tallies.broods ticket))).few

-- the seed of a child that is still a descriptor
sleeps-by : (path : Path) (key : Key) (seed : Descriptor) (slot : ChildSlot) (a : Tree Member) → SlotShows path key seed slot a
    → is_asleep_at (machine a).machine.place ≡ true → has_ended forest a ≡ false → Sleeps key seed a
unfolding boxed spots paged_machines machines
sleeps-by path key seed Asleep a h asleep lives = h
sleeps-by path key seed (Awake name) a h asleep lives = let no : true ≡ false = sym asleep ∙ h.0.awake in absurd (cc)
sleeps-by path key seed (Ended outcome) a h asleep lives = let no : true ≡ false = sym (slot-ended outcome.ending a h.0) ∙ lives in absurd (cc)

-- no slot from the first on is of a descriptor
pub all-awake : (slots : List ChildSlot) (P : ℕ → Type 0) (r : Option ℕ) → is_some r ≡ false
    → MatchOption r ((k : ℕ) → 1 ≤ k → IsNotAsleep (slot_at k slots)) P → AreAwake slots
all-awake slots P None none h k = subst (λ i. IsNotAsleep (slice_get slots i)) (omega arith) (h (suc k) (omega arith))
all-awake slots P (Some index) none h k = let no : true ≡ false = none in absurd (cc)

-- where nothing is left for the children, none of them is a descriptor
never-awake : (path : Path) (key : Key) (seed : Descriptor) (slot : ChildSlot) (a : Tree Member) → SlotShows path key seed slot a → IsNotAsleep (Some slot)
    → is_asleep_at (machine a).machine.place ≡ true → has_ended forest a ≡ false → ⊥
unfolding boxed spots paged_machines machines
never-awake path key seed Asleep a h awake asleep lives = awake
never-awake path key seed (Awake name) a h awake asleep lives = let no : true ≡ false = sym asleep ∙ h.0.awake in cc
never-awake path key seed (Ended outcome) a h awake asleep lives = let no : true ≡ false = sym (slot-ended outcome.ending a h.0) ∙ lives in cc

pub none-left : (depot : Shelves) (path : Path) (c : Cell) (t a : Tree Member) (ticket index : ℕ) (b : Brood) → Holds depot path c t
    → child_of ticket index t ≡ Some a → is_asleep_at (machine a).machine.place ≡ true → has_ended forest a ≡ false → get nat_cmp c.broods ticket ≡ Some b
    → b.image ≡ None → ⊥
none-left depot path c t a ticket index b h found asleep lives some none =
    let trees : Trees Member = brood_of ticket (broods_of t) in
    let shown = subst (λ y. BornShows depot path ticket y b.slots.items trees) none (one-held depot path c t h ticket b some).born in
    let at = slot-at path ticket index shown.0 shown.1 b.slots.items trees a shown.3 found in
    never-awake (child_path path ticket (1 + (index - 1))) shown.0 (numbered (1 + (index - 1)) shown.1) at.1.slot a at.1.shows
    (subst IsNotAsleep at.1.slot_at (shown.2 (index - 1))) asleep lives

pub record IsSleepersSeed (depot : Shelves) (index : ℕ) (image : ForkImage) (a : Tree Member) : Type 0 where
  pub first : 1 ≤ index
  pub key : IsKeyOf depot image.key
  pub sleeps : Sleeps image.key (numbered index image.seed) a

pub sleepers-seed : (depot : Shelves) (path : Path) (c : Cell) (t a : Tree Member) (ticket index : ℕ) (b : Brood) (image : ForkImage) → Holds depot path c t
    → child_of ticket index t ≡ Some a → is_asleep_at (machine a).machine.place ≡ true → has_ended forest a ≡ false → get nat_cmp c.broods ticket ≡ Some b
    → b.image ≡ Some image → IsSleepersSeed depot index image a
sleepers-seed depot path c t a ticket index b image h found asleep lives some is =
    let at = child-slot depot path c t a ticket index b image h found some is in
    let first : 1 ≤ index = at.first in
    let same : 1 + (index - 1) ≡ index = omega arith in
    record {
      first = at.first;
      key = at.key;
      sleeps = subst (λ n. Sleeps image.key (numbered n image.seed) a) same
          (sleeps-by (child_path path ticket (1 + (index - 1))) image.key (numbered (1 + (index - 1)) image.seed) at.has.slot a at.has.shows asleep lives);
    }

-- the machine that the seed wakes to, by its number
pub wakes-to : (depot : Shelves) (index siblings : ℕ) (image : ForkImage) (a : Tree Member) (seed : Descriptor) (r : Result KeyedMachine AllocError)
    → IsSleepersSeed depot index image a → siblings_of (machine a) ≡ siblings → seed ≡ numbered index image.seed
    → IfOk r (λ v. v ≡ woken seed siblings image.key)
    → IfOk r (λ v. (paged v ≡ paged_of (machine a)) × IsOfDepot depot v.key)
unfolding woken
wakes-to depot index siblings image a seed (Ok v) h as_many is wakes = (
  ap paged wakes ∙ ap₂ (λ d n. paged (woken d n image.key)) is (sym as_many)
      ∙ sym (ap (λ (u : Tree Member). paged_of (machine u)) h.sleeps.born),
  subst (λ (w : KeyedMachine). IsOfDepot depot w.key) (sym wakes) (λ key is_key. subst (IsKeyOf depot) (some-same image.key key is_key) h.key),
)
wakes-to depot index siblings image a seed (Err e) h as_many is wakes = tt

-- there are as many slots as children
shown-size : (path : Path) (ticket : ℕ) (key : Key) (k : ℕ) (seed : Descriptor) (slots : List ChildSlot) (trees : Trees Member)
    → SlotsShow path ticket key k seed slots trees → length slots ≡ size trees
unfolding SlotsShow size
shown-size path ticket key k seed [] no_tree h = refl
shown-size path ticket key k seed [] (tree t rest) h = absurd h
shown-size path ticket key k seed (slot ∷ slots) no_tree h = absurd h
shown-size path ticket key k seed (slot ∷ slots) (tree t rest) h =
    let later : length slots ≡ size rest = shown-size path ticket key (suc k) seed slots rest h.1 in
    omega (arith, later)

size-by : (depot : Shelves) (path : Path) (ticket : ℕ) (born : Option ForkImage) (slots : List ChildSlot) (trees : Trees Member)
    → BornShows depot path ticket born slots trees → length slots ≡ size trees
size-by depot path ticket None slots trees h = shown-size path ticket h.0 1 h.1 slots trees h.3
size-by depot path ticket (Some image) slots trees h = shown-size path ticket image.key 1 image.seed slots trees h.1

pub brood-size : (depot : Shelves) (path : Path) (c : Cell) (t : Tree Member) (ticket : ℕ) (b : Brood) → Holds depot path c t
    → get nat_cmp c.broods ticket ≡ Some b → vec_len b.slots ≡ size (brood_of ticket (broods_of t))
brood-size depot path c t ticket b h some =
    b.slots.ok.0 ∙ size-by depot path ticket b.image b.slots.items (brood_of ticket (broods_of t)) (one-held depot path c t h ticket b some).born
