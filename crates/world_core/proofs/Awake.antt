-- Machines that live and are awake have cells.
use Rattle.sibling_forest.specs.Talk.{boxed}
use Rattle.std.proofs.Common.{◌≡◌, ◌⊎◌, ℕ, zero, suc, ◌+◌, Bool, true, false, refl, sym, ap, ◌∙◌, subst, inl, inr, List, [], ◌∷◌, ◌++◌, append_assoc, arith}
use Rattle.std.proofs.Common.{Option, Some, None, is_some, option_and_then}
use Rattle.std.specs.BTreeMap.{BTreeMap, get}
use Rattle.std.specs.Ordering.{nat_cmp}
use Rattle.fork_port.specs.declared.ending.Ending.{Ending}
use Rattle.forest_tree.specs.Tree.{Tree, node, Trees, no_tree, no_brood, machine, broods_of, brood_of, child_at, Branch, Path, subtree}
use Rattle.forest_tree.specs.Step.{has_ended}
use Rattle.forest_tree.specs.Sound.{IsSound}
use Rattle.forest_tree.proofs.Places.{some-same, subtree-parts, subtree-sound}
use Rattle.forest_tree.proofs.Sound.{root-sound}
use Rattle.talking_history.specs.Places.{spots}
use Rattle.forest_model.specs.Forest.{machines}
use Rattle.forest_model.specs.Paged.{paged_machines}
use Rattle.image_depot.specs.Key.{Shelves, Key}
use Rattle.machine_names.specs.Name.{child_path}
use Rattle.machine_names.specs.NameOrder.{path_cmp}
use Rattle.vm_descriptor.specs.declared.descriptor.Descriptor.{Descriptor}
use Rattle.vm_descriptor.specs.Descriptor.{numbered}
use Rattle.vm_cell.specs.declared.vm.fork.ForkImage.{ForkImage}
use Rattle.world_core.specs.declared.cell.Brood.{Brood}
use Rattle.world_core.specs.declared.cell.Cell.{Cell}
use Rattle.world_core.specs.declared.cell.ChildSlot.{ChildSlot}
use Rattle.world_core.specs.declared.cell.ChildSlot.TheVariants.{Asleep, Awake, Ended}
use Rattle.world_core.specs.Shows.{Member, forest, told_member, HasEndedAs, IsAwake, SlotShows, SlotsShow, BornShows, Holds, CellShows, IsNoCell, Shows, child_of}
use Rattle.world_core.proofs.Slots.{slot-of, not-first}
use Rattle.world_core.proofs.SlotWaits.{none-held, one-held}
use Rattle.world_core.proofs.Changes.{child_by, one-below}

pub child-below : (parent : Path) (ticket k : ℕ) (t : Tree Member) (p : Option (Tree Member)) → subtree parent t ≡ p
    → subtree (child_path parent ticket k) t ≡ option_and_then (λ u. child_of ticket k u) p
child-below parent ticket k t p there =
    let b : Branch = record { ticket = ticket; child = k } in
    subtree-parts parent (b ∷ []) t ∙ ap (option_and_then (subtree (b ∷ []))) there ∙ by b p
  where
    by : (b : Branch) (p : Option (Tree Member)) → option_and_then (subtree (b ∷ [])) p ≡ option_and_then (λ u. child_by b u) p
    by b None = refl
    by b (Some u) = one-below b u

-- an ended machine, as its slot tells
pub slot-ended : (ending : Option Ending) (a : Tree Member) → HasEndedAs ending (told_member.ending (machine a)) → has_ended forest a ≡ true
unfolding boxed spots paged_machines machines
slot-ended None a h = absurd h
slot-ended (Some ending) a h = ap is_some h

pub never-both : (a : Tree Member) → IsAwake a → IsNoCell a → ⊥
never-both a awake (inl ended) = let no : true ≡ false = sym ended.0 ∙ awake.lives in cc
never-both a awake (inr there) = let no : true ≡ false = sym there ∙ awake.awake in cc

-- a machine that lives awake has a cell
pub awake-cell : (depot : Shelves) (path : Path) (resting : Bool) (c : Option Cell) (a : Tree Member) → IsAwake a → Shows depot path resting c (Some a)
    → (cell : Cell) × (c ≡ Some cell) × CellShows depot path resting cell a
awake-cell depot path resting None a awake h = absurd (never-both a awake h)
awake-cell depot path resting (Some cell) a awake h = (cell, refl, h)

-- a machine has a slot in its parent's brood
pub record IsSlotted (path : Path) (a : Tree Member) : Type 0 where
  pub key : Key
  pub seed : Descriptor
  pub slot : ChildSlot
  pub shows : SlotShows path key seed slot a

pub ended-broods : (a : Tree Member) → IsSound forest a → has_ended forest a ≡ true → broods_of a ≡ no_brood
ended-broods (node s broods log) sound ended = (root-sound forest s broods log sound).ended ended

slotted-kind : (path : Path) (key : Key) (seed : Descriptor) (slot : ChildSlot) (a : Tree Member) → SlotShows path key seed slot a → IsSound forest a
    → IsAwake a ⊎ (broods_of a ≡ no_brood)
slotted-kind path key seed Asleep a h sound = inr (ap broods_of h.born)
slotted-kind path key seed (Awake name) a h sound = inl h.0
slotted-kind path key seed (Ended outcome) a h sound = inr (ended-broods a sound (slot-ended outcome.ending a h.0))

-- the child of a machine that has a cell
slotted-shown : (path : Path) (ticket k : ℕ) (key : Key) (seed : Descriptor) (slots : List ChildSlot) (trees : Trees Member) (a : Tree Member)
    → SlotsShow path ticket key 1 seed slots trees → child_at k trees ≡ Some a → IsSlotted (child_path path ticket k) a
slotted-shown path ticket zero key seed slots trees a h found = absurd (not-first trees a found)
slotted-shown path ticket (suc j) key seed slots trees a h found =
    let has = slot-of path ticket key 1 seed slots trees j a h found in
    let same : 1 + j ≡ suc j = omega arith in
    record {
      key = key;
      seed = numbered (suc j) seed;
      slot = has.slot;
      shows = subst (λ n. SlotShows (child_path path ticket n) key (numbered n seed) has.slot a) same has.shows;
    }

slotted-born : (depot : Shelves) (path : Path) (ticket k : ℕ) (image : Option ForkImage) (slots : List ChildSlot) (trees : Trees Member) (a : Tree Member)
    → BornShows depot path ticket image slots trees → child_at k trees ≡ Some a → IsSlotted (child_path path ticket k) a
slotted-born depot path ticket k None slots trees a h found = slotted-shown path ticket k h.0 h.1 slots trees a h.3 found
slotted-born depot path ticket k (Some image) slots trees a h found = slotted-shown path ticket k image.key image.seed slots trees a h.1 found

none-there : (k : ℕ) (trees : Trees Member) (a : Tree Member) → trees ≡ no_tree → child_at k trees ≡ Some a → ⊥
unfolding child_at
none-there k trees a none found = let no : None ≡ Some a = sym (ap (child_at k) none) ∙ found in cc

pub slotted : (depot : Shelves) (path : Path) (c : Cell) (ticket k : ℕ) (t a : Tree Member) → Holds depot path c t → child_of ticket k t ≡ Some a
    → IsSlotted (child_path path ticket k) a
slotted depot path c ticket k t a h found = by (get nat_cmp c.broods ticket) refl
  where
    by : (b : Option Brood) → get nat_cmp c.broods ticket ≡ b → IsSlotted (child_path path ticket k) a
    by None e = absurd (none-there k (brood_of ticket (broods_of t)) a (none-held depot path c t h ticket e) found)
    by (Some b) e =
        slotted-born depot path ticket k b.image b.slots.items (brood_of ticket (broods_of t)) a (one-held depot path c t h ticket b e).born found

none-below : (path : Path) (a p : Tree Member) → broods_of a ≡ no_brood → subtree path a ≡ Some p → broods_of p ≡ no_brood
unfolding subtree brood_of child_at
none-below [] a p none there = ap broods_of (sym (some-same a p there)) ∙ none
none-below (b ∷ path) a p none there =
    let no : None ≡ Some p = sym (ap (λ broods. option_and_then (subtree path) (child_at b.child (brood_of b.ticket broods))) none) ∙ there in
    absurd (cc)

-- a tree of which each machine above a name is shown
module _ (depot : Shelves) (cells : BTreeMap Path Cell) (t : Tree Member) (sound : IsSound forest t) (name : Path)
    (rests : Path → Bool)
    (shows : (way : Path) (b : Branch) (rest : Path) → name ≡ way ++ (b ∷ rest) → Shows depot way (rests way) (get path_cmp cells way) (subtree way t)) where
  awake-below : (path way : Path) (u p : Tree Member) → name ≡ way ++ path → subtree way t ≡ Some u → IsAwake u → subtree path u ≡ Some p
      → IsAwake p ⊎ (broods_of p ≡ no_brood)
  unfolding subtree
  awake-below [] way u p is at awake there = inl (subst IsAwake (some-same u p there) awake)
  awake-below (b ∷ path) way u p is at awake there =
      by (child_by b u) refl there (λ a found lives rest. awake-below path (way ++ b ∷ []) a p (is ∙ sym (append_assoc way (b ∷ []) path)) found lives rest)
    where
      by : (c : Option (Tree Member)) → child_by b u ≡ c → option_and_then (subtree path) c ≡ Some p
          → ((a : Tree Member) → subtree (way ++ b ∷ []) t ≡ Some a → IsAwake a → subtree path a ≡ Some p → IsAwake p ⊎ (broods_of p ≡ no_brood))
          → IsAwake p ⊎ (broods_of p ≡ no_brood)
      by None e rest down = absurd (cc)
      by (Some a) e rest down =
          let cell = awake-cell depot way (rests way) (get path_cmp cells way) u awake
          (subst (Shows depot way (rests way) (get path_cmp cells way)) at (shows way b path is)) in
          let found : subtree (way ++ b ∷ []) t ≡ Some a = child-below way b.ticket b.child t (Some u) at ∙ e in
          let slot = slotted depot way cell.0 b.ticket b.child u a cell.2.holds e in
          elim (slotted-kind (child_path way b.ticket b.child) slot.key slot.seed slot.slot a slot.shows (subtree-sound forest (way ++ b ∷ []) t a sound found)) [
            | inl lives ↦ down a found lives rest
            | inr none ↦ inr (none-below path a p none rest)
          ]

  -- the machine of the name is awake, or has no children
  pub awake-there : (p : Tree Member) → IsAwake t → subtree name t ≡ Some p → IsAwake p ⊎ (broods_of p ≡ no_brood)
  unfolding subtree
  awake-there p root there = awake-below name [] t p refl refl root there
