-- The slots of a brood, child by child.
use Rattle.std.proofs.Common.{◌≡◌, ℕ, zero, suc, ◌+◌, List, [], ◌∷◌, Some, slice_get, slice_set, refl, subst, arith}
use Rattle.forest_tree.specs.Tree.{Tree, Trees, no_tree, tree, at_child, child_at, Path}
use Rattle.forest_tree.proofs.Places.{some-same}
use Rattle.image_depot.specs.Key.{Key}
use Rattle.vm_descriptor.specs.declared.descriptor.Descriptor.{Descriptor}
use Rattle.vm_descriptor.specs.Descriptor.{numbered}
use Rattle.machine_names.specs.Name.{child_path}
use Rattle.world_core.specs.declared.cell.ChildSlot.{ChildSlot}
use Rattle.world_core.specs.Shows.{Member, SlotShows, SlotsShow}

-- a child has a slot at its place, and is born of the seed by its number
pub record HasSlot (path : Path) (ticket : ℕ) (key : Key) (k j : ℕ) (seed : Descriptor) (slots : List ChildSlot) (a : Tree Member) : Type 0 where
  pub slot : ChildSlot
  pub slot_at : slice_get slots j ≡ Some slot
  pub shows : SlotShows (child_path path ticket (k + j)) key (numbered (k + j) seed) slot a

module _ (path : Path) (ticket : ℕ) (key : Key) where
  cast-shows : (seed : Descriptor) (slot : ChildSlot) (a : Tree Member) (n m : ℕ) → n ≡ m → SlotShows (child_path path ticket n) key (numbered n seed) slot a
      → SlotShows (child_path path ticket m) key (numbered m seed) slot a
  cast-shows seed slot a n m e h = subst (λ i. SlotShows (child_path path ticket i) key (numbered i seed) slot a) e h

  pub slot-of : (k : ℕ) (seed : Descriptor) (slots : List ChildSlot) (trees : Trees Member) (j : ℕ) (a : Tree Member)
      → SlotsShow path ticket key k seed slots trees → child_at (suc j) trees ≡ Some a → HasSlot path ticket key k j seed slots a
  unfolding SlotsShow child_at
  slot-of k seed slots no_tree j a h found = absurd (cc)
  slot-of k seed [] (tree t rest) j a h found = absurd h
  slot-of k seed (slot ∷ slots) (tree t rest) zero a h found = record {
    slot = slot;
    slot_at = refl;
    shows = cast-shows seed slot a k (k + 0) (omega arith) (subst (SlotShows (child_path path ticket k) key (numbered k seed) slot) (some-same t a found) h.0);
  }
  slot-of k seed (slot ∷ slots) (tree t rest) (suc j) a h found =
      let later = slot-of (suc k) seed slots rest j a h.1 found in
      record {
        slot = later.slot;
        slot_at = later.slot_at;
        shows = cast-shows seed later.slot a (suc k + j) (k + suc j) (omega arith) later.shows;
      }

  -- a child in another slot
  pub with-slot : (k : ℕ) (seed : Descriptor) (slots : List ChildSlot) (trees : Trees Member) (j : ℕ) (b : Tree Member) (slot : ChildSlot)
      → SlotsShow path ticket key k seed slots trees → SlotShows (child_path path ticket (k + j)) key (numbered (k + j) seed) slot b
      → SlotsShow path ticket key k seed (slice_set slots j slot) (at_child (λ a. b) (suc j) trees)
  unfolding SlotsShow at_child
  with-slot k seed [] no_tree j b slot h shows = tt
  with-slot k seed [] (tree t rest) j b slot h shows = absurd h
  with-slot k seed (old ∷ slots) no_tree j b slot h shows = absurd h
  with-slot k seed (old ∷ slots) (tree t rest) zero b slot h shows =
      (cast-shows seed slot b (k + 0) k (omega arith) shows, h.1)
  with-slot k seed (old ∷ slots) (tree t rest) (suc j) b slot h shows =
      (h.0, with-slot (suc k) seed slots rest j b slot h.1 (cast-shows seed slot b (k + suc j) (suc k + j) (omega arith) shows))

-- a child's number is one at least
pub not-first : (trees : Trees Member) (a : Tree Member) → child_at 0 trees ≡ Some a → ⊥
unfolding child_at
not-first no_tree a found = cc
not-first (tree t rest) a found = cc
