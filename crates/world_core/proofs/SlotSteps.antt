-- A cell once a child of its machine has changed.
use Rattle.std.proofs.Common.{◌≡◌, ◌≢◌, ℕ, zero, suc, ◌+◌, ◌-◌, ◌<◌, ◌≤◌, Bool, true, false, cond, eqb, eqb-true, List, [], ◌∷◌, Option, Some, None, IsSome, option_map}
use Rattle.std.proofs.Common.{inl, inr, slice_set, vec_len, vec_capacity, refl, sym, ap, ◌∙◌, subst, arith}
use Rattle.std.proofs.lemmas.Bool.{eqb-false}
use Rattle.std.proofs.lemmas.Map.Lookups.{exact_unsigned}
use Rattle.std.specs.declared.cmp.Ordering.{Ordering}
use Rattle.std.specs.declared.cmp.Ordering.TheVariants.{Less, Equal, Greater}
use Rattle.std.specs.Ordering.{nat_cmp, is_eq}
use Rattle.std.specs.BTreeMap.{BTreeMap, get, btree_map_len, WritesThrough}
use Rattle.std.specs.Vec.{with_item}
use Rattle.forest_tree.specs.Operations.{is_cloned}
use Rattle.forest_tree.specs.Tree.{Tree, node, Trees, machine, brood_of, child_at, at_child, at_brood, Path}
use Rattle.forest_tree.proofs.Broods.{eqb-same}
use Rattle.forest_tree.proofs.Places.{some-same, brood_of-at, at_child-none, child_at-same, child_at-other}
use Rattle.forest_tree.specs.Children.{life, living}
use Rattle.forest_tree.proofs.Lives.{one-child}
use Rattle.image_depot.specs.Key.{Shelves, Key}
use Rattle.vm_descriptor.specs.declared.descriptor.Descriptor.{Descriptor}
use Rattle.vm_descriptor.specs.Descriptor.{numbered}
use Rattle.vm_cell.specs.declared.vm.fork.ForkImage.{ForkImage}
use Rattle.machine_names.specs.Name.{child_path}
use Rattle.world_core.specs.declared.cell.Brood.{Brood}
use Rattle.world_core.specs.declared.cell.Cell.{Cell}
use Rattle.world_core.specs.declared.cell.ChildSlot.{ChildSlot}
use Rattle.world_core.specs.Shows.{Member, forest, AreHeard, AreTold, IsNoted, SlotShows, SlotsShow, IsNotAsleep}
use Rattle.world_core.specs.Shows.{AreAwake, BornShows, IsLeft, BroodShows, BroodAt, TallyAt, Holds, child_of, with_child}
use Rattle.sibling_words.specs.declared.words.SiblingWords.{SiblingWords}
use Rattle.sibling_words.specs.Words.{words_of}
use Rattle.sibling_words.specs.Notes.{room_of}
use Rattle.world_core.proofs.Changes.{size-at_child}
use Rattle.world_core.proofs.Slots.{with-slot, not-first}

-- the brood of one ticket is another
pub record IsWritten (old new : BTreeMap ℕ Brood) (ticket : ℕ) (b : Brood) : Type 0 where
  pub here : get nat_cmp new ticket ≡ Some b
  pub others : (u : ℕ) → eqb ticket u ≡ false → get nat_cmp new u ≡ get nat_cmp old u
  pub length : btree_map_len new ≡ btree_map_len old

equal : (o : Ordering) → is_eq o ≡ true → o ≡ Equal
equal Less h = absurd (cc)
equal Equal h = refl
equal Greater h = absurd (cc)

apart : (t u : ℕ) (same : Bool) → is_eq (nat_cmp t u) ≡ same → eqb t u ≡ false → is_eq (nat_cmp t u) ≡ false
apart t u true e other = absurd (eqb-false t u other (exact_unsigned t u (equal (nat_cmp t u) e)))
apart t u false e other = e

pub same-ticket : (t u : ℕ) → is_eq (nat_cmp t u) ≡ true → t ≡ u
same-ticket t u e = exact_unsigned t u (equal (nat_cmp t u) e)

pub written : (old new : BTreeMap ℕ Brood) (ticket : ℕ) (b : Brood) → WritesThrough nat_cmp (nat_cmp ticket) old b new → IsSome (get nat_cmp old ticket)
    → IsWritten old new ticket b
written old new ticket b h some =
    let updates = h.3 some in record {
      here = updates.1;
      others = λ u other. updates.2 u (apart ticket u (is_eq (nat_cmp ticket u)) refl other);
      length = h.2;
    }

-- a brood with another slot, and so many that live, and what is left for its children then
abbrev pub brood_with : Brood → Option ForkImage → SiblingWords → ℕ → ChildSlot → ℕ → Brood
brood_with b image words index slot live = record {
  name = b.name;
  image = image;
  slots = with_item b.slots (index - 1) slot;
  live = live;
  words = words;
  notes = b.notes;
}

-- the words that wait then, where a child is another: the others have theirs, and this one those that it is to have
pub record IsHeard (old : Brood) (words : SiblingWords) (index : ℕ) (b : Tree Member) : Type 0 where
  pub others : (k : ℕ) → k ≢ index → (j : ℕ) → words_of words k j ≡ words_of old.words k j
  pub own : AreHeard words index (machine b).inbox
  pub noted : IsNoted old.notes index b

heard-with : (index : ℕ) (b : Tree Member) (old : Brood) (words : SiblingWords) (trees : Trees Member) → IsHeard old words index b
    → AreTold old.words old.notes trees → AreTold words old.notes (at_child (λ a. b) index trees)
heard-with index b old words trees heard h = record {
  words = λ k t found. child-with index b trees k t found
      (λ same is. subst (λ (u : Tree Member). AreHeard words k (machine u).inbox) is (subst (λ i. AreHeard words i (machine b).inbox) same heard.own))
      (λ other was j. h.words k t was j ∙ sym (heard.others k other j));
  notes = λ k t found. child-with index b trees k t found
      (λ same is. subst (IsNoted old.notes k) is (subst (λ i. IsNoted old.notes i b) same heard.noted))
      (λ other was. h.notes k t was);
  room = subst (λ n. n < room_of old.notes) (sym (size-at_child (λ a. b) index trees)) h.room;
}
  where
    -- a child is the one that is another, or was there
    child-with : (index : ℕ) (b : Tree Member) (trees : Trees Member) (k : ℕ) (t : Tree Member) → child_at k (at_child (λ a. b) index trees) ≡ Some t
        → {P : Type 0} → (index ≡ k → b ≡ t → P) → (k ≢ index → child_at k trees ≡ Some t → P) → P
    child-with index b trees k t found {P = P} one other = by (eqb index k) refl
      where
        there : (c : Option (Tree Member)) → index ≡ k → option_map (λ (a : Tree Member). b) c ≡ Some t → P
        there None same moved = absurd (cc)
        there (Some a) same moved = one same (some-same b t moved)

        by : (same : Bool) → eqb index k ≡ same → P
        by true e =
            let same : index ≡ k = eqb-true index k e in
            there (child_at k trees) same (sym (ap (λ i. child_at k (at_child (λ a. b) i trees)) same ∙ child_at-same (λ a. b) k trees) ∙ found)
        by false e = other (λ same. eqb-false index k e (sym same)) (sym (child_at-other (λ a. b) index k trees (eqb-false index k e)) ∙ found)

slots-with : (path : Path) (ticket index : ℕ) (key : Key) (a b : Tree Member) (slot : ChildSlot) (seed : Descriptor) (slots : List ChildSlot)
    (trees : Trees Member) → ((seed : Descriptor) → SlotShows (child_path path ticket index) key seed slot b)
    → SlotsShow path ticket key 1 seed slots trees → child_at index trees ≡ Some a
    → SlotsShow path ticket key 1 seed (slice_set slots (index - 1) slot) (at_child (λ a. b) index trees)
slots-with path ticket zero key a b slot seed slots trees shows h found = absurd (not-first trees a found)
slots-with path ticket (suc j) key a b slot seed slots trees shows h found =
    let same : j ≡ suc j - 1 = omega arith in let next : suc j ≡ 1 + j = omega arith in
    subst (λ i. SlotsShow path ticket key 1 seed (slice_set slots i slot) (at_child (λ a. b) (suc j) trees)) same
    (with-slot path ticket key 1 seed slots trees j b slot h (subst (λ i. SlotShows (child_path path ticket i) key (numbered i seed) slot b) next (shows (numbered (suc j) seed))))

-- slots that are awake, with another that is
AreAwake-with : (slots : List ChildSlot) (at : ℕ) (slot : ChildSlot) → IsNotAsleep (Some slot) → AreAwake slots → AreAwake (slice_set slots at slot)
AreAwake-with [] at slot awake h k = h k
AreAwake-with (first ∷ slots) zero slot awake h zero = awake
AreAwake-with (first ∷ slots) zero slot awake h (suc k) = h (suc k)
AreAwake-with (first ∷ slots) (suc at) slot awake h zero = h zero
AreAwake-with (first ∷ slots) (suc at) slot awake h (suc k) = AreAwake-with slots at slot awake (λ j. h (suc j)) k

-- where none is a descriptor any more, nothing need be left for them
born-gone : (depot : Shelves) (path : Path) (ticket : ℕ) (old : Option ForkImage) (slots : List ChildSlot) (trees : Trees Member) → AreAwake slots
    → BornShows depot path ticket old slots trees → BornShows depot path ticket None slots trees
born-gone depot path ticket None slots trees awake h = h
born-gone depot path ticket (Some image) slots trees awake h = (image.key, image.seed, awake, h.1)

born-left : (depot : Shelves) (path : Path) (ticket : ℕ) (old image : Option ForkImage) (slots : List ChildSlot) (trees : Trees Member)
    → IsLeft old slots image → BornShows depot path ticket old slots trees → BornShows depot path ticket image slots trees
born-left depot path ticket old image slots trees (inl same) h = subst (λ o. BornShows depot path ticket o slots trees) (sym same) h
born-left depot path ticket old image slots trees (inr gone) h =
    subst (λ o. BornShows depot path ticket o slots trees) (sym gone.0) (born-gone depot path ticket old slots trees gone.1 h)

module _ (depot : Shelves) (path : Path) (ticket index : ℕ) (a b : Tree Member) (slot : ChildSlot) (awake : IsNotAsleep (Some slot))
    (shows : (key : Key) (seed : Descriptor) → SlotShows (child_path path ticket index) key seed slot b) (words : SiblingWords) where
  born-with : (image : Option ForkImage) (slots : List ChildSlot) (trees : Trees Member) → BornShows depot path ticket image slots trees
      → child_at index trees ≡ Some a → BornShows depot path ticket image (slice_set slots (index - 1) slot) (at_child (λ a. b) index trees)
  born-with None slots trees h found = (
    h.0,
    h.1,
    AreAwake-with slots (index - 1) slot awake h.2,
    slots-with path ticket index h.0 a b slot h.1 slots trees (shows h.0) h.3 found,
  )
  born-with (Some image) slots trees h found =
      (h.0, slots-with path ticket index image.key a b slot image.seed slots trees (shows image.key) h.1 found)

  brood-with : (old : Brood) (image : Option ForkImage) (live : ℕ) (trees : Trees Member) → IsHeard old words index b → child_at index trees ≡ Some a
      → live + life forest a ≡ old.live + life forest b → IsLeft old.image (slice_set old.slots.items (index - 1) slot) image
      → BroodShows depot path ticket old trees → BroodShows depot path ticket (brood_with old image words index slot live) (at_child (λ a. b) index trees)
  brood-with old image live trees heard found lives left h = record {
    live = let one : living forest (at_child (λ a. b) index trees) + life forest a ≡ living forest trees + life forest b =
        one-child forest (λ a. b) index trees a found in
        omega (arith, h.live);
    born = born-left depot path ticket old.image image (slice_set old.slots.items (index - 1) slot) (at_child (λ a. b) index trees) left
        (born-with old.image old.slots.items trees h.born found);
    heard = heard-with index b old words trees heard h.heard;
  }

  brood-at-with : (old : Brood) (image : Option ForkImage) (live : ℕ) (cloned : Bool) (trees : Trees Member) → IsHeard old words index b → child_at index trees ≡ Some a
      → live + life forest a ≡ old.live + life forest b → IsLeft old.image (slice_set old.slots.items (index - 1) slot) image
      → BroodAt depot path ticket (Some old) cloned trees
      → BroodAt depot path ticket (Some (brood_with old image words index slot live)) cloned (at_child (λ a. b) index trees)
  brood-at-with old image live true trees heard found lives left h = brood-with old image live trees heard found lives left h
  brood-at-with old image live false trees heard found lives left h = absurd h

  tally-with : (old : Brood) (image : Option ForkImage) (live count : ℕ) (cloned : Bool) → TallyAt path count (Some old) cloned
      → TallyAt path count (Some (brood_with old image words index slot live)) cloned
  tally-with old image live count true h = record { name = h.name; size = h.size; few = h.few }
  tally-with old image live count false h = absurd h

  pub holds-with : (c : Cell) (broods : BTreeMap ℕ Brood) (old : Brood) (image : Option ForkImage) (live : ℕ) (t : Tree Member) → Holds depot path c t
      → child_of ticket index t ≡ Some a → get nat_cmp c.broods ticket ≡ Some old → IsWritten c.broods broods ticket (brood_with old image words index slot live)
      → IsHeard old words index b
      → live + life forest a ≡ old.live + life forest b → IsLeft old.image (slice_set old.slots.items (index - 1) slot) image
      → Holds depot path (record c { broods = broods }) (with_child ticket index b t)
  holds-with c broods old image live (node s trees log) h found some w heard lives is_left = record {
    tallies = record {
      log = h.tallies.log;
      room = subst (λ n. vec_len c.log + n ≤ vec_capacity c.log) (sym w.length) h.tallies.room;
      broods = λ u. tally u (eqb ticket u) refl;
    };
    broods = λ u. brood u (eqb ticket u) refl;
  }
    where
      tally : (u : ℕ) (same : Bool) → eqb ticket u ≡ same → TallyAt path ((forest.grant s u).children) (get nat_cmp broods u) (is_cloned forest s u)
      tally u true e =
          subst (λ u. TallyAt path ((forest.grant s u).children) (get nat_cmp broods u) (is_cloned forest s u)) (eqb-true ticket u e)
          (subst (λ g. TallyAt path ((forest.grant s ticket).children) g (is_cloned forest s ticket)) (sym w.here)
          (tally-with old image live ((forest.grant s ticket).children) (is_cloned forest s ticket)
          (subst (λ g. TallyAt path ((forest.grant s ticket).children) g (is_cloned forest s ticket)) some (h.tallies.broods ticket))))
      tally u false e =
          subst (λ g. TallyAt path ((forest.grant s u).children) g (is_cloned forest s u)) (sym (w.others u e)) (h.tallies.broods u)

      left : (u : ℕ) (same : Bool) → eqb ticket u ≡ same
          → brood_of u (at_brood (at_child (λ a. b) index) ticket trees) ≡ cond same (at_child (λ a. b) index (brood_of u trees)) (brood_of u trees)
      left u same e =
          brood_of-at (at_child (λ a. b) index) (at_child-none (λ a. b) index) ticket u trees
          ∙ ap (λ same. cond same (at_child (λ a. b) index (brood_of u trees)) (brood_of u trees)) e

      brood : (u : ℕ) (same : Bool) → eqb ticket u ≡ same
          → BroodAt depot path u (get nat_cmp broods u) (is_cloned forest s u) (brood_of u (at_brood (at_child (λ a. b) index) ticket trees))
      brood u true e =
          subst (λ u. BroodAt depot path u (get nat_cmp broods u) (is_cloned forest s u) (brood_of u (at_brood (at_child (λ a. b) index) ticket trees)))
          (eqb-true ticket u e)
          (subst (λ g. BroodAt depot path ticket g (is_cloned forest s ticket) (brood_of ticket (at_brood (at_child (λ a. b) index) ticket trees)))
          (sym w.here)
          (subst (BroodAt depot path ticket (Some (brood_with old image words index slot live)) (is_cloned forest s ticket)) (sym (left ticket true (eqb-same ticket)))
          (brood-at-with old image live (is_cloned forest s ticket) (brood_of ticket trees) heard found lives is_left
          (subst (λ g. BroodAt depot path ticket g (is_cloned forest s ticket) (brood_of ticket trees)) some (h.broods ticket)))))
      brood u false e =
          subst (λ g. BroodAt depot path u g (is_cloned forest s u) (brood_of u (at_brood (at_child (λ a. b) index) ticket trees))) (sym (w.others u e))
          (subst (BroodAt depot path u (get nat_cmp c.broods u) (is_cloned forest s u)) (sym (left u false e)) (h.broods u))
