-- What a change of one machine leaves of what a world shows.
use Rattle.sibling_forest.specs.Talk.{boxed}
use Rattle.std.proofs.Common.{◌≡◌, ℕ, zero, suc, ◌<◌, ◌&&◌, eqb, eqb-true, Bool, true, false, cond, refl, sym, ap, ◌∙◌, subst, arith, List, [], ◌∷◌, ◌++◌}
use Rattle.std.proofs.Common.{Option, Some, None, is_some, option_and_then, option_map}
use Rattle.std.specs.BTreeMap.{get}
use Rattle.std.specs.Ordering.{nat_cmp}
use Rattle.std.proofs.lemmas.List.{append-nil}
use Rattle.image_depot.specs.Key.{Shelves}
use Rattle.fork_port.specs.declared.ending.Ending.{Ending}
use Rattle.forest_tree.specs.Operations.{is_cloned}
use Rattle.forest_tree.specs.Tree.{Tree, node, Trees, no_tree, tree, Broods, no_brood, Log, size, machine, broods_of, at_child, child_at, brood_of, at_brood, Branch, Path, subtree, beyond, goes_on}
use Rattle.forest_tree.specs.Tree.{at_path, at_beyond}
use Rattle.forest_tree.specs.Step.{alone, has_ended}
use Rattle.forest_tree.proofs.Places.{some-same, brood_of-at, at_child-none, child_at-same, child_at-other, subtree-parts}
use Rattle.std.proofs.lemmas.Bool.{eqb-false}
use Rattle.std.specs.Option.{IfSome}
use Rattle.sibling_words.specs.declared.words.SiblingWords.{SiblingWords}
use Rattle.sibling_words.specs.declared.notes.SiblingNotes.{SiblingNotes}
use Rattle.sibling_words.specs.Notes.{room_of}
use Rattle.talking_history.specs.Places.{parked, spots}
use Rattle.talking_history.specs.World.{is_asleep_at}
use Rattle.forest_tree.specs.Children.{life, living}
use Rattle.forest_tree.proofs.Changes.{at_path-within, at_path-here, at_path-elsewhere, at_path-machine}
use Rattle.forest_tree.proofs.Lives.{one-child, no-child}
use Rattle.forest_model.specs.Forest.{machines}
use Rattle.forest_model.specs.Paged.{paged_machines}
use Rattle.image_depot.specs.Key.{Shelves, Key}
use Rattle.vm_descriptor.specs.declared.descriptor.Descriptor.{Descriptor}
use Rattle.vm_descriptor.specs.Descriptor.{numbered}
use Rattle.vm_cell.specs.declared.vm.fork.ForkImage.{ForkImage}
use Rattle.run_report.specs.Lines.{lines}
use Rattle.machine_names.specs.Name.{child_path}
use Rattle.machine_names.proofs.Below.{beyond-is}
use Rattle.world_core.specs.declared.cell.Brood.{Brood}
use Rattle.world_core.specs.declared.cell.Cell.{Cell}
use Rattle.world_core.specs.declared.cell.ChildSlot.{ChildSlot}
use Rattle.world_core.specs.declared.cell.ChildSlot.TheVariants.{Asleep, Awake, Ended}
use Rattle.world_core.specs.Shows.{Member, forest, told_member, HasEndedAs, IsAwake, sleeper, siblings_of, next_talk}
use Rattle.world_core.specs.Shows.{AreHeard, AreTold, IsNoted, SlotShows, SlotsShow, BornShows, BroodAt, Holds, CellShows, IsNoCell, Shows}

-- ---- names, by where they lie

-- a name goes on from another by one fork
abbrev pub is_one : Option Path → Bool
is_one None = false
is_one (Some []) = false
is_one (Some (x ∷ [])) = true
is_one (Some (x ∷ (y ∷ rest))) = false

-- no name goes on from one below it
pub beyond-parent : (way : Path) (x : Branch) (rest : Path) → beyond (way ++ (x ∷ rest)) way ≡ None
unfolding beyond
beyond-parent [] x rest = refl
beyond-parent (a ∷ way) x rest =
    ap (λ left. cond (eqb a.ticket a.ticket && eqb a.child a.child) left None) (beyond-parent way x rest) ∙ none-both (eqb a.ticket a.ticket && eqb a.child a.child)
  where
    none-both : (same : Bool) → ◌≡◌ {A = Option Path} (cond same None None) None
    none-both true = refl
    none-both false = refl

-- where a name lies, of that of a change
pub data Lies (name n : Path) : Type 0 where
  here : n ≡ name → Lies name n
  below : (x : Branch) (rest : Path) → n ≡ name ++ (x ∷ rest) → Lies name n
  parent : (x : Branch) → beyond name n ≡ None → beyond n name ≡ Some (x ∷ []) → Lies name n
  above : (x y : Branch) (rest : Path) → beyond name n ≡ None → beyond n name ≡ Some (x ∷ (y ∷ rest)) → Lies name n
  apart : beyond name n ≡ None → beyond n name ≡ None → Lies name n

lies-outside : (name n : Path) → beyond name n ≡ None → (way : Option Path) → beyond n name ≡ way → Lies name n
lies-outside name n none None e = apart none e
lies-outside name n none (Some []) e = here (sym (beyond-is n name [] e ∙ append-nil n))
lies-outside name n none (Some (x ∷ [])) e = parent x none e
lies-outside name n none (Some (x ∷ (y ∷ rest))) e = above x y rest none e

lies-by : (name n : Path) (way : Option Path) → beyond name n ≡ way → Lies name n
lies-by name n None e = lies-outside name n e (beyond n name) refl
lies-by name n (Some []) e = here (beyond-is name n [] e ∙ append-nil name)
lies-by name n (Some (x ∷ rest)) e = below x rest (beyond-is name n (x ∷ rest) e)

pub lies : (name n : Path) → Lies name n
lies name n = lies-by name n (beyond name n) refl

-- ---- what a cell shows, where a tree below is changed

-- the child is changed, and its slot still shows it
pub record KeepsLife (g : Tree Member → Tree Member) (a : Tree Member) : Type 0 where
  pub slot : (path : Path) (key : Key) (seed : Descriptor) (slot : ChildSlot) → SlotShows path key seed slot a → SlotShows path key seed slot (g a)
  pub ended : has_ended forest (g a) ≡ has_ended forest a

-- and the words to it are the same
pub record KeepsSlot (g : Tree Member → Tree Member) (a : Tree Member) : Type 0 where
  pub life : KeepsLife g a
  pub inbox : (machine (g a)).inbox ≡ (machine a).inbox

-- a change that is deeper
pub keeps-deep : (f : Tree Member → Tree Member) (y : Branch) (rest : Path) (a : Tree Member) → KeepsSlot (at_path f (y ∷ rest)) a
unfolding at_path at_brood lines
keeps-deep f y rest (node s broods log) = record { life = record { slot = by; ended = refl }; inbox = refl }
  where
    sleeps : (key : Key) (seed : Descriptor) → node s broods log ≡ alone forest (sleeper (siblings_of s) key seed s.inbox)
        → at_path f (y ∷ rest) (node s broods log) ≡ alone forest (sleeper (siblings_of s) key seed s.inbox)
    sleeps key seed e = ap (at_path f (y ∷ rest)) e

    none : broods ≡ no_brood → at_brood (at_child (at_path f rest) y.child) y.ticket broods ≡ no_brood
    none e = ap (at_brood (at_child (at_path f rest) y.child) y.ticket) e

    by : (path : Path) (key : Key) (seed : Descriptor) (slot : ChildSlot) → SlotShows path key seed slot (node s broods log)
        → SlotShows path key seed slot (at_path f (y ∷ rest) (node s broods log))
    by path key seed Asleep h = record { of_image = h.of_image; born = sleeps key seed h.born; lives = h.lives }
    by path key seed (Awake name) h = (record { lives = h.0.lives; awake = h.0.awake }, h.1)
    by path key seed (Ended outcome) h = (
      h.0,
      h.1 ∙ ap (λ left. lines told_member path (node s left log)) (h.2 ∙ sym (none h.2)),
      none h.2,
    )

-- a change of a child that is awake before and after
pub keeps-awake : (f : Tree Member → Tree Member) (a : Tree Member) → IsAwake a → IsAwake (f a) → (machine (f a)).inbox ≡ (machine a).inbox → KeepsSlot f a
unfolding boxed spots paged_machines machines
keeps-awake f a before after inbox = record { life = record { slot = by; ended = after.lives ∙ sym before.lives }; inbox = inbox }
  where
    never : (ending : Option Ending) → HasEndedAs ending (told_member.ending (machine a)) → ⊥
    never None h = h
    never (Some ending) h = let no : true ≡ false = sym (ap is_some h) ∙ before.lives in absurd (cc)

    by : (path : Path) (key : Key) (seed : Descriptor) (slot : ChildSlot) → SlotShows path key seed slot a → SlotShows path key seed slot (f a)
    by path key seed Asleep h =
        let no : true ≡ false = sym (ap (λ (t : Tree Member). is_asleep_at (machine t).machine.place) h.born) ∙ before.awake in absurd (cc)
    by path key seed (Awake name) h = (after, h.1)
    by path key seed (Ended outcome) h = absurd (never outcome.ending h.0)

pub size-at_child : (g : Tree Member → Tree Member) (k : ℕ) (trees : Trees Member) → size (at_child g k trees) ≡ size trees
unfolding size at_child
size-at_child g k no_tree = refl
size-at_child g zero (tree t rest) = refl
size-at_child g (suc zero) (tree t rest) = refl
size-at_child g (suc (suc k)) (tree t rest) = ap suc (size-at_child g (suc k) rest)

-- slots and broods
module _ (g : Tree Member → Tree Member) where
  abbrev KeepsAt : ℕ → Trees Member → Type 0
  KeepsAt k trees = (a : Tree Member) → child_at k trees ≡ Some a → KeepsSlot g a

  abbrev LivesAt : ℕ → Trees Member → Type 0
  LivesAt k trees = (a : Tree Member) → child_at k trees ≡ Some a → KeepsLife g a

  -- and what is noted of it
  abbrev NotesAt : ℕ → Trees Member → SiblingNotes → Type 0
  NotesAt k trees notes = (a : Tree Member) → child_at k trees ≡ Some a → IsNoted notes k a → IsNoted notes k (g a)

  slots-kept : (path : Path) (ticket : ℕ) (key : Key) (j k : ℕ) (seed : Descriptor) (slots : List ChildSlot) (trees : Trees Member)
      → LivesAt k trees → SlotsShow path ticket key j seed slots trees → SlotsShow path ticket key j seed slots (at_child g k trees)
  unfolding SlotsShow at_child child_at
  slots-kept path ticket key j k seed [] no_tree keeps h = tt
  slots-kept path ticket key j k seed [] (tree t rest) keeps h = absurd h
  slots-kept path ticket key j k seed (slot ∷ slots) no_tree keeps h = absurd h
  slots-kept path ticket key j zero seed (slot ∷ slots) (tree t rest) keeps h = h
  slots-kept path ticket key j (suc zero) seed (slot ∷ slots) (tree t rest) keeps h =
      ((keeps t refl).slot (child_path path ticket j) key (numbered j seed) slot h.0, h.1)
  slots-kept path ticket key j (suc (suc k)) seed (slot ∷ slots) (tree t rest) keeps h =
      (h.0, slots-kept path ticket key (suc j) (suc k) seed slots rest keeps h.1)

  pub living-by : (k : ℕ) (trees : Trees Member) (c : Option (Tree Member)) → child_at k trees ≡ c → LivesAt k trees
      → living forest (at_child g k trees) ≡ living forest trees
  living-by k trees None e keeps = ap (living forest) (no-child forest g k trees e)
  living-by k trees (Some a) e keeps =
      let same : life forest (g a) ≡ life forest a = ap (λ (ended : Bool). cond ended 0 1) (keeps a e).ended in
      let counts = one-child forest g k trees a e in
      omega (arith, same, counts)

  pub born-kept : (depot : Shelves) (path : Path) (ticket k : ℕ) (image : Option ForkImage) (slots : List ChildSlot) (trees : Trees Member) → LivesAt k trees
      → BornShows depot path ticket image slots trees → BornShows depot path ticket image slots (at_child g k trees)
  born-kept depot path ticket k None slots trees keeps h =
      (h.0, h.1, h.2, slots-kept path ticket h.0 1 k h.1 slots trees keeps h.3)
  born-kept depot path ticket k (Some image) slots trees keeps h =
      (h.0, slots-kept path ticket image.key 1 k image.seed slots trees keeps h.1)

  -- the children once one is changed
  changed-child : (P : ℕ → Tree Member → Type 0) (k : ℕ) (trees : Trees Member) → ((a : Tree Member) → child_at k trees ≡ Some a → P k a → P k (g a))
      → ((j : ℕ) (t : Tree Member) → child_at j trees ≡ Some t → P j t)
      → (j : ℕ) (t : Tree Member) → child_at j (at_child g k trees) ≡ Some t → P j t
  changed-child P k trees keeps each j t found = by (eqb k j) refl
    where
      there : (c : Option (Tree Member)) → child_at j trees ≡ c → k ≡ j → option_map g c ≡ Some t → P j t
      there None e same moved = absurd (cc)
      there (Some a) e same moved =
          subst (P j) (some-same (g a) t moved)
          (subst (λ i. P i (g a)) same
          (keeps a (ap (λ i. child_at i trees) same ∙ e) (subst (λ i. P i a) (sym same) (each j a e))))

      by : (same : Bool) → eqb k j ≡ same → P j t
      by false e = each j t (sym (child_at-other g k j trees (eqb-false k j e)) ∙ found)
      by true e =
          let same : k ≡ j = eqb-true k j e in
          there (child_at j trees) refl same (sym (ap (λ i. child_at j (at_child g i trees)) same ∙ child_at-same g j trees) ∙ found)

  heard-kept : (k : ℕ) (words : SiblingWords) (notes : SiblingNotes) (trees : Trees Member) → KeepsAt k trees → NotesAt k trees notes
      → AreTold words notes trees → AreTold words notes (at_child g k trees)
  heard-kept k words notes trees keeps noted h = record {
    words = changed-child (λ j t. AreHeard words j (machine t).inbox) k trees
        (λ a found was. subst (AreHeard words k) (sym (keeps a found).inbox) was) h.words;
    notes = changed-child (λ j t. IsNoted notes j t) k trees noted h.notes;
    room = subst (λ n. n < room_of notes) (sym (size-at_child g k trees)) h.room;
  }

  brood-kept : (depot : Shelves) (path : Path) (ticket k : ℕ) (b : Option Brood) (is : Bool) (trees : Trees Member) → KeepsAt k trees
      → IfSome b (λ (c : Brood). NotesAt k trees c.notes)
      → BroodAt depot path ticket b is trees → BroodAt depot path ticket b is (at_child g k trees)
  unfolding at_child
  brood-kept depot path ticket k None false trees keeps noted h = ap (at_child g k) h
  brood-kept depot path ticket k None true trees keeps noted h = absurd h
  brood-kept depot path ticket k (Some b) false trees keeps noted h = absurd h
  brood-kept depot path ticket k (Some b) true trees keeps noted h = record {
    live = h.live ∙ sym (living-by k trees (child_at k trees) refl (λ a found. (keeps a found).life));
    born = born-kept depot path ticket k b.image b.slots.items trees (λ a found. (keeps a found).life) h.born;
    heard = heard-kept k b.words b.notes trees keeps noted h.heard;
  }

  brood-by : (depot : Shelves) (path : Path) (x : Branch) (ticket : ℕ) (b : Option Brood) (is : Bool) (broods : Broods Member) (same : Bool)
      → eqb x.ticket ticket ≡ same → KeepsAt x.child (brood_of x.ticket broods)
      → (x.ticket ≡ ticket → IfSome b (λ (c : Brood). NotesAt x.child (brood_of x.ticket broods) c.notes)) → BroodAt depot path ticket b is (brood_of ticket broods)
      → BroodAt depot path ticket b is (cond same (at_child g x.child (brood_of ticket broods)) (brood_of ticket broods))
  brood-by depot path x ticket b is broods false e keeps noted h = h
  brood-by depot path x ticket b is broods true e keeps noted h =
      let at : x.ticket ≡ ticket = eqb-true x.ticket ticket e in
      brood-kept depot path ticket x.child b is (brood_of ticket broods)
      (subst (λ u. KeepsAt x.child (brood_of u broods)) at keeps)
      (subst (λ u. IfSome b (λ (c : Brood). NotesAt x.child (brood_of u broods) c.notes)) at (noted at)) h

  pub holds-kept : (depot : Shelves) (path : Path) (c : Cell) (x : Branch) (s : Member) (broods : Broods Member) (log : Log Member)
      → KeepsAt x.child (brood_of x.ticket broods)
      → IfSome (get nat_cmp c.broods x.ticket) (λ (b : Brood). NotesAt x.child (brood_of x.ticket broods) b.notes) → Holds depot path c (node s broods log)
      → Holds depot path c (node s (at_brood (at_child g x.child) x.ticket broods) log)
  holds-kept depot path c x s broods log keeps noted h = record {
    tallies = record { log = h.tallies.log; room = h.tallies.room; broods = h.tallies.broods };
    broods = λ t.
        subst (BroodAt depot path t (get nat_cmp c.broods t) (is_cloned forest s t))
        (sym (brood_of-at (at_child g x.child) (at_child-none g x.child) x.ticket t broods))
        (brood-by depot path x t (get nat_cmp c.broods t) (is_cloned forest s t) broods (eqb x.ticket t) refl keeps
        (λ at. subst (λ u. IfSome (get nat_cmp c.broods u) (λ (b : Brood). NotesAt x.child (brood_of x.ticket broods) b.notes)) at noted) (h.broods t));
  }

-- the tree of the child at a fork
abbrev pub child_by : Branch → Tree Member → Option (Tree Member)
child_by x t = child_at x.child (brood_of x.ticket (broods_of t))

pub one-below : (x : Branch) (t : Tree Member) → subtree (x ∷ []) t ≡ child_by x t
unfolding subtree
one-below x t = by (child_by x t)
  where
    by : (c : Option (Tree Member)) → option_and_then (subtree []) c ≡ c
    by None = refl
    by (Some a) = refl

-- the tree of a child's name is the child
pub child-there : (name n : Path) (t a u : Tree Member) (x : Branch) → beyond n name ≡ Some (x ∷ []) → subtree name t ≡ Some a
    → subtree n t ≡ Some u → child_by x u ≡ Some a
child-there name n t a u x e there at =
    sym (one-below x u)
    ∙ ap (option_and_then (subtree (x ∷ []))) (sym at)
    ∙ sym (subtree-parts n (x ∷ []) t)
    ∙ ap (λ m. subtree m t) (sym (beyond-is n name (x ∷ []) e))
    ∙ there

-- what is noted of a child where its machine is not parked after a change, or is the same
pub notes-away : (g : Tree Member → Tree Member) (a : Tree Member) → ((machine (g a)).machine.place ≡ parked → ⊥) → (notes : SiblingNotes) (k : ℕ)
    → IsNoted notes k (g a)
notes-away g a away notes k = λ what is_parked speaks. absurd (away is_parked)

pub notes-same : (g : Tree Member → Tree Member) (a : Tree Member) → machine (g a) ≡ machine a → (notes : SiblingNotes) (k : ℕ) → IsNoted notes k a
    → IsNoted notes k (g a)
notes-same g a same notes k was = λ what is_parked speaks.
    was what (ap (λ (m : Member). m.machine.place) (sym same) ∙ is_parked) (ap next_talk (sym same) ∙ speaks)

module _ (f : Tree Member → Tree Member) where
  -- what the parent's cell notes of a child that is changed
  abbrev pub NotesIn : Branch → Path → Tree Member → Option Cell → Type 0
  NotesIn x rest t c = IfSome c (λ (cell : Cell). IfSome (get nat_cmp cell.broods x.ticket)
      (λ (b : Brood). (a : Tree Member) → child_by x t ≡ Some a → IsNoted b.notes x.child a → IsNoted b.notes x.child (at_path f rest a)))

  pub cell-kept : (depot : Shelves) (path : Path) (resting : Bool) (c : Cell) (x : Branch) (rest : Path) (t : Tree Member)
      → ((a : Tree Member) → child_by x t ≡ Some a → KeepsSlot (at_path f rest) a) → NotesIn x rest t (Some c)
      → CellShows depot path resting c t → CellShows depot path resting c (at_path f (x ∷ rest) t)
  unfolding at_path
  cell-kept depot path resting c x rest (node s broods log) keeps noted h = record {
    awake = record { lives = h.awake.lives; awake = h.awake.awake };
    kin = h.kin;
    state = h.state;
    of_depot = h.of_depot;
    holds = holds-kept (at_path f rest) depot path c x s broods log keeps noted h.holds;
  }

  pub no_cell-kept : (x : Branch) (rest : Path) (t : Tree Member) → IsNoCell t → IsNoCell (at_path f (x ∷ rest) t)
  unfolding at_path
  no_cell-kept x rest (node s broods log) h = h

  shows-kept : (depot : Shelves) (path : Path) (resting : Bool) (c : Option Cell) (x : Branch) (rest : Path) (u : Option (Tree Member))
      → ((t a : Tree Member) → u ≡ Some t → child_by x t ≡ Some a → KeepsSlot (at_path f rest) a)
      → ((t : Tree Member) → u ≡ Some t → NotesIn x rest t c)
      → Shows depot path resting c u → Shows depot path resting c (option_map (at_path f (x ∷ rest)) u)
  shows-kept depot path resting None x rest None keeps noted h = tt
  shows-kept depot path resting None x rest (Some t) keeps noted h = no_cell-kept x rest t h
  shows-kept depot path resting (Some c) x rest None keeps noted h = absurd h
  shows-kept depot path resting (Some c) x rest (Some t) keeps noted h = cell-kept depot path resting c x rest t (λ a. keeps t a refl) (noted t refl) h

  pub none-beyond : (u : Option (Tree Member)) → option_map (at_beyond f None) u ≡ u
  none-beyond None = refl
  none-beyond (Some t) = refl

  -- the tree at a name that is not below the change
  pub outside : (name n : Path) (t : Tree Member) (way : Option Path) → beyond name n ≡ None → beyond n name ≡ way
      → subtree n (at_path f name t) ≡ option_map (at_beyond f way) (subtree n t)
  outside name n t way none e =
      at_path-elsewhere f name n t (ap goes_on none) ∙ ap (λ w. option_map (at_beyond f w) (subtree n t)) e

  pub outside-apart : (name n : Path) (t : Tree Member) → beyond name n ≡ None → beyond n name ≡ None → subtree n (at_path f name t) ≡ subtree n t
  outside-apart name n t none e = outside name n t None none e ∙ none-beyond (subtree n t)

  -- what is noted of what lies deeper
  deep-notes : (x y : Branch) (rest : Path) (t : Tree Member) (c : Option Cell) → NotesIn x (y ∷ rest) t c
  deep-notes x y rest t None = tt
  deep-notes x y rest t (Some cell) = by (get nat_cmp cell.broods x.ticket)
    where
      by : (b : Option Brood) → IfSome b (λ (brood : Brood). (a : Tree Member) → child_by x t ≡ Some a → IsNoted brood.notes x.child a
          → IsNoted brood.notes x.child (at_path f (y ∷ rest) a))
      by None = tt
      by (Some b) = λ a found was. notes-same (at_path f (y ∷ rest)) a (at_path-machine f y rest a) b.notes x.child was

  -- the way to a tree that is awake before and after
  pub parent-awake : (depot : Shelves) (name n : Path) (resting : Bool) (t a : Tree Member) (x : Branch) (c : Option Cell) → beyond name n ≡ None
      → beyond n name ≡ Some (x ∷ []) → subtree name t ≡ Some a → IsAwake a → IsAwake (f a) → (machine (f a)).inbox ≡ (machine a).inbox
      → IfSome c (λ (cell : Cell). IfSome (get nat_cmp cell.broods x.ticket) (λ (b : Brood). IsNoted b.notes x.child a → IsNoted b.notes x.child (f a)))
      → Shows depot n resting c (subtree n t) → Shows depot n resting c (subtree n (at_path f name t))
  unfolding at_path
  parent-awake depot name n resting t a x c none e there before after inbox noted h =
      subst (Shows depot n resting c) (sym (outside name n t (Some (x ∷ [])) none e))
      (shows-kept depot n resting c x [] (subtree n t)
      (λ u v at child. subst (KeepsSlot (at_path f [])) (same u v at child) (keeps-awake (at_path f []) a before after inbox))
      (λ u at. notes-there c u at noted)
      h)
    where
      same : (u v : Tree Member) → subtree n t ≡ Some u → child_by x u ≡ Some v → a ≡ v
      same u v at child = some-same a v (sym (child-there name n t a u x e there at) ∙ child)

      notes-there : (c : Option Cell) (u : Tree Member) → subtree n t ≡ Some u
          → IfSome c (λ (cell : Cell). IfSome (get nat_cmp cell.broods x.ticket) (λ (b : Brood). IsNoted b.notes x.child a → IsNoted b.notes x.child (f a)))
          → NotesIn x [] u c
      notes-there None u at noted = tt
      notes-there (Some cell) u at noted = by (get nat_cmp cell.broods x.ticket) noted
        where
          by : (b : Option Brood) → IfSome b (λ (brood : Brood). IsNoted brood.notes x.child a → IsNoted brood.notes x.child (f a))
              → IfSome b (λ (brood : Brood). (v : Tree Member) → child_by x u ≡ Some v → IsNoted brood.notes x.child v → IsNoted brood.notes x.child (at_path f [] v))
          by None noted = tt
          by (Some b) noted = λ v child was.
              subst (λ w. IsNoted b.notes x.child (f w)) (same u v at child) (noted (subst (IsNoted b.notes x.child) (sym (same u v at child)) was))

  -- what each name shows after a change, where those at it and below it show what it makes, and its parent is seen to
  pub shows-changed : (depot : Shelves) (rests : Path → Bool) (name : Path) (t a : Tree Member) (cells : Path → Option Cell) → subtree name t ≡ Some a
      → Shows depot name (rests name) (cells name) (Some (f a))
      → ((x : Branch) (rest : Path) → Shows depot (name ++ (x ∷ rest)) (rests (name ++ (x ∷ rest))) (cells (name ++ (x ∷ rest))) (subtree (x ∷ rest) (f a)))
      → ((n : Path) → beyond name n ≡ None → is_one (beyond n name) ≡ false → Shows depot n (rests n) (cells n) (subtree n t))
      → ((n : Path) (x : Branch) → beyond name n ≡ None → beyond n name ≡ Some (x ∷ []) → Shows depot n (rests n) (cells n) (subtree n (at_path f name t)))
      → (n : Path) → Shows depot n (rests n) (cells n) (subtree n (at_path f name t))
  shows-changed depot rests name t a cells there at_it below_it outer above_it n = by (lies name n)
    where
      by : Lies name n → Shows depot n (rests n) (cells n) (subtree n (at_path f name t))
      by (here e) =
          subst (λ m. Shows depot m (rests m) (cells m) (subtree m (at_path f name t))) (sym e)
          (subst (Shows depot name (rests name) (cells name)) (sym (at_path-here f name t ∙ ap (option_map f) there)) at_it)
      by (below x rest e) =
          subst (λ m. Shows depot m (rests m) (cells m) (subtree m (at_path f name t))) (sym e)
          (subst (Shows depot (name ++ (x ∷ rest)) (rests (name ++ (x ∷ rest))) (cells (name ++ (x ∷ rest))))
          (sym (at_path-within f name (x ∷ rest) t ∙ ap (option_and_then (λ b. subtree (x ∷ rest) (f b))) there)) (below_it x rest))
      by (parent x none e) = above_it n x none e
      by (above x y rest none e) =
          subst (Shows depot n (rests n) (cells n)) (sym (outside name n t (Some (x ∷ (y ∷ rest))) none e))
          (shows-kept depot n (rests n) (cells n) x (y ∷ rest) (subtree n t) (λ u v is child. keeps-deep f y rest v) (λ u is. deep-notes x y rest u (cells n))
          (outer n none (ap is_one e)))
      by (apart none e) =
          subst (Shows depot n (rests n) (cells n)) (sym (outside-apart name n t none e)) (outer n none (ap is_one e))
