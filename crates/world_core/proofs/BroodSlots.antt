-- What the slots of a brood tell of the children that they show.
use Rattle.sibling_forest.specs.Talk.{born_by, boxed, queue}
use Rattle.std.proofs.Common.{◌≡◌, ℕ, zero, suc, ◌+◌, ◌<◌, ◌≤◌, Bool, true, false, cond, List, [], ◌∷◌, ◌++◌, replicate, Option, Some, None, is_some, refl, sym, ap, ◌∙◌, subst, arith}
use Rattle.std.proofs.lemmas.Bool.{and_parts}
use Rattle.fork_port.specs.declared.ending.Ending.{Ending}
use Rattle.forest_tree.specs.Operations.{Makes, clone}
use Rattle.forest_tree.specs.Tree.{Tree, Trees, no_tree, tree, child_at, machine, Path}
use Rattle.forest_tree.specs.Step.{alone, has_ended, have_ended, with_ending, endings, children_from, children}
use Rattle.forest_tree.proofs.Places.{some-same}
use Rattle.forest_tree.proofs.Sound.{size-children_from}
use Rattle.talking_history.specs.Places.{spots, asleep, parked, spot_talks}
use Rattle.forest_tree.specs.Children.{living}
use Rattle.forest_model.specs.Machine.{Machine}
use Rattle.forest_model.specs.Calls.{forked, child}
use Rattle.forest_model.specs.Forest.{machines}
use Rattle.forest_model.proofs.Calls.{child-as-parent}
use Rattle.forest_model.specs.Paged.{Paged, paged_machines, paged_talks}
use Rattle.forest_model.proofs.Paged.{paged-talk}
use Rattle.sibling_words.specs.Words.{words_of}
use Rattle.sibling_words.specs.Notes.{room_of}
use Rattle.image_depot.specs.Key.{Shelves, Key, IsKeyOf, image_of}
use Rattle.vm_descriptor.specs.declared.descriptor.Descriptor.{Descriptor}
use Rattle.vm_descriptor.specs.Descriptor.{numbered}
use Rattle.vm_cell.specs.Keyed.{KeyedMachine, paged}
use Rattle.vm_cell.specs.Woken.{AreSeeds, IsSeed, woken, woken_machine, woken_pages}
use Rattle.vm_cell.specs.declared.vm.fork.ForkImage.{ForkImage}
use Rattle.run_report.specs.Lines.{Line, lines, trees_lines}
use Rattle.machine_names.specs.Name.{child_path}
use Rattle.world_core.specs.declared.cell.Brood.{Brood}
use Rattle.world_core.specs.declared.cell.ChildSlot.{ChildSlot}
use Rattle.world_core.specs.declared.cell.ChildSlot.TheVariants.{Asleep, Awake, Ended}
use Rattle.world_core.specs.Broods.{endings_in, listed_ending, slot_endings, lines_in, slot_lines}
use Rattle.world_core.specs.PreparedFork.{IsSilent}
use Rattle.world_core.specs.Shows.{Member, paged_of, siblings_of, sleeper, forest, told_member, HasEndedAs, AreTold, SlotShows, SlotsShow, BornShows, BroodShows}

-- ---- children that have all ended

ended_slot : (path : Path) (key : Key) (seed : Descriptor) (slot : ChildSlot) (t : Tree Member) → SlotShows path key seed slot t → has_ended forest t ≡ true
    → (rest : List Ending) → endings_in slot ++ rest ≡ with_ending forest (forest.ending (machine t)) rest
unfolding boxed spots paged_machines machines
ended_slot path key seed Asleep t h ended rest = let lives = h.lives in absurd (cc)
ended_slot path key seed (Awake name) t h ended rest = let lives = h.0.lives in absurd (cc)
ended_slot path key seed (Ended outcome) t h ended rest = by outcome.ending h.0
  where
    by : (e : Option Ending) → HasEndedAs e (told_member.ending (machine t)) → listed_ending e ++ rest ≡ with_ending forest (forest.ending (machine t)) rest
    by None h = absurd h
    by (Some ending) h = ap (λ (e : Option Ending). with_ending forest e rest) (sym h)

slot_lines_are : (path : Path) (key : Key) (seed : Descriptor) (slot : ChildSlot) (t : Tree Member) → SlotShows path key seed slot t → has_ended forest t ≡ true
    → lines_in slot ≡ lines told_member path t
slot_lines_are path key seed Asleep t h ended = let lives = h.lives in absurd (cc)
slot_lines_are path key seed (Awake name) t h ended = let lives = h.0.lives in absurd (cc)
slot_lines_are path key seed (Ended outcome) t h ended = h.1

module _ (path : Path) (ticket : ℕ) (key : Key) where
  shown_endings : (k : ℕ) (seed : Descriptor) (slots : List ChildSlot) (trees : Trees Member) → SlotsShow path ticket key k seed slots trees
      → have_ended forest trees ≡ true → slot_endings slots ≡ endings forest trees
  unfolding SlotsShow have_ended endings
  shown_endings k seed [] no_tree h all = refl
  shown_endings k seed [] (tree t rest) h all = absurd h
  shown_endings k seed (slot ∷ slots) no_tree h all = absurd h
  shown_endings k seed (slot ∷ slots) (tree t rest) h all =
      let both = and_parts (has_ended forest t) (have_ended forest rest) all in
      ap (λ (es : List Ending). endings_in slot ++ es) (shown_endings (suc k) seed slots rest h.1 both.1)
      ∙ ended_slot (child_path path ticket k) key (numbered k seed) slot t h.0 both.0 (endings forest rest)

  shown_lines : (k : ℕ) (seed : Descriptor) (slots : List ChildSlot) (trees : Trees Member) → SlotsShow path ticket key k seed slots trees
      → have_ended forest trees ≡ true → slot_lines slots ≡ trees_lines told_member path ticket k trees
  unfolding SlotsShow have_ended lines
  shown_lines k seed [] no_tree h all = refl
  shown_lines k seed [] (tree t rest) h all = absurd h
  shown_lines k seed (slot ∷ slots) no_tree h all = absurd h
  shown_lines k seed (slot ∷ slots) (tree t rest) h all =
      let both = and_parts (has_ended forest t) (have_ended forest rest) all in
      ap (λ (ls : List Line). lines_in slot ++ ls) (shown_lines (suc k) seed slots rest h.1 both.1)
      ∙ ap (λ (ls : List Line). ls ++ trees_lines told_member path ticket (suc k) rest) (slot_lines_are (child_path path ticket k) key (numbered k seed) slot t h.0 both.0)

-- the same of a brood
module _ (depot : Shelves) (path : Path) (ticket : ℕ) where
  born_endings : (image : Option ForkImage) (slots : List ChildSlot) (trees : Trees Member) → BornShows depot path ticket image slots trees
      → have_ended forest trees ≡ true → slot_endings slots ≡ endings forest trees
  born_endings None slots trees h all = shown_endings path ticket h.0 1 h.1 slots trees h.3 all
  born_endings (Some image) slots trees h all = shown_endings path ticket image.key 1 image.seed slots trees h.1 all

  born_lines : (image : Option ForkImage) (slots : List ChildSlot) (trees : Trees Member) → BornShows depot path ticket image slots trees
      → have_ended forest trees ≡ true → slot_lines slots ≡ trees_lines told_member path ticket 1 trees
  born_lines None slots trees h all = shown_lines path ticket h.0 1 h.1 slots trees h.3 all
  born_lines (Some image) slots trees h all = shown_lines path ticket image.key 1 image.seed slots trees h.1 all

  pub brood_endings : (b : Brood) (trees : Trees Member) → BroodShows depot path ticket b trees → have_ended forest trees ≡ true
      → slot_endings b.slots.items ≡ endings forest trees
  brood_endings b trees h all = born_endings b.image b.slots.items trees h.born all

  pub brood_lines : (b : Brood) (trees : Trees Member) → BroodShows depot path ticket b trees → have_ended forest trees ≡ true
      → slot_lines b.slots.items ≡ trees_lines told_member path ticket 1 trees
  brood_lines b trees h all = born_lines b.image b.slots.items trees h.born all

-- ---- children that are born

woken-paged : (d : Descriptor) (siblings : ℕ) (key : Key)
    → paged (woken d siblings key) ≡ record { machine = woken_machine d siblings (image_of key); pages = woken_pages d (image_of key) }
unfolding woken
woken-paged d siblings key = refl

child_ending : (m : Machine) (k : ℕ) → (child m k).ending ≡ (forked m).ending
child_ending m k = ap (λ (n : Machine). n.ending) (child-as-parent m k)

child_lives : (s : Member) → forest.ending (forest.forked s) ≡ None → (k : ℕ) → has_ended forest (alone forest (forest.child s k)) ≡ false
unfolding boxed spots paged_machines machines
child_lives s lives k = ap is_some (child_ending s.machine.machine.machine k ∙ lives)

living_children : (s : Member) → forest.ending (forest.forked s) ≡ None → (n k : ℕ) → living forest (children_from forest s k n) ≡ n
unfolding living children_from
living_children s lives zero k = refl
living_children s lives (suc n) k =
    let rest : living forest (children_from forest s (suc k) n) ≡ n = living_children s lives n (suc k) in
    let more : 1 + living forest (children_from forest s (suc k) n) ≡ suc n = omega arith in
    ap (λ (ended : Bool). cond ended 0 1 + living forest (children_from forest s (suc k) n)) (child_lives s lives k) ∙ more

-- each knows how many they are
counted : (s : Member) (ticket : ℕ) → Makes forest s (Some (clone ticket)) → (j : ℕ) → 1 ≤ j → j ≤ (forest.grant s ticket).children
    → siblings_of (forest.child s j) ≡ (forest.grant s ticket).children
unfolding boxed spots spot_talks
counted s ticket m j first last =
    paged-talk.child_siblings (paged_of s) ticket j (record { good = m.good; lives = m.lives; call = m.call }) first last

module _ (path : Path) (ticket : ℕ) (v : KeyedMachine) (key : Key) (seed : Descriptor) (s : Member) (many : ℕ) (is : paged_of s ≡ paged v)
    (lives : forest.ending (forest.forked s) ≡ None) where
  -- so many children, from child k on
  born_shows : (n k : ℕ) → ((j : ℕ) → k ≤ j → j < n + k → IsSeed v j many key (numbered j seed))
      → ((j : ℕ) → k ≤ j → j < n + k → siblings_of (forest.child s j) ≡ many)
      → SlotsShow path ticket key k seed (replicate n Asleep) (children_from forest s k n)
  unfolding SlotsShow children_from boxed spots paged_machines machines
  born_shows zero k h counts = tt
  born_shows (suc n) k h counts =
      let first : IsSeed v k many key (numbered k seed) = h k (omega arith) (omega arith) in
      let wakes : paged_machines.child (paged_of s) k
      ≡ record { machine = woken_machine (numbered k seed) many (image_of key); pages = woken_pages (numbered k seed) (image_of key) } =
      ap (λ p. paged_machines.child p k) is ∙ ap paged (sym first.wakes) ∙ woken-paged (numbered k seed) many key in (
        record {
          of_image = first.of_image;
          born =
              ap (λ (p : Paged). alone forest (record { machine = record { machine = p; place = asleep }; inbox = (forest.child s k).inbox })) wakes
              ∙ ap (λ (count : ℕ). alone forest (sleeper count key (numbered k seed) (forest.child s k).inbox)) (sym (counts k (omega arith) (omega arith)));
          lives = child_lives s lives k;
        },
        born_shows n (suc k) (λ j from below. h j (omega arith) (omega arith)) (λ j from below. counts j (omega arith) (omega arith)),
      )

-- no word waits for one that is born, and it waits for none
no-words : (n j : ℕ) → queue j (replicate n []) ≡ []
unfolding queue
no-words zero j = refl
no-words (suc n) zero = refl
no-words (suc n) (suc zero) = refl
no-words (suc n) (suc (suc j)) = no-words n (suc j)

born-wordless : (s : Member) (i j : ℕ) → queue j (forest.child s i).inbox ≡ []
unfolding boxed
born-wordless s i j = no-words (born_by (spots paged_machines) (spot_talks paged_talks) ((spots paged_machines).call s.machine) s.machine) j

born-asleep : (s : Member) (i : ℕ) → (forest.child s i).machine.place ≡ asleep
unfolding boxed spots
born-asleep s i = refl

newborn : (s : Member) (n k j : ℕ) (t : Tree Member) → child_at j (children_from forest s k n) ≡ Some t → (i : ℕ) × (t ≡ alone forest (forest.child s i))
unfolding child_at children_from
newborn s zero k j t e = absurd (cc)
newborn s (suc n) k zero t e = absurd (cc)
newborn s (suc n) k (suc zero) t e = (k, sym (some-same (alone forest (forest.child s k)) t e))
newborn s (suc n) k (suc (suc j)) t e = newborn s n (suc k) (suc j) t e

born-told : (s : Member) (ticket : ℕ) (b : Brood) → ((to from : ℕ) → words_of b.words to from ≡ []) → IsSilent (forest.grant s ticket).children b.notes
    → AreTold b.words b.notes (children forest s ticket)
born-told s ticket b wordless silent =
    let n = (forest.grant s ticket).children in
    record {
      words = λ k t found j.
          let born = newborn s n 1 k t found in
          ap (λ (u : Tree Member). queue j (machine u).inbox) born.1 ∙ born-wordless s born.0 j ∙ sym (wordless k j);
      notes = λ k t found what is_parked speaks.
          let born = newborn s n 1 k t found in
          let no : asleep ≡ parked = sym (born-asleep s born.0) ∙ sym (ap (λ (u : Tree Member). (machine u).machine.place) born.1) ∙ is_parked in
          absurd (cc);
      room = subst (λ m. m < room_of b.notes) (sym (size-children_from forest s n 1)) silent.room;
    }

pub brood_born : (depot : Shelves) (path : Path) (ticket : ℕ) (v : KeyedMachine) (s : Member) (b : Brood) (image : ForkImage) → paged_of s ≡ paged v
    → Makes forest s (Some (clone ticket)) → forest.ending (forest.forked s) ≡ None
    → b.image ≡ Some image → b.slots.items ≡ replicate (forest.grant s ticket).children Asleep → b.live ≡ (forest.grant s ticket).children
    → ((to from : ℕ) → words_of b.words to from ≡ []) → IsSilent (forest.grant s ticket).children b.notes
    → IsKeyOf depot image.key → AreSeeds v image.key (forest.grant s ticket).children image.seed
    → BroodShows depot path ticket b (children forest s ticket)
brood_born depot path ticket v s b image same makes lives is slots live wordless silent key seeds =
    let n = (forest.grant s ticket).children in
    record {
      live = live ∙ sym (living_children s lives n 1);
      born =
          subst (λ (o : Option ForkImage). BornShows depot path ticket o b.slots.items (children forest s ticket)) (sym is)
          (subst (λ (items : List ChildSlot). BornShows depot path ticket (Some image) items (children forest s ticket)) (sym slots) (
            key,
            born_shows path ticket v image.key image.seed s n same lives n 1 (λ j from below. seeds j from (omega arith))
                (λ j from below. counted s ticket makes j from (omega arith)),
          ));
      heard = born-told s ticket b wordless silent;
    }
