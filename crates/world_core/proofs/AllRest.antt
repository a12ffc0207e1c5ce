-- Whether all machines of a world rest.
use Rattle.std.proofs.Common.{◌≡◌, ◌⊎◌, inl, inr, ℕ, suc, ◌+◌, ◌-◌, ◌<◌, ◌≤◌, ◌&&◌, not, Bool, true, false, cond, ltb, lt-ltb}
use Rattle.std.proofs.Common.{refl, sym, ap, ◌∙◌, subst, arith, List, [], ◌∷◌, Option, Some, None, IsSome, is_some, length, slice_get}
use Rattle.std.proofs.lemmas.Bool.{cases_lt}
use Rattle.std.proofs.lemmas.Option.{slice_get_past}
use Rattle.std.specs.Option.{IfSome, IsSomeAnd}
use Rattle.std.specs.Prelude.{Err, IsErr, MatchBool, Ok, Result}
use Rattle.std.specs.declared.alloc.AllocError.{AllocError}
use Rattle.std.specs.Map.{lookup}
use Rattle.std.specs.Ordering.{nat_cmp}
use Rattle.std.specs.BTreeMap.{get}
use Rattle.image_depot.specs.Key.{Key, Shelves}
use Rattle.forest_tree.specs.Operations.{is_cloned}
use Rattle.forest_tree.specs.Tree.{Tree, Trees, no_tree, tree, machine, broods_of, brood_of, child_at, Path, subtree}
use Rattle.forest_tree.specs.Step.{has_ended}
use Rattle.forest_tree.proofs.Places.{subtree-sound}
use Rattle.talking_history.specs.Places.{parked}
use Rattle.talking_history.specs.World.{is_ready_at, holds, is_at_home, is_out, is_ready, lives_at_home, lives_ready}
use Rattle.forest_model.specs.Paged.{paged_machines, paged_talks}
use Rattle.machine_names.specs.Name.{child_path}
use Rattle.machine_names.specs.NameOrder.{path_cmp}
use Rattle.std.specs.declared.alloc.Global.{Global}
use Rattle.std.specs.declared.boxed.Box.{Box}
use Rattle.vm_descriptor.specs.declared.descriptor.Descriptor.{Descriptor}
use Rattle.vm_descriptor.specs.Descriptor.{numbered}
use Rattle.vm_cell.specs.Keyed.{KeyedMachine}
use Rattle.vm_cell.specs.declared.vm.fork.ForkImage.{ForkImage}
use Rattle.run_report.specs.Report.{Ended as Report}
use Rattle.ready_queue.specs.Ready.{Ready}
use Rattle.world_core.specs.declared.cell.Awaited.{Awaited}
use Rattle.world_core.specs.declared.cell.Brood.{Brood}
use Rattle.world_core.specs.declared.cell.Cell.{Cell}
use Rattle.world_core.specs.declared.cell.ChildSlot.{ChildSlot}
use Rattle.world_core.specs.declared.cell.ChildSlot.TheVariants.{Asleep, Awake, Ended}
use Rattle.world_core.specs.declared.cell.State.{State}
use Rattle.world_core.specs.declared.cell.State.TheVariants.{Home, Parked, Out}
use Rattle.world_core.specs.declared.world.World.{World}
use Rattle.world_core.specs.Outcome.{CellTells, CellsTell, GoesOn, GoesOnIn, HasAsleep, IsAtRest, IsOver, RestsIn, BroodTells, SlotTells, SlotsTell, StateTells, TellsFinished, TellsOutcome, is_parked}
use Rattle.world_core.specs.Popped.{ShowsCells, sleeps}
use Rattle.world_core.specs.Shows.{Member, forest, AreAwake, BornShows, BroodAt, CellShows, IsNotAsleep, Shows, SlotShows, SlotsShow, StateShows, is_asleep_slot, is_out_cell, is_out_state, slot_at}
use Rattle.world_core.specs.World.{Forest, ShowsLive, ShowsTree, StandsFor, rests_in}
use Rattle.world_core.proofs.Awake.{awake-cell, awake-there, child-below}
use Rattle.world_core.proofs.ByName.{before-named, no_cell-home, root-cell}
use Rattle.world_core.proofs.Depths.{last-fork}
use Rattle.world_core.proofs.Sleepers.{cell-shows, first-no_brood, none-sleeps, sleeps-slot}
use Rattle.world_core.proofs.SlotPlaces.{home-ready, home-where-ready}
use Rattle.world_core.proofs.TurnByTurn.{never-due, out-by, shows-live}

-- ---- what is looked over in a map

-- what is of each that was looked at, or it is among those left
abbrev pub IsSeen : {A : Type 0} → (A → Type 0) → Option A → Option A → Type 0
IsSeen P got left = IfSome got P ⊎ (left ≡ got)

pub seen-next : {K A : Type 0} (P : A → Type 0) (test : K → Bool) (key : K) (x : A) (rest : List (K × A)) (got : Option A) → P x
    → IsSeen P got (lookup test ((key, x) ∷ rest)) → IsSeen P got (lookup test rest)
seen-next P test key x rest got is (inl all) = inl all
seen-next P test key x rest got is (inr left) = by (test key) left
  where
    by : (same : Bool) → cond same (Some x) (lookup test rest) ≡ got → IsSeen P got (lookup test rest)
    by true at = inl (subst (λ o. IfSome o P) at is)
    by false at = inr at

pub seen-all : {A : Type 0} (P : A → Type 0) (got left : Option A) → left ≡ None → IsSeen P got left → IfSome got P
seen-all P got left none (inl all) = all
seen-all P got left none (inr is) = subst (λ o. IfSome o P) (sym none ∙ is) tt

-- ---- slots that were looked at

not-asleep : (slot : ChildSlot) → (slot ≡ Asleep → ⊥) → IsNotAsleep (Some slot)
not-asleep Asleep other = other refl
not-asleep (Awake name) other = tt
not-asleep (Ended outcome) other = tt

pub awake-next : (slots : List ChildSlot) (i : ℕ) (slot : ChildSlot) → slice_get slots i ≡ Some slot → (slot ≡ Asleep → ⊥)
    → ((k : ℕ) → k < i → IsNotAsleep (slice_get slots k)) → (k : ℕ) → k < i + 1 → IsNotAsleep (slice_get slots k)
awake-next slots i slot at other before k below = elim (cases_lt k i) [
  | inl early ↦ before k early
  | inr late ↦
      let same : i ≡ k = omega (arith, late, below) in
      subst (λ n. IsNotAsleep (slice_get slots n)) same (subst IsNotAsleep (sym at) (not-asleep slot other))
]

pub awake-all : (slots : List ChildSlot) (i : ℕ) → length slots ≤ i → ((k : ℕ) → k < i → IsNotAsleep (slice_get slots k)) → AreAwake slots
awake-all slots i past before k = elim (cases_lt k i) [
  | inl early ↦ before k early
  | inr late ↦ subst IsNotAsleep (sym (slice_get_past slots k (omega (arith, past, late)))) tt
]

-- ---- a cell whose machine rests, and one whose machine does not

parked-in : (path : Path) (resting : Bool) (state : State) (t : Tree Member) → is_parked state ≡ true → StateShows path state (machine t) resting
    → ((machine t).machine.place ≡ parked) × (resting ≡ true) × StateTells path state (machine t)
parked-in path resting (Home vm) t is h = absurd (cc)
parked-in path resting (Parked awaited vm turn) t is h = (h.1, h.2, (h.0, h.4))
parked-in path resting Out t is h = absurd (cc)

not-out : (state : State) → is_parked state ≡ true → is_out_state state ≡ false
not-out (Home vm) is = absurd (cc)
not-out (Parked awaited vm turn) is = refl
not-out Out is = absurd (cc)

-- one that is not parked
pub not-parked : (state : State) → ((awaited : Awaited) (vm : Box KeyedMachine Global) (turn : Ready) → state ≡ Parked awaited vm turn → ⊥) → is_parked state ≡ false
not-parked (Home vm) apart = refl
not-parked (Parked awaited vm turn) apart = absurd (apart awaited vm turn refl)
not-parked Out apart = refl

dead-end : (ended is : Bool) → is ≡ false → not ended && is ≡ false
dead-end true is e = refl
dead-end false is e = e

no-slot : (slots : List ChildSlot) (k : ℕ) → AreAwake slots → ltb 0 k && is_asleep_slot (slot_at k slots) ≡ false
no-slot slots k awake = last (ltb 0 k) (is_asleep_slot (slot_at k slots)) (by (slot_at k slots) (awake (k - 1)))
  where
    last : (a b : Bool) → b ≡ false → a && b ≡ false
    last true b e = e
    last false b e = refl

    by : (o : Option ChildSlot) → IsNotAsleep o → is_asleep_slot o ≡ false
    by None h = refl
    by (Some Asleep) h = absurd h
    by (Some (Awake name)) h = refl
    by (Some (Ended outcome)) h = refl

module _ (depot : Shelves) (w : World) (f : Forest) (h : StandsFor depot w f) (going : w.outcome ≡ None) where
  live : ShowsLive depot w f.tree
  live = shows-live depot w f h going

  cells : ShowsCells depot w.cells f.tree
  cells = before-named depot w f [] h going

  module _ (all : (name : Path) → IfSome (get path_cmp w.cells name) RestsIn) where
    rests-there : (name : Path) (c : Cell) → get path_cmp w.cells name ≡ Some c → RestsIn c
    rests-there name c found = subst (λ o. IfSome o RestsIn) found (all name)

    -- no child is a descriptor
    none-asleep : (parent : Path) (ticket k : ℕ) → sleeps parent ticket k f.tree ≡ false
    none-asleep parent ticket k = by (get path_cmp w.cells parent) refl
      where
        in_cell : (c : Cell) → get path_cmp w.cells parent ≡ Some c → (b : Option Brood) → get nat_cmp c.broods ticket ≡ b → sleeps parent ticket k f.tree ≡ false
        in_cell c found None none = first-no_brood depot w.cells f.tree cells parent ticket 0 c found none k (omega arith)
        in_cell c found (Some b) held =
            sym (sleeps-slot depot w.cells f.tree cells parent ticket k c b found held)
            ∙ no-slot b.slots.items k (subst (λ o. IfSome o (λ (x : Brood). AreAwake x.slots.items)) held ((rests-there parent c found).1 ticket))

        by : (c : Option Cell) → get path_cmp w.cells parent ≡ c → sleeps parent ticket k f.tree ≡ false
        by None none = none-sleeps depot w.cells f.tree cells parent ticket k none
        by (Some c) found = in_cell c found (get nat_cmp c.broods ticket) refl

    nobody : (name : Path) → get path_cmp w.cells name ≡ None → is_at_home paged_machines paged_talks name f.tree ≡ false
    nobody [] none = absurd (root-cell depot w f [] h going (sym none) refl)
    nobody (b ∷ rest) none =
        let last = last-fork (b ∷ rest) (omega arith) in
        no_cell-home depot w f (b ∷ rest) h going (sym none) last.parent last.ticket last.child last.is (none-asleep last.parent last.ticket last.child)

    ready-none : (name : Path) → is_ready paged_machines paged_talks name f.tree ≡ false
    ready-none name = by (get path_cmp w.cells name) refl
      where
        from_home : (u : Option (Tree Member)) (resting : Bool) → holds (lives_ready paged_machines paged_talks resting) u ≡ true
            → holds (lives_at_home paged_machines paged_talks) u ≡ true
        from_home None resting ready = absurd (cc)
        from_home (Some a) resting ready = home-where-ready (has_ended forest a) resting (machine a).machine.place ready

        by : (c : Option Cell) → get path_cmp w.cells name ≡ c → is_ready paged_machines paged_talks name f.tree ≡ false
        by None none =
            never-due (is_ready paged_machines paged_talks name f.tree)
            (λ ready. let yes = from_home (subtree name f.tree) (rests_in f.tree name) ready in let no : true ≡ false = sym yes ∙ nobody name none in cc)
        by (Some c) found =
            let shown = cell-shows depot name (rests_in f.tree name) (get path_cmp w.cells name) c (subtree name f.tree) found (live.each.cells name) in
            let is = parked-in name (rests_in f.tree name) c.state shown.0 (rests-there name c found).0 shown.2.state in
            ap (holds (lives_ready paged_machines paged_talks (rests_in f.tree name))) shown.1
            ∙ dead-end (has_ended forest shown.0) (is_ready_at (machine shown.0).machine.place (rests_in f.tree name))
            (ap (λ p. is_ready_at p (rests_in f.tree name)) is.0 ∙ ap not is.1)

    none-out : (name : Path) → is_out name f.tree ≡ false
    none-out name =
        out-by depot name (rests_in f.tree name) (get path_cmp w.cells name) (subtree name f.tree) (live.each.cells name) ∙ by (get path_cmp w.cells name) (all name)
      where
        by : (c : Option Cell) → IfSome c RestsIn → is_out_cell c ≡ false
        by None rests = refl
        by (Some c) rests = not-out c.state rests.0

    pub at-rest : IsAtRest f.tree
    at-rest = (live.root.lives, ready-none, none-out)

    -- ---- what the cells tell

    slot-tells : (path : Path) (ticket k : ℕ) (key : Key) (seed : Descriptor) (slot : ChildSlot) (a : Tree Member)
        → subtree (child_path path ticket k) f.tree ≡ Some a → IsNotAsleep (Some slot) → SlotShows (child_path path ticket k) key seed slot a
        → SlotTells w.cells (child_path path ticket k) slot a
    slot-tells path ticket k key seed Asleep a there awake shown = absurd awake
    slot-tells path ticket k key seed (Awake name) a there awake shown =
        let n = child_path path ticket k in
        ap is_some (awake-cell depot n (rests_in f.tree n) (get path_cmp w.cells n) a shown.0
        (subst (Shows depot n (rests_in f.tree n) (get path_cmp w.cells n)) there (live.each.cells n))).1
    slot-tells path ticket k key seed (Ended outcome) a there awake shown = shown.1

    slots-tell : (path : Path) (ticket : ℕ) (key : Key) (k : ℕ) (seed : Descriptor) (slots : List ChildSlot) (trees : Trees Member)
        → ((j : ℕ) (a : Tree Member) → child_at (suc j) trees ≡ Some a → subtree (child_path path ticket (k + j)) f.tree ≡ Some a)
        → AreAwake slots → SlotsShow path ticket key k seed slots trees → SlotsTell w.cells path ticket k slots trees
    unfolding SlotsShow SlotsTell child_at
    slots-tell path ticket key k seed [] no_tree there awake shown = tt
    slots-tell path ticket key k seed [] (tree t rest) there awake shown = absurd shown
    slots-tell path ticket key k seed (slot ∷ slots) no_tree there awake shown = absurd shown
    slots-tell path ticket key k seed (slot ∷ slots) (tree t rest) there awake shown = (
      slot-tells path ticket k key (numbered k seed) slot t (subst (λ n. subtree (child_path path ticket n) f.tree ≡ Some t) (omega arith) (there 0 t refl)) (awake 0) shown.0,
      slots-tell path ticket key (suc k) seed slots rest
          (λ j a found. subst (λ n. subtree (child_path path ticket n) f.tree ≡ Some a) (omega arith) (there (suc j) a found)) (λ j. awake (suc j)) shown.1,
    )

    born-tell : (path : Path) (ticket : ℕ) (image : Option ForkImage) (slots : List ChildSlot) (trees : Trees Member)
        → ((j : ℕ) (a : Tree Member) → child_at (suc j) trees ≡ Some a → subtree (child_path path ticket (1 + j)) f.tree ≡ Some a)
        → AreAwake slots → BornShows depot path ticket image slots trees → SlotsTell w.cells path ticket 1 slots trees
    born-tell path ticket None slots trees there awake born = slots-tell path ticket born.0 1 born.1 slots trees there awake born.3
    born-tell path ticket (Some image) slots trees there awake born = slots-tell path ticket image.key 1 image.seed slots trees there awake born.1

    brood-tells : (path : Path) (ticket : ℕ) (b : Option Brood) (cloned : Bool) (trees : Trees Member)
        → ((j : ℕ) (a : Tree Member) → child_at (suc j) trees ≡ Some a → subtree (child_path path ticket (1 + j)) f.tree ≡ Some a)
        → IfSome b (λ (x : Brood). AreAwake x.slots.items) → BroodAt depot path ticket b cloned trees → BroodTells w.cells path ticket b cloned trees
    brood-tells path ticket None false trees there awake at = at
    brood-tells path ticket None true trees there awake at = absurd at
    brood-tells path ticket (Some b) false trees there awake at = absurd at
    brood-tells path ticket (Some b) true trees there awake at = born-tell path ticket b.image b.slots.items trees there awake at.born

    cell-tells : (path : Path) (c : Cell) → get path_cmp w.cells path ≡ Some c → IsSomeAnd (subtree path f.tree) (CellTells w.cells path c)
    cell-tells path c found =
        let shown = cell-shows depot path (rests_in f.tree path) (get path_cmp w.cells path) c (subtree path f.tree) found (live.each.cells path) in
        let t : Tree Member = shown.0 in
        let rests = rests-there path c found in
        let tells : CellTells w.cells path c t = record {
          lives = shown.2.awake.lives;
          sound = subtree-sound forest path f.tree t h.whole.sound shown.1;
          state = (parked-in path (rests_in f.tree path) c.state t rests.0 shown.2.state).2;
          log = shown.2.holds.tallies.log;
          broods = λ ticket.
              brood-tells path ticket (get nat_cmp c.broods ticket) (is_cloned forest (machine t) ticket) (brood_of ticket (broods_of t))
              (λ j a at. child-below path ticket (1 + j) f.tree (Some t) shown.1 ∙ subst (λ n. child_at n (brood_of ticket (broods_of t)) ≡ Some a) (omega arith) at)
              (rests.1 ticket) (shown.2.holds.broods ticket);
        } in
        subst (λ o. IsSomeAnd o (CellTells w.cells path c)) (sym shown.1) tells

    parent-cell : (parent : Path) (ticket k : ℕ) → IsSome (get path_cmp w.cells (child_path parent ticket k)) → IsSome (get path_cmp w.cells parent)
    unfolding child_at brood_of
    parent-cell parent ticket k some = by (get path_cmp w.cells (child_path parent ticket k)) refl some
      where
        n : Path
        n = child_path parent ticket k

        above : (a : Tree Member) → subtree n f.tree ≡ Some a → (p : Option (Tree Member)) → subtree parent f.tree ≡ p → IsSome (get path_cmp w.cells parent)
        above a there None e = let no : None ≡ Some a = sym (child-below parent ticket k f.tree None e) ∙ there in absurd (cc)
        above a there (Some p) e = elim (awake-there depot w.cells f.tree h.whole.sound parent (rests_in f.tree) (λ way b rest is. live.each.cells way) p live.root e) [
          | inl awake ↦
              ap is_some (awake-cell depot parent (rests_in f.tree parent) (get path_cmp w.cells parent) p awake
              (subst (Shows depot parent (rests_in f.tree parent) (get path_cmp w.cells parent)) e (live.each.cells parent))).1
          | inr none ↦
              let no : None ≡ Some a = sym (ap (λ broods. child_at k (brood_of ticket broods)) none) ∙ sym (child-below parent ticket k f.tree (Some p) e) ∙ there in
              absurd (cc)
        ]

        by : (c : Option Cell) → get path_cmp w.cells n ≡ c → IsSome c → IsSome (get path_cmp w.cells parent)
        by None e is = absurd (cc)
        by (Some c) e is =
            let shown = cell-shows depot n (rests_in f.tree n) (get path_cmp w.cells n) c (subtree n f.tree) e (live.each.cells n) in
            above shown.0 shown.1 (subtree parent f.tree) refl

    pub cells-tell : CellsTell w.cells f.tree
    unfolding subtree
    cells-tell = record {
      root = ap is_some (awake-cell depot [] (rests_in f.tree []) (get path_cmp w.cells []) f.tree live.root (live.each.cells [])).1;
      above = parent-cell;
      each = λ path. by path (get path_cmp w.cells path) refl;
    }
      where
        by : (path : Path) (c : Option Cell) → get path_cmp w.cells path ≡ c → IfSome c (λ x. IsSomeAnd (subtree path f.tree) (CellTells w.cells path x))
        by path None e = tt
        by path (Some c) e = cell-tells path c e

  -- ---- a machine that goes on

  goes-in : (name : Path) (c : Cell) → get path_cmp w.cells name ≡ Some c → GoesOnIn c → GoesOn f.tree
  goes-in name c found (inl apart) = (live.root.lives, by c.state refl apart)
    where
      shown : (t : Tree Member) × (subtree name f.tree ≡ Some t) × CellShows depot name (rests_in f.tree name) c t
      shown = cell-shows depot name (rests_in f.tree name) (get path_cmp w.cells name) c (subtree name f.tree) found (live.each.cells name)

      by : (state : State) → c.state ≡ state → is_parked state ≡ false
          → (n : Path) × ((is_ready paged_machines paged_talks n f.tree ≡ true) ⊎ (is_out n f.tree ≡ true))
      by (Home vm) e not_parked = (
        name,
        inl (ap (holds (lives_ready paged_machines paged_talks (rests_in f.tree name))) shown.1
            ∙ (home-ready depot name (rests_in f.tree name) c vm shown.0 e shown.2).1),
      )
      by (Parked awaited vm turn) e not_parked = absurd (cc)
      by Out e not_parked = (
        name,
        inr (out-by depot name (rests_in f.tree name) (get path_cmp w.cells name) (subtree name f.tree) (live.each.cells name)
            ∙ ap is_out_cell found ∙ ap is_out_state e),
      )
  goes-in name c found (inr sleeper) = (live.root.lives, by sleeper.0 (get nat_cmp c.broods sleeper.0) refl sleeper.1)
    where
      first : (a b : Bool) → a && b ≡ true → a ≡ true
      first true b e = refl
      first false b e = absurd (cc)

      by : (ticket : ℕ) (b : Option Brood) → get nat_cmp c.broods ticket ≡ b → IsSomeAnd b HasAsleep
          → (n : Path) × ((is_ready paged_machines paged_talks n f.tree ≡ true) ⊎ (is_out n f.tree ≡ true))
      by ticket None held has = absurd has
      by ticket (Some b) held has =
          let n = child_path name ticket (suc has.0) in
          let one : ltb 0 (suc has.0) ≡ true = lt-ltb 0 (suc has.0) (omega arith) in
          let at : suc has.0 - 1 ≡ has.0 = omega arith in
          let it : is_asleep_slot (slot_at (suc has.0) b.slots.items) ≡ true = ap (λ i. is_asleep_slot (slice_get b.slots.items i)) at ∙ ap is_asleep_slot has.1 in
          let both : ltb 0 (suc has.0) && is_asleep_slot (slot_at (suc has.0) b.slots.items) ≡ true = ap (λ x. x && is_asleep_slot (slot_at (suc has.0) b.slots.items)) one ∙ it in
          (n, inl (first (is_ready paged_machines paged_talks n f.tree) _ (sym (sleeps-slot depot w.cells f.tree cells name ticket (suc has.0) c b found held) ∙ both)))

  pub goes-on-at : (name : Path) → IsSomeAnd (get path_cmp w.cells name) GoesOnIn → GoesOn f.tree
  goes-on-at name is = by (get path_cmp w.cells name) refl is
    where
      by : (c : Option Cell) → get path_cmp w.cells name ≡ c → IsSomeAnd c GoesOnIn → GoesOn f.tree
      by None e is = absurd is
      by (Some c) e is = goes-in name c e is

  -- ---- a family that has come to its end

  no-more : IsOver f.tree → GoesOn f.tree → ⊥
  no-more (inl ended) goes = let no : true ≡ false = sym ended ∙ goes.0 in cc
  no-more (inr rest) goes = by goes.1
    where
      by : (p : (n : Path) × ((is_ready paged_machines paged_talks n f.tree ≡ true) ⊎ (is_out n f.tree ≡ true))) → ⊥
      by p = elim p.1 [
        | inl ready ↦ let no : true ≡ false = sym ready ∙ rest.1 p.0 in cc
        | inr lent ↦ let no : true ≡ false = sym lent ∙ rest.2 p.0 in cc
      ]

  pub rests-by : IsOver f.tree → (name : Path) → IfSome (get path_cmp w.cells name) RestsIn
  rests-by over name = by (get path_cmp w.cells name) refl
    where
      waiting : (c : Cell) → get path_cmp w.cells name ≡ Some c → (is : Bool) → is_parked c.state ≡ is → is_parked c.state ≡ true
      waiting c found true e = e
      waiting c found false e = absurd (no-more over (goes-in name c found (inl e)))

      awoken : (c : Cell) → get path_cmp w.cells name ≡ Some c → (ticket : ℕ) (b : Option Brood) → get nat_cmp c.broods ticket ≡ b
          → IfSome b (λ (x : Brood). AreAwake x.slots.items)
      awoken c found ticket None held = tt
      awoken c found ticket (Some b) held = λ k. in_slot k (slice_get b.slots.items k) refl
        where
          in_slot : (k : ℕ) (s : Option ChildSlot) → slice_get b.slots.items k ≡ s → IsNotAsleep s
          in_slot k None e = tt
          in_slot k (Some Asleep) e = absurd (no-more over (goes-in name c found (inr (ticket, subst (λ o. IsSomeAnd o HasAsleep) (sym held) (k, e)))))
          in_slot k (Some (Awake n)) e = tt
          in_slot k (Some (Ended outcome)) e = tt

      by : (o : Option Cell) → get path_cmp w.cells name ≡ o → IfSome o RestsIn
      by None e = tt
      by (Some c) e = (waiting c e (is_parked c.state) refl, λ ticket. awoken c e ticket (get nat_cmp c.broods ticket) refl)

-- ---- the answer

pub over-tells : (depot : Shelves) (w : World) (f : Forest) → StandsFor depot w f → is_some w.outcome ≡ true → TellsOutcome f.tree (Ok w.outcome)
over-tells depot w f h over = by w.outcome h.tree over
  where
    by : (o : Option Report) → ShowsTree o depot w f.tree → is_some o ≡ true → TellsOutcome f.tree (Ok o)
    by None shown over = absurd (cc)
    by (Some outcome) shown over = (inl shown.ended, shown.lines)

pub finished-tells : (depot : Shelves) (w : World) (f : Forest) → StandsFor depot w f → TellsFinished f.tree w.outcome
finished-tells depot w f h = by w.outcome h.tree
  where
    by : (o : Option Report) → ShowsTree o depot w f.tree → TellsFinished f.tree o
    by None shown = shown.root.lives
    by (Some outcome) shown = (shown.ended, shown.lines)

pub err-tells : (t : Tree Member) (r : Result (Option Report) AllocError) → IsErr r → IsAtRest t → TellsOutcome t r
err-tells t (Ok outcome) err rests = absurd (cc)
err-tells t (Err e) err rests = rests

pub on-true : (P Q : Type 0) (b : Bool) → MatchBool b P Q → b ≡ true → P
on-true P Q true h e = h
on-true P Q false h e = absurd (cc)

pub on-false : (P Q : Type 0) (b : Bool) → MatchBool b P Q → b ≡ false → Q
on-false P Q true h e = absurd (cc)
on-false P Q false h e = h
