-- A world in which the words to one machine are others.
use Rattle.std.proofs.Common.{◌≡◌, ◌≢◌, ◌⊎◌, inl, inr, ℕ, ◌+◌, ◌<◌, ◌≤◌, ◌&&◌, not, arith, eqb, eqb-true, Bool, true, false, cond, refl, sym, ap, ap₂}
use Rattle.std.proofs.Common.{◌∙◌, subst, List, [], ◌∷◌, ◌++◌, append_assoc, length, Option, Some, None, is_some, option_map, vec_len, vec_capacity}
use Rattle.std.proofs.lemmas.Bool.{eqb-false, ne_eqb}
use Rattle.std.specs.Option.{IfSome}
use Rattle.std.specs.Ordering.{nat_cmp}
use Rattle.std.specs.BTreeMap.{btree_map_len, get}
use Rattle.std.specs.Global.{Vec}
use Rattle.image_depot.specs.Key.{Key, Shelves}
use Rattle.forest_tree.specs.Operations.{is_cloned}
use Rattle.forest_tree.specs.Tree.{Tree, node, Trees, Broods, Log, machine, broods_of, brood_of, at_brood, at_child, child_at, size, Branch, Path, subtree, beyond, at_path}
use Rattle.forest_tree.proofs.Broods.{eqb-same, eqb-sym}
use Rattle.forest_tree.proofs.Places.{some-same, brood_of-at, at_child-none, child_at-same, child_at-other}
use Rattle.sibling_forest.specs.Talk.{Inbox, boxed, queue}
use Rattle.sibling_forest.proofs.Crossing.{changed-brood}
use Rattle.talking_history.specs.Places.{out, parked, Spot, spots}
use Rattle.talking_history.specs.World.{is_asleep_at, is_out_at, is_ready_at, holds, lives_ready}
use Rattle.forest_model.specs.Paged.{Paged, paged_machines, paged_talks}
use Rattle.vm_descriptor.specs.declared.descriptor.Descriptor.{Descriptor}
use Rattle.vm_descriptor.specs.declared.descriptor.TheConstants.{MAX_CLONES}
use Rattle.vm_cell.specs.declared.vm.fork.ForkImage.{ForkImage}
use Rattle.run_report.specs.Lines.{Line, lines}
use Rattle.machine_names.specs.NameOrder.{path_cmp}
use Rattle.machine_names.proofs.Below.{beyond-append, beyond-is}
use Rattle.sibling_words.specs.Words.{HaveSame, words_of}
use Rattle.sibling_words.specs.Notes.{noted, room_of}
use Rattle.world_core.specs.declared.cell.Awaited.TheVariants.{Children, Sibling}
use Rattle.world_core.specs.declared.cell.Brood.{Brood}
use Rattle.world_core.specs.declared.cell.Cell.{Cell}
use Rattle.world_core.specs.declared.cell.ChildSlot.{ChildSlot}
use Rattle.world_core.specs.declared.cell.ChildSlot.TheVariants.{Asleep, Awake, Ended}
use Rattle.world_core.specs.declared.cell.State.{State}
use Rattle.world_core.specs.declared.cell.State.TheVariants.{Home, Parked, Out}
use Rattle.world_core.specs.declared.world.World.{World}
use Rattle.world_core.specs.Listed.{IsListed}
use Rattle.world_core.specs.Shows.{Member, forest, told_member, AreHeard, AreTold, BornShows, BroodAt, BroodShows}
use Rattle.world_core.specs.Shows.{CellShows, Holds, IsAwake, IsKinIn, IsNoted, IsStateOf, Shows, SlotShows, StateShows, TallyAt}
use Rattle.world_core.specs.Talking.{HaveSameSlots, Hears, IsSameBut, IsUnheard}
use Rattle.world_core.specs.World.{IsDue, Rests, ShowsEach}
use Rattle.world_core.proofs.Calling.{below-name}
use Rattle.world_core.proofs.Changes.{KeepsLife, beyond-parent, born-kept, is_one, living-by, outside, shows-changed, size-at_child}
use Rattle.world_core.proofs.Leaving.{same-parent}
use Rattle.world_core.proofs.Ready.{ready-changed}
use Rattle.world_core.proofs.Returns.{apart-below, same-or-apart}
use Rattle.world_core.proofs.Saying.{heard, heard-below, heard-inbox, heard-lives, heard-spot, heard-talk}

-- ---- a cell that is another but for its broods

-- the slots of a brood are the same, and what is known of it but for what waits between its children
pub record AreSlotsAlike (old new : Brood) : Type 0 where
  pub name : new.name ≡ old.name
  pub image : new.image ≡ old.image
  pub items : new.slots.items ≡ old.slots.items
  pub live : new.live ≡ old.live

pub slots-alike : (old new : Brood) → HaveSameSlots old new → AreSlotsAlike old new
slots-alike old new same =
    record { name = same.name; image = same.image; items = ap (λ (v : Vec ChildSlot). v.items) same.slots; live = same.live }

as-many-slots : (old new : Brood) → AreSlotsAlike old new → vec_len new.slots ≡ vec_len old.slots
as-many-slots old new same = new.slots.ok.0 ∙ ap (λ (items : List ChildSlot). length items) same.items ∙ sym old.slots.ok.0

pub tally-alike : (path : Path) (count : ℕ) (old new : Brood) (is : Bool) → AreSlotsAlike old new → TallyAt path count (Some old) is → TallyAt path count (Some new) is
tally-alike path count old new false same h = absurd h
tally-alike path count old new true same h = record {
  name = same.name ∙ h.name;
  size = as-many-slots old new same ∙ h.size;
  few = subst (λ n. n ≤ MAX_CLONES) (sym (as-many-slots old new same)) h.few;
}

-- a brood shows children that are as many, if what waits between them does
pub brood-alike : (depot : Shelves) (path : Path) (ticket : ℕ) (old new : Brood) (trees : Trees Member) → AreSlotsAlike old new → AreTold new.words new.notes trees
    → BroodShows depot path ticket old trees → BroodShows depot path ticket new trees
brood-alike depot path ticket old new trees same told h = record {
  live = same.live ∙ h.live;
  born = subst (λ (image : Option ForkImage). BornShows depot path ticket image new.slots.items trees) (sym same.image)
      (subst (λ (items : List ChildSlot). BornShows depot path ticket old.image items trees) (sym same.items) h.born);
  heard = told;
}

-- the cells hold the same but for the brood of a ticket
module _ (depot : Shelves) (path : Path) (c d : Cell) (s : Member) (broods after : Broods Member) (log : Log Member) (ticket : ℕ) (old new : Brood)
    (but : IsSameBut c d) (others : (u : ℕ) → u ≢ ticket → get nat_cmp d.broods u ≡ get nat_cmp c.broods u)
    (was : get nat_cmp c.broods ticket ≡ Some old) (is : get nat_cmp d.broods ticket ≡ Some new) (same : AreSlotsAlike old new)
    (left : (u : ℕ) → u ≢ ticket → brood_of u after ≡ brood_of u broods) (shows : BroodShows depot path ticket new (brood_of ticket after))
    (h : Holds depot path c (node s broods log)) where
  other : (u : ℕ) → eqb ticket u ≡ false → u ≢ ticket
  other u e at = eqb-false ticket u e (sym at)

  tally : (u : ℕ) (at : Bool) → eqb ticket u ≡ at → TallyAt path (forest.grant s u).children (get nat_cmp d.broods u) (is_cloned forest s u)
  tally u true e =
      subst (λ n. TallyAt path (forest.grant s n).children (get nat_cmp d.broods n) (is_cloned forest s n)) (eqb-true ticket u e)
      (subst (λ o. TallyAt path (forest.grant s ticket).children o (is_cloned forest s ticket)) (sym is)
      (tally-alike path (forest.grant s ticket).children old new (is_cloned forest s ticket) same
      (subst (λ o. TallyAt path (forest.grant s ticket).children o (is_cloned forest s ticket)) was (h.tallies.broods ticket))))
  tally u false e =
      subst (λ o. TallyAt path (forest.grant s u).children o (is_cloned forest s u)) (sym (others u (other u e))) (h.tallies.broods u)

  brood-here : (cloned : Bool) → BroodAt depot path ticket (Some old) cloned (brood_of ticket broods) → BroodAt depot path ticket (Some new) cloned (brood_of ticket after)
  brood-here false at = absurd at
  brood-here true at = shows

  brood-there : (u : ℕ) (at : Bool) → eqb ticket u ≡ at → BroodAt depot path u (get nat_cmp d.broods u) (is_cloned forest s u) (brood_of u after)
  brood-there u true e =
      subst (λ n. BroodAt depot path n (get nat_cmp d.broods n) (is_cloned forest s n) (brood_of n after)) (eqb-true ticket u e)
      (subst (λ o. BroodAt depot path ticket o (is_cloned forest s ticket) (brood_of ticket after)) (sym is)
      (brood-here (is_cloned forest s ticket)
      (subst (λ o. BroodAt depot path ticket o (is_cloned forest s ticket) (brood_of ticket broods)) was (h.broods ticket))))
  brood-there u false e =
      subst (λ o. BroodAt depot path u o (is_cloned forest s u) (brood_of u after)) (sym (others u (other u e)))
      (subst (BroodAt depot path u (get nat_cmp c.broods u) (is_cloned forest s u)) (sym (left u (other u e))) (h.broods u))

  pub holds-brood : Holds depot path d (node s after log)
  holds-brood = record {
    tallies = record {
      log = ap (λ (l : Vec Line). l.items) but.log ∙ h.tallies.log;
      room = subst (λ (l : Vec Line). vec_len l + btree_map_len d.broods ≤ vec_capacity l) (sym but.log)
          (subst (λ n. vec_len c.log + n ≤ vec_capacity c.log) (sym but.count) h.tallies.room);
      broods = λ u. tally u (eqb ticket u) refl;
    };
    broods = λ u. brood-there u (eqb ticket u) refl;
  }

-- the cell shows its machine still
pub cell-but : (depot : Shelves) (path : Path) (resting : Bool) (c d : Cell) (t u : Tree Member) → IsSameBut c d → machine u ≡ machine t
    → CellShows depot path resting c t → Holds depot path d u → CellShows depot path resting d u
cell-but depot path resting c d t u but same h holds = record {
  awake = record {
    lives = ap (λ (b : Member). is_some (forest.ending b)) same ∙ h.awake.lives;
    awake = ap (λ (b : Member). is_asleep_at b.machine.place) same ∙ h.awake.awake;
  };
  kin = subst (λ (st : State). IsKinIn st d.kin path) (sym but.state) (subst (λ (k : Option Path). IsKinIn c.state k path) (sym but.kin) h.kin);
  state = subst (λ (st : State). StateShows path st (machine u) resting) (sym but.state)
      (subst (λ (b : Member). StateShows path c.state b resting) (sym same) h.state);
  of_depot = subst (IsStateOf depot) (sym but.state) h.of_depot;
  holds = holds;
}

-- ---- what waits in a brood, where its children are the same

pub told-unheard : (old new : Brood) (trees : Trees Member) → IsUnheard old new → AreTold old.words old.notes trees → AreTold new.words new.notes trees
told-unheard old new trees same h = record {
  words = λ k t found j. h.words k t found j ∙ sym (same.words k j);
  notes = λ k t found what is_parked speaks. same.notes k ∙ h.notes k t found what is_parked speaks;
  room = subst (λ n. size trees < n) (sym same.room) h.room;
}

-- a child that is out is noted
pub told-noted : (old new : Brood) (trees : Trees Member) (i peer : ℕ) → HaveSame old.words new.words
    → ((k : ℕ) → noted new.notes k ≡ cond (eqb k i) peer (noted old.notes k)) → room_of old.notes ≤ room_of new.notes
    → ((t : Tree Member) → child_at i trees ≡ Some t → (machine t).machine.place ≡ out) → AreTold old.words old.notes trees → AreTold new.words new.notes trees
told-noted old new trees i peer words notes room away h = record {
  words = λ k t found j. h.words k t found j ∙ sym (words k j);
  notes = λ k t found. by k t found (eqb k i) refl;
  room = omega (arith, room, h.room);
}
  where
    never : (t : Tree Member) → (machine t).machine.place ≡ out → (machine t).machine.place ≡ parked → ⊥
    never t at is_parked = let no : out ≡ parked = sym at ∙ is_parked in cc

    by : (k : ℕ) (t : Tree Member) → child_at k trees ≡ Some t → (same : Bool) → eqb k i ≡ same → IsNoted new.notes k t
    by k t found true e = λ what is_parked speaks. absurd (never t (away t (ap (λ n. child_at n trees) (sym (eqb-true k i e)) ∙ found)) is_parked)
    by k t found false e = λ what is_parked speaks.
        notes k ∙ ap (λ same. cond same peer (noted old.notes k)) e ∙ h.notes k t found what is_parked speaks

-- ---- a machine with other words to it, in its own cell and in its slot

heard-state : (path : Path) (resting : Bool) (state : State) (b : Member) (q : Inbox) → StateShows path state b resting
    → StateShows path state (record b { inbox = q }) resting
heard-state path resting (Home vm) b q h = h
heard-state path resting (Parked (Children ticket) vm turn) b q h = h
heard-state path resting (Parked (Sibling what) vm turn) b q h = h
heard-state path resting Out b q h = h

module _ (g : Member → Inbox) where
  heard-awake : (a : Tree Member) → IsAwake a → IsAwake (heard g a)
  heard-awake a h =
      record { lives = heard-lives g a ∙ h.lives; awake = ap (λ (s : Spot Paged). is_asleep_at s.place) (heard-spot g a) ∙ h.awake }

  heard-cell : (depot : Shelves) (path : Path) (resting : Bool) (c : Cell) (a : Tree Member) → CellShows depot path resting c a
      → CellShows depot path resting c (heard g a)
  unfolding boxed spots
  heard-cell depot path resting c (node b broods log) h = record {
    awake = heard-awake (node b broods log) h.awake;
    kin = h.kin;
    state = heard-state path resting c.state b (g b) h.state;
    of_depot = h.of_depot;
    holds = record {
      tallies = record { log = h.holds.tallies.log; room = h.holds.tallies.room; broods = h.holds.tallies.broods };
      broods = h.holds.broods;
    };
  }

  heard-shown : (depot : Shelves) (path : Path) (resting : Bool) (c : Option Cell) (a : Tree Member) → Shows depot path resting c (Some a)
      → Shows depot path resting c (Some (heard g a))
  heard-shown depot path resting None a (inl over) =
      inl (heard-lives g a ∙ over.0, ap (λ (s : Spot Paged). is_out_at s.place) (heard-spot g a) ∙ over.1)
  heard-shown depot path resting None a (inr sleeps) = inr (ap (λ (s : Spot Paged). is_asleep_at s.place) (heard-spot g a) ∙ sleeps)
  heard-shown depot path resting (Some c) a h = heard-cell depot path resting c a h

  heard-ready : (resting : Bool) (a : Tree Member) → lives_ready paged_machines paged_talks resting (heard g a) ≡ lives_ready paged_machines paged_talks resting a
  heard-ready resting a =
      ap₂ (λ ended place. not ended && is_ready_at place resting) (heard-lives g a) (ap (λ (s : Spot Paged). s.place) (heard-spot g a))

  -- a report tells nothing of the words
  heard-lines : (path : Path) (a : Tree Member) → lines told_member path (heard g a) ≡ lines told_member path a
  unfolding lines
  heard-lines path (node b broods log) = refl

  heard-slot : (a : Tree Member) (path : Path) (key : Key) (seed : Descriptor) (slot : ChildSlot) → SlotShows path key seed slot a
      → SlotShows path key seed slot (heard g a)
  heard-slot (node b broods log) path key seed Asleep h =
      record { of_image = h.of_image; born = ap (heard (λ m. g b)) h.born; lives = heard-lives g (node b broods log) ∙ h.lives }
  heard-slot a path key seed (Awake name) h = (heard-awake a h.0, h.1)
  heard-slot (node b broods log) path key seed (Ended outcome) h = (h.0, h.1 ∙ sym (heard-lines path (node b broods log)), h.2)

  heard-life : (a : Tree Member) → KeepsLife (heard g) a
  heard-life a = record { slot = λ path key seed slot h. heard-slot a path key seed slot h; ended = heard-lives g a }

-- ---- its parent's brood

-- one queue is another
pub record Rewrites (from : ℕ) (q : List ℕ) (old new : Inbox) : Type 0 where
  pub here : queue from new ≡ q
  pub others : (j : ℕ) → j ≢ from → queue j new ≡ queue j old

module _ (g : Member → Inbox) (to from : ℕ) (q : List ℕ) (old new : Brood) (trees : Trees Member) (a : Tree Member) (found : child_at to trees ≡ Some a)
    (rewrites : Rewrites from q (machine a).inbox (g (machine a))) (hears : Hears to from q old new) (told : AreTold old.words old.notes trees) where
  abbrev after : Trees Member
  after = at_child (heard g) to trees

  -- a child is the one that hears, or was there
  by-child : (P : ℕ → Tree Member → Type 0) (k : ℕ) (t : Tree Member) → child_at k after ≡ Some t → (to ≡ k → P k (heard g a))
      → (eqb to k ≡ false → child_at k trees ≡ Some t → P k t) → P k t
  by-child P k t there one other = by (eqb to k) refl
    where
      by : (same : Bool) → eqb to k ≡ same → P k t
      by true e =
          let same : to ≡ k = eqb-true to k e in
          let is : Some (heard g a) ≡ Some t =
          sym (ap (option_map (heard g)) found)
          ∙ sym (child_at-same (heard g) to trees)
          ∙ ap (λ n. child_at n after) same ∙ there in
          subst (P k) (some-same (heard g a) t is) (one same)
      by false e = other e (sym (child_at-other (heard g) to k trees (eqb-false to k e)) ∙ there)

  new-words : (k j : ℕ) (to_it from_it : Bool) → eqb k to ≡ to_it → eqb j from ≡ from_it → words_of new.words k j ≡ cond (to_it && from_it) q (words_of old.words k j)
  new-words k j to_it from_it e d = hears.words k j ∙ ap₂ (λ u v. cond (u && v) q (words_of old.words k j)) e d

  heard-here : (j : ℕ) → queue j (machine (heard g a)).inbox ≡ words_of new.words to j
  heard-here j = ap (queue j) (heard-inbox g a) ∙ by (eqb j from) refl
    where
      by : (same : Bool) → eqb j from ≡ same → queue j (g (machine a)) ≡ words_of new.words to j
      by true e = ap (λ n. queue n (g (machine a))) (eqb-true j from e) ∙ rewrites.here ∙ sym (new-words to j true true (eqb-same to) e)
      by false e = rewrites.others j (eqb-false j from e) ∙ told.words to a found j ∙ sym (new-words to j true false (eqb-same to) e)

  heard-there : (k : ℕ) (t : Tree Member) → eqb to k ≡ false → child_at k trees ≡ Some t → AreHeard new.words k (machine t).inbox
  heard-there k t other was j = told.words k t was j ∙ sym (new-words k j false (eqb j from) (eqb-sym k to ∙ other) refl)

  noted-here : (k : ℕ) → to ≡ k → IsNoted new.notes k (heard g a)
  noted-here k same = λ what is_parked speaks.
      hears.notes k
      ∙ told.notes k a (ap (λ n. child_at n trees) (sym same) ∙ found) what (ap (λ (s : Spot Paged). s.place) (sym (heard-spot g a)) ∙ is_parked)
      (sym (heard-talk g a) ∙ speaks)

  told-heard : AreTold new.words new.notes after
  told-heard = record {
    words = λ k t there.
        by-child (λ n u. AreHeard new.words n (machine u).inbox) k t there
        (λ same. subst (λ n. AreHeard new.words n (machine (heard g a)).inbox) same heard-here) (heard-there k t);
    notes = λ k t there.
        by-child (IsNoted new.notes) k t there (noted-here k) (λ other was what is_parked speaks. hears.notes k ∙ told.notes k t was what is_parked speaks);
    room = with-room;
  }
    where
      with-room : size after < room_of new.notes
      with-room = subst (λ n. n < room_of new.notes) (sym (size-at_child (heard g) to trees)) (subst (λ n. size trees < n) (sym hears.room) told.room)

  pub brood-heard : (depot : Shelves) (path : Path) (ticket : ℕ) → AreSlotsAlike old new → BroodShows depot path ticket old trees
      → BroodShows depot path ticket new after
  brood-heard depot path ticket same h = record {
    live = same.live ∙ h.live ∙ sym (living-by (heard g) to trees (child_at to trees) refl (λ b is. heard-life g b));
    born = subst (λ (image : Option ForkImage). BornShows depot path ticket image new.slots.items after) (sym same.image)
        (subst (λ (items : List ChildSlot). BornShows depot path ticket old.image items after) (sym same.items)
        (born-kept (heard g) depot path ticket to old.image old.slots.items trees (λ b is. heard-life g b) h.born));
    heard = told-heard;
  }

-- ---- the parent's cell

module _ (depot : Shelves) (path : Path) (resting : Bool) (c d : Cell) (ticket : ℕ) (old new : Brood)
    (but : IsSameBut c d) (others : (u : ℕ) → u ≢ ticket → get nat_cmp d.broods u ≡ get nat_cmp c.broods u)
    (was : get nat_cmp c.broods ticket ≡ Some old) (is : get nat_cmp d.broods ticket ≡ Some new) (same : HaveSameSlots old new) where
  -- what waits between the children is told otherwise
  pub cell-told : (t : Tree Member) → CellShows depot path resting c t → BroodShows depot path ticket new (brood_of ticket (broods_of t))
      → CellShows depot path resting d t
  cell-told (node s broods log) h shows =
      cell-but depot path resting c d (node s broods log) (node s broods log) but refl h
      (holds-brood depot path c d s broods broods log ticket old new but others was is (slots-alike old new same) (λ u other. refl) shows h.holds)

  -- a child has other words to it
  pub cell-heard : (g : Member → Inbox) (k : ℕ) (t : Tree Member) → CellShows depot path resting c t
      → BroodShows depot path ticket new (at_child (heard g) k (brood_of ticket (broods_of t)))
      → CellShows depot path resting d (at_path (heard g) (record { ticket = ticket; child = k } ∷ []) t)
  unfolding at_path
  cell-heard g k (node s broods log) h shows =
      let after : Broods Member = at_brood (at_child (heard g) k) ticket broods in
      cell-but depot path resting c d (node s broods log) (node s after log) but refl h
      (holds-brood depot path c d s broods after log ticket old new but others was is (slots-alike old new same)
      (λ u other. brood_of-at (at_child (heard g) k) (at_child-none (heard g) k) ticket u broods
      ∙ ap (λ at. cond at (at_child (heard g) k (brood_of u broods)) (brood_of u broods)) (ne_eqb ticket u (λ e. other (sym e))))
      (subst (BroodShows depot path ticket new) (sym (changed-brood (at_child (heard g) k) (at_child-none (heard g) k) ticket broods)) shows) h.holds)

-- ---- the world

module _ (depot : Shelves) (w v : World) (t : Tree Member) (rests : Rests) (each : ShowsEach depot rests w t) (parent : Path) (c d : Cell)
    (was : get path_cmp w.cells parent ≡ Some c) (is : get path_cmp v.cells parent ≡ Some d)
    (others : (n : Path) → parent ≢ n → get path_cmp v.cells n ≡ get path_cmp w.cells n) (ready : v.ready ≡ w.ready) (listed : d.is_listed ≡ c.is_listed) where
  due-alike : (n : Path) → IsDue (get path_cmp w.cells n) n w.ready → IsDue (get path_cmp v.cells n) n v.ready
  due-alike n h = subst (IsDue (get path_cmp v.cells n) n) (sym ready) (by (same-or-apart parent n))
    where
      by : (n ≡ parent) ⊎ (parent ≢ n) → IsDue (get path_cmp v.cells n) n w.ready
      by (inl e) =
          subst (λ o. IsDue o n w.ready) (sym (ap (get path_cmp v.cells) e ∙ is))
          (subst (λ o. IsDue o n w.ready) (ap (get path_cmp w.cells) e ∙ was) h)
      by (inr other) = subst (λ o. IsDue o n w.ready) (sym (others n other)) h

  listed-alike : (n : Path) → IfSome (get path_cmp v.cells n) (λ (cell : Cell). cell.is_listed ≡ true → IsListed n v.ready)
  listed-alike n = subst (λ list. IfSome (get path_cmp v.cells n) (λ (cell : Cell). cell.is_listed ≡ true → IsListed n list)) (sym ready) (by (same-or-apart parent n))
    where
      by : (n ≡ parent) ⊎ (parent ≢ n) → IfSome (get path_cmp v.cells n) (λ (cell : Cell). cell.is_listed ≡ true → IsListed n w.ready)
      by (inl e) =
          subst (λ o. IfSome o (λ (cell : Cell). cell.is_listed ≡ true → IsListed n w.ready)) (sym (ap (get path_cmp v.cells) e ∙ is))
          (λ so_is. subst (λ o. IfSome o (λ (cell : Cell). cell.is_listed ≡ true → IsListed n w.ready)) (ap (get path_cmp w.cells) e ∙ was) (each.listed n)
          (sym listed ∙ so_is))
      by (inr other) =
          subst (λ o. IfSome o (λ (cell : Cell). cell.is_listed ≡ true → IsListed n w.ready)) (sym (others n other)) (each.listed n)

  -- a machine below the parent has other words to it
  module _ (g : Member → Inbox) (x : Branch) (a p : Tree Member) (at : subtree parent t ≡ Some p) (there : subtree (parent ++ (x ∷ [])) t ≡ Some a)
      (shows : CellShows depot parent (rests parent) d (at_path (heard g) (x ∷ []) p)) where
    abbrev name : Path
    name = parent ++ (x ∷ [])

    apart-here : parent ≢ name
    apart-here = apart-below parent x []

    apart-deep : (y : Branch) (rest : Path) → parent ≢ name ++ (y ∷ rest)
    apart-deep y rest e = apart-below parent x (y ∷ rest) (e ∙ append_assoc parent (x ∷ []) (y ∷ rest))

    here-shows : Shows depot name (rests name) (get path_cmp v.cells name) (Some (heard g a))
    here-shows =
        subst (λ o. Shows depot name (rests name) o (Some (heard g a))) (sym (others name apart-here))
        (heard-shown g depot name (rests name) (get path_cmp w.cells name) a
        (subst (Shows depot name (rests name) (get path_cmp w.cells name)) there (each.cells name)))

    below-shows : (y : Branch) (rest : Path)
        → Shows depot (name ++ (y ∷ rest)) (rests (name ++ (y ∷ rest))) (get path_cmp v.cells (name ++ (y ∷ rest))) (subtree (y ∷ rest) (heard g a))
    below-shows y rest =
        let n : Path = name ++ (y ∷ rest) in
        subst (λ o. Shows depot n (rests n) o (subtree (y ∷ rest) (heard g a))) (sym (others n (apart-deep y rest)))
        (subst (Shows depot n (rests n) (get path_cmp w.cells n)) (below-name name t a y rest there ∙ sym (heard-below g y rest a)) (each.cells n))

    outer-shows : (n : Path) → is_one (beyond n name) ≡ false → Shows depot n (rests n) (get path_cmp v.cells n) (subtree n t)
    outer-shows n one =
        subst (λ o. Shows depot n (rests n) o (subtree n t)) (sym (others n apart)) (each.cells n)
      where
        apart : parent ≢ n
        apart e = let no : true ≡ false = sym (ap is_one (ap (λ m. beyond m name) (sym e) ∙ beyond-append parent (x ∷ []))) ∙ one in cc

    parent-shows : (n : Path) (y : Branch) → beyond name n ≡ None → beyond n name ≡ Some (y ∷ [])
        → Shows depot n (rests n) (get path_cmp v.cells n) (subtree n (at_path (heard g) name t))
    parent-shows n y none e =
        let same : n ≡ parent = same-parent n parent y x (sym (beyond-is n name (y ∷ []) e)) in
        let left : subtree parent (at_path (heard g) name t) ≡ Some (at_path (heard g) (x ∷ []) p) =
        outside (heard g) name parent t (Some (x ∷ [])) (beyond-parent parent x []) (beyond-append parent (x ∷ [])) ∙ ap (option_map (at_path (heard g) (x ∷ []))) at in
        subst (λ m. Shows depot m (rests m) (get path_cmp v.cells m) (subtree m (at_path (heard g) name t))) (sym same)
        (subst (λ o. Shows depot parent (rests parent) o (subtree parent (at_path (heard g) name t))) (sym is)
        (subst (Shows depot parent (rests parent) (Some d)) (sym left) shows))

    pub each-heard : ShowsEach depot rests v (at_path (heard g) name t)
    each-heard = record {
      cells = shows-changed (heard g) depot rests name t a (get path_cmp v.cells) there here-shows below-shows (λ n none one. outer-shows n one) parent-shows;
      ready = ready-changed (heard g) (λ n. IsDue (get path_cmp v.cells n) n v.ready) rests name t a there
          (λ so_is. due-alike name (each.ready name (ap (holds (lives_ready paged_machines paged_talks (rests name))) there ∙ sym (heard-ready g (rests name) a) ∙ so_is)))
          (λ y rest so_is.
          due-alike (name ++ (y ∷ rest)) (each.ready (name ++ (y ∷ rest))
          (ap (holds (lives_ready paged_machines paged_talks (rests (name ++ (y ∷ rest))))) (below-name name t a y rest there ∙ sym (heard-below g y rest a)) ∙ so_is)))
          (λ n none so_is. due-alike n (each.ready n so_is));
      listed = listed-alike;
    }

  -- the tree is the same
  pub each-told : ((p : Tree Member) → subtree parent t ≡ Some p → CellShows depot parent (rests parent) c p → CellShows depot parent (rests parent) d p)
      → ShowsEach depot rests v t
  each-told still = record {
    cells = λ n. by n (same-or-apart parent n);
    ready = λ n so_is. due-alike n (each.ready n so_is);
    listed = listed-alike;
  }
    where
      there : (u : Option (Tree Member)) → subtree parent t ≡ u → Shows depot parent (rests parent) (Some c) u → Shows depot parent (rests parent) (Some d) u
      there None e h = absurd h
      there (Some p) e h = still p e h

      by : (n : Path) → (n ≡ parent) ⊎ (parent ≢ n) → Shows depot n (rests n) (get path_cmp v.cells n) (subtree n t)
      by n (inl e) =
          subst (λ m. Shows depot m (rests m) (get path_cmp v.cells m) (subtree m t)) (sym e)
          (subst (λ o. Shows depot parent (rests parent) o (subtree parent t)) (sym is)
          (there (subtree parent t) refl (subst (λ o. Shows depot parent (rests parent) o (subtree parent t)) was (each.cells parent))))
      by n (inr other) = subst (λ o. Shows depot n (rests n) o (subtree n t)) (sym (others n other)) (each.cells n)
