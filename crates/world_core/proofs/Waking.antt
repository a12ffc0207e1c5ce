-- A child that wakes, and is handed out.
use Rattle.sibling_forest.specs.Talk.{Inbox, boxed}
use Rattle.std.proofs.Common.{◌≡◌, ◌≢◌, ℕ, zero, suc, Bool, true, false, cond, eqb, eqb-true, refl, sym, ap, ap₂, ◌∙◌, subst, arith, inl, inr}
use Rattle.std.proofs.Common.{◌∷◌, ◌++◌, Option, Some, None, is_some, option_map, []}
use Rattle.std.specs.BTreeMap.{BTreeMap, Updates, WritesThrough, get}
use Rattle.std.specs.Ordering.{nat_cmp}
use Rattle.std.specs.Option.{IfSome}
use Rattle.std.specs.Prelude.{Result, Ok, Err}
use Rattle.std.specs.Result.{IfOk, OnOk, OnErr, IsErr}
use Rattle.std.specs.declared.alloc.AllocError.{AllocError}
use Rattle.image_depot.specs.Key.{Shelves}
use Rattle.forest_tree.specs.Operations.{is_cloned}
use Rattle.forest_tree.specs.Tree.{Tree, node, Trees, no_tree, tree, Broods, no_brood, Log, no_entry, machine, broods_of, at_path, at_beyond, brood_of, size, broods_with, child_at, at_child, at_brood}
use Rattle.forest_tree.specs.Tree.{Branch, Path, subtree, beyond}
use Rattle.forest_tree.specs.Step.{alone, has_ended}
use Rattle.forest_tree.specs.Sound.{IsSound}
use Rattle.forest_tree.proofs.Places.{some-same, brood_of-at, at_child-none, subtree-sound}
use Rattle.forest_tree.proofs.Rests.{lives-none}
use Rattle.forest_tree.proofs.Sound.{root-sound}
use Rattle.talking_history.specs.Places.{out, spots, placed, spot_talks}
use Rattle.talking_history.specs.World.{is_asleep_at}
use Rattle.forest_model.specs.Forest.{machines}
use Rattle.forest_model.specs.Paged.{Paged, paged_machines, paged_talks}
use Rattle.image_depot.specs.Key.{Key}
use Rattle.machine_names.specs.Name.{child_path}
use Rattle.machine_names.specs.NameOrder.{path_cmp}
use Rattle.machine_names.proofs.NameMaps.{updated-here, updated-apart}
use Rattle.vm_descriptor.specs.declared.descriptor.Descriptor.{Descriptor}
use Rattle.world_core.specs.declared.cell.Cell.{Cell}
use Rattle.world_core.specs.declared.cell.ChildSlot.{ChildSlot}
use Rattle.world_core.specs.declared.cell.ChildSlot.TheVariants.{Asleep, Awake, Ended}
use Rattle.world_core.specs.Shows.{Member, paged_of, siblings_of, forest, SlotShows, BroodAt, CellShows, Shows, child_of, with_child}
use Rattle.world_core.specs.World.{rests_in}
use Rattle.world_core.specs.Popped.{ShowsCells, sleeps, is_listed_in}
use Rattle.world_core.specs.Lent.{Lent, now_of}
use Rattle.world_core.specs.Answers.{IsLentOf}
use Rattle.world_core.proofs.Awake.{child-below, slotted}
use Rattle.machine_names.proofs.Below.{beyond-append, beyond-is}
use Rattle.world_core.proofs.Changes.{child_by, is_one, outside, beyond-parent}
use Rattle.sibling_forest.proofs.MemberAt.{member-of}
use Rattle.world_core.proofs.Returns.{apart-below, same-or-apart, written-here, written-apart, some-is}
use Rattle.world_core.proofs.Sleepers.{wakes, sleeps-by, wakes-is, wakes-slot, none-sleeps, cell-shows}
use Rattle.world_core.proofs.TurnOut.{unlisted}
use Rattle.world_core.proofs.TakenOut.{cells-taken}

-- names with one fork more
pub last-same : (m n : Path) (x y : Branch) → m ++ (x ∷ []) ≡ n ++ (y ∷ []) → (m ≡ n) × (x ≡ y)
last-same [] [] x y e = (refl, cc)
last-same [] (b ∷ []) x y e = absurd (cc)
last-same [] (b ∷ (c ∷ n)) x y e = absurd (cc)
last-same (a ∷ []) [] x y e = absurd (cc)
last-same (a ∷ (c ∷ m)) [] x y e = absurd (cc)
last-same (a ∷ m) (b ∷ n) x y e =
    let first : a ≡ b = cc in
    let left : m ++ (x ∷ []) ≡ n ++ (y ∷ []) = cc in
    let rest = last-same m n x y left in
    (ap₂ (λ z zs. z ∷ zs) first rest.0, rest.1)

-- changes that agree at the child
at_child-agree : (f g : Tree Member → Tree Member) (k : ℕ) (trees : Trees Member) (a : Tree Member) → child_at k trees ≡ Some a → f a ≡ g a
    → at_child f k trees ≡ at_child g k trees
unfolding child_at at_child
at_child-agree f g k no_tree a found same = refl
at_child-agree f g zero (tree t rest) a found same = refl
at_child-agree f g (suc zero) (tree t rest) a found same =
    ap (λ u. tree u rest) (subst (λ u. f u ≡ g u) (sym (some-same t a found)) same)
at_child-agree f g (suc (suc k)) (tree t rest) a found same = ap (tree t) (at_child-agree f g (suc k) rest a found same)

-- a cell shows the broods ticket by ticket
cell-alike : (depot : Shelves) (path : Path) (resting : Bool) (c : Cell) (s : Member) (before after : Broods Member) (log : Log Member)
    → ((u : ℕ) → brood_of u before ≡ brood_of u after) → CellShows depot path resting c (node s before log) → CellShows depot path resting c (node s after log)
cell-alike depot path resting c s before after log same h = record {
  awake = record { lives = h.awake.lives; awake = h.awake.awake };
  kin = h.kin;
  state = h.state;
  of_depot = h.of_depot;
  holds = record {
    tallies = record { log = h.holds.tallies.log; room = h.holds.tallies.room; broods = h.holds.tallies.broods };
    broods = λ u. subst (BroodAt depot path u (get nat_cmp c.broods u) (is_cloned forest s u)) (same u) (h.holds.broods u);
  };
}

-- a change at a child's name is another child
pub with-child-path : (depot : Shelves) (path : Path) (resting : Bool) (c : Cell) (f : Tree Member → Tree Member) (b : Branch) (t a : Tree Member)
    → child_by b t ≡ Some a → CellShows depot path resting c (with_child b.ticket b.child (f a) t) → CellShows depot path resting c (at_path f (b ∷ []) t)
unfolding at_path
with-child-path depot path resting c f b (node s broods log) a found h =
    cell-alike depot path resting c s (at_brood (at_child (λ u. f a) b.child) b.ticket broods) (at_brood (at_child (at_path f []) b.child) b.ticket broods) log
    (λ u.
    brood_of-at (at_child (λ v. f a) b.child) (at_child-none (λ v. f a) b.child) b.ticket u broods
    ∙ by u (eqb b.ticket u) refl
    ∙ sym (brood_of-at (at_child (at_path f []) b.child) (at_child-none (at_path f []) b.child) b.ticket u broods))
    h
  where
    by : (u : ℕ) (same : Bool) → eqb b.ticket u ≡ same
        → cond same (at_child (λ v. f a) b.child (brood_of u broods)) (brood_of u broods) ≡ cond same (at_child (at_path f []) b.child (brood_of u broods)) (brood_of u broods)
    by u false e = refl
    by u true e =
        at_child-agree (λ v. f a) (at_path f []) b.child (brood_of u broods) a (ap (λ i. child_at b.child (brood_of i broods)) (sym (eqb-true b.ticket u e)) ∙ found) refl

-- a child that is still a descriptor is as it was born
born-alone : (path : Path) (key : Key) (seed : Descriptor) (slot : ChildSlot) (a : Tree Member) → SlotShows path key seed slot a → wakes (Some a) ≡ true
    → a ≡ alone forest (machine a)
born-alone path key seed Asleep a h is = h.born ∙ sym (ap (λ (u : Tree Member). alone forest (machine u)) h.born)
born-alone path key seed (Awake name) a h is = let no : true ≡ false = sym is ∙ wakes-slot path key seed (Awake name) a h in absurd (cc)
born-alone path key seed (Ended outcome) a h is = let no : true ≡ false = sym is ∙ wakes-slot path key seed (Ended outcome) a h in absurd (cc)

-- a child of a ticket that is still a descriptor, and its parent
pub record IsSleeper (depot : Shelves) (parent : Path) (ticket index : ℕ) (t : Tree Member) (c : Cell) : Type 0 where
  pub above : Tree Member
  pub child : Tree Member
  pub at : subtree parent t ≡ Some above
  pub shows : CellShows depot parent (rests_in t parent) c above
  pub is_child : child_of ticket index above ≡ Some child
  pub there : subtree (child_path parent ticket index) t ≡ Some child
  pub asleep : is_asleep_at (machine child).machine.place ≡ true
  pub lives : has_ended forest child ≡ false
  pub born : child ≡ alone forest (machine child)

module _ (depot : Shelves) (cells : BTreeMap Path Cell) (parent : Path) (ticket index : ℕ) (t : Tree Member) (h : ShowsCells depot cells t)
    (is : sleeps parent ticket index t ≡ true) where
  pub parent-there : None ≡ get path_cmp cells parent → ⊥
  parent-there none = let no : true ≡ false = sym is ∙ none-sleeps depot cells t h parent ticket index (sym none) in cc

  pub sleeper-of : (c : Cell) → Some c ≡ get path_cmp cells parent → IsSleeper depot parent ticket index t c
  sleeper-of c found =
      let shown = cell-shows depot parent (rests_in t parent) (get path_cmp cells parent) c (subtree parent t) (sym found) (h.shows parent) in
      by shown.0 shown.1 shown.2 (child_of ticket index shown.0) refl (sym (sleeps-by parent ticket index t shown.0 shown.1) ∙ is)
    where
      by : (p : Tree Member) → subtree parent t ≡ Some p → CellShows depot parent (rests_in t parent) c p → (u : Option (Tree Member)) → child_of ticket index p ≡ u
          → wakes u ≡ true → IsSleeper depot parent ticket index t c
      by p at shows None e wake = absurd (cc)
      by p at shows (Some a) e wake =
          let slot = slotted depot parent c ticket index p a shows.holds e in
          let parts = wakes-is a wake in
          record {
            above = p;
            child = a;
            at = at;
            shows = shows;
            is_child = e;
            there = child-below parent ticket index t (Some p) at ∙ e;
            asleep = parts.1;
            lives = parts.0;
            born = born-alone (child_path parent ticket index) slot.key slot.seed slot.slot a slot.shows wake;
          }

lives-ending : (s : Member) → is_some (forest.ending s) ≡ false → s.machine.machine.machine.ending ≡ None
unfolding boxed spots paged_machines machines
lives-ending s lives = lives-none s.machine.machine.machine.ending lives

none-cloned : (s : Member) → IsSound forest (alone forest s) → is_some (forest.ending s) ≡ false → (ticket : ℕ) → is_cloned paged_machines (paged_of s) ticket ≡ false
unfolding broods_with boxed spots
none-cloned s sound lives ticket =
    by (is_cloned forest s ticket) ((root-sound forest s no_brood no_entry sound).one_each (lives-none (forest.ending s) lives) ticket)
  where
    by : (b : Bool) → ◌≡◌ {A = ℕ} 0 (cond b 1 0) → b ≡ false
    by true e = absurd (omega arith)
    by false e = refl

-- the cell of the machine that has woken
pub lent-shows : (depot : Shelves) (cells : BTreeMap Path Cell) (parent : Path) (ticket index : ℕ) (t : Tree Member) (c e : Cell) (m : Paged)
    → ShowsCells depot cells t → (s : IsSleeper depot parent ticket index t c) → m ≡ paged_of (machine s.child)
    → ((d : Shelves) (path : Path) (resting : Bool) (inbox : Inbox) → m.machine.ending ≡ None → ((u : ℕ) → is_cloned paged_machines m u ≡ false)
    → CellShows d path resting e (alone forest (record { machine = record { machine = m; place = out }; inbox = inbox })))
    → (resting : Bool) → CellShows depot (child_path parent ticket index) resting e (placed out s.child)
lent-shows depot cells parent ticket index t c e m h s same shows resting =
    let sound : IsSound forest s.child = subtree-sound forest (child_path parent ticket index) t s.child h.whole.sound s.there in
    let first : m.machine.ending ≡ None = ap (λ (n : Paged). n.machine.ending) same ∙ lives-ending (machine s.child) s.lives in
    let none : (u : ℕ) → is_cloned paged_machines m u ≡ false
    = λ u. ap (λ n. is_cloned paged_machines n u) same ∙ none-cloned (machine s.child) (subst (IsSound forest) s.born sound) s.lives u in
    let inbox : Inbox = (machine s.child).inbox in
    let is : placed out s.child ≡ alone forest (record { machine = record { machine = m; place = out }; inbox = inbox })
    = ap (placed out) s.born ∙ ap (λ n. alone forest (record { machine = record { machine = n; place = out }; inbox = inbox })) (sym same) in
    subst (CellShows depot (child_path parent ticket index) resting e) (sym is) (shows depot (child_path parent ticket index) resting inbox first none)

-- the cells with one more
module _ (cells mid : BTreeMap Path Cell) (parent : Path) (ticket index : ℕ) (name : Path) (e c : Cell) (named : name ≡ child_path parent ticket index)
    (inserted : Updates path_cmp cells mid name (Some e)) (found : Some c ≡ get path_cmp mid parent) where
  not-parent : name ≢ parent
  not-parent same = apart-below parent (record { ticket = ticket; child = index }) [] (sym same ∙ named)

  old-parent : Some c ≡ get path_cmp cells parent
  old-parent = found ∙ updated-apart cells mid name (Some e) inserted parent not-parent

  -- the child was a descriptor in the cells before
  pub sleeper-at : (depot : Shelves) (t : Tree Member) → ShowsCells depot cells t → sleeps parent ticket index t ≡ true → IsSleeper depot parent ticket index t c
  sleeper-at depot t h is = sleeper-of depot cells parent ticket index t h is c old-parent

  -- and with another for its parent
  module _ (new : BTreeMap Path Cell) (d : Cell) (written : WritesThrough path_cmp (path_cmp parent) mid d new) where
    new-parent : get path_cmp new parent ≡ Some d
    new-parent = written-here mid new parent d written (some-is c (get path_cmp mid parent) found)

    new-child : get path_cmp new name ≡ Some e
    new-child =
        written-apart mid new parent d written (some-is c (get path_cmp mid parent) found) name (λ same. not-parent (sym same))
        ∙ updated-here cells mid name (Some e) inserted

    new-other : (n : Path) → name ≢ n → parent ≢ n → get path_cmp new n ≡ get path_cmp cells n
    new-other n other apart_from =
        written-apart mid new parent d written (some-is c (get path_cmp mid parent) found) n apart_from ∙ updated-apart cells mid name (Some e) inserted n other

    pub woken-some : (n : Path) → n ≢ child_path parent ticket index → is_some (get path_cmp new n) ≡ is_some (get path_cmp cells n)
    woken-some n other = elim (same-or-apart parent n) [
      | inl same ↦
          subst (λ m. is_some (get path_cmp new m) ≡ is_some (get path_cmp cells m)) (sym same) (ap is_some new-parent ∙ ap is_some old-parent)
      | inr apart_from ↦ ap is_some (new-other n (λ same. other (sym same ∙ named)) apart_from)
    ]

    pub woken-listed : get path_cmp cells name ≡ None → e.is_listed ≡ false → d.is_listed ≡ c.is_listed → (n : Path)
        → is_listed_in (get path_cmp new n) ≡ is_listed_in (get path_cmp cells n)
    woken-listed none unlisted as_before n = elim (same-or-apart name n) [
      | inl same ↦
          subst (λ m. is_listed_in (get path_cmp new m) ≡ is_listed_in (get path_cmp cells m)) (sym same)
          (ap is_listed_in new-child ∙ unlisted ∙ sym (ap is_listed_in none))
      | inr other ↦ elim (same-or-apart parent n) [
        | inl same ↦
            subst (λ m. is_listed_in (get path_cmp new m) ≡ is_listed_in (get path_cmp cells m)) (sym same)
            (ap is_listed_in new-parent ∙ as_before ∙ ap is_listed_in old-parent)
        | inr apart_from ↦ ap is_listed_in (new-other n other apart_from)
      ]
    ]

    pub woken-cells : (depot : Shelves) (t : Tree Member) → ShowsCells depot cells t → (s : IsSleeper depot parent ticket index t c)
        → ((resting : Bool) → CellShows depot (child_path parent ticket index) resting e (placed out s.child))
        → CellShows depot parent (rests_in t parent) d (with_child ticket index (placed out s.child) s.above)
        → ShowsCells depot new (at_path (placed out) (child_path parent ticket index) t)
    woken-cells depot t h s lent waked =
        let b : Branch = record { ticket = ticket; child = index } in
        let path : Path = child_path parent ticket index in
        cells-taken depot cells new t s.child path s.there h
        (λ n other one.
        new-other n (λ same. other (sym named ∙ same))
        (λ same. let no : true ≡ false = sym (ap is_one (beyond-append parent (b ∷ []))) ∙ ap (λ m. is_one (beyond m path)) same ∙ one in cc))
        (subst (λ o. Shows depot path (rests_in t path) o (Some (placed out s.child))) (sym (ap (λ m. get path_cmp new m) (sym named) ∙ new-child)) (lent (rests_in t path)))
        (λ n x none far.
        let same : parent ≡ n = (last-same parent n b x (beyond-is n path (x ∷ []) far)).0 in
        subst (λ m. Shows depot m (rests_in t m) (get path_cmp new m) (subtree m (at_path (placed out) path t))) same
        (subst (λ o. Shows depot parent (rests_in t parent) o (subtree parent (at_path (placed out) path t))) (sym new-parent)
        (subst (Shows depot parent (rests_in t parent) (Some d))
        (sym
        (outside (placed out) path parent t (Some (b ∷ [])) (beyond-parent parent b []) (beyond-append parent (b ∷ []))
        ∙ ap (option_map (at_beyond (placed out) (Some (b ∷ [])))) s.at))
        (with-child-path depot parent (rests_in t parent) d (placed out) b s.above s.child s.is_child waked))))

-- a machine that is still a descriptor has no cell
pub sleeper-no_cell : (depot : Shelves) (cells : BTreeMap Path Cell) (parent : Path) (ticket index : ℕ) (t : Tree Member) (c : Cell) → ShowsCells depot cells t
    → IsSleeper depot parent ticket index t c → get path_cmp cells (child_path parent ticket index) ≡ None
sleeper-no_cell depot cells parent ticket index t c h s =
    by (get path_cmp cells (child_path parent ticket index))
    (subst (Shows depot (child_path parent ticket index) (rests_in t (child_path parent ticket index)) (get path_cmp cells (child_path parent ticket index))) s.there
    (h.shows (child_path parent ticket index)))
  where
    by : (o : Option Cell) → Shows depot (child_path parent ticket index) (rests_in t (child_path parent ticket index)) o (Some s.child) → o ≡ None
    by None h = refl
    by (Some cell) h = let no : true ≡ false = sym s.asleep ∙ h.awake.awake in absurd (cc)

-- the parent keeps its cell as a child gets one
pub parent-still : (cells mid : BTreeMap Path Cell) (parent : Path) (ticket index : ℕ) (name : Path) (e : Cell) → name ≡ child_path parent ticket index
    → Updates path_cmp cells mid name (Some e) → get path_cmp mid parent ≡ get path_cmp cells parent
parent-still cells mid parent ticket index name e named inserted =
    updated-apart cells mid name (Some e) inserted parent (λ same. apart-below parent (record { ticket = ticket; child = index }) [] (sym same ∙ named))

-- it knows how many the children of its ticket are
pub sleeper-siblings : (depot : Shelves) (cells : BTreeMap Path Cell) (parent : Path) (ticket index : ℕ) (t : Tree Member) (c : Cell) → ShowsCells depot cells t
    → (s : IsSleeper depot parent ticket index t c) → siblings_of (machine s.child) ≡ size (brood_of ticket (broods_of s.above))
sleeper-siblings depot cells parent ticket index t c h s =
    (member-of (spots paged_machines) (spot_talks paged_talks) parent (record { ticket = ticket; child = index }) t s.above s.child h.whole.members s.at s.is_child).siblings

-- ---- a child that does not wake for want of memory

pub no-lease : (depot : Shelves) (path : Path) (r : Result Lent AllocError) → IsErr r
    → IfOk r (λ (l : Lent). (l.name ≡ path) × (l.ran ≡ 0) × (l.now ≡ l.start) × IsLentOf depot l)
no-lease depot path (Ok l) failed = absurd (cc)
no-lease depot path (Err e) failed = tt

pub no-start : (t : Tree Member) (r : Result Lent AllocError) → IsErr r
    → IfOk r (λ (l : Lent). IfSome (subtree l.name t) (λ (a : Tree Member). (paged_of (machine a)) ≡ now_of l))
no-start t (Ok l) failed = absurd (cc)
no-start t (Err e) failed = tt

pub not-ok : (X : Type 0) (r : Result Lent AllocError) → IsErr r → OnOk r X
not-ok X (Ok l) failed = absurd (cc)
not-ok X (Err e) failed = tt

pub on-err : (X : Type 0) (r : Result Lent AllocError) → X → OnErr r X
on-err X (Ok l) is = tt
on-err X (Err e) is = is
