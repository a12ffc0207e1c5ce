-- What a family leaves that is stuck: the outcomes of its machines, the longest names first.
use Rattle.std.proofs.Common.{◌≡◌, ◌≢◌, inl, inr, ℕ, zero, suc, ◌+◌, ◌-◌, ◌<◌, ◌≤◌, Bool, true, false, refl, sym, ap, ap₂, ◌∙◌, subst, arith, List, [], ◌∷◌, ◌++◌, length, length-append}
use Rattle.std.proofs.Common.{Option, Some, None, IsSome, is_some, eqb, eqb-true, slice_set, vec_len}
use Rattle.std.specs.List.{flat_map}
use Rattle.std.specs.Map.{lookup}
use Rattle.std.specs.Option.{IfSome, IsSomeAnd}
use Rattle.std.specs.Ordering.{nat_cmp}
use Rattle.std.specs.BTreeMap.{BTreeMap, IsOrdered, IsUpperBound, Updates, WritesThrough, btree_map_len, get, is_at}
use Rattle.std.specs.Global.{Vec}
use Rattle.std.proofs.lemmas.List.{same_from_push}
use Rattle.forest_tree.specs.Operations.{is_among, is_cloned}
use Rattle.forest_tree.specs.Tree.{Broods, Log, Tree, Trees, node, no_tree, tree, machine, broods_of, brood_of, child_at, Branch, Path, subtree}
use Rattle.forest_tree.specs.Step.{has_ended}
use Rattle.forest_tree.proofs.Broods.{eqb-same}
use Rattle.forest_tree.proofs.Places.{some-same}
use Rattle.forest_tree.proofs.Sound.{root-sound}
use Rattle.sibling_forest.specs.Talk.{boxed}
use Rattle.talking_history.specs.Places.{spots}
use Rattle.forest_model.specs.Forest.{machines}
use Rattle.forest_model.specs.Paged.{Paged, paged_machines}
use Rattle.vm_cell.specs.Keyed.{paged}
use Rattle.machine_names.specs.Name.{child_path}
use Rattle.machine_names.specs.NameOrder.{path_cmp}
use Rattle.machine_names.proofs.NameMaps.{updated-apart, updated-here}
use Rattle.run_report.specs.Lines.{Line, lines, log_lines, machine_line, trees_lines}
use Rattle.run_report.specs.Report.{Ended as Report, lines_of}
use Rattle.run_report.proofs.Begin.{lines-all}
use Rattle.world_core.specs.declared.cell.Brood.{Brood}
use Rattle.world_core.specs.declared.cell.Cell.{Cell}
use Rattle.world_core.specs.declared.cell.ChildSlot.{ChildSlot}
use Rattle.world_core.specs.declared.cell.ChildSlot.TheVariants.{Asleep, Awake, Ended}
use Rattle.world_core.specs.declared.cell.State.{State}
use Rattle.world_core.specs.declared.cell.State.TheVariants.{Home, Parked, Out}
use Rattle.world_core.specs.declared.world.parting.Parting.{Parting}
use Rattle.world_core.specs.Broods.{slot_lines}
use Rattle.world_core.specs.Outcome.{AreAlike, AreSlotsOf, BroodTells, Cells, CellTells, CellsTell, ChildrenTell, IsPartingOf, LeavesAs, NoneBelow, Partings, PartingTells}
use Rattle.world_core.specs.Outcome.{PartingsTell, PutsOutcome, SlotTells, Slots, SlotsTell, StateTells, children_lines, is_parked}
use Rattle.world_core.specs.Shows.{Member, child_of, forest, paged_of, told_member}
use Rattle.world_core.proofs.Awake.{child-below}
use Rattle.world_core.proofs.Depths.{beyond-longest, no-entries, none-left}
use Rattle.world_core.proofs.LogKilled.{BroodOf, Paired, good_sorted, in_pairs}
use Rattle.world_core.proofs.Returns.{same-or-apart, written-apart, written-here}

-- ---- the lines of a machine whose children have left theirs

module _ (partings : Partings) (path : Path) (none : NoneBelow partings path) where
  slot-left : (ticket k : ℕ) (slot : ChildSlot) (t : Tree Member) → SlotTells partings (child_path path ticket k) slot t
      → (outcome : Report) × (slot ≡ Ended outcome) × (lines_of outcome ≡ lines told_member (child_path path ticket k) t)
  slot-left ticket k Asleep t h = absurd h
  slot-left ticket k (Awake name) t h = let no : true ≡ false = sym h ∙ ap is_some (none ticket k) in absurd (cc)
  slot-left ticket k (Ended outcome) t h = (outcome, refl, h)

  slots-left : (ticket k : ℕ) (slots : List ChildSlot) (trees : Trees Member) → SlotsTell partings path ticket k slots trees
      → slot_lines slots ≡ trees_lines told_member path ticket k trees
  unfolding SlotsTell lines
  slots-left ticket k [] no_tree h = refl
  slots-left ticket k [] (tree t rest) h = absurd h
  slots-left ticket k (slot ∷ slots) no_tree h = absurd h
  slots-left ticket k (slot ∷ slots) (tree t rest) h =
      let left = slot-left ticket k slot t h.0 in
      ap (λ (s : ChildSlot). slot_lines (s ∷ slots)) left.1
      ∙ ap₂ (λ (own : List Line) (others : List Line). own ++ others) left.2 (slots-left ticket (suc k) slots rest h.1)

  module _ (broods : Broods Member) where
    abbrev HasLines : ℕ → Slots → Type 0
    HasLines u slots = slot_lines slots.items ≡ trees_lines told_member path u 1 (brood_of u broods)

    children-left : (u : ℕ) (o : Option Slots) (cloned : Bool) → ChildrenTell partings path u o cloned (brood_of u broods) → BroodOf HasLines u o cloned
    children-left u None false h = tt
    children-left u None true h = absurd h
    children-left u (Some slots) false h = absurd h
    children-left u (Some slots) true h = slots-left u 1 slots.items (brood_of u broods) h

    paired-lines : (entries : List (ℕ × Slots)) (tickets : List ℕ) → Paired HasLines entries tickets
        → flat_map children_lines entries ≡ flat_map (λ t. trees_lines told_member path t 1 (brood_of t broods)) tickets
    unfolding Paired
    paired-lines [] [] h = refl
    paired-lines [] (t ∷ ts) h = absurd h
    paired-lines (e ∷ es) [] h = absurd h
    paired-lines (e ∷ es) (t ∷ ts) h = ap₂ (λ (own : List Line) (others : List Line). own ++ others) h.1 (paired-lines es ts h.2)

  none-by : {A : Type 0} (o : Option A) → is_some o ≡ false → o ≡ None
  none-by None h = refl
  none-by (Some a) h = absurd (cc)

  lives-none : (b : Member) (broods : Broods Member) (log : Log Member) → has_ended forest (node b broods log) ≡ false → told_member.ending b ≡ None
  unfolding boxed spots paged_machines machines
  lives-none b broods log h = none-by b.machine.machine.machine.ending h

  pub stuck-lines : (p : Parting) (t : Tree Member) (outcome : Report) → PartingTells partings path p t → IsOrdered nat_cmp p.children
      → outcome.name ≡ p.name → outcome.ending ≡ None → outcome.steps ≡ p.steps → outcome.output ≡ p.output.items
      → outcome.log ≡ p.log.items ++ flat_map children_lines p.children.entries → lines_of outcome ≡ lines told_member path t
  unfolding lines_of boxed spots paged_machines machines
  stuck-lines p (node b broods log) outcome h ordered name ending steps output told =
      let cloned : List ℕ = told_member.cloned b in
      let good = (root-sound forest b broods log h.sound).good in
      let children = paired-lines broods p.children.entries cloned
      (in_pairs (HasLines broods) p.children.entries cloned ordered (good_sorted b good)
      (λ u. children-left broods u (lookup (is_at (nat_cmp u)) p.children.entries) (is_among u cloned) (h.children u))) in
      ap (λ (n : Path). machine_line n outcome.ending outcome.steps outcome.output ∷ outcome.log) (name ∙ h.name)
      ∙ ap (λ e. machine_line path e outcome.steps outcome.output ∷ outcome.log) (ending ∙ sym (lives-none b broods log h.lives))
      ∙ ap (λ n. machine_line path (told_member.ending b) n outcome.output ∷ outcome.log) (steps ∙ h.steps)
      ∙ ap (λ bytes. machine_line path (told_member.ending b) (told_member.steps b) bytes ∷ outcome.log) (output ∙ h.output)
      ∙ ap (λ rest. machine_line path (told_member.ending b) (told_member.steps b) (told_member.output b) ∷ rest)
      (told ∙ ap (λ front. front ++ flat_map children_lines p.children.entries) h.log
      ∙ ap (λ back. log_lines told_member path log ++ back) children)
      ∙ sym (lines-all told_member path b broods log)

-- ---- other entries for the same slots

module _ {C D : Type 0} (old : BTreeMap Path C) (new : BTreeMap Path D) (path : Path) (ticket : ℕ) where
  slot-again : (k : ℕ) (slot : ChildSlot) (t : Tree Member)
      → (IsSome (get path_cmp old (child_path path ticket k)) → IsSome (get path_cmp new (child_path path ticket k)))
      → SlotTells old (child_path path ticket k) slot t → SlotTells new (child_path path ticket k) slot t
  slot-again k Asleep t keeps h = h
  slot-again k (Awake name) t keeps h = keeps h
  slot-again k (Ended outcome) t keeps h = h

  slots-again : (k : ℕ) (slots : List ChildSlot) (trees : Trees Member)
      → ((i : ℕ) → k ≤ i → IsSome (get path_cmp old (child_path path ticket i)) → IsSome (get path_cmp new (child_path path ticket i)))
      → SlotsTell old path ticket k slots trees → SlotsTell new path ticket k slots trees
  unfolding SlotsTell
  slots-again k [] no_tree keeps h = tt
  slots-again k [] (tree t rest) keeps h = absurd h
  slots-again k (slot ∷ slots) no_tree keeps h = absurd h
  slots-again k (slot ∷ slots) (tree t rest) keeps h =
      (slot-again k slot t (keeps k (omega arith)) h.0, slots-again (suc k) slots rest (λ i le. keeps i (omega arith)) h.1)

-- ---- what cells leave

-- a machine that is stuck is parked
never-apart : (path : Path) (state : State) (b : Member) → StateTells path state b → is_parked state ≡ true
never-apart path (Home vm) b h = absurd h
never-apart path (Parked awaited vm turn) b h = refl
never-apart path Out b h = absurd h

pub all-parked : (cells : Cells) (t : Tree Member) → CellsTell cells t → (name : Path) → IfSome (get path_cmp cells name) (λ c. is_parked c.state ≡ true)
all-parked cells t tells name = by (get path_cmp cells name) (tells.each name)
  where
    there : (c : Cell) (u : Option (Tree Member)) → IsSomeAnd u (CellTells cells name c) → is_parked c.state ≡ true
    there c None h = absurd h
    there c (Some a) h = never-apart name c.state (machine a) h.state

    by : (o : Option Cell) → IfSome o (λ c. IsSomeAnd (subtree name t) (CellTells cells name c)) → IfSome o (λ c. is_parked c.state ≡ true)
    by None h = tt
    by (Some c) h = there c (subtree name t) h

leaves : (path : Path) (state : State) (b : Member) (p : Parting) → StateTells path state b → LeavesAs state p
    → (p.steps ≡ told_member.steps b) × (p.output.items ≡ told_member.output b)
leaves path (Home vm) b p h left = absurd h
leaves path (Parked awaited vm turn) b p h left = (
  left.0 ∙ ap (λ (m : Paged). m.machine.steps) h.0,
  left.1 ∙ ap (λ (m : Paged). m.machine.state.ports.console.output) h.0,
)
leaves path Out b p h left = absurd h

module _ (cells : Cells) (partings : Partings)
    (alike : (name : Path) → AreAlike (IsPartingOf name) (get path_cmp cells name) (get path_cmp partings name)) where
  as-many : (name : Path) → is_some (get path_cmp cells name) ≡ is_some (get path_cmp partings name)
  as-many name = by name (get path_cmp cells name) (get path_cmp partings name) (alike name)
    where
      by : (name : Path) (o : Option Cell) (p : Option Parting) → AreAlike (IsPartingOf name) o p → is_some o ≡ is_some p
      by name None p h = sym (ap is_some h)
      by name (Some c) None h = absurd h
      by name (Some c) (Some p) h = refl

  children-told : (path : Path) (ticket : ℕ) (o : Option Brood) (s : Option Slots) (cloned : Bool) (trees : Trees Member) → AreAlike AreSlotsOf o s
      → BroodTells cells path ticket o cloned trees → ChildrenTell partings path ticket s cloned trees
  children-told path ticket None s false trees same h = subst (λ x. ChildrenTell partings path ticket x false trees) (sym same) h
  children-told path ticket None s true trees same h = absurd h
  children-told path ticket (Some b) None cloned trees same h = absurd same
  children-told path ticket (Some b) (Some slots) false trees same h = absurd h
  children-told path ticket (Some b) (Some slots) true trees same h =
      subst (λ items. SlotsTell partings path ticket 1 items trees) (sym same)
      (slots-again cells partings path ticket 1 b.slots.items trees (λ i le some. sym (as-many (child_path path ticket i)) ∙ some) h)

  parting-told : (path : Path) (c : Cell) (p : Parting) (t : Tree Member) → IsPartingOf path c p → CellTells cells path c t → PartingTells partings path p t
  parting-told path c p t is h =
      let left = leaves path c.state (machine t) p h.state is.leaves in
      record {
        lives = h.lives;
        sound = h.sound;
        name = is.named;
        steps = left.0;
        output = left.1;
        log = is.log ∙ h.log;
        children = λ ticket.
            children-told path ticket (get nat_cmp c.broods ticket) (get nat_cmp p.children ticket) (is_cloned forest (machine t) ticket)
            (brood_of ticket (broods_of t)) (is.children ticket) (h.broods ticket);
      }

  pub partings-tell : (t : Tree Member) → CellsTell cells t → PartingsTell partings t
  partings-tell t tells = record {
    root = sym (as-many []) ∙ tells.root;
    above = λ parent ticket k some. sym (as-many parent) ∙ tells.above parent ticket k (as-many (child_path parent ticket k) ∙ some);
    each = λ path. by path (get path_cmp cells path) (get path_cmp partings path) (alike path) (tells.each path);
  }
    where
      there : (path : Path) (c : Cell) (p : Parting) (u : Option (Tree Member)) → IsPartingOf path c p → IsSomeAnd u (CellTells cells path c)
          → IsSomeAnd u (PartingTells partings path p)
      there path c p None is h = h
      there path c p (Some a) is h = parting-told path c p a is h

      by : (path : Path) (o : Option Cell) (s : Option Parting) → AreAlike (IsPartingOf path) o s
          → IfSome o (λ c. IsSomeAnd (subtree path t) (CellTells cells path c)) → IfSome s (λ p. IsSomeAnd (subtree path t) (PartingTells partings path p))
      by path None s same h = subst (λ x. IfSome x (λ p. IsSomeAnd (subtree path t) (PartingTells partings path p))) (sym same) tt
      by path (Some c) None same h = absurd same
      by path (Some c) (Some p) same h = there path c p (subtree path t) same h

-- ---- what is left once a machine's outcome is in its parent's slot

module _ (old new : Partings) (path : Path) (ticket : ℕ) where
  children-again : (o : Option Slots) (cloned : Bool) (trees : Trees Member)
      → ((i : ℕ) → IsSome (get path_cmp old (child_path path ticket i)) → IsSome (get path_cmp new (child_path path ticket i)))
      → ChildrenTell old path ticket o cloned trees → ChildrenTell new path ticket o cloned trees
  children-again None false trees keeps h = h
  children-again None true trees keeps h = absurd h
  children-again (Some slots) false trees keeps h = absurd h
  children-again (Some slots) true trees keeps h = slots-again old new path ticket 1 slots.items trees (λ i le. keeps i) h

  slot-put : (k : ℕ) (slots : List ChildSlot) (trees : Trees Member) (j : ℕ) (outcome : Report) (a : Tree Member) → child_at (suc j) trees ≡ Some a
      → lines_of outcome ≡ lines told_member (child_path path ticket (k + j)) a
      → ((i : ℕ) → i ≢ k + j → IsSome (get path_cmp old (child_path path ticket i)) → IsSome (get path_cmp new (child_path path ticket i)))
      → SlotsTell old path ticket k slots trees → SlotsTell new path ticket k (slice_set slots j (Ended outcome)) trees
  unfolding SlotsTell child_at
  slot-put k [] no_tree j outcome a there is keeps h = tt
  slot-put k [] (tree t rest) j outcome a there is keeps h = absurd h
  slot-put k (slot ∷ slots) no_tree j outcome a there is keeps h = absurd h
  slot-put k (slot ∷ slots) (tree t rest) zero outcome a there is keeps h =
      let at : k + 0 ≡ k = omega arith in (
        subst (λ n. lines_of outcome ≡ lines told_member (child_path path ticket n) t) at
            (subst (λ u. lines_of outcome ≡ lines told_member (child_path path ticket (k + 0)) u) (sym (some-same t a there)) is),
        slots-again old new path ticket (suc k) slots rest (λ i le. keeps i (λ same. omega (arith, same))) h.1,
      )
  slot-put k (slot ∷ slots) (tree t rest) (suc j) outcome a there is keeps h =
      let at : k + suc j ≡ suc k + j = omega arith in (
        slot-again old new path ticket k slot t (keeps k (λ same. omega (arith, same))) h.0,
        slot-put (suc k) slots rest j outcome a there (subst (λ n. lines_of outcome ≡ lines told_member (child_path path ticket n) a) at is)
            (λ i apart. keeps i (λ same. apart (same ∙ at))) h.1,
      )

-- the place of a child among the slots
told-within : (partings : Partings) (path : Path) (ticket k : ℕ) (slots : List ChildSlot) (trees : Trees Member) (j : ℕ) (a : Tree Member)
    → SlotsTell partings path ticket k slots trees → child_at j trees ≡ Some a → (1 ≤ j) × (j - 1 < length slots)
unfolding SlotsTell child_at
told-within partings path ticket k slots no_tree j a h there = absurd (cc)
told-within partings path ticket k [] (tree t rest) j a h there = absurd h
told-within partings path ticket k (slot ∷ slots) (tree t rest) zero a h there = absurd (cc)
told-within partings path ticket k (slot ∷ slots) (tree t rest) (suc zero) a h there = (omega arith, omega arith)
told-within partings path ticket k (slot ∷ slots) (tree t rest) (suc (suc j)) a h there =
    let later = told-within partings path ticket (suc k) slots rest (suc j) a h.1 there in
    (omega arith, omega (arith, later.1))

children-within : (partings : Partings) (path : Path) (ticket k : ℕ) (o : Option Slots) (cloned : Bool) (trees : Trees Member) (a : Tree Member)
    → ChildrenTell partings path ticket o cloned trees → child_at k trees ≡ Some a → (1 ≤ k) × IsSomeAnd o (λ (slots : Slots). k - 1 < vec_len slots)
unfolding child_at
children-within partings path ticket k None false trees a h there = let no : None ≡ Some a = sym (ap (child_at k) h) ∙ there in absurd (cc)
children-within partings path ticket k None true trees a h there = absurd h
children-within partings path ticket k (Some slots) false trees a h there = absurd h
children-within partings path ticket k (Some slots) true trees a h there =
    let within = told-within partings path ticket 1 slots.items trees k a h there in
    (within.0, subst (λ n. k - 1 < n) (sym slots.ok.0) within.1)

other-name : (path parent : Path) (u ticket i k : ℕ) → child_path path u i ≡ child_path parent ticket k → (path ≡ parent) × (u ≡ ticket) × (i ≡ k)
other-name path parent u ticket i k same =
    let parts = same_from_push path parent (record { ticket = u; child = i }) (record { ticket = ticket; child = k }) same in
    (parts.0, ap (λ (b : Branch). b.ticket) parts.1, ap (λ (b : Branch). b.child) parts.1)

parting-again : (old new : Partings) (path : Path) (p : Parting) (t : Tree Member)
    → ((ticket i : ℕ) → IsSome (get path_cmp old (child_path path ticket i)) → IsSome (get path_cmp new (child_path path ticket i)))
    → PartingTells old path p t → PartingTells new path p t
parting-again old new path p t keeps h = record {
  lives = h.lives;
  sound = h.sound;
  name = h.name;
  steps = h.steps;
  output = h.output;
  log = h.log;
  children = λ ticket.
      children-again old new path ticket (get nat_cmp p.children ticket) (is_cloned forest (machine t) ticket) (brood_of ticket (broods_of t)) (keeps ticket)
      (h.children ticket);
}

-- what is left at a name tells of the machine of that name
pub told-parting : (partings : Partings) (t : Tree Member) (name : Path) (p : Parting) → PartingsTell partings t → get path_cmp partings name ≡ Some p
    → (a : Tree Member) × (subtree name t ≡ Some a) × PartingTells partings name p a
told-parting partings t name p h found =
    by (subtree name t) (subst (λ o. IfSome o (λ x. IsSomeAnd (subtree name t) (PartingTells partings name x))) found (h.each name))
  where
    by : (u : Option (Tree Member)) → IsSomeAnd u (PartingTells partings name p) → (a : Tree Member) × (u ≡ Some a) × PartingTells partings name p a
    by None is = absurd is
    by (Some a) is = (a, refl, is)

-- no child of the longest name is there
pub none-longer : (partings : Partings) (name : Path) → IsUpperBound path_cmp partings name → NoneBelow partings name
none-longer partings name bound ticket k =
    beyond-longest partings name (child_path name ticket k) bound (omega (arith, length-append name (record { ticket = ticket; child = k } ∷ [])))

-- what the root left
pub root-left : (partings : Partings) (t : Tree Member) (name : Path) (p : Parting) (tells : PartingsTell partings t) (found : get path_cmp partings name ≡ Some p)
    (outcome : Report) → name ≡ [] → lines_of outcome ≡ lines told_member name (told-parting partings t name p tells found).0 → lines_of outcome ≡ lines told_member [] t
unfolding subtree
root-left partings t name p tells found outcome is left =
    let its = told-parting partings t name p tells found in
    let same : Some t ≡ Some its.0 = ap (λ n. subtree n t) (sym is) ∙ its.1 in
    left ∙ ap (λ n. lines told_member n its.0) is ∙ ap (lines told_member []) (sym (some-same t its.0 same))

-- the root is there as long as it has not left its outcome
pub root-there : (partings : Partings) (t : Tree Member) → PartingsTell partings t → (0 < btree_map_len partings → ⊥) → ⊥
root-there partings t tells none =
    let no : true ≡ false = sym tells.root ∙ ap is_some (none-left partings [] (no-entries partings.entries none)) in
    absurd (cc)

-- the machine of the longest name left its outcome
module _ (t : Tree Member) (old mid : Partings) (name parent : Path) (ticket k : ℕ) (parting : Parting) (tells : PartingsTell old t)
    (is : name ≡ child_path parent ticket k) (found : get path_cmp old name ≡ Some parting) (bound : IsUpperBound path_cmp old name)
    (gone : Updates path_cmp old mid name None) where
  not-root : name ≢ []
  not-root e =
      let long : length name ≡ length parent + 1 = ap length is ∙ length-append parent (record { ticket = ticket; child = k } ∷ []) in
      let none : length name ≡ 0 = ap length e in
      omega arith

  apart-parent : name ≢ parent
  apart-parent e =
      let long : length name ≡ length parent + 1 = ap length is ∙ length-append parent (record { ticket = ticket; child = k } ∷ []) in
      let same : length name ≡ length parent = ap length e in
      omega arith

  mid-apart : (q : Path) → name ≢ q → get path_cmp mid q ≡ get path_cmp old q
  mid-apart = updated-apart old mid name None gone

  -- its parent is still there
  pub parent-there : IsSome (get path_cmp mid parent)
  parent-there =
      ap is_some (mid-apart parent apart-parent)
      ∙ tells.above parent ticket k (subst (λ n. IsSome (get path_cmp old n)) is (ap is_some found))

  module _ (above : Parting) (at : get path_cmp mid parent ≡ Some above) where
    abbrev pub its-tree : (a : Tree Member) × (subtree name t ≡ Some a) × PartingTells old name parting a
    its-tree = told-parting old t name parting tells found

    above-tree : (u : Tree Member) × (subtree parent t ≡ Some u) × PartingTells old parent above u
    above-tree = told-parting old t parent above tells (sym (mid-apart parent apart-parent) ∙ at)

    its-place : child_of ticket k above-tree.0 ≡ Some its-tree.0
    its-place = sym (child-below parent ticket k t (Some above-tree.0) above-tree.1) ∙ ap (λ n. subtree n t) (sym is) ∙ its-tree.1

    pub slot-there : (1 ≤ k) × IsSomeAnd (get nat_cmp above.children ticket) (λ (slots : Slots). k - 1 < vec_len slots)
    slot-there =
        let u : Tree Member = above-tree.0 in
        children-within old parent ticket k (get nat_cmp above.children ticket) (is_cloned forest (machine u) ticket) (brood_of ticket (broods_of u)) its-tree.0
        (above-tree.2.children ticket) its-place

    module _ (after : Parting) (new : Partings) (written : WritesThrough path_cmp (path_cmp parent) mid after new) (outcome : Report)
        (left : lines_of outcome ≡ lines told_member name its-tree.0) (puts : PutsOutcome outcome ticket k above after) where
      new-there : get path_cmp new parent ≡ Some after
      new-there = written-here mid new parent after written parent-there

      new-apart : (q : Path) → parent ≢ q → get path_cmp new q ≡ get path_cmp mid q
      new-apart = written-apart mid new parent after written parent-there

      keeps : (q : Path) → name ≢ q → IsSome (get path_cmp old q) → IsSome (get path_cmp new q)
      keeps q apart some = elim (same-or-apart parent q) [
        | inl same ↦ ap (λ n. is_some (get path_cmp new n)) same ∙ ap is_some new-there
        | inr other ↦ ap is_some (new-apart q other ∙ mid-apart q apart) ∙ some
      ]

      had : (q : Path) → IsSome (get path_cmp new q) → IsSome (get path_cmp old q)
      had q some = elim (same-or-apart parent q) [
        | inl same ↦ ap (λ n. is_some (get path_cmp old n)) same ∙ sym (ap is_some (mid-apart parent apart-parent)) ∙ parent-there
        | inr other ↦ elim (same-or-apart name q) [
          | inl itself ↦ ap (λ n. is_some (get path_cmp old n)) itself ∙ ap is_some found
          | inr apart ↦ sym (ap is_some (new-apart q other ∙ mid-apart q apart)) ∙ some
        ]
      ]

      -- the children of the ticket
      put-children : (trees : Trees Member) (cloned : Bool) (o p : Option Slots) → child_at k trees ≡ Some its-tree.0
          → IsSomeAnd o (λ before. IsSomeAnd p (λ after. after.items ≡ slice_set before.items (k - 1) (Ended outcome)))
          → ChildrenTell old parent ticket o cloned trees → ChildrenTell new parent ticket p cloned trees
      put-children trees cloned None p there put h = absurd put
      put-children trees cloned (Some s) None there put h = absurd put
      put-children trees false (Some s) (Some n) there put h = absurd h
      put-children trees true (Some s) (Some n) there put h =
          let first : 1 ≤ k = slot-there.0 in
          let next : suc (k - 1) ≡ k = omega arith in
          let next_one : 1 + (k - 1) ≡ k = omega arith in
          subst (λ slots. SlotsTell new parent ticket 1 slots trees) (sym put)
          (slot-put old new parent ticket 1 s.items trees (k - 1) outcome its-tree.0 (ap (λ n. child_at n trees) next ∙ there)
          (left ∙ ap (λ n. lines told_member n its-tree.0) is ∙ ap (λ n. lines told_member (child_path parent ticket n) its-tree.0) (sym next_one))
          (λ i apart some.
          keeps (child_path parent ticket i) (λ same. apart ((other-name parent parent ticket ticket i k (sym same ∙ is)).2 ∙ sym next_one)) some)
          h)

      above-again : PartingTells new parent after above-tree.0
      above-again =
          let h = above-tree.2 in
          record {
            lives = h.lives;
            sound = h.sound;
            name = ap (λ (p : Parting). p.name) puts.rest ∙ h.name;
            steps = ap (λ (p : Parting). p.steps) puts.rest ∙ h.steps;
            output = ap (λ (p : Parting). p.output.items) puts.rest ∙ h.output;
            log = ap (λ (p : Parting). p.log.items) puts.rest ∙ h.log;
            children = λ v. by v (eqb v ticket) refl;
          }
        where
          by : (v : ℕ) (same : Bool) → eqb v ticket ≡ same
              → ChildrenTell new parent v (get nat_cmp after.children v) (is_cloned forest (machine above-tree.0) v) (brood_of v (broods_of above-tree.0))
          by v true e =
              subst (λ n. ChildrenTell new parent n (get nat_cmp after.children n) (is_cloned forest (machine above-tree.0) n) (brood_of n (broods_of above-tree.0)))
              (sym (eqb-true v ticket e))
              (put-children (brood_of ticket (broods_of above-tree.0)) (is_cloned forest (machine above-tree.0) ticket) (get nat_cmp above.children ticket)
              (get nat_cmp after.children ticket) its-place puts.slots (above-tree.2.children ticket))
          by v false e =
              let other : v ≢ ticket = λ same. let no : true ≡ false = sym (ap (λ n. eqb n ticket) same ∙ eqb-same ticket) ∙ e in cc in
              subst (λ s. ChildrenTell new parent v s (is_cloned forest (machine above-tree.0) v) (brood_of v (broods_of above-tree.0))) (sym (puts.others v other))
              (children-again old new parent v (get nat_cmp above.children v) (is_cloned forest (machine above-tree.0) v) (brood_of v (broods_of above-tree.0))
              (λ i some. keeps (child_path parent v i) (λ same. other (other-name parent parent v ticket i k (sym same ∙ is)).1) some)
              (above-tree.2.children v))

      each-again : (path : Path) → IfSome (get path_cmp new path) (λ p. IsSomeAnd (subtree path t) (PartingTells new path p))
      each-again path = elim (same-or-apart parent path) [
        | inl same ↦
            subst (λ n. IfSome (get path_cmp new n) (λ p. IsSomeAnd (subtree n t) (PartingTells new n p))) (sym same)
            (subst (λ o. IfSome o (λ p. IsSomeAnd (subtree parent t) (PartingTells new parent p))) (sym new-there)
            (subst (λ o. IsSomeAnd o (PartingTells new parent after)) (sym above-tree.1) above-again))
        | inr other ↦ elim (same-or-apart name path) [
          | inl itself ↦
              subst (λ n. IfSome (get path_cmp new n) (λ p. IsSomeAnd (subtree n t) (PartingTells new n p))) (sym itself)
              (subst (λ o. IfSome o (λ p. IsSomeAnd (subtree name t) (PartingTells new name p)))
              (sym (new-apart name (λ same. apart-parent (sym same)) ∙ updated-here old mid name None gone)) tt)
          | inr apart ↦
              subst (λ o. IfSome o (λ p. IsSomeAnd (subtree path t) (PartingTells new path p))) (sym (new-apart path other ∙ mid-apart path apart))
              (by (get path_cmp old path) (λ ticket' i some. keeps (child_path path ticket' i)
              (λ same. other (sym (other-name path parent ticket' ticket i k (sym same ∙ is)).0)) some)
              (tells.each path))
        ]
      ]
        where
          by : (o : Option Parting)
              → ((u i : ℕ) → IsSome (get path_cmp old (child_path path u i)) → IsSome (get path_cmp new (child_path path u i)))
              → IfSome o (λ p. IsSomeAnd (subtree path t) (PartingTells old path p)) → IfSome o (λ p. IsSomeAnd (subtree path t) (PartingTells new path p))
          by None keeping h = tt
          by (Some p) keeping h = there (subtree path t) h
            where
              there : (u : Option (Tree Member)) → IsSomeAnd u (PartingTells old path p) → IsSomeAnd u (PartingTells new path p)
              there None h = h
              there (Some a) h = parting-again old new path p a keeping h

      pub partings-again : PartingsTell new t
      partings-again = record {
        root = keeps [] not-root tells.root;
        above = λ p u i some.
            keeps p (λ same. let longer : true ≡ false = sym (had (child_path p u i) some)
            ∙ ap is_some (subst (λ q. get path_cmp old (child_path q u i) ≡ None) same (none-longer old name bound u i)) in cc)
            (tells.above p u i (had (child_path p u i) some));
        each = each-again;
      }
