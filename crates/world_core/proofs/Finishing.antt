-- What is left of a machine that has ended, and the world without it.
use Rattle.sibling_forest.specs.Talk.{boxed, queue}
use Rattle.std.proofs.Common.{◌≡◌, ◌⊎◌, ℕ, zero, suc, ◌≤◌, Bool, true, false, cond, refl, sym, ap, ◌∙◌, subst, inl, inr, List, [], ◌∷◌, ◌++◌, append_assoc, length, arith}
use Rattle.std.proofs.Common.{Option, Some, None, is_some, option_and_then}
use Rattle.std.specs.Option.{IfSome, IsSomeAnd}
use Rattle.std.specs.Map.{lookup}
use Rattle.std.specs.Ordering.{nat_cmp}
use Rattle.std.specs.BTreeMap.{BTreeMap, btree_map_len, get, is_at}
use Rattle.std.proofs.lemmas.List.{append-nil}
use Rattle.image_depot.specs.Key.{Shelves}
use Rattle.fork_port.specs.declared.ending.Ending.{Ending}
use Rattle.forest_tree.specs.Operations.{is_cloned}
use Rattle.forest_tree.specs.Tree.{Tree, node, Trees, no_tree, Broods, no_brood, machine, broods_of, child_at, brood_of, Branch, Path, subtree, beyond, at_path}
use Rattle.forest_tree.specs.Sound.{IsSound}
use Rattle.forest_tree.proofs.Places.{brood_of-none}
use Rattle.talking_history.specs.Places.{Place, home, spots, placed}
use Rattle.talking_history.specs.World.{is_out_at}
use Rattle.forest_model.specs.Forest.{machines}
use Rattle.forest_model.specs.Paged.{Paged, paged_machines}
use Rattle.machine_names.specs.NameOrder.{path_cmp}
use Rattle.run_report.specs.Lines.{lines}
use Rattle.run_report.specs.Report.{Ended, lines_of}
use Rattle.world_core.specs.declared.cell.Brood.{Brood}
use Rattle.world_core.specs.declared.cell.Cell.{Cell}
use Rattle.world_core.specs.declared.world.World.{World}
use Rattle.world_core.specs.Listed.{IsListed}
use Rattle.world_core.specs.Shows.{Member, paged_of, forest, told_member, HasEndedAs, TallyAt, Tallies, HoldsAfter, IsAwake, CellShows, Shows, child_of, ended_tree}
use Rattle.world_core.specs.World.{Forest, IsDue, IsForest, StandsFor, rests_in}
use Rattle.world_core.specs.Between.{HasLeft, IsBetween, IsHeardAs, IsLeaving, IsWhole, TakesOut, with_tree}
use Rattle.machine_names.proofs.Below.{beyond-append}
use Rattle.world_core.proofs.Changes.{Lies, here, below, parent, above, apart, lies, child-there, beyond-parent}
use Rattle.world_core.proofs.Returns.{there-is, no-cell}
use Rattle.world_core.proofs.Leaving.{left-ended, parent-shows}
use Rattle.world_core.proofs.Awake.{child-below, awake-cell, awake-there}
use Rattle.world_core.proofs.Slots.{not-first}

-- ---- what is left where a machine has ended

none-in : {X : Type 0} (test : ℕ → Bool) (es : List (ℕ × X)) → length es ≡ 0 → lookup test es ≡ None
none-in test [] e = refl
none-in test (x ∷ es) e = absurd (omega arith)

-- a cell without broods is that of a machine without children
untallied : (path : Path) (count : ℕ) (b : Option Brood) (is : Bool) → b ≡ None → TallyAt path count b is → is ≡ false
untallied path count None false e h = refl
untallied path count None true e h = absurd h
untallied path count (Some b) is e h = absurd (cc)

childless : (path : Path) (c : Cell) (a : Tree Member) → btree_map_len c.broods ≡ 0 → Tallies path c a → IsWhole a → (x : Branch) (rest : Path)
    → subtree (x ∷ rest) a ≡ None
unfolding subtree child_at
childless path c (node s broods log) none h whole x rest =
    let fresh : is_cloned forest s x.ticket ≡ false =
    untallied path (forest.grant s x.ticket).children (get nat_cmp c.broods x.ticket) (is_cloned forest s x.ticket)
    (none-in (is_at (nat_cmp x.ticket)) c.broods.entries none) (h.broods x.ticket) in
    let empty : brood_of x.ticket broods ≡ no_tree = brood_of-none x.ticket broods (whole.one_each x.ticket ∙ ap (λ (b : Bool). cond b 1 0) fresh) in
    ap (λ (trees : Trees Member). option_and_then (subtree rest) (child_at x.child trees)) empty

module _ (depot : Shelves) (w : World) (f : Forest) (name : Path) (a : Tree Member) (between : IsBetween depot w f name a) (cells : BTreeMap Path Cell)
    (c : Cell) (taken : TakesOut w.cells cells name c) where
  pub taken-holds : HoldsAfter depot name c a
  taken-holds = subst (λ o. IsSomeAnd o (λ cell. HoldsAfter depot name cell a)) taken.was between.cell

  all-gone : (rest : Path) → get path_cmp cells (name ++ rest) ≡ None
  all-gone [] = ap (get path_cmp cells) (append-nil name) ∙ taken.here
  all-gone (x ∷ rest) = by (taken.below x rest)
    where
      by : (get path_cmp cells (name ++ (x ∷ rest)) ≡ None)
          ⊎ ((btree_map_len c.broods ≡ 0) × (get path_cmp cells (name ++ (x ∷ rest)) ≡ get path_cmp w.cells (name ++ (x ∷ rest))))
          → get path_cmp cells (name ++ (x ∷ rest)) ≡ None
      by (inl none) = none
      by (inr alone) =
          alone.1
          ∙ no-cell depot (name ++ (x ∷ rest)) (rests_in a (x ∷ rest)) (get path_cmp w.cells (name ++ (x ∷ rest)))
          (subst (Shows depot (name ++ (x ∷ rest)) (rests_in a (x ∷ rest)) (get path_cmp w.cells (name ++ (x ∷ rest))))
          (childless name c a alone.0 taken-holds.0 between.own x rest) (between.below x rest))

  pub between-leaves : IsLeaving depot (record w { cells = cells }) f name
  between-leaves = record {
    whole = between.whole;
    halted = between.halted;
    going = between.going;
    root = between.root;
    there = between.there;
    gone = all-gone;
    elsewhere = λ n none. subst (λ o. Shows depot n (rests_in f.tree n) o (subtree n f.tree)) (sym (taken.elsewhere n none)) (between.elsewhere n none);
    ready = λ n none is. subst (λ o. IsDue o n w.ready) (sym (taken.elsewhere n none)) (between.ready n none is);
    listed = λ n. by n (lies name n);
  }
    where
      outer : (n : Path) → beyond name n ≡ None → IfSome (get path_cmp cells n) (λ (cell : Cell). cell.is_listed ≡ true → IsListed n w.ready)
      outer n none =
          subst (λ o. IfSome o (λ (cell : Cell). cell.is_listed ≡ true → IsListed n w.ready)) (sym (taken.elsewhere n none)) (between.listed n)

      by : (n : Path) → Lies name n → IfSome (get path_cmp cells n) (λ (cell : Cell). cell.is_listed ≡ true → IsListed n w.ready)
      by n (here e) =
          subst (λ o. IfSome o (λ (cell : Cell). cell.is_listed ≡ true → IsListed n w.ready)) (sym (ap (get path_cmp cells) e ∙ taken.here)) tt
      by n (below x rest e) =
          subst (λ o. IfSome o (λ (cell : Cell). cell.is_listed ≡ true → IsListed n w.ready)) (sym (ap (get path_cmp cells) e ∙ all-gone (x ∷ rest))) tt
      by n (parent x none e) = outer n none
      by n (above x y rest none e) = outer n none
      by n (apart none e) = outer n none

-- its lines are the same at every place
lines-placed : (path : Path) (place : Place) (t : Tree Member) → lines told_member path (placed place t) ≡ lines told_member path t
unfolding lines
lines-placed path place (node s broods log) = refl

-- the machine that has ended, alone with its log
abbrev pub left_tree : Tree Member → Tree Member
left_tree (node s broods log) = node s no_brood log

module _ (depot : Shelves) (path : Path) (c : Cell) (a : Tree Member) (vm : Paged) (ending : Ending) (same : paged_of (machine a) ≡ vm)
    (over : vm.machine.ending ≡ Some ending) where
  pub left-tallies : HoldsAfter depot path c a → Tallies path c (left_tree a)
  left-tallies h = by a h.0
    where
      by : (t : Tree Member) → Tallies path c t → Tallies path c (left_tree t)
      by (node s broods log) k = record { log = k.log; room = k.room; broods = k.broods }

  pub left-sound : IsWhole a → IsSound forest (left_tree a)
  unfolding IsSound boxed spots paged_machines machines
  left-sound whole = by a same whole.good
    where
      some-none : (o : Option Ending) → o ≡ Some ending → o ≡ None → ⊥
      some-none o e none = let no : Some ending ≡ None = sym e ∙ none in cc

      by : (t : Tree Member) → paged_of (machine t) ≡ vm → forest.is_good (machine t) ≡ true → IsSound forest (left_tree t)
      by (node s broods log) is good = (
        record {
          good = good;
          ended = λ has. refl;
          one_each = λ lives t. absurd (some-none s.machine.machine.machine.ending (ap (λ (p : Paged). p.machine.ending) is ∙ over) lives);
        },
        tt,
      )

  pub left-machine : paged_of (machine (left_tree a)) ≡ vm
  left-machine = by a same
    where
      by : (t : Tree Member) → paged_of (machine t) ≡ vm → paged_of (machine (left_tree t)) ≡ vm
      by (node s broods log) is = is

  -- no word waits for one that has ended
  pub left-silent : (f : Forest) → IsSomeAnd (subtree path f.tree) (IsHeardAs a) → (j : ℕ) → queue j (machine a).inbox ≡ []
  unfolding boxed spots paged_machines machines
  left-silent f heard = let is = there-is (subtree path f.tree) (IsHeardAs a) heard in by is.0 is.2
    where
      by : (u : Tree Member) → IsHeardAs a u → (j : ℕ) → queue j (machine a).inbox ≡ []
      by u (inl same_words) =
          let over_now : true ≡ false = sym (ap is_some (ap (λ (p : Paged). p.machine.ending) same ∙ over)) ∙ same_words.0 in absurd (cc)
      by u (inr silent) = silent.1

  pub has-left : ((j : ℕ) → queue j (machine a).inbox ≡ []) → (outcome : Ended) → outcome.ending ≡ Some ending → lines_of outcome ≡ lines told_member path (ended_tree (left_tree a))
      → HasLeft path (placed home (ended_tree a)) outcome
  has-left silent outcome ends told_so = by a same silent told_so
    where
      by : (t : Tree Member) → paged_of (machine t) ≡ vm → ((j : ℕ) → queue j (machine t).inbox ≡ []) → lines_of outcome ≡ lines told_member path (ended_tree (left_tree t))
          → HasLeft path (placed home (ended_tree t)) outcome
      by (node s broods log) is none so = record {
        ending = subst (λ e. HasEndedAs e s.machine.machine.machine.ending) (sym ends) (ap (λ (p : Paged). p.machine.ending) is ∙ over);
        home = refl;
        alone = refl;
        silent = none;
        lines = so ∙ sym (lines-placed path home (ended_tree (node s broods log)));
      }

  -- what is wanted of the cell, and what comes of it, where it has the name in a key
  pub outcome-wanted : HoldsAfter depot path c a → IsWhole a → (key : Path) → key ≡ path → (t : Tree Member) × Tallies key c t × IsSound forest t
  outcome-wanted holds whole key is = (left_tree a, subst (λ k. Tallies k c (left_tree a)) (sym is) (left-tallies holds), left-sound whole)

  pub left-by : (f : Forest) → IsSomeAnd (subtree path f.tree) (IsHeardAs a) → HoldsAfter depot path c a → IsWhole a → (key : Path) → key ≡ path
      → (moved : Paged) → moved ≡ vm → (outcome : Ended) → outcome.ending ≡ Some ending
      → ((t : Tree Member) → Tallies key c t → IsSound forest t → paged_of (machine t) ≡ moved → moved.machine.ending ≡ Some ending
      → lines_of outcome ≡ lines told_member key (ended_tree t))
      → HasLeft path (placed home (ended_tree a)) outcome
  left-by f heard holds whole key is moved moved_is outcome ends told_so =
      has-left (left-silent f heard) outcome ends
      (told_so (left_tree a) (subst (λ k. Tallies k c (left_tree a)) (sym is) (left-tallies holds)) (left-sound whole) (left-machine ∙ sym moved_is)
      (ap (λ (p : Paged). p.machine.ending) moved_is ∙ over)
      ∙ ap (λ k. lines told_member k (ended_tree (left_tree a))) is)

pub barren : (x : Branch) (p : Tree Member) → broods_of p ≡ no_brood → child_of x.ticket x.child p ≡ None
unfolding brood_of child_at
barren x p none = ap (λ (broods : Broods Member). child_at x.child (brood_of x.ticket broods)) none

-- the parent of a machine that was awake has a cell
parent-cell : (depot : Shelves) (w : World) (f : Forest) (parent : Path) (x : Branch) → IsLeaving depot w f (parent ++ (x ∷ []))
    → (c : Cell) × (get path_cmp w.cells parent ≡ Some c)
parent-cell depot w f way x leaving =
    let is = there-is (subtree (way ++ (x ∷ [])) f.tree) IsAwake leaving.there in by is.0 is.1 (subtree way f.tree) refl
  where
    above_it : (n : Path) (b : Branch) (rest : Path) → way ≡ n ++ (b ∷ rest) → Shows depot n (rests_in f.tree n) (get path_cmp w.cells n) (subtree n f.tree)
    above_it n b rest e =
        leaving.elsewhere n
        (ap (λ m. beyond (m ++ (x ∷ [])) n) e ∙ ap (λ m. beyond m n) (append_assoc n (b ∷ rest) (x ∷ [])) ∙ beyond-parent n b (rest ++ (x ∷ [])))

    by : (a : Tree Member) → subtree (way ++ (x ∷ [])) f.tree ≡ Some a → (p : Option (Tree Member)) → subtree way f.tree ≡ p
        → (c : Cell) × (get path_cmp w.cells way ≡ Some c)
    by a there None e = let no : None ≡ Some a = sym (child-below way x.ticket x.child f.tree None e) ∙ there in absurd (cc)
    by a there (Some p) e = elim (awake-there depot w.cells f.tree leaving.whole.sound way (rests_in f.tree) above_it p leaving.root e) [
      | inl awake ↦
          let cell = awake-cell depot way (rests_in f.tree way) (get path_cmp w.cells way) p awake
          (subst (Shows depot way (rests_in f.tree way) (get path_cmp w.cells way)) e (leaving.elsewhere way (beyond-parent way x []))) in
          (cell.0, cell.1)
      | inr none ↦
          let no : None ≡ Some a = sym (barren x p none) ∙ child-there (way ++ (x ∷ [])) way f.tree a p x (beyond-append way (x ∷ [])) there e in absurd (cc)
    ]

-- what is wanted of the parent's cell
pub parent-known : (depot : Shelves) (w : World) (f : Forest) (parent : Path) (x : Branch) → IsLeaving depot w f (parent ++ (x ∷ []))
    → IsSomeAnd (get path_cmp w.cells parent) (λ (c : Cell). (depot : Shelves) × (resting : Bool) × (t a : Tree Member)
    × CellShows depot parent resting c t × (child_of x.ticket x.child t ≡ Some a) × IsAwake a)
parent-known depot w f way x leaving =
    let cell = parent-cell depot w f way x leaving in
    let is = parent-shows depot w f way x cell.0 leaving cell.1 in
    subst (λ o. IsSomeAnd o (λ (c : Cell). (depot : Shelves) × (resting : Bool) × (t a : Tree Member) × CellShows depot way resting c t × (child_of x.ticket x.child t ≡ Some a) × IsAwake a))
    (sym cell.1) (depot, rests_in f.tree way, is.0, is.1, is.3, is.4, is.5)

-- children count from 1
pub child-counts : (depot : Shelves) (w : World) (f : Forest) (parent : Path) (x : Branch) → IsLeaving depot w f (parent ++ (x ∷ [])) → 1 ≤ x.child
child-counts depot w f way x leaving =
    let cell = parent-cell depot w f way x leaving in
    let is = parent-shows depot w f way x cell.0 leaving cell.1 in
    by x.child (brood_of x.ticket (broods_of is.0)) is.1 is.4
  where
    by : (k : ℕ) (trees : Trees Member) (t : Tree Member) → child_at k trees ≡ Some t → 1 ≤ k
    by zero trees t found = absurd (not-first trees t found)
    by (suc k) trees t found = omega arith

-- the root has left
pub root-leaves : (depot : Shelves) (w : World) (f : Forest) (b : Tree Member) (outcome : Ended) (name : Path) → name ≡ [] → IsLeaving depot w f name
    → HasLeft name b outcome → IsForest (with_tree name b f).tree → StandsFor depot (record w { outcome = Some outcome }) (with_tree name b f)
unfolding at_path
root-leaves depot w f b outcome [] e leaving left whole = record {
  whole = whole;
  halted = leaving.halted;
  tree = record { ended = left-ended [] b outcome left; home = ap is_out_at left.home; lines = left.lines; cells = leaving.gone };
}
root-leaves depot w f b outcome (x ∷ rest) e leaving left whole = absurd (cc)
