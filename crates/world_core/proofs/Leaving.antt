-- A machine that has ended leaves its world.
use Rattle.sibling_forest.specs.Talk.{boxed}
use Rattle.std.proofs.Common.{◌≡◌, ◌≢◌, ◌⊎◌, ℕ, zero, suc, ◌≤◌, ◌&&◌, arith, eqb, eqb-true, Bool, true, false, not, cond, refl, sym, ap, ap₂, ◌∙◌, subst, inl, inr, List, [], ◌∷◌, ◌++◌}
use Rattle.std.proofs.Common.{append_assoc, Option, Some, None, is_some, option_and_then, option_map}
use Rattle.std.specs.Prelude.{nat_le}
use Rattle.std.specs.Option.{IfSome}
use Rattle.std.proofs.lemmas.Bool.{and_parts, le-leb}
use Rattle.std.specs.BTreeMap.{BTreeMap, UpdatesBy, WritesThrough, btree_map_len, get, is_at}
use Rattle.std.specs.List.{filter}
use Rattle.std.specs.Map.{lookup}
use Rattle.std.proofs.lemmas.Map.Entries.{lookup-filter-keys}
use Rattle.std.proofs.lemmas.List.{append-nil}
use Rattle.image_depot.specs.Key.{Shelves}
use Rattle.fork_port.specs.declared.ending.Ending.{Ending}
use Rattle.forest_tree.specs.Tree.{Tree, node, Broods, machine, broods_of, child_at, brood_of, Branch, Path, subtree, beyond, goes_on, is_below, at_path}
use Rattle.forest_tree.proofs.Places.{some-same}
use Rattle.forest_tree.specs.Step.{has_ended}
use Rattle.forest_tree.proofs.Broods.{eqb-same}
use Rattle.sibling_forest.specs.Laws.{is_sibling}
use Rattle.talking_history.specs.Places.{spots}
use Rattle.talking_history.specs.World.{is_asleep_at, is_out_at, is_ready_at, lives_ready, holds}
use Rattle.forest_tree.proofs.Changes.{at_path-machine}
use Rattle.forest_model.specs.Forest.{machines}
use Rattle.forest_model.specs.Paged.{paged_machines, paged_talks}
use Rattle.run_report.specs.Report.{Ended}
use Rattle.machine_names.specs.Name.{child_path}
use Rattle.machine_names.specs.NameOrder.{path_cmp}
use Rattle.machine_names.proofs.NameMaps.{updated-here, updated-apart, yes-same}
use Rattle.world_core.specs.declared.cell.Cell.{Cell}
use Rattle.world_core.specs.declared.world.World.{World}
use Rattle.ready_queue.specs.Ready.{Ready}
use Rattle.world_core.specs.Listed.{IsListed, IsCovered}
use Rattle.world_core.specs.Shows.{Member, forest, told_member, HasEndedAs, IsAwake, CellShows, Shows, with_child, child_of}
use Rattle.world_core.specs.Stirring.{IsStirring, is_from, rests_until}
use Rattle.world_core.specs.Unparked.{JoinsAlone, rests_with}
use Rattle.world_core.specs.World.{Forest, IsDue, IsForest, Rests, is_ready_in, rests_in}
use Rattle.world_core.specs.Between.{HasLeft, IsLeaving, TakesOut, with_tree}
use Rattle.machine_names.proofs.Below.{beyond-append, beyond-is}
use Rattle.world_core.proofs.Changes.{is_one, child-there, outside, shows-changed, beyond-parent}
use Rattle.world_core.proofs.Awake.{child-below}
use Rattle.world_core.proofs.Ready.{ready-changed}
use Rattle.world_core.proofs.Resting.{alive-rests, joins-alone, ready-rests, rests-elsewhere, shows-rests, talk-rests-above, talk_rests}
use Rattle.world_core.proofs.Slots.{not-first}
use Rattle.world_core.proofs.Returns.{apart-below, apart-outside, same-or-apart, some-is, there-is, written-here, written-apart}

-- ---- a cell is taken out

-- the names that are kept when those below one are dropped
abbrev pub is_kept : Path → Path × Cell → Bool
is_kept name e = not (is_below name e.0)

pub kept-at : (name : Path) (mid new : BTreeMap Path Cell) → new.entries ≡ filter (is_kept name) mid.entries → (q : Path)
    → get path_cmp new q ≡ cond (not (is_below name q)) (get path_cmp mid q) None
kept-at name mid new kept q =
    ap (lookup (is_at (path_cmp q))) kept
    ∙ lookup-filter-keys (is_at (path_cmp q)) (λ path. not (is_below name path)) (not (is_below name q))
    (λ k same. ap (λ path. not (is_below name path)) (sym (yes-same q k same))) mid.entries

below-itself : (name : Path) → is_below name name ≡ false
below-itself name = ap (λ path. is_below name path) (sym (append-nil name)) ∙ ap goes_on (beyond-append name [])

module _ (old mid : BTreeMap Path Cell) (name : Path) (c : Cell) (was : Some c ≡ get path_cmp old name) (removed : UpdatesBy path_cmp (path_cmp name) old mid None) where
  -- and those below it too
  pub taken-all : (new : BTreeMap Path Cell) → new.entries ≡ filter (is_kept name) mid.entries → TakesOut old new name c
  taken-all new kept = record {
    was = sym was;
    here = kept-at name mid new kept name ∙ ap (λ b. cond (not b) (get path_cmp mid name) None) (below-itself name) ∙ updated-here old mid name None removed;
    below = λ x rest.
        inl (kept-at name mid new kept (name ++ (x ∷ rest))
        ∙ ap (λ way. cond (not (goes_on way)) (get path_cmp mid (name ++ (x ∷ rest))) None) (beyond-append name (x ∷ rest)));
    elsewhere = λ n none.
        kept-at name mid new kept n
        ∙ ap (λ way. cond (not (goes_on way)) (get path_cmp mid n) None) none
        ∙ updated-apart old mid name None removed n (apart-outside name n none);
  }

  -- where it has no brood, none is below it
  pub taken-alone : btree_map_len c.broods ≡ 0 → TakesOut old mid name c
  taken-alone none_there = record {
    was = sym was;
    here = updated-here old mid name None removed;
    below = λ x rest. inr (none_there, updated-apart old mid name None removed (name ++ (x ∷ rest)) (apart-below name x rest));
    elsewhere = λ n none. updated-apart old mid name None removed n (apart-outside name n none);
  }

-- ---- a parent's name

same-head : (a b : Branch) (as_ bs : Path) → a ∷ as_ ≡ b ∷ bs → a ≡ b
same-head a b as_ bs e = cc

same-tail : (a b : Branch) (as_ bs : Path) → a ∷ as_ ≡ b ∷ bs → as_ ≡ bs
same-tail a b as_ bs e = cc

pub same-parent : (way path : Path) (x y : Branch) → way ++ (x ∷ []) ≡ path ++ (y ∷ []) → way ≡ path
same-parent [] [] x y e = refl
same-parent [] (b ∷ []) x y e = let no : [] ≡ y ∷ [] = same-tail x b [] (y ∷ []) e in absurd (cc)
same-parent [] (b ∷ (d ∷ path)) x y e = let no : [] ≡ d ∷ (path ++ (y ∷ [])) = same-tail x b [] (d ∷ (path ++ (y ∷ []))) e in absurd (cc)
same-parent (a ∷ []) [] x y e = let no : x ∷ [] ≡ [] = same-tail a y (x ∷ []) [] e in absurd (cc)
same-parent (a ∷ (d ∷ way)) [] x y e = let no : d ∷ (way ++ (x ∷ [])) ≡ [] = same-tail a y (d ∷ (way ++ (x ∷ []))) [] e in absurd (cc)
same-parent (a ∷ way) (b ∷ path) x y e =
    ap₂ (λ c rest. c ∷ rest) (same-head a b (way ++ (x ∷ [])) (path ++ (y ∷ [])) e)
    (same-parent way path x y (same-tail a b (way ++ (x ∷ [])) (path ++ (y ∷ [])) e))

-- ---- a machine that has left

pub left-ended : (path : Path) (b : Tree Member) (outcome : Ended) → HasLeft path b outcome → has_ended forest b ≡ true
unfolding boxed spots paged_machines machines
left-ended path b outcome left = by outcome.ending left.ending
  where
    by : (ending : Option Ending) → HasEndedAs ending (told_member.ending (machine b)) → has_ended forest b ≡ true
    by None h = absurd h
    by (Some ending) h = ap is_some h

pub left-below : (path : Path) (b : Tree Member) (outcome : Ended) → HasLeft path b outcome → (x : Branch) (rest : Path) → subtree (x ∷ rest) b ≡ None
unfolding subtree brood_of child_at
left-below path b outcome left x rest = ap (λ (broods : Broods Member). option_and_then (subtree rest) (child_at x.child (brood_of x.ticket broods))) left.alone

never-ready : (resting : Bool) (b : Tree Member) → has_ended forest b ≡ true → lives_ready paged_machines paged_talks resting b ≡ true → ⊥
never-ready resting b over ready =
    let no : false ≡ true = sym (ap (λ ended. not ended && is_ready_at (machine b).machine.place resting) over) ∙ ready in cc

with-child : (x : Branch) (b t : Tree Member) → at_path (λ a. b) (x ∷ []) t ≡ with_child x.ticket x.child b t
unfolding at_path
with-child x b (node s broods log) = refl

with-child-lives : (x : Branch) (b t : Tree Member) → has_ended forest (with_child x.ticket x.child b t) ≡ has_ended forest t
with-child-lives x b (node s broods log) = refl

with-child-ready : (resting : Bool) (x : Branch) (b t : Tree Member)
    → lives_ready paged_machines paged_talks resting (with_child x.ticket x.child b t) ≡ lives_ready paged_machines paged_talks resting t
with-child-ready resting x b (node s broods log) = refl

root-stays : (parent : Path) (x : Branch) (t b : Tree Member) → IsAwake t → IsAwake (at_path (λ a. b) (parent ++ (x ∷ [])) t)
root-stays [] x t b h = stays [] x t b h
  where
    stays : (rest : Path) (y : Branch) (u c : Tree Member) → IsAwake u → IsAwake (at_path (λ a. c) (y ∷ rest) u)
    stays rest y u c h = record {
      lives = ap (λ (s : Member). is_some (forest.ending s)) (at_path-machine (λ a. c) y rest u) ∙ h.lives;
      awake = ap (λ (s : Member). is_asleep_at s.machine.place) (at_path-machine (λ a. c) y rest u) ∙ h.awake;
    }
root-stays (y ∷ parent) x t b h = record {
  lives = ap (λ (s : Member). is_some (forest.ending s)) (at_path-machine (λ a. b) y (parent ++ (x ∷ [])) t) ∙ h.lives;
  awake = ap (λ (s : Member). is_asleep_at s.machine.place) (at_path-machine (λ a. b) y (parent ++ (x ∷ [])) t) ∙ h.awake;
}

-- ---- the siblings of a machine

no-sibling-below : (c : Branch) (n : Path) → is_sibling (c ∷ n) [] ≡ true → ⊥
unfolding is_sibling
no-sibling-below c [] h = cc
no-sibling-below c (d ∷ n) h = cc

sibling-from : (parent n : Path) (x : Branch) → is_sibling n (parent ++ (x ∷ [])) ≡ true → (k : ℕ) × (n ≡ child_path parent x.ticket k)
unfolding is_sibling
sibling-from parent [] x h = absurd (cc)
sibling-from [] (b ∷ []) x h = (b.child, ap (λ (t : ℕ). record { ticket = t; child = b.child } ∷ []) (eqb-true b.ticket x.ticket h))
sibling-from [] (b ∷ (c ∷ n)) x h =
    absurd (no-sibling-below c n (and_parts (eqb b.ticket x.ticket && eqb b.child x.child) (is_sibling (c ∷ n) []) h).1)
sibling-from (a ∷ []) (b ∷ []) x h = absurd (cc)
sibling-from (a ∷ (d ∷ parent)) (b ∷ []) x h = absurd (cc)
sibling-from (a ∷ parent) (b ∷ (c ∷ n)) x h =
    let parts = and_parts (eqb b.ticket a.ticket && eqb b.child a.child) (is_sibling (c ∷ n) (parent ++ (x ∷ []))) h in
    let first = and_parts (eqb b.ticket a.ticket) (eqb b.child a.child) parts.0 in
    let rest = sibling-from parent (c ∷ n) x parts.1 in
    let ticket : b.ticket ≡ a.ticket = eqb-true b.ticket a.ticket first.0 in
    let child : b.child ≡ a.child = eqb-true b.child a.child first.1 in
    let same : b ≡ a = ap₂ (λ (t k : ℕ). record { ticket = t; child = k }) ticket child in
    (rest.0, ap₂ (λ (y : Branch) (path : Path). y ∷ path) same rest.1)

-- a sibling that is there is one of those that are still to be told
sibling-to-tell : (parent n : Path) (x : Branch) (t u : Tree Member) → is_sibling n (parent ++ (x ∷ [])) ≡ true → subtree n t ≡ Some u
    → is_from x.ticket 1 (beyond parent n) ≡ true
sibling-to-tell parent n x t u beside at =
    let is = sibling-from parent n x beside in
    by is.0 is.1
  where
    none-there : (p : Option (Tree Member)) → option_and_then (λ v. child_of x.ticket 0 v) p ≡ Some u → ⊥
    none-there None e = cc
    none-there (Some v) e = not-first (brood_of x.ticket (broods_of v)) u e

    by : (k : ℕ) → n ≡ child_path parent x.ticket k → is_from x.ticket 1 (beyond parent n) ≡ true
    by zero e =
        absurd (none-there (subtree parent t) (sym (child-below parent x.ticket 0 t (subtree parent t) refl) ∙ ap (λ m. subtree m t) (sym e) ∙ at))
    by (suc k) e =
        let above : 1 ≤ suc k = omega arith in
        ap (λ m. is_from x.ticket 1 (beyond parent m)) e
        ∙ ap (is_from x.ticket 1) (beyond-append parent (record { ticket = x.ticket; child = suc k } ∷ []))
        ∙ ap (λ same. same && nat_le 1 (suc k)) (eqb-same x.ticket)
        ∙ le-leb 1 (suc k) above

module _ (depot : Shelves) (w : World) (f : Forest) (parent : Path) (x : Branch) (b : Tree Member) (outcome : Ended)
    (leaving : IsLeaving depot w f (parent ++ (x ∷ []))) (left : HasLeft (parent ++ (x ∷ [])) b outcome) where
  abbrev name : Path
  name = parent ++ (x ∷ [])

  abbrev after : Tree Member
  after = (with_tree name b f).tree

  -- who rests while its siblings are not told
  abbrev until : Rests
  until = rests_until parent x.ticket 1 (rests_in f.tree) (rests_in after)

  name-apart : parent ≢ name
  name-apart = apart-below parent x []

  parent-outside : beyond name parent ≡ None
  parent-outside = beyond-parent parent x []

  parent-after : subtree parent after ≡ option_map (at_path (λ t. b) (x ∷ [])) (subtree parent f.tree)
  parent-after = outside (λ t. b) name parent f.tree (Some (x ∷ [])) parent-outside (beyond-append parent (x ∷ []))

  until-parent : until parent ≡ rests_in after parent
  until-parent =
      ap (λ way. cond (is_from x.ticket 1 way) (rests_in f.tree parent) (rests_in after parent))
      (ap (beyond parent) (sym (append-nil parent)) ∙ beyond-append parent [])

  -- the others rest as before
  until-same : (a : Tree Member) → subtree name f.tree ≡ Some a → (n : Path) (u : Tree Member) → beyond name n ≡ None → is_one (beyond n name) ≡ false
      → subtree n f.tree ≡ Some u → until n ≡ rests_in f.tree n
  until-same a there n u none one at = by (is_from x.ticket 1 (beyond parent n)) refl
    where
      by : (from : Bool) → is_from x.ticket 1 (beyond parent n) ≡ from → cond from (rests_in f.tree n) (rests_in after n) ≡ rests_in f.tree n
      by true e = refl
      by false e =
          rests-elsewhere (λ t. b) name n f.tree a u there none one
          (λ beside. let no : true ≡ false = sym (sibling-to-tell parent n x f.tree u beside at) ∙ e in absurd (cc)) at

  leave-stands : (v : World) → IsForest after → v.halted ≡ w.halted → v.outcome ≡ w.outcome
      → ((n : Path) → parent ≢ n → get path_cmp v.cells n ≡ get path_cmp w.cells n)
      → ((n : Path) → IsListed n w.ready → IsListed n v.ready) → ((n : Path) → IsCovered n w.ready → IsCovered n v.ready)
      → Shows depot parent (until parent) (get path_cmp v.cells parent) (subtree parent after)
      → (is_ready_in until parent f.tree ≡ true → IsDue (get path_cmp v.cells parent) parent v.ready)
      → IfSome (get path_cmp v.cells parent) (λ (c : Cell). c.is_listed ≡ true → IsListed parent v.ready)
      → IsStirring depot v f parent x.ticket x.child b 1
  leave-stands v whole halted outcome_same others more covers shows ready listed =
      let is = there-is (subtree name f.tree) IsAwake leaving.there in
      record {
        whole = whole;
        halted = halted ∙ leaving.halted;
        going = outcome_same ∙ leaving.going;
        root = root-stays parent x f.tree b leaving.root;
        each = record {
          cells = shows-changed (λ t. b) depot until name f.tree is.0 (get path_cmp v.cells) is.1 at-name below-name (outer-shows is.0 is.1) above-shows;
          ready = ready-changed (λ t. b) (λ n. IsDue (get path_cmp v.cells n) n v.ready) until name f.tree is.0 is.1
              (λ yes. absurd (never-ready (until name) b (left-ended name b outcome left) yes))
              (λ y rest yes.
              let none : false ≡ true =
              sym (ap (holds (lives_ready paged_machines paged_talks (until (name ++ (y ∷ rest))))) (left-below name b outcome left y rest)) ∙ yes in absurd (cc))
              (λ n none yes. outer-ready is.0 is.1 n none (is_one (beyond n name)) refl yes);
          listed = λ n. elim (same-or-apart parent n) [
            | inl e ↦ subst (λ m. IfSome (get path_cmp v.cells m) (λ (c : Cell). c.is_listed ≡ true → IsListed m v.ready)) (sym e) listed
            | inr other ↦
                subst (λ o. IfSome o (λ (c : Cell). c.is_listed ≡ true → IsListed n v.ready)) (sym (others n other))
                (listed-more n (get path_cmp w.cells n) (leaving.listed n))
          ];
        };
      }
    where
      at-name : Shows depot name (until name) (get path_cmp v.cells name) (Some b)
      at-name =
          subst (λ c. Shows depot name (until name) c (Some b))
          (sym (others name name-apart ∙ ap (get path_cmp w.cells) (sym (append-nil name)) ∙ leaving.gone []))
          (inl (left-ended name b outcome left, ap is_out_at left.home))

      deeper : (y : Branch) (rest : Path) → parent ≢ name ++ (y ∷ rest)
      deeper y rest e = apart-below parent x (y ∷ rest) (e ∙ append_assoc parent (x ∷ []) (y ∷ rest))

      below-name : (y : Branch) (rest : Path)
          → Shows depot (name ++ (y ∷ rest)) (until (name ++ (y ∷ rest))) (get path_cmp v.cells (name ++ (y ∷ rest))) (subtree (y ∷ rest) b)
      below-name y rest =
          subst (λ c. Shows depot (name ++ (y ∷ rest)) (until (name ++ (y ∷ rest))) c (subtree (y ∷ rest) b))
          (sym (others (name ++ (y ∷ rest)) (deeper y rest) ∙ leaving.gone (y ∷ rest)))
          (subst (Shows depot (name ++ (y ∷ rest)) (until (name ++ (y ∷ rest))) None) (sym (left-below name b outcome left y rest)) tt)

      outer-apart : (n : Path) → is_one (beyond n name) ≡ false → parent ≢ n
      outer-apart n one e =
          let no : true ≡ false = sym (ap is_one (ap (λ m. beyond m name) (sym e) ∙ beyond-append parent (x ∷ []))) ∙ one in cc

      outer-shows : (a : Tree Member) → subtree name f.tree ≡ Some a → (n : Path) → beyond name n ≡ None → is_one (beyond n name) ≡ false
          → Shows depot n (until n) (get path_cmp v.cells n) (subtree n f.tree)
      outer-shows a there n none one =
          shows-rests depot n (rests_in f.tree n) (until n) (get path_cmp v.cells n) (subtree n f.tree) (λ u at. until-same a there n u none one at)
          (subst (λ c. Shows depot n (rests_in f.tree n) c (subtree n f.tree)) (sym (others n (outer-apart n one))) (leaving.elsewhere n none))

      above-is : (n : Path) (y : Branch) → beyond n name ≡ Some (y ∷ []) → n ≡ parent
      above-is n y e = sym (same-parent parent n x y (beyond-is n name (y ∷ []) e))

      above-shows : (n : Path) (y : Branch) → beyond name n ≡ None → beyond n name ≡ Some (y ∷ []) → Shows depot n (until n) (get path_cmp v.cells n) (subtree n after)
      above-shows n y none e = subst (λ m. Shows depot m (until m) (get path_cmp v.cells m) (subtree m after)) (sym (above-is n y e)) shows

      due : (n : Path) → parent ≢ n → IsDue (get path_cmp w.cells n) n w.ready → IsDue (get path_cmp v.cells n) n v.ready
      due n other h = subst (λ c. IsDue c n v.ready) (sym (others n other)) (by (get path_cmp w.cells n) h)
        where
          by : (c : Option Cell) → IsDue c n w.ready → IsDue c n v.ready
          by None h = covers n h
          by (Some c) h = more n h

      one-above : (n : Path) → is_one (beyond n name) ≡ true → n ≡ parent
      one-above n e = by (beyond n name) refl e
        where
          by : (way : Option Path) → beyond n name ≡ way → is_one way ≡ true → n ≡ parent
          by None way one = absurd (cc)
          by (Some []) way one = absurd (cc)
          by (Some (y ∷ [])) way one = above-is n y way
          by (Some (y ∷ (z ∷ rest))) way one = absurd (cc)

      outer-ready : (a : Tree Member) → subtree name f.tree ≡ Some a → (n : Path) → beyond name n ≡ None → (one : Bool) → is_one (beyond n name) ≡ one
          → is_ready_in until n f.tree ≡ true → IsDue (get path_cmp v.cells n) n v.ready
      outer-ready a there n none false one ready_now =
          due n (outer-apart n one)
          (leaving.ready n none (ready-rests (rests_in f.tree n) (until n) (subtree n f.tree) (λ u at. until-same a there n u none one at) ready_now))
      outer-ready a there n none true one ready_now =
          let is : n ≡ parent = one-above n one in
          subst (λ m. IsDue (get path_cmp v.cells m) m v.ready) (sym is) (ready (ap (λ m. is_ready_in until m f.tree) (sym is) ∙ ready_now))

      listed-more : (n : Path) (o : Option Cell) → IfSome o (λ (c : Cell). c.is_listed ≡ true → IsListed n w.ready)
          → IfSome o (λ (c : Cell). c.is_listed ≡ true → IsListed n v.ready)
      listed-more n None h = tt
      listed-more n (Some c) h = λ yes. more n (h yes)

  -- the parent's cell has changed
  pub leave-some : (v : World) (p : Tree Member) (d : Cell) → subtree parent f.tree ≡ Some p → has_ended forest p ≡ false → get path_cmp v.cells parent ≡ Some d
      → CellShows depot parent (rests_with (talk_rests parent f.tree) (with_child x.ticket x.child b p)) d (with_child x.ticket x.child b p)
      → (lives_ready paged_machines paged_talks (rests_with (talk_rests parent f.tree) (with_child x.ticket x.child b p)) (with_child x.ticket x.child b p) ≡ true
      → (lives_ready paged_machines paged_talks (rests_with (talk_rests parent f.tree) p) p ≡ true) ⊎ (d.is_listed ≡ true))
      → (lives_ready paged_machines paged_talks (rests_in f.tree parent) p ≡ true → IsDue (get path_cmp w.cells parent) parent w.ready → IsListed parent v.ready)
      → (d.is_listed ≡ true → IsListed parent v.ready) → IsForest after → v.halted ≡ w.halted → v.outcome ≡ w.outcome
      → ((n : Path) → parent ≢ n → get path_cmp v.cells n ≡ get path_cmp w.cells n)
      → ((n : Path) → IsListed n w.ready → IsListed n v.ready) → ((n : Path) → IsCovered n w.ready → IsCovered n v.ready)
      → IsStirring depot v f parent x.ticket x.child b 1
  leave-some v p d there lives now shows ready due listed whole halted outcome_same others more covers =
      let tree_is : subtree parent after ≡ Some (with_child x.ticket x.child b p) =
      parent-after ∙ ap (option_map (at_path (λ t. b) (x ∷ []))) there ∙ ap Some (with-child x b p) in
      let rests_now : until parent ≡ rests_with (talk_rests parent f.tree) (with_child x.ticket x.child b p) =
      until-parent
      ∙ alive-rests parent after (with_child x.ticket x.child b p) tree_is (with-child-lives x b p ∙ lives)
      ∙ ap (λ by_talk. rests_with by_talk (with_child x.ticket x.child b p)) (talk-rests-above (λ t. b) parent x [] f.tree) in
      leave-stands v whole halted outcome_same others more covers
      (subst (λ c. Shows depot parent (until parent) c (subtree parent after)) (sym now)
      (subst (Shows depot parent (until parent) (Some d)) (sym tree_is)
      (subst (λ resting. CellShows depot parent resting d (with_child x.ticket x.child b p)) (sym rests_now) shows)))
      (λ yes.
      subst (λ c. IsDue c parent v.ready) (sym now)
      (by (ready
      (with-child-ready (rests_with (talk_rests parent f.tree) (with_child x.ticket x.child b p)) x b p
      ∙ ap (λ resting. lives_ready paged_machines paged_talks resting p) (sym rests_now)
      ∙ ap (holds (lives_ready paged_machines paged_talks (until parent))) (sym there) ∙ yes))))
      (subst (λ o. IfSome o (λ (c : Cell). c.is_listed ≡ true → IsListed parent v.ready)) (sym now) listed)
    where
      by : (lives_ready paged_machines paged_talks (rests_with (talk_rests parent f.tree) p) p ≡ true) ⊎ (d.is_listed ≡ true) → IsListed parent v.ready
      by (inl was) =
          let was_ready : lives_ready paged_machines paged_talks (rests_in f.tree parent) p ≡ true =
          ap (λ resting. lives_ready paged_machines paged_talks resting p) (alive-rests parent f.tree p there lives) ∙ was in
          due was_ready (leaving.ready parent parent-outside (ap (holds (lives_ready paged_machines paged_talks (rests_in f.tree parent))) there ∙ was_ready))
      by (inr is) = listed is

-- the parent's cell, and the child that it shows
pub parent-shows : (depot : Shelves) (w : World) (f : Forest) (parent : Path) (x : Branch) (c : Cell) → IsLeaving depot w f (parent ++ (x ∷ []))
    → get path_cmp w.cells parent ≡ Some c
    → (p t : Tree Member) × (subtree parent f.tree ≡ Some p) × CellShows depot parent (rests_in f.tree parent) c p × (child_of x.ticket x.child p ≡ Some t) × IsAwake t
parent-shows depot w f parent x c leaving found =
    let is = there-is (subtree (parent ++ (x ∷ [])) f.tree) IsAwake leaving.there in
    by is.0 is.1 is.2 (subtree parent f.tree) refl
    (subst (λ o. Shows depot parent (rests_in f.tree parent) o (subtree parent f.tree)) found (leaving.elsewhere parent (beyond-parent parent x [])))
  where
    by : (t : Tree Member) → subtree (parent ++ (x ∷ [])) f.tree ≡ Some t → IsAwake t → (u : Option (Tree Member)) → subtree parent f.tree ≡ u
        → Shows depot parent (rests_in f.tree parent) (Some c) u
        → (p t : Tree Member) × (subtree parent f.tree ≡ Some p) × CellShows depot parent (rests_in f.tree parent) c p × (child_of x.ticket x.child p ≡ Some t)
        × IsAwake t
    by t there awake None e h = absurd h
    by t there awake (Some p) e h = (p, t, e, h, child-there (parent ++ (x ∷ [])) parent f.tree t p x (beyond-append parent (x ∷ [])) there e, awake)

pub if-some-is : {A : Type 0} (o : Option A) (a : A) (P : A → Type 0) → Some a ≡ o → IfSome o P → P a
if-some-is None a P e h = absurd (cc)
if-some-is (Some b) a P e h = subst P (sym (some-same a b e)) h

-- the world once the parent's cell knows of the end
pub end-child : (depot : Shelves) (w : World) (f : Forest) (parent : Path) (x : Branch) (b : Tree Member) (outcome : Ended)
    → IsLeaving depot w f (parent ++ (x ∷ [])) → HasLeft (parent ++ (x ∷ [])) b outcome → IsForest (with_tree (parent ++ (x ∷ [])) b f).tree
    → (c d : Cell) (cells : BTreeMap Path Cell) (list : List Ready)
    → Some c ≡ get path_cmp w.cells parent → WritesThrough path_cmp (path_cmp parent) w.cells d cells
    → ((by_talk : Bool) (p a : Tree Member) → JoinsAlone by_talk p → CellShows depot parent (rests_with by_talk p) c p → child_of x.ticket x.child p ≡ Some a
    → IsAwake a → CellShows depot parent (rests_with by_talk (with_child x.ticket x.child b p)) d (with_child x.ticket x.child b p))
    → ((by_talk : Bool) (p a : Tree Member) → JoinsAlone by_talk p → CellShows depot parent (rests_with by_talk p) c p → child_of x.ticket x.child p ≡ Some a
    → IsAwake a
    → lives_ready paged_machines paged_talks (rests_with by_talk (with_child x.ticket x.child b p)) (with_child x.ticket x.child b p) ≡ true
    → (lives_ready paged_machines paged_talks (rests_with by_talk p) p ≡ true) ⊎ (d.is_listed ≡ true))
    → ((n : Path) → IsListed n w.ready → IsListed n list) → ((n : Path) → IsCovered n w.ready → IsCovered n list)
    → ((resting : Bool) (p : Tree Member) → CellShows depot parent resting c p → d.is_listed ≡ true → IsListed parent list)
    → IsStirring depot (record w { cells = cells; ready = list }) f parent x.ticket x.child b 1
end-child depot w f parent x b outcome leaving left whole c d cells list found written shows ready more covers listed =
    let is = parent-shows depot w f parent x c leaving (sym found) in
    let some = some-is c (get path_cmp w.cells parent) found in
    let p = is.0 in
    let alone = joins-alone parent f.tree p is.2 in
    let held : CellShows depot parent (rests_with (talk_rests parent f.tree) p) c p =
    subst (λ resting. CellShows depot parent resting c p) (alive-rests parent f.tree p is.2 is.3.awake.lives) is.3 in
    leave-some depot w f parent x b outcome leaving left (record w { cells = cells; ready = list }) p d is.2 is.3.awake.lives
    (written-here w.cells cells parent d written some)
    (shows (talk_rests parent f.tree) p is.1 alone held is.4 is.5) (ready (talk_rests parent f.tree) p is.1 alone held is.4 is.5)
    (λ was due. more parent (subst (λ o. IsDue o parent w.ready) (sym found) due))
    (listed (rests_in f.tree parent) p is.3) whole refl refl
    (written-apart w.cells cells parent d written some) more covers
