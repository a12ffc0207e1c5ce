-- A world while the siblings of a machine that has ended are told of that.
use Rattle.std.proofs.Common.{◌≡◌, ◌≢◌, ℕ, ◌+◌, ◌<◌, ◌≤◌, ◌&&◌, eqb, eqb-true, nat_le, Bool, true, false, cond, refl, sym}
use Rattle.std.proofs.Common.{ap, ◌∙◌, subst, arith, [], ◌∷◌, ◌++◌, Option, Some, None, MatchOption, option_map, vec_len}
use Rattle.std.proofs.lemmas.Bool.{and_parts, eqb-false, le-leb, leb-false, leb-true, lt-leb}
use Rattle.std.specs.Option.{IfSome}
use Rattle.std.specs.Ordering.{nat_cmp}
use Rattle.std.specs.BTreeMap.{get}
use Rattle.image_depot.specs.Key.{Shelves}
use Rattle.forest_tree.specs.Tree.{Tree, node, machine, broods_of, brood_of, child_at, Branch, Path, subtree, beyond, at_path}
use Rattle.forest_tree.specs.Step.{has_ended}
use Rattle.forest_tree.proofs.Broods.{eqb-same}
use Rattle.forest_tree.proofs.Places.{child_at-other, some-same}
use Rattle.forest_tree.proofs.Changes.{at_path-here}
use Rattle.machine_names.specs.Name.{child_path}
use Rattle.machine_names.specs.NameOrder.{path_cmp}
use Rattle.machine_names.proofs.Below.{beyond-append, beyond-is}
use Rattle.sibling_words.specs.Notes.{noted}
use Rattle.vm_descriptor.specs.declared.descriptor.TheConstants.{MAX_CLONES}
use Rattle.world_core.specs.declared.cell.Brood.{Brood}
use Rattle.world_core.specs.declared.cell.Cell.{Cell}
use Rattle.world_core.specs.declared.cell.Change.TheVariants.{Ended}
use Rattle.world_core.specs.declared.world.World.{World}
use Rattle.world_core.specs.Between.{with_tree}
use Rattle.world_core.specs.Shows.{Member, forest, CellShows, IsAwake, child_of, with_child}
use Rattle.world_core.specs.Stirring.{IsStirring, IsWokenBy, RestsAsBefore, WakesOne, is_from, rests_until}
use Rattle.world_core.specs.Talking.{IsNextIn, IsNextNoted}
use Rattle.world_core.specs.World.{Forest, Rests, ShowsEach, ShowsTree, StandsFor, rests_in}
use Rattle.world_core.proofs.Awake.{child-below}
use Rattle.world_core.proofs.Changes.{beyond-parent, outside}
use Rattle.world_core.proofs.Siblings.{IsBeside, beside}
use Rattle.world_core.proofs.Skipping.{each-as, ended-brood, rests-same, sibling-as, sibling-woken}
use Rattle.world_core.proofs.SlotChanges.{child-place, few-slots}

-- ---- the names from a child on

-- the name of a child, from one on
pub record IsChildFrom (parent : Path) (ticket first : ℕ) (n : Path) : Type 0 where
  pub child : ℕ
  pub named : n ≡ child_path parent ticket child
  pub from : first ≤ child

from-by : (parent n : Path) (ticket first : ℕ) (way : Option Path) → beyond parent n ≡ way → is_from ticket first way ≡ true → IsChildFrom parent ticket first n
from-by parent n ticket first None e is = absurd (cc)
from-by parent n ticket first (Some []) e is = absurd (cc)
from-by parent n ticket first (Some (b ∷ [])) e is =
    let both = and_parts (eqb b.ticket ticket) (nat_le first b.child) is in
    record {
      child = b.child;
      named = beyond-is parent n (b ∷ []) e ∙ ap (λ t. parent ++ (record { ticket = t; child = b.child } ∷ [])) (eqb-true b.ticket ticket both.0);
      from = leb-true first b.child both.1;
    }
from-by parent n ticket first (Some (b ∷ (c ∷ rest))) e is = absurd (cc)

-- one that is from a child on, is from an earlier one on
from-earlier : (ticket first next : ℕ) (way : Option Path) → first ≤ next → is_from ticket first way ≡ false → is_from ticket next way ≡ false
from-earlier ticket first next None less e = refl
from-earlier ticket first next (Some []) less e = refl
from-earlier ticket first next (Some (b ∷ [])) less e = by (eqb b.ticket ticket) (nat_le first b.child) (nat_le next b.child) refl refl e
  where
    by : (same before after : Bool) → nat_le first b.child ≡ before → nat_le next b.child ≡ after → same && before ≡ false → same && after ≡ false
    by false before after was is none = refl
    by true true after was is none = absurd (cc)
    by true false false was is none = refl
    by true false true was is none = absurd (omega (arith, leb-false first b.child was, leb-true next b.child is))
from-earlier ticket first next (Some (b ∷ (c ∷ rest))) less e = refl

module _ (depot : Shelves) (w : World) (f : Forest) (parent : Path) (ticket k : ℕ) (b : Tree Member) (first : ℕ)
    (h : IsStirring depot w f parent ticket k b first) (over : has_ended forest b ≡ true) where
  abbrev x : Branch
  x = record { ticket = ticket; child = k }

  abbrev then : Tree Member
  then = (with_tree (child_path parent ticket k) b f).tree

  abbrev until : ℕ → Rests
  until next = rests_until parent ticket next (rests_in f.tree) (rests_in then)

  -- ---- a child in both forests

  above-then : (p : Tree Member) → subtree parent f.tree ≡ Some p → subtree parent then ≡ Some (with_child ticket k b p)
  unfolding at_path
  above-then p at =
      outside (λ a. b) (parent ++ (x ∷ [])) parent f.tree (Some (x ∷ [])) (beyond-parent parent x []) (beyond-append parent (x ∷ []))
      ∙ ap (option_map (at_path (λ a. b) (x ∷ []))) at ∙ ap Some (one-child p)
    where
      one-child : (q : Tree Member) → at_path (λ a. b) (x ∷ []) q ≡ with_child ticket k b q
      one-child (node s broods log) = refl

  none-then : subtree parent f.tree ≡ None → subtree parent then ≡ None
  none-then none =
      outside (λ a. b) (parent ++ (x ∷ [])) parent f.tree (Some (x ∷ [])) (beyond-parent parent x []) (beyond-append parent (x ∷ []))
      ∙ ap (option_map (at_path (λ a. b) (x ∷ []))) none

  -- a sibling, with what its parent's cell notes of it
  record IsSibling (j : ℕ) (u : Tree Member) : Type 0 where
    above : Tree Member
    at : subtree parent f.tree ≡ Some above
    is_child : child_of ticket j above ≡ Some u
    there : subtree (child_path parent ticket j) f.tree ≡ Some u
    beside_it : IsBeside depot (until first) w then parent (record { ticket = ticket; child = j }) u

  sibling-of : (j : ℕ) (u : Tree Member) → subtree (child_path parent ticket j) then ≡ Some u → eqb k j ≡ false → IsSibling j u
  sibling-of j u found apart = by (subtree parent f.tree) refl
    where
      by : (o : Option (Tree Member)) → subtree parent f.tree ≡ o → IsSibling j u
      by None e =
          let no : None ≡ Some u = sym (child-below parent ticket j then None (none-then e)) ∙ found in absurd (cc)
      by (Some p) e =
          let child : child_of ticket j (with_child ticket k b p) ≡ Some u =
          sym (child-below parent ticket j then (Some (with_child ticket k b p)) (above-then p e)) ∙ found in
          let was : child_of ticket j p ≡ Some u =
          sym (child_at-other (λ t. b) k j (brood_of ticket (broods_of p)) (eqb-false k j apart))
          ∙ sym (ap (child_at j) (ended-brood ticket k b p)) ∙ child in
          record {
            above = p;
            at = e;
            is_child = was;
            there = child-below parent ticket j f.tree (Some p) e ∙ was;
            beside_it = beside depot (until first) w then parent (record { ticket = ticket; child = j }) u h.whole h.root h.each found;
          }

  -- the child of that number itself has ended
  itself : (u : Tree Member) → subtree (child_path parent ticket k) then ≡ Some u → has_ended forest u ≡ true
  itself u found = by (subtree (child_path parent ticket k) f.tree) refl
    where
      by : (o : Option (Tree Member)) → subtree (child_path parent ticket k) f.tree ≡ o → has_ended forest u ≡ true
      by None e = let no : None ≡ Some u = sym (at_path-here (λ a. b) (child_path parent ticket k) f.tree ∙ ap (option_map (λ a. b)) e) ∙ found in absurd (cc)
      by (Some a) e =
          let same : b ≡ u = some-same b u (sym (at_path-here (λ a. b) (child_path parent ticket k) f.tree ∙ ap (option_map (λ a. b)) e) ∙ found) in
          subst (λ t. has_ended forest t ≡ true) same over

  -- the parent's brood does not note the child for the one that has ended
  abbrev pub IsUnnoted : ℕ → Type 0
  IsUnnoted j = IfSome (get path_cmp w.cells parent) (λ (c : Cell). IfSome (get nat_cmp c.broods ticket) (λ (d : Brood). noted d.notes j ≢ k))

  unnoted-in : (j : ℕ) (u : Tree Member) (s : IsBeside depot (until first) w then parent (record { ticket = ticket; child = j }) u) → IsUnnoted j
      → noted s.brood.notes j ≢ k
  unnoted-in j u s none =
      subst (λ o. IfSome o (λ (d : Brood). noted d.notes j ≢ k)) s.has
      (subst (λ o. IfSome o (λ (c : Cell). IfSome (get nat_cmp c.broods ticket) (λ (d : Brood). noted d.notes j ≢ k))) s.found none)

  rests-unnoted : (j : ℕ) (u : Tree Member) → subtree (child_path parent ticket j) then ≡ Some u → IsUnnoted j
      → RestsAsBefore (rests_in f.tree (child_path parent ticket j)) (rests_in then (child_path parent ticket j)) u
  rests-unnoted j u found none = by (eqb k j) refl
    where
      by : (same : Bool) → eqb k j ≡ same → RestsAsBefore (rests_in f.tree (child_path parent ticket j)) (rests_in then (child_path parent ticket j)) u
      by true e = record {
        same = λ lives is_parked.
            let over_now : has_ended forest u ≡ true = itself u (ap (λ n. subtree (child_path parent ticket n) then) (eqb-true k j e) ∙ found) in
            let no : true ≡ false = sym over_now ∙ lives in absurd (cc);
      }
      by false e =
          let s = sibling-of j u found e in
          sibling-as f.tree then parent ticket k j s.above b u s.at (above-then s.above s.at) over s.is_child e s.there found
          s.beside_it.brood.notes (s.beside_it.held.heard.notes j u s.beside_it.is_child) (unnoted-in j u s.beside_it none)

  wakes-noted : (j : ℕ) (u : Tree Member) → subtree (child_path parent ticket j) then ≡ Some u → IsAwake u
      → IsWokenBy (Ended k) (rests_in f.tree (child_path parent ticket j)) (rests_in then (child_path parent ticket j)) (machine u)
  wakes-noted j u found awake = by (eqb k j) refl
    where
      by : (same : Bool) → eqb k j ≡ same
          → IsWokenBy (Ended k) (rests_in f.tree (child_path parent ticket j)) (rests_in then (child_path parent ticket j)) (machine u)
      by true e =
          let over_now : has_ended forest u ≡ true = itself u (ap (λ n. subtree (child_path parent ticket n) then) (eqb-true k j e) ∙ found) in
          let no : true ≡ false = sym over_now ∙ awake.lives in absurd (cc)
      by false e =
          let s = sibling-of j u found e in
          sibling-woken f.tree then parent ticket k j s.above b u s.at (above-then s.above s.at) over s.is_child e s.there found awake.lives

  -- ---- from one who is noted to the next

  abbrev IsStill : Rests → Rests → Path → Type 0
  IsStill before after n = IfSome (subtree n then) (RestsAsBefore (before n) (after n))

  -- one that is not named by the change rests as before
  still-same : (before after : Rests) (n : Path) → after n ≡ before n → IsStill before after n
  still-same before after n same = rests-same (before n) (after n) (subtree n then) (λ u is. same)

  still-child : (j : ℕ) (before after : Rests) → before (child_path parent ticket j) ≡ rests_in f.tree (child_path parent ticket j)
      → after (child_path parent ticket j) ≡ rests_in then (child_path parent ticket j) → IsUnnoted j → IsStill before after (child_path parent ticket j)
  still-child j before after was is none = by (subtree (child_path parent ticket j) then) refl
    where
      by : (o : Option (Tree Member)) → subtree (child_path parent ticket j) then ≡ o
          → IfSome o (RestsAsBefore (before (child_path parent ticket j)) (after (child_path parent ticket j)))
      by None e = tt
      by (Some u) e =
          subst (λ r. RestsAsBefore r (after (child_path parent ticket j)) u) (sym was)
          (subst (λ r. RestsAsBefore (rests_in f.tree (child_path parent ticket j)) r u) (sym is) (rests-unnoted j u e none))

  until-is : (next : ℕ) (n : Path) (from : Bool) → is_from ticket next (beyond parent n) ≡ from → until next n ≡ cond from (rests_in f.tree n) (rests_in then n)
  until-is next n from e = ap (λ is. cond is (rests_in f.tree n) (rests_in then n)) e

  -- up to the end
  pub all-told : ((j : ℕ) → first ≤ j → (u : Tree Member) → subtree (child_path parent ticket j) then ≡ Some u → IsUnnoted j) → StandsFor depot w (with_tree (child_path parent ticket k) b f)
  all-told none = record {
    whole = h.whole;
    halted = h.halted;
    tree = subst (λ o. ShowsTree o depot w then) (sym h.going) (record {
      root = h.root;
      each = each-as depot w then (until first) (rests_in then) h.each (λ n. by n (is_from ticket first (beyond parent n)) refl);
    });
  }
    where
      child : (j : ℕ) → first ≤ j → is_from ticket first (beyond parent (child_path parent ticket j)) ≡ true → IsStill (until first) (rests_in then) (child_path parent ticket j)
      child j from e = here (subtree (child_path parent ticket j) then) refl
        where
          here : (o : Option (Tree Member)) → subtree (child_path parent ticket j) then ≡ o
              → IfSome o (RestsAsBefore (until first (child_path parent ticket j)) (rests_in then (child_path parent ticket j)))
          here None is = tt
          here (Some u) is =
              subst (λ r. RestsAsBefore r (rests_in then (child_path parent ticket j)) u) (sym (until-is first (child_path parent ticket j) true e))
              (rests-unnoted j u is (none j from u is))

      by : (n : Path) (from : Bool) → is_from ticket first (beyond parent n) ≡ from → IsStill (until first) (rests_in then) n
      by n false e = still-same (until first) (rests_in then) n (sym (until-is first n false e))
      by n true e =
          let c = from-by parent n ticket first (beyond parent n) refl e in
          subst (IsStill (until first) (rests_in then)) (sym c.named)
          (child c.child c.from (ap (λ m. is_from ticket first (beyond parent m)) (sym c.named) ∙ e))

  -- up to one that is noted
  pub next-told : (who : ℕ) → first ≤ who → ((j : ℕ) → first ≤ j → j < who → IsUnnoted j)
      → WakesOne (Ended k) (child_path parent ticket who) (until first) (until (who + 1)) then
  next-told who low none = record {
    one = one (subtree (child_path parent ticket who) then) refl;
    others = λ n other. by n other (is_from ticket first (beyond parent n)) (is_from ticket (who + 1) (beyond parent n)) refl refl;
  }
    where
      name : Path
      name = child_path parent ticket who

      is-from : (j next : ℕ) → is_from ticket next (beyond parent (child_path parent ticket j)) ≡ nat_le next j
      is-from j next =
          ap (is_from ticket next) (beyond-append parent (record { ticket = ticket; child = j } ∷ []))
          ∙ ap (λ same. same && nat_le next j) (eqb-same ticket)

      one : (o : Option (Tree Member)) → subtree (child_path parent ticket who) then ≡ o
          → IfSome o (λ (u : Tree Member). IsAwake u
          → IsWokenBy (Ended k) (until first (child_path parent ticket who)) (until (who + 1) (child_path parent ticket who)) (machine u))
      one None e = tt
      one (Some u) e = λ awake.
          let was : until first (child_path parent ticket who) ≡ rests_in f.tree (child_path parent ticket who) =
          until-is first (child_path parent ticket who) true (is-from who first ∙ le-leb first who low) in
          let is : until (who + 1) (child_path parent ticket who) ≡ rests_in then (child_path parent ticket who) =
          until-is (who + 1) (child_path parent ticket who) false (is-from who (who + 1) ∙ lt-leb (who + 1) who (omega arith)) in
          subst (λ r. IsWokenBy (Ended k) r (until (who + 1) (child_path parent ticket who)) (machine u)) (sym was)
          (subst (λ r. IsWokenBy (Ended k) (rests_in f.tree (child_path parent ticket who)) r (machine u)) (sym is) (wakes-noted who u e awake))

      by : (n : Path) → n ≢ child_path parent ticket who → (was is : Bool) → is_from ticket first (beyond parent n) ≡ was → is_from ticket (who + 1) (beyond parent n) ≡ is
          → IsStill (until first) (until (who + 1)) n
      by n other true true e d =
          still-same (until first) (until (who + 1)) n (until-is (who + 1) n true d ∙ sym (until-is first n true e))
      by n other false is e d =
          still-same (until first) (until (who + 1)) n
          (until-is (who + 1) n false (from-earlier ticket first (who + 1) (beyond parent n) (omega arith) e) ∙ sym (until-is first n false e))
      by n other true false e d =
          let c = from-by parent n ticket first (beyond parent n) refl e in
          let past : nat_le (who + 1) c.child ≡ false =
          sym (is-from c.child (who + 1)) ∙ ap (λ m. is_from ticket (who + 1) (beyond parent m)) (sym c.named) ∙ d in
          let up_to : c.child ≤ who = omega (arith, leb-false (who + 1) c.child past) in
          let apart : c.child ≢ who = λ same. other (c.named ∙ ap (child_path parent ticket) same) in
          let from : first ≤ c.child = c.from in
          subst (IsStill (until first) (until (who + 1))) (sym c.named)
          (still-child c.child (until first) (until (who + 1))
          (until-is first (child_path parent ticket c.child) true (ap (λ m. is_from ticket first (beyond parent m)) (sym c.named) ∙ e))
          (until-is (who + 1) (child_path parent ticket c.child) false (ap (λ m. is_from ticket (who + 1) (beyond parent m)) (sym c.named) ∙ d))
          (none c.child c.from (below-other c.child who up_to apart)))
        where
          below-other : (m n : ℕ) → m ≤ n → m ≢ n → m < n
          below-other m n most other = omega (arith, most, other)

  -- ---- as they are found

  -- none is noted from one on
  pub told-none : IsNextNoted (get path_cmp w.cells parent) ticket k first None → StandsFor depot w (with_tree (child_path parent ticket k) b f)
  told-none next = all-told by
    where
      unnoted : (j : ℕ) (o : Option Cell) → IsNextNoted o ticket k first None → first ≤ j
          → ((c : Cell) → o ≡ Some c → (d : Brood) → get nat_cmp c.broods ticket ≡ Some d → (vec_len d.slots ≤ MAX_CLONES) × (j ≤ vec_len d.slots))
          → IfSome o (λ (c : Cell). IfSome (get nat_cmp c.broods ticket) (λ (d : Brood). noted d.notes j ≢ k))
      unnoted j None none from within = tt
      unnoted j (Some c) none from within = in_brood (get nat_cmp c.broods ticket) none (within c refl)
        where
          in_brood : (o : Option Brood) → MatchOption o (◌≡◌ {A = Option ℕ} None None) (IsNextIn k first None)
              → ((d : Brood) → o ≡ Some d → (vec_len d.slots ≤ MAX_CLONES) × (j ≤ vec_len d.slots)) → IfSome o (λ (d : Brood). noted d.notes j ≢ k)
          in_brood None none within = tt
          in_brood (Some d) none within = let is = within d refl in none is.0 j from is.1

      by : (j : ℕ) → first ≤ j → (u : Tree Member) → subtree (child_path parent ticket j) then ≡ Some u → IsUnnoted j
      by j from u found = unnoted j (get path_cmp w.cells parent) next from (λ c is d has.
          let s = beside depot (until first) w then parent (record { ticket = ticket; child = j }) u h.whole h.root h.each found in
          let same : s.cell ≡ c = some-same s.cell c (sym s.found ∙ is) in
          let shows : CellShows depot parent (until first parent) c s.above = subst (λ (cell : Cell). CellShows depot parent (until first parent) cell s.above) same s.shows in
          let place = child-place depot parent c s.above u ticket j d shows.holds s.is_child has in
          (few-slots depot parent c s.above ticket d shows.holds has, omega (arith, place.0, place.1)))

  -- the first that is
  pub told-one : (who : ℕ) → IsNextNoted (get path_cmp w.cells parent) ticket k first (Some who)
      → (first ≤ who) × (who ≤ MAX_CLONES) × WakesOne (Ended k) (child_path parent ticket who) (until first) (until (who + 1)) then
  told-one who next = by (get path_cmp w.cells parent) next refl
    where
      in_brood : (c : Cell) (o : Option Brood) → MatchOption o (Some who ≡ None) (IsNextIn k first (Some who))
          → (first ≤ who) × (who ≤ MAX_CLONES) × ((j : ℕ) → first ≤ j → j < who → IfSome o (λ (d : Brood). noted d.notes j ≢ k))
      in_brood c None none = absurd (cc)
      in_brood c (Some d) is = (is.0, is.1, is.3)

      by : (o : Option Cell) → IsNextNoted o ticket k first (Some who) → get path_cmp w.cells parent ≡ o
          → (first ≤ who) × (who ≤ MAX_CLONES) × WakesOne (Ended k) (child_path parent ticket who) (until first) (until (who + 1)) then
      by None none e = absurd (cc)
      by (Some c) is e =
          let found = in_brood c (get nat_cmp c.broods ticket) is in (
            found.0,
            found.1,
            next-told who found.0 (λ j low less.
                subst (λ o. IfSome o (λ (cell : Cell). IfSome (get nat_cmp cell.broods ticket) (λ (d : Brood). noted d.notes j ≢ k))) (sym e) (found.2 j low less)),
          )

-- one was told
pub told-further : (depot : Shelves) (w v : World) (f : Forest) (parent : Path) (ticket k : ℕ) (b : Tree Member) (first next : ℕ)
    → IsStirring depot w f parent ticket k b first → v.halted ≡ w.halted → v.outcome ≡ w.outcome
    → ShowsEach depot (rests_until parent ticket next (rests_in f.tree) (rests_in (with_tree (child_path parent ticket k) b f).tree)) v (with_tree (child_path parent ticket k) b f).tree
    → IsStirring depot v f parent ticket k b next
told-further depot w v f parent ticket k b first next h halted outcome each =
    record { whole = h.whole; halted = halted ∙ h.halted; going = outcome ∙ h.going; root = h.root; each = each }
