-- A world after a machine has come back, and other changes that leave most of it.
use Rattle.std.proofs.Common.{◌≡◌, ◌≢◌, Bool, true, false, refl, sym, ap, ap₂, ◌∙◌, subst, inl, inr, ◌⊎◌, List, [], ◌∷◌, ◌++◌, Option, Some, None, IsSome}
use Rattle.std.proofs.Common.{is_some, MatchOption, option_and_then, option_map, length, length-append, arith, ◌+◌, suc}
use Rattle.std.specs.Option.{IfSome, IsSomeAnd}
use Rattle.std.specs.Ordering.{nat_cmp}
use Rattle.std.specs.declared.alloc.Global.{Global}
use Rattle.std.specs.declared.boxed.Box.{Box}
use Rattle.std.specs.BTreeMap.{BTreeMap, WritesThrough, get}
use Rattle.std.proofs.lemmas.List.{append-nil}
use Rattle.image_depot.specs.Key.{Shelves}
use Rattle.forest_tree.specs.Tree.{Tree, node, Broods, Log, machine, child_at, brood_of, Branch, Path, subtree, beyond, at_path}
use Rattle.forest_tree.proofs.Sound.{root-sound}
use Rattle.forest_tree.proofs.Places.{some-same}
use Rattle.forest_tree.specs.Step.{has_ended}
use Rattle.forest_tree.specs.Sound.{IsSound}
use Rattle.sibling_forest.specs.Talk.{Inbox, Talk}
use Rattle.talking_history.specs.Places.{Place, asleep, home, out, parked, Spot, placed}
use Rattle.talking_history.specs.World.{is_asleep_at, is_out_at, holds, lives_ready}
use Rattle.forest_tree.proofs.Changes.{at_path-here}
use Rattle.talking_history.specs.Rows.{first_reason}
use Rattle.talking_history.proofs.Spots.{machine-placed}
use Rattle.forest_model.specs.Paged.{Paged, paged_machines, paged_talks}
use Rattle.machine_names.specs.NameOrder.{path_cmp}
use Rattle.run_report.specs.Report.{Ended}
use Rattle.vm_cell.specs.Keyed.{KeyedMachine, IsOfDepot, paged}
use Rattle.world_core.specs.declared.reason.Reason.{Reason}
use Rattle.world_core.specs.declared.cell.Brood.{Brood}
use Rattle.world_core.specs.declared.cell.Cell.{Cell}
use Rattle.world_core.specs.declared.cell.State.TheVariants.{Home}
use Rattle.world_core.specs.declared.world.World.{World}
use Rattle.ready_queue.specs.Ready.{Ready}
use Rattle.world_core.specs.Kin.{IsKin}
use Rattle.world_core.specs.Listed.{IsListed, IsCovered}
use Rattle.world_core.specs.Shows.{Member, paged_of, next_talk, forest, IsAwake, IsNoted, HoldsAfter, CellShows, Shows}
use Rattle.world_core.specs.Lent.{Lent}
use Rattle.world_core.specs.Answers.{IsOutAs, IsHandedOut}
use Rattle.world_core.specs.World.{Forest, IsDue, IsForest, Rests, ShowsEach, ShowsLive, ShowsTree, StandsFor, is_ready_in, rests_in}
use Rattle.world_core.specs.Between.{IsBetween, IsHeardAs, with_tree}
use Rattle.machine_names.proofs.Below.{beyond-append}
use Rattle.world_core.proofs.Steps.{lent_out}
use Rattle.world_core.proofs.Changes.{Lies, here, below, parent, above, apart, lies, notes-away, parent-awake, shows-changed}
use Rattle.world_core.proofs.Ready.{ready-changed}
use Rattle.world_core.proofs.Resting.{placed-rests, ready-rests, rests-below, rests-outside, shows-rests}
use Rattle.world_core.proofs.AtPlaces.{holds-placed, lives-placed}
use Rattle.world_core.proofs.SlotPlaces.{inbox-placed, not-parked}
use Rattle.machine_names.proofs.NameMaps.{updated-here, updated-apart}

-- the same cells and the same list show the same
module _ (depot : Shelves) (w v : World) (cells : (name : Path) → get path_cmp v.cells name ≡ get path_cmp w.cells name) (ready : v.ready ≡ w.ready) where
  pub each-same : (rests : Rests) (t : Tree Member) → ShowsEach depot rests w t → ShowsEach depot rests v t
  each-same rests t h = record {
    cells = λ name. subst (λ c. Shows depot name (rests name) c (subtree name t)) (sym (cells name)) (h.cells name);
    ready = λ name is.
        subst (λ c. IsDue c name v.ready) (sym (cells name)) (subst (IsDue (get path_cmp w.cells name) name) (sym ready) (h.ready name is));
    listed = λ name.
        subst (λ c. IfSome c (λ (cell : Cell). cell.is_listed ≡ true → IsListed name v.ready)) (sym (cells name))
        (subst (λ list. IfSome (get path_cmp w.cells name) (λ (cell : Cell). cell.is_listed ≡ true → IsListed name list)) (sym ready) (h.listed name));
  }

  pub shows-same : (outcome : Option Ended) (t : Tree Member) → ShowsTree outcome depot w t → ShowsTree outcome depot v t
  shows-same None t h = record { root = h.root; each = each-same (rests_in t) t h.each }
  shows-same (Some outcome) t h = record {
    ended = h.ended;
    home = h.home;
    lines = h.lines;
    cells = λ name. cells name ∙ h.cells name;
  }

-- another reason to stop
pub stands-halted : (depot : Shelves) (w : World) (halted : Option Reason) (f : Forest) (first : Option Reason) → StandsFor depot w f → halted ≡ first
    → StandsFor depot (record w { halted = halted }) (record f { halted = first })
stands-halted depot w halted f first h same = record {
  whole = h.whole;
  halted = same;
  tree = shows-same depot w (record w { halted = halted }) (λ name. refl) refl w.outcome f.tree h.tree;
}

-- the first reason stays
pub stopped-first : (old first : Option Reason) (r : Reason) → old ≡ first → is_some old ≡ false → Some r ≡ first_reason first r
stopped-first None first r same none = ap (λ o. first_reason o r) same
stopped-first (Some q) first r same none = absurd (cc)

pub stopped-kept : (old first : Option Reason) (r : Reason) → old ≡ first → is_some old ≡ true → old ≡ first_reason first r
stopped-kept None first r same some = absurd (cc)
stopped-kept (Some q) first r same some = ap (λ o. first_reason o r) same

-- ---- names that differ

pub apart-below : (name : Path) (x : Branch) (rest : Path) → name ≢ name ++ (x ∷ rest)
apart-below name x rest e =
    let longer : length (name ++ (x ∷ rest)) ≡ length name + suc (length rest) = length-append name (x ∷ rest) in
    let same : length name ≡ length (name ++ (x ∷ rest)) = ap length e in
    omega arith

pub apart-outside : (name n : Path) → beyond name n ≡ None → name ≢ n
apart-outside name n none e =
    let itself : beyond name n ≡ Some [] = ap (beyond name) (sym e ∙ sym (append-nil name)) ∙ beyond-append name [] in
    let no : None ≡ Some [] = sym none ∙ itself in
    cc

pub same-or-apart : (name n : Path) → (n ≡ name) ⊎ (name ≢ n)
same-or-apart name n = by (lies name n)
  where
    by : Lies name n → (n ≡ name) ⊎ (name ≢ n)
    by (here e) = inl e
    by (below x rest e) = inr (λ same. apart-below name x rest (same ∙ e))
    by (parent x none e) = inr (apart-outside name n none)
    by (above x y rest none e) = inr (apart-outside name n none)
    by (apart none e) = inr (apart-outside name n none)

-- ---- maps by names

pub written-here : {V : Type 0} (m n : BTreeMap Path V) (name : Path) (c : V) → WritesThrough path_cmp (path_cmp name) m c n → IsSome (get path_cmp m name)
    → get path_cmp n name ≡ Some c
written-here m n name c h some = updated-here m n name (Some c) (h.3 some)

pub written-apart : {V : Type 0} (m n : BTreeMap Path V) (name : Path) (c : V) → WritesThrough path_cmp (path_cmp name) m c n → IsSome (get path_cmp m name)
    → (q : Path) → name ≢ q → get path_cmp n q ≡ get path_cmp m q
written-apart m n name c h some = updated-apart m n name (Some c) (h.3 some)

-- ---- a machine comes home

pub there-is : {A : Type 0} (o : Option A) (P : A → Type 0) → IsSomeAnd o P → (a : A) × (o ≡ Some a) × P a
there-is None P h = absurd h
there-is (Some a) P h = (a, refl, h)

pub root-awake : (name : Path) (t b : Tree Member) → IsAwake t → IsAwake b → IsAwake (at_path (λ a. b) name t)
unfolding at_path
root-awake [] t b h after = after
root-awake (x ∷ rest) (node s broods log) b h after = record { lives = h.lives; awake = h.awake }

-- a machine that is awake and lives has a cell, and so is due by its own turn
has-cell : (depot : Shelves) (name : Path) (resting : Bool) (c : Option Cell) (b : Tree Member) → IsAwake b → Shows depot name resting c (Some b)
    → (list : List Ready) → IsListed name list → IsDue c name list
has-cell depot name resting None b awake (inl over) list h = let no : true ≡ false = sym over.0 ∙ awake.lives in absurd (cc)
has-cell depot name resting None b awake (inr sleeps) list h = let no : true ≡ false = sym sleeps ∙ awake.awake in absurd (cc)
has-cell depot name resting (Some c) b awake shows list h = h

module _ (depot : Shelves) (w v : World) (f : Forest) (name : Path) (a b : Tree Member) (between : IsBetween depot w f name a)
    (others : (n : Path) → name ≢ n → get path_cmp v.cells n ≡ get path_cmp w.cells n)
    (more : (n : Path) → IsListed n w.ready → IsListed n v.ready) (covers : (n : Path) → IsCovered n w.ready → IsCovered n v.ready)
    (same : (x : Branch) (rest : Path) → subtree (x ∷ rest) b ≡ subtree (x ∷ rest) a)
    (alike : (x : Branch) (rest : Path) → rests_in b (x ∷ rest) ≡ rests_in a (x ∷ rest)) where
  due-more : (n : Path) → name ≢ n → IsDue (get path_cmp w.cells n) n w.ready → IsDue (get path_cmp v.cells n) n v.ready
  due-more n other h = subst (λ c. IsDue c n v.ready) (sym (others n other)) (by (get path_cmp w.cells n) h)
    where
      by : (c : Option Cell) → IsDue c n w.ready → IsDue c n v.ready
      by None h = covers n h
      by (Some c) h = more n h

  -- the forest then, and who rests in it
  abbrev then : Tree Member
  then = (with_tree name b f).tree

  module _ (u : Tree Member) (there_was : subtree name f.tree ≡ Some u) (lives : IsAwake u) (after : IsAwake b) (inbox : (machine b).inbox ≡ (machine u).inbox) where
    rests-as : (n : Path) → beyond name n ≡ None → (c : Tree Member) → subtree n f.tree ≡ Some c → rests_in then n ≡ rests_in f.tree n
    rests-as n none c at =
        rests-outside (λ t. b) name n f.tree u c there_was (after.lives ∙ sym lives.lives) inbox none at

    others-show : (n : Path) → beyond name n ≡ None → Shows depot n (rests_in then n) (get path_cmp v.cells n) (subtree n f.tree)
    others-show n none =
        shows-rests depot n (rests_in f.tree n) (rests_in then n) (get path_cmp v.cells n) (subtree n f.tree) (rests-as n none)
        (subst (λ c. Shows depot n (rests_in f.tree n) c (subtree n f.tree)) (sym (others n (apart-outside name n none))) (between.elsewhere n none))

    others-ready : (n : Path) → beyond name n ≡ None → is_ready_in (rests_in then) n f.tree ≡ true → IsDue (get path_cmp v.cells n) n v.ready
    others-ready n none is =
        due-more n (apart-outside name n none)
        (between.ready n none (ready-rests (rests_in f.tree n) (rests_in then n) (subtree n f.tree) (rests-as n none) is))

    here-then : subtree name then ≡ Some b
    here-then = at_path-here (λ t. b) name f.tree ∙ ap (option_map (λ t. b)) there_was

    below-rests : (x : Branch) (rest : Path) → rests_in then (name ++ (x ∷ rest)) ≡ rests_in a (x ∷ rest)
    below-rests x rest = rests-below name x rest then b here-then ∙ alike x rest

    below-show : (x : Branch) (rest : Path)
        → Shows depot (name ++ (x ∷ rest)) (rests_in then (name ++ (x ∷ rest))) (get path_cmp v.cells (name ++ (x ∷ rest))) (subtree (x ∷ rest) b)
    below-show x rest =
        let n : Path = name ++ (x ∷ rest) in
        subst (λ resting. Shows depot n resting (get path_cmp v.cells n) (subtree (x ∷ rest) b)) (sym (below-rests x rest))
        (subst (Shows depot n (rests_in a (x ∷ rest)) (get path_cmp v.cells n)) (sym (same x rest))
        (subst (λ c. Shows depot n (rests_in a (x ∷ rest)) c (subtree (x ∷ rest) a)) (sym (others n (apart-below name x rest))) (between.below x rest)))

    below-ready : (x : Branch) (rest : Path) → holds (lives_ready paged_machines paged_talks (rests_in then (name ++ (x ∷ rest)))) (subtree (x ∷ rest) b) ≡ true
        → IsDue (get path_cmp v.cells (name ++ (x ∷ rest))) (name ++ (x ∷ rest)) v.ready
    below-ready x rest is =
        due-more (name ++ (x ∷ rest)) (apart-below name x rest)
        (between.ready_below x rest
        (ap₂ (λ resting c. holds (lives_ready paged_machines paged_talks resting) c) (sym (below-rests x rest)) (sym (same x rest)) ∙ is))

  all-listed : IfSome (get path_cmp v.cells name) (λ (c : Cell). c.is_listed ≡ true → IsListed name v.ready) → (n : Path)
      → IfSome (get path_cmp v.cells n) (λ (c : Cell). c.is_listed ≡ true → IsListed n v.ready)
  all-listed at n = elim (same-or-apart name n) [
    | inl e ↦ subst (λ m. IfSome (get path_cmp v.cells m) (λ (c : Cell). c.is_listed ≡ true → IsListed m v.ready)) (sym e) at
    | inr other ↦
        subst (λ o. IfSome o (λ (c : Cell). c.is_listed ≡ true → IsListed n v.ready)) (sym (others n other))
        (listed-more (get path_cmp w.cells n) (between.listed n))
  ]
    where
      listed-more : (o : Option Cell) → IfSome o (λ (c : Cell). c.is_listed ≡ true → IsListed n w.ready)
          → IfSome o (λ (c : Cell). c.is_listed ≡ true → IsListed n v.ready)
      listed-more None h = tt
      listed-more (Some c) h = λ is. more n (h is)

  -- what the parent's cell notes of the machine
  abbrev pub ParentNotes : Tree Member → Type 0
  ParentNotes u = (n : Path) (x : Branch) → beyond n name ≡ Some (x ∷ [])
      → IfSome (get path_cmp v.cells n) (λ (cell : Cell). IfSome (get nat_cmp cell.broods x.ticket)
      (λ (brood : Brood). IsNoted brood.notes x.child u → IsNoted brood.notes x.child b))

  -- the machine lives
  pub between-stands : IsForest (with_tree name b f).tree → IsAwake b → v.halted ≡ w.halted → v.outcome ≡ w.outcome
      → ((u : Tree Member) → subtree name f.tree ≡ Some u → ParentNotes u × ((machine b).inbox ≡ (machine u).inbox))
      → Shows depot name (rests_in then name) (get path_cmp v.cells name) (Some b)
      → (lives_ready paged_machines paged_talks (rests_in then name) b ≡ true → IsListed name v.ready)
      → IfSome (get path_cmp v.cells name) (λ (c : Cell). c.is_listed ≡ true → IsListed name v.ready)
      → StandsFor depot v (with_tree name b f)
  between-stands whole after halted outcome known at ready listed =
      let is = there-is (subtree name f.tree) IsAwake between.there in
      let due : Path → Type 0 = λ n. IsDue (get path_cmp v.cells n) n v.ready in
      let knows = known is.0 is.1 in
      record {
        whole = whole;
        halted = halted ∙ between.halted;
        tree = subst (λ o. ShowsTree o depot v (with_tree name b f).tree) (sym (outcome ∙ between.going)) (record {
          root = root-awake name f.tree b between.root after;
          each = record {
            cells = shows-changed (λ t. b) depot (rests_in then) name f.tree is.0 (get path_cmp v.cells) is.1 at (below-show is.0 is.1 is.2 after knows.1)
                (λ n none one. others-show is.0 is.1 is.2 after knows.1 n none)
                (λ n x none e. parent-awake (λ t. b) depot name n (rests_in then n) f.tree is.0 x (get path_cmp v.cells n) none e is.1 is.2 after knows.1 (knows.0 n x e)
                (others-show is.0 is.1 is.2 after knows.1 n none));
            ready = ready-changed (λ t. b) due (rests_in then) name f.tree is.0 is.1
                (λ is_ready. has-cell depot name (rests_in then name) (get path_cmp v.cells name) b after at v.ready (ready is_ready))
                (below-ready is.0 is.1 is.2 after knows.1) (others-ready is.0 is.1 is.2 after knows.1);
            listed = all-listed listed;
          };
        });
      }

pub below-placed : (place : Place) (t : Tree Member) (x : Branch) (rest : Path) → subtree (x ∷ rest) (placed place t) ≡ subtree (x ∷ rest) t
unfolding subtree
below-placed place (node s broods log) x rest = refl

-- what is noted of one that is not parked
pub away-noted : (c : Option Cell) (x : Branch) (u b : Tree Member) → ((machine b).machine.place ≡ parked → ⊥)
    → IfSome c (λ (cell : Cell). IfSome (get nat_cmp cell.broods x.ticket)
    (λ (brood : Brood). IsNoted brood.notes x.child u → IsNoted brood.notes x.child b))
away-noted None x u b away = tt
away-noted (Some cell) x u b away = by (get nat_cmp cell.broods x.ticket)
  where
    by : (o : Option Brood) → IfSome o (λ (brood : Brood). IsNoted brood.notes x.child u → IsNoted brood.notes x.child b)
    by None = tt
    by (Some brood) = λ was. notes-away (λ t. b) u away brood.notes x.child

-- what is noted of one that is not to talk
pub quiet-noted : (c : Option Cell) (x : Branch) (u b : Tree Member) → next_talk (machine b) ≡ None
    → IfSome c (λ (cell : Cell). IfSome (get nat_cmp cell.broods x.ticket)
    (λ (brood : Brood). IsNoted brood.notes x.child u → IsNoted brood.notes x.child b))
quiet-noted None x u b quiet = tt
quiet-noted (Some cell) x u b quiet = by (get nat_cmp cell.broods x.ticket)
  where
    by : (o : Option Brood) → IfSome o (λ (brood : Brood). IsNoted brood.notes x.child u → IsNoted brood.notes x.child b)
    by None = tt
    by (Some brood) = λ was what is_parked speaks. absurd (none-some what (sym quiet ∙ speaks))
      where
        none-some : (what : Talk) → None ≡ Some what → ⊥
        none-some what e = cc

-- the words to a machine that lives are those of the one in its place
pub heard-alive : (a u : Tree Member) → IsHeardAs a u → has_ended forest a ≡ false → (machine a).inbox ≡ (machine u).inbox
heard-alive a u (inl same) lives = same.1
heard-alive a u (inr over) lives = let no : true ≡ false = sym over.0 ∙ lives in absurd (cc)

pub home-stands : (depot : Shelves) (w : World) (f : Forest) (name : Path) (a : Tree Member) (vm : Box KeyedMachine Global) (kin : Option Path)
    (cells : BTreeMap Path Cell) (list : List Ready) (c : Cell) (listed : Bool) → IsBetween depot w f name a → paged_of (machine a) ≡ paged vm.value
    → IsOfDepot depot vm.value.key → IsKin kin name → has_ended forest a ≡ false
    → IsForest (with_tree name (placed home a) f).tree → get path_cmp w.cells name ≡ Some c
    → get path_cmp cells name ≡ Some (record c { kin = kin; state = Home vm; is_listed = listed })
    → ((n : Path) → name ≢ n → get path_cmp cells n ≡ get path_cmp w.cells n)
    → IsListed name list → ((n : Path) → IsListed n w.ready → IsListed n list) → ((n : Path) → IsCovered n w.ready → IsCovered n list)
    → StandsFor depot (record w { cells = cells; ready = list }) (with_tree name (placed home a) f)
home-stands depot w f name a vm kin cells list c listed between same of_depot kin_of lives whole found now others first more covers =
    let after : IsAwake (placed home a) = record {
      lives = lives-placed home a ∙ lives;
      awake = ap is_asleep_at (ap (λ (s : Spot Paged). s.place) (machine-placed home a));
    } in
    let at_home : (machine (placed home a)).machine.place ≡ home = ap (λ (s : Spot Paged). s.place) (machine-placed home a) in
    let holds = subst (λ o. IsSomeAnd o (λ (cell : Cell). HoldsAfter depot name cell a)) found between.cell in
    between-stands depot w (record w { cells = cells; ready = list }) f name a (placed home a) between others more covers (below-placed home a) (placed-rests home a) whole after
    refl refl
    (λ u at. (
      λ n x e. away-noted (get path_cmp cells n) x u (placed home a) (not-parked (machine (placed home a)).machine.place at_home),
      inbox-placed home a ∙ heard-alive a u (subst (λ o. IsSomeAnd o (IsHeardAs a)) at between.heard) lives,
    ))
    (subst (λ o. Shows depot name (rests_in (with_tree name (placed home a) f).tree name) o (Some (placed home a))) (sym now)
    (record {
      awake = after;
      kin = kin_of;
      state = (sym (ap (λ (s : Spot Paged). s.machine) (machine-placed home a) ∙ same), inl at_home);
      of_depot = of_depot;
      holds = holds-placed depot name c kin (Home vm) listed home a (holds.1 lives);
    }))
    (λ ready. first)
    (subst (λ o. IfSome o (λ (cell : Cell). cell.is_listed ≡ true → IsListed name list)) (sym now) (λ is. first))

pub some-is : {A : Type 0} (a : A) (o : Option A) → Some a ≡ o → IsSome o
some-is a None e = absurd (cc)
some-is a (Some b) e = refl

pub home-written : (depot : Shelves) (w : World) (f : Forest) (name : Path) (a : Tree Member) (vm : Box KeyedMachine Global) (kin : Option Path)
    (cells : BTreeMap Path Cell) (list : List Ready) (c : Cell) (listed : Bool) → IsBetween depot w f name a → paged_of (machine a) ≡ paged vm.value
    → IsOfDepot depot vm.value.key → IsKin kin name → has_ended forest a ≡ false
    → IsForest (with_tree name (placed home a) f).tree → Some c ≡ get path_cmp w.cells name
    → WritesThrough path_cmp (path_cmp name) w.cells (record c { kin = kin; state = Home vm; is_listed = listed }) cells
    → IsListed name list → ((n : Path) → IsListed n w.ready → IsListed n list) → ((n : Path) → IsCovered n w.ready → IsCovered n list)
    → StandsFor depot (record w { cells = cells; ready = list }) (with_tree name (placed home a) f)
home-written depot w f name a vm kin cells list c listed between same of_depot kin_of lives whole found written first more covers =
    let after : Cell = record c { kin = kin; state = Home vm; is_listed = listed } in
    let some = some-is c (get path_cmp w.cells name) found in
    home-stands depot w f name a vm kin cells list c listed between same of_depot kin_of lives whole (sym found) (written-here w.cells cells name after written some)
    (written-apart w.cells cells name after written some) first more covers

-- ---- a machine on lease

not-both : (place : Place) → is_out_at place ≡ true → is_asleep_at place ≡ true → ⊥
not-both asleep away sleeps = absurd (cc)
not-both home away sleeps = absurd (cc)
not-both out away sleeps = absurd (cc)
not-both parked away sleeps = absurd (cc)

-- the machine of this name is out, and its cell shows it
pub record IsOutHere (depot : Shelves) (w : World) (f : Forest) (name : Path) (t : Tree Member) (c : Cell) : Type 0 where
  pub there : subtree name f.tree ≡ Some t
  pub cell : get path_cmp w.cells name ≡ Some c
  pub shows : CellShows depot name (rests_in f.tree name) c t
  pub going : w.outcome ≡ None
  pub live : ShowsLive depot w f.tree

ended-below : (t a : Tree Member) (name : Path) → IsSound forest t → has_ended forest t ≡ true → is_out_at (machine t).machine.place ≡ false
    → subtree name t ≡ Some a → is_out_at (machine a).machine.place ≡ true → ⊥
unfolding subtree brood_of child_at
ended-below t a [] sound over inside at away =
    let no : false ≡ true = sym inside ∙ ap (λ (u : Tree Member). is_out_at (machine u).machine.place) (some-same t a at) ∙ away in cc
ended-below (node s broods log) a (x ∷ rest) sound over inside at away =
    let none = (root-sound forest s broods log sound).ended over in
    let no : None ≡ Some a = sym (ap (λ (b : Broods Member). option_and_then (subtree rest) (child_at x.child (brood_of x.ticket b))) none) ∙ at in
    cc

shown-out : (depot : Shelves) (w : World) (f : Forest) (name : Path) (t : Tree Member) (c : Option Cell) → get path_cmp w.cells name ≡ c
    → subtree name f.tree ≡ Some t → is_out_at (machine t).machine.place ≡ true → w.outcome ≡ None → ShowsLive depot w f.tree → Shows depot name (rests_in f.tree name) c (Some t)
    → (cell : Cell) × IsOutHere depot w f name t cell
shown-out depot w f name t None e at away going live (inl over) = let no : false ≡ true = sym over.1 ∙ away in absurd (cc)
shown-out depot w f name t None e at away going live (inr sleeps) = absurd (not-both (machine t).machine.place away sleeps)
shown-out depot w f name t (Some c) e at away going live h = (c, record { there = at; cell = e; shows = h; going = going; live = live })

pub out-here : (depot : Shelves) (w : World) (f : Forest) (name : Path) (t : Tree Member) → StandsFor depot w f → subtree name f.tree ≡ Some t
    → is_out_at (machine t).machine.place ≡ true → (cell : Cell) × IsOutHere depot w f name t cell
out-here depot w f name t h at away = by w.outcome refl h.tree
  where
    by : (outcome : Option Ended) → w.outcome ≡ outcome → ShowsTree outcome depot w f.tree → (cell : Cell) × IsOutHere depot w f name t cell
    by None going live =
        shown-out depot w f name t (get path_cmp w.cells name) refl at away going live
        (subst (Shows depot name (rests_in f.tree name) (get path_cmp w.cells name)) at (live.each.cells name))
    by (Some outcome) over end = absurd (ended-below f.tree t name h.whole.sound end.ended end.home at away)

-- no cell has the name of a machine that is gone
pub no-cell : (depot : Shelves) (name : Path) (resting : Bool) (c : Option Cell) → Shows depot name resting c None → c ≡ None
no-cell depot name resting None h = refl
no-cell depot name resting (Some c) h = absurd h

pub gone-cell : (depot : Shelves) (w : World) (f : Forest) (name : Path) → StandsFor depot w f → subtree name f.tree ≡ None → get path_cmp w.cells name ≡ None
gone-cell depot w f name h lost = by w.outcome h.tree
  where
    by : (outcome : Option Ended) → ShowsTree outcome depot w f.tree → get path_cmp w.cells name ≡ None
    by None live = no-cell depot name (rests_in f.tree name) (get path_cmp w.cells name)
        (subst (Shows depot name (rests_in f.tree name) (get path_cmp w.cells name)) lost (live.each.cells name))
    by (Some outcome) end = end.cells name

-- what the name of a lease stands for: nothing, or the machine as it was handed out
pub data Handed (depot : Shelves) (w : World) (f : Forest) (lease : Lent) : Type 0 where
  gone : subtree lease.name f.tree ≡ None → get path_cmp w.cells lease.name ≡ None → Handed depot w f lease
  there : (start : Paged) (inbox : Inbox) (broods : Broods Member) (log : Log Member) (c : Cell)
      → IsOutAs lease (node (lent_out inbox start) broods log)
      → IsOutHere depot w f lease.name (node (lent_out inbox start) broods log) c → Handed depot w f lease

pub handed : (depot : Shelves) (w : World) (f : Forest) (lease : Lent) → StandsFor depot w f → IsHandedOut f lease → Handed depot w f lease
handed depot w f lease h out_as = by (subtree lease.name f.tree) refl out_as
  where
    by : (u : Option (Tree Member)) → subtree lease.name f.tree ≡ u → IfSome u (IsOutAs lease) → Handed depot w f lease
    by None e is = gone e (gone-cell depot w f lease.name h e)
    by (Some (node s broods log)) e is =
        let start : Paged = paged_of s in
        let t : Tree Member = node (lent_out s.inbox start) broods log in
        let same : subtree lease.name f.tree ≡ Some t =
        e ∙ ap (λ place. Some (node (record { machine = record { machine = start; place = place }; inbox = s.inbox }) broods log)) is.is_out in
        let found = out-here depot w f lease.name t h same refl in
        there start s.inbox broods log found.0 (record { is_out = refl; start = is.start; pages = is.pages }) found.1

-- this holds where the name is gone, and that of the machine that is out, if it is there
pub match-handed : (depot : Shelves) (w : World) (f : Forest) (lease : Lent) (Q : Type 0) (P : Tree Member → Type 0) → StandsFor depot w f
    → IsHandedOut f lease
    → (get path_cmp w.cells lease.name ≡ None → Q)
    → ((start : Paged) (inbox : Inbox) (broods : Broods Member) (log : Log Member) (c : Cell)
    → IsOutAs lease (node (lent_out inbox start) broods log) → IsOutHere depot w f lease.name (node (lent_out inbox start) broods log) c
    → P (node (lent_out inbox start) broods log))
    → MatchOption (subtree lease.name f.tree) Q P
match-handed depot w f lease Q P h out_as gone_so each = by (handed depot w f lease h out_as)
  where
    by : Handed depot w f lease → MatchOption (subtree lease.name f.tree) Q P
    by (gone none cell) = subst (λ u. MatchOption u Q P) (sym none) (gone_so cell)
    by (there start inbox broods log c is_as is) = subst (λ u. MatchOption u Q P) (sym is.there) (each start inbox broods log c is_as is)
