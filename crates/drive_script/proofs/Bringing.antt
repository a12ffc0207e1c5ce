-- A page that comes to a machine on lease.
use Rattle.std.proofs.Common.{◌≡◌, ℕ, ◌<◌, ◌≤◌, Bool, true, false, refl, sym, ap, ap₂, ◌∙◌, subst, arith, List, length}
use Rattle.std.proofs.Common.{Option, Some, None, IfSome, option_map, Result, Ok, Err}
use Rattle.std.specs.Prelude.{slice_get}
use Rattle.std.proofs.lemmas.Option.{slice_get-get_or, slice_get_past, slice_get_within}
use Rattle.std.specs.declared.alloc.AllocError.{AllocError}
use Rattle.image_depot.specs.Key.{Shelves, Key, number_of}
use Rattle.image_depot.specs.Reply.{Reply}
use Rattle.cow_disk.specs.declared.arrived.Arrived.{Arrived}
use Rattle.cow_disk.specs.declared.arrived.Arrived.TheVariants.{Got, Had}
use Rattle.guest_mem.specs.Ram.{IsOfImage}
use Rattle.forest_tree.specs.Tree.{Tree, node, Path, machine, subtree, at_path}
use Rattle.sibling_forest.specs.Laws.{box_of}
use Rattle.sibling_forest.specs.Talk.{boxed}
use Rattle.forest_tree.specs.Projection.{map_tree}
use Rattle.talking_history.specs.Places.{Spot, out, spots, bare, placed}
use Rattle.talking_history.specs.World.{holds, is_at_home, lives_at_home}
use Rattle.talking_history.specs.Rows.{took, does}
use Rattle.forest_tree.proofs.Changes.{at_path-here, at_path-twice}
use Rattle.forest_tree.proofs.Projected.{at_path-map}
use Rattle.forest_model.specs.Machine.{Machine}
use Rattle.forest_model.specs.Paged.{Paged, Pages, advanced_by, paged_machines, paged_talks, pages_arrived}
use Rattle.vm_cell.specs.Keyed.{Arrives, HasImage, IsOfDepot}
use Rattle.world_core.specs.declared.world.World.{World}
use Rattle.world_core.specs.Lent.{Lent, IsSameLease, now_of}
use Rattle.world_core.specs.Shows.{Member, forest, paged_of}
use Rattle.world_core.specs.World.{Forest, IsForest, StandsFor}
use Rattle.world_core.specs.Answers.{TakesNamed}
use Rattle.world_core.specs.Arrived.{after_arrival, flagged, with_arrived}
use Rattle.world_core.proofs.Arriving.{flags-taken, flags-whole}
use Rattle.world_core.proofs.Resting.{put-forest}
use Rattle.world_core.proofs.Spending.{at_path-there}
use Rattle.drive_script.specs.declared.answer.Answer.TheVariants.{Give}
use Rattle.drive_script.specs.Driven.{DrivesLine, HasMachines}
use Rattle.drive_script.specs.Replies.{arrived_by, page_at, paged_with, siblings_of, tree_with, with_arrival}
use Rattle.drive_script.specs.Script.{give}
use Rattle.drive_script.specs.Steps.{Family, after_steps, live_at}
use Rattle.drive_script.specs.Told.{Driven, IsBelow, answer_by, arrival_told, arrived_at, given}
use Rattle.drive_script.specs.Turned.{Brings, HasBack, HasLent, RanFrom}
use Rattle.drive_script.proofs.Driving.{breaks-first}
use Rattle.drive_script.proofs.Lent.{at-home, begins-by, first, lent-first, lent-live, named-lent, own-tree, taken}
use Rattle.drive_script.proofs.Steps.{after-none}

-- ---- the forest in which the page is here

bare-arrived : (page : ℕ) (t : Tree Member) → bare (flagged (pages_arrived page) t) ≡ tree_with page (bare t)
unfolding map_tree
bare-arrived page (node s broods log) = refl

home-by : (page : ℕ) (c : Option (Tree Member)) → holds (lives_at_home paged_machines paged_talks) (option_map (flagged (pages_arrived page)) c)
    ≡ holds (lives_at_home paged_machines paged_talks) c
unfolding boxed spots paged_machines
home-by page None = refl
home-by page (Some (node s broods log)) = refl

back-again : (page : ℕ) (t : Tree Member) → placed (machine t).machine.place (flagged (pages_arrived page) (placed out t)) ≡ flagged (pages_arrived page) t
back-again page (node s broods log) = refl

-- it is one that machines can come to, since it is while the machine is out
arrived-forest : (page : ℕ) (name : Path) (f : Forest) (a : Tree Member) → IsForest f.tree → subtree name f.tree ≡ Some a
    → IsForest (with_arrived name page (does paged_machines paged_talks (took name) f)).tree → IsForest (with_arrived name page f).tree
unfolding does
arrived-forest page name f a whole there arrived =
    let arrives : Tree Member → Tree Member = flagged (pages_arrived page) in
    let back : Tree Member → Tree Member = placed (machine a).machine.place in
    subst IsForest
    (at_path-twice arrives back name (at_path (placed out) name f.tree) ∙ at_path-twice (placed out) (λ u. back (arrives u)) name f.tree
    ∙ at_path-there forest (λ u. back (arrives (placed out u))) name f.tree a whole.sound there
    ∙ ap (λ u. at_path (λ b. u) name f.tree) (back-again page a) ∙ sym (at_path-there forest arrives name f.tree a whole.sound there))
    (put-forest (machine a).machine.place name (at_path arrives name (at_path (placed out) name f.tree)) arrived)

-- ---- the lease

machine-arrived : (page : ℕ) (t : Tree Member) → paged_of (machine (flagged (pages_arrived page) t)) ≡ paged_with page (paged_of (machine t))
machine-arrived page (node s broods log) = refl

module _ (depot : Shelves) (w : World) (t : Family) (old : Lent) (h : HasLent depot w t old) (none : old.ran ≡ 0) where
  as-taken : first depot w t old h ≡ now_of old
  unfolding advanced_by
  as-taken = sym (ap (λ k. advanced_by k (first depot w t old h)) none) ∙ (at-home depot w t old h).ran.now

  from-start : old.now ≡ old.start
  from-start = sym (ap (λ (p : Paged). p.machine) as-taken) ∙ (at-home depot w t old h).ran.start

  module _ (new : Lent) (same : IsSameLease old new) (ran : new.ran ≡ old.ran) (now : new.now ≡ old.now) where
    begins : (tree : Option (Tree Member)) → IfSome tree (λ (a : Tree Member). paged_of (machine a) ≡ now_of new) → IfSome tree (λ a. RanFrom new (paged_of (machine a)))
    begins tree is = begins-by new tree (ran ∙ none) (now ∙ from-start ∙ sym same.start) is

    stands-as : (pages : Pages) → new.pages ≡ pages → record { machine = old.now; pages = pages } ≡ now_of new
    stands-as pages is = ap₂ (λ (m : Machine) (p : Pages). record { machine = m; pages = p }) (sym now) (sym is)

    -- nothing came of it
    lent-same : new.pages ≡ old.pages → HasLent depot w t new
    lent-same is = record {
      forest = h.forest;
      sound = h.sound;
      whole = h.whole;
      same = h.same;
      lives = ap (λ n. is_at_home paged_machines paged_talks n h.forest.tree) same.name ∙ h.lives;
      begins = begins (subtree new.name h.forest.tree)
          (subst (λ n. IfSome (subtree n h.forest.tree) (λ (a : Tree Member). paged_of (machine a) ≡ now_of new)) (sym same.name)
          (subst (λ o. IfSome o (λ (a : Tree Member). paged_of (machine a) ≡ now_of new)) (sym (at-home depot w t old h).there) (as-taken ∙ stands-as old.pages is)));
      of_depot = subst (IsOfDepot depot) (sym same.key) h.of_depot;
      stands = subst (λ n. StandsFor depot w (does paged_machines paged_talks (took n) h.forest)) (sym same.name) h.stands;
    }

    -- it is here now
    lent-got : (page : ℕ) → new.pages ≡ pages_arrived page old.pages → StandsFor depot w (with_arrived old.name page (taken depot w t old h))
        → HasLent depot w (with_arrival old.name (Some (Got page)) t) new
    lent-got page is stands = record {
      forest = with_arrived old.name page h.forest;
      sound = arrived-forest page old.name h.forest (at-home depot w t old h).at h.sound (at-home depot w t old h).there stands.whole;
      whole = flags-whole old.name (pages_arrived page) h.forest h.whole;
      same = at_path-map (box_of (λ (s : Spot Paged). s.machine)) (flagged (pages_arrived page)) (tree_with page) (λ u. bare-arrived page u) old.name h.forest.tree
          ∙ ap (at_path (tree_with page) old.name) h.same;
      lives = ap (λ n. is_at_home paged_machines paged_talks n (with_arrived old.name page h.forest).tree) same.name
          ∙ ap (holds (lives_at_home paged_machines paged_talks)) (at_path-here (flagged (pages_arrived page)) old.name h.forest.tree)
          ∙ home-by page (subtree old.name h.forest.tree) ∙ h.lives;
      begins = begins (subtree new.name (with_arrived old.name page h.forest).tree)
          (subst (λ n. IfSome (subtree n (with_arrived old.name page h.forest).tree) (λ (a : Tree Member). paged_of (machine a) ≡ now_of new)) (sym same.name)
          (subst (λ o. IfSome o (λ (a : Tree Member). paged_of (machine a) ≡ now_of new))
          (sym (at_path-here (flagged (pages_arrived page)) old.name h.forest.tree ∙ ap (option_map (flagged (pages_arrived page))) (at-home depot w t old h).there))
          (machine-arrived page (at-home depot w t old h).at ∙ ap (paged_with page) as-taken ∙ stands-as (pages_arrived page old.pages) is)));
      of_depot = subst (IsOfDepot depot) (sym same.key) h.of_depot;
      stands = subst (λ n. StandsFor depot w (does paged_machines paged_talks (took n) (with_arrived old.name page h.forest))) (sym same.name)
          (subst (StandsFor depot w) (flags-taken old.name (pages_arrived page) h.forest) stands);
    }

    -- ---- the answer of `arrive`

    pub brought : (page : ℕ) (reply : Reply) (key : Key) (arrived : Arrived) → old.key ≡ Some key → reply ≡ record { key = key; page = page }
        → Arrives old.key old.pages reply new.pages arrived → StandsFor depot w (after_arrival old.name arrived (taken depot w t old h))
        → Brings depot w t page old (Ok (Some arrived)) new
    brought page reply key (Got got) some is a stands =
        let same_page : got ≡ page = a.0 ∙ ap (λ (r : Reply). r.page) is in (
          ap (λ n. Some (Got n)) same_page ∙ sym (ap (λ here. arrived_by here page) (ap (slice_get old.pages.here) (sym same_page) ∙ a.2)),
          same.name,
          ran ∙ none,
          lent-got got a.3 stands,
        )
    brought page reply key (Had had) some is a stands =
        let same_page : had ≡ page = a.0 ∙ ap (λ (r : Reply). r.page) is in
        let of_image : IsOfImage old.key reply = subst (λ o. IsOfImage o reply) (sym some) (ap (λ (r : Reply). number_of r.key) (sym is)) in (
          ap (λ n. Some (Had n)) same_page ∙ sym (ap (λ here. arrived_by here page) (ap (slice_get old.pages.here) (sym same_page) ∙ a.2 of_image)),
          same.name,
          ran ∙ none,
          lent-same a.1,
        )

  -- the machine has no such page
  pub brings-none : (page : ℕ) → length old.pages.here ≤ page → Brings depot w t page old (Ok None) old
  brings-none page past = (
    sym (ap (λ here. arrived_by here page) (slice_get_past old.pages.here page past)),
    refl,
    none,
    h,
  )

  is-here : (c : Option Bool) → (c ≡ None → ⊥) → (c ≡ Some false → ⊥) → c ≡ Some true
  is-here None there here = absurd (there refl)
  is-here (Some true) there here = refl
  is-here (Some false) there here = absurd (here refl)

  -- a machine that has no key has every page
  pub brings-had : (page : ℕ) → page < length old.pages.here → old.key ≡ None → HasImage old.key old.pages → Brings depot w t page old (Ok (Some (Had page))) old
  brings-had page within no_key has =
      let here : slice_get old.pages.here page ≡ Some true =
      is-here (slice_get old.pages.here page) (λ past. (let there = slice_get-get_or old.pages.here page false within in cc)) ((subst (λ o. HasImage o old.pages) no_key has) page) in (
        sym (ap (λ there. arrived_by there page) here),
        refl,
        none,
        h,
      )

-- ---- the line

-- what came is of a page that the machine has
pub brought-below : (here : List Bool) (page end : ℕ) (arrived : Option Arrived) → length here ≤ end → arrived ≡ arrived_by (slice_get here page) page → IfSome arrived (IsBelow end)
brought-below here page end arrived few is = subst (λ a. IfSome a (IsBelow end)) (sym is) (by (slice_get here page) refl)
  where
    by : (flag : Option Bool) → slice_get here page ≡ flag → IfSome (arrived_by flag page) (IsBelow end)
    by None e = tt
    by (Some true) e = omega (arith, few, slice_get_within here page true e)
    by (Some false) e = omega (arith, few, slice_get_within here page false e)

-- the machine is on lease still, whatever came
pub brings-lent : (depot : Shelves) (w : World) (t : Family) (page : ℕ) (old new : Lent) (r : Result (Option Arrived) AllocError) → HasLent depot w t old
    → Brings depot w t page old r new → (u : Family) × HasLent depot w u new
brings-lent depot w t page old new (Ok arrived) h brings = (with_arrival old.name arrived t, brings.3)
brings-lent depot w t page old new (Err e) h brings = (t, subst (HasLent depot w t) (sym brings) h)

-- it is back
back-as : (depot : Shelves) (w : World) (t : Family) (lease : Lent) → lease.ran ≡ 0 → HasBack depot w t lease → HasMachines depot w t
back-as depot w t lease none back =
    subst (HasMachines depot w) (ap (λ k. after_steps paged_machines paged_talks k lease.name t) none ∙ after-none paged_machines paged_talks lease.name t) back.has

module _ (depot : Shelves) (w mid last : World) (s : Driven) (name : Path) (place page : ℕ) (h : HasMachines depot w s.tree) (lease new : Lent)
    (named : TakesNamed depot h.forest name (Ok (Some lease)) mid) (gives : (u : Family) → HasLent depot mid u new → HasBack depot last u new) where
  lent : HasLent depot mid s.tree lease
  lent = named-lent depot w mid s.tree name h lease named

  pub gives-failed : (e f : AllocError) → Brings depot mid s.tree page lease (Err e) new → DrivesLine depot (give name place) s (Err f) last
  gives-failed e f brings =
      breaks-first depot last (give name place) s
      (back-as depot last s.tree new (ap (λ (l : Lent). l.ran) brings ∙ named.2.ran) (gives s.tree (subst (HasLent depot mid s.tree) (sym brings) lent)))

  pub gives-so : (arrived shown : Option Arrived) → shown ≡ arrival_told (now_of lease) arrived → Some page ≡ page_at (siblings_of name) place s.sent
      → Brings depot mid s.tree page lease (Ok arrived) new → DrivesLine depot (give name place) s (Ok (Give shown)) last
  gives-so arrived shown shown_is at brings =
      let own = own-tree depot mid s.tree lease lent in
      let live : live_at paged_machines name s.tree ≡ Some own =
      subst (λ n. live_at paged_machines n s.tree ≡ Some own) named.1 (lent-live depot mid s.tree lease lent) in
      let pages : (machine own).machine.pages ≡ lease.pages = ap (λ (p : Paged). p.pages) (lent-first depot mid s.tree lease lent named.2.ran) in
      let comes : arrived ≡ arrived_at (page_at (siblings_of name) place s.sent) (Some own) =
      brings.0 ∙ sym (ap (λ (p : Pages). arrived_by (slice_get p.here page) page) pages) ∙ ap (λ n. arrived_at n (Some own)) at in
      let same : arrived ≡ given name place s = comes ∙ ap (arrived_at (page_at (siblings_of name) place s.sent)) (sym live) in (
        ap Give (shown_is ∙ ap (λ p. arrival_told p arrived) (sym (lent-first depot mid s.tree lease lent named.2.ran)) ∙ ap (arrival_told (machine own).machine) comes)
            ∙ sym (ap (answer_by (give name place) s) live),
        subst (λ a. HasMachines depot last (with_arrival name a s.tree)) same
            (subst (λ n. HasMachines depot last (with_arrival n arrived s.tree)) named.1
            (back-as depot last (with_arrival lease.name arrived s.tree) new brings.2 (gives (with_arrival lease.name arrived s.tree) brings.3))),
      )

-- nothing was sent to that place
pub gives-none : (depot : Shelves) (w : World) (s : Driven) (name : Path) (place : ℕ) → HasMachines depot w s.tree
    → None ≡ page_at (siblings_of name) place s.sent → DrivesLine depot (give name place) s (Ok (Give None)) w
gives-none depot w s name place h none =
    let nothing : given name place s ≡ None = ap (λ n. arrived_at n (live_at paged_machines name s.tree)) (sym none) in (
      sym (by (live_at paged_machines name s.tree)),
      subst (λ a. HasMachines depot w (with_arrival name a s.tree)) (sym nothing) h,
    )
  where
    by : (c : Option (Family)) → answer_by (give name place) s c ≡ Give None
    by None = refl
    by (Some a) = ap (λ n. Give (arrival_told (machine a).machine (arrived_at n (Some a)))) (sym none)
