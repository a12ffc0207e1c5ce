-- A world after a JOIN.
use Rattle.sibling_forest.specs.Talk.{Inbox, boxed}
use Rattle.std.proofs.Common.{◌≡◌, ◌≢◌, ℕ, zero, suc, ◌&&◌, ◌||◌, not, eqb, eqb-true, Bool, true, false, cond, refl, sym, ap, ap₂, ◌∙◌, subst, []}
use Rattle.std.proofs.Common.{◌∷◌, ◌++◌, Option, Some, None, is_some, option_and_then}
use Rattle.std.specs.Option.{IfSome}
use Rattle.std.specs.BTreeMap.{BTreeMap, WritesThrough, get}
use Rattle.std.specs.declared.alloc.Global.{Global}
use Rattle.std.specs.declared.boxed.Box.{Box}
use Rattle.std.proofs.lemmas.Bool.{and_parts, not-true, not-false}
use Rattle.image_depot.specs.Key.{Shelves}
use Rattle.fork_port.specs.declared.commands.Call.TheVariants.{Join}
use Rattle.forest_tree.specs.Operations.{join, Makes}
use Rattle.forest_tree.specs.Tree.{joined as over}
use Rattle.forest_tree.specs.Tree.{Tree, node, Trees, no_tree, tree, Broods, Log, machine, broods_of, child_at, brood_of, without, Branch, Path, subtree}
use Rattle.forest_tree.specs.Step.{has_ended, have_ended, endings, step, waits_by, waits}
use Rattle.forest_tree.specs.Sound.{IsSound}
use Rattle.forest_tree.proofs.Calls.{step-join}
use Rattle.forest_tree.proofs.Places.{some-same, below-at, subtree-sound}
use Rattle.forest_tree.proofs.Sound.{root-sound, join-step}
use Rattle.talking_history.specs.Places.{home, parked, Spot, spots, placed}
use Rattle.talking_history.specs.World.{is_asleep_at}
use Rattle.talking_history.specs.Rows.{is_join, is_clone, forked, joined, sent, waited, spent, kept, may_spend}
use Rattle.talking_history.proofs.Spots.{machine-placed}
use Rattle.forest_model.specs.Calls.{after_join}
use Rattle.forest_model.specs.Forest.{machines}
use Rattle.forest_model.specs.Paged.{Paged, paged_machines, paged_talks}
use Rattle.machine_names.specs.NameOrder.{path_cmp}
use Rattle.vm_cell.specs.Keyed.{KeyedMachine, IsOfDepot, paged}
use Rattle.vm_cell.specs.Standing.{standing_call}
use Rattle.world_core.specs.declared.cell.Cell.{Cell}
use Rattle.world_core.specs.declared.cell.Awaited.TheVariants.{Children}
use Rattle.world_core.specs.declared.cell.State.TheVariants.{Parked}
use Rattle.world_core.specs.Kin.{IsKin}
use Rattle.ready_queue.specs.Ready.{Ready}
use Rattle.world_core.specs.declared.world.World.{World}
use Rattle.world_core.specs.Lent.{Lent, IsLent, vm_of, now_of}
use Rattle.world_core.specs.Listed.{IsListed, IsCovered}
use Rattle.world_core.specs.Shows.{Member, paged_of, forest, IsAwake, Holds, HoldsAfter, Shows, StandsAt, joined_tree}
use Rattle.world_core.specs.World.{Forest, StandsFor, rests_in}
use Rattle.world_core.specs.Between.{IsBetween, settled_tree, with_tree}
use Rattle.world_core.specs.Answers.{Goes, IsHandedOut}
use Rattle.world_core.proofs.Returns.{quiet-noted, apart-below, apart-outside, some-is, written-here, written-apart, between-stands, below-placed}
use Rattle.world_core.proofs.Giving.{stepped-heard}
use Rattle.world_core.proofs.Resting.{parked-rests, placed-rests}
use Rattle.world_core.proofs.SlotPlaces.{inbox-placed}
use Rattle.world_core.proofs.Steps.{came_out, lent_out, forest-rules, parked-quiet}
use Rattle.world_core.proofs.Calling.{StandsHere, lives-out, spent-whole, spent-goes, whole-gone, below-name, gone-between, same-stands}
use Rattle.world_core.proofs.Calling.{still-between, waited-goes, waited-whole, kept-goes, none-shown, found-here, Called}
use Rattle.world_core.proofs.AtPlaces.{holds-placed, lives-placed}

-- ---- children that have all ended have no cells

ended-child : (k : ℕ) (trees : Trees Member) (a : Tree Member) → have_ended forest trees ≡ true → child_at k trees ≡ Some a → has_ended forest a ≡ true
unfolding have_ended child_at
ended-child k no_tree a all found = absurd (cc)
ended-child zero (tree t rest) a all found = absurd (cc)
ended-child (suc zero) (tree t rest) a all found =
    ap (has_ended forest) (sym (some-same t a found)) ∙ (and_parts (has_ended forest t) (have_ended forest rest) all).0
ended-child (suc (suc k)) (tree t rest) a all found =
    ended-child (suc k) rest a (and_parts (has_ended forest t) (have_ended forest rest) all).1 found

ended-shown : (depot : Shelves) (name : Path) (resting : Bool) (c : Option Cell) (u : Option (Tree Member)) (a : Tree Member) → u ≡ Some a → has_ended forest a ≡ true
    → Shows depot name resting c u → c ≡ None
ended-shown depot name resting None u a is ended h = refl
ended-shown depot name resting (Some c) None a is ended h = absurd h
ended-shown depot name resting (Some c) (Some t) a is ended h =
    let no : true ≡ false = sym ended ∙ ap (has_ended forest) (sym (some-same t a is)) ∙ h.awake.lives in absurd (cc)

-- a tree below one that has ended
ended-below : (a : Tree Member) (y : Branch) (rest : Path) → IsSound forest a → has_ended forest a ≡ true → subtree (y ∷ rest) a ≡ None
unfolding subtree brood_of child_at
ended-below (node s broods log) y rest sound ended =
    let none = (root-sound forest s broods log sound).ended ended in
    ap (λ (b : Broods Member). option_and_then (subtree rest) (child_at y.child (brood_of y.ticket b))) none

-- the names of the ticket's children, and below
no-child-cell : (depot : Shelves) (name : Path) (resting : Bool) (c : Option Cell) (s : Member) (broods : Broods Member) (log : Log Member) (x : Branch) (rest : Path)
    → IsSound forest (node s broods log) → have_ended forest (brood_of x.ticket broods) ≡ true
    → Shows depot name resting c (subtree (x ∷ rest) (node s broods log)) → c ≡ None
unfolding subtree
no-child-cell depot name resting c s broods log x rest sound all h = by (child_at x.child (brood_of x.ticket broods)) refl rest h
  where
    by : (k : Option (Tree Member)) → child_at x.child (brood_of x.ticket broods) ≡ k → (rest : Path) → Shows depot name resting c (option_and_then (subtree rest) k) → c ≡ None
    by None e rest h = none-shown depot name resting c None refl h
    by (Some a) e [] h = ended-shown depot name resting c (Some a) a refl (ended-child x.child (brood_of x.ticket broods) a all e) h
    by (Some a) e (y ∷ ys) h =
        none-shown depot name resting c (subtree (y ∷ ys) a)
        (ended-below a y ys (below-at forest s broods log x.ticket x.child a sound e) (ended-child x.child (brood_of x.ticket broods) a all e)) h

-- ---- a machine that stands at a JOIN

module _ (depot : Shelves) (w : World) (f : Forest) (lease : Lent) (ticket : ℕ) (start : Paged) (inbox : Inbox) (broods : Broods Member) (log : Log Member) (c : Cell)
    (h : StandsHere depot w f lease (join ticket) start inbox broods log c) where
  makes-join : Makes forest (lent_out inbox (now_of lease)) (Some (join ticket))
  unfolding boxed spots
  makes-join = record {
    good = (root-sound forest (lent_out inbox (now_of lease)) broods log h.at.sound).good;
    lives = lives-out inbox (now_of lease) h.at.lives;
    call = h.at.at_call;
  }

  -- whether it waits
  join-waits : waits forest (node (lent_out inbox (now_of lease)) broods log) ≡ not (have_ended forest (brood_of ticket broods))
  join-waits = ap (λ next. waits_by forest next broods) makes-join.call

  stands-join : (is : Bool) → may_spend paged_machines paged_talks joined (now_of lease) is ≡ not is
  unfolding paged_machines machines
  stands-join is = ap₂ (λ ending call. (not (is_some ending) && is_join call) && not is) h.at.lives h.at.at_call

  waits-join : (is : Bool) → may_spend paged_machines paged_talks waited (now_of lease) is ≡ is
  unfolding paged_machines machines
  waits-join is = ap (λ ending. not (is_some ending) && is) h.at.lives

  forks-never : (is : Bool) → may_spend paged_machines paged_talks forked (now_of lease) is ≡ false
  unfolding paged_machines machines
  forks-never is = ap₂ (λ ending call. (not (is_some ending) && is_clone call) && not is) h.at.lives h.at.at_call

  -- it need not wait
  module _ (all : have_ended forest (brood_of ticket broods) ≡ true) where
    ready-now : waits forest (node (lent_out inbox (now_of lease)) broods log) ≡ false
    ready-now = join-waits ∙ ap not all

    joined-may : may_spend paged_machines paged_talks joined (now_of lease) (waits forest (node (lent_out inbox (now_of lease)) broods log)) ≡ true
    joined-may = stands-join (waits forest (node (lent_out inbox (now_of lease)) broods log)) ∙ ap not ready-now

    joined-keeps : may_spend paged_machines paged_talks forked (now_of lease) (waits forest (node (lent_out inbox (now_of lease)) broods log))
        || (may_spend paged_machines paged_talks joined (now_of lease) (waits forest (node (lent_out inbox (now_of lease)) broods log))
        || may_spend paged_machines paged_talks sent (now_of lease) (waits forest (node (lent_out inbox (now_of lease)) broods log))) ≡ true
    joined-keeps =
        let is : Bool = waits forest (node (lent_out inbox (now_of lease)) broods log) in
        ap₂ (λ a b. a || (b || may_spend paged_machines paged_talks sent (now_of lease) is)) (forks-never is) joined-may

    joined-box : forest.after_join (lent_out inbox (now_of lease)) (endings forest (brood_of ticket broods))
        ≡ came_out inbox (record (now_of lease) { machine = after_join lease.now (endings forest (brood_of ticket broods)) })
    unfolding boxed spots paged_machines machines
    joined-box = refl

    joined-spend : placed home (step forest (node (lent_out inbox (now_of lease)) broods log)) ≡ placed home (settled_tree (joined_tree ticket (node (lent_out inbox (now_of lease)) broods log)))
    joined-spend = ap (placed home) (step-join forest (lent_out inbox (now_of lease)) broods log ticket makes-join.lives makes-join.call ready-now)

    joined-machine : paged_of (machine (joined_tree ticket (node (lent_out inbox (now_of lease)) broods log)))
        ≡ record (now_of lease) { machine = after_join lease.now (endings forest (brood_of ticket broods)) }
    unfolding boxed spots paged_machines machines
    joined-machine = refl

    -- no child has a cell
    pub none-waits : (x : Branch) (rest : Path) → eqb ticket x.ticket ≡ true → get path_cmp w.cells (lease.name ++ x ∷ rest) ≡ None
    none-waits x rest same =
        no-child-cell depot (lease.name ++ x ∷ rest) (rests_in f.tree (lease.name ++ x ∷ rest)) (get path_cmp w.cells (lease.name ++ x ∷ rest)) (lent_out inbox start) broods log x rest
        (subtree-sound forest lease.name f.tree (node (lent_out inbox start) broods log) h.whole.sound h.is.there)
        (subst (λ t. have_ended forest (brood_of t broods) ≡ true) (eqb-true ticket x.ticket same) all)
        (subst (Shows depot (lease.name ++ x ∷ rest) (rests_in f.tree (lease.name ++ x ∷ rest)) (get path_cmp w.cells (lease.name ++ x ∷ rest)))
        (below-name lease.name f.tree (node (lent_out inbox start) broods log) x rest h.is.there) (h.is.live.each.cells (lease.name ++ x ∷ rest)))

    joined-between : (v : World) (d : Cell) → v.ready ≡ w.ready → v.halted ≡ w.halted → v.outcome ≡ w.outcome → get path_cmp v.cells lease.name ≡ Some d
        → ((q : Path) → lease.name ≢ q → get path_cmp v.cells q ≡ get path_cmp w.cells q) → d.is_listed ≡ c.is_listed
        → HoldsAfter depot lease.name d (joined_tree ticket (node (lent_out inbox (now_of lease)) broods log))
        → IsBetween depot v f lease.name (joined_tree ticket (node (lent_out inbox (now_of lease)) broods log))
    joined-between v d ready halted outcome found others same after_it =
        let s = lent_out inbox (now_of lease) in
        let trees = brood_of ticket broods in
        let n = forest.after_join s (endings forest trees) in
        gone-between depot w v f lease.name ticket (lent_out inbox start) n broods log (over log ticket trees) c d h.is ready found
        (λ q none. others q (apart-outside lease.name q none))
        (λ x rest. others (lease.name ++ x ∷ rest) (apart-below lease.name x rest) ∙ by (eqb ticket x.ticket) (get path_cmp w.cells (lease.name ++ x ∷ rest)) (none-waits x rest)) h.whole
        (whole-gone ticket s n broods log (over log ticket trees) h.at.sound makes-join.lives (join-step forest forest-rules ticket s broods log all makes-join h.at.sound))
        (stepped-heard inbox (record (now_of lease) { machine = after_join lease.now (endings forest trees) }) s n (node (lent_out inbox start) broods log)
        (without ticket broods) (over log ticket trees) joined-box refl)
        after_it same (halted ∙ h.halted) outcome
      where
        by : (same : Bool) (o : Option Cell) → (same ≡ true → o ≡ None) → o ≡ cond same None o
        by true o none = none refl
        by false o none = refl

  -- it waits
  parked-stands : (v : World) (d : Cell) (vm : Box KeyedMachine Global) (kin : Option Path) (turn : Ready) → have_ended forest (brood_of ticket broods) ≡ false → v.ready ≡ w.ready
      → v.halted ≡ w.halted → v.outcome ≡ w.outcome → get path_cmp v.cells lease.name ≡ Some d
      → ((q : Path) → lease.name ≢ q → get path_cmp v.cells q ≡ get path_cmp w.cells q)
      → d ≡ record c { kin = kin; state = Parked (Children ticket) vm turn } → IsKin kin lease.name → paged vm.value ≡ now_of lease → IsOfDepot depot vm.value.key
      → turn ≡ record { name = lease.name; children = None }
      → Goes depot f (spent waited lease.name lease.ran) v
  parked-stands v d vm kin turn lives ready halted outcome found others same kin_of now of_depot named =
      let u : Tree Member = node (lent_out inbox (now_of lease)) broods log in
      let waiting : waits forest u ≡ true = join-waits ∙ ap not lives in
      let may : may_spend paged_machines paged_talks waited (now_of lease) (waits forest u) ≡ true = waits-join (waits forest u) ∙ waiting in
      let after : IsAwake (placed parked u) = record {
        lives = lives-placed parked u ∙ ap is_some makes-join.lives;
        awake = ap (λ (s : Spot Paged). is_asleep_at s.place) (machine-placed parked u);
      } in
      let whole = waited-whole depot w f lease (join ticket) start inbox broods log c h may in
      let rests : rests_in (with_tree lease.name (placed parked u) f).tree lease.name ≡ true = parked-rests lease.name f.tree (node (lent_out inbox start) broods log) u
      (join ticket) h.is.there (ap is_some makes-join.lives) makes-join.call ∙ waiting in
      let kept_turn = λ (yes : c.is_listed ≡ true). subst (IsListed lease.name) (sym ready)
      (subst (λ o. IfSome o (λ (cell : Cell). cell.is_listed ≡ true → IsListed lease.name w.ready)) h.is.cell (h.is.live.each.listed lease.name) yes) in
      waited-goes depot w f lease (join ticket) start inbox broods log c h may v
      (between-stands depot w v f lease.name u (placed parked u) (still-between depot w f lease (join ticket) start inbox broods log c h) others
      (λ q is. subst (IsListed q) (sym ready) is) (λ q is. subst (IsCovered q) (sym ready) is) (below-placed parked u) (placed-rests parked u) whole after halted outcome
      (λ t at. (
        λ n x e. quiet-noted (get path_cmp v.cells n) x t (placed parked u) (parked-quiet u (join ticket) makes-join.call),
        inbox-placed parked u ∙ ap (λ (b : Member). b.inbox) (ap machine (some-same (node (lent_out inbox start) broods log) t (sym h.is.there ∙ at))),
      ))
      (subst (λ o. Shows depot lease.name (rests_in (with_tree lease.name (placed parked u) f).tree lease.name) o (Some (placed parked u))) (sym (found ∙ ap Some same)) (record {
        awake = after;
        kin = kin_of;
        state = (now, refl, rests, h.at.at_call, named);
        of_depot = of_depot;
        holds = holds-placed depot lease.name c kin (Parked (Children ticket) vm turn) c.is_listed parked u h.holds;
      }))
      (λ yes. let no : false ≡ true = sym (ap (λ (is : Bool). not (has_ended forest (placed parked u)) && not is) rests
      ∙ none-and (not (has_ended forest (placed parked u)))) ∙ yes in absurd (cc))
      (subst (λ o. IfSome o (λ (cell : Cell). cell.is_listed ≡ true → IsListed lease.name v.ready)) (sym (found ∙ ap Some same)) kept_turn))
    where
      none-and : (b : Bool) → b && false ≡ false
      none-and true = refl
      none-and false = refl

-- ---- what JOIN makes of a world

module _ (depot : Shelves) (w : World) (f : Forest) (lease : Lent) (ticket : ℕ) (c : Cell) (h : StandsFor depot w f) (out_as : IsHandedOut f lease)
    (lent : IsLent lease.start lease.ran lease.now) (at : Some (Join ticket) ≡ standing_call (vm_of lease)) (found : Some c ≡ get path_cmp w.cells lease.name) where
  pub join-parked : (cells : BTreeMap Path Cell) (vm : Box KeyedMachine Global) (kin : Option Path) (turn : Ready)
      → ((depot : Shelves) (path : Path) (t : Tree Member) → Holds depot path c t → true ≡ not (have_ended forest (brood_of ticket (broods_of t))))
      → WritesThrough path_cmp (path_cmp lease.name) w.cells (record c { kin = kin; state = Parked (Children ticket) vm turn }) cells
      → IsKin kin lease.name → paged vm.value ≡ now_of lease → IsOfDepot depot vm.value.key → turn.children ≡ None → turn.name ≡ lease.name
      → Goes depot f (spent waited lease.name lease.ran) (record w { cells = cells })
  join-parked cells vm kin turn waiting written kin_of now of_depot one name_is =
      let is = found-here depot w f lease (Join ticket) c h out_as lent at found in
      let u : Tree Member = node (lent_out is.inbox (now_of lease)) is.broods is.log in
      let d : Cell = record c { kin = kin; state = Parked (Children ticket) vm turn } in
      let some = some-is c (get path_cmp w.cells lease.name) found in
      parked-stands depot w f lease ticket is.start is.inbox is.broods is.log c is.stands (record w { cells = cells }) d vm kin turn
      (not-true (have_ended forest (brood_of ticket is.broods)) (sym (waiting depot lease.name u is.stands.holds))) refl refl refl
      (written-here w.cells cells lease.name d written some) (written-apart w.cells cells lease.name d written some) refl kin_of now of_depot
      (ap₂ (λ (name : Path) children. record { name = name; children = children }) name_is one)

  module _ (ready : (depot : Shelves) (path : Path) (t : Tree Member) → Holds depot path c t → false ≡ not (have_ended forest (brood_of ticket (broods_of t)))) where
    all-ended : (t : Tree Member) → Holds depot lease.name c t → have_ended forest (brood_of ticket (broods_of t)) ≡ true
    all-ended t holds = not-false (have_ended forest (brood_of ticket (broods_of t))) (sym (ready depot lease.name t holds))

    pub join-asked : (vm : Paged) → vm ≡ now_of lease
        → (depot : Shelves) × (path : Path) × (t : Tree Member) × Holds depot path c t × StandsAt vm (join ticket) t
        × (have_ended forest (brood_of ticket (broods_of t)) ≡ true)
    join-asked vm vm_is =
        let is = found-here depot w f lease (Join ticket) c h out_as lent at found in
        let u : Tree Member = node (lent_out is.inbox (now_of lease)) is.broods is.log in
        (depot, lease.name, u, is.stands.holds, subst (λ m. StandsAt m (join ticket) u) (sym vm_is) is.stands.at, all-ended u is.stands.holds)

    pub join-kept : (cells : BTreeMap Path Cell) (d : Cell) → WritesThrough path_cmp (path_cmp lease.name) w.cells d cells → d.state ≡ c.state → d.kin ≡ c.kin → d.is_listed ≡ c.is_listed
        → ((t : Tree Member) (depot : Shelves) (path : Path) → Holds depot path c t → Holds depot path d t)
        → Goes depot f (kept lease.name lease.ran) (record w { cells = cells })
    join-kept cells d written state kin listed still =
        let is = found-here depot w f lease (Join ticket) c h out_as lent at found in
        let some = some-is c (get path_cmp w.cells lease.name) found in
        let u : Tree Member = node (lent_out is.inbox (now_of lease)) is.broods is.log in
        let t : Tree Member = node (lent_out is.inbox is.start) is.broods is.log in
        kept-goes depot w f lease (join ticket) is.start is.inbox is.broods is.log c is.stands
        (joined-keeps depot w f lease ticket is.start is.inbox is.broods is.log c is.stands (all-ended u is.stands.holds)) (record w { cells = cells })
        (same-stands depot w f cells lease.name t c d h is.stands.is (written-here w.cells cells lease.name d written some)
        (written-apart w.cells cells lease.name d written some) state kin listed (still t depot lease.name is.stands.is.shows.holds))

    pub join-called : (cells : BTreeMap Path Cell) (d : Cell) (name : Path) (vm after : Paged) → name ≡ lease.name → vm ≡ now_of lease
        → WritesThrough path_cmp (path_cmp lease.name) w.cells d cells → d.is_listed ≡ c.is_listed
        → ((t : Tree Member) (depot : Shelves) (path : Path) → Holds depot path c t → StandsAt vm (join ticket) t
        → have_ended forest (brood_of ticket (broods_of t)) ≡ true
        → (after ≡ record vm { machine = after_join vm.machine (endings forest (brood_of ticket (broods_of t))) }) × HoldsAfter depot path d (joined_tree ticket t))
        → Called depot (record w { cells = cells }) f lease joined name after
    join-called cells d name vm after name_is vm_is written listed made =
        let is = found-here depot w f lease (Join ticket) c h out_as lent at found in
        let s = is.stands in
        let v : World = record w { cells = cells } in
        let u : Tree Member = node (lent_out is.inbox (now_of lease)) is.broods is.log in
        let some = some-is c (get path_cmp w.cells lease.name) found in
        let all = all-ended u s.holds in
        let does = made u depot lease.name s.holds (subst (λ m. StandsAt m (join ticket) u) (sym vm_is) s.at) all in
        let becomes = joined-spend depot w f lease ticket is.start is.inbox is.broods is.log c s all in
        subst (λ n. Called depot v f lease joined n after) (sym name_is) (record {
          tree = joined_tree ticket u;
          between = joined-between depot w f lease ticket is.start is.inbox is.broods is.log c s all v d refl refl refl (written-here w.cells cells lease.name d written some)
              (written-apart w.cells cells lease.name d written some) listed does.1;
          is = joined-machine depot w f lease ticket is.start is.inbox is.broods is.log c s all
              ∙ ap (λ (p : Paged). record p { machine = after_join p.machine (endings forest (brood_of ticket is.broods)) }) (sym vm_is) ∙ sym does.0;
          whole = spent-whole depot w f lease (join ticket) is.start is.inbox is.broods is.log c s joined (placed home (settled_tree (joined_tree ticket u))) becomes refl
              (joined-may depot w f lease ticket is.start is.inbox is.broods is.log c s all);
          goes = spent-goes depot w f lease (join ticket) is.start is.inbox is.broods is.log c s joined (placed home (settled_tree (joined_tree ticket u))) becomes refl
              (joined-may depot w f lease ticket is.start is.inbox is.broods is.log c s all);
        })
