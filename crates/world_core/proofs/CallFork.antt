-- A world after a CLONE.
use Rattle.sibling_forest.specs.Talk.{Inbox, boxed}
use Rattle.sibling_forest.specs.Settle.{rests_at, rests_there, sibling_rests}
use Rattle.std.proofs.Common.{◌≡◌, ◌≢◌, ◌⊎◌, ℕ, zero, suc, ◌+◌, ◌≤◌, ◌&&◌, ◌||◌, not, eqb, eqb-true, Bool, true, false, cond, refl, sym, ap, ap₂, ◌∙◌}
use Rattle.std.proofs.Common.{subst, inl, inr, arith, List, [], ◌∷◌, ◌++◌, replicate, Option, Some, None, is_some, option_and_then}
use Rattle.std.specs.Option.{IfSome, IsSomeAnd}
use Rattle.std.specs.BTreeMap.{BTreeMap, WritesThrough, get}
use Rattle.image_depot.specs.Key.{Shelves}
use Rattle.fork_port.specs.declared.commands.Call.{Call}
use Rattle.fork_port.specs.declared.commands.Call.TheVariants.{Clone, Join, Kill}
use Rattle.forest_tree.specs.Operations.{clone, is_cloned, Makes, IsStep}
use Rattle.forest_tree.specs.Tree.{Tree, node, Trees, Broods, no_brood, brood, Log, machine, broods_of, child_at, brood_of, broods_with, Branch, Path, subtree}
use Rattle.forest_tree.specs.Step.{children_from, children, step, waits, waits_by}
use Rattle.forest_tree.specs.Sound.{IsSound}
use Rattle.forest_tree.proofs.Broods.{one_if}
use Rattle.forest_tree.proofs.Calls.{step-clone}
use Rattle.forest_tree.proofs.Places.{some-same, brood_of-none, subtree-sound}
use Rattle.forest_tree.proofs.Sound.{root-sound, clone-is-new}
use Rattle.talking_history.specs.Places.{home, spots, placed, spot_talks}
use Rattle.talking_history.specs.World.{is_asleep_at, holds, lives_ready}
use Rattle.talking_history.specs.Rows.{is_clone, forked, joined, sent, kept, may_spend}
use Rattle.forest_model.specs.Calls.{forked as after_fork}
use Rattle.forest_model.specs.Forest.{machines}
use Rattle.forest_model.specs.Paged.{Paged, paged_machines, paged_talks}
use Rattle.machine_names.specs.NameOrder.{path_cmp}
use Rattle.vm_cell.specs.Keyed.{KeyedMachine, paged}
use Rattle.vm_cell.specs.declared.vm.fork.ForkImage.{ForkImage}
use Rattle.vm_cell.specs.Standing.{IsClone, standing_call}
use Rattle.vm_cell.specs.Woken.{AreSeeds}
use Rattle.vm_descriptor.specs.declared.descriptor.TheConstants.{MAX_CLONES}
use Rattle.world_core.specs.declared.cell.Brood.{Brood}
use Rattle.world_core.specs.declared.cell.Cell.{Cell}
use Rattle.world_core.specs.declared.cell.ChildSlot.TheVariants.{Asleep}
use Rattle.world_core.specs.declared.world.World.{World}
use Rattle.world_core.specs.Lent.{Lent, IsLent, vm_of, now_of}
use Rattle.world_core.specs.PreparedFork.{IsSilent, Prepared, IsPreparedFor, IsPreparedIn, IsBroodOf, IsNewBrood}
use Rattle.ready_queue.specs.Ready.{Ready}
use Rattle.world_core.specs.Listed.{Keeps, IsListed, IsCovered}
use Rattle.world_core.specs.Shows.{Member, paged_of, forest, IsAwake, Holds, HoldsAfter, Shows, StandsAt, forked_tree}
use Rattle.world_core.specs.World.{Forest, IsDue, StandsFor, is_ready_in, rests_in}
use Rattle.world_core.specs.Between.{IsWhole, IsBetween, IsHeardAs, settled_tree}
use Rattle.world_core.specs.Answers.{Goes, IsHandedOut}
use Rattle.world_core.proofs.Ready.{IsListed-more, IsCovered-more}
use Rattle.world_core.proofs.Returns.{apart-below, apart-outside, same-or-apart, some-is, written-here, written-apart}
use Rattle.world_core.proofs.Giving.{stepped-heard}
use Rattle.world_core.proofs.Resting.{rests-below}
use Rattle.world_core.proofs.Steps.{came_out, lent_out, forest-rules, Holds-same, SameTickets, SameTickets-back, lease-same}
use Rattle.world_core.proofs.Reordered.{between-reordered}
use Rattle.world_core.proofs.Calling.{StandsHere, came-alive, lives-out, spent-whole, spent-goes, below-name, still-listed, same-stands, kept-goes, none-shown, found-here, Called}

-- ---- children that are born

-- asleep, and alone
record IsBorn (k : ℕ) (a : Tree Member) : Type 0 where
  first : 1 ≤ k
  asleep_now : is_asleep_at (machine a).machine.place ≡ true
  alone_now : broods_of a ≡ no_brood

born-later : (k : ℕ) (a : Tree Member) → IsBorn (suc k) a → IsBorn (suc (suc k)) a
born-later k a h = record { first = omega arith; asleep_now = h.asleep_now; alone_now = h.alone_now }

born : (s : Member) (n j k : ℕ) (a : Tree Member) → child_at k (children_from forest s j n) ≡ Some a → IsBorn k a
unfolding child_at children_from boxed spots
born s zero j k a found = absurd (cc)
born s (suc n) j zero a found = absurd (cc)
born s (suc n) j (suc zero) a found = record {
  first = omega arith;
  asleep_now = ap (λ (t : Tree Member). is_asleep_at (machine t).machine.place) (sym (some-same _ a found));
  alone_now = ap broods_of (sym (some-same _ a found));
}
born s (suc n) j (suc (suc k)) a found = born-later k a (born s n (suc j) (suc k) a found)

none-beneath : (a : Tree Member) (y : Branch) (rest : Path) → broods_of a ≡ no_brood → subtree (y ∷ rest) a ≡ None
unfolding subtree brood_of child_at
none-beneath (node s broods log) y rest none = ap (λ (b : Broods Member). option_and_then (subtree rest) (child_at y.child (brood_of y.ticket b))) none

-- below a child
born-shows : (depot : Shelves) (name : Path) (resting : Bool) (k : ℕ) (rest : Path) (u : Option (Tree Member)) → ((a : Tree Member) → u ≡ Some a → IsBorn k a)
    → Shows depot name resting None (option_and_then (subtree rest) u)
unfolding subtree
born-shows depot name resting k rest None h = tt
born-shows depot name resting k [] (Some a) h = inr (h a refl).asleep_now
born-shows depot name resting k (y ∷ ys) (Some a) h = subst (Shows depot name resting None) (sym (none-beneath a y ys (h a refl).alone_now)) tt

-- a machine that is ready there is the child
born-ready : (resting : Bool) (k : ℕ) (rest : Path) (u : Option (Tree Member)) → ((a : Tree Member) → u ≡ Some a → IsBorn k a)
    → holds (lives_ready paged_machines paged_talks resting) (option_and_then (subtree rest) u) ≡ true → (rest ≡ []) × (1 ≤ k)
unfolding subtree
born-ready resting k rest None h ready = absurd (cc)
born-ready resting k [] (Some a) h ready = (refl, (h a refl).first)
born-ready resting k (y ∷ ys) (Some a) h ready =
    let no : false ≡ true = sym (ap (holds (lives_ready paged_machines paged_talks resting)) (none-beneath a y ys (h a refl).alone_now)) ∙ ready in absurd (cc)

-- a turn of children covers them
covers-child : (name : Path) (ticket : ℕ) (x : Branch) (rest : Path) (list : List Ready) → ticket ≡ x.ticket → rest ≡ [] → 1 ≤ x.child
    → IsCovered (name ++ x ∷ rest) (record { name = name; children = Some (ticket, 1) } ∷ list)
unfolding IsCovered
covers-child name ticket x rest list same none first =
    let fork : ℕ → Branch = λ t. record { ticket = t; child = x.child } in
    inl (x.child, first, ap (λ (way : Path). name ++ x ∷ way) none ∙ ap (λ t. name ++ fork t ∷ []) (sym same))

-- a machine that was due is still due
due-later : (o : Option Cell) (q : Path) (turn : Ready) (list : List Ready) → IsDue o q list → IsDue o q (turn ∷ list)
due-later None q turn list h = IsCovered-more q turn list h
due-later (Some c) q turn list h = IsListed-more q turn list h

listed-later : (o : Option Cell) (q : Path) (turn : Ready) (list : List Ready) → IfSome o (λ (c : Cell). c.is_listed ≡ true → IsListed q list)
    → IfSome o (λ (c : Cell). c.is_listed ≡ true → IsListed q (turn ∷ list))
listed-later None q turn list h = tt
listed-later (Some c) q turn list h = λ yes. IsListed-more q turn list (h yes)

-- the machine and its broods after the step
whole-new : (ticket : ℕ) (s n : Member) (kids : Trees Member) (broods : Broods Member) (log : Log Member) → IsSound forest (node s broods log)
    → forest.ending s ≡ None → is_cloned forest s ticket ≡ false → IsStep forest s n (λ u. (eqb ticket u) || is_cloned forest s u)
    → IsWhole (node n (brood ticket kids broods) log)
unfolding broods_with
whole-new ticket s n kids broods log sound lives fresh step = record {
  good = step.good;
  one_each = λ u.
      by (eqb ticket u) (is_cloned forest s u) (broods_with u broods) ((root-sound forest s broods log sound).one_each lives u)
      (λ same. ap (is_cloned forest s) (sym (eqb-true ticket u same)) ∙ fresh)
      ∙ ap one_if (sym (step.tickets u));
}
  where
    by : (same is : Bool) (n : ℕ) → n ≡ one_if is → (same ≡ true → is ≡ false) → one_if same + n ≡ one_if (same || is)
    by true true n e none = let no : true ≡ false = none refl in absurd (cc)
    by true false n e none = omega arith
    by false true n e none = omega arith
    by false false n e none = omega arith

new-below : (ticket : ℕ) (s n : Member) (kids : Trees Member) (broods : Broods Member) (log : Log Member) (x : Branch) (rest : Path)
    → subtree (x ∷ rest) (node n (brood ticket kids broods) log)
    ≡ cond (eqb ticket x.ticket) (option_and_then (subtree rest) (child_at x.child kids)) (subtree (x ∷ rest) (node s broods log))
unfolding subtree brood_of
new-below ticket s n kids broods log x rest = by (eqb ticket x.ticket)
  where
    by : (same : Bool) → option_and_then (subtree rest) (child_at x.child (cond same kids (brood_of x.ticket broods)))
        ≡ cond same (option_and_then (subtree rest) (child_at x.child kids)) (option_and_then (subtree rest) (child_at x.child (brood_of x.ticket broods)))
    by true = refl
    by false = refl

-- nothing was there
none-below-yet : (s : Member) (broods : Broods Member) (log : Log Member) (x : Branch) (rest : Path) → broods_with x.ticket broods ≡ 0
    → subtree (x ∷ rest) (node s broods log) ≡ None
unfolding subtree child_at
none-below-yet s broods log x rest none = ap (λ trees. option_and_then (subtree rest) (child_at x.child trees)) (brood_of-none x.ticket broods none)

-- ---- a machine that stands at a CLONE

module _ (depot : Shelves) (w : World) (f : Forest) (lease : Lent) (ticket : ℕ) (start : Paged) (inbox : Inbox) (broods : Broods Member) (log : Log Member) (c : Cell)
    (h : StandsHere depot w f lease (clone ticket) start inbox broods log c) where
  makes-clone : Makes forest (lent_out inbox (now_of lease)) (Some (clone ticket))
  unfolding boxed spots
  makes-clone = record {
    good = (root-sound forest (lent_out inbox (now_of lease)) broods log h.at.sound).good;
    lives = lives-out inbox (now_of lease) h.at.lives;
    call = h.at.at_call;
  }

  abbrev resting_now : Bool
  resting_now = waits forest (node (lent_out inbox (now_of lease)) broods log)

  forked-may : may_spend paged_machines paged_talks forked (now_of lease) resting_now ≡ true
  unfolding boxed spots paged_machines machines
  forked-may = ap₂ (λ ending call. (not (is_some ending) && is_clone call) && not (waits_by forest call broods)) h.at.lives h.at.at_call

  forked-keeps : may_spend paged_machines paged_talks forked (now_of lease) resting_now
      || (may_spend paged_machines paged_talks joined (now_of lease) resting_now || may_spend paged_machines paged_talks sent (now_of lease) resting_now) ≡ true
  forked-keeps =
      ap (λ b. b || (may_spend paged_machines paged_talks joined (now_of lease) resting_now || may_spend paged_machines paged_talks sent (now_of lease) resting_now)) forked-may

  -- the machine with the words to it after the step
  forked-box : forest.forked (lent_out inbox (now_of lease)) ≡ came_out inbox (record (now_of lease) { machine = after_fork lease.now })
  unfolding boxed spots paged_machines machines
  forked-box = refl

  forked-spend : placed home (step forest (node (lent_out inbox (now_of lease)) broods log)) ≡ placed home (settled_tree (forked_tree ticket (node (lent_out inbox (now_of lease)) broods log)))
  forked-spend = ap (placed home) (step-clone forest (lent_out inbox (now_of lease)) broods log ticket makes-clone.lives makes-clone.call)

  forked-machine : paged_of (machine (forked_tree ticket (node (lent_out inbox (now_of lease)) broods log))) ≡ record (now_of lease) { machine = after_fork lease.now }
  unfolding boxed spots paged_machines machines
  forked-machine = refl

  -- the ticket is not cloned yet
  fresh : is_cloned forest (lent_out inbox (now_of lease)) ticket ≡ false
  fresh = clone-is-new forest forest-rules (lent_out inbox (now_of lease)) ticket makes-clone

  none-there : (x : Branch) (rest : Path) → eqb ticket x.ticket ≡ true → get path_cmp w.cells (lease.name ++ x ∷ rest) ≡ None
  none-there x rest same =
      let count = (root-sound forest (lent_out inbox (now_of lease)) broods log h.at.sound).one_each makes-clone.lives x.ticket in
      let none : broods_with x.ticket broods ≡ 0 = count ∙ ap one_if (ap (is_cloned forest (lent_out inbox (now_of lease))) (sym (eqb-true ticket x.ticket same)) ∙ fresh) in
      none-shown depot (lease.name ++ x ∷ rest) (rests_in f.tree (lease.name ++ x ∷ rest)) (get path_cmp w.cells (lease.name ++ x ∷ rest)) (subtree (lease.name ++ x ∷ rest) f.tree)
      (below-name lease.name f.tree (node (lent_out inbox start) broods log) x rest h.is.there ∙ none-below-yet (lent_out inbox start) broods log x rest none)
      (h.is.live.each.cells (lease.name ++ x ∷ rest))

  module _ (v : World) (d : Cell) (ready : v.ready ≡ record { name = lease.name; children = Some (ticket, 1) } ∷ w.ready) (found : get path_cmp v.cells lease.name ≡ Some d)
      (others : (q : Path) → lease.name ≢ q → get path_cmp v.cells q ≡ get path_cmp w.cells q) where
    abbrev turn : Ready
    turn = record { name = lease.name; children = Some (ticket, 1) }

    abbrev kids : Trees Member
    kids = children forest (lent_out inbox (now_of lease)) ticket

    abbrev new_tree : Tree Member
    new_tree = forked_tree ticket (node (lent_out inbox (now_of lease)) broods log)

    kid-born : (k : ℕ) (a : Tree Member) → child_at k kids ≡ Some a → IsBorn k a
    kid-born k a is = born (lent_out inbox (now_of lease)) (forest.grant (lent_out inbox (now_of lease)) ticket).children 1 k a is

    -- those below its other tickets rest as they did
    new-rests : (x : Branch) (rest : Path) → eqb ticket x.ticket ≡ false → rests_in new_tree (x ∷ rest) ≡ rests_in f.tree (lease.name ++ x ∷ rest)
    unfolding brood_of rests_at
    new-rests x rest other = by rest ∙ sym (rests-below lease.name x rest f.tree (node (lent_out inbox start) broods log) h.is.there)
      where
        left : brood_of x.ticket (brood ticket kids broods) ≡ brood_of x.ticket broods
        left = ap (λ same. cond same kids (brood_of x.ticket broods)) other

        by : (rest : Path) → rests_in new_tree (x ∷ rest) ≡ rests_in (node (lent_out inbox start) broods log) (x ∷ rest)
        by [] = ap (sibling_rests (spots paged_machines) (spot_talks paged_talks) x.child) left
        by (y ∷ rest) =
            ap (λ trees. rests_there (rests_at (spots paged_machines) (spot_talks paged_talks) (y ∷ rest)) (child_at x.child trees)) left

    new-shows : (x : Branch) (rest : Path)
        → Shows depot (lease.name ++ x ∷ rest) (rests_in new_tree (x ∷ rest)) (get path_cmp v.cells (lease.name ++ x ∷ rest)) (subtree (x ∷ rest) new_tree)
    new-shows x rest =
        subst (Shows depot (lease.name ++ x ∷ rest) (rests_in new_tree (x ∷ rest)) (get path_cmp v.cells (lease.name ++ x ∷ rest)))
        (sym (new-below ticket (lent_out inbox start) (forest.forked (lent_out inbox (now_of lease))) kids broods log x rest))
        (subst (λ o. Shows depot (lease.name ++ x ∷ rest) (rests_in new_tree (x ∷ rest)) o
        (cond (eqb ticket x.ticket) (option_and_then (subtree rest) (child_at x.child kids)) (subtree (x ∷ rest) (node (lent_out inbox start) broods log))))
        (sym (others (lease.name ++ x ∷ rest) (apart-below lease.name x rest)))
        (by (eqb ticket x.ticket) (none-there x rest) (new-rests x rest)))
      where
        by : {resting : Bool} (same : Bool) → (same ≡ true → get path_cmp w.cells (lease.name ++ x ∷ rest) ≡ None)
            → (same ≡ false → resting ≡ rests_in f.tree (lease.name ++ x ∷ rest))
            → Shows depot (lease.name ++ x ∷ rest) resting (get path_cmp w.cells (lease.name ++ x ∷ rest))
            (cond same (option_and_then (subtree rest) (child_at x.child kids)) (subtree (x ∷ rest) (node (lent_out inbox start) broods log)))
        by {resting} true none as_before =
            subst (λ o. Shows depot (lease.name ++ x ∷ rest) resting o (option_and_then (subtree rest) (child_at x.child kids))) (sym (none refl))
            (born-shows depot (lease.name ++ x ∷ rest) resting x.child rest (child_at x.child kids) (λ a is. kid-born x.child a is))
        by {resting} false none as_before =
            subst (λ r. Shows depot (lease.name ++ x ∷ rest) r (get path_cmp w.cells (lease.name ++ x ∷ rest)) (subtree (x ∷ rest) (node (lent_out inbox start) broods log)))
            (sym (as_before refl))
            (subst (Shows depot (lease.name ++ x ∷ rest) (rests_in f.tree (lease.name ++ x ∷ rest)) (get path_cmp w.cells (lease.name ++ x ∷ rest)))
            (below-name lease.name f.tree (node (lent_out inbox start) broods log) x rest h.is.there) (h.is.live.each.cells (lease.name ++ x ∷ rest)))

    new-ready : (x : Branch) (rest : Path) → is_ready_in (rests_in new_tree) (x ∷ rest) new_tree ≡ true
        → IsDue (get path_cmp v.cells (lease.name ++ x ∷ rest)) (lease.name ++ x ∷ rest) v.ready
    new-ready x rest is =
        subst (IsDue (get path_cmp v.cells (lease.name ++ x ∷ rest)) (lease.name ++ x ∷ rest)) (sym ready)
        (subst (λ o. IsDue o (lease.name ++ x ∷ rest) (turn ∷ w.ready)) (sym (others (lease.name ++ x ∷ rest) (apart-below lease.name x rest)))
        (by (eqb ticket x.ticket) refl (new-rests x rest)
        (ap (holds (lives_ready paged_machines paged_talks (rests_in new_tree (x ∷ rest))))
        (sym (new-below ticket (lent_out inbox start) (forest.forked (lent_out inbox (now_of lease))) kids broods log x rest)) ∙ is)))
      where
        by : {resting : Bool} (same : Bool) → eqb ticket x.ticket ≡ same → (eqb ticket x.ticket ≡ false → resting ≡ rests_in f.tree (lease.name ++ x ∷ rest))
            → holds (lives_ready paged_machines paged_talks resting)
            (cond same (option_and_then (subtree rest) (child_at x.child kids)) (subtree (x ∷ rest) (node (lent_out inbox start) broods log))) ≡ true
            → IsDue (get path_cmp w.cells (lease.name ++ x ∷ rest)) (lease.name ++ x ∷ rest) (turn ∷ w.ready)
        by {resting} true same as_before now =
            let is_child = born-ready resting x.child rest (child_at x.child kids) (λ a is. kid-born x.child a is) now in
            subst (λ o. IsDue o (lease.name ++ x ∷ rest) (turn ∷ w.ready)) (sym (none-there x rest same))
            (covers-child lease.name ticket x rest w.ready (eqb-true ticket x.ticket same) is_child.0 is_child.1)
        by false same as_before now =
            due-later (get path_cmp w.cells (lease.name ++ x ∷ rest)) (lease.name ++ x ∷ rest) turn w.ready
            (h.is.live.each.ready (lease.name ++ x ∷ rest)
            (ap₂ (λ r u. holds (lives_ready paged_machines paged_talks r) u) (sym (as_before same))
            (below-name lease.name f.tree (node (lent_out inbox start) broods log) x rest h.is.there) ∙ now))

    new-listed : d.is_listed ≡ c.is_listed → (q : Path) → IfSome (get path_cmp v.cells q) (λ (cell : Cell). cell.is_listed ≡ true → IsListed q v.ready)
    new-listed same q =
        subst (λ list. IfSome (get path_cmp v.cells q) (λ (cell : Cell). cell.is_listed ≡ true → IsListed q list)) (sym ready)
        (listed-later (get path_cmp v.cells q) q turn w.ready (by (same-or-apart lease.name q)))
      where
        by : (q ≡ lease.name) ⊎ (lease.name ≢ q) → IfSome (get path_cmp v.cells q) (λ (cell : Cell). cell.is_listed ≡ true → IsListed q w.ready)
        by (inl e) =
            subst (λ m. IfSome (get path_cmp v.cells m) (λ (cell : Cell). cell.is_listed ≡ true → IsListed m w.ready)) (sym e)
            (subst (λ o. IfSome o (λ (cell : Cell). cell.is_listed ≡ true → IsListed lease.name w.ready)) (sym found)
            (λ is. subst (λ o. IfSome o (λ (cell : Cell). cell.is_listed ≡ true → IsListed lease.name w.ready)) h.is.cell (h.is.live.each.listed lease.name) (sym same ∙ is)))
        by (inr other) = still-listed (get path_cmp w.cells q) (get path_cmp v.cells q) q w.ready (inl (others q other)) (h.is.live.each.listed q)

    forked-between : v.halted ≡ w.halted → v.outcome ≡ w.outcome → d.is_listed ≡ c.is_listed → HoldsAfter depot lease.name d new_tree → IsBetween depot v f lease.name new_tree
    forked-between halted outcome same after_it = record {
      whole = h.whole;
      halted = halted ∙ h.halted;
      going = outcome ∙ h.is.going;
      root = h.is.live.root;
      there = subst (λ o. IsSomeAnd o IsAwake) (sym h.is.there) h.is.shows.awake;
      own = whole-new ticket (lent_out inbox (now_of lease)) (forest.forked (lent_out inbox (now_of lease))) kids broods log h.at.sound makes-clone.lives fresh
          (forest-rules.forked (lent_out inbox (now_of lease)) ticket makes-clone);
      heard = subst (λ o. IsSomeAnd o (IsHeardAs new_tree)) (sym h.is.there)
          (stepped-heard inbox (record (now_of lease) { machine = after_fork lease.now }) (lent_out inbox (now_of lease)) (forest.forked (lent_out inbox (now_of lease)))
          (node (lent_out inbox start) broods log) (brood ticket kids broods) log forked-box refl);
      cell = subst (λ o. IsSomeAnd o (λ cell. HoldsAfter depot lease.name cell new_tree)) (sym found) after_it;
      below = new-shows;
      ready_below = new-ready;
      elsewhere = λ q none. subst (λ o. Shows depot q (rests_in f.tree q) o (subtree q f.tree)) (sym (others q (apart-outside lease.name q none))) (h.is.live.each.cells q);
      ready = λ q none is.
          subst (IsDue (get path_cmp v.cells q) q) (sym ready)
          (subst (λ o. IsDue o q (turn ∷ w.ready)) (sym (others q (apart-outside lease.name q none)))
          (due-later (get path_cmp w.cells q) q turn w.ready (h.is.live.each.ready q is)));
      listed = new-listed same;
    }

-- ---- what CLONE makes of a world

module _ (depot : Shelves) (w : World) (f : Forest) (lease : Lent) (ticket : ℕ) (c : Cell) (h : StandsFor depot w f) (out_as : IsHandedOut f lease)
    (lent : IsLent lease.start lease.ran lease.now) (at : Some (Clone ticket) ≡ standing_call (vm_of lease)) (found : Some c ≡ get path_cmp w.cells lease.name) where
  pub fork-kept : (cells : BTreeMap Path Cell) (d : Cell) → WritesThrough path_cmp (path_cmp lease.name) w.cells d cells → d.state ≡ c.state → d.kin ≡ c.kin → d.is_listed ≡ c.is_listed
      → ((t : Tree Member) → Holds depot lease.name c t → Holds depot lease.name d t)
      → Goes depot f (kept lease.name lease.ran) (record w { cells = cells })
  fork-kept cells d written state kin listed still =
      let is = found-here depot w f lease (Clone ticket) c h out_as lent at found in
      let some = some-is c (get path_cmp w.cells lease.name) found in
      let u : Tree Member = node (lent_out is.inbox (now_of lease)) is.broods is.log in
      let t : Tree Member = node (lent_out is.inbox is.start) is.broods is.log in
      let good = (root-sound forest (lent_out is.inbox is.start) is.broods is.log
      (subtree-sound forest lease.name f.tree t is.stands.whole.sound is.stands.is.there)).good in
      kept-goes depot w f lease (clone ticket) is.start is.inbox is.broods is.log c is.stands (forked-keeps depot w f lease ticket is.start is.inbox is.broods is.log c is.stands)
      (record w { cells = cells })
      (same-stands depot w f cells lease.name t c d h is.stands.is (written-here w.cells cells lease.name d written some)
      (written-apart w.cells cells lease.name d written some) state kin listed
      (Holds-same depot lease.name d (lent_out is.inbox (now_of lease)) (lent_out is.inbox is.start) is.broods is.log
      (SameTickets-back (lent_out is.inbox is.start) (lent_out is.inbox (now_of lease)) good
      (subst (SameTickets (lent_out is.inbox is.start)) (came-alive is.inbox (now_of lease) is.stands.at.lives)
      (lease-same is.start (now_of lease) lease.ran is.inbox is.stands.has good)))
      (still u is.stands.holds)))

  pub fork-called : (cells : BTreeMap Path Cell) (d : Cell) (list : List Ready) (name : Path) (vm after : Paged) → name ≡ lease.name
      → vm ≡ now_of lease → WritesThrough path_cmp (path_cmp lease.name) w.cells d cells
      → Keeps (record { name = lease.name; children = Some (ticket, 1) } ∷ w.ready) list → d.is_listed ≡ c.is_listed → after ≡ record vm { machine = after_fork vm.machine }
      → ((t : Tree Member) → Holds depot lease.name c t → StandsAt vm (clone ticket) t → HoldsAfter depot lease.name d (forked_tree ticket t))
      → Called depot (record w { cells = cells; ready = list }) f lease forked name after
  fork-called cells d list name vm after name_is vm_is written ready listed made holds_after =
      let is = found-here depot w f lease (Clone ticket) c h out_as lent at found in
      let s = is.stands in
      let v : World = record w { cells = cells; ready = record { name = lease.name; children = Some (ticket, 1) } ∷ w.ready } in
      let u : Tree Member = node (lent_out is.inbox (now_of lease)) is.broods is.log in
      let some = some-is c (get path_cmp w.cells lease.name) found in
      let becomes = forked-spend depot w f lease ticket is.start is.inbox is.broods is.log c s in
      subst (λ n. Called depot (record v { ready = list }) f lease forked n after) (sym name_is) (record {
        tree = forked_tree ticket u;
        between = between-reordered depot v list f ready lease.name (forked_tree ticket u)
            (forked-between depot w f lease ticket is.start is.inbox is.broods is.log c s v d refl (written-here w.cells cells lease.name d written some)
            (written-apart w.cells cells lease.name d written some) refl refl listed
            (holds_after u s.holds (subst (λ m. StandsAt m (clone ticket) u) (sym vm_is) s.at)));
        is = forked-machine depot w f lease ticket is.start is.inbox is.broods is.log c s ∙ ap (λ (p : Paged). record p { machine = after_fork p.machine }) (sym vm_is) ∙ sym made;
        whole = spent-whole depot w f lease (clone ticket) is.start is.inbox is.broods is.log c s forked (placed home (settled_tree (forked_tree ticket u))) becomes refl
            (forked-may depot w f lease ticket is.start is.inbox is.broods is.log c s);
        goes = spent-goes depot w f lease (clone ticket) is.start is.inbox is.broods is.log c s forked (placed home (settled_tree (forked_tree ticket u))) becomes refl
            (forked-may depot w f lease ticket is.start is.inbox is.broods is.log c s);
      })

-- ---- a prepared that was made for the CLONE

pub stands-clone : (next : Option Call) → IsClone next → (ticket : ℕ) × (Some (Clone ticket) ≡ next)
stands-clone (Some (Clone ticket)) h = (ticket, refl)
stands-clone (Some (Join ticket)) h = absurd h
stands-clone (Some (Kill ticket)) h = absurd h
stands-clone None h = absurd h

module _ (lease : Lent) (prepared : Prepared) (ticket : ℕ) (vm : KeyedMachine) (of : IsPreparedFor lease prepared) (number : ticket ≡ prepared.ticket) (same : vm ≡ vm_of lease) where
  pub prepared-stands : standing_call vm ≡ Some (Clone ticket)
  prepared-stands = ap standing_call same ∙ of.clone ∙ ap (λ t. let call : Call = Clone t in Some call) (sym number)

  pub prepared-brood : (depot : Shelves) (b : Brood) → IsPreparedIn depot prepared → IsBroodOf prepared b → IsNewBrood depot lease.name vm ticket b prepared.image
  prepared-brood depot b here is =
      subst (λ v. IsNewBrood depot lease.name v ticket b prepared.image) (sym same)
      (subst (λ t. IsNewBrood depot lease.name (vm_of lease) t b prepared.image) (sym number) (record {
        name = is.name ∙ of.name;
        image = is.image;
        slots = is.slots ∙ ap (λ n. replicate n Asleep) of.children;
        live = is.live ∙ of.children;
        wordless = is.wordless;
        silent = subst (λ n. IsSilent n b.notes) of.children is.silent;
        few = subst (λ n. n ≤ MAX_CLONES) of.children is.few;
        key = here;
        seeds = subst (λ n. AreSeeds (vm_of lease) prepared.image.key n prepared.image.seed) of.children of.seeds;
      }))

-- the machine after the CLONE has the key of the one before
pub forked-key : {before after lent : KeyedMachine} → before ≡ lent → after ≡ record before { machine = after_fork before.machine } → after.key ≡ lent.key
forked-key same made = ap (λ (v : KeyedMachine). v.key) made ∙ ap (λ (v : KeyedMachine). v.key) same

-- ---- what the commit of a prepared makes of a world

module _ (depot : Shelves) (w : World) (f : Forest) (lease : Lent) (prepared : Prepared) (ticket : ℕ) (c : Cell) (vm : KeyedMachine) (h : StandsFor depot w f)
    (out_as : IsHandedOut f lease) (lent : IsLent lease.start lease.ran lease.now) (of : IsPreparedFor lease prepared) (number : ticket ≡ prepared.ticket)
    (same : vm ≡ vm_of lease) (found : Some c ≡ get path_cmp w.cells lease.name) where
  pub committed : (cells : BTreeMap Path Cell) (d : Cell) (list : List Ready) (name : Path) (b : Brood) (queued : Ready) (after : KeyedMachine) → name ≡ lease.name
      → WritesThrough path_cmp (path_cmp lease.name) w.cells d cells → IsPreparedIn depot prepared → IsBroodOf prepared b
      → queued ≡ record { name = prepared.name; children = Some (prepared.ticket, 1) } → Keeps (queued ∷ w.ready) list → d.is_listed ≡ c.is_listed
      → after ≡ record vm { machine = after_fork vm.machine }
      → ((left : ForkImage) → IsNewBrood depot lease.name vm ticket b left → (t : Tree Member) → Holds depot lease.name c t → StandsAt (paged vm) (clone ticket) t
      → HoldsAfter depot lease.name d (forked_tree ticket t))
      → Called depot (record w { cells = cells; ready = list }) f lease forked name (paged after)
  committed cells d list name b queued after name_is written here is_brood queued_is keeps listed made holds =
      fork-called depot w f lease ticket c h out_as lent (sym (prepared-stands lease prepared ticket (vm_of lease) of number refl)) found
      cells d list name (paged vm) (paged after) name_is (ap paged same) written
      (subst (λ q. Keeps (q ∷ w.ready) list)
      (queued_is ∙ ap₂ (λ n k. let q : Ready = record { name = n; children = Some (k, 1) } in q) of.name (sym number)) keeps)
      listed (ap paged made) (holds prepared.image (prepared-brood lease prepared ticket vm of number same depot b here is_brood))
