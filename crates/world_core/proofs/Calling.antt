-- A world after a machine has made a call.
use Rattle.std.proofs.Common.{◌≡◌, ◌≢◌, ◌⊎◌, ℕ, suc, ◌&&◌, ◌||◌, not, eqb, Bool, true, false, cond, refl, sym, ap, ap₂, ◌∙◌, subst}
use Rattle.std.proofs.Common.{inl, inr, List, [], ◌∷◌, ◌++◌, Option, Some, None, is_some, option_and_then}
use Rattle.std.specs.Option.{IfSome, IsSomeAnd}
use Rattle.std.specs.BTreeMap.{BTreeMap, get}
use Rattle.std.specs.Prelude.{Result, Ok, Err}
use Rattle.std.specs.Result.{OnOk, OnErr, is_err}
use Rattle.image_depot.specs.Key.{Shelves}
use Rattle.fork_port.specs.declared.commands.Call as port
use Rattle.fork_port.specs.declared.ending.Ending.{Ending}
use Rattle.forest_tree.specs.Operations.{Call, is_cloned, IsStep}
use Rattle.forest_tree.specs.Tree.{Tree, node, no_tree, Broods, Log, machine, child_at, brood_of, without, broods_with, Branch, Path, subtree, beyond, at_path}
use Rattle.forest_tree.specs.Step.{has_ended, waits, step, settled, settled_by, steps}
use Rattle.forest_tree.specs.Sound.{IsSound}
use Rattle.forest_tree.proofs.Broods.{one_if, broods_with-without}
use Rattle.forest_tree.proofs.Places.{some-same, brood_of-without, subtree-parts, subtree-sound}
use Rattle.forest_tree.proofs.Sound.{root-sound, steps-keeps}
use Rattle.forest_tree.proofs.Rests.{lives-none}
use Rattle.sibling_forest.specs.Talk.{Inbox, boxed, kept_by}
use Rattle.sibling_forest.specs.Settle.{rests_at, rests_there, sibling_rests}
use Rattle.talking_history.specs.Places.{home, out, parked, spots, placed, spot_talks}
use Rattle.talking_history.specs.World.{holds, lives_ready}
use Rattle.talking_history.specs.Rows.{How, forked, joined, sent, waited, spent, dropped, kept, made, may_spend, came_back, Allows, does}
use Rattle.forest_model.specs.Forest.{machines, tree_call}
use Rattle.forest_model.specs.Paged.{Paged, paged_machines, paged_talks}
use Rattle.machine_names.specs.NameOrder.{path_cmp}
use Rattle.vm_cell.specs.Keyed.{KeyedMachine, IsOfDepot}
use Rattle.vm_cell.specs.Standing.{standing_call}
use Rattle.world_core.specs.declared.cell.Cell.{Cell}
use Rattle.world_core.specs.declared.cell.State.{State}
use Rattle.world_core.specs.declared.world.World.{World}
use Rattle.world_core.specs.Lent.{Lent, IsLent, vm_of, now_of}
use Rattle.ready_queue.specs.Ready.{Ready}
use Rattle.world_core.specs.Listed.{IsListed}
use Rattle.world_core.specs.Shows.{Member, paged_of, forest, IsAwake, IsKinIn, Holds, HoldsAfter, StateShows, IsStateOf, Shows, StandsAt, ended_tree}
use Rattle.world_core.specs.World.{Forest, IsDue, IsForest, ShowsTree, StandsFor, is_ready_in, rests_in}
use Rattle.world_core.specs.Between.{IsWhole, IsBetween, IsHeardAs, with_tree, settled_tree}
use Rattle.world_core.specs.Answers.{Goes, IsHandedOut, IsLentOf}
use Rattle.world_core.proofs.Changes.{Lies, here, below, parent, above, apart, lies}
use Rattle.world_core.proofs.Giving.{node-rests}
use Rattle.world_core.proofs.Resting.{rests-at-call, rests-below}
use Rattle.world_core.proofs.Returns.{IsOutHere, Handed, gone, there, handed, same-or-apart}
use Rattle.world_core.proofs.Spending.{came-call, came-own, later, row-goes, row-keeps, row-whole, settled-later, then}
use Rattle.world_core.proofs.Steps.{HasRun, SameTickets, call-quiet, came_out, forest-rules, has-run, Holds-same, lease-same, lease-steps, lent_out, standing}

-- ---- a machine on lease that stands at a call

-- its cell shows it, and it has made its own steps
pub record StandsHere (depot : Shelves) (w : World) (f : Forest) (lease : Lent) (next : Call) (start : Paged) (inbox : Inbox) (broods : Broods Member)
    (log : Log Member) (c : Cell) : Type 0 where
  pub is : IsOutHere depot w f lease.name (node (lent_out inbox start) broods log) c
  pub holds : Holds depot lease.name c (node (lent_out inbox (now_of lease)) broods log)
  pub at : StandsAt (now_of lease) next (node (lent_out inbox (now_of lease)) broods log)
  pub has : HasRun start lease.ran (now_of lease)
  pub alive : forest.ending (lent_out inbox start) ≡ None
  pub whole : IsForest f.tree
  pub halted : w.halted ≡ f.halted

pub lives-out : (inbox : Inbox) (p : Paged) → p.machine.ending ≡ None → forest.ending (lent_out inbox p) ≡ None
unfolding boxed spots paged_machines machines
lives-out inbox p lives = lives

-- a machine that lives keeps the words to it
pub came-alive : (inbox : Inbox) (p : Paged) → p.machine.ending ≡ None → came_out inbox p ≡ lent_out inbox p
unfolding spots paged_machines machines
came-alive inbox p lives =
    ap (λ e. record { machine = record { machine = p; place = out }; inbox = kept_by (spots paged_machines) (spot_talks paged_talks) e inbox }) lives

pub stood : (depot : Shelves) (w : World) (f : Forest) (lease : Lent) (call : port.Call) (start : Paged) (inbox : Inbox) (broods : Broods Member)
    (log : Log Member) (c : Cell) → StandsFor depot w f → HasRun start lease.ran (now_of lease) → standing_call (vm_of lease) ≡ Some call
    → IsOutHere depot w f lease.name (node (lent_out inbox start) broods log) c → StandsHere depot w f lease (tree_call call) start inbox broods log c
stood depot w f lease call start inbox broods log c stands lent at is =
    let calls = standing (vm_of lease) call at in
    let before : Tree Member = node (lent_out inbox start) broods log in
    let sound : IsSound forest before = subtree-sound forest lease.name f.tree before stands.whole.sound is.there in
    let alive : forest.ending (lent_out inbox start) ≡ None = lives-none (forest.ending (lent_out inbox start)) is.shows.awake.lives in
    let same : came_out inbox (now_of lease) ≡ lent_out inbox (now_of lease) = came-alive inbox (now_of lease) calls.0 in
    let run : steps forest lease.ran before ≡ node (lent_out inbox (now_of lease)) broods log =
    lease-steps start (now_of lease) lease.ran inbox lent broods log alive
    ∙ ap (λ s. settled forest s broods log) same
    ∙ ap (λ e. settled_by forest e (lent_out inbox (now_of lease)) broods log) (lives-out inbox (now_of lease) calls.0) in
    record {
      is = is;
      holds = Holds-same depot lease.name c (lent_out inbox start) (lent_out inbox (now_of lease)) broods log
          (subst (SameTickets (lent_out inbox start)) same
          (lease-same start (now_of lease) lease.ran inbox lent (root-sound forest (lent_out inbox start) broods log sound).good)) is.shows.holds;
      at = record {
        is = refl;
        at_call = calls.1;
        lives = calls.0;
        sound = subst (IsSound forest) run (steps-keeps forest forest-rules lease.ran before sound).sound;
      };
      has = lent;
      alive = alive;
      whole = stands.whole;
      halted = stands.halted;
    }

-- ---- the row of a call that is made

module _ (depot : Shelves) (w : World) (f : Forest) (lease : Lent) (next : Call) (start : Paged) (inbox : Inbox) (broods : Broods Member) (log : Log Member)
    (c : Cell) (here_is : StandsHere depot w f lease next start inbox broods log c) where
  abbrev standing_tree : Tree Member
  standing_tree = node (lent_out inbox (now_of lease)) broods log

  abbrev later_is : Tree Member
  later_is = later f lease.name start (now_of lease) lease.ran inbox broods log here_is.whole here_is.is.there here_is.has here_is.alive

  pub later-stands : later_is ≡ standing_tree
  later-stands =
      settled-later f lease.name start (now_of lease) lease.ran inbox broods log here_is.whole here_is.is.there here_is.has here_is.alive None here_is.at.lives
      ∙ ap (λ s. node s broods log) (came-alive inbox (now_of lease) here_is.at.lives)

  -- whether it rests then: where it waits for children, since it makes no talk
  pub resting-then : rests_in (then f lease.name start (now_of lease) lease.ran inbox broods log here_is.whole here_is.is.there here_is.has here_is.alive) lease.name
      ≡ waits forest standing_tree
  unfolding boxed spots paged_machines machines
  resting-then =
      ap (λ u. rests_in (at_path (λ a. u) lease.name f.tree) lease.name) later-stands
      ∙ rests-at-call lease.name f.tree (node (lent_out inbox start) broods log) standing_tree next here_is.is.there
      (lives-at standing_tree here_is.at.lives refl) (call-at standing_tree next here_is.at.at_call refl)
    where
      lives-at : (t : Tree Member) → (now_of lease).machine.ending ≡ None → t ≡ standing_tree → has_ended forest t ≡ false
      lives-at t lives same = ap (has_ended forest) same ∙ ap is_some lives

      call-at : (t : Tree Member) (next : Call) → paged_machines.call (now_of lease) ≡ Some next → t ≡ standing_tree → forest.call (machine t) ≡ Some next
      call-at t next call same = ap (λ u. forest.call (machine u)) same ∙ call

  module _ (how : How) (b : Tree Member) (becomes : placed home (step forest standing_tree) ≡ b) (one : made how lease.ran ≡ suc lease.ran)
      (may : may_spend paged_machines paged_talks how (now_of lease) (waits forest standing_tree) ≡ true) where
    may-then : may_spend paged_machines paged_talks how (now_of lease)
        (rests_in (then f lease.name start (now_of lease) lease.ran inbox broods log here_is.whole here_is.is.there here_is.has here_is.alive) lease.name) ≡ true
    may-then = ap (may_spend paged_machines paged_talks how (now_of lease)) resting-then ∙ may

    came : came_back paged_machines paged_talks how lease.name lease.ran f.tree ≡ (with_tree lease.name b f).tree
    came =
        came-call f lease.name start (now_of lease) lease.ran inbox broods log here_is.whole here_is.is.there here_is.has here_is.alive how may-then one
        (call-quiet (now_of lease) next here_is.at.at_call)
        ∙ ap (λ v. at_path (λ a. v) lease.name f.tree) (ap (λ u. placed home (step forest u)) later-stands ∙ becomes)

    pub spent-whole : IsForest (with_tree lease.name b f).tree
    spent-whole =
        row-whole f lease.name start (now_of lease) lease.ran inbox broods log here_is.whole here_is.is.there here_is.has here_is.alive how may-then b came

    pub spent-goes : (new : World) → StandsFor depot new (with_tree lease.name b f) → Goes depot f (spent how lease.name lease.ran) new
    spent-goes new stands =
        row-goes f lease.name start (now_of lease) lease.ran inbox broods log here_is.whole here_is.is.there here_is.has here_is.alive how may-then b came depot new stands

  -- it waits, and is parked
  module _ (may : may_spend paged_machines paged_talks waited (now_of lease) (waits forest standing_tree) ≡ true) where
    waits-then : may_spend paged_machines paged_talks waited (now_of lease)
        (rests_in (then f lease.name start (now_of lease) lease.ran inbox broods log here_is.whole here_is.is.there here_is.has here_is.alive) lease.name) ≡ true
    waits-then = ap (may_spend paged_machines paged_talks waited (now_of lease)) resting-then ∙ may

    came-to-wait : came_back paged_machines paged_talks waited lease.name lease.ran f.tree ≡ (with_tree lease.name (placed parked standing_tree) f).tree
    came-to-wait =
        came-own f lease.name start (now_of lease) lease.ran inbox broods log here_is.whole here_is.is.there here_is.has here_is.alive waited waits-then refl
        ∙ ap (λ v. at_path (λ a. placed parked v) lease.name f.tree) later-stands

    pub waited-whole : IsForest (with_tree lease.name (placed parked standing_tree) f).tree
    waited-whole =
        row-whole f lease.name start (now_of lease) lease.ran inbox broods log here_is.whole here_is.is.there here_is.has here_is.alive waited waits-then
        (placed parked standing_tree) came-to-wait

    pub waited-goes : (new : World) → StandsFor depot new (with_tree lease.name (placed parked standing_tree) f) → Goes depot f (spent waited lease.name lease.ran) new
    waited-goes new stands =
        row-goes f lease.name start (now_of lease) lease.ran inbox broods log here_is.whole here_is.is.there here_is.has here_is.alive waited waits-then
        (placed parked standing_tree) came-to-wait depot new stands

-- the name is gone
pub dropped-goes : (depot : Shelves) (w : World) (f : Forest) (name : Path) → StandsFor depot w f → subtree name f.tree ≡ None → Goes depot f (dropped name) w
unfolding Allows does
dropped-goes depot w f name stands none = record { allowed = none; after = stands }

-- ---- a world in the middle of a call that drops the children of a ticket

-- the machine and its broods after a step
pub whole-gone : (ticket : ℕ) (s n : Member) (broods : Broods Member) (log after : Log Member) → IsSound forest (node s broods log)
    → forest.ending s ≡ None → IsStep forest s n (λ u. not (eqb ticket u) && is_cloned forest s u) → IsWhole (node n (without ticket broods) after)
whole-gone ticket s n broods log after sound lives step = record {
  good = step.good;
  one_each = λ u.
      broods_with-without ticket u broods
      ∙ by (eqb ticket u) (is_cloned forest s u) (broods_with u broods) ((root-sound forest s broods log sound).one_each lives u)
      ∙ ap one_if (sym (step.tickets u));
}
  where
    by : (same is : Bool) (n : ℕ) → n ≡ one_if is → cond same 0 n ≡ one_if (not same && is)
    by true is n e = refl
    by false is n e = e

gone-below : (ticket : ℕ) (s n : Member) (broods : Broods Member) (log after : Log Member) (x : Branch) (rest : Path)
    → subtree (x ∷ rest) (node n (without ticket broods) after) ≡ cond (eqb ticket x.ticket) None (subtree (x ∷ rest) (node s broods log))
unfolding subtree child_at
gone-below ticket s n broods log after x rest =
    ap (λ trees. option_and_then (subtree rest) (child_at x.child trees)) (brood_of-without ticket x.ticket broods) ∙ by (eqb ticket x.ticket)
  where
    by : (same : Bool) → option_and_then (subtree rest) (child_at x.child (cond same no_tree (brood_of x.ticket broods)))
        ≡ cond same None (option_and_then (subtree rest) (child_at x.child (brood_of x.ticket broods)))
    by true = refl
    by false = refl

-- the trees below a name
pub below-name : (name : Path) (t a : Tree Member) (x : Branch) (rest : Path) → subtree name t ≡ Some a → subtree (name ++ x ∷ rest) t ≡ subtree (x ∷ rest) a
below-name name t a x rest found = subtree-parts name (x ∷ rest) t ∙ ap (option_and_then (subtree (x ∷ rest))) found

-- the same broods, whatever the machine and the log
pub same-below : (s n : Member) (broods : Broods Member) (log after : Log Member) (x : Branch) (rest : Path)
    → subtree (x ∷ rest) (node s broods log) ≡ subtree (x ∷ rest) (node n broods after)
unfolding subtree
same-below s n broods log after x rest = refl

-- a cell that is as it was, or is gone
pub still-listed : (o : Option Cell) (p : Option Cell) (n : Path) (list : List Ready) → (p ≡ o) ⊎ (p ≡ None) → IfSome o (λ (c : Cell). c.is_listed ≡ true → IsListed n list)
    → IfSome p (λ (c : Cell). c.is_listed ≡ true → IsListed n list)
still-listed o p n list (inl e) h = subst (λ q. IfSome q (λ (c : Cell). c.is_listed ≡ true → IsListed n list)) (sym e) h
still-listed o p n list (inr e) h = subst (λ q. IfSome q (λ (c : Cell). c.is_listed ≡ true → IsListed n list)) (sym e) tt

module _ (depot : Shelves) (w v : World) (f : Forest) (name : Path) (ticket : ℕ) (s n : Member) (broods : Broods Member) (log after : Log Member)
    (c d : Cell) (is : IsOutHere depot w f name (node s broods log) c) (ready : v.ready ≡ w.ready) (found : get path_cmp v.cells name ≡ Some d)
    (elsewhere : (q : Path) → beyond name q ≡ None → get path_cmp v.cells q ≡ get path_cmp w.cells q)
    (swept : (x : Branch) (rest : Path) → get path_cmp v.cells (name ++ x ∷ rest) ≡ cond (eqb ticket x.ticket) None (get path_cmp w.cells (name ++ x ∷ rest))) where
  abbrev gone_tree : Tree Member
  gone_tree = node n (without ticket broods) after

  -- those that are left rest as they did
  gone-rests : (x : Branch) (rest : Path) → eqb ticket x.ticket ≡ false → rests_in gone_tree (x ∷ rest) ≡ rests_in f.tree (name ++ x ∷ rest)
  unfolding rests_at
  gone-rests x rest other = by rest ∙ sym (rests-below name x rest f.tree (node s broods log) is.there)
    where
      left : brood_of x.ticket (without ticket broods) ≡ brood_of x.ticket broods
      left = brood_of-without ticket x.ticket broods ∙ ap (λ same. cond same no_tree (brood_of x.ticket broods)) other

      by : (rest : Path) → rests_in (node n (without ticket broods) after) (x ∷ rest) ≡ rests_in (node s broods log) (x ∷ rest)
      by [] = ap (sibling_rests (spots paged_machines) (spot_talks paged_talks) x.child) left
      by (y ∷ rest) =
          ap (λ trees. rests_there (rests_at (spots paged_machines) (spot_talks paged_talks) (y ∷ rest)) (child_at x.child trees)) left

  gone-shows : (x : Branch) (rest : Path)
      → Shows depot (name ++ x ∷ rest) (rests_in gone_tree (x ∷ rest)) (get path_cmp v.cells (name ++ x ∷ rest)) (subtree (x ∷ rest) gone_tree)
  gone-shows x rest =
      let q : Path = name ++ x ∷ rest in
      subst (Shows depot q (rests_in gone_tree (x ∷ rest)) (get path_cmp v.cells q)) (sym (gone-below ticket s n broods log after x rest))
      (subst (λ o. Shows depot q (rests_in gone_tree (x ∷ rest)) o (cond (eqb ticket x.ticket) None (subtree (x ∷ rest) (node s broods log)))) (sym (swept x rest))
      (by (eqb ticket x.ticket) (gone-rests x rest)))
    where
      by : {resting : Bool} (same : Bool) → (same ≡ false → resting ≡ rests_in f.tree (name ++ x ∷ rest))
          → Shows depot (name ++ x ∷ rest) resting (cond same None (get path_cmp w.cells (name ++ x ∷ rest))) (cond same None (subtree (x ∷ rest) (node s broods log)))
      by true as_before = tt
      by false as_before =
          subst (λ resting. Shows depot (name ++ x ∷ rest) resting (get path_cmp w.cells (name ++ x ∷ rest)) (subtree (x ∷ rest) (node s broods log))) (sym (as_before refl))
          (subst (Shows depot (name ++ x ∷ rest) (rests_in f.tree (name ++ x ∷ rest)) (get path_cmp w.cells (name ++ x ∷ rest)))
          (below-name name f.tree (node s broods log) x rest is.there) (is.live.each.cells (name ++ x ∷ rest)))

  gone-ready : (x : Branch) (rest : Path) → is_ready_in (rests_in gone_tree) (x ∷ rest) gone_tree ≡ true → IsDue (get path_cmp v.cells (name ++ x ∷ rest)) (name ++ x ∷ rest) v.ready
  gone-ready x rest h =
      subst (IsDue (get path_cmp v.cells (name ++ x ∷ rest)) (name ++ x ∷ rest)) (sym ready)
      (subst (λ o. IsDue o (name ++ x ∷ rest) w.ready) (sym (swept x rest))
      (by (eqb ticket x.ticket) (gone-rests x rest)
      (ap (holds (lives_ready paged_machines paged_talks (rests_in gone_tree (x ∷ rest)))) (sym (gone-below ticket s n broods log after x rest)) ∙ h)))
    where
      by : {resting : Bool} (same : Bool) → (same ≡ false → resting ≡ rests_in f.tree (name ++ x ∷ rest))
          → holds (lives_ready paged_machines paged_talks resting) (cond same None (subtree (x ∷ rest) (node s broods log))) ≡ true
          → IsDue (cond same None (get path_cmp w.cells (name ++ x ∷ rest))) (name ++ x ∷ rest) w.ready
      by true as_before h = absurd (cc)
      by false as_before h =
          is.live.each.ready (name ++ x ∷ rest)
          (ap₂ (λ r u. holds (lives_ready paged_machines paged_talks r) u) (sym (as_before refl)) (below-name name f.tree (node s broods log) x rest is.there) ∙ h)

  kept-or-gone : (x : Branch) (rest : Path)
      → (get path_cmp v.cells (name ++ x ∷ rest) ≡ get path_cmp w.cells (name ++ x ∷ rest)) ⊎ (get path_cmp v.cells (name ++ x ∷ rest) ≡ None)
  kept-or-gone x rest = by (eqb ticket x.ticket) (swept x rest)
    where
      by : (same : Bool) → get path_cmp v.cells (name ++ x ∷ rest) ≡ cond same None (get path_cmp w.cells (name ++ x ∷ rest))
          → (get path_cmp v.cells (name ++ x ∷ rest) ≡ get path_cmp w.cells (name ++ x ∷ rest)) ⊎ (get path_cmp v.cells (name ++ x ∷ rest) ≡ None)
      by true e = inr e
      by false e = inl e

  gone-listed : d.is_listed ≡ c.is_listed → (q : Path) → IfSome (get path_cmp v.cells q) (λ (cell : Cell). cell.is_listed ≡ true → IsListed q v.ready)
  gone-listed same q =
      subst (λ list. IfSome (get path_cmp v.cells q) (λ (cell : Cell). cell.is_listed ≡ true → IsListed q list)) (sym ready) (by (lies name q))
    where
      outside : beyond name q ≡ None → IfSome (get path_cmp v.cells q) (λ (cell : Cell). cell.is_listed ≡ true → IsListed q w.ready)
      outside none = still-listed (get path_cmp w.cells q) (get path_cmp v.cells q) q w.ready (inl (elsewhere q none)) (is.live.each.listed q)

      by : Lies name q → IfSome (get path_cmp v.cells q) (λ (cell : Cell). cell.is_listed ≡ true → IsListed q w.ready)
      by (here e) =
          subst (λ m. IfSome (get path_cmp v.cells m) (λ (cell : Cell). cell.is_listed ≡ true → IsListed m w.ready)) (sym e)
          (subst (λ o. IfSome o (λ (cell : Cell). cell.is_listed ≡ true → IsListed name w.ready)) (sym found)
          (λ yes. subst (λ o. IfSome o (λ (cell : Cell). cell.is_listed ≡ true → IsListed name w.ready)) is.cell (is.live.each.listed name) (sym same ∙ yes)))
      by (below x rest e) =
          subst (λ m. IfSome (get path_cmp v.cells m) (λ (cell : Cell). cell.is_listed ≡ true → IsListed m w.ready)) (sym e)
          (still-listed (get path_cmp w.cells (name ++ x ∷ rest)) (get path_cmp v.cells (name ++ x ∷ rest)) (name ++ x ∷ rest) w.ready (kept-or-gone x rest)
          (is.live.each.listed (name ++ x ∷ rest)))
      by (parent x none e) = outside none
      by (above x y rest none e) = outside none
      by (apart none e) = outside none

  pub gone-between : IsForest f.tree → IsWhole gone_tree → IsHeardAs gone_tree (node s broods log) → HoldsAfter depot name d gone_tree
      → d.is_listed ≡ c.is_listed → v.halted ≡ f.halted → v.outcome ≡ w.outcome → IsBetween depot v f name gone_tree
  gone-between whole own heard after_it same halted outcome = record {
    whole = whole;
    halted = halted;
    going = outcome ∙ is.going;
    root = is.live.root;
    there = subst (λ o. IsSomeAnd o IsAwake) (sym is.there) is.shows.awake;
    own = own;
    heard = subst (λ o. IsSomeAnd o (IsHeardAs gone_tree)) (sym is.there) heard;
    cell = subst (λ o. IsSomeAnd o (λ cell. HoldsAfter depot name cell gone_tree)) (sym found) after_it;
    below = gone-shows;
    ready_below = gone-ready;
    elsewhere = λ q none. subst (λ o. Shows depot q (rests_in f.tree q) o (subtree q f.tree)) (sym (elsewhere q none)) (is.live.each.cells q);
    ready = λ q none yes.
        subst (IsDue (get path_cmp v.cells q) q) (sym ready) (subst (λ o. IsDue o q w.ready) (sym (elsewhere q none)) (is.live.each.ready q yes));
    listed = gone-listed same;
  }

-- ---- a call that is not made

-- no cell has the name of a machine that is not there
pub none-shown : (depot : Shelves) (name : Path) (resting : Bool) (c : Option Cell) (u : Option (Tree Member)) → u ≡ None → Shows depot name resting c u → c ≡ None
none-shown depot name resting None u none h = refl
none-shown depot name resting (Some c) None none h = absurd h
none-shown depot name resting (Some c) (Some t) none h = absurd (cc)

-- another cell of that name shows the same machine
pub same-stands : (depot : Shelves) (w : World) (f : Forest) (cells : BTreeMap Path Cell) (name : Path) (t : Tree Member) (c d : Cell)
    → StandsFor depot w f → IsOutHere depot w f name t c → get path_cmp cells name ≡ Some d → ((q : Path) → name ≢ q → get path_cmp cells q ≡ get path_cmp w.cells q)
    → d.state ≡ c.state → d.kin ≡ c.kin → d.is_listed ≡ c.is_listed → Holds depot name d t → StandsFor depot (record w { cells = cells }) f
same-stands depot w f cells name t c d h is found others state kin listed held = record {
  whole = h.whole;
  halted = h.halted;
  tree = subst (λ o. ShowsTree o depot (record w { cells = cells }) f.tree) (sym is.going) (record {
    root = is.live.root;
    each = record {
      cells = λ q. shows q (same-or-apart name q);
      ready = λ q yes. due q yes (same-or-apart name q);
      listed = λ q. turns q (same-or-apart name q);
    };
  });
}
  where
    kin-as : {st su : State} {k l : Option Path} → st ≡ su → k ≡ l → IsKinIn st k name → IsKinIn su l name
    kin-as {st} {su} {k} {l} e g h = subst (λ s. IsKinIn s l name) e (subst (λ m. IsKinIn st m name) g h)

    here_shows : Shows depot name (rests_in f.tree name) (get path_cmp cells name) (subtree name f.tree)
    here_shows =
        subst (λ o. Shows depot name (rests_in f.tree name) o (subtree name f.tree)) (sym found)
        (subst (Shows depot name (rests_in f.tree name) (Some d)) (sym is.there) (record {
          awake = is.shows.awake;
          kin = kin-as (sym state) (sym kin) is.shows.kin;
          state = subst (λ (st : State). StateShows name st (machine t) (rests_in f.tree name)) (sym state) is.shows.state;
          of_depot = subst (IsStateOf depot) (sym state) is.shows.of_depot;
          holds = held;
        }))

    shows : (q : Path) → (q ≡ name) ⊎ (name ≢ q) → Shows depot q (rests_in f.tree q) (get path_cmp cells q) (subtree q f.tree)
    shows q (inl e) = subst (λ m. Shows depot m (rests_in f.tree m) (get path_cmp cells m) (subtree m f.tree)) (sym e) here_shows
    shows q (inr other) = subst (λ o. Shows depot q (rests_in f.tree q) o (subtree q f.tree)) (sym (others q other)) (is.live.each.cells q)

    due : (q : Path) → is_ready_in (rests_in f.tree) q f.tree ≡ true → (q ≡ name) ⊎ (name ≢ q) → IsDue (get path_cmp cells q) q w.ready
    due q h (inl e) =
        subst (λ m. IsDue (get path_cmp cells m) m w.ready) (sym e)
        (subst (λ o. IsDue o name w.ready) (sym found)
        (subst (λ o. IsDue o name w.ready) is.cell (is.live.each.ready name (ap (λ m. is_ready_in (rests_in f.tree) m f.tree) (sym e) ∙ h))))
    due q h (inr other) = subst (λ o. IsDue o q w.ready) (sym (others q other)) (is.live.each.ready q h)

    turns : (q : Path) → (q ≡ name) ⊎ (name ≢ q) → IfSome (get path_cmp cells q) (λ (cell : Cell). cell.is_listed ≡ true → IsListed q w.ready)
    turns q (inl e) =
        subst (λ m. IfSome (get path_cmp cells m) (λ (cell : Cell). cell.is_listed ≡ true → IsListed m w.ready)) (sym e)
        (subst (λ o. IfSome o (λ (cell : Cell). cell.is_listed ≡ true → IsListed name w.ready)) (sym found)
        (λ yes. subst (λ o. IfSome o (λ (cell : Cell). cell.is_listed ≡ true → IsListed name w.ready)) is.cell (is.live.each.listed name) (sym listed ∙ yes)))
    turns q (inr other) = still-listed (get path_cmp w.cells q) (get path_cmp cells q) q w.ready (inl (others q other)) (is.live.each.listed q)

module _ (depot : Shelves) (w : World) (f : Forest) (lease : Lent) (next : Call) (start : Paged) (inbox : Inbox) (broods : Broods Member) (log : Log Member)
    (c : Cell) (h : StandsHere depot w f lease next start inbox broods log c) where
  -- the world stands for the forest but for that the machine has made its steps
  pub still-between : IsBetween depot w f lease.name (node (lent_out inbox (now_of lease)) broods log)
  still-between =
      let u : Tree Member = node (lent_out inbox (now_of lease)) broods log in
      let before : Tree Member = node (lent_out inbox start) broods log in
      let sound = root-sound forest (lent_out inbox (now_of lease)) broods log h.at.sound in
      let below_is : (x : Branch) (rest : Path) → subtree (lease.name ++ x ∷ rest) f.tree ≡ subtree (x ∷ rest) u =
      λ x rest.
      below-name lease.name f.tree before x rest h.is.there
      ∙ same-below (lent_out inbox start) (lent_out inbox (now_of lease)) broods log log x rest in
      let rests_as : (x : Branch) (rest : Path) → rests_in f.tree (lease.name ++ x ∷ rest) ≡ rests_in u (x ∷ rest) =
      λ x rest.
      rests-below lease.name x rest f.tree before h.is.there
      ∙ node-rests (lent_out inbox start) (lent_out inbox (now_of lease)) broods log log x rest in
      record {
        whole = h.whole;
        halted = h.halted;
        going = h.is.going;
        root = h.is.live.root;
        there = subst (λ o. IsSomeAnd o IsAwake) (sym h.is.there) h.is.shows.awake;
        own = record { good = sound.good; one_each = sound.one_each (lives-out inbox (now_of lease) h.at.lives) };
        heard = subst (λ o. IsSomeAnd o (IsHeardAs u)) (sym h.is.there) (inl (ap is_some (lives-out inbox (now_of lease) h.at.lives), refl));
        cell = subst (λ o. IsSomeAnd o (λ cell. HoldsAfter depot lease.name cell u)) (sym h.is.cell) (h.holds.tallies, λ lives. h.holds);
        below = λ x rest.
            let q : Path = lease.name ++ x ∷ rest in
            subst (λ resting. Shows depot q resting (get path_cmp w.cells q) (subtree (x ∷ rest) u)) (rests_as x rest)
            (subst (Shows depot q (rests_in f.tree q) (get path_cmp w.cells q)) (below_is x rest) (h.is.live.each.cells q));
        ready_below = λ x rest yes.
            h.is.live.each.ready (lease.name ++ x ∷ rest)
            (ap₂ (λ resting v. holds (lives_ready paged_machines paged_talks resting) v) (rests_as x rest) (below_is x rest) ∙ yes);
        elsewhere = λ q none. h.is.live.each.cells q;
        ready = λ q none yes. h.is.live.each.ready q yes;
        listed = h.is.live.each.listed;
      }

  -- the lease is kept for want of memory
  pub kept-goes : may_spend paged_machines paged_talks forked (now_of lease) (waits forest (node (lent_out inbox (now_of lease)) broods log))
      || (may_spend paged_machines paged_talks joined (now_of lease) (waits forest (node (lent_out inbox (now_of lease)) broods log))
      || may_spend paged_machines paged_talks sent (now_of lease) (waits forest (node (lent_out inbox (now_of lease)) broods log))) ≡ true
      → (new : World) → StandsFor depot new f → Goes depot f (kept lease.name lease.ran) new
  kept-goes may new stands =
      row-keeps f lease.name start (now_of lease) lease.ran inbox broods log h.whole h.is.there h.has h.alive
      (ap (λ resting. may_spend paged_machines paged_talks forked (now_of lease) resting
      || (may_spend paged_machines paged_talks joined (now_of lease) resting || may_spend paged_machines paged_talks sent (now_of lease) resting))
      (resting-then depot w f lease next start inbox broods log c h) ∙ may) depot new stands

-- ---- what a call of a world takes from its lease

pub record Found (depot : Shelves) (w : World) (f : Forest) (lease : Lent) (next : Call) (c : Cell) : Type 0 where
  pub start : Paged
  pub inbox : Inbox
  pub broods : Broods Member
  pub log : Log Member
  pub stands : StandsHere depot w f lease next start inbox broods log c

pub found-here : (depot : Shelves) (w : World) (f : Forest) (lease : Lent) (call : port.Call) (c : Cell) → StandsFor depot w f → IsHandedOut f lease
    → IsLent lease.start lease.ran lease.now → Some call ≡ standing_call (vm_of lease) → Some c ≡ get path_cmp w.cells lease.name
    → Found depot w f lease (tree_call call) c
found-here depot w f lease call c h out_as lent at found = by (handed depot w f lease h out_as)
  where
    by : Handed depot w f lease → Found depot w f lease (tree_call call) c
    by (gone none cell) = let no : Some c ≡ None = found ∙ cell in absurd (cc)
    by (there start inbox broods log cell is_as is) =
        let same : c ≡ cell = some-same c cell (found ∙ is.cell) in
        record {
          start = start;
          inbox = inbox;
          broods = broods;
          log = log;
          stands = stood depot w f lease call start inbox broods log c h (has-run lease (node (lent_out inbox start) broods log) lent is_as) (sym at)
              (subst (IsOutHere depot w f lease.name (node (lent_out inbox start) broods log)) (sym same) is);
        }

pub gone-here : (depot : Shelves) (w v : World) (f : Forest) (lease : Lent) → StandsFor depot w f → IsHandedOut f lease → None ≡ get path_cmp w.cells lease.name
    → v ≡ w → Goes depot f (dropped lease.name) v
gone-here depot w v f lease h out_as found same = by (handed depot w f lease h out_as)
  where
    by : Handed depot w f lease → Goes depot f (dropped lease.name) v
    by (gone none cell) = subst (Goes depot f (dropped lease.name)) (sym same) (dropped-goes depot w f lease.name h none)
    by (there start inbox broods log cell is_as is) = let no : None ≡ Some cell = found ∙ is.cell in absurd (cc)

-- a call was made, and the machine is to be put home or to be ended
pub record Called (depot : Shelves) (v : World) (f : Forest) (lease : Lent) (how : How) (name : Path) (vm : Paged) : Type 0 where
  pub tree : Tree Member
  pub between : IsBetween depot v f name tree
  pub is : (paged_of (machine tree)) ≡ vm
  pub whole : IsForest (with_tree name (placed home (settled_tree tree)) f).tree
  pub goes : (new : World) → StandsFor depot new (with_tree name (placed home (settled_tree tree)) f) → Goes depot f (spent how lease.name lease.ran) new

-- ---- home, or ended

pub settled-ended : (a : Tree Member) (vm : Paged) (ending : Ending) → (paged_of (machine a)) ≡ vm → Some ending ≡ vm.machine.ending → ended_tree a ≡ settled_tree a
unfolding boxed spots paged_machines machines
settled-ended (node s broods log) vm ending is e =
    ap (λ o. settled_by forest o s broods log) (e ∙ sym (ap (λ (p : Paged). p.machine.ending) is))

pub settled-lives : (a : Tree Member) (vm : Paged) → (paged_of (machine a)) ≡ vm → None ≡ vm.machine.ending → a ≡ settled_tree a
unfolding boxed spots paged_machines machines
settled-lives (node s broods log) vm is e =
    ap (λ o. settled_by forest o s broods log) (e ∙ sym (ap (λ (p : Paged). p.machine.ending) is))

pub lives-by : (a : Tree Member) (vm : Paged) → (paged_of (machine a)) ≡ vm → None ≡ vm.machine.ending → has_ended forest a ≡ false
unfolding boxed spots paged_machines machines
lives-by (node s broods log) vm is e = ap is_some (ap (λ (p : Paged). p.machine.ending) is ∙ sym e)

-- ---- a machine whose absent pages are where they were

pub same-image : (depot : Shelves) (v : KeyedMachine) (lease : Lent) → v.key ≡ lease.key → IsLentOf depot lease → IsOfDepot depot v.key
same-image depot v lease same of_depot = subst (IsOfDepot depot) (sym same) of_depot

-- ---- a result that is an error, or is not

pub at-ok : {T E : Type 0} (P : Type 0) (r : Result T E) → is_err r ≡ false → OnOk r P → P
at-ok P (Ok t) none h = h
at-ok P (Err e) none h = absurd (cc)

pub at-err : {T E : Type 0} (P : Type 0) (r : Result T E) → is_err r ≡ true → OnErr r P → P
at-err P (Ok t) some h = absurd (cc)
at-err P (Err e) some h = h
