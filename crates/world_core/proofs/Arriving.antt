-- What a world stands for where a page comes to a machine on lease, and while the machine makes steps.
use Rattle.sibling_forest.specs.Talk.{Box, Inbox, boxed}
use Rattle.sibling_forest.specs.Laws.{box_of}
use Rattle.sibling_forest.specs.Members.{HaveMembers}
use Rattle.sibling_forest.specs.Settle.{rests_at}
use Rattle.sibling_forest.proofs.Projected.{rests-map}
use Rattle.std.proofs.Common.{◌≡◌, ℕ, ◌+◌, Bool, true, false, Result, Ok, Err, IfOk, OnErr, refl, sym, ap, ap₂, ◌∙◌, subst, inl, inr, ◌⊎◌, [], ◌∷◌, ◌++◌, Option, Some, None, option_map}
use Rattle.std.specs.Option.{IfSome}
use Rattle.std.specs.BTreeMap.{get}
use Rattle.std.specs.declared.alloc.AllocError.{AllocError}
use Rattle.image_depot.specs.Key.{Shelves, Key}
use Rattle.image_depot.specs.Reply.{Reply}
use Rattle.cow_disk.specs.declared.arrived.Arrived.{Arrived}
use Rattle.cow_disk.specs.declared.arrived.Arrived.TheVariants.{Got, Had}
use Rattle.forest_tree.specs.Tree.{Tree, node, Broods, Log, machine, Branch, Path, subtree, at_path}
use Rattle.forest_tree.specs.Sound.{IsSound}
use Rattle.forest_tree.specs.Projection.{map_tree}
use Rattle.forest_tree.proofs.Sound.{KeepsTo, root-sound, at_path-keeps}
use Rattle.forest_tree.proofs.Places.{subtree-sound}
use Rattle.forest_tree.proofs.Projected.{subtree-map, at_path-map}
use Rattle.talking_history.specs.Places.{home, out, parked, Spot, spots, bare, placed, spot_talks}
use Rattle.talking_history.proofs.Ends.{rests-bare}
use Rattle.talking_history.specs.World.{is_out_at, IsWhole, holds, is_out, lives_ready}
use Rattle.talking_history.specs.Rows.{took, does}
use Rattle.forest_tree.proofs.Changes.{at_path-agree, at_path-here, at_path-leaves, at_path-twice}
use Rattle.forest_model.specs.Machine.{Machine, after_steps}
use Rattle.forest_model.specs.Forest.{machines, talks}
use Rattle.forest_model.specs.Paged.{Paged, Pages, advanced_by, paged_machines, paged_talks, pages_arrived}
use Rattle.forest_model.proofs.Absent.{arrived-advanced_by}
use Rattle.forest_model.proofs.Paged.{advanced_by-add, machine-advanced_by, paged-alike, paged-projects}
use Rattle.machine_names.specs.NameOrder.{path_cmp}
use Rattle.vm_cell.specs.Keyed.{Arrives, KeyedMachine}
use Rattle.vm_cell.specs.Steps.{moved_by}
use Rattle.world_core.specs.declared.cell.Cell.{Cell}
use Rattle.world_core.specs.declared.cell.State.{State}
use Rattle.world_core.specs.declared.cell.State.TheVariants.{Home, Parked, Out}
use Rattle.world_core.specs.declared.world.World.{World}
use Rattle.world_core.specs.Lent.{Lent, HasLed, IsLent, IsSameLease, lent_as, now_of, vm_of}
use Rattle.world_core.specs.Shows.{Member, paged_of, siblings_of, forest, CellShows, IsAwake, Shows, StateShows}
use Rattle.world_core.specs.World.{Forest, IsDue, IsForest, ShowsTree, StandsFor, is_ready_in, rests_in}
use Rattle.world_core.specs.Answers.{IsHandedOut, IsOutAs, IsOutFrom, IsOutSince, Starts}
use Rattle.world_core.specs.Arrived.{StillHandedOut, after_arrival, flagged, with_arrived, with_flags}
use Rattle.world_core.proofs.Calling.{below-name}
use Rattle.world_core.proofs.MembersKept.{MemberStays, path-members}
use Rattle.world_core.proofs.Spending.{at_path-gone}
use Rattle.world_core.proofs.Changes.{parent-awake, shows-changed}
use Rattle.world_core.proofs.Ready.{ready-changed}
use Rattle.world_core.proofs.Returns.{IsOutHere, away-noted, out-here}
use Rattle.world_core.proofs.Steps.{Holds-same, Paged-same, SameTickets, forest-rules, lent_out}

not-home : (waiting : Bool) → (out ≡ home) ⊎ ((out ≡ parked) × (waiting ≡ false)) → ⊥
not-home waiting (inl at) = cc
not-home waiting (inr at) = let no : out ≡ parked = at.0 in cc

-- ---- other flags of one machine

-- the machines alone, each with the words to it, whatever is known of their pages
abbrev family : Tree (Box Paged) → Tree (Box Machine)
family t = map_tree (box_of (λ (p : Paged). p.machine)) t

rests-family : (name : Path) (t : Tree Member) → rests_at machines talks name (family (bare t)) ≡ rests_in t name
rests-family name t =
    rests-map paged_machines machines paged_talks talks (λ (p : Paged). p.machine) paged-projects paged-alike name (bare t)
    ∙ rests-bare paged_machines paged_talks name t

module _ (flags : Pages → Pages) where
  flagged-keeps : (t : Tree Member) → IsSound forest t → KeepsTo forest t (flagged flags t)
  unfolding IsSound boxed spots paged_machines
  flagged-keeps (node s broods log) h =
      record { sound = (record { good = h.0.good; ended = h.0.ended; one_each = h.0.one_each }, h.1); holding = refl }

  flagged-member : MemberStays (spots paged_machines) (spot_talks paged_talks) (flagged flags)
  unfolding spots spot_talks paged_machines paged_talks
  flagged-member count i (node b broods log) h =
      record { number = h.number; siblings = h.siblings; one_each = h.one_each; within = h.within; own = h.own; ended = h.ended }

  flagged-have : (t : Tree Member) → HaveMembers (spots paged_machines) (spot_talks paged_talks) t
      → HaveMembers (spots paged_machines) (spot_talks paged_talks) (flagged flags t)
  unfolding HaveMembers
  flagged-have (node b broods log) h = h

  flagged-siblings : (name : Path) (t : Tree Member) → siblings_of (machine (at_path (flagged flags) name t)) ≡ siblings_of (machine t)
  unfolding spot_talks paged_talks at_path
  flagged-siblings [] (node b broods log) = refl
  flagged-siblings (x ∷ name) (node b broods log) = refl

  flagged-whole : (name : Path) (t : Tree Member) → IsForest t → IsForest (at_path (flagged flags) name t)
  flagged-whole name t h = record {
    sound = (at_path-keeps forest forest-rules (flagged flags) (λ u sound. flagged-keeps u sound) name t h.sound).sound;
    members = path-members (spots paged_machines) (spot_talks paged_talks) (flagged flags) flagged-member flagged-have name t h.members;
    root = flagged-siblings name t ∙ h.root;
  }

  -- who rests is told of the machines
  abbrev bare_flagged : Tree (Box Paged) → Tree (Box Paged)
  bare_flagged (node b broods log) = node (record b { machine = record b.machine { pages = flags b.machine.pages } }) broods log

  flagged-bare : (t : Tree Member) → bare (flagged flags t) ≡ bare_flagged (bare t)
  unfolding map_tree
  flagged-bare (node b broods log) = refl

  flagged-family : (t : Tree (Box Paged)) → family (bare_flagged t) ≡ family t
  unfolding map_tree
  flagged-family (node b broods log) = refl

  flagged-rests : (name n : Path) (t : Tree Member) → rests_in (at_path (flagged flags) name t) n ≡ rests_in t n
  flagged-rests name n t =
      sym (rests-family n (at_path (flagged flags) name t))
      ∙ ap (rests_at machines talks n)
      (ap family (at_path-map (box_of (λ (s : Spot Paged). s.machine)) (flagged flags) bare_flagged flagged-bare name t)
      ∙ at_path-map (box_of (λ (p : Paged). p.machine)) bare_flagged (λ u. u) flagged-family name (bare t)
      ∙ at_path-leaves (λ (u : Tree (Box Machine)). u) (λ u. refl) name (family (bare t)))
      ∙ rests-family n t

  flagged-awake : (a : Tree Member) → IsAwake a → IsAwake (flagged flags a)
  unfolding boxed spots paged_machines
  flagged-awake (node s broods log) h = record { lives = h.lives; awake = h.awake }

  flagged-root : (name : Path) (t : Tree Member) → IsAwake t → IsAwake (at_path (flagged flags) name t)
  unfolding at_path
  flagged-root [] t h = flagged-awake t h
  flagged-root (x ∷ rest) (node s broods log) h = record { lives = h.lives; awake = h.awake }

  flagged-below : (a : Tree Member) (x : Branch) (rest : Path) → subtree (x ∷ rest) (flagged flags a) ≡ subtree (x ∷ rest) a
  unfolding subtree
  flagged-below (node s broods log) x rest = refl

  flagged-ready : (resting : Bool) (a : Tree Member)
      → lives_ready paged_machines paged_talks resting (flagged flags a) ≡ lives_ready paged_machines paged_talks resting a
  unfolding boxed spots paged_machines
  flagged-ready resting (node s broods log) = refl

  -- nothing is told of the flags of a machine that is out
  out-state : (path : Path) (state : State) (inbox : Inbox) (p : Paged) (before after : Bool) → StateShows path state (lent_out inbox p) before
      → StateShows path state (lent_out inbox (record p { pages = flags p.pages })) after
  out-state path (Home vm) inbox p before after h = absurd (not-home before h.1)
  out-state path (Parked awaited vm turn) inbox p before after h = let no : out ≡ parked = h.1 in absurd (cc)
  out-state path Out inbox p before after h = h

  same-tickets : (inbox : Inbox) (p : Paged) → forest.is_good (lent_out inbox p) ≡ true
      → SameTickets (lent_out inbox p) (lent_out inbox (record p { pages = flags p.pages }))
  unfolding boxed spots paged_machines
  same-tickets inbox p good = record { good = good; cloned = λ t. refl; grants = λ t is. refl }

  module _ (depot : Shelves) (w : World) (f : Forest) (name : Path) (h : StandsFor depot w f) where
    abbrev then : Tree Member
    then = at_path (flagged flags) name f.tree

    module _ (start : Paged) (inbox : Inbox) (broods : Broods Member) (log : Log Member) (c : Cell)
        (is : IsOutHere depot w f name (node (lent_out inbox start) broods log) c) where
      abbrev a : Tree Member
      a = node (lent_out inbox start) broods log

      flagged-cell : CellShows depot name (rests_in then name) c (flagged flags a)
      flagged-cell =
          let sound = subtree-sound forest name f.tree a h.whole.sound is.there in
          let n : Paged = record start { pages = flags start.pages } in
          record {
            awake = flagged-awake a is.shows.awake;
            kin = is.shows.kin;
            state = out-state name c.state inbox start (rests_in f.tree name) (rests_in then name) is.shows.state;
            of_depot = is.shows.of_depot;
            holds = Holds-same depot name c (lent_out inbox start) (lent_out inbox n) broods log
                (same-tickets inbox start (root-sound forest (lent_out inbox start) broods log sound).good) is.shows.holds;
          }

      each-shows : (n : Path) → Shows depot n (rests_in then n) (get path_cmp w.cells n) (subtree n f.tree)
      each-shows n =
          subst (λ resting. Shows depot n resting (get path_cmp w.cells n) (subtree n f.tree)) (sym (flagged-rests name n f.tree)) (is.live.each.cells n)

      flagged-shows : (n : Path) → Shows depot n (rests_in then n) (get path_cmp w.cells n) (subtree n then)
      flagged-shows =
          shows-changed (flagged flags) depot (rests_in then) name f.tree a (get path_cmp w.cells) is.there
          (subst (λ o. Shows depot name (rests_in then name) o (Some (flagged flags a))) (sym is.cell) flagged-cell)
          (λ x rest.
          subst (Shows depot (name ++ (x ∷ rest)) (rests_in then (name ++ (x ∷ rest))) (get path_cmp w.cells (name ++ (x ∷ rest))))
          (below-name name f.tree a x rest is.there ∙ sym (flagged-below a x rest)) (each-shows (name ++ (x ∷ rest))))
          (λ n none one. each-shows n)
          (λ n x none e.
          parent-awake (flagged flags) depot name n (rests_in then n) f.tree a x (get path_cmp w.cells n) none e is.there is.shows.awake
          (flagged-awake a is.shows.awake) refl
          (away-noted (get path_cmp w.cells n) x a (flagged flags a) (λ is_parked. let no : out ≡ parked = is_parked in absurd (cc)))
          (each-shows n))

      was-ready : (n : Path) → is_ready_in (rests_in then) n f.tree ≡ true → is_ready_in (rests_in f.tree) n f.tree ≡ true
      was-ready n ready =
          ap (λ resting. holds (lives_ready paged_machines paged_talks resting) (subtree n f.tree)) (sym (flagged-rests name n f.tree)) ∙ ready

      flagged-due : (n : Path) → is_ready_in (rests_in then) n then ≡ true → IsDue (get path_cmp w.cells n) n w.ready
      flagged-due =
          ready-changed (flagged flags) (λ n. IsDue (get path_cmp w.cells n) n w.ready) (rests_in then) name f.tree a is.there
          (λ ready.
          is.live.each.ready name
          (was-ready name
          (ap (holds (lives_ready paged_machines paged_talks (rests_in then name))) is.there ∙ sym (flagged-ready (rests_in then name) a) ∙ ready)))
          (λ x rest ready.
          is.live.each.ready (name ++ (x ∷ rest))
          (was-ready (name ++ (x ∷ rest))
          (ap (holds (lives_ready paged_machines paged_talks (rests_in then (name ++ (x ∷ rest)))))
          (below-name name f.tree a x rest is.there ∙ sym (flagged-below a x rest)) ∙ ready)))
          (λ n none ready. is.live.each.ready n (was-ready n ready))

      flagged-there : StandsFor depot w (with_flags name flags f)
      flagged-there = record {
        whole = flagged-whole name f.tree h.whole;
        halted = h.halted;
        tree = subst (λ o. ShowsTree o depot w then) (sym is.going) (record {
          root = flagged-root name f.tree is.live.root;
          each = record { cells = flagged-shows; ready = flagged-due; listed = is.live.each.listed };
        });
      }

    flagged-gone : subtree name f.tree ≡ None → StandsFor depot w (with_flags name flags f)
    flagged-gone none =
        subst (λ t. StandsFor depot w (record f { tree = t })) (sym (at_path-gone forest (flagged flags) name f.tree h.whole.sound none)) h

-- a world tells no flags of a machine that is out
pub flags-free : (flags : Pages → Pages) (depot : Shelves) (w : World) (f : Forest) (name : Path) → StandsFor depot w f
    → IfSome (subtree name f.tree) (λ t. (machine t).machine.place ≡ out) → StandsFor depot w (with_flags name flags f)
flags-free flags depot w f name h away = by (subtree name f.tree) refl away
  where
    by : (u : Option (Tree Member)) → subtree name f.tree ≡ u → IfSome u (λ t. (machine t).machine.place ≡ out) → StandsFor depot w (with_flags name flags f)
    by None none is = flagged-gone flags depot w f name h none
    by (Some (node s broods log)) e is =
        let at : subtree name f.tree ≡ Some (node (lent_out s.inbox (paged_of s)) broods log) =
        e ∙ ap (λ place. Some (node (record { machine = record { machine = paged_of s; place = place }; inbox = s.inbox }) broods log)) is in
        let found = out-here depot w f name (node (lent_out s.inbox (paged_of s)) broods log) h at refl in
        flagged-there flags depot w f name h (paged_of s) s.inbox broods log found.0 found.1

-- nor of one on lease
pub flags-stand : (flags : Pages → Pages) (depot : Shelves) (w : World) (f : Forest) (lease : Lent) → StandsFor depot w f → IsHandedOut f lease
    → StandsFor depot w (with_flags lease.name flags f)
flags-stand flags depot w f lease h out_as = flags-free flags depot w f lease.name h (away (subtree lease.name f.tree) out_as)
  where
    away : (u : Option (Tree Member)) → IfSome u (IsOutAs lease) → IfSome u (λ t. (machine t).machine.place ≡ out)
    away None is = tt
    away (Some t) is = is.is_out

-- ---- the machine that is out, with other flags

out-flagged : (flags : Pages → Pages) (old new : Lent) → new.start ≡ old.start
    → ((p : Paged) → (advanced_by old.ran p).pages ≡ old.pages → (advanced_by new.ran (record p { pages = flags p.pages })).pages ≡ new.pages)
    → (t : Option (Tree Member)) → IfSome t (IsOutAs old) → IfSome (option_map (flagged flags) t) (IsOutAs new)
out-flagged flags old new start pages None h = tt
out-flagged flags old new start pages (Some (node s broods log)) h =
    record { is_out = h.is_out; start = h.start ∙ sym start; pages = pages (paged_of s) h.pages }

handed-flagged : (flags : Pages → Pages) (f : Forest) (old new : Lent) → new.name ≡ old.name → new.start ≡ old.start
    → ((p : Paged) → (advanced_by old.ran p).pages ≡ old.pages → (advanced_by new.ran (record p { pages = flags p.pages })).pages ≡ new.pages)
    → IsHandedOut f old → IsHandedOut (with_flags old.name flags f) new
handed-flagged flags f old new name start pages h =
    subst (λ n. IfSome (subtree n (at_path (flagged flags) old.name f.tree)) (IsOutAs new)) (sym name)
    (subst (λ o. IfSome o (IsOutAs new)) (sym (at_path-here (flagged flags) old.name f.tree))
    (out-flagged flags old new start pages (subtree old.name f.tree) h))

pages-arrived : (page : ℕ) (old new : Lent) (p : Paged) → new.ran ≡ old.ran → new.pages ≡ pages_arrived page old.pages
    → (advanced_by old.ran p).pages ≡ old.pages → (advanced_by new.ran (record p { pages = pages_arrived page p.pages })).pages ≡ new.pages
pages-arrived page old new p ran pages same =
    ap (λ n. (advanced_by n (record p { pages = pages_arrived page p.pages })).pages) ran
    ∙ ap (λ (q : Paged). q.pages) (arrived-advanced_by old.ran page p)
    ∙ ap (pages_arrived page) same ∙ sym pages

-- a page has come
pub handed-arrived : (f : Forest) (page : ℕ) (old new : Lent) → new.name ≡ old.name → new.start ≡ old.start → new.ran ≡ old.ran
    → new.pages ≡ pages_arrived page old.pages → IsHandedOut f old → IsHandedOut (with_arrived old.name page f) new
handed-arrived f page old new name start ran pages h =
    handed-flagged (pages_arrived page) f old new name start (λ p same. pages-arrived page old new p ran pages same) h

-- where it is out so on one lease, it is on the other
some-out : (old new : Lent) → ((t : Tree Member) → IsOutAs old t → IsOutAs new t) → (t : Option (Tree Member)) → IfSome t (IsOutAs old)
    → IfSome t (IsOutAs new)
some-out old new each None h = tt
some-out old new each (Some t) h = each t h

handed-as : (f : Forest) (old new : Lent) → new.name ≡ old.name → ((t : Tree Member) → IsOutAs old t → IsOutAs new t) → IsHandedOut f old
    → IsHandedOut f new
handed-as f old new name each h =
    subst (λ n. IfSome (subtree n f.tree) (IsOutAs new)) (sym name) (some-out old new each (subtree old.name f.tree) h)

-- nothing has changed
pub handed-same : (f : Forest) (old new : Lent) → new.name ≡ old.name → new.start ≡ old.start → new.ran ≡ old.ran → new.pages ≡ old.pages
    → IsHandedOut f old → IsHandedOut f new
handed-same f old new name start ran pages h =
    handed-as f old new name
    (λ t is. record {
      is_out = is.is_out;
      start = is.start ∙ sym start;
      pages = ap (λ n. (advanced_by n (paged_of (machine t))).pages) ran ∙ is.pages ∙ sym pages;
    })
    h

pages-run : (old new : Lent) (more : ℕ) (p : Paged) → p.machine ≡ old.start → IsLent old.start old.ran old.now → new.ran ≡ old.ran + more
    → vm_of new ≡ moved_by more (vm_of old) → (advanced_by old.ran p).pages ≡ old.pages → (advanced_by new.ran p).pages ≡ new.pages
pages-run old new more p start lent ran now same =
    let after : advanced_by old.ran p ≡ now_of old =
    Paged-same (advanced_by old.ran p) (now_of old) (machine-advanced_by old.ran p ∙ ap (after_steps old.ran) start ∙ sym lent.after) same in
    ap (λ n. (advanced_by n p).pages) ran
    ∙ ap (λ (q : Paged). q.pages) (advanced_by-add old.ran more p ∙ ap (advanced_by more) after)
    ∙ ap (λ (v : KeyedMachine). v.pages) (sym now)

-- it has made more steps
pub handed-run : (f : Forest) (old new : Lent) (more : ℕ) → IsSameLease old new → IsLent old.start old.ran old.now → new.ran ≡ old.ran + more
    → vm_of new ≡ moved_by more (vm_of old) → IsHandedOut f old → IsHandedOut f new
handed-run f old new more same lent ran now h =
    handed-as f old new same.name
    (λ t is. record {
      is_out = is.is_out;
      start = is.start ∙ sym same.start;
      pages = pages-run old new more (paged_of (machine t)) is.start lent ran now is.pages;
    })
    h

-- the answer of an arrival
pub arrives : (depot : Shelves) (w : World) (f : Forest) (old new : Lent) (key : Option Key) (reply : Reply) (answer : Arrived) → new.name ≡ old.name
    → new.start ≡ old.start → new.ran ≡ old.ran → Arrives key old.pages reply new.pages answer → StandsFor depot w f → IsHandedOut f old
    → StandsFor depot w (after_arrival old.name answer f) × IsHandedOut (after_arrival old.name answer f) new
arrives depot w f old new key reply (Got page) name start ran h stands out_as =
    (flags-stand (pages_arrived page) depot w f old stands out_as, handed-arrived f page old new name start ran h.3 out_as)
arrives depot w f old new key reply (Had page) name start ran h stands out_as =
    (stands, handed-same f old new name start ran h.1 out_as)

pub arrives-ok : (depot : Shelves) (w : World) (f : Forest) (old new : Lent) (key : Option Key) (reply : Reply) (r : Result Arrived AllocError)
    → new.name ≡ old.name → new.start ≡ old.start → new.ran ≡ old.ran → IfOk r (Arrives key old.pages reply new.pages) → StandsFor depot w f
    → IsHandedOut f old
    → IfOk r (λ answer. StandsFor depot w (after_arrival old.name answer f) × IsHandedOut (after_arrival old.name answer f) new)
arrives-ok depot w f old new key reply (Ok answer) name start ran h stands out_as =
    arrives depot w f old new key reply answer name start ran h stands out_as
arrives-ok depot w f old new key reply (Err e) name start ran h stands out_as = tt

-- ---- what the steps on a lease have led to

-- none was made yet
pub led-none : (name : Path) (v : KeyedMachine) → HasLed (lent_as name v.machine 0 v)
unfolding advanced_by
led-none name v = (v.pages, refl)

pub led-run : (old new : Lent) (more : ℕ) → new.start ≡ old.start → IsLent old.start old.ran old.now → new.ran ≡ old.ran + more
    → vm_of new ≡ moved_by more (vm_of old) → HasLed old → HasLed new
led-run old new more start lent ran now led = (
  led.0,
  ap (λ (m : Machine). (advanced_by new.ran (record { machine = m; pages = led.0 })).pages) start
      ∙ pages-run old new more (record { machine = old.start; pages = led.0 }) refl lent ran now led.1,
)

led-same : (old new : Lent) → new.start ≡ old.start → new.ran ≡ old.ran → new.pages ≡ old.pages → HasLed old → HasLed new
led-same old new start ran pages led =
    (led.0, ap₂ (λ (n : ℕ) (m : Machine). (advanced_by n (record { machine = m; pages = led.0 })).pages) ran start ∙ led.1 ∙ sym pages)

led-arrived : (page : ℕ) (old new : Lent) → new.start ≡ old.start → new.ran ≡ old.ran → new.pages ≡ pages_arrived page old.pages → HasLed old → HasLed new
led-arrived page old new start ran pages led = (
  pages_arrived page led.0,
  ap (λ (m : Machine). (advanced_by new.ran (record { machine = m; pages = pages_arrived page led.0 })).pages) start
      ∙ pages-arrived page old new (record { machine = old.start; pages = led.0 }) ran pages led.1,
)

-- a page came, or memory was wanting
pub led-arrives : (old new : Lent) (key : Option Key) (reply : Reply) (r : Result Arrived AllocError) → new.start ≡ old.start → new.ran ≡ old.ran
    → IfOk r (Arrives key old.pages reply new.pages) → OnErr r (vm_of new ≡ vm_of old) → HasLed old → HasLed new
led-arrives old new key reply (Ok (Got page)) start ran come failed led = led-arrived page old new start ran come.3 led
led-arrives old new key reply (Ok (Had page)) start ran come failed led = led-same old new start ran come.1 led
led-arrives old new key reply (Err e) start ran come failed led = led-same old new start ran (ap (λ (v : KeyedMachine). v.pages) failed) led

-- a machine that is out so, is out
since-out : (lease : Lent) (u : Option (Tree Member)) → IfSome u (IsOutFrom lease) → IfSome u (λ t. (machine t).machine.place ≡ out)
since-out lease None is = tt
since-out lease (Some t) is = is.0

-- with the flags from which its steps led there, it is handed out
out-led : (lease : Lent) (led : HasLed lease) (u : Option (Tree Member)) → IfSome u (IsOutFrom lease)
    → IfSome (option_map (flagged (λ _. led.0)) u) (IsOutAs lease)
out-led lease led None is = tt
out-led lease led (Some (node s broods log)) is = record {
  is_out = is.0;
  start = is.1;
  pages = ap (λ (m : Machine). (advanced_by lease.ran (record { machine = m; pages = led.0 })).pages) is.1 ∙ led.1;
}

pub handed-as-led : (f : Forest) (lease : Lent) (led : HasLed lease) → IsOutSince f lease → IsHandedOut (with_flags lease.name (λ _. led.0) f) lease
handed-as-led f lease led h =
    subst (λ o. IfSome o (IsOutAs lease)) (sym (at_path-here (flagged (λ _. led.0)) lease.name f.tree)) (out-led lease led (subtree lease.name f.tree) h)

pub still-led : (depot : Shelves) (w : World) (f : Forest) (lease : Lent) → HasLed lease → StandsFor depot w f → IsOutSince f lease
    → StillHandedOut depot w f lease
still-led depot w f lease led stands h = record {
  flags = λ _. led.0;
  stands = flags-free (λ _. led.0) depot w f lease.name stands (since-out lease (subtree lease.name f.tree) h);
  handed = handed-as-led f lease led h;
}

-- ---- a machine that was taken

taken-as : (lease : Lent) → lease.ran ≡ 0 → lease.now ≡ lease.start → (t : Option (Tree Member)) → IfSome t (λ a. paged_of (machine a) ≡ now_of lease)
    → IfSome (option_map (placed out) t) (IsOutAs lease)
unfolding advanced_by
taken-as lease ran now None h = tt
taken-as lease ran now (Some (node s broods log)) h = record {
  is_out = refl;
  start = ap (λ (p : Paged). p.machine) h ∙ now;
  pages = ap (λ n. (advanced_by n (paged_of s)).pages) ran ∙ ap (λ (p : Paged). p.pages) h;
}

pub taken-handed : (f : Forest) (lease : Lent) → Starts f lease → IsHandedOut (does paged_machines paged_talks (took lease.name) f) lease
unfolding does
taken-handed f lease starts =
    subst (λ o. IfSome o (IsOutAs lease)) (sym (at_path-here (placed out) lease.name f.tree))
    (taken-as lease starts.ran starts.now (subtree lease.name f.tree) starts.start)

-- ---- what other flags leave as it was

-- the same machine with the same words, whatever is known of its pages
abbrev pub every_page : Member → Box (Spot Machine)
every_page b = record { machine = record { machine = (paged_of b).machine; place = b.machine.place }; inbox = b.inbox }

module _ (name : Path) (flags : Pages → Pages) (f : Forest) where
  flagged-every : (t : Tree Member) → map_tree every_page (flagged flags t) ≡ map_tree every_page t
  unfolding map_tree
  flagged-every (node s broods log) = refl

  pub flags-family : map_tree every_page (with_flags name flags f).tree ≡ map_tree every_page f.tree
  flags-family =
      at_path-map every_page (flagged flags) (λ u. u) flagged-every name f.tree
      ∙ at_path-leaves (λ (u : Tree (Box (Spot Machine))). u) (λ u. refl) name (map_tree every_page f.tree)

  -- the machine is handed out before or after
  pub flags-taken : with_flags name flags (does paged_machines paged_talks (took name) f) ≡ does paged_machines paged_talks (took name) (with_flags name flags f)
  unfolding does
  flags-taken =
      ap (λ t. record f { tree = t })
      (at_path-twice (placed out) (flagged flags) name f.tree
      ∙ at_path-agree (λ a. flagged flags (placed out a)) (λ a. placed out (flagged flags a)) same name f.tree
      ∙ sym (at_path-twice (flagged flags) (placed out) name f.tree))
    where
      same : (a : Tree Member) → flagged flags (placed out a) ≡ placed out (flagged flags a)
      same (node s broods log) = refl

-- whether a machine is out is told of the family
abbrev out-of : Tree (Box (Spot Machine)) → Bool
out-of a = is_out_at (machine a).machine.place

seen-out : (u : Option (Tree Member)) → holds out-of (option_map (map_tree every_page) u) ≡ holds (λ (a : Tree Member). is_out_at (machine a).machine.place) u
unfolding map_tree
seen-out None = refl
seen-out (Some (node s broods log)) = refl

away-seen : (n : Path) (t : Tree Member) → holds out-of (subtree n (map_tree every_page t)) ≡ is_out n t
away-seen n t = ap (holds out-of) (subtree-map every_page n t) ∙ seen-out (subtree n t)

pub flags-whole : (name : Path) (flags : Pages → Pages) (f : Forest) → IsWhole f.tree → IsWhole (with_flags name flags f).tree
flags-whole name flags f whole n =
    sym (away-seen n (with_flags name flags f).tree)
    ∙ ap (λ t. holds out-of (subtree n t)) (flags-family name flags f)
    ∙ away-seen n f.tree ∙ whole n
