-- The brood of a machine that stands at a talk.
use Rattle.std.proofs.Common.{◌≡◌, ℕ, true, false, refl, sym, ap, ◌∙◌, subst, inl, inr, [], ◌∷◌, ◌++◌, Option, Some, None, IsSome, is_some, option_map, arith}
use Rattle.std.specs.Option.{IfSome}
use Rattle.std.specs.Ordering.{nat_cmp}
use Rattle.std.specs.BTreeMap.{get}
use Rattle.image_depot.specs.Key.{Shelves}
use Rattle.sibling_port.specs.declared.talk.Talk.{Talk}
use Rattle.sibling_port.specs.declared.talk.Talk.TheVariants.{Send, Receive}
use Rattle.forest_tree.specs.Tree.{Tree, node, Trees, Broods, Log, machine, broods_of, brood_of, size, at_brood, at_child, child_at, Branch, Path, subtree}
use Rattle.forest_tree.specs.Step.{has_ended}
use Rattle.forest_tree.proofs.Places.{some-same, at_child-none, child_at-same}
use Rattle.sibling_forest.specs.Talk as siblings
use Rattle.sibling_forest.specs.Talk.{Inbox, boxed}
use Rattle.sibling_forest.proofs.Crossing.{changed-brood}
use Rattle.talking_history.specs.Places.{out, parked, spots, spot_talks}
use Rattle.forest_model.specs.Forest.{machines, tree_talk}
use Rattle.forest_model.specs.Paged.{Paged, paged_machines, paged_talks}
use Rattle.forest_model.proofs.Paged.{paged-talk}
use Rattle.machine_names.specs.NameOrder.{path_cmp}
use Rattle.machine_names.proofs.Below.{beyond-append}
use Rattle.vm_cell.specs.Keyed.{KeyedMachine, paged}
use Rattle.vm_cell.specs.Standing.{standing_talk}
use Rattle.world_core.specs.declared.cell.Brood.{Brood}
use Rattle.world_core.specs.declared.cell.Cell.{Cell}
use Rattle.world_core.specs.declared.world.World.{World}
use Rattle.world_core.specs.Answers.{IsHandedOut, stands_waiting_of, with_machine}
use Rattle.world_core.specs.Lent.{IsLent, Lent, now_of, vm_of}
use Rattle.world_core.specs.Shows.{Member, siblings_of, forest, child_of, BroodShows, CellShows, Holds, IsAwake, IsNoted, Shows}
use Rattle.world_core.specs.Talking.{MaySay, peer_of, waits_in}
use Rattle.world_core.specs.World.{Forest, IsForest, Rests, ShowsEach, StandsFor, rests_in}
use Rattle.world_core.proofs.Awake.{awake-cell, awake-there, child-below}
use Rattle.world_core.proofs.Changes.{KeepsSlot, child-there, holds-kept, keeps-awake, notes-away}
use Rattle.world_core.proofs.Finishing.{barren}
use Rattle.sibling_forest.proofs.MemberAt.{member-of}
use Rattle.world_core.proofs.Returns.{Handed, IsOutHere, gone, handed, there}
use Rattle.world_core.proofs.SlotChanges.{brood-size, child-place, no-brood-no-child}
use Rattle.world_core.proofs.SlotWaits.{one-held}
use Rattle.world_core.proofs.Steps.{HasRun, has-run, lease-numbers, lent_out, talking}
use Rattle.world_core.proofs.Waiting.{rests-among, talk-now, waits-in, waits-talk, with-machine-inbox}

-- a child with the brood in which it is
pub record IsBeside (depot : Shelves) (rests : Rests) (w : World) (t : Tree Member) (parent : Path) (x : Branch) (a : Tree Member) : Type 0 where
  pub above : Tree Member
  pub at : subtree parent t ≡ Some above
  pub is_child : child_of x.ticket x.child above ≡ Some a
  pub cell : Cell
  pub found : get path_cmp w.cells parent ≡ Some cell
  pub shows : CellShows depot parent (rests parent) cell above
  pub brood : Brood
  pub has : get nat_cmp cell.broods x.ticket ≡ Some brood
  pub held : BroodShows depot parent x.ticket brood (brood_of x.ticket (broods_of above))

pub beside : (depot : Shelves) (rests : Rests) (w : World) (t : Tree Member) (parent : Path) (x : Branch) (a : Tree Member) → IsForest t → IsAwake t
    → ShowsEach depot rests w t → subtree (parent ++ (x ∷ [])) t ≡ Some a → IsBeside depot rests w t parent x a
beside depot rests w t parent x a whole root each is_there = by (subtree parent t) refl
  where
    with-brood : (p : Tree Member) → subtree parent t ≡ Some p → child_of x.ticket x.child p ≡ Some a → (c : Cell) → get path_cmp w.cells parent ≡ Some c
        → CellShows depot parent (rests parent) c p → (b : Option Brood) → get nat_cmp c.broods x.ticket ≡ b → IsBeside depot rests w t parent x a
    with-brood p at child c found shows None e = absurd (no-brood-no-child depot parent c p a x.ticket x.child shows.holds child e)
    with-brood p at child c found shows (Some b) e = record {
      above = p;
      at = at;
      is_child = child;
      cell = c;
      found = found;
      shows = shows;
      brood = b;
      has = e;
      held = one-held depot parent c p shows.holds x.ticket b e;
    }

    by : (o : Option (Tree Member)) → subtree parent t ≡ o → IsBeside depot rests w t parent x a
    by None e = let no : None ≡ Some a = sym (child-below parent x.ticket x.child t None e) ∙ is_there in absurd (cc)
    by (Some p) e =
        let child = child-there (parent ++ (x ∷ [])) parent t a p x (beyond-append parent (x ∷ [])) is_there e in
        elim (awake-there depot w.cells t whole.sound parent rests (λ way b rest is. each.cells way) p root e) [
          | inl awake ↦
              let cell = awake-cell depot parent (rests parent) (get path_cmp w.cells parent) p awake
              (subst (Shows depot parent (rests parent) (get path_cmp w.cells parent)) e (each.cells parent)) in
              with-brood p e child cell.0 cell.1 cell.2 (get nat_cmp cell.0.broods x.ticket) refl
          | inr none ↦ let no : None ≡ Some a = sym (barren x p none) ∙ child in absurd (cc)
        ]

pub peer-is : (what : Talk) → siblings.peer (tree_talk what) ≡ peer_of what
peer-is (Send j) = refl
peer-is (Receive j) = refl

-- a machine on lease that stands at a talk
module _ (depot : Shelves) (w : World) (f : Forest) (parent : Path) (x : Branch) (v : KeyedMachine) (start : Paged) (ran : ℕ) (inbox : Inbox) (broods : Broods Member)
    (log : Log Member) (what : Talk) (whole : IsForest f.tree) (has : HasRun start ran (paged v)) (stands : standing_talk v ≡ Some what)
    (there : subtree (parent ++ (x ∷ [])) f.tree ≡ Some (node (lent_out inbox start) broods log))
    (b : IsBeside depot (rests_in f.tree) w f.tree parent x (node (lent_out inbox start) broods log)) where
  abbrev before : Tree Member
  before = node (lent_out inbox start) broods log

  abbrev trees : Trees Member
  trees = brood_of x.ticket (broods_of b.above)

  abbrev now : Tree Member → Tree Member
  now = with_machine (paged v)

  as-many : (spot_talks paged_talks).siblings (lent_out inbox start).machine ≡ size trees
  as-many = (member-of (spots paged_machines) (spot_talks paged_talks) parent x f.tree b.above before whole.members b.at b.is_child).siblings

  siblings-now : paged_talks.siblings (paged v) ≡ size trees
  unfolding spot_talks
  siblings-now = (lease-numbers start (paged v) ran has).siblings ∙ as-many

  -- it names a child of its ticket, and has room for a note
  pub may-say : MaySay x.child what b.brood
  may-say =
      let talks = (talking v what stands).1 in
      let many = brood-size depot parent b.cell b.above x.ticket b.brood b.shows.holds b.has in
      let place = child-place depot parent b.cell b.above before x.ticket x.child b.brood b.shows.holds b.is_child b.has in
      let first = paged-talk.first (paged v) (tree_talk what) talks in
      let last = paged-talk.last (paged v) (tree_talk what) talks in
      let room = b.held.heard.room in
      record {
        least = omega (arith, first, peer-is what);
        most = omega (arith, last, peer-is what, siblings-now, many);
        room = omega (arith, place.0, place.1, many, room);
      }

  lives-now : has_ended forest (now before) ≡ false
  unfolding boxed spots paged_machines machines
  lives-now = ap is_some (talking v what stands).0

  is-before : (a : Tree Member) → child_at x.child trees ≡ Some a → before ≡ a
  is-before a found = some-same before a (sym b.is_child ∙ found)

  was-awake : IsAwake before → IsAwake (now before)
  was-awake awake = record { lives = lives-now; awake = refl }

  -- its brood shows it as it stands now too
  module _ (awake : IsAwake before) where
    keeps : (a : Tree Member) → child_at x.child trees ≡ Some a → KeepsSlot now a
    keeps a found =
        subst (KeepsSlot now) (is-before a found) (keeps-awake now before awake (was-awake awake) (with-machine-inbox (paged v) before))

    not-noted : (a : Tree Member) → child_at x.child trees ≡ Some a → IsNoted b.brood.notes x.child a → IsNoted b.brood.notes x.child (now a)
    not-noted a found was =
        subst (λ u. IsNoted b.brood.notes x.child (now u)) (is-before a found)
        (notes-away now before (λ is_parked. let no : out ≡ parked = is_parked in absurd (cc)) b.brood.notes x.child)

    held-now : BroodShows depot parent x.ticket b.brood (at_child now x.child trees)
    held-now = by b.above b.shows.holds keeps not-noted
      where
        by : (p : Tree Member) → Holds depot parent b.cell p
            → ((a : Tree Member) → child_at x.child (brood_of x.ticket (broods_of p)) ≡ Some a → KeepsSlot now a)
            → ((a : Tree Member) → child_at x.child (brood_of x.ticket (broods_of p)) ≡ Some a → IsNoted b.brood.notes x.child a → IsNoted b.brood.notes x.child (now a))
            → BroodShows depot parent x.ticket b.brood (at_child now x.child (brood_of x.ticket (broods_of p)))
        by (node m kids done) holds keep note =
            subst (BroodShows depot parent x.ticket b.brood) (changed-brood (at_child now x.child) (at_child-none now x.child) x.ticket kids)
            (one-held depot parent b.cell (node m (at_brood (at_child now x.child) x.ticket kids) done)
            (holds-kept now depot parent b.cell x m kids done keep
            (subst (λ o. IfSome o (λ (d : Brood). (a : Tree Member) → child_at x.child (brood_of x.ticket kids) ≡ Some a → IsNoted d.notes x.child a → IsNoted d.notes x.child (now a)))
            (sym b.has) note) holds) x.ticket b.brood b.has)

    -- it waits as its brood tells
    pub talk-waits : stands_waiting_of v (parent ++ (x ∷ [])) f.tree ≡ waits_in b.brood x.child what
    unfolding spot_talks
    talk-waits =
        let talks = (talking v what stands).1 in
        waits-talk v (parent ++ (x ∷ [])) f.tree before there what stands
        ∙ talk-now now parent x f.tree b.above before b.at b.is_child
        ∙ ap (λ t. rests-among x.ticket x.child (at_child now x.child trees) t (machine (now before))) talks
        ∙ sym (waits-in depot parent x.ticket b.brood (at_child now x.child trees) held-now x.child what (now before)
        (child_at-same now x.child trees ∙ ap (option_map now) b.is_child) may-say.least)

-- ---- what a talk of a world takes from its lease

pub record TalksHere (depot : Shelves) (w : World) (f : Forest) (lease : Lent) : Type 0 where
  pub start : Paged
  pub inbox : Inbox
  pub broods : Broods Member
  pub log : Log Member
  pub cell : Cell
  pub is : IsOutHere depot w f lease.name (node (lent_out inbox start) broods log) cell
  pub has : HasRun start lease.ran (now_of lease)

pub talks-here : (depot : Shelves) (w : World) (f : Forest) (lease : Lent) → StandsFor depot w f → IsHandedOut f lease → IsLent lease.start lease.ran lease.now
    → IsSome (subtree lease.name f.tree) → TalksHere depot w f lease
talks-here depot w f lease h out_as lent some = by (handed depot w f lease h out_as)
  where
    by : Handed depot w f lease → TalksHere depot w f lease
    by (gone none cell) = let no : false ≡ true = sym (ap is_some none) ∙ some in absurd (cc)
    by (there start inbox broods log cell is_as is) = record {
      start = start;
      inbox = inbox;
      broods = broods;
      log = log;
      cell = cell;
      is = is;
      has = has-run lease (node (lent_out inbox start) broods log) lent is_as;
    }

-- the root makes no talk
pub root-silent : (depot : Shelves) (w : World) (f : Forest) (lease : Lent) (what : Talk) → IsForest f.tree → TalksHere depot w f lease
    → standing_talk (vm_of lease) ≡ Some what → lease.name ≡ [] → ⊥
unfolding subtree spot_talks
root-silent depot w f lease what whole h stands root =
    let t : Tree Member = node (lent_out h.inbox h.start) h.broods h.log in
    let same : f.tree ≡ t = some-same f.tree t (ap (λ n. subtree n f.tree) (sym root) ∙ h.is.there) in
    let alone : paged_talks.siblings h.start ≡ 0 = ap (λ (u : Tree Member). siblings_of (machine u)) (sym same) ∙ whole.root in
    let now : paged_talks.siblings (now_of lease) ≡ 0 = (lease-numbers h.start (now_of lease) lease.ran h.has).siblings ∙ alone in
    let talks = (talking (vm_of lease) what stands).1 in
    absurd (omega (arith, paged-talk.first (now_of lease) (tree_talk what) talks, paged-talk.last (now_of lease) (tree_talk what) talks, now))

-- another does as its brood tells
pub child-talks : (depot : Shelves) (w : World) (f : Forest) (lease : Lent) (what : Talk) (parent : Path) (x : Branch) → IsForest f.tree
    → (h : TalksHere depot w f lease) → standing_talk (vm_of lease) ≡ Some what → lease.name ≡ parent ++ (x ∷ [])
    → (b : IsBeside depot (rests_in f.tree) w f.tree parent x (node (lent_out h.inbox h.start) h.broods h.log))
    × MaySay x.child what b.brood × (stands_waiting_of (vm_of lease) lease.name f.tree ≡ waits_in b.brood x.child what)
child-talks depot w f lease what parent x whole h stands named =
    let t : Tree Member = node (lent_out h.inbox h.start) h.broods h.log in
    let there : subtree (parent ++ (x ∷ [])) f.tree ≡ Some t = ap (λ n. subtree n f.tree) (sym named) ∙ h.is.there in
    let b = beside depot (rests_in f.tree) w f.tree parent x t whole h.is.live.root h.is.live.each there in (
      b,
      may-say depot w f parent x (vm_of lease) h.start lease.ran h.inbox h.broods h.log what whole h.has stands there b,
      ap (λ n. stands_waiting_of (vm_of lease) n f.tree) named
          ∙ talk-waits depot w f parent x (vm_of lease) h.start lease.ran h.inbox h.broods h.log what whole h.has stands there b h.is.shows.awake,
    )
