-- A world that follows a history, and makes an entry more.
use Rattle.std.proofs.Common.{◌≡◌, List, [], ◌∷◌, ◌++◌, map, true, Option, Some, None, option_map, refl, sym, ap, ap₂, ◌∙◌, subst, cond, Bool}
use Rattle.std.specs.Option.{IfSome}
use Rattle.std.specs.Prelude.{IsSomeAnd}
use Rattle.std.specs.List.{All}
use Rattle.std.proofs.lemmas.List.Elements.{All-nil}
use Rattle.image_depot.specs.Key.{Shelves}
use Rattle.image_depot.specs.Reply.{IsSentOf}
use Rattle.forest_tree.specs.Tree.{Tree, broods_with, node, machine, Path, subtree}
use Rattle.forest_tree.specs.Projection.{map_tree}
use Rattle.forest_tree.specs.Sound.{AreSound, IsSound}
use Rattle.forest_tree.proofs.Projected.{subtree-map}
use Rattle.sibling_forest.specs.Talk.{Box, boxed}
use Rattle.sibling_forest.specs.Laws.{box_of}
use Rattle.talking_history.specs.Places.{Spot, out, spots, boxes}
use Rattle.talking_history.specs.World as history
use Rattle.talking_history.specs.World.{holds, is_resting, lives_ready, world_of}
use Rattle.talking_history.specs.Rows.{How, Row, dropped, kept, over, stopped, stuck, idle, took, wake_failed, spent, waited, Allows, does}
use Rattle.talking_history.specs.Seen.{spot_seen}
use Rattle.talking_history.specs.Histories.{Holding, IsHeldBy, Seat, holding, Entry, row, History, HandsBack, IsLegal, Permits, Record, record_after, replay, with_taken}
use Rattle.forest_model.specs.Forest.{machines, talks}
use Rattle.forest_model.specs.Machine.{Machine}
use Rattle.forest_model.specs.Paged.{Paged, Pages, paged_machines, paged_talks}
use Rattle.vm_cell.specs.Keyed.{paged}
use Rattle.world_core.specs.declared.reason.Reason.{Reason}
use Rattle.world_core.specs.declared.world.World.{World}
use Rattle.world_core.specs.declared.world.Placed.{Placed}
use Rattle.world_core.specs.declared.world.Placed.TheVariants as placed
use Rattle.world_core.specs.declared.world.Taken.{Taken}
use Rattle.world_core.specs.declared.world.Taken.TheVariants as taken
use Rattle.world_core.specs.Answers as core
use Rattle.world_core.specs.Answers.{Answers, Goes, IsHandedOut, IsLentOf, Starts}
use Rattle.world_core.specs.Answers.{IsOutSince}
use Rattle.world_core.specs.Arrived.{StillHandedOut, with_flags}
use Rattle.world_core.specs.Lent.{Lent, now_of}
use Rattle.world_core.specs.Shows.{Member, paged_of}
use Rattle.world_core.specs.Told.{AreKept, told_of}
use Rattle.world_core.specs.World.{Forest, StandsFor}
use Rattle.world_core.proofs.Arriving.{flags-family}
use Rattle.fork_board.specs.declared.note.Opening.{Opening}
use Rattle.fork_board.specs.Answers.{Places, Takes}
use Rattle.fork_board.specs.Follows.{Follows, IsWorldOf, depot_of, family_of, opening_record, pair_of, record_at}
use Rattle.fork_board.specs.Notes.{placed_entry, taken_entry}
use Rattle.fork_board.specs.Passes.{BoardValue, IsHeld, PassValue}
use Rattle.fork_board.proofs.Records.{allows-family, does-family, kept-holdings, legal-more, out-as-taken, permits-row, record-more, same-path}

-- ---- one entry more

-- the history is legal and leads to the forest, and to the replies that were told to the world, which need not stand for it
pub record Leads (opening : Opening) (log : History Reason) (f : Forest) (w : World) : Type 0 where
  pub start : IsSound (boxes machines talks) (opening_record opening).world.tree
  pub legal : IsLegal machines talks log (opening_record opening)
  pub family : family_of f ≡ (record_at opening log).world
  pub replies : map pair_of (told_of w) ≡ (record_at opening log).told
  pub kept : AreKept (depot_of opening) w

pub leads-now : (opening : Opening) (log : History Reason) (f : Forest) (w : World) → Follows opening log w → family_of f ≡ (record_at opening log).world
    → Leads opening log f w
leads-now opening log f w h family =
    record { start = h.start; legal = h.legal; family = family; replies = h.world.replies; kept = h.world.kept }

-- once a world stands for the forest, it follows the history
pub follows-there : (opening : Opening) (log : History Reason) (f : Forest) (old new : World) → Leads opening log f old
    → StandsFor (depot_of opening) new f → told_of new ≡ told_of old → Follows opening log new
follows-there opening log f old new h stands told = record {
  start = h.start;
  legal = h.legal;
  world = record {
    forest = f;
    stands = stands;
    family = h.family;
    replies = ap (map pair_of) told ∙ h.replies;
    kept = subst (All (IsSentOf (depot_of opening))) (sym told) h.kept;
  };
}

row-after : (seat : Seat) (x : Row Reason) (r : Record Machine Reason) → (record_after machines talks seat (row x) r).world ≡ does machines talks x r.world
unfolding record_after
row-after seat x r = refl

row-told : (seat : Seat) (x : Row Reason) (r : Record Machine Reason) → (record_after machines talks seat (row x) r).told ≡ r.told
unfolding record_after
row-told seat x r = refl

module _ (opening : Opening) (log : History Reason) (seat : Seat) where
  -- a row of the forest
  pub leads-row : (x : Row Reason) (f : Forest) (w : World) → Leads opening log f w → Allows paged_machines paged_talks x f
      → HandsBack seat x (record_at opening log).holdings → Leads opening (log ++ (seat, row x) ∷ []) (does paged_machines paged_talks x f) w
  leads-row x f w h allowed hands =
      let more = record-more opening log seat (row x) in
      let before = record_at opening log in
      record {
        start = h.start;
        legal = legal-more opening log seat (row x) h.legal
            (permits-row seat x before (subst (Allows machines talks x) h.family (allows-family x f allowed)) hands);
        family = does-family x f ∙ ap (does machines talks x) h.family ∙ sym (row-after seat x before)
            ∙ ap (λ (r : Record Machine Reason). r.world) (sym more);
        replies = h.replies ∙ sym (row-told seat x before) ∙ ap (λ (r : Record Machine Reason). r.told) (sym more);
        kept = h.kept;
      }

  -- the entry may come, and the world stands for what is on record after it
  pub follows-more : (entry : Entry Reason) (old new : World) → Follows opening log old → Permits machines talks seat entry (record_at opening log)
      → IsWorldOf (depot_of opening) (record_after machines talks seat entry (record_at opening log)) new → Follows opening (log ++ (seat, entry) ∷ []) new
  follows-more entry old new h permits is = record {
    start = h.start;
    legal = legal-more opening log seat entry h.legal permits;
    world = subst (λ r. IsWorldOf (depot_of opening) r new) (sym (record-more opening log seat entry)) is;
  }

  -- the entry is a row of the forest
  pub follows-row : (x : Row Reason) (f : Forest) (old new : World) → Follows opening log old → family_of f ≡ (record_at opening log).world
      → HandsBack seat x (record_at opening log).holdings → Goes (depot_of opening) f x new → told_of new ≡ told_of old
      → Follows opening (log ++ (seat, row x) ∷ []) new
  follows-row x f old new h family hands goes told =
      follows-there opening (log ++ (seat, row x) ∷ []) (does paged_machines paged_talks x f) old new
      (leads-row x f old (leads-now opening log f old h family) goes.allowed hands) goes.after told

-- ---- a machine on lease

-- the world handed out the lease, in a forest that differs from that on record in what is known of pages alone
pub record IsLentOut (opening : Opening) (log : History Reason) (w : World) (lease : Lent) : Type 0 where
  pub forest : Forest
  pub stands : StandsFor (depot_of opening) w forest
  pub handed : IsHandedOut forest lease
  pub family : family_of forest ≡ (record_at opening log).world

abbrev pub IsHeldAt : Opening → History Reason → Seat → Lent → Type 0
IsHeldAt opening log seat lease = holding lease.name (record_at opening log).holdings ≡ Some (record { name = lease.name; seat = seat; found = lease.start })

-- a forest that shows the machine as it was taken
out-seen : (start : Machine) (u : Option (Tree Member))
    → IfSome (option_map (map_tree (box_of (spot_seen (λ (p : Paged). p.machine)))) u)
    (λ (t : Tree (Box (Spot Machine))). ((machine t).machine.place ≡ out) × ((machine t).machine.machine ≡ start))
    → IfSome u (λ t. ((machine t).machine.place ≡ out) × ((paged_of (machine t)).machine ≡ start))
unfolding map_tree
out-seen start None h = tt
out-seen start (Some (node s broods log)) h = h

out-since : (f : Forest) (lease : Lent) (w : Tree (Box (Spot Machine))) → (family_of f).tree ≡ w
    → IfSome (subtree lease.name w) (λ (t : Tree (Box (Spot Machine))). ((machine t).machine.place ≡ out) × ((machine t).machine.machine ≡ lease.start)) → IsOutSince f lease
out-since f lease w same h =
    out-seen lease.start (subtree lease.name f.tree)
    (subst (λ u. IfSome u (λ (t : Tree (Box (Spot Machine))). ((machine t).machine.place ≡ out) × ((machine t).machine.machine ≡ lease.start)))
    (ap (subtree lease.name) (sym same) ∙ subtree-map (box_of (spot_seen (λ (p : Paged). p.machine))) lease.name f.tree) h)

same-family : (name : Path) (flags : Pages → Pages) (f : Forest) → family_of (with_flags name flags f) ≡ family_of f
same-family name flags f = ap (λ t. record { tree = t; halted = f.halted }) (flags-family name flags f)

module _ (opening : Opening) (log : History Reason) (w : World) (lease : Lent) (seat : Seat) (h : Follows opening log w) where
  pub lent-out : IsHeldAt opening log seat lease
      → ((depot : Shelves) (v : World) (f : Forest) → StandsFor depot v f → IsOutSince f lease → StillHandedOut depot v f lease)
      → IsLentOut opening log w lease
  lent-out held led =
      let is = h.world in
      let still = led (depot_of opening) w is.forest is.stands
      (out-since is.forest lease (record_at opening log).world.tree (ap (λ (v : history.World Machine Reason). v.tree) is.family)
      (out-as-taken opening log h.start h.legal lease.name (record { name = lease.name; seat = seat; found = lease.start }) held)) in
      record {
        forest = with_flags lease.name still.flags is.forest;
        stands = still.stands;
        handed = still.handed;
        family = same-family lease.name still.flags is.forest ∙ is.family;
      }

  pub held-by : IsHeldAt opening log seat lease → IsHeldBy seat lease.name (record_at opening log).holdings
  held-by held = subst (λ o. IsSomeAnd o (λ (x : Holding Machine). x.seat ≡ seat)) (sym held) refl

  -- it came back
  pub follows-placed : (how : How) (lent : IsLentOut opening log w lease) (answer : Placed) (new : World) → IsHeldAt opening log seat lease
      → Answers (depot_of opening) lent.forest how lease answer new → told_of new ≡ told_of w
      → Follows opening (log ++ (seat, placed_entry how lease.name lease.ran answer) ∷ []) new
  follows-placed how lent placed.Done new held a told =
      follows-row opening log seat (spent how lease.name lease.ran) lent.forest w new h lent.family (held-by held) a told
  follows-placed how lent placed.Parked new held a told =
      follows-row opening log seat (spent waited lease.name lease.ran) lent.forest w new h lent.family (held-by held) a.1 told
  follows-placed how lent placed.Dropped new held a told =
      follows-row opening log seat (dropped lease.name) lent.forest w new h lent.family (held-by held) a told
  follows-placed how lent (placed.Memory back) new held a told =
      follows-row opening log seat (kept lease.name lease.ran) lent.forest w new h lent.family (held-by held) a.2 told

-- what a pass is seen to hold after its entry
pub held-still : (new : PassValue) (opening : Opening) (log : History Reason) (seat : Seat) (entry : Entry Reason) (lease : Lent)
    → new.board.opening ≡ opening → new.number ≡ seat → new.seen ≡ log ++ (seat, entry) ∷ [] → IsHeldAt opening (log ++ (seat, entry) ∷ []) seat lease
    → IsHeld new lease
held-still new opening log seat entry lease same number seen held =
    ap₂ (λ o l. holding lease.name (record_at o l).holdings) same seen ∙ held
    ∙ ap (λ s. Some (record { name = lease.name; seat = s; found = lease.start })) (sym number)

-- where memory is wanting, the pass holds the machine still
pub places : (how : How) (lease : Lent) (depot : Shelves) (f : Forest) (now new : PassValue) (answer : Placed) (w : World)
    → IsHeldAt now.board.opening now.seen now.number lease → new.board ≡ now.board → new.number ≡ now.number
    → new.seen ≡ now.seen ++ (now.number, placed_entry how lease.name lease.ran answer) ∷ [] → Answers depot f how lease answer w
    → Places how lease new answer
places how lease depot f now new placed.Done w held board number seen a = tt
places how lease depot f now new placed.Parked w held board number seen a = a.0
places how lease depot f now new placed.Dropped w held board number seen a = tt
places how lease depot f now new (placed.Memory back) w held board number seen a = (
  a.0,
  a.1,
  held-still new now.board.opening now.seen now.number (row (kept lease.name lease.ran)) lease (ap (λ (b : BoardValue). b.opening) board) number seen
      (ap (holding lease.name) (kept-holdings now.board.opening now.seen now.number lease.name lease.ran) ∙ held),
)

-- ---- a machine is taken

module _ (opening : Opening) (log : History Reason) (seat : Seat) where
  taken-from : (resting : Bool) (lease : Lent) (u : Option (Tree Member)) (held : List (Holding Machine)) → lease.now ≡ lease.start
      → holds (lives_ready paged_machines paged_talks resting) u ≡ true → IfSome u (λ t. paged_of (machine t) ≡ now_of lease)
      → holding lease.name (with_taken seat lease.name (option_map (map_tree (box_of (spot_seen (λ (p : Paged). p.machine)))) u) held)
      ≡ Some (record { name = lease.name; seat = seat; found = lease.start })
  unfolding map_tree holding
  taken-from resting lease None held now ready start = absurd (cc)
  taken-from resting lease (Some (node s broods l)) held now ready start =
      let was : Holding Machine = record { name = lease.name; seat = seat; found = (paged_of s).machine } in
      ap (λ b. cond b (Some was) (holding lease.name held)) (same-path lease.name)
      ∙ ap (λ m. Some (record { name = lease.name; seat = seat; found = m })) (ap (λ (p : Paged). p.machine) start ∙ now)

  taken-after : (resting : Bool) (f : Forest) (lease : Lent) (r : Record Machine Reason) → family_of f ≡ r.world
      → holds (lives_ready paged_machines paged_talks resting) (subtree lease.name f.tree) ≡ true → Starts f lease
      → holding lease.name (record_after machines talks seat (row (took lease.name)) r).holdings
      ≡ Some (record { name = lease.name; seat = seat; found = lease.start })
  unfolding record_after
  taken-after resting f lease r same ready starts =
      ap (λ u. holding lease.name (with_taken seat lease.name u r.holdings))
      (ap (λ (v : history.World Machine Reason). subtree lease.name v.tree) (sym same) ∙ subtree-map (box_of (spot_seen (λ (p : Paged). p.machine))) lease.name f.tree)
      ∙ taken-from resting lease (subtree lease.name f.tree) r.holdings starts.now ready starts.start

  -- the seat holds it then
  pub taken-held : (f : Forest) (lease : Lent) → family_of f ≡ (record_at opening log).world → Allows paged_machines paged_talks (took lease.name) f → Starts f lease
      → IsHeldAt opening (log ++ (seat, row (took lease.name)) ∷ []) seat lease
  unfolding Allows
  taken-held f lease family allowed starts =
      ap (λ (r : Record Machine Reason). holding lease.name r.holdings) (record-more opening log seat (row (took lease.name)))
      ∙ taken-after (is_resting paged_machines paged_talks lease.name f.tree) f lease (record_at opening log) family allowed.1 starts

  pub follows-taken : (old new : World) (h : Follows opening log old) (answer : Taken) → core.Takes (depot_of opening) h.world.forest answer new
      → told_of new ≡ told_of old → Follows opening (log ++ (seat, taken_entry answer) ∷ []) new
  follows-taken old new h taken.Over a told = follows-row opening log seat over h.world.forest old new h h.world.family tt a told
  follows-taken old new h (taken.Stopped reason) a told = follows-row opening log seat (stopped reason) h.world.forest old new h h.world.family tt a told
  follows-taken old new h taken.Stuck a told = follows-row opening log seat stuck h.world.forest old new h h.world.family tt a told
  follows-taken old new h taken.Idle a told = follows-row opening log seat idle h.world.forest old new h h.world.family tt a told
  follows-taken old new h (taken.Took lease) a told = follows-row opening log seat (took lease.name) h.world.forest old new h h.world.family tt a.0 told
  follows-taken old new h taken.Memory a told = follows-row opening log seat wake_failed h.world.forest old new h h.world.family tt a told

pub takes : (now new : PassValue) (old w : World) (h : Follows now.board.opening now.seen old) (answer : Taken) → new.board ≡ now.board
    → new.number ≡ now.number → new.seen ≡ now.seen ++ (now.number, taken_entry answer) ∷ []
    → core.Takes (depot_of now.board.opening) h.world.forest answer w → Takes new answer
takes now new old w h taken.Over board number seen a = tt
takes now new old w h (taken.Stopped reason) board number seen a = tt
takes now new old w h taken.Stuck board number seen a = tt
takes now new old w h taken.Idle board number seen a = tt
takes now new old w h (taken.Took lease) board number seen a = record {
  ran = a.1.ran;
  now = a.1.now;
  of_depot = subst (λ (b : BoardValue). IsLentOf (depot_of b.opening) lease) (sym board) a.2;
  held =
      held-still new now.board.opening now.seen now.number (row (took lease.name)) lease (ap (λ (b : BoardValue). b.opening) board) number seen
      (taken-held now.board.opening now.seen now.number h.world.forest lease h.world.family a.0.allowed a.1);
}
takes now new old w h taken.Memory board number seen a = tt

-- ---- the world as it was made

sound-first : (p : Paged) → IsSound (boxes paged_machines paged_talks) (world_of paged_machines paged_talks {R = Reason} p).tree
    → IsSound (boxes machines talks) (world_of machines talks {R = Reason} p.machine).tree
unfolding IsSound AreSound broods_with boxed spots paged_machines
sound-first p h = (record { good = h.0.good; ended = λ e. refl; one_each = h.0.one_each }, tt)

same-first : (p : Paged) → family_of (world_of paged_machines paged_talks p) ≡ world_of machines talks p.machine
unfolding map_tree
same-first p = refl

pub begins : (opening : Opening) (w : World) → StandsFor (depot_of opening) w (world_of paged_machines paged_talks (paged opening.first.value)) → told_of w ≡ []
    → Follows opening [] w
unfolding replay IsLegal
begins opening w h none = record {
  start = sound-first (paged opening.first.value) h.whole.sound;
  legal = tt;
  world = record {
    forest = world_of paged_machines paged_talks (paged opening.first.value);
    stands = h;
    family = same-first (paged opening.first.value);
    replies = ap (map pair_of) none;
    kept = subst (All (IsSentOf (depot_of opening))) (sym none) (All-nil (IsSentOf (depot_of opening)));
  };
}
