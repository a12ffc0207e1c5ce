-- A machine that is handed out by its own turn.
use Rattle.std.proofs.Common.{◌≡◌, ◌≢◌, ◌⊎◌, inl, inr, Option, Bool, true, false, refl, sym, ap, ◌∙◌, subst, ◌∷◌, Some, None}
use Rattle.std.specs.Option.{IfSome}
use Rattle.std.specs.BTreeMap.{BTreeMap, WritesThrough, get}
use Rattle.image_depot.specs.Key.{Shelves}
use Rattle.forest_tree.specs.Tree.{Tree, node, machine, Path, subtree}
use Rattle.talking_history.specs.Places.{home, out, parked, placed}
use Rattle.talking_history.specs.World.{lives_ready, holds}
use Rattle.talking_history.specs.Rows.{took}
use Rattle.forest_model.specs.Paged.{paged_machines, paged_talks}
use Rattle.machine_names.specs.NameOrder.{path_cmp}
use Rattle.world_core.specs.declared.cell.Cell.{Cell}
use Rattle.world_core.specs.declared.cell.State.{State}
use Rattle.world_core.specs.declared.cell.State.TheVariants.{Home, Parked, Out}
use Rattle.world_core.specs.Shows.{Member, paged_of, CellShows, IsKinIn, Shows, StateShows}
use Rattle.world_core.specs.declared.world.World.{World}
use Rattle.ready_queue.specs.Ready.{Ready}
use Rattle.world_core.specs.Listed.{IsListed}
use Rattle.world_core.specs.World.{Forest, IsDue, ShowsLive, StandsFor, rests_in}
use Rattle.vm_cell.specs.Keyed.{KeyedMachine, IsOfDepot, paged}
use Rattle.world_core.specs.Kin.{IsKin}
use Rattle.world_core.specs.Lent.{lent_as}
use Rattle.world_core.specs.Answers.{Goes, IsLentOf, Starts}
use Rattle.world_core.specs.Popped.{ShowsCells, is_listed_in, with_turn}
use Rattle.world_core.proofs.Changes.{parent-awake}
use Rattle.world_core.proofs.Returns.{apart-outside, away-noted, written-here, written-apart, some-is}
use Rattle.world_core.proofs.SlotPlaces.{inbox-placed, out-not-parked}
use Rattle.world_core.proofs.Sleepers.{cell-shows}
use Rattle.world_core.proofs.TurnOut.{covered-rest, due-apart, listed-apart, unlisted, all-apart, popped, shown-with}
use Rattle.world_core.proofs.TakenOut.{cells-taken, taken, allows-took}

-- a cell shows the same where its turn is listed or not
-- a cell tells nothing of the parent of a machine that is out
pub kin-free : (depot : Shelves) (path : Path) (resting : Bool) (c : Cell) (kin : Option Path) (t : Tree Member) → CellShows depot path resting c (placed out t)
    → CellShows depot path resting (record c { kin = kin }) (placed out t)
kin-free depot path resting c kin (node b broods log) h = record {
  awake = record { lives = h.awake.lives; awake = h.awake.awake };
  kin = free c.state h.state;
  state = h.state;
  of_depot = h.of_depot;
  holds = record { tallies = record { log = h.holds.tallies.log; room = h.holds.tallies.room; broods = h.holds.tallies.broods }; broods = h.holds.broods };
}
  where
    not-at-home : (out ≡ home) ⊎ ((out ≡ parked) × (resting ≡ false)) → ⊥
    not-at-home (inl at) = cc
    not-at-home (inr at) = let no : out ≡ parked = at.0 in cc

    free : (state : State) → StateShows path state (machine (placed out (node b broods log))) resting → IsKinIn state kin path
    free (Home vm) shown = absurd (not-at-home shown.1)
    free (Parked awaited vm turn) shown = let no : out ≡ parked = shown.1 in absurd (cc)
    free Out shown = tt

pub relisted : (depot : Shelves) (path : Path) (resting : Bool) (c : Cell) (listed : Bool) (t : Tree Member) → CellShows depot path resting c t
    → CellShows depot path resting (record c { is_listed = listed }) t
relisted depot path resting c listed t h = record {
  awake = record { lives = h.awake.lives; awake = h.awake.awake };
  kin = h.kin;
  state = h.state;
  of_depot = h.of_depot;
  holds = record { tallies = record { log = h.holds.tallies.log; room = h.holds.tallies.room; broods = h.holds.tallies.broods }; broods = h.holds.broods };
}

module _ (depot : Shelves) (turn : Ready) (w : World) (f : Forest) (one : turn.children ≡ None) (h : StandsFor depot (with_turn turn w) f)
    (going : w.outcome ≡ None) where
  shows-turn : ShowsLive depot (with_turn turn w) f.tree
  shows-turn = shown-with depot turn w f h going

  -- no live machine of that name is awake
  pub awake-gone : (cells : BTreeMap Path Cell) → None ≡ get path_cmp w.cells turn.name → ((n : Path) → get path_cmp cells n ≡ get path_cmp w.cells n)
      → StandsFor depot (record w { cells = cells }) f
  awake-gone cells none same =
      let none_now : get path_cmp cells turn.name ≡ None = same turn.name ∙ sym none in
      popped depot turn w (record w { cells = cells }) f one h going going refl refl (λ n other. same n)
      (subst (λ c. Shows depot turn.name (rests_in f.tree turn.name) c (subtree turn.name f.tree)) (sym (same turn.name)) (shows-turn.each.cells turn.name))
      (λ ready.
      let due : IsDue None turn.name (turn ∷ w.ready) = subst (λ c. IsDue c turn.name (turn ∷ w.ready)) (sym none) (shows-turn.each.ready turn.name ready) in
      subst (λ c. IsDue c turn.name w.ready) (sym none_now) (covered-rest turn.name turn w.ready one due))
      (ap is_listed_in none_now)

  module _ (c : Cell) (found : Some c ≡ get path_cmp w.cells turn.name) where
    shown : (t : Tree Member) × (subtree turn.name f.tree ≡ Some t) × CellShows depot turn.name (rests_in f.tree turn.name) c t
    shown = cell-shows depot turn.name (rests_in f.tree turn.name) (get path_cmp w.cells turn.name) c (subtree turn.name f.tree) (sym found) (shows-turn.each.cells turn.name)

    -- the name of its parent
    pub awake-kin : {A B C D : Tree Member → Type 0}
        → ((t : Tree Member) → CellShows depot turn.name (rests_in f.tree turn.name) (record c { is_listed = false }) t
        → A t × B t × C t × IsKin c.kin turn.name × D t) → IsKin c.kin turn.name
    awake-kin lent = (lent shown.0 (relisted depot turn.name (rests_in f.tree turn.name) c false shown.0 shown.2)).3

    module _ (cells : BTreeMap Path Cell) (d : Cell) (written : WritesThrough path_cmp (path_cmp turn.name) w.cells d cells) where
      now-here : get path_cmp cells turn.name ≡ Some d
      now-here = written-here w.cells cells turn.name d written (some-is c (get path_cmp w.cells turn.name) found)

      now-apart : (n : Path) → turn.name ≢ n → get path_cmp cells n ≡ get path_cmp w.cells n
      now-apart = written-apart w.cells cells turn.name d written (some-is c (get path_cmp w.cells turn.name) found)

      -- it is not ready
      pub awake-idle : ((t : Tree Member) → CellShows depot turn.name (rests_in f.tree turn.name) (record c { is_listed = false }) t
          → (lives_ready paged_machines paged_talks (rests_in f.tree turn.name) t ≡ false) × (d ≡ record c { is_listed = false })) → StandsFor depot (record w { cells = cells }) f
      awake-idle lent =
          let still = relisted depot turn.name (rests_in f.tree turn.name) c false shown.0 shown.2 in
          let idle = lent shown.0 still in
          popped depot turn w (record w { cells = cells }) f one h going going refl refl now-apart
          (subst (λ o. Shows depot turn.name (rests_in f.tree turn.name) o (subtree turn.name f.tree)) (sym now-here)
          (subst (Shows depot turn.name (rests_in f.tree turn.name) (Some d)) (sym shown.1)
          (subst (λ e. CellShows depot turn.name (rests_in f.tree turn.name) e shown.0) (sym idle.1) still)))
          (λ ready.
          let no : true ≡ false = sym ready ∙ ap (holds (lives_ready paged_machines paged_talks (rests_in f.tree turn.name))) shown.1 ∙ idle.0 in absurd (cc))
          (ap is_listed_in now-here ∙ ap (λ (e : Cell). e.is_listed) idle.1)

      -- it is handed out
      pub awake-taken : (v : KeyedMachine) → w.halted ≡ None → d.is_listed ≡ false
          → ((t : Tree Member) → CellShows depot turn.name (rests_in f.tree turn.name) (record c { is_listed = false }) t
          → (lives_ready paged_machines paged_talks (rests_in f.tree turn.name) t ≡ true) × (paged v ≡ paged_of (machine t)) × IsOfDepot depot v.key
          × IsKin c.kin turn.name × CellShows depot turn.name (rests_in f.tree turn.name) d (placed out t))
          → Goes depot f (took turn.name) (record w { cells = cells }) × Starts f (lent_as turn.name v.machine 0 v)
          × IsLentOf depot (lent_as turn.name v.machine 0 v)
      awake-taken v unhalted unlisted lent =
          let taken_as = lent shown.0 (relisted depot turn.name (rests_in f.tree turn.name) c false shown.0 shown.2) in
          let before : ShowsCells depot w.cells f.tree = record { whole = h.whole; root = shows-turn.root; shows = shows-turn.each.cells } in
          let after : World = record w { cells = cells } in (
            record {
              allowed = allows-took f turn.name shows-turn.root.lives (sym h.halted ∙ unhalted) (ap (holds (lives_ready paged_machines paged_talks (rests_in f.tree turn.name))) shown.1 ∙ taken_as.0);
              after = taken depot after f turn.name shown.0 shown.1
                  (cells-taken depot w.cells cells f.tree shown.0 turn.name shown.1 before (λ n other one. now-apart n other)
                  (subst (λ o. Shows depot turn.name (rests_in f.tree turn.name) o (Some (placed out shown.0))) (sym now-here) taken_as.4)
                  (λ n x none e.
                  parent-awake (placed out) depot turn.name n (rests_in f.tree n) f.tree shown.0 x (get path_cmp cells n) none e shown.1 shown.2.awake taken_as.4.awake
                  (inbox-placed out shown.0) (away-noted (get path_cmp cells n) x shown.0 (placed out shown.0) (out-not-parked shown.0))
                  (subst (λ o. Shows depot n (rests_in f.tree n) o (subtree n f.tree)) (sym (now-apart n (apart-outside turn.name n none))) (shows-turn.each.cells n))))
                  h.halted going
                  (λ n other ready. due-apart depot turn w after f one h going going refl refl now-apart n other (shows-turn.each.ready n ready))
                  (all-apart depot turn w after f one h going going refl refl now-apart
                  {P = λ n. IfSome (get path_cmp cells n) (λ (e : Cell). e.is_listed ≡ true → IsListed n w.ready)}
                  (subst (λ o. IfSome o (λ (e : Cell). e.is_listed ≡ true → IsListed turn.name w.ready)) (sym now-here)
                  (λ is. let no : true ≡ false = sym is ∙ unlisted in absurd (cc)))
                  (listed-apart depot turn w after f one h going going refl refl now-apart));
            },
            record {
              ran = refl;
              now = refl;
              start = subst (λ o. IfSome o (λ (t : Tree Member). (paged_of (machine t)) ≡ paged v)) (sym shown.1) (sym taken_as.1);
            },
            taken_as.2,
          )
