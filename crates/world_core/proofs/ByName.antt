-- A machine that is handed out by its name.
use Rattle.std.proofs.Common.{◌≡◌, ◌≢◌, ℕ, ◌&&◌, not, Bool, true, false, refl, sym, ap, ◌∙◌, subst, inl, inr, ◌∷◌, Option, Some, None, is_some, Result, Ok, Err, option_and_then, []}
use Rattle.std.specs.Option.{IfSome}
use Rattle.std.specs.Result.{IsErr}
use Rattle.std.specs.declared.alloc.AllocError.{AllocError}
use Rattle.std.specs.BTreeMap.{BTreeMap, WritesThrough, get}
use Rattle.image_depot.specs.Key.{Shelves}
use Rattle.forest_tree.specs.Tree.{Tree, machine, brood_of, child_at, Path, subtree, at_path}
use Rattle.forest_tree.specs.Step.{has_ended}
use Rattle.forest_tree.specs.Sound.{IsSound}
use Rattle.talking_history.specs.Places.{Place, asleep, home, out, parked, placed}
use Rattle.talking_history.specs.World.{is_asleep_at, is_ready_at, is_at_home_at, lives_at_home, holds, is_at_home}
use Rattle.talking_history.specs.Rows.{took, does}
use Rattle.forest_model.specs.Paged.{paged_machines, paged_talks}
use Rattle.machine_names.specs.Name.{child_path}
use Rattle.machine_names.specs.NameOrder.{path_cmp}
use Rattle.world_core.specs.declared.cell.Cell.{Cell}
use Rattle.world_core.specs.Shows.{Member, paged_of, forest, CellShows, Shows}
use Rattle.world_core.specs.declared.world.World.{World}
use Rattle.run_report.specs.Report.{Ended as Report}
use Rattle.vm_cell.specs.Keyed.{KeyedMachine, IsOfDepot, paged}
use Rattle.world_core.specs.Kin.{IsKin}
use Rattle.world_core.specs.Lent.{Lent, lent_as, now_of}
use Rattle.world_core.specs.Listed.{IsListed}
use Rattle.world_core.specs.World.{Forest, IsDue, ShowsTree, StandsFor, rests_in}
use Rattle.world_core.specs.Answers.{IsLentOf, Starts, TakesNamed}
use Rattle.world_core.specs.Popped.{ShowsCells, sleeps, is_listed_in}
use Rattle.world_core.proofs.Awake.{never-both, ended-broods}
use Rattle.world_core.proofs.Changes.{parent-awake}
use Rattle.world_core.proofs.Returns.{apart-outside, away-noted, same-or-apart, shows-same, written-here, written-apart, some-is}
use Rattle.world_core.proofs.Sleepers.{wakes, wakes-any, wakes-is, cell-shows, wakes-there, dead-not}
use Rattle.world_core.proofs.SlotPlaces.{inbox-placed, out-not-parked}
use Rattle.world_core.proofs.TakenOut.{cells-taken, taken}
use Rattle.world_core.proofs.TurnOfChildren.{listed-by, listed-in, due-alike}
use Rattle.world_core.proofs.TurnByTurn.{shows-live}

asleep-dead : (ended waiting : Bool) (place : Place) → is_asleep_at place ≡ true → (not ended && is_ready_at place waiting) && is_asleep_at place ≡ false
    → not ended && is_at_home_at place ≡ false
asleep-dead true waiting place there awake = refl
asleep-dead false waiting asleep there awake = absurd (cc)
asleep-dead false waiting home there awake = absurd (cc)
asleep-dead false waiting out there awake = absurd (cc)
asleep-dead false waiting parked there awake = absurd (cc)

asleep-home : (ended : Bool) (place : Place) → ended ≡ false → is_asleep_at place ≡ true → not ended && is_at_home_at place ≡ true
asleep-home true place lives there = absurd (cc)
asleep-home false asleep lives there = refl
asleep-home false home lives there = absurd (cc)
asleep-home false out lives there = absurd (cc)
asleep-home false parked lives there = absurd (cc)

-- none lives where the root has ended
ended-nobody : (name : Path) (t : Tree Member) → IsSound forest t → has_ended forest t ≡ true → is_at_home paged_machines paged_talks name t ≡ false
unfolding subtree brood_of child_at
ended-nobody [] t sound ended = dead-not (has_ended forest t) (is_at_home_at (machine t).machine.place) ended
ended-nobody (b ∷ rest) t sound ended =
    ap (λ broods. holds (lives_at_home paged_machines paged_talks) (option_and_then (subtree rest) (child_at b.child (brood_of b.ticket broods)))) (ended-broods t sound ended)

pub over-nobody : (depot : Shelves) (w : World) (f : Forest) (name : Path) → StandsFor depot w f → is_some w.outcome ≡ true
    → is_at_home paged_machines paged_talks name f.tree ≡ false
over-nobody depot w f name h some = ended-nobody name f.tree h.whole.sound (by w.outcome h.tree some)
  where
    by : (o : Option Report) → ShowsTree o depot w f.tree → is_some o ≡ true → has_ended forest f.tree ≡ true
    by None shown some = absurd (cc)
    by (Some outcome) shown some = shown.ended

-- the number that was looked for
-- the same cells
pub stands-same : (depot : Shelves) (w v : World) (f : Forest) → ((n : Path) → get path_cmp v.cells n ≡ get path_cmp w.cells n) → v.ready ≡ w.ready
    → v.halted ≡ w.halted → v.outcome ≡ w.outcome → StandsFor depot w f → StandsFor depot v f
stands-same depot w v f cells ready halted outcome h = record {
  whole = h.whole;
  halted = halted ∙ h.halted;
  tree = subst (λ o. ShowsTree o depot v f.tree) (sym outcome) (shows-same depot w v cells ready w.outcome f.tree h.tree);
}

pub rewritten : (m n : BTreeMap Path Cell) (name : Path) (c : Cell) → Some c ≡ get path_cmp m name → WritesThrough path_cmp (path_cmp name) m c n → (q : Path)
    → get path_cmp n q ≡ get path_cmp m q
rewritten m n name c found written q = elim (same-or-apart name q) [
  | inl same ↦ subst (λ p. get path_cmp n p ≡ get path_cmp m p) (sym same) (written-here m n name c written (some-is c (get path_cmp m name) found) ∙ found)
  | inr other ↦ written-apart m n name c written (some-is c (get path_cmp m name) found) q other
]

pub named-error : (depot : Shelves) (f : Forest) (name : Path) (r : Result (Option Lent) AllocError) (new : World) → IsErr r → StandsFor depot new f
    → TakesNamed depot f name r new
named-error depot f name (Ok lease) new err h = absurd (cc)
named-error depot f name (Err e) new err h = h

-- what becomes of a forest from which a machine was taken that has a turn where it had one
pub taken-as : (depot : Shelves) (w v : World) (f : Forest) (name : Path) (a : Tree Member) → StandsFor depot w f → w.outcome ≡ None
    → subtree name f.tree ≡ Some a → ShowsCells depot v.cells (at_path (placed out) name f.tree)
    → ((n : Path) → n ≢ name → is_some (get path_cmp v.cells n) ≡ is_some (get path_cmp w.cells n))
    → ((n : Path) → is_listed_in (get path_cmp v.cells n) ≡ is_listed_in (get path_cmp w.cells n))
    → v.ready ≡ w.ready → v.halted ≡ w.halted → v.outcome ≡ w.outcome → StandsFor depot v (does paged_machines paged_talks (took name) f)
taken-as depot w v f name a h going there cells others listed ready halted outcome =
    let shown = shows-live depot w f h going in
    taken depot v f name a there cells (halted ∙ h.halted) (outcome ∙ going)
    (λ n other is.
    due-alike (get path_cmp w.cells n) (get path_cmp v.cells n) n v.ready (others n (λ same. other (sym same)))
    (subst (IsDue (get path_cmp w.cells n) n) (sym ready) (shown.each.ready n is)))
    (λ n.
    listed-by (get path_cmp v.cells n)
    (λ is. subst (IsListed n) (sym ready) (listed-in (get path_cmp w.cells n) (shown.each.listed n) (sym (listed n) ∙ is))))

module _ (depot : Shelves) (w : World) (f : Forest) (name : Path) (h : StandsFor depot w f) (going : w.outcome ≡ None) where
  pub before-named : ShowsCells depot w.cells f.tree
  before-named = let shown = shows-live depot w f h going in record { whole = h.whole; root = shown.root; shows = shown.each.cells }

  module _ (c : Cell) (found : Some c ≡ get path_cmp w.cells name) where
    named-shown : (t : Tree Member) × (subtree name f.tree ≡ Some t) × CellShows depot name (rests_in f.tree name) c t
    named-shown = cell-shows depot name (rests_in f.tree name) (get path_cmp w.cells name) c (subtree name f.tree) (sym found) (before-named.shows name)

    -- the name of its parent
    pub named-kin : {A B C D : Tree Member → Type 0}
        → ((t : Tree Member) → CellShows depot name (rests_in f.tree name) c t → A t × B t × C t × IsKin c.kin name × D t) → IsKin c.kin name
    named-kin lent = (lent named-shown.0 named-shown.2).3

    module _ (cells : BTreeMap Path Cell) (d : Cell) (written : WritesThrough path_cmp (path_cmp name) w.cells d cells) where
      -- it is on lease
      pub named-idle : ((t : Tree Member) → CellShows depot name (rests_in f.tree name) c t → (lives_at_home paged_machines paged_talks t ≡ false) × (d ≡ c))
          → (is_at_home paged_machines paged_talks name f.tree ≡ false) × StandsFor depot (record w { cells = cells }) f
      named-idle lent =
          let idle = lent named-shown.0 named-shown.2 in (
            ap (holds (lives_at_home paged_machines paged_talks)) named-shown.1 ∙ idle.0,
            stands-same depot w (record w { cells = cells }) f
                (rewritten w.cells cells name c found (subst (λ e. WritesThrough path_cmp (path_cmp name) w.cells e cells) idle.1 written)) refl refl refl h,
          )

      -- it is handed out
      pub named-taken : (lease : Lent) (v : KeyedMachine) → lease ≡ lent_as name v.machine 0 v → d.is_listed ≡ c.is_listed
          → ((t : Tree Member) → CellShows depot name (rests_in f.tree name) c t
          → (lives_at_home paged_machines paged_talks t ≡ true) × (paged v ≡ paged_of (machine t)) × IsOfDepot depot v.key × IsKin c.kin name
          × CellShows depot name (rests_in f.tree name) d (placed out t))
          → (is_at_home paged_machines paged_talks name f.tree ≡ true) × (lease.name ≡ name) × Starts f lease × IsLentOf depot lease
          × StandsFor depot (record w { cells = cells }) (does paged_machines paged_talks (took name) f)
      named-taken lease v is listed lent =
          let lends = lent named-shown.0 named-shown.2 in
          let here : get path_cmp cells name ≡ Some d = written-here w.cells cells name d written (some-is c (get path_cmp w.cells name) found) in
          let apart_from : (n : Path) → name ≢ n → get path_cmp cells n ≡ get path_cmp w.cells n
          = written-apart w.cells cells name d written (some-is c (get path_cmp w.cells name) found) in
          let starts : Starts f (lent_as name v.machine 0 v) = record {
            ran = refl;
            now = refl;
            start = subst (λ o. IfSome o (λ (t : Tree Member). (paged_of (machine t)) ≡ paged v)) (sym named-shown.1) (sym lends.1);
          } in (
            ap (holds (lives_at_home paged_machines paged_talks)) named-shown.1 ∙ lends.0,
            ap (λ (l : Lent). l.name) is,
            subst (Starts f) (sym is) starts,
            subst (IsLentOf depot) (sym is) lends.2,
            taken-as depot w (record w { cells = cells }) f name named-shown.0 h going named-shown.1
                (cells-taken depot w.cells cells f.tree named-shown.0 name named-shown.1 before-named (λ n other one. apart_from n other)
                (subst (λ o. Shows depot name (rests_in f.tree name) o (Some (placed out named-shown.0))) (sym here) lends.4)
                (λ n x none e.
                parent-awake (placed out) depot name n (rests_in f.tree n) f.tree named-shown.0 x (get path_cmp cells n) none e named-shown.1 named-shown.2.awake
                lends.4.awake (inbox-placed out named-shown.0)
                (away-noted (get path_cmp cells n) x named-shown.0 (placed out named-shown.0) (out-not-parked named-shown.0))
                (subst (λ o. Shows depot n (rests_in f.tree n) o (subtree n f.tree)) (sym (apart_from n (apart-outside name n none))) (before-named.shows n))))
                (λ n other. ap is_some (apart_from n (λ same. other (sym same))))
                (λ n. elim (same-or-apart name n) [
                  | inl same ↦
                      subst (λ p. is_listed_in (get path_cmp cells p) ≡ is_listed_in (get path_cmp w.cells p)) (sym same)
                      (ap is_listed_in here ∙ listed ∙ ap is_listed_in found)
                  | inr other ↦ ap is_listed_in (apart_from n other)
                ])
                refl refl refl,
          )

  -- no machine of that name is awake
  module _ (none : None ≡ get path_cmp w.cells name) where
    pub root-cell : name ≡ [] → ⊥
    unfolding subtree
    root-cell root =
        never-both f.tree before-named.root
        (subst (λ c. Shows depot [] (rests_in f.tree []) c (Some f.tree)) (ap (get path_cmp w.cells) (sym root) ∙ sym none) (before-named.shows []))

    module _ (parent : Path) (ticket index : ℕ) (named : name ≡ child_path parent ticket index) where
      pub no_cell-home : sleeps parent ticket index f.tree ≡ false → is_at_home paged_machines paged_talks name f.tree ≡ false
      no_cell-home awake =
          by (subtree name f.tree) (subst (λ c. Shows depot name (rests_in f.tree name) c (subtree name f.tree)) (sym none) (before-named.shows name))
          (ap (λ n. wakes (subtree n f.tree)) named
          ∙ sym (wakes-any (rests_in f.tree (child_path parent ticket index)) (subtree (child_path parent ticket index) f.tree)) ∙ awake)
        where
          by : (u : Option (Tree Member)) → Shows depot name (rests_in f.tree name) None u → wakes u ≡ false → holds (lives_at_home paged_machines paged_talks) u ≡ false
          by None shown awake = refl
          by (Some a) (inl ended) awake = dead-not (has_ended forest a) (is_at_home_at (machine a).machine.place) ended.0
          by (Some a) (inr there) awake = asleep-dead (has_ended forest a) false (machine a).machine.place there awake

      -- it is not the first from itself on
      -- it wakes
      pub named-woken : (v : World) (lease : Lent) → sleeps parent ticket index f.tree ≡ true → lease.name ≡ child_path parent ticket index → lease.ran ≡ 0
          → lease.now ≡ lease.start → IsLentOf depot lease → IfSome (subtree lease.name f.tree) (λ a. (paged_of (machine a)) ≡ now_of lease)
          → ShowsCells depot v.cells (at_path (placed out) (child_path parent ticket index) f.tree)
          → ((n : Path) → is_listed_in (get path_cmp v.cells n) ≡ is_listed_in (get path_cmp w.cells n))
          → ((n : Path) → n ≢ child_path parent ticket index → is_some (get path_cmp v.cells n) ≡ is_some (get path_cmp w.cells n))
          → v.ready ≡ w.ready → v.halted ≡ w.halted → v.outcome ≡ w.outcome
          → (is_at_home paged_machines paged_talks name f.tree ≡ true) × (lease.name ≡ name) × Starts f lease × IsLentOf depot lease × StandsFor depot v (does paged_machines paged_talks (took name) f)
      named-woken v lease sleeping named_so ran now of_depot start cells listed others ready halted outcome =
          let waking = sym (wakes-any (rests_in f.tree (child_path parent ticket index)) (subtree (child_path parent ticket index) f.tree)) ∙ sleeping in
          let there = wakes-there (subtree (child_path parent ticket index) f.tree) waking in
          let at : subtree name f.tree ≡ Some there.0 = ap (λ n. subtree n f.tree) named ∙ there.1 in
          let parts = wakes-is there.0 (ap wakes (sym there.1) ∙ waking) in (
            ap (holds (lives_at_home paged_machines paged_talks)) at ∙ asleep-home (has_ended forest there.0) (machine there.0).machine.place parts.0 parts.1,
            named_so ∙ sym named,
            record { ran = ran; now = now; start = start },
            of_depot,
            taken-as depot w v f name there.0 h going at (subst (λ n. ShowsCells depot v.cells (at_path (placed out) n f.tree)) (sym named) cells)
                (λ n other. others n (λ same. other (same ∙ sym named))) listed ready halted outcome,
          )
