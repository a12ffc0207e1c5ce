-- A machine that stays on lease, as if it had come home and had been taken again at once.
use Rattle.std.proofs.Common.{◌≡◌, Bool, true, false, ◌⊎◌, inl, inr, refl, sym, ap, ◌∙◌, subst, Option, Some, None, IsSome, is_some, MatchBool, option_map}
use Rattle.std.specs.Option.{IfSome, IsSomeAnd}
use Rattle.std.specs.BTreeMap.{get}
use Rattle.fork_port.specs.declared.ending.Ending.{Ending}
use Rattle.image_depot.specs.Key.{Shelves}
use Rattle.forest_tree.specs.Tree.{Tree, node, machine, Path, subtree, at_path}
use Rattle.forest_tree.specs.Step.{has_ended, settled_by}
use Rattle.sibling_forest.specs.Talk.{boxed}
use Rattle.talking_history.specs.Places.{home, out, Spot, spots, placed}
use Rattle.talking_history.specs.World.{is_asleep_at, is_ready_at, holds, lives_ready}
use Rattle.forest_tree.proofs.Changes.{at_path-here, at_path-twice}
use Rattle.talking_history.specs.Rows.{How, took, does}
use Rattle.talking_history.proofs.Spots.{machine-placed}
use Rattle.forest_model.specs.Forest.{machines}
use Rattle.forest_model.specs.Paged.{Paged, paged_machines, paged_talks}
use Rattle.machine_names.specs.NameOrder.{path_cmp}
use Rattle.vm_cell.specs.Keyed.{KeyedMachine, IsOfDepot, paged}
use Rattle.world_core.specs.declared.cell.Cell.{Cell}
use Rattle.world_core.specs.declared.cell.State.{State}
use Rattle.world_core.specs.declared.cell.State.TheVariants.{Home, Parked as Waiting, Out}
use Rattle.world_core.specs.declared.reason.Reason.{Reason}
use Rattle.world_core.specs.declared.world.Placed.{Placed}
use Rattle.world_core.specs.declared.world.Placed.TheVariants.{Done, Parked, Dropped, Memory}
use Rattle.world_core.specs.declared.world.Talked.TheVariants as on
use Rattle.world_core.specs.declared.world.talks.AfterTalk.TheVariants as talk_was
use Rattle.world_core.specs.declared.world.World.{World}
use Rattle.world_core.specs.Answers.{Goes, IsHomeOnlyThen, MayNotGoOn, Starts, StaysOnLease, after_spent}
use Rattle.world_core.specs.Between.{IsBetween, IsHeardAs, settled_tree, with_tree}
use Rattle.world_core.specs.Lent.{Lent, lent_as}
use Rattle.world_core.specs.Shows.{Member, paged_of, forest, HoldsAfter, IsAwake, IsKinIn, IsStateOf, Shows, StateShows, is_out_cell, is_out_state}
use Rattle.world_core.specs.Spoken.{IsOwnTurn, IsPlacedAs}
use Rattle.world_core.specs.World.{Forest, IsForest, StandsFor, is_ready_in, rests_in}
use Rattle.world_core.proofs.AtPlaces.{holds-placed, lives-placed}
use Rattle.world_core.proofs.Calling.{lives-by, settled-lives}
use Rattle.world_core.proofs.Resting.{placed-rests, put-forest}
use Rattle.world_core.proofs.Returns.{away-noted, below-placed, between-stands, heard-alive, root-awake, there-is}
use Rattle.world_core.proofs.SlotPlaces.{both, inbox-placed, out-not-parked}
use Rattle.world_core.proofs.TakenOut.{allows-took, never-ready}

-- ---- the cell of a machine that is out still

out-state : (state : State) → is_out_state state ≡ true → state ≡ Out
out-state (Home vm) is = absurd (cc)
out-state (Waiting awaited vm turn) is = absurd (cc)
out-state Out is = refl

out-stands : (depot : Shelves) (w : World) (f : Forest) (name : Path) (a : Tree Member) → IsBetween depot w f name a → has_ended forest a ≡ false
    → IsForest (with_tree name (placed out a) f).tree → is_out_cell (get path_cmp w.cells name) ≡ true → StandsFor depot w (with_tree name (placed out a) f)
out-stands depot w f name a between lives whole is_out =
    let found = there-is (get path_cmp w.cells name) (λ (cell : Cell). HoldsAfter depot name cell a) between.cell in
    let c : Cell = found.0 in
    let here : c.state ≡ Out = out-state c.state (sym (ap is_out_cell found.1) ∙ is_out) in
    let resting : Bool = rests_in (with_tree name (placed out a) f).tree name in
    let away : (machine (placed out a)).machine.place ≡ out = ap (λ (s : Spot Paged). s.place) (machine-placed out a) in
    let after : IsAwake (placed out a) = record { lives = lives-placed out a ∙ lives; awake = ap is_asleep_at away } in
    between-stands depot w w f name a (placed out a) between (λ q other. refl) (λ n listed. listed) (λ n covered. covered)
    (below-placed out a) (placed-rests out a) whole after refl refl (λ u at. (
      λ n x e. away-noted (get path_cmp w.cells n) x u (placed out a) (out-not-parked a),
      inbox-placed out a ∙ heard-alive a u (subst (λ o. IsSomeAnd o (IsHeardAs a)) at between.heard) lives,
    ))
    (subst (λ o. Shows depot name resting o (Some (placed out a))) (sym found.1) (record {
      awake = after;
      kin = subst (λ s. IsKinIn s c.kin name) (sym here) tt;
      state = subst (λ s. StateShows name s (machine (placed out a)) resting) (sym here) away;
      of_depot = subst (IsStateOf depot) (sym here) tt;
      holds = holds-placed depot name c c.kin c.state c.is_listed out a (found.2.1 lives);
    }))
    (λ ready. absurd (never-ready resting a ready))
    (between.listed name)

-- ---- it came home, and was taken

placed-twice : (t : Tree Member) → placed out (placed home t) ≡ placed out t
placed-twice (node b broods log) = refl

module _ (depot : Shelves) (w : World) (f : Forest) (lease : Lent) (how : How) (name : Path) (vm : KeyedMachine) (p : IsPlacedAs depot w f lease name how vm)
    (going : w.halted ≡ None) (lives : None ≡ vm.machine.ending) where
  settled : p.tree ≡ settled_tree p.tree
  settled = settled-lives p.tree (paged vm) p.is lives

  -- the forest once it is home
  abbrev then : Forest
  then = with_tree name (placed home p.tree) p.between_in

  then-is : after_spent f how lease ≡ then
  then-is = p.comes ∙ ap (λ t. with_tree name (placed home t) p.between_in) (sym settled)

  lives-still : has_ended forest p.tree ≡ false
  lives-still = lives-by p.tree (paged vm) p.is lives

  awake : IsAwake (placed home p.tree)
  awake = record {
    lives = lives-placed home p.tree ∙ lives-still;
    awake = ap (λ (s : Spot Paged). is_asleep_at s.place) (machine-placed home p.tree);
  }

  there : subtree name then.tree ≡ Some (placed home p.tree)
  there =
      let was = there-is (subtree name p.between_in.tree) IsAwake p.between.there in
      at_path-here (λ t. placed home p.tree) name p.between_in.tree ∙ ap (option_map (λ t. placed home p.tree)) was.1

  is-ready : is_ready_in (rests_in then.tree) name then.tree ≡ true
  is-ready =
      ap (holds (lives_ready paged_machines paged_talks (rests_in then.tree name))) there
      ∙ both (has_ended forest (placed home p.tree)) (is_ready_at (machine (placed home p.tree)).machine.place (rests_in then.tree name)) awake.lives
      (ap (λ (s : Spot Paged). is_ready_at s.place (rests_in then.tree name)) (machine-placed home p.tree))

  -- and out again
  away-is : (with_tree name (placed out p.tree) p.between_in).tree ≡ at_path (placed out) name then.tree
  away-is =
      sym (at_path-twice (λ t. placed home p.tree) (placed out) name p.between_in.tree ∙ ap (λ b. at_path (λ t. b) name p.between_in.tree) (placed-twice p.tree))

  away-whole : IsForest (with_tree name (placed out p.tree) p.between_in).tree
  away-whole =
      subst IsForest (sym away-is)
      (put-forest out name then.tree (subst (λ t. IsForest (with_tree name (placed home t) p.between_in).tree) (sym settled) p.whole))

  taken-again : Goes depot then (took name) w
  unfolding does
  taken-again = record {
    allowed = allows-took then name (root-awake name p.between_in.tree (placed home p.tree) p.between.root awake).lives (sym p.between.halted ∙ going) is-ready;
    after = subst (λ t. StandsFor depot w (record p.between_in { tree = t })) away-is
        (out-stands depot w p.between_in name p.tree p.between lives-still away-whole p.is_out);
  }

  pub stays : (again : Lent) → again ≡ lent_as name vm.machine 0 vm → name ≡ lease.name → IsOfDepot depot vm.key → StaysOnLease depot f how lease again w
  stays again is named of_depot = subst (λ (l : Lent). StaysOnLease depot f how lease l w) (sym is) (record {
    allowed = p.allowed;
    same = named;
    taken_again = subst (λ n. Goes depot (after_spent f how lease) (took n) w) named (subst (λ (g : Forest). Goes depot g (took name) w) (sym then-is) taken-again);
    starts = subst (λ (g : Forest). Starts g (lent_as name vm.machine 0 vm)) (sym then-is) (record {
      ran = refl;
      now = refl;
      start = subst (λ o. IfSome o (λ (t : Tree Member). paged_of (machine t) ≡ paged vm)) (sym there)
          (ap (λ (s : Spot Paged). s.machine) (machine-placed home p.tree) ∙ p.is);
    });
    of_depot = of_depot;
  })

-- ---- whether it goes on

ended-settled : (t : Tree Member) → has_ended forest (settled_tree t) ≡ has_ended forest t
unfolding boxed spots paged_machines machines
ended-settled (node s broods log) = by (forest.ending s) refl
  where
    by : (e : Option Ending) → forest.ending s ≡ e → has_ended forest (settled_by forest e s broods log) ≡ has_ended forest (node s broods log)
    by None is = refl
    by (Some ending) is = refl

over-by : (t : Tree Member) (v : KeyedMachine) → paged_of (machine t) ≡ paged v → IsSome v.machine.ending → has_ended forest t ≡ true
unfolding boxed spots paged_machines machines
over-by (node s broods log) v is ended = ap (λ (m : Paged). is_some m.machine.ending) is ∙ ended

pub may-not-go-on : (depot : Shelves) (w : World) (f : Forest) (lease : Lent) (how : How) (name : Path) (vm asked : KeyedMachine) → IsPlacedAs depot w f lease name how vm
    → name ≡ lease.name → asked ≡ vm → (P : Type 0) (is : Bool) → is ≡ false → MatchBool is P (IsSome w.halted ⊎ IsSome asked.machine.ending) → MayNotGoOn f how lease
unfolding does
may-not-go-on depot w f lease how name vm asked p named same P true none h = absurd (cc)
may-not-go-on depot w f lease how name vm asked p named same P false none (inl stopped) =
    inl (subst IsSome (p.between.halted ∙ sym (ap (λ (g : Forest). g.halted) p.comes)) stopped)
may-not-go-on depot w f lease how name vm asked p named same P false none (inr over) =
    let was = there-is (subtree name p.between_in.tree) IsAwake p.between.there in
    inr (ap (λ n. holds (has_ended forest) (subtree n (after_spent f how lease).tree)) (sym named)
    ∙ ap (λ (g : Forest). holds (has_ended forest) (subtree name g.tree)) p.comes
    ∙ ap (holds (has_ended forest))
    (at_path-here (λ t. placed home (settled_tree p.tree)) name p.between_in.tree ∙ ap (option_map (λ t. placed home (settled_tree p.tree))) was.1)
    ∙ lives-placed home (settled_tree p.tree) ∙ ended-settled p.tree ∙ over-by p.tree vm p.is (subst (λ (k : KeyedMachine). IsSome k.machine.ending) same over))

-- no other answer is home
pub home-only : (f : Forest) (how : How) (lease : Lent) (answer : Placed) → IsOwnTurn lease (talk_was.Placed answer) → IsHomeOnlyThen f how lease (on.Placed answer)
home-only f how lease Done own = absurd own
home-only f how lease Parked own = tt
home-only f how lease Dropped own = tt
home-only f how lease (Memory back) own = tt

pub goes-by : (P : Type 0) (is : Bool) (halted : Option Reason) (asked v : KeyedMachine) → asked ≡ v → is ≡ true
    → MatchBool is ((halted ≡ None) × (asked.machine.ending ≡ None)) P → (halted ≡ None) × (None ≡ v.machine.ending)
goes-by P true halted asked v same goes h = (h.0, sym h.1 ∙ ap (λ (k : KeyedMachine). k.machine.ending) same)
goes-by P false halted asked v same goes h = absurd (cc)
