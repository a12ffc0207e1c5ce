-- A cell whose machine is at another place.
use Rattle.std.proofs.Common.{◌≡◌, Option, Some, None, MatchOption, ◌⊎◌, inl, inr, ◌&&◌, not, Bool, true, false, refl, sym, ap, ◌∙◌, subst}
use Rattle.image_depot.specs.Key.{Shelves}
use Rattle.forest_tree.specs.Tree.{Tree, node, machine, Path}
use Rattle.forest_tree.specs.Step.{has_ended}
use Rattle.talking_history.specs.Places.{Place, asleep, home, out, parked, Spot, placed}
use Rattle.talking_history.specs.World.{is_ready_at, is_at_home_at, is_asleep_at, lives_ready, lives_at_home}
use Rattle.talking_history.proofs.Spots.{machine-placed}
use Rattle.forest_model.specs.Paged.{Paged, paged_machines, paged_talks}
use Rattle.std.specs.declared.alloc.Global.{Global}
use Rattle.std.specs.declared.boxed.Box.{Box}
use Rattle.world_core.specs.declared.cell.Awaited.{Awaited}
use Rattle.world_core.specs.declared.cell.Cell.{Cell}
use Rattle.world_core.specs.declared.cell.State.{State}
use Rattle.world_core.specs.declared.cell.State.TheVariants.{Home, Parked, Out}
use Rattle.ready_queue.specs.Ready.{Ready}
use Rattle.vm_cell.specs.Keyed.{KeyedMachine, IsOfDepot, paged}
use Rattle.world_core.specs.Kin.{IsKin}
use Rattle.world_core.specs.Shows.{Member, paged_of, forest, IsAwake, IsKinIn, StateShows, IsStateOf, CellShows}
use Rattle.world_core.proofs.AtPlaces.{holds-placed, lives-placed}

pub awake-placed : (place : Place) → is_asleep_at place ≡ false → (t : Tree Member) → has_ended forest t ≡ false → IsAwake (placed place t)
awake-placed place awake t lives = record { lives = lives-placed place t ∙ lives; awake = ap is_asleep_at (place-of place t) ∙ awake }
  where
    place-of : (place : Place) (t : Tree Member) → (machine (placed place t)).machine.place ≡ place
    place-of place t = ap (λ (s : Spot Paged). s.place) (machine-placed place t)

-- the machine is on lease from now on
pub out-shows : (depot : Shelves) (path : Path) (resting after : Bool) (c : Cell) (kin : Option Path) (t : Tree Member) → CellShows depot path resting c t
    → CellShows depot path after (record c { kin = kin; state = Out }) (placed out t)
out-shows depot path resting after c kin t h = record {
  awake = awake-placed out refl t h.awake.lives;
  kin = tt;
  state = ap (λ (s : Spot Paged). s.place) (machine-placed out t);
  of_depot = tt;
  holds = holds-placed depot path c kin Out c.is_listed out t h.holds;
}

-- a machine that lives
pub both : (ended ready : Bool) → ended ≡ false → ready ≡ true → not ended && ready ≡ true
both true ready lives h = absurd (cc)
both false ready lives h = h

neither : (ended ready : Bool) → ready ≡ false → not ended && ready ≡ false
neither true ready h = refl
neither false ready h = h

-- where a cell's machine is at home
pub ready-home : (place : Place) (resting : Bool) → (place ≡ home) ⊎ ((place ≡ parked) × (resting ≡ false)) → is_ready_at place resting ≡ true
ready-home place resting (inl at_home) = ap (λ p. is_ready_at p resting) at_home
ready-home place resting (inr is_parked) = ap (λ p. is_ready_at p resting) is_parked.0 ∙ ap not is_parked.1

pub home-ready : (depot : Shelves) (path : Path) (resting : Bool) (c : Cell) (vm : Box KeyedMachine Global) (t : Tree Member) → c.state ≡ Home vm
    → CellShows depot path resting c t
    → (paged vm.value ≡ paged_of (machine t)) × (lives_ready paged_machines paged_talks resting t ≡ true) × IsKin c.kin path
home-ready depot path resting c vm t at_home h =
    let shown : StateShows path (Home vm) (machine t) resting = subst (λ s. StateShows path s (machine t) resting) at_home h.state in (
      shown.0,
      both (has_ended forest t) (is_ready_at (machine t).machine.place resting) h.awake.lives (ready-home (machine t).machine.place resting shown.1),
      subst (λ s. IsKinIn s c.kin path) at_home h.kin,
    )

-- a machine that is handed out is as it was
pub lends-home : (depot : Shelves) (path : Path) (resting : Bool) (c : Cell) (back : Box KeyedMachine Global) (new : State) (t : Tree Member) → Home back ≡ c.state
    → new ≡ Out → CellShows depot path resting c t
    → (lives_ready paged_machines paged_talks resting t ≡ true) × (paged back.value ≡ paged_of (machine t)) × IsOfDepot depot back.value.key
    × IsKin c.kin path × CellShows depot path resting (record c { state = new }) (placed out t)
lends-home depot path resting c back new t same after h =
    let ready = home-ready depot path resting c back t (sym same) h in (
      ready.1,
      ready.0,
      subst (IsStateOf depot) (sym same) h.of_depot,
      ready.2,
      subst (λ s. CellShows depot path resting (record c { state = s }) (placed out t)) (sym after)
          (out-shows depot path resting resting c c.kin t h),
    )

pub lends-parked : (depot : Shelves) (path : Path) (resting : Bool) (c : Cell) (awaited : Awaited) (back : Box KeyedMachine Global) (turn : Ready) (new : State)
    (t : Tree Member) → Parked awaited back turn ≡ c.state → new ≡ Out → CellShows depot path resting c t
    → (lives_at_home paged_machines paged_talks t ≡ true) × (paged back.value ≡ paged_of (machine t)) × IsOfDepot depot back.value.key
    × IsKin c.kin path × CellShows depot path resting (record c { state = new }) (placed out t)
lends-parked depot path resting c awaited back turn new t same after h =
    let shown : StateShows path (Parked awaited back turn) (machine t) resting = subst (λ s. StateShows path s (machine t) resting) (sym same) h.state in (
      both (has_ended forest t) (is_at_home_at (machine t).machine.place) h.awake.lives (ap is_at_home_at shown.1),
      shown.0,
      subst (IsStateOf depot) (sym same) h.of_depot,
      subst (λ s. IsKinIn s c.kin path) (sym same) h.kin,
      subst (λ s. CellShows depot path resting (record c { state = s }) (placed out t)) (sym after)
          (out-shows depot path resting resting c c.kin t h),
    )

-- a machine that is not handed out as one that is ready, nor as one that waits, is not at home
at-home-by : (path : Path) (resting : Bool) (c : Cell) (state : State) (t : Tree Member)
    → ((awaited : Awaited) (vm : Box KeyedMachine Global) (turn : Ready) → state ≡ Parked awaited vm turn → ⊥)
    → has_ended forest t ≡ false → StateShows path state (machine t) resting → lives_ready paged_machines paged_talks resting t ≡ false
    → lives_at_home paged_machines paged_talks t ≡ false
at-home-by path resting c (Home vm) t apart lives shown ready =
    let is : true ≡ false = sym (both (has_ended forest t) (is_ready_at (machine t).machine.place resting) lives (ready-home (machine t).machine.place resting shown.1)) ∙ ready in
    absurd (cc)
at-home-by path resting c (Parked awaited vm turn) t apart lives shown ready = absurd (apart awaited vm turn refl)
at-home-by path resting c Out t apart lives shown ready =
    neither (has_ended forest t) (is_at_home_at (machine t).machine.place) (ap is_at_home_at shown)

pub home-where-ready : (ended resting : Bool) (place : Place) → not ended && is_ready_at place resting ≡ true → not ended && is_at_home_at place ≡ true
home-where-ready true resting place h = absurd (cc)
home-where-ready false resting asleep h = refl
home-where-ready false resting home h = refl
home-where-ready false resting out h = absurd (cc)
home-where-ready false resting parked h = refl

pub lends-other : (depot : Shelves) (path : Path) (resting : Bool) (c new : Cell) (r : Option (Box KeyedMachine Global)) (t : Tree Member)
    → ((awaited : Awaited) (vm : Box KeyedMachine Global) (turn : Ready) → c.state ≡ Parked awaited vm turn → ⊥) → CellShows depot path resting c t
    → MatchOption r ((lives_ready paged_machines paged_talks resting t ≡ false) × (new ≡ c))
    (λ vm. (lives_ready paged_machines paged_talks resting t ≡ true) × (paged vm.value ≡ paged_of (machine t)) × IsOfDepot depot vm.value.key
    × IsKin c.kin path × CellShows depot path resting new (placed out t))
    → MatchOption r ((lives_at_home paged_machines paged_talks t ≡ false) × (new ≡ c))
    (λ vm. (lives_at_home paged_machines paged_talks t ≡ true) × (paged vm.value ≡ paged_of (machine t)) × IsOfDepot depot vm.value.key
    × IsKin c.kin path × CellShows depot path resting new (placed out t))
lends-other depot path resting c new None t apart h lent = (at-home-by path resting c c.state t apart h.awake.lives h.state lent.0, lent.1)
lends-other depot path resting c new (Some vm) t apart h lent =
    (home-where-ready (has_ended forest t) resting (machine t).machine.place lent.0, lent.1, lent.2, lent.3, lent.4)

is_parked_at : Place → Bool
is_parked_at asleep = false
is_parked_at home = false
is_parked_at out = false
is_parked_at parked = true

pub not-parked : (place : Place) → place ≡ home → place ≡ parked → ⊥
unfolding is_parked_at
not-parked place at_home is_parked = let no : is_parked_at home ≡ is_parked_at parked = ap is_parked_at (sym at_home ∙ is_parked) in cc

pub inbox-placed : (place : Place) (a : Tree Member) → (machine (placed place a)).inbox ≡ (machine a).inbox
inbox-placed place (node s broods log) = refl

pub out-not-parked : (a : Tree Member) → (machine (placed out a)).machine.place ≡ parked → ⊥
unfolding is_parked_at
out-not-parked (node b broods log) e = let no : is_parked_at out ≡ is_parked_at parked = ap is_parked_at e in cc
