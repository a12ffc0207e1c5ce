-- What a machine did in its turn.
use Rattle.std.proofs.Common.{◌≡◌, ◌≢◌, ℕ, ◌+◌, ◌-◌, ◌<◌, ◌≤◌, ◌⊎◌, ◌&&◌, ◌||◌, not, inl, inr, Bool, true, false, refl, sym, ap, ◌∙◌, subst}
use Rattle.std.proofs.Common.{arith, replicate, Option, Some, None, IsSome, IfSome, MatchOption, is_some, Ok}
use Rattle.std.proofs.lemmas.Bool.{cases_lt}
use Rattle.image_depot.specs.Key.{Shelves}
use Rattle.fork_port.specs.declared.ending.Ending.{Ending}
use Rattle.forest_tree.specs.Tree.{Tree, machine, subtree}
use Rattle.sibling_forest.specs.Settle.{rests_at}
use Rattle.talking_history.specs.World.{holds, is_at_home}
use Rattle.talking_history.specs.Rows.{took, does}
use Rattle.forest_model.specs.Machine.{next}
use Rattle.forest_model.specs.Forest.{machines}
use Rattle.forest_model.specs.Paged.{Paged, advanced_by, paged_machines, paged_talks, stalled_at}
use Rattle.forest_model.proofs.Paged.{advanced_by-add}
use Rattle.vm_cell.specs.Keyed.{KeyedMachine, IsOfDepot, paged}
use Rattle.vm_cell.specs.Standing.{asked_call, asked_talk, standing_by, standing_from, standing_call, standing_talk, talk_by, talk_from}
use Rattle.vm_cell.specs.Steps.{IsFreeFor, Stands, moved_by}
use Rattle.vm_cell.specs.declared.vm.Stepped.{Stepped}
use Rattle.vm_cell.specs.declared.vm.Stepped.TheVariants as stepped
use Rattle.world_core.specs.declared.world.World.{World}
use Rattle.world_core.specs.Lent.{Lent, IsSameLease, vm_of, now_of}
use Rattle.world_core.specs.Shows.{Member, paged_of}
use Rattle.world_core.specs.World.{StandsFor}
use Rattle.world_core.specs.Answers.{stands_waiting_of}
use Rattle.drive_script.specs.declared.answer.Why.{Why}
use Rattle.drive_script.specs.declared.turn.TurnOutcome.TheVariants.{Stopped, Called}
use Rattle.drive_script.specs.Driven.{HasMachines, HasMade}
use Rattle.drive_script.specs.Steps.{Family, stall_told, stalls_at, stops, why_at, with_machine}
use Rattle.drive_script.specs.Told.{made_at}
use Rattle.drive_script.specs.Turned.{HasBack, HasRun, HasLent, HasStopped, Lives, MayGo, RanFrom, EndsTurn, is_asking, standing}
use Rattle.drive_script.proofs.Lent.{asks, lent-live, lent-lives, lent-waits, now-machine, stands-here, stands-tree, own-tree, taken}
use Rattle.drive_script.proofs.Runs.{ended-rests}
use Rattle.drive_script.proofs.Steps.{first-made, made-stops}

-- ---- a lease that ran on

ran-more : (lease later : Lent) (steps : ℕ) (p : Paged) → later.start ≡ lease.start → later.ran ≡ lease.ran + steps
    → vm_of later ≡ moved_by steps (vm_of lease) → IsFreeFor steps (vm_of lease) → RanFrom lease p → RanFrom later p
ran-more lease later steps p start ran now free h = record {
  start = h.start ∙ sym start;
  now = ap (λ n. advanced_by n p) ran ∙ advanced_by-add lease.ran steps p ∙ ap (advanced_by steps) h.now ∙ sym (ap paged now);
  here = λ k below. elim (cases_lt k lease.ran) [
    | inl early ↦ h.here k early
    | inr late ↦
        let j = k - lease.ran in
        let at : k ≡ lease.ran + j = omega (arith, late) in
        ap (λ n. stalled_at (advanced_by n p)) at ∙ ap stalled_at (advanced_by-add lease.ran j p ∙ ap (advanced_by j) h.now)
        ∙ (free j (omega (arith, at, below, ran))).here
  ];
}

ran-more-by : (lease later : Lent) (steps : ℕ) (tree : Option (Tree Member)) → later.start ≡ lease.start → later.ran ≡ lease.ran + steps
    → vm_of later ≡ moved_by steps (vm_of lease) → IsFreeFor steps (vm_of lease)
    → IfSome tree (λ a. RanFrom lease (paged_of (machine a))) → IfSome tree (λ a. RanFrom later (paged_of (machine a)))
ran-more-by lease later steps None start ran now free h = tt
ran-more-by lease later steps (Some a) start ran now free h = ran-more lease later steps (paged_of (machine a)) start ran now free h

pub lent-ran : (depot : Shelves) (w : World) (t : Family) (lease later : Lent) (steps : ℕ) → IsSameLease lease later
    → later.ran ≡ lease.ran + steps → vm_of later ≡ moved_by steps (vm_of lease) → IsFreeFor steps (vm_of lease) → HasLent depot w t lease → HasLent depot w t later
lent-ran depot w t lease later steps same ran now free h = record {
  forest = h.forest;
  sound = h.sound;
  whole = h.whole;
  same = h.same;
  lives = ap (λ n. is_at_home paged_machines paged_talks n h.forest.tree) same.name ∙ h.lives;
  begins = ran-more-by lease later steps (subtree later.name h.forest.tree) same.start ran now free
      (subst (λ n. IfSome (subtree n h.forest.tree) (λ a. RanFrom lease (paged_of (machine a)))) (sym same.name) h.begins);
  of_depot = subst (IsOfDepot depot) (sym same.key) h.of_depot;
  stands = subst (λ n. StandsFor depot w (does paged_machines paged_talks (took n) h.forest)) (sym same.name) h.stands;
}

pub lent-failed : (depot : Shelves) (w : World) (t : Family) (lease later : Lent) → IsSameLease lease later
    → lease.ran ≤ later.ran → vm_of later ≡ moved_by (later.ran - lease.ran) (vm_of lease) → IsFreeFor (later.ran - lease.ran) (vm_of lease)
    → HasLent depot w t lease → HasLent depot w t later
lent-failed depot w t lease later same more now free h = lent-ran depot w t lease later (later.ran - lease.ran) same (omega (arith, more)) now free h

-- ---- where a machine stops

last-true : (b : Bool) → b || true ≡ true
last-true true = refl
last-true false = refl

-- a run that made fewer steps than it might stops at a call or a talk, at a page, or ended
stands-stopped : (v : KeyedMachine) (reason : Stepped) → reason ≢ stepped.Went → Stands v reason → is_asking v ≡ false
    → (is_some v.machine.ending ≡ true) ⊎ (is_some (stalled_at (paged v)) ≡ true)
unfolding standing_call standing_talk
stands-stopped v stepped.Went enough h none = absurd (enough refl)
stands-stopped v (stepped.Stall page) enough h none = inr (ap is_some h.1)
stands-stopped v (stepped.Call c) enough h none =
    let call : standing_by (stalled_at (paged v)) v.machine.ending (next v.machine) ≡ Some c =
    ap (λ waited. standing_by waited v.machine.ending (next v.machine)) h.1 ∙ ap (λ ending. standing_from ending (next v.machine)) h.0 ∙ ap asked_call h.2 in
    let no : true ≡ false = sym (ap (λ o. is_some o || is_some (standing_talk v)) call) ∙ none in
    absurd (cc)
stands-stopped v (stepped.Talk t) enough h none =
    let talk : talk_by (stalled_at (paged v)) v.machine.ending (next v.machine) ≡ Some t =
    ap (λ waited. talk_by waited v.machine.ending (next v.machine)) h.1 ∙ ap (λ ending. talk_from ending (next v.machine)) h.0 ∙ ap asked_talk h.2 in
    let no : true ≡ false = sym (ap (λ o. is_some (standing_call v) || is_some o) talk ∙ last-true (is_some (standing_call v))) ∙ none in
    absurd (cc)
stands-stopped v (stepped.Ended ending) enough h none = inl (ap is_some h)

-- ---- the turn

either-stops : (rests stalled : Bool) → (rests ≡ true) ⊎ (stalled ≡ true) → rests || stalled ≡ true
either-stops true stalled h = refl
either-stops false true h = refl
either-stops false false (inl h) = absurd (cc)
either-stops false false (inr h) = absurd (cc)

waits-on : (ending : Option Ending) (rests : Bool) → true ≡ not (is_some ending) && rests → rests ≡ true
waits-on None rests h = sym h
waits-on (Some ending) rests h = absurd (cc)

goes-on : (ending : Option Ending) (rests : Bool) → ending ≡ None → false ≡ not (is_some ending) && rests → rests ≡ false
goes-on None rests lives h = sym h
goes-on (Some ending) rests lives h = absurd (cc)

module _ (depot : Shelves) (w : World) (t : Family) (lease : Lent) (h : HasLent depot w t lease) where
  lent-there : Lives lease.name t
  lent-there = subst IsSome (sym (lent-live depot w t lease h)) refl

  abbrev pub Waits : Bool → Type 0
  Waits waits = MatchOption (subtree lease.name (taken depot w t lease h).tree) (waits ≡ false)
      (λ a. waits ≡ stands_waiting_of (vm_of lease) lease.name (taken depot w t lease h).tree)

  -- it makes its call or its talk
  pub may-call : is_asking (vm_of lease) ≡ true → Waits false → MayGo t lease
  may-call some waits_not =
      let asking = asks (vm_of lease) some in
      goes-on lease.now.ending (rests_at paged_machines paged_talks lease.name (standing lease t)) (lent-lives (vm_of lease) asking)
      (lent-waits depot w t lease h (stands-here (vm_of lease) asking) false waits_not)

  pub turn-called : (most steps : ℕ) (new : World) → lease.ran ≡ steps → steps < most → HasRun depot lease.name (lease.ran + 1) t new
      → EndsTurn depot lease.name most t (Ok (Called (steps + 1))) new
  turn-called most steps new ran below gone =
      (lent-there, omega arith, omega (arith, below), subst (λ n. HasRun depot lease.name (n + 1) t new) ran gone)

  -- it stops
  module _ (new : World) (back : HasBack depot new t lease) where
    -- for want of memory
    pub turn-failed : (most : ℕ) → lease.ran ≤ most → HasMade depot (replicate (made_at most lease.name t) lease.name) t new
    turn-failed most within = record {
      made = lease.ran;
      has = subst (HasMachines depot new) (first-made paged_machines paged_talks stalled_at lease.ran most lease.name t within back.made) back.has;
    }

    stopped-by : (most : ℕ) (reason : Why) → lease.ran ≤ most → why_at paged_machines paged_talks stall_told lease.name (standing lease t) ≡ Some reason
        → (lease.ran ≡ most) ⊎ (stops paged_machines paged_talks stalled_at lease.name (standing lease t) ≡ true) → HasStopped depot lease.name most t lease.ran reason new
    stopped-by most reason within is short = record {
      made = made-stops paged_machines paged_talks stalled_at lease.ran most lease.name t within back.made (elim short [
        | inl all ↦ inl all
        | inr rest ↦ inr (back.stops_so ∙ rest)
      ]);
      there = back.why_so ∙ is;
      has = back.has;
    }

    pub turn-stopped : (most steps : ℕ) (reason : Why) → lease.ran ≡ steps → steps ≤ most
        → why_at paged_machines paged_talks stall_told lease.name (standing lease t) ≡ Some reason
        → (steps ≡ most) ⊎ (stops paged_machines paged_talks stalled_at lease.name (standing lease t) ≡ true) → EndsTurn depot lease.name most t (Ok (Stopped steps reason)) new
    turn-stopped most steps reason ran within is short = (
      lent-there,
      subst (λ n. HasStopped depot lease.name most t n reason new) ran
          (stopped-by most reason (omega (arith, ran, within)) is
          (subst (λ n. (n ≡ most) ⊎ (stops paged_machines paged_talks stalled_at lease.name (standing lease t) ≡ true)) (sym ran) short)),
    )

  -- why it made no call and no talk
  pub stops-waiting : is_asking (vm_of lease) ≡ true → Waits true → stops paged_machines paged_talks stalled_at lease.name (standing lease t) ≡ true
  stops-waiting some waits_there =
      either-stops (rests_at paged_machines paged_talks lease.name (standing lease t)) (stalls_at paged_machines paged_talks stalled_at lease.name (standing lease t))
      (inl (waits-on lease.now.ending (rests_at paged_machines paged_talks lease.name (standing lease t))
      (lent-waits depot w t lease h (stands-here (vm_of lease) (asks (vm_of lease) some)) true waits_there)))

  pub stops-ended : (reason : Stepped) → reason ≢ stepped.Went → Stands (vm_of lease) reason → is_asking (vm_of lease) ≡ false
      → stops paged_machines paged_talks stalled_at lease.name (standing lease t) ≡ true
  unfolding paged_machines machines
  stops-ended reason enough stands none =
      either-stops (rests_at paged_machines paged_talks lease.name (standing lease t)) (stalls_at paged_machines paged_talks stalled_at lease.name (standing lease t))
      (elim (stands-stopped (vm_of lease) reason enough stands none) [
        | inl over ↦ inl (rests-over over)
        | inr waits_for ↦ inr (stalls-there waits_for)
      ])
    where
      stood : Family
      stood = with_machine (now_of lease) (own-tree depot w t lease h)

      rests-over : is_some lease.now.ending ≡ true → rests_at paged_machines paged_talks lease.name (standing lease t) ≡ true
      rests-over over =
          ended-rests paged_machines paged_talks lease.name (standing lease t) stood (stands-tree depot w t lease h)
          (ap (λ (p : Paged). is_some p.machine.ending) (now-machine (now_of lease) (own-tree depot w t lease h)) ∙ over)

      stalls-there : is_some (stalled_at (now_of lease)) ≡ true → stalls_at paged_machines paged_talks stalled_at lease.name (standing lease t) ≡ true
      stalls-there waits_for =
          ap (holds (λ (a : Family). is_some (stalled_at (machine a).machine))) (stands-tree depot w t lease h)
          ∙ ap (λ p. is_some (stalled_at p)) (now-machine (now_of lease) (own-tree depot w t lease h)) ∙ waits_for
