-- A machine whose hart has made no step, and one that has ended.
use Rattle.std.proofs.Common.{◌≡◌, ℕ, ◌+◌, Bool, true, false, cond, Option, Some, None, Ok, subst, sym, ap, ◌∙◌, is_some}
use Rattle.fork_port.specs.declared.ending.Ending.{Ending}
use Rattle.fork_port.specs.declared.ending.Ending.TheVariants.{Limit}
use Rattle.forest_model.specs.State.{State, at_next_instruction}
use Rattle.forest_model.specs.Execute.{action}
use Rattle.forest_model.specs.Machine.{Machine, next_of, advance}
use Rattle.forest_model.specs.Footprint.{no_change}
use Rattle.forest_model.specs.Touch.{change, footprint, footprint_from}
use Rattle.forest_model.specs.Paged.{pages_after, stalled_at}
use Rattle.forest_model.proofs.Finish.{advance-ended}
use Rattle.forest_model.proofs.Paged.{ended-stalls}
use Rattle.vm_hart.specs.Acts.{ActsNext}
use Rattle.vm_hart.specs.Requests.{asks_for, requested}
use Rattle.vm_hart.specs.declared.hart.Request.{Request}
use Rattle.vm_hart.specs.declared.hart.Request.TheVariants as request
use Rattle.vm_hart.specs.Keyed.{KeyedMachine, KeyedState, hart_in, machine_of, paged}
use Rattle.vm_hart.specs.declared.hart.Acted.TheVariants.{Stalled, Asked}
use Rattle.vm_hart.specs.Runs.{IsStep}
use Rattle.vm_hart.proofs.Acting.{asked-for}
use Rattle.vm_hart.proofs.Asks.{request-changes}
use Rattle.vm_hart.proofs.Stepping.{stalls_live}
use Rattle.vm_cell.specs.Parts.{stop_at}
use Rattle.vm_cell.specs.Steps.{GoesOn, Steps}
use Rattle.vm_cell.specs.declared.vm.Stepped.TheVariants as stepped
use Rattle.vm_cell.specs.declared.vm.Stop.{Stop}
use Rattle.vm_cell.specs.declared.vm.Stop.TheVariants as stop

module _ (v : KeyedMachine) (hart : KeyedState) (live : v.machine.ending ≡ None) where
  abbrev m : Machine
  m = v.machine

  -- it waits for a page
  pub goes_stalled : (page : ℕ) → ActsNext (hart_in v) hart (Ok (Stalled page)) → GoesOn v (machine_of hart m.steps m.limit m.ending) (Some (stop.Page page))
  goes_stalled page acts = (stalls_live v live ∙ acts.0, ap (λ h. machine_of h m.steps m.limit m.ending) acts.1)

  asked_goes : (r : Request) (s : State) (new : KeyedMachine) → stalled_at (paged v) ≡ None → action m.state ≡ asks_for r s → new ≡ v → GoesOn v new (Some (stop_at r))
  asked_goes (request.Call c) s new here is same = (here, ap next_of is, same)
  asked_goes (request.Talk t) s new here is same = (here, ap next_of is, same)

  -- it is to make a call or a talk, which changes nothing yet
  pub goes_asked : (r : Request) → ActsNext (hart_in v) hart (Ok (Asked r)) → GoesOn v (machine_of hart m.steps m.limit m.ending) (Some (stop_at r))
  goes_asked r acts =
      let by = acts.1 in
      let asks : requested (next_of (action m.state)) ≡ Some r = ap (λ a. requested (next_of a)) by.tells.0 ∙ asked-for r (at_next_instruction m.state) in
      let pages : hart.pages ≡ v.pages = by.changed.0 ∙ ap (λ c. pages_after c v.pages) (request-changes m.state r asks) in
      let same : hart ≡ hart_in v =
      ap (λ s. record { state = s; pages = hart.pages; key = hart.key }) by.tells.1
      ∙ ap (λ p. record { state = m.state; pages = p; key = hart.key }) pages
      ∙ ap (λ k. record { state = m.state; pages = v.pages; key = k }) by.changed.1 in
      asked_goes r (at_next_instruction m.state) _ (stalls_live v live ∙ acts.0) by.tells.0 (ap (λ h. machine_of h m.steps m.limit m.ending) same)

-- a step was made and counted, and ends the machine where it is the last
goes_counted : (old new : KeyedMachine) (is_last : Bool) → old.machine.ending ≡ None → new.machine.ending ≡ cond is_last (Some Limit) old.machine.ending → IsStep old new
    → GoesOn old new (cond is_last (Some stop.End) None)
goes_counted old new true live ends step = (step, λ none. absurd (cc))
goes_counted old new false live ends step = (step, ends ∙ live)

-- the same, of the machine as its call sees it
pub goes_told : (seen old new : KeyedMachine) (is_last : Bool) (told : Option Stop) → old ≡ seen → old.machine.ending ≡ None
    → new.machine.ending ≡ cond is_last (Some Limit) old.machine.ending → told ≡ cond is_last (Some stop.End) None → IsStep old new → GoesOn seen new told
goes_told seen old new is_last told is live ends stops step =
    subst (λ v. GoesOn v new told) is (subst (GoesOn old new) (sym stops) (goes_counted old new is_last live ends step))

-- a step was made that ends the machine
pub goes_ended : (seen old : KeyedMachine) (counted : KeyedState) (limit steps : ℕ) (ending : Option Ending) (by : Ending) → old ≡ seen → steps ≡ old.machine.steps + 1
    → ending ≡ Some by → IsStep old (machine_of counted (old.machine.steps + 1) limit (Some by)) → GoesOn seen (machine_of counted steps limit ending) (Some stop.End)
goes_ended seen old counted limit steps ending by is count ends step =
    subst (λ v. GoesOn v (machine_of counted steps limit ending) (Some stop.End)) is
    (subst (λ n. GoesOn old (machine_of counted n limit ending) (Some stop.End)) (sym count)
    (subst (λ e. GoesOn old (machine_of counted (old.machine.steps + 1) limit e) (Some stop.End)) (sym ends) (step, λ none. absurd (cc))))

-- ---- a machine that has ended

change-ended : (m : Machine) (ending : Ending) → m.ending ≡ Some ending → change m ≡ no_change
unfolding footprint
change-ended m ending is = ap (λ e. (footprint_from e m.state).changes) is

-- it stays as it is, and waits for nothing
pub steps_ended : (v : KeyedMachine) (ending : Ending) → v.machine.ending ≡ Some ending → Steps v v (stepped.Ended ending)
steps_ended v ending is = (
  ended-stalls (paged v) (ap is_some is),
  ap (λ m. record v { machine = m }) (sym (advance-ended v.machine ending is))
      ∙ ap (λ c. record { machine = advance v.machine; pages = pages_after c v.pages; key = v.key }) (sym (change-ended v.machine ending is)),
  is,
)
