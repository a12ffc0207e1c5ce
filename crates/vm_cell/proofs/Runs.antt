-- A run so far, and what its end says.
use Rattle.std.proofs.Common.{◌≡◌, ℕ, ◌+◌, ◌-◌, ◌<◌, ◌≤◌, inl, inr, List, Bool, true, false, cond, eqb, Option, Some, None, refl, sym, ap, ◌∙◌, subst, arith}
use Rattle.std.proofs.lemmas.Bool.{cases_lt}
use Rattle.std.proofs.lemmas.Bool.Decides.{nat_tests}
use Rattle.std.specs.Option.{IfSome}
use Rattle.fork_port.specs.Registers.{ForkRegisters, holding}
use Rattle.fork_port.specs.Children.{IsAccounted}
use Rattle.fork_port.specs.Fork.{ForkStored, fork_store}
use Rattle.fork_port.proofs.StoreLemmas.{accounted_stored, holding_stored}
use Rattle.vm_descriptor.specs.declared.descriptor.TheConstants.{MAX_CLONES}
use Rattle.sibling_port.specs.Registers.{SiblingRegisters}
use Rattle.forest_model.proofs.PortWalk.{IsKept, Ported, action-ported, fork-kept}
use Rattle.fork_port.specs.declared.ending.Ending.{Ending}
use Rattle.fork_port.specs.declared.ending.Ending.TheVariants.{Limit}
use Rattle.forest_model.specs.declared.Written.{Written}
use Rattle.forest_model.specs.State.{State}
use Rattle.forest_model.specs.Action.{Action, retire, exit}
use Rattle.forest_model.specs.Execute.{action}
use Rattle.forest_model.specs.Machine.{Machine, IsWithinLimit, applied, advance}
use Rattle.forest_model.specs.Paged.{stalled_at}
use Rattle.forest_model.specs.Forest.{port_of}
use Rattle.forest_model.proofs.Numbers.{next-advance}
use Rattle.forest_model.proofs.Finish.{limit-after_steps}
use Rattle.forest_model.proofs.Paged.{machine-advanced_by}
use Rattle.vm_hart.specs.Acts.{Grows}
use Rattle.vm_hart.specs.Keyed.{KeyedMachine, paged}
use Rattle.vm_hart.proofs.Runs.{IsRun-advance, IsRun-join, IsRun-none}
use Rattle.vm_cell.specs.Parts.{IsCut, IsMadeUntil, IsPart, Stops}
use Rattle.vm_hart.specs.Runs.{IsFreeFor, IsRun, moved_by}
use Rattle.vm_cell.specs.Steps.{GoesOn, IsCounted, IsFunded}
use Rattle.vm_cell.specs.declared.vm.Part.{Part}
use Rattle.vm_cell.specs.declared.vm.Stop.{Stop}
use Rattle.vm_cell.specs.declared.vm.Stop.TheVariants.{Page, Call, Talk, End}

-- a run is of as many steps as the machine counts
pub run-counted : (old new : KeyedMachine) (made : ℕ) → IsRun old new made → IsRun old new (new.machine.steps - old.machine.steps)
run-counted old new made run =
    let counted : new.machine.steps ≡ old.machine.steps + made = run.counted in
    let same : made ≡ new.machine.steps - old.machine.steps = omega (arith, counted) in
    subst (IsRun old new) same run

module _ (old mid new : KeyedMachine) (made : ℕ) (run : IsRun old mid made) (is : new ≡ mid) where
  made-counted : made ≡ new.machine.steps - old.machine.steps
  made-counted =
      let counted : new.machine.steps ≡ old.machine.steps + made = ap (λ (v : KeyedMachine). v.machine.steps) is ∙ run.counted in omega arith

  pub stopped-run : IsRun old new (new.machine.steps - old.machine.steps)
  stopped-run = subst (IsRun old new) made-counted (subst (λ v. IsRun old v made) (sym is) run)

  pub stopped-steps : new ≡ moved_by (new.machine.steps - old.machine.steps) old
  stopped-steps = is ∙ run.steps ∙ ap (λ n. moved_by n old) made-counted

  pub stopped-free : IsFreeFor (new.machine.steps - old.machine.steps) old
  stopped-free = subst (λ n. IsFreeFor n old) made-counted run.free

-- at a step that is not made
stopped : (until : ℕ) (old mid new : KeyedMachine) (why : Stop) → IsRun old mid (mid.machine.steps - old.machine.steps) → old.machine.steps ≤ mid.machine.steps
    → mid.machine.steps < until → new ≡ mid → Stops new why → IsMadeUntil until old new (Some why)
stopped until old mid new why run from before is stops =
    let same : new.machine.steps ≡ mid.machine.steps = ap (λ (v : KeyedMachine). v.machine.steps) is in
    record {
      run = subst (λ v. IsRun old v (v.machine.steps - old.machine.steps)) (sym is) run;
      from = omega (arith, from, same);
      within = omega (arith, before, same);
      stops = stops;
      all = λ none. absurd (cc);
    }

-- where it stops, and how many steps it made
pub stops-there : (until : ℕ) (old mid new : KeyedMachine) (why : Stop) → mid.machine.ending ≡ None → IsRun old mid (mid.machine.steps - old.machine.steps)
    → old.machine.steps ≤ mid.machine.steps → mid.machine.steps < until → GoesOn mid new (Some why) → IsMadeUntil until old new (Some why)
stops-there until old mid new (Page page) live run from before goes =
    stopped until old mid new (Page page) run from before goes.1 (subst (λ v. Stops v (Page page)) (sym goes.1) (live, goes.0))
stops-there until old mid new (Call call) live run from before goes =
    stopped until old mid new (Call call) run from before goes.2 (subst (λ v. Stops v (Call call)) (sym goes.2) (live, goes.0, goes.1))
stops-there until old mid new (Talk talk) live run from before goes =
    stopped until old mid new (Talk talk) run from before goes.2 (subst (λ v. Stops v (Talk talk)) (sym goes.2) (live, goes.0, goes.1))
stops-there until old mid new End live run from before goes =
    let step = goes.0 in
    let made : IsRun old new (mid.machine.steps - old.machine.steps + 1) = IsRun-advance old mid new _ run step.0 step.1 step.2 in
    let counted : new.machine.steps ≡ mid.machine.steps + 1 = step.2 in
    record {
      run = run-counted old new _ made;
      from = omega (arith, from, counted);
      within = omega (arith, before, counted);
      stops = goes.1;
      all = λ none. absurd (cc);
    }

-- the same after one step, whatever it came to
pub step-until : (old new : KeyedMachine) (stop : Option Stop) → old.machine.ending ≡ None → GoesOn old new stop → IsMadeUntil (old.machine.steps + 1) old new stop
step-until old new None live goes =
    let step = goes.0 in
    let counted : new.machine.steps ≡ old.machine.steps + 1 = step.2 in
    record {
      run = run-counted old new _ (IsRun-advance old old new 0 (IsRun-none old) step.0 step.1 step.2);
      from = omega (arith, counted);
      within = omega (arith, counted);
      stops = tt;
      all = λ none. (goes.1, counted);
    }
step-until old new (Some why) live goes =
    stops-there (old.machine.steps + 1) old old new why live (run-counted old old 0 (IsRun-none old)) (omega arith) (omega arith) goes

-- a run leaves the limit
pub run-limit : (old new : KeyedMachine) (made : ℕ) → IsRun old new made → new.machine.limit ≡ old.machine.limit
run-limit old new made run =
    ap (λ (v : KeyedMachine). v.machine.limit) run.steps ∙ ap (λ (m : Machine). m.limit) (machine-advanced_by made (paged old)) ∙ limit-after_steps made old.machine

-- a run of as many steps as the limit allows does not leave a machine that lives
pub enough_made : (old new : KeyedMachine) (made most : ℕ) → IsRun old new made → IsWithinLimit new.machine → new.machine.ending ≡ None → made ≡ most
    → old.machine.limit ≤ old.machine.steps + most → ⊥
enough_made old new made most run within live all enough =
    let limit : new.machine.limit ≡ old.machine.limit = run-limit old new made run in
    let counted : new.machine.steps ≡ old.machine.steps + made = run.counted in
    let below : new.machine.steps < new.machine.limit = within live in
    omega arith

-- a run that was to make as many steps as the limit allows made all that it was to make, if the machine lives
pub all-made : (most few : ℕ) (old new : KeyedMachine) → IsRun old new (new.machine.steps - old.machine.steps) → old.machine.steps ≤ new.machine.steps
    → IsWithinLimit new.machine → new.machine.ending ≡ None → new.machine.steps ≡ old.machine.steps + few → few ≤ most
    → (few < most → old.machine.limit ≤ old.machine.steps + few) → few ≡ most
all-made most few old new run from within live made less whole = elim (cases_lt few most) [
  | inl fewer ↦ absurd (enough_made old new (new.machine.steps - old.machine.steps) few run within live (omega (arith, made)) (whole fewer))
  | inr all ↦ omega (arith, all, less)
]

-- ---- parts of a run

-- a first part that made all that the run was to make, or was stopped
pub part-alone : (most few : ℕ) (old new : KeyedMachine) (part : Part) → few ≤ most → (part.stop ≡ None → part.steps ≡ few → few ≡ most) → IsPart few old new part → IsPart most old new part
part-alone most few old new part less whole is =
    let within : part.steps ≤ few = is.within in
    record {
      run = is.run;
      within = omega (arith, within, less);
      stops = is.stops;
      all = λ none. let all = is.all none in (all.0, all.1 ∙ whole none all.1);
    }

-- steps that were to be made until they are so many make a part, where the limit does not allow more than it is to have
pub part-until : (most few : ℕ) (old new : KeyedMachine) (part : Part) → few ≤ most → IsMadeUntil (old.machine.steps + few) old new part.stop
    → part.steps ≡ new.machine.steps - old.machine.steps → (new.machine.ending ≡ None → part.steps ≡ few → few ≡ most) → IsPart most old new part
part-until most few old new part less is steps whole =
    let from : old.machine.steps ≤ new.machine.steps = is.from in
    let within : new.machine.steps ≤ old.machine.steps + few = is.within in
    record {
      run = subst (IsRun old new) (sym steps) is.run;
      within = omega (arith, steps, from, within, less);
      stops = is.stops;
      all = λ none.
          let all = is.all none in
          let made : part.steps ≡ few = let until : new.machine.steps ≡ old.machine.steps + few = all.1 in omega (arith, steps, until) in
          (all.0, made ∙ whole all.0 made);
    }

-- memory is wanting for the next step
pub cut-here : (most made : ℕ) (old mid new : KeyedMachine) → IsRun old mid made → new ≡ mid → made < most → mid.machine.ending ≡ None → stalled_at (paged mid) ≡ None → Grows mid.machine.state
    → IsCut most old new
cut-here most made old mid new run same before live here memory =
    let counted : new.machine.steps ≡ old.machine.steps + made = ap (λ (v : KeyedMachine). v.machine.steps) same ∙ run.counted in
    record {
      run = stopped-run old mid new made run same;
      from = omega (arith, counted);
      within = omega (arith, counted, before);
      live = ap (λ (v : KeyedMachine). v.machine.ending) same ∙ live;
      here = subst (λ (v : KeyedMachine). stalled_at (paged v) ≡ None) (sym same) here;
      memory = subst (λ (v : KeyedMachine). Grows v.machine.state) (sym same) memory;
    }

pub parts-join : (most made : ℕ) (old mid new : KeyedMachine) (rest part : Part) → IsRun old mid made → made ≤ most → IsPart (most - made) mid new rest
    → part.steps ≡ made + rest.steps → part.stop ≡ rest.stop → IsPart most old new part
parts-join most made old mid new rest part run less is steps stop =
    let within : rest.steps ≤ most - made = is.within in
    record {
      run = subst (IsRun old new) (sym steps) (IsRun-join old mid new made rest.steps run is.run);
      within = omega (arith, steps, within, less);
      stops = subst (λ s. IfSome s (Stops new)) (sym stop) is.stops;
      all = λ none.
          let all = is.all (sym stop ∙ none) in
          let rests : rest.steps ≡ most - made = all.1 in
          (all.0, omega (arith, steps, rests, less));
    }

-- a part that nothing stopped made a step, if it was to make any
pub part-moves : (most : ℕ) (old new : KeyedMachine) (part : Part) → 1 ≤ most → part.stop ≡ None → IsPart most old new part → 1 ≤ part.steps
part-moves most old new part some none is = let all : part.steps ≡ most = (is.all none).1 in omega (arith, all, some)

pub cut-less : (most few : ℕ) (old new : KeyedMachine) → few ≤ most → IsCut few old new → IsCut most old new
cut-less most few old new less is =
    let within : new.machine.steps < old.machine.steps + few = is.within in
    record { run = is.run; from = is.from; within = omega (arith, within, less); live = is.live; here = is.here; memory = is.memory }

pub cut-later : (most made : ℕ) (old mid new : KeyedMachine) → IsRun old mid made → made ≤ most → IsCut (most - made) mid new → IsCut most old new
cut-later most made old mid new run less is =
    let counted : mid.machine.steps ≡ old.machine.steps + made = run.counted in
    let from : mid.machine.steps ≤ new.machine.steps = is.from in
    let within : new.machine.steps < mid.machine.steps + (most - made) = is.within in
    let all : made + (new.machine.steps - mid.machine.steps) ≡ new.machine.steps - old.machine.steps = omega (arith, counted, from) in
    record {
      run = subst (IsRun old new) all (IsRun-join old mid new made (new.machine.steps - mid.machine.steps) run is.run);
      from = omega (arith, counted, from);
      within = omega (arith, counted, within, less);
      live = is.live;
      here = is.here;
      memory = is.memory;
    }

-- one step more, which is the last that the limit allows
module _ (until : ℕ) (old mid new : KeyedMachine) (run : IsRun old mid (mid.machine.steps - old.machine.steps)) (from : old.machine.steps ≤ mid.machine.steps)
    (before : mid.machine.steps < until) where
  pub part-last : (part : Part) → old.machine.limit ≤ mid.machine.steps + 1 → IsWithinLimit new.machine → IsPart 1 mid new part → IsMadeUntil until old new part.stop
  part-last part last alive is =
      let made : IsRun old new (mid.machine.steps - old.machine.steps + part.steps) = IsRun-join old mid new (mid.machine.steps - old.machine.steps) part.steps run is.run in
      let counted : new.machine.steps ≡ mid.machine.steps + part.steps = is.run.counted in
      let within : part.steps ≤ 1 = is.within in
      record {
        run = run-counted old new _ made;
        from = omega (arith, from, counted);
        within = omega (arith, before, counted, within);
        stops = is.stops;
        all = λ none.
            let all = is.all none in
            let below : new.machine.steps < new.machine.limit = alive all.0 in
            let limit : new.machine.limit ≡ old.machine.limit = run-limit old new _ made in
            let one : part.steps ≡ 1 = all.1 in
            absurd (omega (arith, below, limit, last, counted, one));
      }

  pub cut-last : IsCut 1 mid new → IsCut (until - old.machine.steps) old new
  cut-last is =
      cut-later (until - old.machine.steps) (mid.machine.steps - old.machine.steps) old mid new run (omega (arith, from, before))
      (cut-less (until - old.machine.steps - (mid.machine.steps - old.machine.steps)) 1 mid new (omega (arith, from, before)) is)

-- a step gives a number to a ticket at most
pub rises_retired : (s new : State) (written : Written) → action s ≡ retire written new → new.ports.fork.next_ticket ≤ s.ports.fork.next_ticket + 1
unfolding advance
rises_retired s new written is =
    let m : Machine = record { state = s; steps = 0; limit = 0; ending = None } in
    subst (λ (a : Action). (port_of (applied a m)).next_ticket ≤ s.ports.fork.next_ticket + 1) is (next-advance m)

pub rises_exited : (s new : State) (value : ℕ) (bytes : List ℕ) → action s ≡ exit value bytes new
    → new.ports.fork.next_ticket ≤ s.ports.fork.next_ticket + 1
unfolding advance
rises_exited s new value bytes is =
    let m : Machine = record { state = s; steps = 0; limit = 0; ending = None } in
    subst (λ (a : Action). (port_of (applied a m)).next_ticket ≤ s.ports.fork.next_ticket + 1) is (next-advance m)

-- and its tickets stay paid for
stored-funded : (f : ForkRegisters) (o : Option ForkStored) → holding f ≤ MAX_CLONES → IfSome o (λ s. IsAccounted s.fork)
    → IfSome o (λ s. holding s.fork ≡ holding f) → IfSome o (λ s. IsFunded s.fork)
stored-funded f None most accounted same = tt
stored-funded f (Some s) most accounted same = record { accounted = accounted; most = omega (arith, same) }

-- after a step of the machine's own
abbrev Funded : ForkRegisters → SiblingRegisters → Type 0
Funded f r = IsFunded f

funded-kept : (f : ForkRegisters) (r : SiblingRegisters) → IsFunded f → IsKept Funded f r
funded-kept f r funded =
    fork-kept IsFunded f r funded
    (λ offset width word. stored-funded f (fork_store f offset width word) funded.most
    (accounted_stored f offset width word funded.accounted) (holding_stored f offset width word funded.accounted.rising))
    (λ g word h. record { accounted = record { balanced = h.accounted.balanced; rising = h.accounted.rising }; most = h.most })

pub funded_retired : (s new : State) (written : Written) → IsFunded s.ports.fork → action s ≡ retire written new → IsFunded new.ports.fork
funded_retired s new written funded is = subst (Ported Funded s) is (action-ported Funded s (funded-kept s.ports.fork s.ports.sibling funded))

pub funded_exited : (s new : State) (value : ℕ) (bytes : List ℕ) → IsFunded s.ports.fork → action s ≡ exit value bytes new → IsFunded new.ports.fork
funded_exited s new value bytes funded is = subst (Ported Funded s) is (action-ported Funded s (funded-kept s.ports.fork s.ports.sibling funded))

-- ---- the counts of a machine after a step

below_limit : (at_limit : Bool) (steps limit : ℕ) (ending new : Option Ending) → eqb (steps + 1) limit ≡ at_limit → steps < limit
    → new ≡ cond at_limit (Some Limit) ending → new ≡ None → steps + 1 < limit
below_limit true steps limit ending new e below is none = absurd (cc)
below_limit false steps limit ending new e below is none = grind (arith, nat_tests)

pub counted_step : (steps limit new_steps : ℕ) (fork mid new_fork : ForkRegisters) (ending new : Option Ending) → IsCounted steps limit ending fork → ending ≡ None
    → new_steps ≡ steps + 1 → new ≡ cond (eqb (steps + 1) limit) (Some Limit) ending → new_fork ≡ mid → mid.next_ticket ≤ fork.next_ticket + 1 → IsFunded mid
    → IsCounted new_steps limit new new_fork
counted_step steps limit new_steps fork mid new_fork ending new counted live made ends same rises funded =
    let below : steps < limit = counted.live live in
    let tickets : fork.next_ticket ≤ steps + 1 = counted.tickets in
    let next : new_fork.next_ticket ≡ mid.next_ticket = ap (λ (f : ForkRegisters). f.next_ticket) same in
    record {
      within = omega arith;
      live = λ none. let later = below_limit (eqb (steps + 1) limit) steps limit ending new refl below ends none in omega arith;
      most = counted.most;
      tickets = omega arith;
      funded = subst IsFunded (sym same) funded;
    }

pub counted_exit : (steps limit : ℕ) (fork mid new_fork : ForkRegisters) (ending : Option Ending) (end : Ending) → IsCounted steps limit ending fork → ending ≡ None
    → new_fork ≡ mid → mid.next_ticket ≤ fork.next_ticket + 1 → IsFunded mid → IsCounted (steps + 1) limit (Some end) new_fork
counted_exit steps limit fork mid new_fork ending end counted live same rises funded =
    let below : steps < limit = counted.live live in
    let tickets : fork.next_ticket ≤ steps + 1 = counted.tickets in
    let next : new_fork.next_ticket ≡ mid.next_ticket = ap (λ (f : ForkRegisters). f.next_ticket) same in
    record {
      within = omega arith;
      live = λ none. absurd (cc);
      most = counted.most;
      tickets = omega arith;
      funded = subst IsFunded (sym same) funded;
    }

pub counted_end : (steps now limit : ℕ) (ending : Option Ending) (by : Ending) (fork : ForkRegisters) → now ≡ steps → ending ≡ Some by
    → IsCounted steps limit (Some by) fork → IsCounted now limit ending fork
counted_end steps now limit ending by fork count ends is =
    subst (λ n. IsCounted n limit ending fork) (sym count) (subst (λ e. IsCounted steps limit e fork) (sym ends) is)
