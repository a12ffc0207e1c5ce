-- What a machine is after a step of its hart.
use Rattle.std.proofs.Common.{◌≡◌, ℕ, ◌+◌, true, false, cond, eqb, Option, Some, None, Ok, refl, sym, ap, ◌∙◌}
use Rattle.fork_port.specs.declared.ending.Ending.{Ending}
use Rattle.fork_port.specs.declared.ending.Ending.TheVariants.{Exit, Limit}
use Rattle.fork_port.specs.Handed.{handed_of}
use Rattle.rv_traps.specs.declared.csrs.TheConstants.{TIMER_INTERRUPT}
use Rattle.forest_model.specs.declared.Written.{Written}
use Rattle.forest_model.specs.declared.Written.TheVariants.{Nothing}
use Rattle.forest_model.specs.State.{State}
use Rattle.forest_model.specs.Action.{Action, trap, interrupt, retire, exit}
use Rattle.forest_model.specs.Execute.{action}
use Rattle.forest_model.specs.Memory.{bytes_at}
use Rattle.forest_model.specs.Machine.{Machine, next_of, trapped, count, limited, advance, applied}
use Rattle.forest_model.specs.Forest.{call_of, talk_of}
use Rattle.forest_model.specs.Touch.{change, footprint, footprint_from}
use Rattle.forest_model.specs.Paged.{first_absent, pages_after, stalled_at}
use Rattle.forest_model.proofs.Finish.{advance-live}
use Rattle.vm_hart.specs.Acts.{ActsNext, HasActed, changing, waits_for}
use Rattle.vm_hart.specs.Keyed.{KeyedMachine, KeyedState, hart_in, machine_of, paged}
use Rattle.vm_hart.specs.Runs.{IsStep, moved}
use Rattle.vm_hart.specs.declared.hart.Acted.{Acted}
use Rattle.vm_hart.specs.declared.hart.Acted.TheVariants.{Trapped, Interrupted, Retired, Exited}

pub stalls_live : (v : KeyedMachine) → v.machine.ending ≡ None → stalled_at (paged v) ≡ waits_for (hart_in v)
unfolding footprint
stalls_live v live = ap (λ ending. first_absent v.pages.here (footprint_from ending v.machine.state).needs) live

-- the machine after a step that is counted, and leaves its hart so
pub after_count : (m : Machine) (before hart : KeyedState) (s : State) (steps : ℕ) (ending : Option Ending) → m.ending ≡ None
    → hart ≡ record before { state = s } → steps ≡ m.steps + 1 → ending ≡ cond (eqb (m.steps + 1) m.limit) (Some Limit) m.ending
    → machine_of hart steps m.limit ending ≡ record { machine = limited s m; pages = before.pages; key = before.key }
after_count m before hart s steps ending live is counted ends =
    let after : KeyedState = record before { state = s } in
    ap (λ h. machine_of h steps m.limit ending) is
    ∙ ap (λ n. machine_of after n m.limit ending) counted
    ∙ ap (machine_of after (m.steps + 1) m.limit) (ends ∙ ap (cond (eqb (m.steps + 1) m.limit) (Some Limit)) live)

change-live : (m : Machine) → m.ending ≡ None → change m ≡ (footprint_from None m.state).changes
unfolding footprint
change-live m live = ap (λ ending. (footprint_from ending m.state).changes) live

-- a machine that lives, and its hart after an action
module _ (v : KeyedMachine) (hart : KeyedState) (live : v.machine.ending ≡ None) where
  abbrev m : Machine
  m = v.machine

  -- the machine with these pages, after the action
  abbrev after : Action → KeyedMachine
  after a = record { machine = applied a m; pages = hart.pages; key = hart.key }

  moved-is : (a : Action) (acted : Acted) → action m.state ≡ a
      → HasActed (hart_in v) hart (changing (footprint_from None m.state)) (action m.state) acted → after a ≡ moved v
  moved-is a acted is by =
      let machine : applied a m ≡ advance m = ap (λ b. applied b m) (sym is) ∙ sym (advance-live m live) in
      let pages : hart.pages ≡ pages_after (change m) v.pages =
      by.changed.0 ∙ ap (λ c. pages_after c v.pages) (sym (change-live m live)) in
      ap (λ n. record { machine = n; pages = hart.pages; key = hart.key }) machine
      ∙ ap (λ p. record { machine = advance m; pages = p; key = hart.key }) pages
      ∙ ap (λ k. record { machine = advance m; pages = pages_after (change m) v.pages; key = k }) by.changed.1

  -- it was free to make a step of its own, and has made it
  goes : (a : Action) (acted : Acted) (new : KeyedMachine) → waits_for (hart_in v) ≡ None → action m.state ≡ a
      → HasActed (hart_in v) hart (changing (footprint_from None m.state)) (action m.state) acted → call_of (next_of a) ≡ None → talk_of (next_of a) ≡ None
      → (applied a m).steps ≡ m.steps + 1 → new ≡ after a → IsStep v new
  goes a acted new here is by own silent counted new_is = (
    record {
      live = live;
      here = stalls_live v live ∙ here;
      own = ap (λ b. call_of (next_of b)) is ∙ own;
      silent = ap (λ b. talk_of (next_of b)) is ∙ silent;
    },
    new_is ∙ moved-is a acted is by,
    ap (λ (n : KeyedMachine). n.machine.steps) new_is ∙ counted,
  )

  -- a step that is counted
  module _ (counted : KeyedState) (steps : ℕ) (ending : Option Ending) (made : steps ≡ m.steps + 1) (ends : ending ≡ cond (eqb (m.steps + 1) m.limit) (Some Limit) m.ending) where
    abbrev Goes : Type 0
    Goes = IsStep v (machine_of counted steps m.limit ending)

    is_counted : (s : State) → counted ≡ record hart { state = s } → machine_of counted steps m.limit ending ≡ record { machine = limited s m; pages = hart.pages; key = hart.key }
    is_counted s is = after_count m hart counted s steps ending live is made ends

    -- a trap, of a hart that has done nothing
    is_trapped : (cause value : ℕ) → hart.state ≡ m.state → counted ≡ record hart { state = count false Nothing (trapped cause value hart.state) }
        → counted ≡ record hart { state = count false Nothing (trapped cause value m.state) }
    is_trapped cause value same traps = traps ∙ ap (λ s. record hart { state = count false Nothing (trapped cause value s) }) same

    pub goes_trapped : (cause value : ℕ) → ActsNext (hart_in v) hart (Ok (Trapped cause value))
        → counted ≡ record hart { state = count false Nothing (trapped cause value hart.state) } → Goes
    goes_trapped cause value acts traps =
        goes (trap cause value) (Trapped cause value) _ acts.0 acts.1.tells.0 acts.1 refl refl refl
        (is_counted _ (is_trapped cause value acts.1.tells.1 traps))

    pub goes_interrupted : ActsNext (hart_in v) hart (Ok Interrupted)
        → counted ≡ record hart { state = count false Nothing (trapped TIMER_INTERRUPT 0 hart.state) } → Goes
    goes_interrupted acts traps =
        goes interrupt Interrupted _ acts.0 acts.1.tells.0 acts.1 refl refl refl
        (is_counted _ (is_trapped TIMER_INTERRUPT 0 acts.1.tells.1 traps))

    pub goes_retired : (written : Written) → ActsNext (hart_in v) hart (Ok (Retired written))
        → counted ≡ record hart { state = count true written hart.state } → Goes
    goes_retired written acts counts =
        goes (retire written hart.state) (Retired written) _ acts.0 acts.1.tells acts.1 refl refl refl (is_counted _ counts)

  pub goes_exited : (value address size : ℕ) (counted : KeyedState) → ActsNext (hart_in v) hart (Ok (Exited value address size))
      → counted ≡ record hart { state = count true Nothing hart.state }
      → IsStep v (machine_of counted (m.steps + 1) m.limit (Some (Exit value (handed_of (bytes_at address size hart.state)))))
  goes_exited value address size counted acts counts =
      let bytes = bytes_at address size hart.state in
      goes (exit value bytes hart.state) (Exited value address size) _ acts.0 acts.1.tells.0 acts.1 refl refl refl
      (ap (λ (h : KeyedState). machine_of h (m.steps + 1) m.limit (Some (Exit value (handed_of bytes)))) counts)
