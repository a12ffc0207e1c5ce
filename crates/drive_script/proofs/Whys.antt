-- Why a machine on lease stops, by what is read of it.
use Rattle.std.proofs.Common.{◌≡◌, ℕ, ◌&&◌, not, Bool, true, false, refl, sym, ap, ◌∙◌, Option, Some, None, is_some, option_map}
use Rattle.fork_port.specs.declared.commands.Call.TheVariants.{Clone, Join, Kill}
use Rattle.fork_port.specs.declared.ending.Ending.{Ending}
use Rattle.sibling_port.specs.declared.talk.Talk.TheVariants.{Send, Receive}
use Rattle.forest_model.specs.Machine.{Next, exception, timer_interrupt, plain, call, talk, next}
use Rattle.forest_model.specs.Forest.{call_of, machines, talk_of, talks}
use Rattle.forest_model.specs.Paged.{Paged, paged_machines, paged_talks, stalled_at}
use Rattle.vm_cell.specs.Keyed.{KeyedMachine, paged}
use Rattle.vm_cell.specs.Standing.{standing_by, standing_from, standing_call, standing_talk, talk_by, talk_from}
use Rattle.world_core.specs.Answers.{join_ticket}
use Rattle.drive_script.specs.declared.answer.Why.{Why}
use Rattle.drive_script.specs.declared.answer.Why.TheVariants.{Ended, Stalls, MayGoOn}
use Rattle.drive_script.specs.Steps.{awaited, joined_ticket, number_in, stall_told, why_by, why_of}
use Rattle.drive_script.specs.Turned.{awaited_of}

-- whether it waits, of one that lives
pub waits-so : (ending : Option Ending) (rests waits : Bool) → ending ≡ None → waits ≡ not (is_some ending) && rests → rests ≡ waits
waits-so None rests waits lives h = sym h
waits-so (Some ending) rests waits lives h = absurd (cc)

-- what it waits for, by its next step
awaits-step : (step : Next) → awaited (talk_of step) (joined_ticket (call_of step)) ≡ awaited_of (talk_from None step) (join_ticket (standing_from None step))
awaits-step (exception cause value) = refl
awaits-step timer_interrupt = refl
awaits-step plain = refl
awaits-step (call (Clone ticket)) = refl
awaits-step (call (Join ticket)) = refl
awaits-step (call (Kill ticket)) = refl
awaits-step (talk (Send to)) = refl
awaits-step (talk (Receive from)) = refl

awaits-by : (page : Option ℕ) (ending : Option Ending) (step : Next) → page ≡ None → ending ≡ None
    → awaited (talk_of step) (joined_ticket (call_of step)) ≡ awaited_of (talk_by page ending step) (join_ticket (standing_by page ending step))
awaits-by None None step here lives = awaits-step step
awaits-by None (Some ending) step here lives = absurd (cc)
awaits-by (Some page) ending step here lives = absurd (cc)

module _ (v : KeyedMachine) (rests : Bool) where
  abbrev pub now : Paged
  now = paged v

  abbrev so : Why
  so = awaited (paged_talks.talk now) (joined_ticket (paged_machines.call now))

  pub ends : (ending : Ending) → v.machine.ending ≡ Some ending → why_of paged_machines paged_talks stall_told rests now ≡ Ended ending
  unfolding paged_machines machines
  ends ending over = ap (λ e. why_by e (stall_told now) rests so) over

  -- by these, where it lives
  lives-by : (page : Option ℕ) (waits : Bool) → v.machine.ending ≡ None → stalled_at now ≡ page → rests ≡ waits
      → why_of paged_machines paged_talks stall_told rests now ≡ why_by None (option_map (number_in now) page) waits so
  unfolding paged_machines machines
  lives-by page waits lives waits_for is =
      ap (λ e. why_by e (stall_told now) rests so) lives ∙ ap (λ p. why_by None (option_map (number_in now) p) rests so) waits_for
      ∙ ap (λ r. why_by None (option_map (number_in now) page) r so) is

  -- the page that it waits for, by its number
  pub stalls : (page : ℕ) → v.machine.ending ≡ None → stalled_at now ≡ Some page → why_of paged_machines paged_talks stall_told rests now ≡ Stalls (number_in now page)
  stalls page lives waits_for = lives-by (Some page) rests lives waits_for refl

  pub goes : v.machine.ending ≡ None → stalled_at now ≡ None → rests ≡ false → why_of paged_machines paged_talks stall_told rests now ≡ MayGoOn
  goes lives here ready = lives-by None false lives here ready

  pub waits-at : v.machine.ending ≡ None → stalled_at now ≡ None → rests ≡ true
      → why_of paged_machines paged_talks stall_told rests now ≡ awaited_of (standing_talk v) (join_ticket (standing_call v))
  unfolding standing_call standing_talk paged_machines machines paged_talks talks
  waits-at lives here waiting = lives-by None true lives here waiting ∙ awaits-by (stalled_at now) v.machine.ending (next v.machine) here lives
