-- The call or the talk that a hart's coming step is, and the state after it.
use Rattle.std.specs.Prelude.{◌≡◌, ◌⊎◌, ℕ, true, Option, Some, None, IsSome}
use Rattle.fork_port.specs.declared.commands.Call.{Call}
use Rattle.fork_port.specs.declared.commands.Asked.{Asked}
use Rattle.fork_port.specs.declared.commands.Asked.TheVariants as asked
use Rattle.fork_port.specs.Registers.{ForkRegisters}
use Rattle.sibling_port.specs.declared.talk.Talk.{Talk}
use Rattle.sibling_port.specs.declared.talk.Asked as sibling
use Rattle.sibling_port.specs.declared.talk.Asked.TheVariants as talk_asked
use Rattle.sibling_port.specs.Registers.{talked}
use Rattle.forest_model.specs.Execute.{action}
use Rattle.forest_model.specs.declared.Written.TheVariants.{Nothing}
use Rattle.forest_model.specs.Memory.{with_fork, with_sibling}
use Rattle.forest_model.specs.State.{State, at_next_instruction}
use Rattle.forest_model.specs.Action.{Action}
use Rattle.forest_model.specs.Machine.{Next, exception, timer_interrupt, plain, call, talk, next_of, count}
use Rattle.vm_hart.specs.Keyed.{KeyedState}
use Rattle.vm_hart.specs.Acts.{waits_for}
use Rattle.vm_hart.specs.Requests.{asks_for, requested}
use Rattle.vm_hart.specs.declared.hart.Request.{Request}
use Rattle.vm_hart.specs.declared.hart.Request.TheVariants as request

-- the call that a step is, if it is one
abbrev pub asked_call : Next → Option Call
asked_call (exception cause value) = None
asked_call timer_interrupt = None
asked_call plain = None
asked_call (call c) = Some c
asked_call (talk t) = None

-- the talk that a step is, if it is one
abbrev pub asked_talk : Next → Option Talk
asked_talk (exception cause value) = None
asked_talk timer_interrupt = None
asked_talk plain = None
asked_talk (call c) = None
asked_talk (talk t) = Some t

-- the call among what commands of the fork port ask for
abbrev pub call_asked : Asked → Option Request
call_asked (asked.Refused word) = None
call_asked asked.NewTicket = None
call_asked (asked.Discard number) = None
call_asked (asked.Call c) = Some (request.Call c)
call_asked (asked.Exit value) = None
call_asked (asked.ExitWith value address count) = None
call_asked (asked.Zero first count) = None

-- the talk among what commands of the sibling port ask for
abbrev pub talk_asked_for : sibling.Asked → Option Request
talk_asked_for (talk_asked.Refused word) = None
talk_asked_for (talk_asked.Talk t) = Some (request.Talk t)

-- an action asks for this, of a hart that is as before but for its pc
abbrev pub AsksFor : Action → State → Option Request → Type 0
AsksFor action s None = requested (next_of action) ≡ None
AsksFor action s (Some r) = action ≡ asks_for r (at_next_instruction s)

-- the coming step of a hart asks for this, and it waits for no page; or it asks for nothing, or waits for one
abbrev pub AsksNext : KeyedState → Option Request → Type 0
AsksNext h None = IsSome (waits_for h) ⊎ (requested (next_of (action h.state)) ≡ None)
AsksNext h (Some r) = (waits_for h ≡ None) × (action h.state ≡ asks_for r (at_next_instruction h.state))

-- the state after a call, which leaves the fork port so: the call's instruction has retired, and is counted
abbrev pub made : ForkRegisters → State → State
made fork s = count true Nothing (with_fork fork (at_next_instruction s))

-- the state after a talk that brought this word, if any, and has this answer: its instruction has retired, and is counted
abbrev pub made_talk : Option ℕ → ℕ → State → State
made_talk word answer s = count true Nothing (with_sibling (talked word answer s.ports.sibling) (at_next_instruction s))
