-- The call or the talk that a machine stands at, and what is wanted of those that make it.
use Rattle.std.specs.Prelude.{◌≡◌, ℕ, List, length, Option, Some, None}
use Rattle.fork_port.specs.declared.commands.Call.{Call}
use Rattle.fork_port.specs.declared.commands.Call.TheVariants.{Clone, Join, Kill}
use Rattle.fork_port.specs.declared.ending.Ending.{Ending}
use Rattle.fork_port.specs.Commands.{IsMakeable}
use Rattle.sibling_port.specs.declared.talk.Talk.{Talk}
use Rattle.sibling_port.specs.Commands.{HasSibling, named}
use Rattle.forest_model.specs.Execute.{action}
use Rattle.forest_model.specs.State.{at_next_instruction}
use Rattle.forest_model.specs.Action.{ask, speak}
use Rattle.forest_model.specs.Machine.{Machine, Next, next}
use Rattle.forest_model.specs.Forest.{machines}
use Rattle.forest_model.specs.Paged.{stalled_at}
use Rattle.vm_hart.specs.Keyed.{KeyedMachine, paged}
use Rattle.vm_hart.specs.declared.hart.Request.{Request}
use Rattle.vm_hart.specs.declared.hart.Request.TheVariants as request
pub use Rattle.vm_hart.specs.Calls.{asked_call, asked_talk}

-- the call among what is asked for, and the talk
abbrev pub call_in : Option Request → Option Call
call_in None = None
call_in (Some (request.Call c)) = Some c
call_in (Some (request.Talk t)) = None

abbrev pub talk_in : Option Request → Option Talk
talk_in None = None
talk_in (Some (request.Call c)) = None
talk_in (Some (request.Talk t)) = Some t

abbrev pub standing_from : Option Ending → Next → Option Call
standing_from None step = asked_call step
standing_from (Some ending) step = None

-- none where the step waits for a page
abbrev pub standing_by : Option ℕ → Option Ending → Next → Option Call
standing_by None ending step = standing_from ending step
standing_by (Some page) ending step = None

-- the call that the next step of a machine that lives and waits for no page is, if it is one
unfoldable pub standing_call : KeyedMachine → Option Call
standing_call v = standing_by (stalled_at (paged v)) v.machine.ending (next v.machine)

abbrev pub talk_from : Option Ending → Next → Option Talk
talk_from None step = asked_talk step
talk_from (Some ending) step = None

abbrev pub talk_by : Option ℕ → Option Ending → Next → Option Talk
talk_by None ending step = talk_from ending step
talk_by (Some page) ending step = None

-- the talk that the next step of a machine that lives and waits for no page is, if it is one
unfoldable pub standing_talk : KeyedMachine → Option Talk
standing_talk v = talk_by (stalled_at (paged v)) v.machine.ending (next v.machine)

-- a machine lives, its next step is this talk, and PEER names another child of its ticket, with which the talk is
pub record IsSpoken (m : Machine) (t : Talk) : Type 0 where
  pub live : m.ending ≡ None
  pub is : action m.state ≡ speak t (at_next_instruction m.state)
  pub sibling : HasSibling m.state.ports.fork.clone_id m.state.ports.sibling
  pub with_peer : named t ≡ m.state.ports.sibling.peer

-- a machine lives, its next step is this call, and its ticket is there
pub record IsAsked (m : Machine) (c : Call) : Type 0 where
  pub live : m.ending ≡ None
  pub is : action m.state ≡ ask c (at_next_instruction m.state)
  pub makeable : IsMakeable m.state.ports.fork c

-- the call is CLONE
abbrev pub IsClone : Option Call → Type 0
IsClone (Some (Clone ticket)) = Unit {0}
IsClone (Some (Join ticket)) = ⊥
IsClone (Some (Kill ticket)) = ⊥
IsClone None = ⊥

-- the call is JOIN, and there are as many endings as the ticket has children
abbrev pub IsJoin : Machine → List Ending → Option Call → Type 0
IsJoin m endings (Some (Clone ticket)) = ⊥
IsJoin m endings (Some (Join ticket)) = length endings ≡ (machines.grant m ticket).children
IsJoin m endings (Some (Kill ticket)) = ⊥
IsJoin m endings None = ⊥

-- the call is KILL
abbrev pub IsKill : Option Call → Type 0
IsKill (Some (Clone ticket)) = ⊥
IsKill (Some (Join ticket)) = ⊥
IsKill (Some (Kill ticket)) = Unit {0}
IsKill None = ⊥
