-- What the coming step of a machine asks of others: a call of its children, or a talk with a sibling.
use Rattle.std.specs.Prelude.{◌≡◌, Option, Some, None}
use Rattle.fork_port.specs.Commands.{IsMakeable}
use Rattle.sibling_port.specs.Commands.{HasSibling, named}
use Rattle.port_map.specs.Bus.{PortRegisters}
use Rattle.forest_model.specs.State.{State}
use Rattle.forest_model.specs.Action.{Action, ask, speak}
use Rattle.forest_model.specs.Machine.{Next, exception, timer_interrupt, plain, call, talk}
use Rattle.vm_hart.specs.declared.hart.Request.{Request}
use Rattle.vm_hart.specs.declared.hart.Request.TheVariants.{Call, Talk}

-- the action that asks for it, with the state after the instruction but for what is asked for
abbrev pub asks_for : Request → State → Action
asks_for (Call c) s = ask c s
asks_for (Talk t) s = speak t s

-- what a step asks for, if it does
abbrev pub requested : Next → Option Request
requested (exception cause value) = None
requested timer_interrupt = None
requested plain = None
requested (call c) = Some (Call c)
requested (talk t) = Some (Talk t)

-- a call can be made, and a talk is with the sibling that PEER names
abbrev pub IsPossible : PortRegisters → Request → Type 0
IsPossible ports (Call c) = IsMakeable ports.fork c
IsPossible ports (Talk t) = HasSibling ports.fork.clone_id ports.sibling × (named t ≡ ports.sibling.peer)
