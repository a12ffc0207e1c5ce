-- What a machine is after a call, and what its children are.
use Rattle.std.specs.Prelude.{ℕ, true, [], List, Option, Some, None}
use Rattle.fork_port.specs.declared.commands.Call.TheVariants.{Clone, Join, Kill}
use Rattle.fork_port.specs.declared.ending.Ending.{Ending}
use Rattle.fork_port.specs.declared.tickets.Ticket.{Ticket}
use Rattle.fork_port.specs.Registers.{ForkRegisters, ticket_found}
use Rattle.fork_port.specs.Children as fork
use Rattle.port_map.specs.Bus.{ports_of_child}
use Rattle.forest_model.specs.declared.Written.TheVariants.{Nothing}
use Rattle.forest_model.specs.State.{State}
use Rattle.forest_model.specs.Action.{Action, ask}
use Rattle.forest_model.specs.Memory.{with_fork}
use Rattle.forest_model.specs.Execute.{action}
use Rattle.forest_model.specs.Machine.{Machine, limited, count}

-- the call's instruction retires with these registers of the fork port, and the step is counted
abbrev pub called : State → ForkRegisters → Machine → Machine
called s fork m = limited (count true Nothing (with_fork fork s)) m

abbrev pub fork_of : State → ForkRegisters
fork_of s = s.ports.fork

-- the parent after CLONE
abbrev pub forked_by : Action → Machine → Machine
forked_by (ask (Clone t) s) m = called s (fork.after_clone (fork_of s) t) m
forked_by _ m = m

unfoldable pub forked : Machine → Machine
forked m = forked_by (action m.state) m

-- a child has its parent's state, but for what of its ports is its own. It is child k of so many, and has this share
abbrev pub born : ℕ → ℕ → ℕ → State → State
born k children share s = record s { ports = ports_of_child k children share s.ports }

abbrev pub share_of : Option Ticket → ℕ
share_of None = 0
share_of (Some ticket) = ticket.share

abbrev pub children_of : Option Ticket → ℕ
children_of None = 0
children_of (Some ticket) = ticket.children

-- child k of the ticket that CLONE names: the parent after its step, as a child
abbrev pub child_by : Action → Machine → ℕ → Machine
child_by (ask (Clone t) s) m k =
    let parent : Machine = called s (fork.after_clone (fork_of s) t) m in
    let ticket : Option Ticket = ticket_found (fork_of s) t in
    record parent { state = born k (children_of ticket) (share_of ticket) parent.state }
child_by _ m k = m

unfoldable pub child : Machine → ℕ → Machine
child m k = child_by (action m.state) m k

-- a child with its parent's output, fork port and sibling port
abbrev pub as_in_parent : Machine → Machine → Machine
as_in_parent child parent = record child {
  state = record child.state {
    ports = record child.state.ports {
      fork = fork_of parent.state;
      sibling = parent.state.ports.sibling;
      console = record child.state.ports.console { output = parent.state.ports.console.output };
    };
  };
}

-- after JOIN, by the endings of the ticket's children in order
abbrev pub joined_by : Action → Machine → List Ending → Machine
joined_by (ask (Join t) s) m endings = called s (fork.after_join (fork_of s) t endings) m
joined_by _ m endings = m

unfoldable pub after_join : Machine → List Ending → Machine
after_join m endings = joined_by (action m.state) m endings

-- after KILL
abbrev pub killed_by : Action → Machine → Machine
killed_by (ask (Kill t) s) m = called s (fork.after_kill (fork_of s) t) m
killed_by _ m = m

unfoldable pub after_kill : Machine → Machine
after_kill m = killed_by (action m.state) m
