-- The machine among others: what a forest uses of it.
use Rattle.std.specs.Prelude.{◌≡◌, ℕ, ◌-◌, ◌&&◌, ◌||◌, Bool, nat_lt, List, [], is_some, Option, Some, None}
use Rattle.fork_port.specs.declared.commands.Call.{Call}
use Rattle.fork_port.specs.declared.commands.Call.TheVariants.{Clone, Join, Kill}
use Rattle.fork_port.specs.declared.ending.Ending.{Ending}
use Rattle.fork_port.specs.Registers.{ForkRegisters, ticket_found, holding}
use Rattle.forest_tree.specs.Operations.{Operations}
use Rattle.forest_tree.specs.Operations as tree
use Rattle.forest_tree.specs.Tree.{Tree}
use Rattle.forest_tree.specs.Step.{alone}
use Rattle.sibling_port.specs.declared.talk.Talk as port
use Rattle.sibling_port.specs.declared.talk.Talk.TheVariants.{Send, Receive}
use Rattle.sibling_forest.specs.Talk.{Talk, send, receive, Talks, Box, boxed}
use Rattle.sibling_forest.specs.Finish as forest
use Rattle.port_rules.specs.Rules.{cloned_numbers, grant_of, may_clone, is_accounted}
use Rattle.elf_load.specs.Image.{Image}
use Rattle.forest_model.specs.declared.Options.{Options}
use Rattle.forest_model.specs.Machine.{Machine, Next, exception, timer_interrupt, plain, call, talk, next, boot}
use Rattle.forest_model.specs.Calls.{forked, child, after_join, after_kill}
use Rattle.forest_model.specs.Talks.{received, stepped}

-- the call that the next step is, if it is one
abbrev pub tree_call : Call → tree.Call
tree_call (Clone t) = tree.clone t
tree_call (Join t) = tree.join t
tree_call (Kill t) = tree.kill t

abbrev pub call_of : Next → Option tree.Call
call_of (exception cause value) = None
call_of timer_interrupt = None
call_of plain = None
call_of (call c) = Some (tree_call c)
call_of (talk t) = None

-- the talk that the next step is, if it is one
abbrev pub tree_talk : port.Talk → Talk
tree_talk (Send j) = send j
tree_talk (Receive j) = receive j

abbrev pub talk_of : Next → Option Talk
talk_of (exception cause value) = None
talk_of timer_interrupt = None
talk_of plain = None
talk_of (call c) = None
talk_of (talk t) = Some (tree_talk t)

abbrev pub port_of : Machine → ForkRegisters
port_of m = m.state.ports.fork

-- its tickets are accounted for, and it is below its limit where it lives
abbrev pub is_good : Machine → Bool
is_good m = is_accounted (port_of m) && (is_some m.ending || nat_lt m.steps m.limit)

-- what a forest uses of the machines
unfoldable pub machines : Operations Machine Ending
machines = record {
  ending = λ m. m.ending;
  call = λ m. call_of (next m);
  left = λ m. m.limit - m.steps;
  holding = λ m. holding (port_of m);
  cloned = λ m. cloned_numbers (port_of m).tickets;
  grant = λ m t. grant_of (ticket_found (port_of m) t);
  may_clone = λ m t. may_clone (port_of m) t;
  is_good = is_good;
  advance = stepped;
  forked = forked;
  child = child;
  after_join = after_join;
  after_kill = after_kill;
}

-- how they talk. What is sent is DATA, and the number of a machine is CLONE ID
unfoldable pub talks : Talks Machine
talks = record {
  talk = λ m. talk_of (next m);
  word = λ m. m.state.ports.sibling.word;
  received = received;
  number = λ m. (port_of m).clone_id;
  siblings = λ m. m.state.ports.sibling.siblings;
}

-- the forest that starts with one machine, which is booted, with no words to it
abbrev pub booted : Image → List ℕ → List ℕ → Options → Tree (Box Machine)
booted image disk input options =
    alone (boxed machines talks) (record { machine = boot image disk input options; inbox = [] })

-- a forest run until its root has ended or it rests
abbrev pub finish : Tree (Box Machine) → Tree (Box Machine)
finish t = forest.finish machines talks t

-- a machine that may have no clones, and has no ticket and no siblings
pub record IsChildless (m : Machine) : Type 0 where
  pub no_allot : (port_of m).allot ≡ 0
  pub no_ticket : (port_of m).tickets ≡ []
  pub no_siblings : m.state.ports.sibling.siblings ≡ 0
