-- A machine whose next step is a call, and what it is after it.
use Rattle.std.proofs.Common.{◌≡◌, ℕ, List, [], Option, Some, None, IfSome, IsSomeAnd, true, refl, sym, ap, ◌∙◌, subst}
use Rattle.fork_port.specs.declared.commands.Call.{Call}
use Rattle.fork_port.specs.declared.commands.Call.TheVariants.{Clone, Join, Kill}
use Rattle.fork_port.specs.declared.ending.Ending.{Ending}
use Rattle.fork_port.specs.declared.tickets.Ticket.{Ticket}
use Rattle.fork_port.specs.Registers.{ForkRegisters, HasTicket, ticket_found}
use Rattle.fork_port.specs.Children as fork
use Rattle.fork_port.specs.Commands.{IsMakeable}
use Rattle.fork_port.specs.Fork.{ForkStored, fork_store}
use Rattle.forest_tree.specs.Operations as tree
use Rattle.forest_model.specs.State.{State}
use Rattle.forest_model.specs.Action.{Action, ask}
use Rattle.forest_model.specs.Execute.{action}
use Rattle.forest_model.specs.Machine.{Machine, next_of, next}
use Rattle.forest_model.specs.Calls.{called, fork_of, forked_by, forked, share_of, children_of, as_in_parent, child_by, child, joined_by, after_join, killed_by, after_kill}
use Rattle.forest_model.specs.Forest.{call_of, port_of}
use Rattle.sibling_port.specs.Registers.{SiblingRegisters}
use Rattle.sibling_port.specs.Registers as sibling
use Rattle.forest_model.proofs.PortWalk.{IsKept, Ported, action-ported, fork-kept, same-fork, same-sibling, sibling_of}

abbrev pub Anything : ForkRegisters → Type 0
Anything f = Unit {0}

any-store : (stored : Option ForkStored) → IfSome stored (λ s. Anything s.fork)
any-store None = tt
any-store (Some s) = tt

any-kept : (f : ForkRegisters) (r : SiblingRegisters) → IsKept (λ g q. Anything g) f r
any-kept f r = fork-kept Anything f r tt (λ offset width word. any-store (fork_store f offset width word)) (λ g word h. tt)

-- what holds of the ports after the coming action, where nothing is asked of them
abbrev pub Leads : Machine → Action → Type 0
Leads m a = Ported (λ g q. Anything g) m.state a

pub leads : (m : Machine) → Leads m (action m.state)
leads m = action-ported (λ g q. Anything g) m.state (any-kept (port_of m) (sibling_of m.state))

-- a call that is asked for: the registers are as before, and its ticket is there
pub record Asks (m : Machine) (c : Call) : Type 0 where
  pub state : State
  pub is : action m.state ≡ ask c state
  pub same : fork_of state ≡ port_of m
  pub alike : sibling_of state ≡ sibling_of m.state
  pub makeable : IsMakeable (port_of m) c

asks-by : (m : Machine) (c : Call) (s : State) → action m.state ≡ ask c s → Asks m c
asks-by m c s e =
    let h = subst (Leads m) e (leads m) in
    record { state = s; is = e; same = same-fork h; alike = same-sibling h; makeable = h.possible }

clone-action : (a : Action) (t : ℕ) → call_of (next_of a) ≡ Some (tree.clone t) → (s : State) × (a ≡ ask (Clone t) s)
clone-action (ask (Clone u) s) t e = let same : u ≡ t = cc in (s, ap (λ k. ask (Clone k) s) same)
clone-action _ t e = absurd (cc)

join-action : (a : Action) (t : ℕ) → call_of (next_of a) ≡ Some (tree.join t) → (s : State) × (a ≡ ask (Join t) s)
join-action (ask (Join u) s) t e = let same : u ≡ t = cc in (s, ap (λ k. ask (Join k) s) same)
join-action _ t e = absurd (cc)

kill-action : (a : Action) (t : ℕ) → call_of (next_of a) ≡ Some (tree.kill t) → (s : State) × (a ≡ ask (Kill t) s)
kill-action (ask (Kill u) s) t e = let same : u ≡ t = cc in (s, ap (λ k. ask (Kill k) s) same)
kill-action _ t e = absurd (cc)

module _ (m : Machine) (t : ℕ) where
  pub clone-asks : call_of (next m) ≡ Some (tree.clone t) → Asks m (Clone t)
  clone-asks is = let a = clone-action (action m.state) t is in asks-by m (Clone t) a.0 a.1

  pub join-asks : call_of (next m) ≡ Some (tree.join t) → Asks m (Join t)
  join-asks is = let a = join-action (action m.state) t is in asks-by m (Join t) a.0 a.1

  pub kill-asks : call_of (next m) ≡ Some (tree.kill t) → Asks m (Kill t)
  kill-asks is = let a = kill-action (action m.state) t is in asks-by m (Kill t) a.0 a.1

  pub forked-is : (a : Asks m (Clone t)) → forked m ≡ called a.state (fork.after_clone (fork_of a.state) t) m
  unfolding forked
  forked-is a = ap (λ k. forked_by k m) a.is

  pub child-is : (k : ℕ) (a : Asks m (Clone t)) → child m k ≡ child_by (ask (Clone t) a.state) m k
  unfolding child
  child-is k a = ap (λ b. child_by b m k) a.is

  pub joined-is : (endings : List Ending) (a : Asks m (Join t)) → after_join m endings ≡ called a.state (fork.after_join (fork_of a.state) t endings) m
  unfolding after_join
  joined-is endings a = ap (λ k. joined_by k m endings) a.is

  pub killed-is : (a : Asks m (Kill t)) → after_kill m ≡ called a.state (fork.after_kill (fork_of a.state) t) m
  unfolding after_kill
  killed-is a = ap (λ k. killed_by k m) a.is

  -- a call does to the fork port what it says
  pub port-forked : call_of (next m) ≡ Some (tree.clone t) → port_of (forked m) ≡ fork.after_clone (port_of m) t
  port-forked is = let a = clone-asks is in ap port_of (forked-is a) ∙ ap (λ f. fork.after_clone f t) a.same

  pub port-joined : (endings : List Ending) → call_of (next m) ≡ Some (tree.join t) → port_of (after_join m endings) ≡ fork.after_join (port_of m) t endings
  port-joined endings is = let a = join-asks is in ap port_of (joined-is endings a) ∙ ap (λ f. fork.after_join f t endings) a.same

  pub port-killed : call_of (next m) ≡ Some (tree.kill t) → port_of (after_kill m) ≡ fork.after_kill (port_of m) t
  port-killed is = let a = kill-asks is in ap port_of (killed-is a) ∙ ap (λ f. fork.after_kill f t) a.same

  joined-values : (f : ForkRegisters) (endings : List Ending) → HasTicket f t true → (fork.after_join f t endings).joined ≡ endings
  unfolding fork.after_join
  joined-values f endings has = by (ticket_found f t) has
    where
      by : (found : Option Ticket) → IsSomeAnd found (λ (ticket : Ticket). ticket.is_cloned ≡ true) → (fork.joined_from found f t endings).joined ≡ endings
      by None h = absurd h
      by (Some ticket) h = refl

  pub values-joined : (endings : List Ending) → call_of (next m) ≡ Some (tree.join t) → (port_of (after_join m endings)).joined ≡ endings
  values-joined endings is =
      ap (λ (f : ForkRegisters). f.joined) (port-joined endings is) ∙ joined-values (port_of m) endings (join-asks is).makeable

  -- a child
  pub no-output : (k : ℕ) → call_of (next m) ≡ Some (tree.clone t) → (child m k).state.ports.console.output ≡ []
  no-output k is = ap (λ (n : Machine). n.state.ports.console.output) (child-is k (clone-asks is))

  pub port-child : (k : ℕ) → call_of (next m) ≡ Some (tree.clone t)
      → port_of (child m k) ≡ fork.child_registers (port_of (forked m)) k (share_of (ticket_found (port_of m) t))
  port-child k is =
      let a = clone-asks is in
      ap port_of (child-is k a)
      ∙ ap (λ f. fork.child_registers (fork.after_clone (fork_of a.state) t) k (share_of (ticket_found f t))) a.same
      ∙ ap (λ n. fork.child_registers (port_of n) k (share_of (ticket_found (port_of m) t))) (sym (forked-is a))

  pub sibling-child : (k : ℕ) → call_of (next m) ≡ Some (tree.clone t)
      → sibling_of (child m k).state ≡ sibling.at_start (children_of (ticket_found (port_of m) t))
  sibling-child k is =
      let a = clone-asks is in
      ap (λ (n : Machine). sibling_of n.state) (child-is k a) ∙ ap (λ f. sibling.at_start (children_of (ticket_found f t))) a.same

-- all else is as in its parent
pub child-as-parent : (m : Machine) (k : ℕ) → as_in_parent (child m k) (forked m) ≡ forked m
unfolding child forked
child-as-parent m k = by (action m.state)
  where
    by : (a : Action) → as_in_parent (child_by a m k) (forked_by a m) ≡ forked_by a m
    by (ask (Clone t) s) = refl
    by _ = refl
