-- The numbers of tickets are given in turn.
use Rattle.std.proofs.Common.{◌≡◌, ℕ, ◌+◌, ◌≤◌, eqb, Option, Some, None, List, refl, ap, ◌∙◌, arith}
use Rattle.fork_port.specs.declared.commands.Call.TheVariants as call
use Rattle.fork_port.specs.declared.commands.Asked.{Asked}
use Rattle.fork_port.specs.declared.commands.Asked.TheVariants as asked
use Rattle.fork_port.specs.declared.ending.Ending.{Ending}
use Rattle.fork_port.specs.declared.tickets.Ticket.{Ticket}
use Rattle.fork_port.specs.Registers.{ForkRegisters, ticket_found}
use Rattle.fork_port.specs.Children.{children_granted, after_ticket, joined_from, after_join, killed_from, after_kill}
use Rattle.fork_port.specs.Commands.{answered, fork_command}
use Rattle.fork_port.proofs.TicketLemmas.{either}
use Rattle.fork_port.proofs.StoreLemmas.{each_store}
use Rattle.forest_model.specs.Action.{Action, ask}
use Rattle.forest_model.specs.Execute.{action}
use Rattle.forest_model.specs.Machine.{Machine, advance}
use Rattle.forest_model.specs.Calls as calls
use Rattle.forest_model.specs.Forest.{port_of}
use Rattle.sibling_port.specs.Registers.{SiblingRegisters}
use Rattle.forest_model.proofs.PortWalk.{IsKept, Ported, action-ported, fork-kept, port-advance, same-fork, sibling_of}

abbrev Rises : ForkRegisters → ForkRegisters → Type 0
Rises f g = g.next_ticket ≤ f.next_ticket + 1

next-after_join : (f : ForkRegisters) (number : ℕ) (endings : List Ending) → (after_join f number endings).next_ticket ≡ f.next_ticket
unfolding after_join
next-after_join f number endings = by (ticket_found f number)
  where
    by : (found : Option Ticket) → (joined_from found f number endings).next_ticket ≡ f.next_ticket
    by None = refl
    by (Some ticket) = refl

next-after_kill : (f : ForkRegisters) (number : ℕ) → (after_kill f number).next_ticket ≡ f.next_ticket
unfolding after_kill
next-after_kill f number = by (ticket_found f number)
  where
    by : (found : Option Ticket) → (killed_from found f number).next_ticket ≡ f.next_ticket
    by None = refl
    by (Some ticket) = refl

Rises-after_ticket : (f : ForkRegisters) → Rises f (after_ticket f)
unfolding after_ticket
Rises-after_ticket f =
    either (Rises f) (eqb f.first_argument 0) _ _ (omega arith) (either (Rises f) (eqb (children_granted f) 0) _ _ (omega arith) (omega arith))

Rises-answered : (f : ForkRegisters) (a : Asked) → Rises f (answered a f)
Rises-answered f (asked.Refused word) = omega arith
Rises-answered f asked.NewTicket = Rises-after_ticket f
Rises-answered f (asked.Discard number) = omega (arith, next-after_kill f number)
Rises-answered f (asked.Call c) = omega arith
Rises-answered f (asked.Exit value) = omega arith
Rises-answered f (asked.ExitWith value address count) = omega arith
Rises-answered f (asked.Zero first count) = omega arith

Rises-kept : (f : ForkRegisters) (r : SiblingRegisters) → IsKept (λ g q. Rises f g) f r
Rises-kept f r =
    fork-kept (Rises f) f r (omega arith)
    (λ offset width word.
    each_store (λ s. Rises f s.fork) f offset width word (omega arith) (omega arith) (omega arith) (Rises-answered f (fork_command f word)))
    (λ g word h. h)

pub next-advance : (m : Machine) → (port_of (advance m)).next_ticket ≤ (port_of m).next_ticket + 1
next-advance m = port-advance (λ g q. Rises (port_of m) g) m (Rises-kept (port_of m) (sibling_of m.state))

-- a call gives none
module _ (m : Machine) where
  abbrev Leads : Action → Type 0
  Leads a = Ported (λ g q. Rises (port_of m) g) m.state a

  asked-port : Leads (action m.state)
  asked-port = action-ported (λ g q. Rises (port_of m) g) m.state (Rises-kept (port_of m) (sibling_of m.state))

  pub next-forked : (port_of (calls.forked m)).next_ticket ≡ (port_of m).next_ticket
  unfolding calls.forked
  next-forked = by (action m.state) asked-port
    where
      by : (a : Action) → Leads a → (port_of (calls.forked_by a m)).next_ticket ≡ (port_of m).next_ticket
      by (ask (call.Clone t) s) h = ap (λ (f : ForkRegisters). f.next_ticket) (same-fork h)
      by _ h = refl

  pub next-joined : (endings : List Ending) → (port_of (calls.after_join m endings)).next_ticket ≡ (port_of m).next_ticket
  unfolding calls.after_join
  next-joined endings = by (action m.state) asked-port
    where
      by : (a : Action) → Leads a → (port_of (calls.joined_by a m endings)).next_ticket ≡ (port_of m).next_ticket
      by (ask (call.Join t) s) h = next-after_join (calls.fork_of s) t endings ∙ ap (λ (f : ForkRegisters). f.next_ticket) (same-fork h)
      by _ h = refl

  pub next-killed : (port_of (calls.after_kill m)).next_ticket ≡ (port_of m).next_ticket
  unfolding calls.after_kill
  next-killed = by (action m.state) asked-port
    where
      by : (a : Action) → Leads a → (port_of (calls.killed_by a m)).next_ticket ≡ (port_of m).next_ticket
      by (ask (call.Kill t) s) h = next-after_kill (calls.fork_of s) t ∙ ap (λ (f : ForkRegisters). f.next_ticket) (same-fork h)
      by _ h = refl
