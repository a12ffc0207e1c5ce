use Rattle.std.proofs.Common.{Some, ap, sym, ◌∙◌}
use Rattle.fork_port.specs.Tickets.{IsAt}
use Rattle.fork_port.proofs.TicketLemmas.{remove_at, rising_without, ticket_of_at}
use Rattle.fork_port.proofs.tickets.TicketList.remove.Goals as goal

pub invariant_of-self : goal.invariant_of-self
invariant_of-self c =
    let is_at : IsAt c.self.inside.tickets.items c.args.number c.unwrap-at.result = rw c.self.view_is (rw c.unwrap-at.ensures at c.search.ensures.found) in
    rw (c.remove.ensures.items, remove_at _ _ _ c.self.invariant is_at) (rising_without _ c.args.number c.self.invariant)

pub returns-clause-value : goal.returns-clause-value
returns-clause-value c =
    let is_at : IsAt c.self.inside.tickets.items c.args.number c.unwrap-at.result = rw c.self.view_is (rw c.unwrap-at.ensures at c.search.ensures.found) in
    rw (← c.self.view_is)
    (ticket_of_at _ _ _ c.remove.result c.self.invariant is_at ∙ ap Some (sym c.remove.ensures.value))

pub returns-clause-others : goal.returns-clause-others
returns-clause-others c =
    let is_at : IsAt c.self.inside.tickets.items c.args.number c.unwrap-at.result = rw c.self.view_is (rw c.unwrap-at.ensures at c.search.ensures.found) in
    rw (← c.self.view_is) (c.remove.ensures.items ∙ remove_at _ _ _ c.self.invariant is_at)
