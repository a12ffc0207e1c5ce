use Rattle.fork_port.specs.Tickets.{IsAt}
use Rattle.fork_port.proofs.TicketLemmas.{with_cloned_at, rising_with_cloned}
use Rattle.fork_port.proofs.tickets.TicketList.mark_cloned.Goals as goal

pub invariant_of-self : goal.invariant_of-self
invariant_of-self c =
    let is_at : IsAt c.self.inside.tickets.items c.args.number c.unwrap-at.result = rw c.self.view_is (rw c.unwrap-at.ensures at c.search.ensures.found) in
    let now = with_cloned_at _ _ _ c.index_mut.result.now c.index_mut.result.now c.self.invariant is_at c.index_mut.ensures.value in
    rw now (rising_with_cloned _ c.args.number c.self.invariant)

pub returns : goal.returns
returns c =
    let is_at : IsAt c.self.inside.tickets.items c.args.number c.unwrap-at.result = rw c.self.view_is (rw c.unwrap-at.ensures at c.search.ensures.found) in
    rw (← c.self.view_is)
    (with_cloned_at _ _ _ c.index_mut.result.now c.index_mut.result.now c.self.invariant is_at c.index_mut.ensures.value)
