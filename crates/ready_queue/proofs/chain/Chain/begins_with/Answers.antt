use Rattle.std.proofs.Common.{sym, ap, ◌∙◌, subst}
use Rattle.ready_queue.specs.Nodes.{turns_of, ready_of}
use Rattle.ready_queue.specs.Ready.{IsOfTicket}
use Rattle.ready_queue.specs.declared.turn.Node.{out-Node}
use Rattle.ready_queue.proofs.NodeLists.{turns_from_out}
use Rattle.ready_queue.proofs.chain.Chain.begins_with.Goals as goal

pub returns-in-Some : goal.returns-in-Some
returns-in-Some c = λ yes.
    let node = c.in-Some.node.value in
    record {
      turn = ready_of node;
      of = subst (λ n. IsOfTicket c.args.name.now c.args.ticket (ready_of n)) c.deref.ensures (c.is_of.ensures.0 yes);
      rest = turns_of (out-Node node).next;
      is = sym c.self.view_is ∙ ap turns_of c.in-Some.is ∙ turns_from_out node;
    }
