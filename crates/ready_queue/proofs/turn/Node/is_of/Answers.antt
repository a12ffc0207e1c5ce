use Rattle.std.proofs.Common.{◌≡◌, ℕ, eqb-true, Option, Some, sym, ap, ap₂, ◌∙◌}
use Rattle.forest_tree.specs.Tree.{Path}
use Rattle.machine_names.proofs.NameMaps.{is_eq-same, yes-same}
use Rattle.ready_queue.specs.Nodes.{ready_of}
use Rattle.ready_queue.specs.Ready.{Ready}
use Rattle.ready_queue.proofs.turn.Node.is_of.Goals as goal
use Rattle.ready_queue.proofs.turn.Node.is_of.Goals.{then-of-ticket, else-of-ticket}

pub returns-then-depth : goal.returns-then-depth
returns-then-depth c =
    let turn : Ready = ready_of c.args.self.now in
    let of : c.in-Some.of ≡ c.args.ticket = elim c.if-of-ticket.branch [
      | then-of-ticket w ↦ w.if-of-ticket.true
      | else-of-ticket w ↦ eqb-true c.in-Some.of c.args.ticket (sym w.value-is ∙ c.if-depth.true)
    ] in (
      λ yes. (
        c.in-Some.field-0-1,
        ap₂ (λ (name : Path) (children : Option (ℕ × ℕ)). let made : Ready = record { name = name; children = children } in made)
            (yes-same turn.name c.args.name.now (sym c.eq.ensures ∙ yes))
            (c.in-Some.is ∙ ap (λ ticket. let range : Option (ℕ × ℕ) = Some (ticket, c.in-Some.field-0-1) in range) of),
      ),
      λ theirs. c.eq.ensures ∙ is_eq-same turn.name c.args.name.now (ap (λ (made : Ready). made.name) theirs.1),
    )
