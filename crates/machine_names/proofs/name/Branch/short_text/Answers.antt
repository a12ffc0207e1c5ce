use Rattle.std.proofs.Common.{ap, arith}
use Rattle.std.proofs.lemmas.Fmt.{decimal_digit}
use Rattle.forest_tree.specs.Tree.{Branch}
use Rattle.machine_names.proofs.name.Branch.short_text.Goals as goal

pub returns : goal.returns
returns c =
    let ticket = ap (λ (b : Branch). b.ticket) c.self.view_is in
    let child = ap (λ (b : Branch). b.child) c.self.view_is in
    rw
    (← c.self.view_is, decimal_digit c.self.inside.ticket (omega (arith, ticket, c.requires.ticket)), decimal_digit c.self.inside.child (omega (arith, child, c.requires.child)))
