use Rattle.std.proofs.Common.{[], append-nil, sym, arith}
use Rattle.std.specs.Arc.{arc_value}
use Rattle.std.proofs.lemmas.Result.{err_from_is_err_and}
use Rattle.io_edge.proofs.Streaming.{all_wait, stops, then}
use Rattle.machine_names.specs.Name.{branch_text}
use Rattle.machine_names.proofs.Rows.{none-named, text-parts}
use Rattle.machine_names.proofs.name.Name.put_forks.Goals as goal

pub returns-then-self-eq0-clause-streams : goal.returns-then-self-eq0-clause-streams
returns-then-self-eq0-clause-streams g c =
    let none = none-named (arc_value c.self.inside.above) c.args.self.now c.self.inside.depth c.self.inside.last c.self.view_is c.if-self-eq0.true in
    rw none (all_wait _ _ [] _ tt (sym (append-nil _)))

pub returns-in_err-put_first-clause-streams : goal.returns-in_err-put_first-clause-streams
returns-in_err-put_first-clause-streams g c =
    let p = err_from_is_err_and c.from_residual.result c.from_residual.ensures.1 in
    let text = text-parts (arc_value c.self.inside.above) c.args.self.now c.self.inside.depth c.self.inside.last c.self.invariant c.self.view_is (omega arith) in
    rw (p.1, p.2, ← text, ← c.deref.ensures) (stops (branch_text c.self.inside.last) c.in_err-put_first.ensures.streams)

pub returns-clause-streams : goal.returns-clause-streams
returns-clause-streams g c =
    let text = text-parts (arc_value c.self.inside.above) c.args.self.now c.self.inside.depth c.self.inside.last c.self.invariant c.self.view_is (omega arith) in
    rw (← text, ← c.deref.ensures) (then c.in_ok-put_first.ensures.streams c.put.ensures.streams)
