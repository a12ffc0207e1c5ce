use Rattle.std.specs.List.{flat_map}
use Rattle.std.proofs.lemmas.Result.{err_from_is_err_and}
use Rattle.io_edge.proofs.Streaming.{stops, then}
use Rattle.machine_names.specs.Name.{branch_text}
use Rattle.machine_names.proofs.name.Name.put.Goals as goal

pub returns-in_err-put-clause-streams : goal.returns-in_err-put-clause-streams
returns-in_err-put-clause-streams g c =
    let p = err_from_is_err_and c.from_residual.result c.from_residual.ensures.1 in
    rw (p.1, p.2) (stops (flat_map branch_text c.args.self.now) c.in_err-put.ensures.streams)

pub returns-clause-streams : goal.returns-clause-streams
returns-clause-streams g c = then c.in_ok-put.ensures.streams c.put_forks.ensures.streams
