use Rattle.std.proofs.Common.{◌≡◌, ◌<◌, get_or, get_or-take, length, length-take-le, take, sym, ◌∙◌, arith}
use Rattle.std.proofs.lemmas.Result.{err_from_is_err_and}
use Rattle.io_edge.proofs.Streaming.{one_more, stops_at}
use Rattle.machine_names.specs.Name.{branch_text}
use Rattle.machine_names.proofs.name.put_first.Goals as goal

pub returns-in_err-put-clause-streams : goal.returns-in_err-put-clause-streams
returns-in_err-put-clause-streams g c =
    let p = err_from_is_err_and c.from_residual.result c.from_residual.ensures.1 in
    let all = c.args.branches.now in
    let within : c.branches.at < length (take c.args.count all) = omega (arith, c.branches-test.true, length-take-le c.args.count all c.requires) in
    let read : c.get.result.now ≡ get_or (take c.args.count all) c.branches.at c.get.result.now
    = c.get.ensures ∙ sym (get_or-take c.args.count all c.branches.at c.get.result.now c.branches-test.true) in
    rw (p.1, p.2)
    (stops_at branch_text (take c.args.count all) c.branches.at c.get.result.now within read c.branches.invariant.streams c.in_err-put.ensures.streams)

pub branches-preserved : goal.branches-preserved
branches-preserved g c =
    let all = c.args.branches.now in
    let within : c.branches.at < length (take c.args.count all) = omega (arith, c.branches-test.true, length-take-le c.args.count all c.requires) in
    let read : c.get.result.now ≡ get_or (take c.args.count all) c.branches.at c.get.result.now
    = c.get.ensures ∙ sym (get_or-take c.args.count all c.branches.at c.get.result.now c.branches-test.true) in
    record {
      counts = omega (arith, c.branches.invariant.counts, c.put.ensures.counts);
      streams = one_more branch_text (take c.args.count all) c.branches.at c.get.result.now within read c.branches.invariant.streams c.in_ok-put.ensures.streams;
    }
