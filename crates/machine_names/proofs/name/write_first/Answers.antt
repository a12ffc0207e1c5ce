use Rattle.std.proofs.Common.{◌≡◌, ◌<◌, get_or, get_or-take, length, length-take-le, take, refl, sym, ◌∙◌, arith}
use Rattle.machine_names.proofs.Written.{branch-more}
use Rattle.machine_names.proofs.name.write_first.Goals as goal

pub branches-preserved : goal.branches-preserved
branches-preserved g c = λ plain.
    let all = c.args.branches.now in
    let within : c.branches.at < length (take c.args.count all) = omega (arith, c.branches-test.true, length-take-le c.args.count all c.requires) in
    let read : c.get.result.now ≡ get_or (take c.args.count all) c.branches.at c.get.result.now
    = c.get.ensures ∙ sym (get_or-take c.args.count all c.branches.at c.get.result.now c.branches-test.true) in
    let before = c.branches.invariant plain in
    branch-more g.W.Write.write_str_gives _ _ _ (take c.args.count all) c.branches.at c.get.result.now within read before
    (c.in_ok-write_branch.ensures before.plain refl)
