use Rattle.std.proofs.Common.{length, ap, ◌∙◌, arith}
use Rattle.std.proofs.lemmas.List.{take_all}
use Rattle.machine_names.specs.Forks.{named}
use Rattle.machine_names.proofs.Rows.{named-whole}
use Rattle.machine_names.proofs.name.Name.of_forks.Goals as goal

pub invariant_of-result : goal.invariant_of-result
invariant_of-result c = omega (arith, c.last_of-last.ensures.within, ap length c.in_ok-new.ensures.ok)

pub returns : goal.returns
returns c =
    ap (named c.len-depth.result c.last_of-last.result) c.in_ok-new.ensures.ok
    ∙ named-whole c.args.forks c.len-depth.result c.last_of-last.result c.last_of-last.ensures
    ∙ take_all c.len-depth.result c.args.forks (omega (arith, c.len-depth.ensures))
