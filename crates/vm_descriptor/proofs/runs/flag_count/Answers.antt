use Rattle.std.proofs.Common.{rules, ◌≡◌, ◌+◌, [], false, drop, get_or, ap, ◌∙◌, arith}
use Rattle.std.specs.List.{sum}
use Rattle.std.proofs.lemmas.List.{at_drop_more, drop_all}
use Rattle.vm_descriptor.proofs.RunLengths.{length_of_runs, sum_then}
use Rattle.vm_descriptor.proofs.runs.flag_count.Goals as goal

pub overflow_add-count : goal.overflow_add-count
overflow_add-count c =
    let lengths = c.args.lengths.now in
    let i = c.loop-run.run-index in
    let next = at_drop_more sum lengths i 0 c.loop-run-test.true ∙ sum_then (get_or lengths i 0) (drop (i + 1) lengths) in
    omega (arith, next, length_of_runs false lengths)

pub loop-run-preserved : goal.loop-run-preserved
loop-run-preserved c =
    let lengths = c.args.lengths.now in
    let i = c.loop-run.run-index in
    let next = at_drop_more sum lengths i 0 c.loop-run-test.true ∙ sum_then (get_or lengths i 0) (drop (i + 1) lengths) in
    omega (arith, next)

pub returns : goal.returns
returns c =
    let lengths = c.args.lengths.now in
    let none : drop c.loop-run.run-index lengths ≡ [] = drop_all c.loop-run.run-index lengths (search rules) in
    let rest = ap sum none in
    omega (arith, rest, length_of_runs false lengths)
