use Rattle.std.proofs.Common.{rules, ◌≡◌, ◌+◌, [], drop, get_or, false, ap, ◌∙◌, arith}
use Rattle.std.specs.List.{sum}
use Rattle.std.proofs.lemmas.Bool.{eq-eqb, eqb-true}
use Rattle.std.proofs.lemmas.List.{at_drop_more, drop_all}
use Rattle.vm_descriptor.proofs.RunLengths.{length_of_runs, sum_then}
use Rattle.vm_descriptor.proofs.runs.are_as_many.Goals as goal

pub loop-run-preserved : goal.loop-run-preserved
loop-run-preserved c =
    let lengths = c.args.lengths.now in
    let i = c.loop-run.run-index in
    let next = at_drop_more sum lengths i 0 c.loop-run-test.true ∙ sum_then (get_or lengths i 0) (drop (i + 1) lengths) in
    omega (arith, next)

pub returns-then-run-pages_left : goal.returns-then-run-pages_left
returns-then-run-pages_left c =
    let lengths = c.args.lengths.now in
    let i = c.loop-run.run-index in
    let next = at_drop_more sum lengths i 0 c.loop-run-test.true ∙ sum_then (get_or lengths i 0) (drop (i + 1) lengths) in
    (λ is. absurd (cc), λ same. absurd (omega (arith, next, length_of_runs false lengths, same)))

pub returns : goal.returns
returns c =
    let lengths = c.args.lengths.now in
    let left = c.loop-run.pages_left in
    let none : drop c.loop-run.run-index lengths ≡ [] = drop_all c.loop-run.run-index lengths (search rules) in
    let rest = ap sum none in (
      λ is. omega (arith, rest, length_of_runs false lengths, eqb-true left 0 is),
      λ same. eq-eqb left 0 (omega (arith, rest, length_of_runs false lengths, same)),
    )
