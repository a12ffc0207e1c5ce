use Rattle.std.proofs.Common.{rules, ◌≡◌, ◌+◌, ℕ, List, [], false, length, drop, get_or, ap, sym, ◌∙◌, arith}
use Rattle.std.proofs.lemmas.List.{at_drop_more, drop_all}
use Rattle.shared_leaves.specs.Choices.{flags_of_runs}
use Rattle.vm_descriptor.specs.Maps.{runs}
use Rattle.vm_descriptor.proofs.RunLengths.{changes, changes_off, changes_on, count_runs, few_runs}
use Rattle.vm_descriptor.proofs.runs.run_count.Goals as goal

pub loop-run-preserved-then-goes_on : goal.loop-run-preserved-then-goes_on
loop-run-preserved-then-goes_on c =
    let lengths = c.args.lengths.now in
    let loop = c.loop-run in
    let i = loop.run-index in
    let on = changes_on loop.last loop.flag (get_or lengths i 0) (drop (i + 1) lengths) (sym c.goes_on.ensures ∙ c.if-goes_on.true) in
    let next = at_drop_more (λ (ls : List ℕ). changes loop.last (flags_of_runs loop.flag ls)) lengths i 0 c.loop-run-test.true in
    record { so_far = omega (arith, on, next, loop.invariant.so_far); few = omega (arith, loop.invariant.few) }

pub loop-run-preserved : goal.loop-run-preserved
loop-run-preserved c =
    let lengths = c.args.lengths.now in
    let loop = c.loop-run in
    let i = loop.run-index in
    let off = changes_off loop.last loop.flag (get_or lengths i 0) (drop (i + 1) lengths) (sym c.goes_on.ensures ∙ c.if-goes_on.false) in
    let next = at_drop_more (λ (ls : List ℕ). changes loop.last (flags_of_runs loop.flag ls)) lengths i 0 c.loop-run-test.true in
    record { so_far = omega (arith, off, next, loop.invariant.so_far); few = omega (arith, loop.invariant.few) }

pub returns-clause-value : goal.returns-clause-value
unfolding flags_of_runs
returns-clause-value c =
    let lengths = c.args.lengths.now in
    let loop = c.loop-run in
    let none : drop loop.run-index lengths ≡ [] = drop_all loop.run-index lengths (search rules) in
    let left : changes loop.last (flags_of_runs loop.flag (drop loop.run-index lengths)) ≡ 0 = ap (λ (ls : List ℕ). changes loop.last (flags_of_runs loop.flag ls)) none in
    omega (arith, loop.invariant.so_far, left, count_runs (flags_of_runs false lengths))

pub returns-clause-most : goal.returns-clause-most
returns-clause-most c =
    let flags = flags_of_runs false c.args.lengths.now in
    let value : c.loop-run.count ≡ length (runs flags) = returns-clause-value c in
    omega (arith, value, few_runs flags)
