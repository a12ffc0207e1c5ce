use Rattle.std.proofs.Common.{rules, ◌≡◌, ◌++◌, ◌+◌, ℕ, List, [], false, drop, get_or, append-nil, ap, sym, ◌∙◌, arith}
use Rattle.std.specs.Prelude.{Bool, not}
use Rattle.std.specs.List.{flat_map, sum}
use Rattle.std.proofs.lemmas.List.{append_assoc, at_drop_more, drop_all}
use Rattle.std.proofs.lemmas.Result.{on_ok_weaker}
use Rattle.shared_leaves.specs.Choices.{flags_of_runs}
use Rattle.vm_descriptor.specs.Maps.{half, runs, runs_behind}
use Rattle.vm_descriptor.proofs.RunLengths.{length_of_runs, run_off, run_on, sum_then}
use Rattle.vm_descriptor.proofs.runs.push_runs.Goals as goal

pub overflow_add-count : goal.overflow_add-count
overflow_add-count c =
    let lengths = c.args.lengths.now in
    let i = c.loop-run.run-index in
    let next = at_drop_more sum lengths i 0 c.loop-run-test.true ∙ sum_then (get_or lengths i 0) (drop (i + 1) lengths) in
    omega (arith, next, length_of_runs false lengths, c.loop-run.invariant.few)

pub loop-run-preserved-then-goes_on : goal.loop-run-preserved-then-goes_on
loop-run-preserved-then-goes_on c =
    let lengths = c.args.lengths.now in
    let loop = c.loop-run in
    let i = loop.run-index in
    let run = get_or lengths i 0 in
    let later = drop (i + 1) lengths in
    let on = run_on loop.last loop.count loop.flag run later (sym c.goes_on.ensures ∙ c.if-goes_on.true) in
    let next = at_drop_more (λ (ls : List ℕ). runs_behind loop.last loop.count (flags_of_runs loop.flag ls)) lengths i 0 c.loop-run-test.true in
    let left = at_drop_more sum lengths i 0 c.loop-run-test.true ∙ sum_then run later in
    record {
      so_far = ap (λ (rs : List ℕ). loop.bytes.items ++ flat_map half rs) (sym (next ∙ on)) ∙ loop.invariant.so_far;
      few = omega (arith, left, loop.invariant.few);
    }

pub loop-run-preserved : goal.loop-run-preserved
loop-run-preserved c =
    let lengths = c.args.lengths.now in
    let loop = c.loop-run in
    let i = loop.run-index in
    let run = get_or lengths i 0 in
    let later = drop (i + 1) lengths in
    let others = runs_behind loop.flag run (flags_of_runs (not loop.flag) later) in
    let off = run_off loop.last loop.count loop.flag run later (sym c.goes_on.ensures ∙ c.if-goes_on.false) in
    let next = at_drop_more (λ (ls : List ℕ). runs_behind loop.last loop.count (flags_of_runs loop.flag ls)) lengths i 0 c.loop-run-test.true in
    let left = at_drop_more sum lengths i 0 c.loop-run-test.true ∙ sum_then run later in
    record {
      so_far =
          ap (λ (xs : List ℕ). xs ++ flat_map half others) c.in_ok-push_length.ensures
          ∙ (append_assoc loop.bytes.items (half loop.count) (flat_map half others)
          ∙ (ap (λ (rs : List ℕ). loop.bytes.items ++ flat_map half rs) (sym (next ∙ off)) ∙ loop.invariant.so_far));
      few = omega (arith, left, loop.invariant.few);
    }

ends : (bytes xs : List ℕ) (last : Bool) (count : ℕ) (flags : List Bool) → flags ≡ [] → bytes ++ flat_map half (runs_behind last count flags) ≡ xs → bytes ++ half count ≡ xs
unfolding runs_behind
ends bytes xs last count flags none is =
    ap (λ (ys : List ℕ). bytes ++ ys) (sym (append-nil (half count)))
    ∙ (ap (λ (fs : List Bool). bytes ++ flat_map half (runs_behind last count fs)) (sym none) ∙ is)

no_runs : (flag : Bool) (lengths : List ℕ) → lengths ≡ [] → flags_of_runs flag lengths ≡ []
unfolding flags_of_runs
no_runs flag lengths none = ap (λ (ls : List ℕ). flags_of_runs flag ls) none

pub returns : goal.returns
returns c =
    let lengths = c.args.lengths.now in
    let loop = c.loop-run in
    let none = no_runs loop.flag (drop loop.run-index lengths) (drop_all loop.run-index lengths (search rules)) in
    let whole =
    ends loop.bytes.items (c.args.bytes.now.items ++ flat_map half (runs (flags_of_runs false lengths))) loop.last loop.count (flags_of_runs loop.flag (drop loop.run-index lengths)) none
    loop.invariant.so_far in
    on_ok_weaker c.push_length-2.result (λ added. added ∙ whole) c.push_length-2.ensures
