use Rattle.std.proofs.Common.{rules, ◌≡◌, ◌+◌, ◌++◌, [], ℕ, List, drop, get_or, replicate, append-nil, ap, sym, ◌∙◌}
use Rattle.std.specs.Prelude.{Bool, not}
use Rattle.std.proofs.lemmas.List.{append_assoc, at_drop_more, drop_all}
use Rattle.shared_leaves.specs.Choices.{flags_of_runs}
use Rattle.vm_descriptor.proofs.runs.flags_in_runs.Goals as goal

pub loop-run-preserved : goal.loop-run-preserved
unfolding flags_of_runs
loop-run-preserved c =
    let lengths = c.args.lengths.now in
    let i = c.loop-run.run-index in
    let flag = c.loop-run.flag in
    let items = c.loop-run.flags.items in
    let run = get_or lengths i 0 in
    let later = flags_of_runs (not flag) (drop (i + 1) lengths) in
    ap (λ (fs : List Bool). fs ++ later) c.in_ok-push_run.ensures
    ∙ (append_assoc items (replicate run flag) later
    ∙ (ap (λ (fs : List Bool). items ++ fs) (sym (at_drop_more (flags_of_runs flag) lengths i 0 c.loop-run-test.true)) ∙ c.loop-run.invariant))

pub returns : goal.returns
unfolding flags_of_runs
returns c =
    let lengths = c.args.lengths.now in
    let none : drop c.loop-run.run-index lengths ≡ [] = drop_all c.loop-run.run-index lengths (search rules) in
    sym (append-nil c.loop-run.flags.items)
    ∙ (ap (λ (ls : List ℕ). c.loop-run.flags.items ++ flags_of_runs c.loop-run.flag ls) (sym none) ∙ c.loop-run.invariant)
