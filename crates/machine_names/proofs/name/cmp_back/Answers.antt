use Rattle.std.proofs.Common.{◌-◌, take, sym, ap, ◌∙◌, arith}
use Rattle.std.specs.Ordering.{ordering_then}
use Rattle.machine_names.specs.NameOrder.{back_cmp}
use Rattle.machine_names.proofs.Back.{decided, last-of-run, run-back, undecided}
use Rattle.machine_names.proofs.name.cmp_back.Goals as goal

pub returns-then-is_ne : goal.returns-then-is_ne
returns-then-is_ne c =
    let rest = c.runs.rest in
    let len = c.min-len.result in
    let begin = rest - len in
    let left = c.args.left.now in
    let right = c.args.right.now in
    let before = back_cmp (take begin left) (take begin right) in
    let parts = run-back left right c.split_at.result.1.now c.split_at-in-runs.result.1.now begin rest (omega arith)
    (omega (arith, c.requires.left, c.runs.invariant.within)) (omega (arith, c.requires.right, c.runs.invariant.within))
    (last-of-run left c.run_before-ours.result.now c.split_at.result.1.now rest len (omega (arith, c.min-len.ensures)) c.run_before-ours.ensures.most
    c.run_before-ours.ensures.run c.split_at.ensures.back)
    (last-of-run right c.run_before-theirs.result.now c.split_at-in-runs.result.1.now rest len (omega (arith, c.min-len.ensures))
    c.run_before-theirs.ensures.most c.run_before-theirs.ensures.run c.split_at-in-runs.ensures.back) in
    decided c.cmp_run_back-order.result before (sym c.if-is_ne.ensures) ∙ ap (λ o. ordering_then o before) c.cmp_run_back-order.ensures
    ∙ sym parts ∙ sym c.runs.invariant.same

pub runs-preserved : goal.runs-preserved
runs-preserved c =
    let rest = c.runs.rest in
    let len = c.min-len.result in
    let begin = rest - len in
    let left = c.args.left.now in
    let right = c.args.right.now in
    let before = back_cmp (take begin left) (take begin right) in
    let parts = run-back left right c.split_at.result.1.now c.split_at-in-runs.result.1.now begin rest (omega arith)
    (omega (arith, c.requires.left, c.runs.invariant.within)) (omega (arith, c.requires.right, c.runs.invariant.within))
    (last-of-run left c.run_before-ours.result.now c.split_at.result.1.now rest len (omega (arith, c.min-len.ensures)) c.run_before-ours.ensures.most
    c.run_before-ours.ensures.run c.split_at.ensures.back)
    (last-of-run right c.run_before-theirs.result.now c.split_at-in-runs.result.1.now rest len (omega (arith, c.min-len.ensures))
    c.run_before-theirs.ensures.most c.run_before-theirs.ensures.run c.split_at-in-runs.ensures.back) in
    record {
      within = omega (arith, c.runs.invariant.within);
      same =
          c.runs.invariant.same ∙ parts
          ∙ ap (λ o. ordering_then o before) (sym c.cmp_run_back-order.ensures ∙ undecided c.cmp_run_back-order.result (sym c.if-is_ne.ensures));
    }
