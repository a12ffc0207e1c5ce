use Rattle.std.proofs.Common.{take, drop, sym, ap, ◌∙◌, drop-drop, arith}
use Rattle.shared_leaves.specs.Runs.{flags_from}
use Rattle.shared_leaves.proofs.RunLemmas.{flags_more}
use Rattle.shared_leaves.proofs.runs.Place.next_flags.Goals as goal

pub flags-preserved : goal.flags-preserved
flags-preserved c =
    let all = flags_from c.args.self.now c.args.runs.now in
    let at = c.flags.at in
    let count = c.take_run-count.result in
    let was = c.flags.invariant in
    let next = ap (λ fs. take count fs) (sym was.rest) ∙ c.take_run-count.ensures.flags in
    record {
      taken = flags_more c.flags.flags c.put_run.new.flags all at count c.take_run-count.new.self.flag was.taken next c.put_run.ensures.flags;
      rest = c.take_run-count.ensures.rest ∙ ap (λ fs. drop count fs) was.rest ∙ drop-drop count at all;
      inside = omega arith;
    }
