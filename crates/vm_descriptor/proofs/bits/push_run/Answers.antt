use Rattle.std.proofs.Common.{◌≡◌, ◌+◌, ◌-◌, ◌/◌, ◌%◌, ◌++◌, ℕ, List, replicate, ap, ◌∙◌, arith}
use Rattle.vm_descriptor.specs.Maps.{bits_of, whole_byte}
use Rattle.vm_descriptor.proofs.BitRuns.{run_added}
use Rattle.vm_descriptor.proofs.bits.push_run.Goals as goal

pub returns-clause-added : goal.returns-clause-added
unfolding bits_of
returns-clause-added c = λ later.
    let flag = c.args.flag in
    let count = c.args.last.count in
    let end = count + c.from.result in
    let same : end % 8 - 0 ≡ end % 8 = omega arith in
    run_added c.args.bytes.now.items _ flag count c.args.last.byte c.args.run c.filled.result (end / 8 - 1) (end % 8) c.filled-byte-2.result later c.filled.ensures.bits c.filled.ensures.below
    (omega arith) (c.filled-byte-2.ensures.bits ∙ ap (λ (n : ℕ). replicate n flag) same)
    (c.in_ok-push_whole.ensures ∙ ap (λ (bs : List ℕ). bs ++ replicate (end / 8 - 1) (whole_byte flag)) c.in_ok-push.ensures.items)
