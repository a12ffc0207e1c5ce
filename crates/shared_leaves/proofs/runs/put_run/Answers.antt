use Rattle.std.proofs.Common.{take, arith}
use Rattle.shared_leaves.proofs.RunLemmas.{put_more}
use Rattle.shared_leaves.proofs.runs.put_run.Goals as goal

pub loop-i-preserved : goal.loop-i-preserved
loop-i-preserved c =
    put_more c.loop-i.flags (take c.args.begin c.args.flags.now) c.args.begin c.loop-i.i c.args.flag c.loop-i.auto.i
    (omega (arith, c.loop-i.auto.flags, c.loop-i-test.true, c.requires.inside)) c.loop-i.invariant
