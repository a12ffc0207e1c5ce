use Rattle.std.proofs.Common.{◌∙◌, ap, take, arith}
use Rattle.io_edge.specs.Outside.{appended}
use Rattle.io_edge.proofs.Gone.{appended-take}
use Rattle.io_edge.proofs.outside.put_all.Goals as goal

pub loop-done-preserved : goal.loop-done-preserved
loop-done-preserved g c = record {
  within = omega (arith, c.split_at.ensures.back_len, c.in_ok-done.ensures.within);
  faultless = c.in_ok-done.ensures.faultless ∙ c.loop-done.invariant.faultless;
  out =
      c.in_ok-done.ensures.out
      ∙ ap (λ gone. appended gone (take c.in_ok-done.field-0 c.split_at.result.1.now)) c.loop-done.invariant.out
      ∙ ap (λ rest. appended (appended (g.K.Sink.gone c.args.sink.now) (take c.loop-done.done c.args.bytes.now)) (take c.in_ok-done.field-0 rest)) c.split_at.ensures.back
      ∙ appended-take (g.K.Sink.gone c.args.sink.now) c.args.bytes.now c.loop-done.done c.in_ok-done.field-0 c.loop-done.invariant.within;
}
