use Rattle.io_edge.proofs.Told.{within-Puts, out-Puts, none_out-Puts, fault-Puts, faultless-Puts}
use Rattle.io_edge.proofs.memory.MemSinkSink.TheImpl.Goals as goal

pub put-tells : goal.put-tells
put-tells c =
    let old = c.args.self.now in
    let new = c.new.self.now in
    let piece = c.args.piece.now in
    record {
      counts = c.ensures.counts;
      within = within-Puts old new piece c.result c.ensures.puts;
      some = c.ensures.some;
      out = out-Puts old new piece c.result c.ensures.puts;
      none_out = none_out-Puts old new piece c.result c.ensures.puts;
      fault = fault-Puts old new piece c.result c.ensures.puts;
      faultless = faultless-Puts old new piece c.result c.ensures.puts;
    }
