use Rattle.std.proofs.Common.{ap, Some}
use Rattle.io_edge.specs.Outside.{is_next_listed}
use Rattle.io_edge.specs.Files.{Shelved, file_named, found}
use Rattle.io_edge.proofs.Told.{given-Loads, at_most-Loads, too_long-Loads, fault-Loads, asked-Loads}
use Rattle.io_edge.proofs.memory.MemShelfShelf.TheImpl.Goals as goal

pub load-tells : goal.load-tells
load-tells c =
    let old = c.args.self.now in
    let name = c.args.name.now in
    let listed = is_next_listed old.failing old.calls in
    let file = file_named old.files name in
    record {
      same = ap (λ (shelf : Shelved). Some (file_named shelf.files)) c.ensures.after;
      counts = c.ensures.counts;
      given = given-Loads listed file c.args.at_most c.result c.ensures.loads;
      at_most = at_most-Loads (found old name) c.args.at_most c.result c.ensures.loads;
      too_long = too_long-Loads listed file c.args.at_most c.result c.ensures.loads;
      fault = fault-Loads (found old name) c.args.at_most c.result old c.new.self.now c.ensures.loads c.ensures.after;
      asked = asked-Loads name (found old name) c.args.at_most c.result old c.new.self.now c.ensures.loads c.ensures.after;
    }
