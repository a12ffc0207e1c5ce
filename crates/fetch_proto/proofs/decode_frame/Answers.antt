use Rattle.fetch_proto.proofs.Frames.{told}
use Rattle.fetch_proto.proofs.decode_frame.Goals as goal

pub returns-clause-read_back : goal.returns-clause-read_back
returns-clause-read_back c = told c.args.bytes.now c.parts_of.result c.parts_of.ensures
