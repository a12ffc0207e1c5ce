use Rattle.vm_descriptor.proofs.FieldsRead.{csrs_read}
use Rattle.vm_descriptor.proofs.read.csrs_at.Goals as goal

pub returns : goal.returns
returns c =
    csrs_read c.words_at.result c.doubles_at.result c.args.bytes.now c.mode_of.result c.mstatus_in.result c.args.pmp c.words_at.ensures c.doubles_at.ensures
    c.mode_of.ensures c.mstatus_in.ensures
