use Rattle.flat_memory.proofs.Bytes.{get_or-put_bytes, get_or-put_bytes_outside, length-put_bytes}
use Rattle.flat_memory.proofs.laws.write_changes_its_bytes.Goals as goal

pub returns : goal.returns
returns c = record { written = get_or-put_bytes; others = get_or-put_bytes_outside; length_stays = length-put_bytes }
