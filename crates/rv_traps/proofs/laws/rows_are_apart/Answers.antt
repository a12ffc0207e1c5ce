use Rattle.rv_traps.proofs.Rows.{AllPairs-rows, csr_of-is_of}
use Rattle.rv_traps.proofs.laws.rows_are_apart.Goals as goal

pub returns : goal.returns
returns c = record { apart = AllPairs-rows; csr = csr_of-is_of }
