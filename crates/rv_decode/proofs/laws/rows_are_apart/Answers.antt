use Rattle.rv_decode.proofs.Rows.{AllPairs-rows, kind_of_word-matches}
use Rattle.rv_decode.proofs.laws.rows_are_apart.Goals as goal

pub returns : goal.returns
returns c = record { apart = AllPairs-rows; kind = kind_of_word-matches }
