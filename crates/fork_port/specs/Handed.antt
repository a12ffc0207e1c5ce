-- The bytes that a machine hands over as it ends.
use Rattle.std.specs.Prelude.{ℕ, List, length, take, min}
use Rattle.flat_memory.specs.Flat.{word_at, put_bytes, zeros}
use Rattle.fork_port.specs.declared.handed.Handed.{Handed}
use Rattle.fork_port.specs.declared.handed.TheConstants.{MAX_HANDED}

-- these bytes, and zeros behind them
unfoldable pub handed_of : List ℕ → Handed
handed_of bytes = record { count = length bytes; bytes = put_bytes (zeros MAX_HANDED) 0 bytes }

abbrev pub handed_count : Handed → ℕ
handed_count handed = handed.count

-- the bytes without the zeros behind them
unfoldable pub handed_bytes : Handed → List ℕ
handed_bytes handed = take (min handed.count MAX_HANDED) handed.bytes

-- the word at a place of the bytes and of the zeros behind them
abbrev pub handed_word : Handed → ℕ → ℕ
handed_word handed at = word_at handed.bytes at
