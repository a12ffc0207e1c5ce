-- A memory is one flat list of bytes. Numbers lie in it little endian, the lowest byte first.
use Rattle.std.specs.Prelude.{ℕ, ◌+◌, List, ◌++◌, length, take, drop, replicate}
use Rattle.byteorder.specs.Endian.{little_from}

-- the number in the four bytes from `at`
abbrev pub word_at : List ℕ → ℕ → ℕ
word_at memory at = little_from at 4 memory

-- the number in the two bytes from `at`
abbrev pub half_at : List ℕ → ℕ → ℕ
half_at memory at = little_from at 2 memory

-- the memory with `bytes` from `at` on
abbrev pub put_bytes : List ℕ → ℕ → List ℕ → List ℕ
put_bytes memory at bytes = take at memory ++ (bytes ++ drop (at + length bytes) memory)

-- n zero bytes
unfoldable pub zeros : ℕ → List ℕ
zeros n = replicate n 0
