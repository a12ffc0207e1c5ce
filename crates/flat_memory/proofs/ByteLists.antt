-- Lists of bytes.
use Rattle.std.proofs.Common.{◌<◌, ℕ, List, get_or}

-- each of a list is a byte
abbrev pub AreBytes : List ℕ → Type 0
AreBytes xs = (i : ℕ) → get_or xs i 0 < 256
