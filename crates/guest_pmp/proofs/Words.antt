-- Entries match whole words of memory.
use Rattle.std.proofs.Common.{◌≡◌, ℕ, ◌+◌, ◌*◌, ◌/◌, ◌^◌, ◌<◌, ◌==◌, ◌&&◌, nat_le, nat_lt, refl, sym, ◌∙◌, arith}
use Rattle.std.proofs.lemmas.Bool.Decides.{nat_tests}
use Rattle.std.proofs.lemmas.Nat.{pow_pos}
use Rattle.std.specs.Int.{w32, trailing_ones}
use Rattle.guest_pmp.specs.Registers.{matching}
use Rattle.guest_pmp.specs.Regions.{Entry, block, entry_of, has}

-- an entry has the word of an address
pub has-word : (e : Entry) (address word : ℕ) → address / 4 ≡ word → has address e ≡ (nat_le e.first word && nat_lt word e.behind)
has-word e address word h = grind (arith, nat_tests)

-- an entry has the bytes of a word all or none
pub has-alike : (e : Entry) (a b : ℕ) → a / 4 ≡ b / 4 → has a e ≡ has b e
has-alike e a b h = has-word e a (b / 4) h ∙ sym (has-word e b (b / 4) refl)

-- the quotient is q just from q times n on, up to but not n more
pub same_quotient : (n q word : ℕ) → 0 < n → (word / n == q) ≡ (nat_le (q * n) word && nat_lt word (q * n + n))
same_quotient n q word h = grind (arith, nat_tests)

-- a naturally aligned block has a word just where their bits above its size are the same
pub has-block : (byte top address word : ℕ) → address / 4 ≡ word → has address (block byte top) ≡ (word / 2 ^ (trailing_ones w32 top + 1) == top / 2 ^ (trailing_ones w32 top + 1))
has-block byte top address word e =
    let n : ℕ = 2 ^ (trailing_ones w32 top + 1) in
    has-word (block byte top) address word e ∙ sym (same_quotient n (top / n) word (pow_pos (trailing_ones w32 top + 1)))

pub entry_of-block : (byte below word : ℕ) → 2 < matching byte → entry_of byte below word ≡ block byte word
entry_of-block byte below word h = grind (arith, nat_tests)
