-- The hexadecimal digits of a word: two for each of its bytes.
use Rattle.std.proofs.Common.{◌≡◌, ℕ, nat_lt, lit≤, List, ◌∷◌, refl, ap₂, arith}
use Rattle.std.proofs.lemmas.Str.{IsUtf8-from_ascii}
use Rattle.std.proofs.lemmas.Str.Ascii.{IsAscii-from_reads}
use borrow.Author.Tests.{ltb-true}
use Rattle.std.specs.Int.{to_be_bytes}
use Rattle.std.specs.Str.{IsAscii, IsUtf8}
use mir.Syntax.{w32}
use Rattle.hex.proofs.HexLemmas.{IsAscii-encode_with}
use Rattle.hex.specs.Hex.{encode_with, encode_lower, lower_digits}
use Rattle.drive_script.specs.Told.{hexadecimal, word_text}
use Rattle.drive_script.proofs.WrittenWords.{all_pass-at, digit_of}

one-more : (a b : ℕ) (xs ys : List ℕ) → a ≡ b → xs ≡ ys → digit_of a ∷ xs ≡ digit_of b ∷ ys
one-more a b xs ys e f = ap₂ (λ x rest. digit_of x ∷ rest) e f

pub word-digits : (n : ℕ) → encode_lower (to_be_bytes w32 n) ≡ word_text n
unfolding encode_with hexadecimal
word-digits n =
    one-more _ _ _ _ (omega arith)
    (one-more _ _ _ _ (omega arith)
    (one-more _ _ _ _ (omega arith)
    (one-more _ _ _ _ (omega arith)
    (one-more _ _ _ _ (omega arith)
    (one-more _ _ _ _ (omega arith)
    (one-more _ _ _ _ (omega arith)
    (one-more _ _ _ _ (omega arith) refl)))))))

lower-ascii : IsAscii lower_digits
lower-ascii =
    IsAscii-from_reads lower_digits 16 (lit≤ tt)
    (λ k below. ltb-true (digit_of k) 128 (all_pass-at (λ n. nat_lt (digit_of n) 128) 16 k refl below))

pub hex-is-text : (bytes : List ℕ) → IsUtf8 (encode_lower bytes)
hex-is-text bytes = IsUtf8-from_ascii (encode_lower bytes) (IsAscii-encode_with lower_digits bytes lower-ascii)
