-- Code as the bytes of words.
use Rattle.std.proofs.Common.{◌≡◌, ℕ, ◌*◌, ◌%◌, ◌<◌, List, [], ◌∷◌, ◌++◌, length, refl, arith}
use Rattle.std.specs.Prelude.{All}
use Rattle.std.proofs.lemmas.List.Elements.{All-drop}
use Rattle.byteorder.specs.Endian.{little_number}
use Rattle.elf_load.specs.OneSegment.{word, bytes_of_words, words_of}

pub length-bytes_of_words : (words : List ℕ) → length (bytes_of_words words) ≡ 4 * length words
length-bytes_of_words [] = refl
length-bytes_of_words (x ∷ words) = omega (arith, length-bytes_of_words words)

same_four : {a b c d a' b' c' d' : ℕ} → a ≡ a' → b ≡ b' → c ≡ c' → d ≡ d' → a ∷ b ∷ c ∷ d ∷ [] ≡ a' ∷ b' ∷ c' ∷ d' ∷ []
same_four p q r s = cc

same_pieces : {xs xs' ys ys' : List ℕ} → xs ≡ xs' → ys ≡ ys' → xs ++ ys ≡ xs' ++ ys'
same_pieces p q = cc

-- four bytes are the bytes of their word
word-little_number : (a b c d : ℕ) → a < 256 → b < 256 → c < 256 → d < 256 → word (little_number 4 (a ∷ b ∷ c ∷ d ∷ [])) ≡ a ∷ b ∷ c ∷ d ∷ []
word-little_number a b c d ha hb hc hd = same_four (omega arith) (omega arith) (omega arith) (omega arith)

pub bytes_of_words-words_of : (code : List ℕ) → All (λ byte. byte < 256) code → length code % 4 ≡ 0 → bytes_of_words (words_of code) ≡ code
bytes_of_words-words_of [] bytes whole = refl
bytes_of_words-words_of (a ∷ []) bytes whole = absurd (omega arith)
bytes_of_words-words_of (a ∷ b ∷ []) bytes whole = absurd (omega arith)
bytes_of_words-words_of (a ∷ b ∷ c ∷ []) bytes whole = absurd (omega arith)
bytes_of_words-words_of (a ∷ b ∷ c ∷ d ∷ code) bytes whole =
    let first = word-little_number a b c d (bytes 0 0 (omega arith)) (bytes 1 0 (omega arith)) (bytes 2 0 (omega arith)) (bytes 3 0 (omega arith)) in
    let rest = bytes_of_words-words_of code (All-drop (λ byte. byte < 256) 4 (a ∷ b ∷ c ∷ d ∷ code) bytes) (omega arith) in
    same_pieces first rest
