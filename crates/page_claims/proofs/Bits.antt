-- Single bits of a row of words, and how often a bit stands in a list.
use Rattle.std.proofs.Common.{◌≡◌, ◌≢◌, ◌⊎◌, ℕ, zero, suc, ◌+◌, ◌*◌, ◌/◌, ◌%◌, ◌^◌, ◌<◌, ◌≤◌, List, [], ◌∷◌, ◌++◌, length, get_or, set}
use Rattle.std.proofs.Common.{replicate, cond, eqb, refl, sym, ap, ◌∙◌, subst, inl, inr, ⊎_elim, eq-eqb, ne_eqb, arith}
use Rattle.std.specs.Prelude.{bit_and, bit_or, slice_index}
use Rattle.std.specs.Int.{bit_at}
use Rattle.std.specs.List.{All}
use mathlib.Core.Logic.{dite}
use native.Mathlib.Decide.{ℕ_discrete}
use mir.Syntax.{w64}
use Rattle.std.proofs.Math.Nat.{add-zero, le-max_left}
use Rattle.std.proofs.lemmas.Nat.{pow_pos}
use Rattle.std.proofs.lemmas.Nat.Bits.{bit_at-zero, bit_at-lt, and_pow, bit_at_set_same, bit_at_set_other}
use Rattle.std.proofs.lemmas.Grind.{one_shifted}
use Rattle.std.proofs.lemmas.List.{get_or-set_same, get_or-set_other}
use Rattle.std.proofs.lemmas.List.Sums.{sum_by-cons, sum_by-append, sum_by_push}
use Rattle.std.proofs.lemmas.List.Elements.{All-head, All-tail}
use Rattle.page_claims.specs.Bits.{bit_of, mask_of, words_for, times, IsOnce}

pub bit_tells : (n i : ℕ) → (bit_at n i ≡ 0) ⊎ (bit_at n i ≡ 1)
bit_tells n i = two _ (bit_at-lt n i)
  where
    two : (b : ℕ) → b < 2 → (b ≡ 0) ⊎ (b ≡ 1)
    two zero lt = inl refl
    two (suc zero) lt = inr refl
    two (suc (suc b)) lt = absurd (omega arith)

-- the test of a bit by its mask
masked : (n b : ℕ) → bit_and n (mask_of b) ≡ bit_at n (b % 64) * 2 ^ (b % 64)
masked n b = ap (bit_and n) (one_shifted (b % 64) 18446744073709551615 refl (omega arith)).0 ∙ and_pow n (b % 64)

pub clear_from : (n b : ℕ) → bit_and n (mask_of b) ≡ 0 → bit_at n (b % 64) ≡ 0
clear_from n b none = ⊎_elim
    (λ (clear : bit_at n (b % 64) ≡ 0). clear)
    (λ (set : bit_at n (b % 64) ≡ 1). absurd (some (2 ^ (b % 64)) (pow_pos (b % 64)) (ap (λ t. t * 2 ^ (b % 64)) (sym set) ∙ sym (masked n b) ∙ none)))
    (bit_tells n (b % 64))
  where
    some : (p : ℕ) → 0 < p → 1 * p ≡ 0 → ⊥
    some p pos e = omega arith

pub set_from : (n b : ℕ) → bit_and n (mask_of b) ≢ 0 → bit_at n (b % 64) ≡ 1
set_from n b any = ⊎_elim
    (λ (clear : bit_at n (b % 64) ≡ 0). absurd (any (masked n b ∙ ap (λ t. t * 2 ^ (b % 64)) clear ∙ none (2 ^ (b % 64)))))
    (λ (set : bit_at n (b % 64) ≡ 1). set)
    (bit_tells n (b % 64))
  where
    none : (p : ℕ) → 0 * p ≡ 0
    none p = omega arith

-- a mask has one bit
pub same_bit : (x b : ℕ) → x / 64 ≡ b / 64 → mask_of x ≡ mask_of b → x ≡ b
same_bit x b word mask = dite (ℕ_discrete (x % 64) (b % 64))
    (λ (e : x % 64 ≡ b % 64). omega arith)
    (λ (other : x % 64 ≢ b % 64).
    let set : bit_at (bit_or 0 (mask_of x)) (x % 64) ≡ 1 = bit_at_set_same w64 0 (x % 64) (omega arith) in
    let clear : bit_at (bit_or 0 (mask_of b)) (x % 64) ≡ bit_at 0 (x % 64) = bit_at_set_other w64 0 (b % 64) (omega arith) (x % 64) other in
    absurd (differ _ (sym set ∙ ap (λ m. bit_at (bit_or 0 m) (x % 64)) mask ∙ clear) (bit_at-zero (x % 64))))
  where
    differ : (n : ℕ) → 1 ≡ n → n ≡ 0 → ⊥
    differ n e f = omega arith

abbrev pub with_bit : List ℕ → ℕ → List ℕ
with_bit words b = set words (b / 64) (bit_or (slice_index words (b / 64)) (mask_of b))

pub bit_set : (words : List ℕ) (b : ℕ) → b / 64 < length words → bit_of (with_bit words b) b ≡ 1
bit_set words b h =
    ap (λ n. bit_at n (b % 64)) (get_or-set_same words (b / 64) (bit_or (slice_index words (b / 64)) (mask_of b)) 0 h)
    ∙ bit_at_set_same w64 (slice_index words (b / 64)) (b % 64) (omega arith)

pub bit_kept : (words : List ℕ) (b x : ℕ) → b / 64 < length words → x ≢ b → bit_of (with_bit words b) x ≡ bit_of words x
bit_kept words b x h other = dite (ℕ_discrete (x / 64) (b / 64))
    (λ (same : x / 64 ≡ b / 64).
    let apart : x % 64 ≢ b % 64 = λ e. other (omega arith) in
    ap (λ i. bit_at (get_or (with_bit words b) i 0) (x % 64)) same
    ∙ ap (λ n. bit_at n (x % 64)) (get_or-set_same words (b / 64) (bit_or (slice_index words (b / 64)) (mask_of b)) 0 h)
    ∙ bit_at_set_other w64 (slice_index words (b / 64)) (b % 64) (omega arith) (x % 64) apart
    ∙ ap (λ i. bit_at (get_or words i 0) (x % 64)) (sym same))
    (λ (apart : x / 64 ≢ b / 64). ap (λ n. bit_at n (x % 64)) (get_or-set_other words (b / 64) (x / 64) (bit_or (slice_index words (b / 64)) (mask_of b)) 0 apart))

-- a bit that is set stays so
pub bit_stays : (words : List ℕ) (b x : ℕ) → b / 64 < length words → bit_of words x ≡ 1 → bit_of (with_bit words b) x ≡ 1
bit_stays words b x h set = dite (ℕ_discrete x b)
    (λ (is : x ≡ b). ap (bit_of (with_bit words b)) is ∙ bit_set words b h)
    (λ (other : x ≢ b). bit_kept words b x h other ∙ set)

-- the bit was 0: one more is set
pub one_more : (words : List ℕ) (b x : ℕ) → b / 64 < length words → bit_of words b ≡ 0 → bit_of (with_bit words b) x ≡ bit_of words x + cond (eqb b x) 1 0
one_more words b x h clear = dite (ℕ_discrete b x)
    (λ (is : b ≡ x).
    let set : bit_of (with_bit words b) x ≡ 1 = ap (bit_of (with_bit words b)) (sym is) ∙ bit_set words b h in
    let was : bit_of words x ≡ 0 = ap (bit_of words) (sym is) ∙ clear in
    set ∙ sym (ap (λ n. n + cond (eqb b x) 1 0) was ∙ ap (λ t. 0 + cond t 1 0) (eq-eqb b x is)))
    (λ (other : b ≢ x). bit_kept words b x h (λ e. other (sym e)) ∙ sym (ap (λ t. bit_of words x + cond t 1 0) (ne_eqb b x other) ∙ add-zero (bit_of words x)))

-- the bit was 1: no more are set
pub none_more : (words : List ℕ) (b x : ℕ) → b / 64 < length words → bit_of words b ≡ 1 → bit_of (with_bit words b) x ≡ bit_of words x
none_more words b x h set = dite (ℕ_discrete x b)
    (λ (is : x ≡ b). ap (bit_of (with_bit words b)) is ∙ bit_set words b h ∙ sym (ap (bit_of words) is ∙ set))
    (λ (other : x ≢ b). bit_kept words b x h other)

zeros : (count i : ℕ) → get_or {A = ℕ} (replicate count 0) i 0 ≡ 0
zeros zero i = refl
zeros (suc count) zero = refl
zeros (suc count) (suc i) = zeros count i

pub bit_of-zeros : (count b : ℕ) → bit_of (replicate count 0) b ≡ 0
bit_of-zeros count b = ap (λ n. bit_at n (b % 64)) (zeros count (b / 64)) ∙ bit_at-zero (b % 64)

-- a bit of the claims has a word
pub has_word : (bits b : ℕ) → b < bits → b / 64 < words_for bits
has_word bits b lt = below _ _ (omega arith) (le-max_left ((bits + 63) / 64) 1)
  where
    below : {m : ℕ} (n k : ℕ) → n < k → k ≤ m → n < m
    below n k lt le = omega arith

pub times-push : (x b : ℕ) (bits : List ℕ) → times x (bits ++ b ∷ []) ≡ times x bits + cond (eqb b x) 1 0
times-push x b bits = sum_by_push (λ y. cond (eqb y x) 1 0) bits b

pub times-append : (x : ℕ) (bits more : List ℕ) → times x (bits ++ more) ≡ times x bits + times x more
times-append x bits more = sum_by-append (λ y. cond (eqb y x) 1 0) bits more

-- what holds of each bit of a list holds of one that stands there
pub holds_of : (P : ℕ → Type 0) (b : ℕ) (bits : List ℕ) → All P bits → 0 < times b bits → P b
holds_of P b [] all some = absurd (omega arith)
holds_of P b (x ∷ xs) all some = dite (ℕ_discrete x b)
    (λ (is : x ≡ b). subst P is (All-head P x xs all))
    (λ (other : x ≢ b). holds_of P b xs (All-tail P x xs all) (later _ _ _ (sum_by-cons (λ y. cond (eqb y b) 1 0) x xs) (ap (λ t. cond t 1 0) (ne_eqb x b other)) some))
  where
    later : (s a b : ℕ) → s ≡ a + b → a ≡ 0 → 0 < s → 0 < b
    later s a b e none some = omega arith
