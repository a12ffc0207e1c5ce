-- Words in hexadecimal are read as they are written.
use Rattle.std.proofs.Common.{◌≡◌, ℕ, zero, suc, ◌+◌, ◌/◌, ◌%◌, ◌^◌, ◌<◌, ◌==◌, ◌&&◌, ◌||◌, not, nat_lt, inl, inr, Bool, true, false, if◌then◌else◌}
use Rattle.std.proofs.Common.{refl, sym, ap, ap₂, ◌∙◌, arith, List, [], ◌∷◌, ◌++◌, length, take, get_or, map, codes, Some, None, eq-eqb, is_some}
use Rattle.std.proofs.Common.{length-append}
use borrow.Author.Tests.{ltb-true}
use Rattle.std.proofs.Math.Nat.{pow-suc}
use Rattle.std.proofs.lemmas.Bool.{and_parts, cases_lt, eqb-true}
use Rattle.std.proofs.lemmas.Bool.Decides.{nat_tests}
use Rattle.std.proofs.lemmas.Int.Digits.{digits_value_push}
use Rattle.std.proofs.lemmas.List.{length-take, map_push, take_more, take_all}
use Rattle.std.proofs.lemmas.List.Elements.{All-append, All-cons, All-nil}
use Rattle.std.proofs.lemmas.List.Folds.{list_all-append}
use Rattle.std.specs.Char.{digit_value, is_ascii_hexdigit, to_ascii_lowercase}
use Rattle.std.specs.List.{All, list_all, slice_index}
use Rattle.std.specs.Str.Parse.{digits_value}
use Rattle.hex.proofs.HexLemmas.{IsDigits-lower_digits}
use Rattle.drive_script.specs.Script.{address_of}
use Rattle.drive_script.specs.Told.{hexadecimal, word_text}
use Rattle.drive_script.proofs.WrittenNames.{if-some}
use Rattle.drive_script.proofs.Numbers.{digit-worth, same-digit}

-- ---- digits

-- the digit of a number below 16
abbrev pub digit_of : ℕ → ℕ
digit_of n = slice_index (codes "0123456789abcdef") n

digit-worth-of : (n : ℕ) → n < 16 → digit_value (digit_of n) ≡ n
digit-worth-of n small = digit-worth (digit_of n) n (IsDigits-lower_digits n small)

digit-is-hex : (n : ℕ) → n < 16 → is_ascii_hexdigit (digit_of n) ≡ true
digit-is-hex n small = same-digit (digit_of n) ∙ ap is_some (IsDigits-lower_digits n small)

digit-above : (c : ℕ) → is_ascii_hexdigit c ≡ true → 47 < c
digit-above c h = grind (arith, nat_tests)

-- a test that all numbers below one pass
abbrev pub all_pass : (ℕ → Bool) → ℕ → Bool
all_pass test zero = true
all_pass test (suc n) = test n && all_pass test n

pub all_pass-at : (test : ℕ → Bool) (n k : ℕ) → all_pass test n ≡ true → k < n → test k ≡ true
all_pass-at test zero k h below = absurd (omega arith)
all_pass-at test (suc n) k h below =
    let parts = and_parts (test n) (all_pass test n) h in
    elim (cases_lt k n) [
      | inl under ↦ all_pass-at test n k parts.1 under
      | inr past ↦ (let last : k ≡ n = omega arith in ap test last ∙ parts.0)
    ]

abbrev is_lowered : ℕ → Bool
is_lowered c = not (is_ascii_hexdigit c) || (nat_lt (digit_value c) 16 && to_ascii_lowercase c == digit_of (digit_value c))

so-is : (a b : Bool) → not a || b ≡ true → a ≡ true → b ≡ true
so-is true b h k = h
so-is false b h k = cc k

digit-below : (c : ℕ) → is_ascii_hexdigit c ≡ true → c < 103
digit-below c h = grind (arith, nat_tests)

-- a digit of either case is the digit of its value, but for the case
lower-digit : (c : ℕ) → is_ascii_hexdigit c ≡ true → (digit_value c < 16) × (to_ascii_lowercase c ≡ digit_of (digit_value c))
lower-digit c h =
    let passed = so-is (is_ascii_hexdigit c) _ (all_pass-at is_lowered 103 c refl (digit-below c h)) h in
    let parts = and_parts (nat_lt (digit_value c) 16) (to_ascii_lowercase c == digit_of (digit_value c)) passed in
    (ltb-true (digit_value c) 16 parts.0, eqb-true (to_ascii_lowercase c) (digit_of (digit_value c)) parts.1)

-- ---- words

pub length-hexadecimal : (k n : ℕ) → length (hexadecimal k n) ≡ k
unfolding hexadecimal
length-hexadecimal zero n = refl
length-hexadecimal (suc k) n =
    let front = length-hexadecimal k (n / 16) in
    let both = length-append (hexadecimal k (n / 16)) (digit_of (n % 16) ∷ []) in
    omega (arith, front, both)

hexadecimal-digits : (k n : ℕ) → list_all is_ascii_hexdigit (hexadecimal k n) ≡ true
unfolding hexadecimal
hexadecimal-digits zero n = refl
hexadecimal-digits (suc k) n =
    list_all-append is_ascii_hexdigit (hexadecimal k (n / 16)) (digit_of (n % 16) ∷ [])
    ∙ ap₂ ◌&&◌ (hexadecimal-digits k (n / 16)) (ap (λ b. b && true) (digit-is-hex (n % 16) (omega arith)))

hexadecimal-worth : (k n : ℕ) → n < 16 ^ k → digits_value 16 (hexadecimal k n) ≡ n
unfolding hexadecimal
hexadecimal-worth zero n small = omega arith
hexadecimal-worth (suc k) n small =
    let whole = pow-suc 16 k in
    let front = hexadecimal-worth k (n / 16) (omega (arith, whole, small)) in
    let last = digit-worth-of (n % 16) (omega arith) in
    let both = digits_value_push 16 (hexadecimal k (n / 16)) (digit_of (n % 16)) in
    omega (arith, front, last, both)

pub word-written : (n : ℕ) → n < 2 ^ 32 → address_of (word_text n) ≡ Some n
word-written n small =
    ap (λ b. if b then Some (digits_value 16 (word_text n)) else None)
    (ap₂ ◌&&◌ (eq-eqb (length (word_text n)) 8 (length-hexadecimal 8 n)) (hexadecimal-digits 8 n))
    ∙ ap Some (hexadecimal-worth 8 n (omega arith))

hexadecimal-above : (k n : ℕ) → All (λ x. 47 < x) (hexadecimal k n)
unfolding hexadecimal
hexadecimal-above zero n = All-nil (λ x. 47 < x)
hexadecimal-above (suc k) n =
    All-append (λ x. 47 < x) (hexadecimal k (n / 16)) (digit_of (n % 16) ∷ []) (hexadecimal-above k (n / 16))
    (All-cons (λ x. 47 < x) (digit_of (n % 16)) [] (digit-above (digit_of (n % 16)) (digit-is-hex (n % 16) (omega arith))) (All-nil (λ x. 47 < x)))

pub word-above : (n : ℕ) → All (λ x. 47 < x) (word_text n)
word-above n = hexadecimal-above 8 n

-- the last of some digits
last-digit : (text : List ℕ) (k : ℕ) → length text ≡ suc k → text ≡ take k text ++ get_or text k 0 ∷ []
last-digit text k h =
    let more : k + 1 ≡ suc k = omega arith in
    sym (take_all (suc k) text (omega (arith, h))) ∙ ap (λ n. take n text) (sym more) ∙ take_more text k 0 (omega (arith, h))

lower-by : (k : ℕ) (text : List ℕ) → length text ≡ k → list_all is_ascii_hexdigit text ≡ true
    → (map to_ascii_lowercase text ≡ hexadecimal k (digits_value 16 text)) × (digits_value 16 text < 16 ^ k)
unfolding hexadecimal
lower-by zero [] h all = (refl, omega arith)
lower-by zero (c ∷ rest) h all = absurd (omega arith)
lower-by (suc k) text h all =
    let front = take k text in
    let c = get_or text k 0 in
    let split = last-digit text k h in
    let passed = and_parts (list_all is_ascii_hexdigit front) (is_ascii_hexdigit c && true) (sym (ap (list_all is_ascii_hexdigit) split ∙ list_all-append is_ascii_hexdigit front (c ∷ [])) ∙ all) in
    let before = lower-by k front (omega (arith, h, length-take k text)) passed.0 in
    let digit = lower-digit c (and_parts (is_ascii_hexdigit c) true passed.1).0 in
    let worth = ap (digits_value 16) split ∙ digits_value_push 16 front c in
    let quotient : digits_value 16 text / 16 ≡ digits_value 16 front = omega (arith, worth, digit.0) in
    let rest : digits_value 16 text % 16 ≡ digit_value c = omega (arith, worth, digit.0) in
    let most = pow-suc 16 k in (
      ap (map to_ascii_lowercase) split ∙ map_push to_ascii_lowercase front c
          ∙ ap₂ (λ xs x. xs ++ x ∷ []) (before.0 ∙ ap (hexadecimal k) (sym quotient)) (digit.1 ∙ ap digit_of (sym rest)),
      omega (arith, worth, digit.0, before.1, most),
    )

pub word-spelled : (text : List ℕ) (n : ℕ) → address_of text ≡ Some n → (map to_ascii_lowercase text ≡ word_text n) × (n < 2 ^ 32)
word-spelled text n h =
    let read = if-some (length text == 8 && list_all is_ascii_hexdigit text) (digits_value 16 text) n h in
    let parts = and_parts (length text == 8) (list_all is_ascii_hexdigit text) read.0 in
    let lower = lower-by 8 text (eqb-true (length text) 8 parts.0) parts.1 in
    (lower.0 ∙ ap word_text read.1, omega (arith, lower.1, read.1))
