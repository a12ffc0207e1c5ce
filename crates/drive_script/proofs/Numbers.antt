-- Numbers and addresses, as they are read.
use Rattle.std.proofs.Common.{◌≡◌, ℕ, ◌+◌, ◌*◌, ◌%◌, ◌^◌, ◌<◌, ◌==◌, ◌&&◌, Bool, true, false, not, if◌then◌else◌, nat_lt, List, [], ◌∷◌, length}
use Rattle.std.proofs.Common.{Option, Some, None, Result, Ok, Err, refl, sym, ap, ap₂, eq-eqb, ◌∙◌, arith, rules}
use borrow.Author.Tests.{ltb-true}
use Rattle.std.proofs.lemmas.Bool.{and_parts, eqb-true}
use Rattle.std.proofs.lemmas.Bool.Decides.{nat_tests}
use Rattle.std.proofs.lemmas.Fmt.{IsAscii-from_digits}
use Rattle.std.proofs.lemmas.Str.{IsUtf8-from_ascii}
use Rattle.std.proofs.lemmas.Str.Parse.{IsNumeralModel, numerals_by_value, parse_digits}
use Rattle.std.specs.Char.{digit_value, is_ascii_digit, is_ascii_hexdigit}
use Rattle.std.specs.Int.{from_be_bytes, w32}
use Rattle.std.specs.List.{list_all}
use Rattle.std.specs.Prelude.{IsOk}
use Rattle.std.specs.Str.{IsUtf8}
use Rattle.std.specs.Str.Parse.{ParsesUnsigned, digits_value, digits_value_after}
use Rattle.std.specs.Result.{OkIff, result_ok}
use Rattle.std.proofs.lemmas.List.Sums.{AllPass-from_list_all, list_all-from_AllPass}
use Rattle.hex.proofs.HexLemmas.{IsOk-decode_sized, decode_sized-ok, decode_sized-twice, decode_of-even, decode_of-ok}
use Rattle.hex.specs.Hex.{decode_pairs, decode_sized, digit_or_error, hex_digit_value, is_hex_digit, pair_value, ◌>>=◌}
use Rattle.hex.specs.declared.error.FromHexError.{FromHexError}
use Rattle.drive_script.specs.Script.{address_of, has_leading_zero, is_decimal, number_of}

abbrev pub are_digits : List ℕ → Type 0
are_digits text = list_all is_ascii_digit text ≡ true

pub digits : IsNumeralModel are_digits (digits_value 10)
digits = numerals_by_value are_digits (search rules)

pub digits-utf8 : (text : List ℕ) → are_digits text → IsUtf8 text
digits-utf8 text h = IsUtf8-from_ascii text (IsAscii-from_digits text (digits.to text h))

-- what the parts of `is_decimal` say
pub decimal-digits : (text : List ℕ) → is_decimal text ≡ true → are_digits text
decimal-digits text h = (and_parts (not (has_leading_zero text)) _ (and_parts (nat_lt 0 (length text)) _ h).1).1

pub decimal-long : (text : List ℕ) → is_decimal text ≡ true → 0 < length text
decimal-long text h = ltb-true 0 (length text) (and_parts (nat_lt 0 (length text)) _ h).0

long-text : (text : List ℕ) → (length text == 0) ≡ false → nat_lt 0 (length text) ≡ true
long-text text some = grind (arith, nat_tests)

-- a text that is not empty and has no leading zero
pub decimal-rest : (text : List ℕ) → (length text == 0) ≡ false → has_leading_zero text ≡ false → list_all is_ascii_digit text ≡ is_decimal text
decimal-rest text some zero = sym (ap₂ (λ a b. a && (not b && list_all is_ascii_digit text)) (long-text text some) zero)

-- decimal digits are text
pub decimal-utf8 : (text : List ℕ) → is_decimal text ≡ true → IsUtf8 text
decimal-utf8 text h = IsUtf8-from_ascii text (IsAscii-from_digits text (digits.to text (decimal-digits text h)))

read-by : {E : Type 0} (text : List ℕ) (r : Result ℕ E) → OkIff r ((0 < length text) × (digits_value 10 text < 2 ^ 32)) (digits_value 10 text)
    → 0 < length text → result_ok r ≡ (if nat_lt (digits_value 10 text) (2 ^ 32) then Some (digits_value 10 text) else None)
read-by text (Ok n) h long = grind (arith, nat_tests)
read-by text (Err e) h long = grind (arith, nat_tests)

-- decimal digits are read as their number, and the number is too large for another answer
pub number-read : {E : Type 0} (text : List ℕ) (r : Result ℕ E) → is_decimal text ≡ true → ParsesUnsigned 32 10 text r
    → result_ok r ≡ number_of text
number-read text r decimal h =
    read-by text r (parse_digits digits 32 text r h (decimal-digits text decimal)) (decimal-long text decimal)
    ∙ ap (λ b. if b && nat_lt (digits_value 10 text) (2 ^ 32) then Some (digits_value 10 text) else None) (sym decimal)

-- ---- addresses

-- a digit has one value, in the words of both
pub same-digit : (c : ℕ) → is_ascii_hexdigit c ≡ is_hex_digit c
same-digit c = grind (arith, nat_tests)

pub digit-worth : (c v : ℕ) → hex_digit_value c ≡ Some v → digit_value c ≡ v
digit-worth c v h = grind (arith, nat_tests)

same-digits : (text : List ℕ) → list_all is_ascii_hexdigit text ≡ list_all is_hex_digit text
same-digits [] = refl
same-digits (c ∷ rest) = ap₂ ◌&&◌ (same-digit c) (same-digits rest)

-- the number of some bytes behind others
abbrev bytes_after : ℕ → List ℕ → ℕ
bytes_after n [] = n
bytes_after n (byte ∷ rest) = bytes_after (n * 256 + byte) rest

abbrev pair_by : ℕ → ℕ → ℕ → Option ℕ → Option ℕ → Result ℕ FromHexError
pair_by high low i o p = do
  h ← digit_or_error high i o
  l ← digit_or_error low (i + 1) p
  Ok (h * 16 + l)

pair-digits : (high low i : ℕ) (o p : Option ℕ) (byte : ℕ) → pair_by high low i o p ≡ Ok byte
    → (h : ℕ) × (l : ℕ) × (o ≡ Some h) × (p ≡ Some l) × (byte ≡ h * 16 + l)
pair-digits high low i None p byte h = cc h
pair-digits high low i (Some a) None byte h = cc h
pair-digits high low i (Some a) (Some b) byte h = (a, b, refl, refl, cc h)

rest-bytes : (pair : Result ℕ FromHexError) (rest : Result (List ℕ) FromHexError) (bytes : List ℕ)
    → (pair >>= (λ byte. rest >>= (λ others. Ok (byte ∷ others)))) ≡ Ok bytes
    → (byte : ℕ) × (others : List ℕ) × (pair ≡ Ok byte) × (rest ≡ Ok others) × (bytes ≡ byte ∷ others)
rest-bytes (Err e) rest bytes h = cc h
rest-bytes (Ok byte) (Err e) bytes h = cc h
rest-bytes (Ok byte) (Ok others) bytes h = (byte, others, refl, refl, cc h)

-- pairs of digits have the number of their bytes
pairs-number : (i n : ℕ) (text bytes : List ℕ) → decode_pairs i text ≡ Ok bytes → digits_value_after 16 n text ≡ bytes_after n bytes
unfolding decode_pairs
pairs-number i n [] bytes h = let none : [] ≡ bytes = cc h in ap (bytes_after n) none
pairs-number i n (digit ∷ []) bytes h = cc h
pairs-number i n (high ∷ (low ∷ rest)) bytes h =
    let parts = rest-bytes (pair_value high low i) (decode_pairs (i + 2) rest) bytes h in
    let pair = pair-digits high low i (hex_digit_value high) (hex_digit_value low) parts.0 parts.2 in
    let a = digit-worth high pair.0 pair.2 in
    let b = digit-worth low pair.1 pair.3 in
    let worth : (n * 16 + digit_value high) * 16 + digit_value low ≡ n * 256 + parts.0 = omega (arith, a, b, pair.4) in
    ap (λ m. digits_value_after 16 m rest) worth ∙ pairs-number (i + 2) (n * 256 + parts.0) rest parts.1 parts.3 ∙ ap (bytes_after n) (sym parts.4)

four-bytes : (bytes : List ℕ) → length bytes ≡ 4 → bytes_after 0 bytes ≡ from_be_bytes w32 bytes
four-bytes [] h = absurd (omega arith)
four-bytes (a ∷ []) h = absurd (omega arith)
four-bytes (a ∷ (b ∷ [])) h = absurd (omega arith)
four-bytes (a ∷ (b ∷ (c ∷ []))) h = absurd (omega arith)
four-bytes (a ∷ (b ∷ (c ∷ (d ∷ [])))) h = omega arith
four-bytes (a ∷ (b ∷ (c ∷ (d ∷ (e ∷ rest))))) h = absurd (omega arith)

eight-digits : (text : List ℕ) → IsOk (decode_sized text 4) → (length text == 8 && list_all is_ascii_hexdigit text) ≡ true
eight-digits text ok =
    let sized = (IsOk-decode_sized text 4).0 ok in
    ap₂ ◌&&◌ (eq-eqb (length text) 8 sized.0) (same-digits text ∙ list_all-from_AllPass is_hex_digit text sized.1)

pub address-read : (text bytes : List ℕ) → decode_sized text 4 ≡ Ok bytes → Some (from_be_bytes w32 bytes) ≡ address_of text
address-read text bytes h =
    let ok : IsOk (decode_sized text 4) = rw h refl in
    let sized = decode_sized-ok text 4 bytes h in
    let decoded = sym (decode_sized-twice text 4 sized) ∙ h in
    let as_many = (decode_of-ok text bytes decoded).2 in
    let even : length text % 2 ≡ 0 = omega (arith, sized) in
    let worth = pairs-number 0 0 text bytes (sym (decode_of-even text even) ∙ decoded) ∙ four-bytes bytes (omega (arith, sized, as_many)) in
    ap Some (sym worth) ∙ sym (ap (λ b. if b then Some (digits_value 16 text) else None) (eight-digits text ok))

none-unless : (b : Bool) (n : ℕ) → (b ≡ true → ⊥) → None ≡ (if b then Some n else None)
none-unless true n h = absurd (h refl)
none-unless false n h = refl

not-ok : (r : Result (List ℕ) FromHexError) (e : FromHexError) → r ≡ Err e → IsOk r → ⊥
not-ok (Ok bytes) e h ok = cc h
not-ok (Err f) e h ok = cc ok

pub address-refused : (text : List ℕ) (e : FromHexError) → decode_sized text 4 ≡ Err e → None ≡ address_of text
address-refused text e h =
    none-unless (length text == 8 && list_all is_ascii_hexdigit text) (digits_value 16 text) (λ all.
    let parts = and_parts (length text == 8) (list_all is_ascii_hexdigit text) all in
    not-ok (decode_sized text 4) e h ((IsOk-decode_sized text 4).1
    (eqb-true (length text) 8 parts.0, AllPass-from_list_all is_hex_digit text (sym (same-digits text) ∙ parts.1))))
